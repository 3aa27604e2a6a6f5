-- What the functions of this crate require and promise: nothing of 01 is stated here.
use Rattle.std.specs.Prelude.{◌≡◌, true, List, ℕ}
use Rattle.lists.specs.Bools.{every}
use Rattle.superframe.specs.declared.State.{State}
use Rattle.superframe.specs.Read.{ReadCall, point_tests, order_refusal}

-- A call that no number from 1 to 13 refuses.
pub record ReadPasses (state : State) (memory : List ℕ) (c : ReadCall) : Type 0 where
  pub order : order_refusal state memory c ≡ 0
  pub points : every (point_tests state.scheme state.count c) ≡ true
