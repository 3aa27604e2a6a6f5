-- A state stored in its bytes, and read from them.
use Prim.Native.Nat.{ℕ, ◌-◌}
use mathlib.Core.Path.{◌≡◌, ap, ap₂, ◌∙◌}
use mathlib.Core.List.{List, ◌++◌, append-nil}
use native.Mathlib.Omega.{arith}
use lib.ListN.{length, get_or, take, drop, length-append, length-drop}
use lib.Seq.{take_at, take_all, length-take-le, drop-length}
use borrow.Rule.Slice.PartMut.{put_mid, post_of, Post-is}
use Rattle.settings.specs.declared.Settings.{Settings}
use Rattle.channels.specs.declared.Scheme.{Scheme}
use Rattle.channels.specs.Scheme.{scheme_of}
use Rattle.superframe.specs.declared.State.{State}
use Rattle.statebytes.specs.Bytes.{settings_of, settings_bytes, state_of, front_bytes, state_bytes}

-- The table after the twelve bytes before it.
module _ (state : State) (bytes front : List ℕ) (h : length bytes ≡ 208) (e : front ≡ front_bytes state) where
  abbrev after : List ℕ
  after = front ++ post_of 0 12 bytes

  front_long : length front ≡ 12
  unfolding front_bytes settings_bytes
  front_long = ap length e

  after_long : length after ≡ 208
  after_long =
      let l : length (post_of 0 12 bytes) ≡ 196 = ap length (Post-is 0 12 bytes (omega arith)) ∙ length-drop 12 bytes ∙ omega arith in
      length-append front (post_of 0 12 bytes) ∙ omega (arith, front_long, l)

  pub rest_long : length (take (length after - 12) (drop 12 after)) ≡ 196
  rest_long = length-take-le (length after - 12) (drop 12 after) (rw length-drop (omega arith)) ∙ omega (arith, after_long)

  pub state-stored : (table : List ℕ) → table ≡ state.scheme.table → put_mid 12 (length after - 12) after table ≡ state_bytes state
  unfolding state_bytes
  state-stored table f =
      ap₂ (λ (x y : List ℕ). x ++ (table ++ y)) (take_at front (post_of 0 12 bytes) 12 front_long ∙ e)
      (Post-is 12 (length after) after (omega (arith, after_long)) ∙ drop-length after)
      ∙ rw (append-nil table, f)

-- A state from its bytes.
pub state-read : (bytes : List ℕ) (s : Settings) (t : Scheme) → s ≡ settings_of bytes → t ≡ scheme_of s (take (length bytes - 12) (drop 12 bytes))
    → record { scheme = t; position = get_or bytes 10 0; count = get_or bytes 11 0 } ≡ state_of bytes
unfolding state_of
state-read bytes s t e f = rw (f, e, take_all (length bytes - 12) (drop 12 bytes) (rw length-drop (omega arith)))
