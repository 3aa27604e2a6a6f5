-- `calls::sizes` meets its contract. Assumes nothing.
use Prim.Native.Nat.{ℕ}
use mathlib.Core.Path.{◌≡◌, sym, ap, ap₂, ◌∙◌}
use native.Mathlib.Omega.{arith}
use Rattle.grid.proofs.Accepts.{pairing_of, grid_found, Small, small}
use Rattle.kinds.specs.Carriers.{frame_symbols, carriers}
use Rattle.kinds.specs.declared.pairings.Pairing.{Pairing}
use Rattle.kinds.specs.Numbered.{mode_of, occupancy_of, Paired}
use Rattle.kinds.proofs.Bands.{band}
use Rattle.grid.proofs.calls.sizes.Goals as goal

pub numbered-pairing-requires : goal.numbered-pairing-requires
numbered-pairing-requires c = let p = pairing_of _ (sym c.in_ok-check.ensures) in (p.mode_low, p.occupancy_low)

-- Symbols and carriers of the numbers that settings have.
module _ {m o : ℕ} {p : Pairing} (e : Paired m o p) where
  symbols_are : {t : ℕ} → t ≡ frame_symbols (mode_of p) → t ≡ frame_symbols m
  symbols_are h = h ∙ ap frame_symbols e.mode_is

  carriers_are : {n : ℕ} → n ≡ carriers (mode_of p) (occupancy_of p) → n ≡ carriers m o
  carriers_are h = h ∙ ap₂ carriers e.mode_is e.occupancy_is

pub overflow_mul-symbols : goal.overflow_mul-symbols
overflow_mul-symbols c =
    let p = pairing_of _ (sym c.in_ok-check.ensures) in
    omega (arith, (band _ _ p).most, symbols_are c.numbered-pairing.ensures c.frame_symbols-symbols.ensures)

pub returns : goal.returns
returns c =
    let b = c in
    grid_found _ _ _ (sym c.in_ok-check.ensures) (symbols_are c.numbered-pairing.ensures c.frame_symbols-symbols.ensures) (carriers_are c.numbered-pairing.ensures c.carriers-carriers.ensures)

here : (c : goal.After-carriers-carriers) → Small c.frame_symbols-symbols.result c.carriers-carriers.result
here c =
    let b = c in
    small _ _ _ _ (pairing_of _ (sym c.in_ok-check.ensures)) (symbols_are c.numbered-pairing.ensures c.frame_symbols-symbols.ensures) (carriers_are c.numbered-pairing.ensures c.carriers-carriers.ensures)

pub overflow_cast-result : goal.overflow_cast-result
overflow_cast-result c = let h = here c in omega arith

pub overflow_cast-result-2 : goal.overflow_cast-result-2
overflow_cast-result-2 c = let h = here c in omega arith

pub overflow_mul-result : goal.overflow_mul-result
overflow_mul-result c = let h = here c in omega arith

pub overflow_mul-result-2 : goal.overflow_mul-result-2
overflow_mul-result-2 c = let h = here c in omega arith

pub overflow_cast-result-3 : goal.overflow_cast-result-3
overflow_cast-result-3 c = let h = here c in omega arith
