-- How long a number of bytes takes, one stream in part B. 02, S-14.
use Rattle.std.specs.Prelude.{ℕ, ◌+◌, ◌-◌, ◌*◌, ◌/◌, cond, not, ◌||◌, List, [], ◌∷◌, length, eqb, ltb}
use Rattle.partlengths.specs.Formulas.{hierarchical, round_up}
use Rattle.settings.specs.declared.Settings.{Settings}
use Rattle.settings.specs.Refusal.{first, refusal}
use Rattle.settings.specs.Lengths.{n_mux, l2}
use Rattle.settings.specs.Sizes.{depth}

-- Each frame but the last in use carries as many whole bytes as its L2 bits hold.
unfoldable pub whole_bytes : ℕ → ℕ
whole_bytes l2 = l2 / 8

-- The frames in use for n bytes.
unfoldable pub frames_for : ℕ → ℕ → ℕ
frames_for l2 n = round_up n (whole_bytes l2)

-- The super frames needed, three frames each, and the two of the closing.
unfoldable pub super_frames : ℕ → ℕ → ℕ
super_frames l2 n = round_up (frames_for l2 n) 3 + 2

-- The bytes of memory: D slots of N_MUX cells, a byte for each cell (S-7).
unfoldable pub memory_bytes : Settings → ℕ
memory_bytes s = depth s * n_mux s

-- The zero bits after the last byte in its frame, 0 where there are no bytes.
unfoldable pub zero_bits : ℕ → ℕ → ℕ
zero_bits l2 n = cond (eqb n 0) 0 (l2 - 8 * (n - (frames_for l2 n - 1) * whole_bytes l2))

-- The three numbers.
unfoldable pub numbers_for : Settings → ℕ → List ℕ
numbers_for s n = super_frames (l2 s) n ∷ memory_bytes s ∷ zero_bits (l2 s) n ∷ []

-- All that the call yields: its answer, and the lent numbers as it leaves them.
pub record HowLongYield : Type 0 where
  pub answer : ℕ
  pub numbers : List ℕ

abbrev pub how_long_yield : ℕ → List ℕ → HowLongYield
how_long_yield answer numbers = record { answer = answer; numbers = numbers }

-- The lowest number that applies, 0 for acceptance: 1 to 7 of the settings; 10 unless three numbers are lent; 27 part A or VSPP in use.
unfoldable pub how_long_refusal : Settings → ℕ → ℕ
how_long_refusal s numbers =
    first (ltb 0 (refusal s)) (refusal s)
    (first (not (eqb numbers 3)) 10
    (first (ltb 0 s.x || hierarchical s.msc) 27 0))

-- What the call yields, for every input. A refusal leaves the numbers as they were.
unfoldable pub how_long_of : Settings → ℕ → List ℕ → HowLongYield
how_long_of s n numbers =
    let refused = how_long_refusal s (length numbers) in
    cond (eqb refused 0) (how_long_yield 0 (numbers_for s n)) (how_long_yield refused numbers)
