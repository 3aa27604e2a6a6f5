-- The places of the interleaver, for bits and for cells. 01 "Bit interleaving"; 001 clauses 7.3.3 and 7.6.
use Rattle.std.specs.Prelude.{ℕ, zero, suc, ◌+◌, ◌-◌, ◌*◌, ◌/◌, ◌%◌, true, false, List, length, get_or, leb, ltb}
use Rattle.lists.specs.Lists.{table}

-- s doubled until it is not below n, f times at most.
unfoldable pub doubled : ℕ → ℕ → ℕ → ℕ
doubled zero s n = s
doubled (suc f) s n = elim (leb n s) [ true ↦ s | false ↦ doubled f (2 * s) n ]

-- s, the smallest power of two not below n.
unfoldable pub size : ℕ → ℕ
size n = doubled n 1 n

-- q = s / 4 - 1.
unfoldable pub offset : ℕ → ℕ
offset n = size n / 4 - 1

-- (t × P + q) mod s.
unfoldable pub step : ℕ → ℕ → ℕ → ℕ
step t n place = (t * place + offset n) % size n

-- A place is stepped again while it is n or more (f times at most; s is enough).
unfoldable pub again : ℕ → ℕ → ℕ → ℕ → ℕ
again t n zero place = place
again t n (suc f) place = elim (ltb place n) [ true ↦ place | false ↦ again t n f (step t n place) ]

-- The place after a place.
unfoldable pub next_place : ℕ → ℕ → ℕ → ℕ
next_place t n place = again t n (size n) (step t n place)

-- P(i): P(0) = 0.
unfoldable pub place : ℕ → ℕ → ℕ → ℕ
place t n zero = 0
place t n (suc i) = next_place t n (place t n i)

-- Output i is input P(i); z stands for an element past the end, of which there is none.
unfoldable pub interleaved : {A : Type 0} → A → ℕ → List A → List A
interleaved z t v = table (λ i. get_or v (place t (length v) i) z) 0 (length v)
