-- What a run that reads on has lost so far. 02, S-13.
use Rattle.std.specs.Prelude.{ℕ, ◌+◌, min, cond, List, length, get_or, ltb}
use Rattle.endings.specs.declared.Lost.{Lost}

-- Numbers stop at the largest of 64 bits.
unfoldable pub added : ℕ → ℕ → ℕ
added n k = min (n + k) 18446744073709551615

-- With a super frame more: what is written for it begins with seven marks, 1 for lost, three FAC blocks, the SDC block and three frames. Fewer bytes tell nothing.
unfoldable pub lost_after : Lost → List ℕ → Lost
lost_after lost written =
    cond (ltb (length written) 7) lost
    (record {
      fac = added lost.fac (get_or written 0 0 + get_or written 1 0 + get_or written 2 0);
      sdc = added lost.sdc (get_or written 3 0);
      frames = added lost.frames (get_or written 4 0 + get_or written 5 0 + get_or written 6 0);
    })
