-- Lists of tests: every one holds, and the first that fails.
use Rattle.std.specs.Prelude.{ℕ, suc, Bool, true, cond, ◌&&◌, List, [], ◌∷◌}

-- Every one of a list of tests holds.
unfoldable pub every : List Bool → Bool
every [] = true
every (b ∷ bs) = b && every bs

-- The place of the first test that fails; past the last where every one holds.
unfoldable pub first_fault : List Bool → ℕ
first_fault [] = 0
first_fault (b ∷ bs) = cond b (suc (first_fault bs)) 0
