-- A refusal in words: its number, and its block. 01 "Operations", and the requests of 02.
use Rattle.std.specs.Prelude.{ℕ, cond, List, [], ◌∷◌, map, get_or, ltb, eqb}
use Prim.Native.String.{String}
use Rattle.console.specs.Text.{bytes_in}

-- What each number from 0 to 27 says, what any other number says, and what a block is.
unfoldable pub texts : List String
texts =
    "accepted"
    ∷ "robustness mode not 0 to 3"
    ∷ "spectrum occupancy not allowed for the robustness mode"
    ∷ "MSC mode not 0 to 3"
    ∷ "protection level A or B not allowed for the MSC mode"
    ∷ "VSPP level not allowed for the MSC mode"
    ∷ "SDC mode or interleaving not 0 or 1"
    ∷ "too many bytes in part A"
    ∷ "memory of the wrong length"
    ∷ "an input of the wrong length"
    ∷ "an output of the wrong length"
    ∷ "a spare bit set"
    ∷ "state or memory out of order"
    ∷ "a cell that is no point of its constellation, or a wrong filler"
    ∷ "a block that no bits give"
    ∷ "a field too large for its bits or against the settings"
    ∷ "a wrong CRC"
    ∷ "a grid of the wrong length"
    ∷ "a hold file that is none of these settings"
    ∷ "parts of streams that do not fit the multiplex frame"
    ∷ "filling that is not zero"
    ∷ "a received value above 2"
    ∷ "a value that is infinite or no number, or a gain below zero"
    ∷ "a puncturing table that fails its test"
    ∷ "a plan or a super frame out of range"
    ∷ "a minute without a rule"
    ∷ "a minute with two rules"
    ∷ "part A or VSPP in use"
    ∷ "unknown"
    ∷ "FAC"
    ∷ "SDC"
    ∷ "multiplex frame"
    ∷ "MSC cells"
    ∷ "fillers"
    ∷ []

-- The bytes of a text by its number.
unfoldable pub words : ℕ → List ℕ
words k = get_or (map bytes_in texts) k []

unfoldable pub refusal_words : ℕ → List ℕ
refusal_words number = words (cond (ltb number 28) number 28)

-- The text of a block: 0 to 2 FAC, 3 SDC, then for 13 the three sent rows of MSC cells and 7 the fillers, for 14 the finished frames.
unfoldable pub block_text : ℕ → ℕ → ℕ
block_text number block = cond (ltb block 3) 29 (cond (eqb block 3) 30 (cond (eqb number 14) 31 (cond (ltb block 7) 32 33)))

unfoldable pub block_words : ℕ → ℕ → List ℕ
block_words number block = words (block_text number block)
