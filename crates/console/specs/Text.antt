-- Texts as bytes.
use Rattle.std.specs.Prelude.{ℕ, List}
use Prim.Native.Char.{code}
use Prim.Native.String.{String, len, char_at}
use Rattle.lists.specs.Lists.{table}

-- The bytes of a text.
unfoldable pub bytes_in : String → List ℕ
bytes_in text = table (λ i. code (char_at text i)) 0 (len text)
