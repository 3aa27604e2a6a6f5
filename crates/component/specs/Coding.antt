-- What the functions of the component code require and promise: nothing of 01 is stated here.
use Rattle.std.specs.Prelude.{ℕ, ◌+◌, ◌*◌, ◌≤◌, ◌<◌, ◌≡◌, List, length, get_or, drop}
use Rattle.std.specs.Int.Count.{ones}
use Rattle.std.proofs.lemmas.List.Edits.{sets}
use Rattle.component.specs.Bits.{Bits}
use Rattle.component.specs.Register.{after}
use Rattle.component.specs.Codeword.{encode}
use Rattle.patterns.specs.Patterns.{Sound}
use Rattle.component.specs.Decoding.{coded_length, decode}

-- encode requires a sound pattern, a register of seven bits, bits to code, and room for the coded ones.
pub record Encodes (pattern : List ℕ) (register : ℕ) (bits out : List ℕ) (at : ℕ) : Type 0 where
  pub sound : Sound pattern
  pub seven : register < 128
  pub input : Bits bits
  pub room : at + coded_length pattern 0 (length bits) ≤ length out

-- It promises the register and the place behind the segment, and its coded bits at their place, the rest of the buffer as it was.
pub record Encoded (pattern : List ℕ) (register : ℕ) (bits out : List ℕ) (at : ℕ) (register' at' : ℕ) (out' : List ℕ) : Type 0 where
  pub state : register' ≡ after register bits
  pub place : at' ≡ at + length (encode pattern register 0 bits)
  pub written : out' ≡ sets out at (encode pattern register 0 bits)

-- How many bits each column of a pattern keeps.
pub record Widths (pattern widths : List ℕ) : Type 0 where
  pub there : length pattern ≤ length widths
  pub few : length pattern ≤ 8
  pub known : (i : ℕ) → i < length pattern → get_or widths i 0 ≡ ones (get_or pattern i 0)

-- decode requires a sound pattern, a register of seven bits, and all coded bits within the buffer. Those may be any bytes.
pub record Decodes (pattern : List ℕ) (register : ℕ) (coded : List ℕ) (at : ℕ) (out : List ℕ) : Type 0 where
  pub sound : Sound pattern
  pub seven : register < 128
  pub room : at + coded_length pattern 0 (length out) ≤ length coded

-- It promises the register and the place behind the segment, and its n bits, which fill the buffer.
pub record Decoded (pattern : List ℕ) (register : ℕ) (coded : List ℕ) (at n : ℕ) (register' at' : ℕ) (out' : List ℕ) : Type 0 where
  pub state : register' ≡ after register (decode pattern register 0 n (drop at coded))
  pub place : at' ≡ at + coded_length pattern 0 n
  pub written : out' ≡ decode pattern register 0 n (drop at coded)

-- The register with bit k + 6 of some bits as its newest: the six before it are the older ones.
unfoldable pub register_at : List ℕ → ℕ → ℕ
register_at bits k =
    get_or bits k 0
    + 2 * (get_or bits (k + 1) 0 + 2 * (get_or bits (k + 2) 0 + 2 * (get_or bits (k + 3) 0 + 2 * (get_or bits (k + 4) 0 + 2 * (get_or bits (k + 5) 0 + 2 * get_or bits (k + 6) 0)))))
