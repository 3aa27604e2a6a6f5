-- 02, S-6: dispersal from any bit, of bits and of packed bytes; and two halves of a frame, wherever the cut is.
use Rattle.std.specs.Prelude.{ℕ, ◌+◌, ◌*◌, ◌≤◌, ◌≡◌, true, List, ◌++◌, length, take, drop, ℤ}
use Rattle.lists.specs.Bytes.{bytes_for}
use Rattle.component.specs.Bits.{Bits}
use Rattle.settings.specs.declared.Settings.{Settings}
use Rattle.settings.specs.Lengths.{n_mux, l_vspp}
use Rattle.settings.specs.Sizes.{frame_bits}
use Rattle.block.specs.Packing.{unpacked, packed, spare_zero}
use Rattle.block.specs.Dispersal.{dispersed, dispersed_parts, dispersed_from}
use Rattle.block.specs.Block.{cells_from}
use Rattle.block.specs.Fits.{Bytes}
use Rattle.channels.specs.declared.Scheme.{Scheme}
use Rattle.channels.specs.Scheme.{scheme_refusal}
use Rattle.channels.specs.Msc.{msc_block}
use Rattle.dispersecall.specs.Calls.{dispersed_bytes}
use Rattle.halves.specs.Halves.{halves_yield, halves_of}

-- n packed bits and m packed bits, one after the other, packed again.
unfoldable pub joined_bytes : ℕ → ℕ → List ℕ → List ℕ → List ℕ
joined_bytes n m one two = packed (unpacked n one ++ unpacked m two)

pub record FromAnyBit : Type 0 where
  -- d(t, x ++ y) = d(t, x) ++ d(t + |x|, y), of bits and of packed bytes
  pub goes_on : (t : ℕ) (x y : List ℕ) → dispersed t (x ++ y) ≡ dispersed t x ++ dispersed (t + length x) y
  pub goes_on_bytes : (t n m : ℕ) (one two : List ℕ)
      → dispersed_bytes t (n + m) (joined_bytes n m one two) ≡ joined_bytes n m (dispersed_bytes t n one) (dispersed_bytes (t + n) m two)
  -- d(t, d(t, x)) = x
  pub undoes : (t : ℕ) (x : List ℕ) → Bits x → dispersed t (dispersed t x) ≡ x
  pub undoes_bytes : (t n : ℕ) (bytes : List ℕ) → Bytes bytes → length bytes ≡ bytes_for n → spare_zero n bytes ≡ true
      → dispersed_bytes t n (dispersed_bytes t n bytes) ≡ bytes
  -- two halves treated one after the other are the whole frame, for every cut
  pub whole : (s : Settings) (f : List ℕ) (cut : ℕ) → cut ≤ length f
      → dispersed_from (l_vspp s) 0 (take cut f) ++ dispersed_from (l_vspp s) cut (drop cut f) ≡ dispersed_parts (l_vspp s) f
  -- the same of two packed halves, each from the start of a byte of its own
  pub whole_bytes : (s : Settings) (cut n : ℕ) (one two : List ℕ)
      → packed (dispersed_from (l_vspp s) 0 (unpacked cut one) ++ dispersed_from (l_vspp s) cut (unpacked n two))
      ≡ packed (dispersed_parts (l_vspp s) (unpacked cut one ++ unpacked n two))
  -- and the cells made of the halves of a packed frame, each packed again, are the frame's cells
  pub same_cells : (s : Scheme) → scheme_refusal s ≡ 0 → (frame : List ℕ) (cut : ℕ) → cut ≤ frame_bits s.settings
      → (cells : List ℤ) → length cells ≡ 2 * n_mux s.settings
      → let bits = unpacked (frame_bits s.settings) frame in
      halves_of s cut (packed (take cut bits)) (packed (drop cut bits)) cells ≡ halves_yield 0 (cells_from (msc_block s) frame)
