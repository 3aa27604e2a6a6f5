-- There are runs that code given bytes: with zeros in all that may hold anything. Assumes nothing.
use Prim.Native.Nat.{ℕ, zero, suc, ◌*◌}
use mathlib.Core.Path.{◌≡◌, refl, ap, ap₂}
use mathlib.Core.List.{List, [], ◌∷◌, map}
use lib.ListN.{length, replicate, length-replicate}
use lib.IntN.{pos}
use Rattle.partlengths.specs.Cells.{fac_cells}
use Rattle.settings.specs.declared.Settings.{Settings}
use Rattle.settings.specs.Lengths.{n_sdc, n_sfa, l_sdc}
use Rattle.settings.specs.Sizes.{frame_bytes, sdc_bytes}
use Rattle.block.specs.Fits.{Bytes}
use Rattle.superframe.specs.Call.{fac_bytes}
use Rattle.superframe.specs.Code.{CodeCall}
use Rattle.superframe.specs.Runs.{Begun}
use Rattle.superframe.proofs.Calls.{fit-cells}
use Rattle.howlong.specs.HowLong.{how_long_refusal}
use Rattle.howlongruns.specs.BytesCoded.{pieces_of, frames_of, zero_frame, filled_up, threes, AllRight, Codes}
use Rattle.howlongruns.proofs.Frames.{zero_spare}

-- A call with these frames.
unfoldable zero_call : Settings → List ℕ → CodeCall
zero_call s msc =
    record {
      fac = replicate (3 * fac_bytes) 0;
      sdc = replicate (sdc_bytes s) 0;
      msc = msc;
      faccells = replicate (3 * (2 * fac_cells)) (pos 0);
      sdccells = replicate (2 * n_sdc s) (pos 0);
      msccells = replicate (2 * n_sfa s) (pos 0);
    }

lent_long : (s : Settings) (n : ℕ) → map length (replicate n (zero_frame s)) ≡ replicate n (frame_bytes s)
unfolding zero_frame
lent_long s zero = refl
lent_long s (suc n) = ap₂ ◌∷◌ (length-replicate (frame_bytes s) 0) (lent_long s n)

calls_right : (s : Settings) (l : List (List ℕ)) → AllRight s (map (zero_call s) l)
unfolding zero_call
calls_right s [] = tt {0}
calls_right s (m ∷ l) = (
  record {
    fac = length-replicate {A = ℕ} (3 * fac_bytes) 0;
    sdc = length-replicate {A = ℕ} (sdc_bytes s) 0;
    spare = zero_spare (l_sdc s) (sdc_bytes s);
    cells =
        fit-cells s _ _ _
        (record {
          faclong = length-replicate (3 * (2 * fac_cells)) (pos 0);
          sdclong = length-replicate (2 * n_sdc s) (pos 0);
          msclong = length-replicate (2 * n_sfa s) (pos 0);
        });
  },
  calls_right s l,
)

calls_lent : (s : Settings) (l : List (List ℕ)) → map (λ c. c.msc) (map (zero_call s) l) ≡ l
unfolding zero_call
calls_lent s [] = refl
calls_lent s (m ∷ l) = ap (λ r. m ∷ r) (calls_lent s l)

pub codable : (begun : Begun) (bytes : List ℕ) → how_long_refusal begun.scheme.settings 3 ≡ 0 → Bytes bytes
    → (lent : List (List ℕ)) × (calls : List CodeCall) × Codes bytes lent (record { begun = begun; calls = calls })
codable begun bytes h B =
    let s = begun.scheme.settings in
    let lent = replicate (length (pieces_of s bytes)) (zero_frame s) in
    let msc = threes (filled_up s (frames_of s bytes lent)) in (
      lent,
      map (zero_call s) msc,
      record { allowed = h; input = B; room = lent_long s (length (pieces_of s bytes)); blocks = calls_right s msc; frames = calls_lent s msc },
    )
