-- Settings as the bytes that a caller lends.
use Rattle.std.specs.Prelude.{ℕ, ◌+◌, ◌*◌, ◌/◌, ◌%◌, cond, List, [], ◌∷◌, length, get_or, eqb, Result, Ok, Err}
use Rattle.refusal.specs.declared.Refusal.{Refusal}
use Rattle.refusal.specs.declared.Refusal.TheVariants.{FixedLength}
use Rattle.settings.specs.declared.Settings.{Settings}

-- Two bytes, high byte first.
abbrev pub word : ℕ → ℕ → ℕ
word high low = 256 * high + low

-- Ten bytes: mode, occupancy, MSC mode, levels A and B, VSPP level, X (two bytes, high byte first), SDC mode, interleaving.
unfoldable pub settings_of : List ℕ → Settings
settings_of bytes =
    record {
      mode = get_or bytes 0 0;
      occupancy = get_or bytes 1 0;
      msc = get_or bytes 2 0;
      levela = get_or bytes 3 0;
      levelb = get_or bytes 4 0;
      vspp = get_or bytes 5 0;
      x = word (get_or bytes 6 0) (get_or bytes 7 0);
      sdc = get_or bytes 8 0;
      interleaving = get_or bytes 9 0;
    }

-- The settings of ten bytes; any other number of bytes is of the wrong length.
unfoldable pub taken : List ℕ → Result Settings Refusal
taken bytes = cond (eqb (length bytes) 10) (Ok (settings_of bytes)) (Err FixedLength)

unfoldable pub settings_bytes : Settings → List ℕ
settings_bytes s =
    s.mode ∷ s.occupancy ∷ s.msc ∷ s.levela ∷ s.levelb ∷ s.vspp ∷ s.x / 256 ∷ s.x % 256 ∷ s.sdc ∷ s.interleaving ∷ []
