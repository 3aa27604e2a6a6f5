-- The settings that the comparison goes through. second/README.md, "Pairings" and "largest".
use Rattle.std.specs.Prelude.{ℕ, ◌+◌, ◌%◌, ◌≤◌, ◌≡◌, ◌⊎◌, List, [], ◌∷◌, get_or}
use Rattle.settings.specs.declared.Settings.{Settings}
use Rattle.settings.specs.Refusal.{refusal}

-- Mode and occupancy by the pairing's index: A 0 to 5, B 0 to 5, C 3, C 5, D 3, D 5.
abbrev pub modes : List ℕ
modes = 0 ∷ 0 ∷ 0 ∷ 0 ∷ 0 ∷ 0 ∷ 1 ∷ 1 ∷ 1 ∷ 1 ∷ 1 ∷ 1 ∷ 2 ∷ 2 ∷ 3 ∷ 3 ∷ []

abbrev pub occupancies : List ℕ
occupancies = 0 ∷ 1 ∷ 2 ∷ 3 ∷ 4 ∷ 5 ∷ 0 ∷ 1 ∷ 2 ∷ 3 ∷ 4 ∷ 5 ∷ 3 ∷ 5 ∷ 3 ∷ 5 ∷ []

-- Settings of a pairing, with X, SDC mode and interleaving 0.
unfoldable pub settings_of : ℕ → ℕ → ℕ → ℕ → ℕ → Settings
settings_of p msc levela levelb vspp =
    record {
      mode = get_or modes (p % 16) 0;
      occupancy = get_or occupancies (p % 16) 0;
      msc = msc;
      levela = levela;
      levelb = levelb;
      vspp = vspp;
      x = 0;
      sdc = 0;
      interleaving = 0;
    }

-- The settings with another X.
unfoldable pub with_x : Settings → ℕ → Settings
with_x s x =
    record {
      mode = s.mode;
      occupancy = s.occupancy;
      msc = s.msc;
      levela = s.levela;
      levelb = s.levelb;
      vspp = s.vspp;
      x = x;
      sdc = s.sdc;
      interleaving = s.interleaving;
    }

-- The settings with another SDC mode.
unfoldable pub with_sdc : Settings → ℕ → Settings
with_sdc s sdc =
    record {
      mode = s.mode;
      occupancy = s.occupancy;
      msc = s.msc;
      levela = s.levela;
      levelb = s.levelb;
      vspp = s.vspp;
      x = s.x;
      sdc = sdc;
      interleaving = s.interleaving;
    }

-- The greatest X that is not refused with the other settings: none from 1 to it is, and the next one is, if there is a next one.
pub record GreatestX (s : Settings) (x : ℕ) : Type 0 where
  pub up_to : (y : ℕ) → 1 ≤ y → y ≤ x → refusal (with_x s y) ≡ 0
  pub next : (x ≡ 65535) ⊎ (refusal (with_x s (x + 1)) ≡ 0 → ⊥)
