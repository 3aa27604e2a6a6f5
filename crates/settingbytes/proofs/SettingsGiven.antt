-- A call with ten bytes of settings, from the call on the settings that they give. Assumes nothing.
use mathlib.Core.Path.{◌≡◌}
use mathlib.Core.Bool.{cond}
use mathlib.Core.List.{List}
use Prim.Native.Nat.{ℕ}
use lib.ListN.{length}
use lib.Dec.{eqb}
use borrow.Author.Tests.{eq-eqb}
use Rattle.settings.specs.declared.Settings.{Settings}
use Rattle.settingbytes.specs.Bytes.{settings_of}

-- Stays: docs/LANDINGS.md names this law; the C functions test their bytes by `bytes::taken` since, and name it no more.
pub with_settings : {A : Type 0} (f : Settings → A) (wrong given : A) (bytes : List ℕ) (s : Settings) → length bytes ≡ 10 → s ≡ settings_of bytes → given ≡ f s
    → given ≡ cond (eqb (length bytes) 10) (f (settings_of bytes)) wrong
with_settings f wrong given bytes s h e g = rw (g, e, eq-eqb (length bytes) 10 h)
