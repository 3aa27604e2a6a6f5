-- A line of settings. 01 "Cases", the lengths program.
use Rattle.std.specs.Prelude.{ℕ, zero, suc, ◌+◌, ◌-◌, ◌*◌, Bool, true, cond, ◌&&◌, List, length, get_or, ltb, eqb, Option, Some, None}
use Rattle.settings.specs.declared.Settings.{Settings}

-- The value of a hexadecimal digit, 0 to 9 (bytes 48 to 57) and A to F (65 to 70); 16 for any other byte.
unfoldable pub digit_of : ℕ → ℕ
digit_of byte =
    cond (ltb byte 48) 16 (cond (ltb byte 58) (byte - 48) (cond (ltb byte 65) 16 (cond (ltb byte 71) (byte - 55) 16)))

-- The n bytes from place i on are digits.
unfoldable pub digits : List ℕ → ℕ → ℕ → Bool
digits bytes i zero = true
digits bytes i (suc n) = ltb (digit_of (get_or bytes i 0)) 16 && digits bytes (suc i) n

-- Twenty digits and a line feed; what follows the first line feed is not looked at.
unfoldable pub is_line : List ℕ → Bool
is_line bytes = ltb 20 (length bytes) && (eqb (get_or bytes 20 0) 10 && digits bytes 0 20)

-- The kth of the ten bytes that the digits stand for.
unfoldable pub byte_at : List ℕ → ℕ → ℕ
byte_at bytes k = 16 * digit_of (get_or bytes (2 * k) 0) + digit_of (get_or bytes (2 * k + 1) 0)

-- Mode, occupancy, MSC mode, levels A and B, VSPP level, X (two bytes), SDC mode, interleaving.
unfoldable pub settings_in : List ℕ → Settings
settings_in bytes =
    record {
      mode = byte_at bytes 0;
      occupancy = byte_at bytes 1;
      msc = byte_at bytes 2;
      levela = byte_at bytes 3;
      levelb = byte_at bytes 4;
      vspp = byte_at bytes 5;
      x = 256 * byte_at bytes 6 + byte_at bytes 7;
      sdc = byte_at bytes 8;
      interleaving = byte_at bytes 9;
    }

-- The settings of a line, or none for anything but twenty digits and a line end.
unfoldable pub parse_of : List ℕ → Option Settings
parse_of bytes = cond (is_line bytes) (Some (settings_in bytes)) None
