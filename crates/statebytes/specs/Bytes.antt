-- Settings and states as the bytes that a C program lends.
use Rattle.std.specs.Prelude.{ℕ, List, [], ◌∷◌, ◌++◌, get_or, drop}
unfoldable pub use Rattle.settingbytes.specs.Bytes.{settings_of, settings_bytes}
use Rattle.channels.specs.Scheme.{scheme_of}
use Rattle.superframe.specs.declared.State.{State}

-- A state is 208 bytes: those of its settings, position, count, and the 196 numbers of its table. 02 S-11.
unfoldable pub state_of : List ℕ → State
state_of bytes =
    record { scheme = scheme_of (settings_of bytes) (drop 12 bytes); position = get_or bytes 10 0; count = get_or bytes 11 0 }

unfoldable pub front_bytes : State → List ℕ
front_bytes state = settings_bytes state.scheme.settings ++ (state.position ∷ state.count ∷ [])

unfoldable pub state_bytes : State → List ℕ
state_bytes state = front_bytes state ++ state.scheme.table
