-- Settings and states as the bytes that a C program lends.
unfoldable pub use Rattle.statebytes.specs.Bytes.{settings_of, state_of}
