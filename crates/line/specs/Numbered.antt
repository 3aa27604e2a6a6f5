-- What an answer of `lengths` yields whose refusal is any number.
use Rattle.std.specs.Prelude.{ℕ, Ok}
use Rattle.settings.specs.declared.Lengths.{Lengths}
use Rattle.settings.specs.Lengths.{LengthsYield, lengths_yield}

abbrev pub numbered_yield : ℕ → Lengths → LengthsYield
numbered_yield refusal lengths = record (lengths_yield (Ok lengths)) { refusal = refusal }
