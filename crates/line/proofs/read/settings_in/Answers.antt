use mathlib.Core.Path.{◌∙◌}
use native.Mathlib.Omega.{arith}
use Rattle.line.proofs.Digits.{line_byte, settings_made}
use Rattle.line.proofs.read.settings_in.Goals as goal

pub returns : goal.returns
returns c =
    c.settings_of.ensures
    ∙ settings_made _ _ _ _ _ _ _ _ _ _ _ c.byte_at.ensures c.byte_at-2.ensures c.byte_at-3.ensures
    c.byte_at-4.ensures c.byte_at-5.ensures c.byte_at-6.ensures c.byte_at-high.ensures
    c.byte_at-low.ensures c.byte_at-7.ensures c.byte_at-8.ensures

pub byte_at-high-requires : goal.byte_at-high-requires
byte_at-high-requires c = line_byte _ 6 c.requires (omega arith)

pub byte_at-low-requires : goal.byte_at-low-requires
byte_at-low-requires c = line_byte _ 7 c.requires (omega arith)

pub byte_at-requires : goal.byte_at-requires
byte_at-requires c = line_byte _ 0 c.requires (omega arith)

pub byte_at-requires-2 : goal.byte_at-requires-2
byte_at-requires-2 c = line_byte _ 1 c.requires (omega arith)

pub byte_at-requires-3 : goal.byte_at-requires-3
byte_at-requires-3 c = line_byte _ 2 c.requires (omega arith)

pub byte_at-requires-4 : goal.byte_at-requires-4
byte_at-requires-4 c = line_byte _ 3 c.requires (omega arith)

pub byte_at-requires-5 : goal.byte_at-requires-5
byte_at-requires-5 c = line_byte _ 4 c.requires (omega arith)

pub byte_at-requires-6 : goal.byte_at-requires-6
byte_at-requires-6 c = line_byte _ 5 c.requires (omega arith)

pub byte_at-requires-7 : goal.byte_at-requires-7
byte_at-requires-7 c = line_byte _ 8 c.requires (omega arith)

pub byte_at-requires-8 : goal.byte_at-requires-8
byte_at-requires-8 c = line_byte _ 9 c.requires (omega arith)
