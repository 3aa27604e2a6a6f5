-- The record of a preview from its parts: nothing of 02 is stated here.
use Rattle.std.specs.Prelude.{List, ℤ}
use Rattle.superframe.specs.Answers.{Done}
use Rattle.previewcall.specs.Preview.{PreviewYield}

-- What a preview yields, from its result and the outputs as it leaves them.
abbrev pub preview_yield : Done → List ℤ → List ℤ → List ℤ → PreviewYield
preview_yield done faccells sdccells msccells = record { done = done; faccells = faccells; sdccells = sdccells; msccells = msccells }
