-- An answer with the refusal and the mark as bytes, as the answer of a plan.
use Rattle.plan.specs.Answers.{Answered}
use Rattle.plan.specs.declared.numbered.NumberedAnswer.{NumberedAnswer}

abbrev pub numbered_answer : NumberedAnswer → Answered
numbered_answer a = record { refusal = a.refusal; place = a.place; mark = a.mark }
