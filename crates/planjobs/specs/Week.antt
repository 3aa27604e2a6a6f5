-- What the desk prints of a plan. 02, S-12.
use Rattle.std.specs.Prelude.{ℕ, ◌-◌, ◌*◌, cond, Result, Ok, Err, List, [], ◌∷◌, ◌++◌, length, get_or, eqb}
use Rattle.std.proofs.lemmas.List.Edits.{sets}
use Rattle.line.specs.Written.{decimal, space, line_end}
use Rattle.console.specs.Text.{bytes_in}
use Rattle.words.specs.Report.{refused_part}
use Rattle.plan.specs.declared.Rule.{Rule}
use Rattle.plan.specs.Rules.{minute_frames, no_rule, mark_of}
use Rattle.plan.specs.Answers.{answer_of}
use Rattle.refusal.specs.declared.Refusal.{Refusal}
use Rattle.refusal.specs.Numbers.{number}
use Rattle.planjobs.specs.declared.Stretch.{Stretch}

-- What is printed: the refusal, or 0 and the bytes of a line; and the minute with which the next line begins.
pub record Printed : Type 0 where
  pub refusal : ℕ
  pub length : ℕ
  pub next : ℕ

-- All that a line yields: what is printed of it, and the lent buffer, which it begins.
pub record PrintYield : Type 0 where
  pub printed : Printed
  pub out : List ℕ

abbrev pub print_yield : Printed → List ℕ → PrintYield
print_yield printed out = record { printed = printed; out = out }

unfoldable pub printing : ℕ → List ℕ → List ℕ → PrintYield
printing next text out = print_yield (record { refusal = 0; length = length text; next = next }) (sets out 0 text)

unfoldable pub print_refused : ℕ → List ℕ → PrintYield
print_refused number out = print_yield (record { refusal = number; length = 0; next = 0 }) out

-- What the functions answer, in the same words, with the line at the start of a buffer.
abbrev pub line_yield : Result (List ℕ) Refusal → List ℕ → PrintYield
line_yield (Ok line) out = printing 0 line out
line_yield (Err r) out = print_refused (number r) out

abbrev pub stretch_yield : Result Stretch Refusal → List ℕ → PrintYield
stretch_yield (Ok s) out = printing s.next s.line out
stretch_yield (Err r) out = print_refused (number r) out

-- `plan FILE SUPERFRAME`: place and mark.
unfoldable pub answer_text : ℕ → ℕ → List ℕ
answer_text place mark = decimal place ++ space ++ decimal mark ++ line_end

unfoldable pub answer_printed : List Rule → ℕ → List ℕ → PrintYield
answer_printed plan t out =
    let a = answer_of plan t in
    cond (eqb a.refusal 0) (printing 0 (answer_text a.place a.mark) out) (print_refused a.refusal out)

-- `plan FILE`: each stretch, from the minute with which it begins: its first super frame, its rule's place, and the first super
-- frame of its closing, or a hyphen where it has none.
unfoldable pub stretch_rule : List Rule → ℕ → Rule
stretch_rule plan minute = get_or plan (answer_of plan (minute_frames * minute)).place no_rule

unfoldable pub closing_frame : List Rule → ℕ → ℕ
closing_frame plan after = cond (eqb (mark_of plan (minute_frames * after - 1)) 1) (minute_frames * after - 2) 0

unfoldable pub closing_text : ℕ → List ℕ
closing_text frame = cond (eqb frame 0) (45 ∷ []) (decimal frame)

unfoldable pub stretch_text : ℕ → ℕ → ℕ → List ℕ
stretch_text frame place closing = decimal frame ++ space ++ decimal place ++ space ++ closing_text closing ++ line_end

-- The next stretch begins where the rule ends. A minute after the week's last is refused as its super frame is.
unfoldable pub stretch_printed : List Rule → ℕ → List ℕ → PrintYield
stretch_printed plan minute out =
    let a = answer_of plan (minute_frames * minute) in
    let r = stretch_rule plan minute in
    cond (eqb a.refusal 0)
    (printing r.after (stretch_text (minute_frames * minute) a.place (closing_frame plan r.after)) out)
    (print_refused a.refusal out)

-- What is said of a plan that is refused.
unfoldable pub refused_line : ℕ → List ℕ
refused_line number = bytes_in "plan: " ++ refused_part number 0 ++ bytes_in "\n"
