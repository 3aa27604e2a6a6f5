-- What follows from a read, and from a super frame and the write of its bytes: the run goes on, or its end.
use Rattle.std.specs.Prelude.{ℕ, Bool, cond, eqb, ⊤, Result, Ok, Err}
use Rattle.turns.specs.declared.End.{End}
use Rattle.turns.specs.declared.End.TheVariants.{Whole, Inside, Unread, Unwritten, Stopped, BadLine}
use Rattle.turns.specs.declared.Failure.{Failure}
use Rattle.turns.specs.declared.Failure.TheVariants.{Refused, Bad}

-- A whole super frame goes on; fewer bytes end the run: a read that failed, the end of the input, or its end inside a super frame.
unfoldable pub after_read : ℕ → ℕ → Bool → Result ⊤ End
after_read got wanted ended =
    cond (eqb got wanted) (Ok tt) (cond ended (cond (eqb got 0) (Err Whole) (Err Inside)) (Err Unread))

-- A whole input goes on with so many bytes, if it ended or filled all the room there is for one; a read that failed does not.
unfoldable pub after_all : ℕ → ℕ → Bool → Result ℕ End
after_all got most ended = cond (eqb got most) (Ok got) (cond ended (Ok got) (Err Unread))

-- By the number of a refusal, 0 for acceptance.
unfoldable pub after_call : ℕ → Result ⊤ End
after_call number = cond (eqb number 0) (Ok tt) (Err (Stopped number 0))

-- A refusal ends the run; of lines, only the line.
unfoldable pub after_failure : Failure → End
after_failure (Refused number block) = Stopped number block
after_failure Bad = BadLine

-- A refusal ends the run whatever the write says, and so does a write that came short.
unfoldable pub after_write : {T : Type 0} → Result T Failure → Bool → Result ⊤ End
after_write (Ok made) written = cond written (Ok tt) (Err Unwritten)
after_write (Err failure) written = Err (after_failure failure)
