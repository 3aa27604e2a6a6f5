-- What a job yields, from what its calls yield.
use Prim.Native.Nat.{ℕ}
use mathlib.Core.Path.{◌≡◌}
use mathlib.Core.List.{List, ◌++◌}
use native.Mathlib.Omega.{arith}
use borrow.Author.Tests.{ne_eqb}
use Rattle.refusal.specs.declared.Refusal.{Refusal}
use Rattle.refusal.specs.Numbers.{number}
use Rattle.refusal.proofs.Positive.{number_positive}
use Rattle.superframe.specs.Answers.{done}
use Rattle.superframe.specs.declared.State.{State}
use Rattle.superframe.specs.Answers.{Reading}
use Rattle.superframe.specs.Answers.{Answer}
use Rattle.superframe.specs.Answers.{Finished, Refused as Answer-as-Refused}
use Rattle.superframe.specs.Clauses.{read_yield}
use Rattle.std.specs.Prelude.{Result, Ok, Err}
use Rattle.turns.specs.declared.Failure.TheVariants.{Refused}
use Rattle.jobs.specs.Output.{Joined, block_output}
use Rattle.jobs.specs.SuperFrame.{job_yield, through, refused, answered, read_written}

joined-through : {n : ℕ} {bytes out : List ℕ} {r : ℕ} {out' : List ℕ} (state : State) (memory : List ℕ) → Joined n bytes out r out'
    → job_yield (record { made = Ok r; state = state }) memory out' ≡ through state memory bytes out
unfolding through
joined-through state memory j = rw (j.long, j.written)

-- By what a call gave, and the old state, which a refusal leaves.
pub answered-through : {n : ℕ} {bytes out : List ℕ} {r : ℕ} {out' : List ℕ} (old state : State) (memory : List ℕ) {called : Result State Refusal} → called ≡ Ok state → Joined n bytes out r out'
    → job_yield (record { made = Ok r; state = state }) memory out' ≡ answered (done old called).refusal (done old called).state memory bytes out
unfolding answered
answered-through old state memory e j = rw e (joined-through state memory j)

pub answered-refused : (old : State) (refusal : Refusal) (memory : List ℕ) (bytes out : List ℕ) {called : Result State Refusal} → called ≡ Err refusal
    → refused (number refusal) 0 old memory out ≡ answered (done old called).refusal (done old called).state memory bytes out
unfolding answered
answered-refused old refusal memory bytes out e = rw (e, ne_eqb (number refusal) 0 (omega (arith, number_positive refusal)))

pub read_through : {n : ℕ} (reading : Reading) (lost fac sdc msc : List ℕ) (out : List ℕ) (k r : ℕ) (out' : List ℕ) (memory : List ℕ) (a : Answer) → a ≡ Finished k
    → Joined n (lost ++ block_output fac sdc k msc) out r out'
    → job_yield (record { made = Ok r; state = reading.state }) memory out' ≡ read_written a lost (read_yield reading memory fac sdc msc) out
unfolding read_written
read_through reading lost fac sdc msc out k r out' memory a e j = rw e (joined-through reading.state memory j)

pub read-refused : (reading : Reading) (lost fac sdc msc : List ℕ) (out : List ℕ) (number block : ℕ) (memory : List ℕ) (a : Answer) → a ≡ Answer-as-Refused number block
    → job_yield (record { made = Err (Refused number block); state = reading.state }) memory out ≡ read_written a lost (read_yield reading memory fac sdc msc) out
unfolding read_written refused
read-refused reading lost fac sdc msc out number block memory a e = rw e
