-- `memory_bytes` meets its contract. Assumes nothing.
use native.Mathlib.Omega.{arith}
use Rattle.settings.specs.Lengths.{n_mux}
use Rattle.settings.proofs.Buffers.{few}
use Rattle.settings.proofs.answers.memory_bytes.Goals as goal

pub overflow_mul-result : goal.overflow_mul-result
unfolding n_mux
overflow_mul-result c = rw (c.depth.ensures, c.n_mux.ensures) (omega (arith, (few _ c.requires).memory_few))

pub returns : goal.returns
unfolding n_mux
returns c = rw (c.depth.ensures, c.n_mux.ensures)
