-- `writer::write_potentials`: one potential after another. Assumes nothing.
use mathlib.Core.Path.{◌≡◌}
use Rattle.model.specs.Bytes.{overwrite}
use Rattle.certificate.specs.View.{head_size}
use Rattle.writer.specs.Writer.{distances_in, potentials_bytes}
use Rattle.writer.proofs.write_potentials.Given as goal

abbrev pub invariant-loop-i : goal.invariant-loop-i
invariant-loop-i l = l.out ≡ overwrite l.initial.out head_size (potentials_bytes (distances_in l.m l.i))
