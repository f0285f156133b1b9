-- `certificate_bytes::write_potential` meets its contract: a command, and the bytes after it.
-- Assumes nothing.
use Rattle.std.proofs.Common.{arith, ap, ◌∙◌, ◌∷◌, ◌+◌, ◌*◌, w64, to_z, of_z}
use mir.Facts.{to_z-of_z}
use Rattle.model.specs.Bytes.{bytes, complement, overwrite}
use Rattle.words.proofs.Memory.{overwrite-cons}
use Rattle.words.proofs.Numbers.{bytes-length}
use Rattle.certificate.specs.View.{potential_command, potential_width, head_size, potential_size}
use Rattle.certificate_bytes.proofs.write_potential.Goals as goal

pub returns : goal.returns
returns c =
    let z = to_z w64 (of_z w64 c.args.z) in
    c.write_i64.ensures
    ∙ overwrite-cons _ _ _ _ (omega (arith, c.requires, bytes-length potential_width (complement z)))
    ∙ ap (λ v. overwrite c.args.out.now (head_size + potential_size * c.args.i) (potential_command ∷ bytes potential_width (complement v)))
    (to_z-of_z c.ranges.z)
