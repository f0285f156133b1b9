-- `widen::write` meets its contract: what stands before the steps is copied, and the steps and the end follow.
-- Assumes nothing.
use Rattle.std.proofs.Common.{arith, sym, ap, ◌≡◌, ◌∙◌, List, ℕ, length, ◌+◌, ◌*◌, ◌≤◌}
use Rattle.model.specs.Limits.{certificate_room}
use Rattle.model.specs.Edition.{first_edition, long_reads}
use Rattle.model.specs.Bytes.{overwrite}
use Rattle.model.specs.Certificate.{step_width}
use Rattle.words.proofs.Numbers.{AreBytes}
use Rattle.certificate.specs.declared.Parts.{Parts}
use Rattle.certificate.specs.View.{step_size, IsRead}
use Rattle.certificate_bytes.specs.Pieces.{end_bytes}
use Rattle.widen.proofs.Steps.{written}
use Rattle.widen.proofs.Front.{read_length, widened-length, widened-room, certificate-written}
use Rattle.widen.proofs.write.Goals as goal

module _ (bs : List ℕ) (are_bytes : AreBytes bs) (parts : Parts) (is : IsRead first_edition bs parts) where
  -- the steps stand within the bytes
  inside : length bs ≡ parts.from + step_width first_edition * parts.steps + 1
  inside = read_length bs are_bytes parts is

  -- and the certificate within the room
  room : parts.from + step_size * parts.steps + 1 ≤ certificate_room
  room = widened-room bs are_bytes parts is

pub copy_front-requires : goal.copy_front-requires
copy_front-requires c =
    let small : AreBytes c.args.s.now = λ i. (c.type_inv.s i).fits in
    let within = inside c.args.s.now small c.args.parts c.requires.read in
    let fits = room c.args.s.now small c.args.parts c.requires.read in
    (omega (arith, within), omega (arith, fits, c.requires.certificate_room_in_bounds))

pub widen_steps-requires-clause-n_in_bounds : goal.widen_steps-requires-clause-n_in_bounds
widen_steps-requires-clause-n_in_bounds c = omega (arith, inside c.args.s.now (λ i. (c.type_inv.s i).fits) c.args.parts c.requires.read)

pub widen_steps-requires-clause-n_in_bounds_2 : goal.widen_steps-requires-clause-n_in_bounds_2
widen_steps-requires-clause-n_in_bounds_2 c = omega (arith, room c.args.s.now (λ i. (c.type_inv.s i).fits) c.args.parts c.requires.read)

pub overflow_mul-end : goal.overflow_mul-end
overflow_mul-end c = omega (arith, room c.args.s.now (λ i. (c.type_inv.s i).fits) c.args.parts c.requires.read)

pub overflow_add-end : goal.overflow_add-end
overflow_add-end c = omega (arith, room c.args.s.now (λ i. (c.type_inv.s i).fits) c.args.parts c.requires.read)

pub write_end-requires : goal.write_end-requires
write_end-requires c = omega (arith, room c.args.s.now (λ i. (c.type_inv.s i).fits) c.args.parts c.requires.read)

pub overflow_add-result : goal.overflow_add-result
overflow_add-result c = omega (arith, room c.args.s.now (λ i. (c.type_inv.s i).fits) c.args.parts c.requires.read)

pub returns-clause-value : goal.returns-clause-value
returns-clause-value c = sym (widened-length c.args.s.now (λ i. (c.type_inv.s i).fits) c.args.parts c.requires.read)

pub returns-clause-out_after : goal.returns-clause-out_after
returns-clause-out_after c =
    let bs = c.args.s.now in
    let from = c.args.parts.from in
    let n = c.args.parts.steps in
    let end : ℕ = from + step_size * n in
    c.write_end.ensures
    ∙ ap (λ m. overwrite m end end_bytes)
    (c.widen_steps.ensures ∙ ap (λ m. overwrite m from (written first_edition long_reads bs from n)) c.copy_front.ensures)
    ∙ certificate-written bs (λ i. (c.type_inv.s i).fits) c.args.parts c.requires.read c.args.out.now c.requires.certificate_room_in_bounds
