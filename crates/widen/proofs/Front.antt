-- A certificate's bytes in both editions: what stands before the steps is the same.
-- Assumes nothing.
use mathlib.Core.Path.{◌≡◌, refl, sym, ap, ◌∙◌}
use mathlib.Core.Bool.{Bool, true, false, cond}
use mathlib.Core.List.{List, [], ◌++◌, append_assoc, append-nil}
use Prim.Native.Nat.{ℕ, ◌+◌, ◌*◌, ◌≤◌}
use native.Mathlib.Omega.{arith}
use borrow.Author.Tests.{eqb-true}
use lib.Dec.{eqb}
use lib.ListN.{length, take, length-append}
use lib.Seq.{take_at}
use Rattle.model.specs.Limits.{certificate_room}
use Rattle.model.specs.Edition.{Edition, first_edition, long_reads}
use Rattle.model.specs.Lists.{flat_map}
use Rattle.model.specs.Bytes.{part, overwrite}
use Rattle.model.specs.Certificate.{Certificate, step_bytes, step_width, certificate_bytes_in, certificate_bytes}
use Rattle.words.proofs.Numbers.{AreBytes}
use Rattle.theory.proofs.Form.{potential_bytes}
use Rattle.theory.proofs.Reread.{bytes-read-back, read-few}
use Rattle.certificate.specs.declared.Parts.{Parts}
use Rattle.certificate.specs.View.{cycle_size, step_size, step_in, certificate_of, steps_place, IsRead}
use Rattle.certificate.proofs.Runs.{items-length}
use Rattle.certificate.proofs.Placed.{placed}
use Rattle.certificate_bytes.specs.Pieces.{head_bytes, node_bytes, end_bytes}
use Rattle.certificate_bytes.proofs.Pieces.{certificate_pieces, front_length, node-length, overwrite-then}
use Rattle.widen.proofs.Steps.{written, written-length}

-- ---- before the steps

-- the head, the potentials, and the start of a cycle
abbrev start_bytes : Certificate → List ℕ
start_bytes c = head_bytes c.p c.q (length c.potentials) ++ flat_map potential_bytes c.potentials

abbrev front_bytes : Certificate → List ℕ
front_bytes c = start_bytes c ++ cond (eqb c.q 0) [] (node_bytes c.node)

before-steps : (c : Certificate) → length (front_bytes c) ≡ steps_place c
before-steps c =
    omega (
      arith,
      length-append (start_bytes c) (cond (eqb c.q 0) [] (node_bytes c.node)),
      front_length c.p c.q (length c.potentials) c.potentials,
      by (eqb c.q 0),
    )
  where
    by : (b : Bool) → length (cond b [] (node_bytes c.node)) ≡ cond b 0 cycle_size
    by true = refl
    by false = node-length c.node

-- where there is no cycle there are no steps
bytes_split : (e : Edition) (c : Certificate) → (c.q ≡ 0 → c.steps ≡ []) → certificate_bytes_in e c ≡ front_bytes c ++ flat_map (step_bytes e) c.steps ++ end_bytes
bytes_split e c bare = certificate_pieces e c ∙ ap (λ l. l ++ end_bytes) (by (eqb c.q 0) refl)
  where
    steps : List ℕ
    steps = flat_map (step_bytes e) c.steps

    by : (b : Bool) → eqb c.q 0 ≡ b → start_bytes c ++ cond b [] (node_bytes c.node ++ steps) ≡ start_bytes c ++ cond b [] (node_bytes c.node) ++ steps
    by true z = sym (append-nil (start_bytes c ++ [])) ∙ ap (λ ss. start_bytes c ++ [] ++ flat_map (step_bytes e) ss) (sym (bare (eqb-true c.q 0 z)))
    by false z = sym (append_assoc (start_bytes c) (node_bytes c.node) steps)

-- ---- the bytes of a certificate that was read

module _ (bs : List ℕ) (h : AreBytes bs) (parts : Parts) (is : IsRead first_edition bs parts) where
  abbrev c : Certificate
  c = certificate_of first_edition bs parts

  -- its steps in an edition, and the number of all bytes
  abbrev steps : Edition → List ℕ
  steps e = written first_edition e bs parts.from parts.steps

  abbrev size : Edition → ℕ
  size e = parts.from + step_width e * parts.steps + 1

  in_edition : (e : Edition) → certificate_bytes_in e c ≡ front_bytes c ++ steps e ++ end_bytes
  in_edition e = bytes_split e c (λ z. ((read-few first_edition bs c is.read).bare z).1)

  front-place : length (front_bytes c) ≡ parts.from
  front-place = before-steps c ∙ sym is.place

  length_in : (e : Edition) → length (certificate_bytes_in e c) ≡ size e
  length_in e =
      omega (
        arith,
        ap length (in_edition e),
        length-append (front_bytes c ++ steps e) end_bytes,
        length-append (front_bytes c) (steps e),
        front-place,
        written-length first_edition e bs parts.from parts.steps,
      )

  read_back : certificate_bytes_in first_edition c ≡ bs
  read_back = bytes-read-back first_edition bs c h is.read

  pub read_length : length bs ≡ size first_edition
  read_length = sym (ap length read_back) ∙ length_in first_edition

  pub widened-length : length (certificate_bytes c) ≡ size long_reads
  widened-length = length_in long_reads

  -- the longest has room
  pub widened-room : size long_reads ≤ certificate_room
  widened-room =
      let w = placed first_edition bs c is.read in
      omega (arith, is.place, by (eqb parts.fraction.q 0), w.few, w.few_steps, items-length (step_in first_edition bs) parts.from (step_width first_edition) parts.steps)
    where
      by : (b : Bool) → cond b 0 cycle_size ≤ cycle_size
      by true = omega arith
      by false = omega arith

  -- what is copied
  front-part : part bs 0 parts.from ≡ front_bytes c
  front-part =
      ap (take parts.from) (sym read_back ∙ in_edition first_edition ∙ append_assoc (front_bytes c) (steps first_edition) end_bytes)
      ∙ take_at (front_bytes c) (steps first_edition ++ end_bytes) parts.from front-place

  -- the front copied, and then the steps and the end
  pub certificate-written : (m : List ℕ) → certificate_room ≤ length m →
      overwrite (overwrite (overwrite m 0 (part bs 0 parts.from)) parts.from (steps long_reads)) (parts.from + step_size * parts.steps) end_bytes
      ≡ overwrite m 0 (certificate_bytes c)
  certificate-written m room =
      let end = parts.from + step_size * parts.steps in
      let long = written-length first_edition long_reads bs parts.from parts.steps in
      ap (λ l. overwrite (overwrite (overwrite m 0 l) parts.from (steps long_reads)) end end_bytes) front-part
      ∙ ap (λ l. overwrite l end end_bytes)
      (overwrite-then m 0 (front_bytes c) (steps long_reads) parts.from (omega (arith, front-place)) (omega (arith, long, widened-room)))
      ∙ overwrite-then m 0 (front_bytes c ++ steps long_reads) end_bytes end
      (omega (arith, length-append (front_bytes c) (steps long_reads), front-place, long)) (omega (arith, widened-room))
      ∙ ap (overwrite m 0) (sym (in_edition long_reads))
