-- A certificate's bytes, piece by piece.
-- Assumes nothing.
use mathlib.Core.Path.{◌≡◌, refl, sym, ap, ap₂, ◌∙◌}
use mathlib.Core.Bool.{cond}
use mathlib.Core.List.{List, [], ◌∷◌, ◌++◌, append_assoc, append-nil}
use Prim.Native.Nat.{ℕ, ◌+◌, ◌*◌, ◌^◌, ◌≤◌, ◌<◌}
use native.Mathlib.Omega.{arith}
use lib.Dec.{eqb}
use lib.IntN.{ℤ}
use lib.ListN.{length, set, length-set, length-append}
use Rattle.model.specs.Lists.{flat_map}
use Rattle.model.specs.Limits.{max_tasks}
use Rattle.model.specs.Edition.{Edition, long_reads}
use Rattle.model.specs.Bytes.{bytes, overwrite}
use Rattle.model.specs.Certificate.{Certificate, Step, step_bytes, step_width, certificate_bytes_in}
use Rattle.model.proofs.Lists.{flat_map-append, flat_map-length}
use Rattle.words.proofs.Numbers.{bytes-length}
use Rattle.words.proofs.Memory.{overwrite-cons, overwrite_join}
use Rattle.words.specs.Packed.{field_base, unpacked}
use Rattle.words.proofs.Packed.{packed_eight, fields-length, fields-below, packed-unpacked}
use Rattle.theory.proofs.Form.{potential_bytes}
use Rattle.certificate.specs.View.{head_command, step_command, head_size, potential_size, cycle_size, step_size}
use Rattle.certificate_bytes.specs.Pieces.{head_bytes, node_bytes, packed_step, end_bytes}

-- one after another they are the certificate's bytes
pub certificate_pieces : (e : Edition) (c : Certificate) →
    certificate_bytes_in e c ≡ head_bytes c.p c.q (length c.potentials) ++ flat_map potential_bytes c.potentials
    ++ cond (eqb c.q 0) [] (node_bytes c.node ++ flat_map (step_bytes e) c.steps) ++ end_bytes
unfolding certificate_bytes_in
certificate_pieces e c = refl

-- ---- their lengths

pub head-length : (p q n : ℕ) → length (head_bytes p q n) ≡ head_size
head-length p q n = simp (length-append, bytes-length)

pub potential-length : (z : ℤ) → length (potential_bytes z) ≡ potential_size
potential-length z = simp bytes-length

pub potentials-length : (zs : List ℤ) → length (flat_map potential_bytes zs) ≡ potential_size * length zs
potentials-length zs = flat_map-length potential_bytes potential_size zs potential-length

-- the head and the potentials
pub front_length : (p q n : ℕ) (zs : List ℤ) → length (head_bytes p q n ++ flat_map potential_bytes zs) ≡ head_size + potential_size * length zs
front_length p q n zs =
    omega (arith, length-append (head_bytes p q n) (flat_map potential_bytes zs), head-length p q n, potentials-length zs)

pub node-length : (v : ℕ) → length (node_bytes v) ≡ cycle_size
node-length v = simp bytes-length

pub step-length : (e : Edition) (s : Step) → length s.masks ≡ max_tasks → length (step_bytes e s) ≡ step_width e
step-length e s four =
    let k = e.mask_width in
    omega (arith, flat_map-length (bytes k) k s.masks (bytes-length k) ∙ ap (λ (n : ℕ). k * n) four)

-- ---- written one after another

-- at the place after what was written
pub overwrite-then : (m : List ℕ) (at : ℕ) (xs ys : List ℕ) (next : ℕ) → next ≡ at + length xs → next + length ys ≤ length m →
    overwrite (overwrite m at xs) next ys ≡ overwrite m at (xs ++ ys)
overwrite-then m at xs ys next e fits = rw e (overwrite_join m at xs ys (omega arith))

-- one piece more of a list's
pub overwrite_piece : {A : Type 0} (f : A → List ℕ) (m : List ℕ) (at : ℕ) (xs : List ℕ) (l : List A) (a : A) (next : ℕ) →
    next ≡ at + length (xs ++ flat_map f l) → next + length (f a) ≤ length m →
    overwrite (overwrite m at (xs ++ flat_map f l)) next (f a) ≡ overwrite m at (xs ++ flat_map f (l ++ (a ∷ [])))
overwrite_piece f m at xs l a next e fits =
    overwrite-then m at (xs ++ flat_map f l) (f a) next e fits
    ∙ ap (overwrite m at)
    (append_assoc xs (flat_map f l) (f a) ∙ ap (λ k. xs ++ k) (sym (flat_map-append f l (a ∷ []) ∙ ap (λ k. flat_map f l ++ k) (append-nil (f a)))))

-- the head, field by field
pub head-written : (m : List ℕ) (p q n : ℕ) → head_size ≤ length m →
    overwrite (overwrite (overwrite (set m 0 head_command) 1 (bytes 4 p)) 5 (bytes 4 q)) 9 (bytes 2 n) ≡ overwrite m 0 (head_bytes p q n)
head-written m p q n fits =
    ap (λ k. overwrite (overwrite k 5 (bytes 4 q)) 9 (bytes 2 n)) (overwrite-cons m 0 head_command (bytes 4 p) (simp bytes-length (omega arith)))
    ∙ ap (λ k. overwrite k 9 (bytes 2 n)) (overwrite-then m 0 (head_command ∷ bytes 4 p) (bytes 4 q) 5 (simp bytes-length) (simp bytes-length (omega arith)))
    ∙ overwrite-then m 0 ((head_command ∷ bytes 4 p) ++ bytes 4 q) (bytes 2 n) 9 (simp (length-append, bytes-length)) (simp bytes-length (omega arith))

-- packed masks are written two bytes each
unpacked-bytes : (n : ℕ) → n < field_base ^ max_tasks → bytes 8 n ≡ flat_map (bytes 2) (unpacked n)
unpacked-bytes n h = ap (bytes 8) (sym (packed-unpacked n h)) ∙ packed_eight (unpacked n) (fields-below max_tasks n) (fields-length max_tasks n)

-- a step, by two stores and its masks
pub step-written : (m : List ℕ) (at label masks : ℕ) → masks < field_base ^ max_tasks → at + step_size ≤ length m →
    overwrite (set (set m at step_command) (at + 1) label) (at + 2) (bytes 8 masks) ≡ overwrite m at (step_bytes long_reads (packed_step label masks))
step-written m at label masks small fits =
    ap₂ (λ (k : ℕ) bs. overwrite (set (set m at step_command) (at + 1) label) k bs) (omega arith) (unpacked-bytes masks small)
    ∙ overwrite-cons (set m at step_command) (at + 1) label written (simp length-set (omega (arith, size)))
    ∙ overwrite-cons m at step_command (label ∷ written) (omega (arith, size))
  where
    written : List ℕ
    written = flat_map (bytes 2) (unpacked masks)

    size : length (step_bytes long_reads (packed_step label masks)) ≡ step_size
    size = step-length long_reads (packed_step label masks) (fields-length max_tasks masks)
