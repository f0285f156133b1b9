-- The lists of a certificate stand within the bytes that it was read from.
-- Assumes nothing.
use Rattle.std.specs.Prelude as rust
use Rattle.std.specs.Prelude.{None, Some}
use mathlib.Core.Path.{◌≡◌, refl, sym, ap, ◌∙◌, subst}
use mathlib.Core.Bool.{Bool, true, false, cond, ◌&&◌}
use mathlib.Core.Logic.{◌⊎◌, inl, inr, ⊎_elim}
use mathlib.Core.List.{List, [], ◌∷◌}
use mathlib.Core.Option.{Option, none, some, none-ne-some, some-injective}
use Prim.Native.Nat.{ℕ, zero, suc, ◌+◌, ◌*◌, ◌≤◌, ◌<◌}
use native.Mathlib.Nat.{not-suc-le-zero, le_of_suc-le-suc, mul-zero, mul-suc}
use native.Mathlib.Numerals.{add-one}
use native.Mathlib.Omega.{arith}
use borrow.Author.Tests.{leb-true}
use lib.Dec.{leb, ltb, eqb}
use lib.IntN.{ℤ, pos}
use lib.ListN.{length, get_or, take, drop, length-drop}
use lib.Seq.{drop-drop, get_or-drop, ext_get_or}
use Rattle.model.specs.Limits.{max_nodes, max_steps}
use Rattle.model.specs.Edition.{Edition, long_reads}
use Rattle.model.specs.Bytes.{number, part}
use Rattle.model.specs.Certificate.{Certificate, Step, Parsed, cons_parsed, has, read_potentials, step_width, masks_at, read_steps, is_end, with_steps, with_potentials, read_certificate_in, read_certificate}
use Rattle.model.specs.Check.{potential_at}
use Rattle.model.proofs.Plan.{both}
use Rattle.model.proofs.Tests.{cond-some}
use Rattle.words.specs.Packed.{packed, unpacked}
use Rattle.words.proofs.Numbers.{AreBytes}
use Rattle.words.proofs.Packed.{unpacked-packed}
use Rattle.words.proofs.Words.{drop-bytes}
use Rattle.theory.proofs.Reread.{cons-some, masks_fit, masks-part, steps-few}
use Rattle.certificate.specs.declared.Parts.{Parts}
use Rattle.certificate.specs.View.{head_command, step_command, potential_command, node_command, masks_width, head_size, potential_size, cycle_size, step_size, potential_in, step_in, p_in, q_in, potential_count_in, cycle_node_in, items, potentials_in, steps_in, certificate_of, form_of, steps_place, parts_of, in_place, IsRead, HasPotential, step_at}
use Rattle.certificate.proofs.Runs.{Reached, reached-start, reached-next, reached-all, reached-fault, has_room, potential-next, potential-fault, items-length, items_at}

-- ---- the potentials

-- where so many are read, each is reached
module _ (bs : List ℕ) (from n : ℕ) (fits : from ≤ length bs) (r : Parsed (List ℤ)) (read : read_potentials n (drop from bs) ≡ some r) where
  abbrev At : ℕ → ℕ → Type 0
  At i at = Reached read_potentials (potential_in bs) bs from potential_size n i at

  turn : (i at : ℕ) → i < n → At i at → (b : Bool) → has (drop at bs) potential_command potential_size ≡ b → At (i + 1) (at + potential_size)
  turn i at h here true e =
      reached-next read_potentials (potential_in bs) bs from potential_size n i at here h (has_room bs at _ _ here.inside e) (potential-next bs at e)
  turn i at h here false e =
      absurd (none-ne-some r (reached-fault read_potentials (potential_in bs) bs from potential_size n i at here h (potential-fault bs at e) ∙ read))

  reached : (i : ℕ) → i ≤ n → At i (from + potential_size * i)
  reached zero h = subst (At 0) (omega arith) (reached-start read_potentials (potential_in bs) bs from potential_size n fits)
  reached (suc i) h =
      let at = from + potential_size * i in
      subst (λ (k : ℕ). At k (from + potential_size * suc i)) (add-one i)
      (subst (At (i + 1)) (omega arith) (turn i at (omega arith) (reached i (omega arith)) (has (drop at bs) potential_command potential_size) refl))

  -- they stand within the bytes, are those in place, and the rest follows them
  potentials_placed : (from + potential_size * n ≤ length bs) × (r.value ≡ items (potential_in bs) from potential_size n) × (r.rest ≡ drop (from + potential_size * n) bs)
  unfolding read_potentials
  potentials_placed =
      let all = reached n (omega arith) in
      let same = sym (some-injective _ _ (reached-all read_potentials (potential_in bs) bs from potential_size n n _ all (omega arith) refl ∙ read)) in
      (all.inside, ap (λ s. s.value) same, ap (λ s. s.rest) same)

-- ---- the steps

module _ (e : Edition) where
  -- none, or a first one and the others
  first_step : (n : ℕ) (l : List ℕ) (r : Parsed (List Step)) → read_steps e (suc n) l ≡ some r →
      (r.value ≡ []) ⊎ ((t : Parsed (List Step)) × (read_steps e n (drop (step_width e) l) ≡ some t) × (step_width e ≤ length l) × (r.value ≡ step_in e l 0 ∷ t.value))
  unfolding read_steps
  first_step n l r h = by (eqb (get_or l 0 0) step_command) h
    where
      more : Option (Parsed (List Step))
      more = read_steps e n (drop (step_width e) l)

      by : (b : Bool) → cond b (cond (leb (step_width e) (length l)) (cons_parsed (step_in e l 0) more) none) (some (record { value = []; rest = l })) ≡ some r →
          (r.value ≡ []) ⊎ ((t : Parsed (List Step)) × (more ≡ some t) × (step_width e ≤ length l) × (r.value ≡ step_in e l 0 ∷ t.value))
      by true k =
          let two = cond-some (leb (step_width e) (length l)) (cons_parsed (step_in e l 0) more) k in
          let t = cons-some (step_in e l 0) more r two.1 in
          inr (t.0, t.1, leb-true (step_width e) (length l) two.0, ap (λ u. u.value) (sym t.2))
      by false k = inl (ap (λ u. u.value) (sym (some-injective _ _ k)))

  -- a step further on
  step_further : (l : List ℕ) (m at : ℕ) → step_in e (drop m l) at ≡ step_in e l (m + at)
  step_further l m at =
      let next : m + (at + 1) ≡ m + at + 1 = omega arith in
      (λ i. record { label = get_or-drop m l (at + 1) 0 i; masks = masks_at e (drop-drop at m l i) })
      ∙ ap (λ (k : ℕ). record { label = get_or l k 0; masks = masks_at e (drop (m + at) l) }) next

  -- each stands within the bytes, and is the one in place
  steps_placed : (n : ℕ) (l : List ℕ) (r : Parsed (List Step)) → read_steps e n l ≡ some r → (j : ℕ) → j < length r.value →
      (step_width e * j + step_width e ≤ length l) × (step_at r.value j ≡ step_in e l (step_width e * j))
  unfolding read_steps
  steps_placed zero l r h j below = absurd (not-suc-le-zero (subst (λ s. j < length s.value) (sym (some-injective _ _ h)) below))
  steps_placed (suc n) l r h j below =
      ⊎_elim (λ z. absurd (not-suc-le-zero (rw z at below)))
      (λ t. subst (λ ss. (step_width e * j + step_width e ≤ length l) × (step_at ss j ≡ step_in e l (step_width e * j))) (sym t.3)
      (at t.0.value j t.2 (steps_placed n (drop (step_width e) l) t.0 t.1) (rw t.3 at below)))
      (first_step n l r h)
    where
      at : (ss : List Step) (k : ℕ) → step_width e ≤ length l →
          ((i : ℕ) → i < length ss → (step_width e * i + step_width e ≤ length (drop (step_width e) l)) × (step_at ss i ≡ step_in e (drop (step_width e) l) (step_width e * i))) →
          k < suc (length ss) → (step_width e * k + step_width e ≤ length l) × (step_at (step_in e l 0 ∷ ss) k ≡ step_in e l (step_width e * k))
      at ss zero fits later low = (omega arith, ap (step_in e l) (sym (mul-zero (step_width e))))
      at ss (suc k) fits later low =
          let w = later k (le_of_suc-le-suc low) in
          let next : step_width e * suc k ≡ step_width e + step_width e * k = omega (arith, mul-suc (step_width e) k) in
          (omega (arith, w.0, length-drop (step_width e) l, next), w.1 ∙ step_further l (step_width e) (step_width e * k) ∙ ap (step_in e l) (sym next))

-- ---- the certificate

-- the counts are within their limits, and the potentials and the steps are those in place, within the bytes
pub record Placed (e : Edition) (bs : List ℕ) (c : Certificate) : Type 0 where
  pub some : 1 ≤ length c.potentials
  pub few : length c.potentials ≤ max_nodes
  pub few_steps : length c.steps ≤ max_steps
  pub inside : head_size + potential_size * length c.potentials ≤ length bs
  pub potentials : c.potentials ≡ potentials_in bs (length c.potentials)
  pub steps : c.steps ≡ steps_in e bs (steps_place c) (length c.steps)
  pub step_inside : (j : ℕ) → j < length c.steps → steps_place c + step_width e * j + step_width e ≤ length bs

-- the same of the potentials alone, and of the steps alone
record PlacedPotentials (bs : List ℕ) (zs : List ℤ) : Type 0 where
  some : 1 ≤ length zs
  few : length zs ≤ max_nodes
  inside : head_size + potential_size * length zs ≤ length bs
  potentials : zs ≡ potentials_in bs (length zs)

record PlacedSteps (e : Edition) (bs : List ℕ) (from : ℕ) (ss : List Step) : Type 0 where
  few : length ss ≤ max_steps
  steps : ss ≡ steps_in e bs from (length ss)
  inside : (j : ℕ) → j < length ss → from + step_width e * j + step_width e ≤ length bs

steps-read : (e : Edition) (bs : List ℕ) (from : ℕ) (r : Parsed (List Step)) → read_steps e max_steps (drop from bs) ≡ some r → PlacedSteps e bs from r.value
steps-read e bs from r h = record {
  few = steps-few e max_steps (drop from bs) r h;
  steps =
      ext_get_or (record { label = 0; masks = [] }) r.value (steps_in e bs from n) (sym (items-length (step_in e bs) from (step_width e) n))
      (λ j h. (each j h).1 ∙ step_further e bs from (step_width e * j) ∙ sym (items_at (step_in e bs) from (step_width e) n j (record { label = 0; masks = [] }) h));
  inside = λ j h. omega (arith, (each j h).0, length-drop from bs);
}
  where
    n : ℕ
    n = length r.value

    each : (j : ℕ) → j < n → (step_width e * j + step_width e ≤ length (drop from bs)) × (step_at r.value j ≡ step_in e (drop from bs) (step_width e * j))
    each = steps_placed e max_steps (drop from bs) r h

module _ (e : Edition) (bs : List ℕ) (p q : ℕ) (zs : List ℤ) (h : PlacedPotentials bs zs) where
  -- after the potentials, and after the head of a cycle
  abbrev place : Bool → ℕ
  place b = head_size + potential_size * length zs + cond b 0 cycle_size

  with_steps_lem : (v : ℕ) (ss : List Step) → PlacedSteps e bs (place (eqb q 0)) ss → Placed e bs (record { p = p; q = q; potentials = zs; node = v; steps = ss })
  with_steps_lem v ss w =
      record { some = h.some; few = h.few; few_steps = w.few; inside = h.inside; potentials = h.potentials; steps = w.steps; step_inside = w.inside }

  placed_steps : (c : Certificate) (v : ℕ) (o : Option (Parsed (List Step))) → read_steps e max_steps (drop (place (eqb q 0)) bs) ≡ o →
      with_steps p q zs v o ≡ some c → Placed e bs c
  placed_steps c v none is f = absurd (none-ne-some c f)
  placed_steps c v (some r) is f =
      subst (Placed e bs) (some-injective _ _ (cond-some (is_end r.rest && ltb 0 (length r.value)) _ f).1)
      (with_steps_lem v r.value (steps-read e bs (place (eqb q 0)) r is))

  placed_rest : (c : Certificate) (rest : List ℕ) → rest ≡ drop (head_size + potential_size * length zs) bs →
      with_potentials e p q (some (record { value = zs; rest = rest })) ≡ some c → Placed e bs c
  unfolding items
  placed_rest c rest after f = by (eqb q 0) refl f
    where
      bare : Certificate
      bare = record { p = p; q = q; potentials = zs; node = 0; steps = [] }

      full : Option Certificate
      full = with_steps p q zs (cycle_node_in rest 0) (read_steps e max_steps (drop cycle_size rest))

      further : eqb q 0 ≡ false → drop (place (eqb q 0)) bs ≡ drop cycle_size rest
      further z = ap (λ b. drop (place b) bs) z ∙ sym (ap (drop cycle_size) after ∙ drop-drop cycle_size (head_size + potential_size * length zs) bs)

      by : (b : Bool) → eqb q 0 ≡ b → cond b (cond (is_end rest) (some bare) none) (cond (has rest node_command cycle_size) full none) ≡ some c → Placed e bs c
      by true z k =
          subst (Placed e bs) (some-injective _ _ (cond-some (is_end rest) (some bare) k).1)
          (with_steps_lem 0 [] (record { few = omega arith; steps = refl; inside = λ j h. absurd (not-suc-le-zero h) }))
      by false z k =
          placed_steps c (cycle_node_in rest 0) (read_steps e max_steps (drop cycle_size rest)) (ap (read_steps e max_steps) (further z))
          (cond-some (has rest node_command cycle_size) full k).1

pub placed : (e : Edition) (bs : List ℕ) (c : Certificate) → read_certificate_in e bs ≡ some c → Placed e bs c
unfolding read_certificate_in
placed e bs c is =
    let n = potential_count_in bs in
    let three = cond-some (has bs head_command head_size && leb 1 n && leb n max_nodes) (with_potentials e (p_in bs) (q_in bs) (read_potentials n (drop head_size bs))) is in
    let two = both (has bs head_command head_size && leb 1 n) (leb n max_nodes) three.0 in
    let one = both (has bs head_command head_size) (leb 1 n) two.0 in
    by (has_room bs 0 head_command head_size (omega arith) one.0) (leb-true 1 n one.1) (leb-true n max_nodes two.1) (read_potentials n (drop head_size bs)) refl three.1
  where
    by : 0 + head_size ≤ length bs → 1 ≤ potential_count_in bs → potential_count_in bs ≤ max_nodes → (o : Option (Parsed (List ℤ))) → read_potentials (potential_count_in bs) (drop head_size bs) ≡ o →
        with_potentials e (p_in bs) (q_in bs) o ≡ some c → Placed e bs c
    by room low high none k f = absurd (none-ne-some c f)
    by room low high (some r) k f =
        let w = potentials_placed bs head_size (potential_count_in bs) (omega arith) r k in
        let size : length r.value ≡ potential_count_in bs = ap length w.1 ∙ items-length (potential_in bs) head_size potential_size (potential_count_in bs) in
        placed_rest e bs (p_in bs) (q_in bs) r.value
        (record { some = omega arith; few = omega arith; inside = rw size w.0; potentials = w.1 ∙ ap (potentials_in bs) (sym size) })
        c r.rest (w.2 ∙ ap (λ (k : ℕ). drop (head_size + potential_size * k) bs) (sym size)) f

-- ---- in place

-- the parts of a certificate that is read are those of it in place
pub certificate_placed : (e : Edition) (bs : List ℕ) (c : Certificate) → read_certificate_in e bs ≡ some c → certificate_of e bs (parts_of c) ≡ c
certificate_placed e bs c is =
    let w = placed e bs c is in
    λ i. record { p = c.p; q = c.q; potentials = sym w.potentials i; node = c.node; steps = sym w.steps i }

-- what was read, where the answer is known
pub read_as : (e : Edition) (bs : List ℕ) {f g : rust.Option Parts} → f ≡ in_place (read_certificate_in e bs) → f ≡ g → read_certificate_in e bs ≡ form_of e bs g
read_as e bs {f} {g} is k = by (read_certificate_in e bs) refl ∙ ap (form_of e bs) (sym is ∙ k)
  where
    by : (o : Option Certificate) → read_certificate_in e bs ≡ o → read_certificate_in e bs ≡ form_of e bs (in_place (read_certificate_in e bs))
    by none r = r ∙ ap (λ o. form_of e bs (in_place o)) (sym r)
    by (some c) r = r ∙ ap some (sym (certificate_placed e bs c r)) ∙ ap (λ o. form_of e bs (in_place o)) (sym r)

abbrev place_in : rust.Option Parts → ℕ
place_in None = 0
place_in (Some c) = c.from

pub is_read : (e : Edition) (bs : List ℕ) {f : rust.Option Parts} {c : Parts} → f ≡ in_place (read_certificate_in e bs) → f ≡ Some c → IsRead e bs c
is_read e bs is k = let same = read_as e bs is k in record { read = same; place = ap place_in (sym k ∙ is ∙ ap in_place same) }

-- a potential stands within the bytes
pub potential-inside : (bs : List ℕ) (i : ℕ) → HasPotential bs i → head_size + potential_size * i + potential_size ≤ length bs
potential-inside bs i h =
    let w = placed long_reads bs h.certificate h.read in
    omega (arith, w.inside, h.below)

-- and is the certificate's
pub potential-read : (bs : List ℕ) (i : ℕ) → HasPotential bs i → (c : Certificate) → read_certificate bs ≡ some c →
    potential_in bs (head_size + potential_size * i) ≡ potential_at c.potentials i
potential-read bs i h c e =
    let w = placed long_reads bs c e in
    let low : i < length c.potentials = subst (λ d. i < length d.potentials) (some-injective _ _ (sym h.read ∙ e)) h.below in
    sym (ap (λ zs. potential_at zs i) w.potentials ∙ items_at (potential_in bs) head_size potential_size (length c.potentials) i (pos 0) low)

-- the step is the one in place
pub step-read : (e : Edition) (bs : List ℕ) (c : Parts) (j : ℕ) → j < c.steps →
    step_at (certificate_of e bs c).steps j ≡ step_in e bs (c.from + step_width e * j)
step-read e bs c j h = items_at (step_in e bs) c.from (step_width e) c.steps j (record { label = 0; masks = [] }) h

-- and stands within the bytes
pub step-inside : (e : Edition) (bs : List ℕ) (c : Parts) (j : ℕ) → IsRead e bs c → j < c.steps → c.from + step_width e * j + step_width e ≤ length bs
step-inside e bs c j is h =
    omega (arith, is.place, (placed e bs (certificate_of e bs c) is.read).step_inside j (rw (items-length (step_in e bs) c.from (step_width e) c.steps) h))

-- its masks are packed in the number of their bytes
pub step-packed : (bs : List ℕ) (at : ℕ) → AreBytes bs → at + step_size ≤ length bs → unpacked (number (part bs (at + 2) masks_width)) ≡ masks_at long_reads (drop at bs)
unfolding packed
step-packed bs at h fits =
    let here = drop-bytes at bs h in
    let long : step_size ≤ length (drop at bs) = omega (arith, length-drop at bs) in
    let written : number (part bs (at + 2) masks_width) ≡ packed (masks_at long_reads (drop at bs)) =
    ap (λ l. number (take masks_width l)) (sym (drop-drop 2 at bs)) ∙ ap number (sym (masks-part long_reads (drop at bs) here long)) in
    ap unpacked written ∙ unpacked-packed (masks_at long_reads (drop at bs)) (masks_fit long_reads (drop at bs) here long).below refl
