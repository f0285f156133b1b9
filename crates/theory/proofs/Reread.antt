-- Bytes that are read as a certificate are the bytes written of it, in each edition.
-- Assumes nothing.
use mathlib.Core.Path.{◌≡◌, refl, sym, ◌∙◌, ap, ap₂, subst}
use mathlib.Core.Bool.{Bool, true, false, cond, ◌&&◌, false≢true}
use mathlib.Core.Option.{Option, none, some, none-ne-some, some-injective}
use mathlib.Core.List.{List, [], ◌∷◌, ◌++◌, append_assoc}
use Prim.Native.Nat.{ℕ, zero, suc, ◌+◌, ◌*◌, ◌^◌, ◌<◌, ◌≤◌}
use native.Mathlib.Nat.{mul-suc, mul-le-mul_left, one-le-pow}
use native.Mathlib.Decide.{dec_lt}
use native.Mathlib.Omega.{arith}
use lib.Dec.{leb, ltb, eqb}
use lib.IntN.{ℤ}
use lib.ListN.{length, get_or, take, drop, get_or-eq_default}
use lib.Seq.{take_at, drop-cons}
use borrow.Author.Tests.{leb-true, eqb-true, eqb-false}
use Rattle.model.specs.Limits.{max_tasks, max_nodes, max_steps}
use Rattle.model.specs.Edition.{Edition}
use Rattle.model.specs.Lists.{flat_map}
use Rattle.model.specs.Bytes.{number, bytes, signed, part}
use Rattle.model.specs.Certificate.{Step, Certificate, step_bytes, cycle_bytes, certificate_bytes_in, Parsed, cons_parsed, has, read_potentials, step_width, masks_at, read_steps, is_end, with_steps, with_potentials, read_certificate_in}
use Rattle.model.proofs.Lists.{flat_map-length, get_or-table}
use Rattle.model.proofs.Plan.{both}
use Rattle.model.proofs.Tests.{cond-some}
use Rattle.words.proofs.Complement.{complement-signed}
use Rattle.words.proofs.Fields.{field_lt, field-written, fields-written}
use Rattle.words.proofs.Numbers.{AreBytes, bytes-length}
use Rattle.words.proofs.Words.{drop-bytes}
use Rattle.theory.proofs.Form.{MasksFit, potential_bytes, bytes_grouped}

-- ---- parts of a reading

module _ {A : Type 0} where
  -- one element more, and what is read after it
  pub cons-some : (a : A) (o : Option (Parsed (List A))) (r : Parsed (List A)) → cons_parsed a o ≡ some r →
      (t : Parsed (List A)) × (o ≡ some t) × (record { value = a ∷ t.value; rest = t.rest } ≡ r)
  cons-some a none r h = absurd (none-ne-some r h)
  cons-some a (some t) r h = (t, refl, some-injective _ _ h)

-- a command stands before the rest
command-cons : (bs : List ℕ) (c n : ℕ) → has bs c (suc n) ≡ true → (c ∷ drop 1 bs ≡ bs) × (suc n ≤ length bs)
command-cons bs c n h =
    let two = both (eqb (get_or bs 0 0) c) (leb (suc n) (length bs)) h in
    let long : suc n ≤ length bs = leb-true (suc n) (length bs) two.1 in
    (ap (λ (x : ℕ). x ∷ drop 1 bs) (sym (eqb-true (get_or bs 0 0) c two.0)) ∙ sym (drop-cons bs 0 0 (omega arith)), long)

-- ---- the potentials

-- `12` potential is written as it was read
potential-written : (bs : List ℕ) → AreBytes bs → has bs 0x12 9 ≡ true → potential_bytes (signed (number (part bs 1 8))) ++ drop 9 bs ≡ bs
potential-written bs h t =
    let at = command-cons bs 0x12 8 t in
    ap (λ (n : ℕ). 0x12 ∷ (bytes 8 n ++ drop 9 bs)) (complement-signed (number (part bs 1 8)) (field_lt bs 1 8 h at.1))
    ∙ ap (λ l. 0x12 ∷ l) (field-written bs 1 8 h at.1) ∙ at.0

-- so many potentials, written as they were read
potentials-written : (n : ℕ) (bs : List ℕ) (r : Parsed (List ℤ)) → AreBytes bs → read_potentials n bs ≡ some r →
    (flat_map potential_bytes r.value ++ r.rest ≡ bs) × (length r.value ≡ n) × AreBytes r.rest
unfolding read_potentials
potentials-written zero bs r h e =
    subst (λ s. (flat_map potential_bytes s.value ++ s.rest ≡ bs) × (length s.value ≡ 0) × AreBytes s.rest) (some-injective _ _ e) (refl, refl, h)
potentials-written (suc n) bs r h e =
    let two = cond-some (has bs 0x12 9) (cons_parsed z (read_potentials n (drop 9 bs))) e in
    let t = cons-some z (read_potentials n (drop 9 bs)) r two.1 in
    let later = potentials-written n (drop 9 bs) t.0 (drop-bytes 9 bs h) t.1 in
    subst (λ s. (flat_map potential_bytes s.value ++ s.rest ≡ bs) × (length s.value ≡ suc n) × AreBytes s.rest) t.2 (
      append_assoc (potential_bytes z) (flat_map potential_bytes t.0.value) t.0.rest
          ∙ ap (λ l. potential_bytes z ++ l) later.0 ∙ potential-written bs h two.0,
      ap suc later.1,
      later.2,
    )
  where
    z : ℤ
    z = signed (number (part bs 1 8))

-- ---- the steps

module _ (e : Edition) where
  module _ (bs : List ℕ) (h : AreBytes bs) (long : step_width e ≤ length bs) where
    -- the masks of the step at the head fit their bytes
    pub masks_fit : MasksFit e (masks_at e bs)
    masks_fit = record { count = refl; below = λ i. by i (dec_lt i max_tasks) }
      where
        by : (i : ℕ) → Dec (i < max_tasks) → get_or (masks_at e bs) i 0 < 256 ^ e.mask_width
        by i (yes l) =
            rw (get_or-table (λ i. number (part bs (2 + e.mask_width * i) e.mask_width)) max_tasks i 0 l)
            (field_lt bs (2 + e.mask_width * i) e.mask_width h (omega (arith, mul-le-mul_left e.mask_width l, mul-suc e.mask_width i)))
        by i (no l) = rw (get_or-eq_default (masks_at e bs) 0 {n = i} (omega arith)) (one-le-pow e.mask_width 256 (omega arith))

    -- and are written as they were read
    masks-written : flat_map (bytes e.mask_width) (masks_at e bs) ++ drop (step_width e) bs ≡ drop 2 bs
    masks-written = fields-written bs 2 e.mask_width max_tasks h long

    pub masks-part : flat_map (bytes e.mask_width) (masks_at e bs) ≡ part bs 2 (e.mask_width * max_tasks)
    masks-part =
        sym (take_at (flat_map (bytes e.mask_width) (masks_at e bs)) (drop (step_width e) bs) (e.mask_width * max_tasks) (flat_map-length (bytes e.mask_width) e.mask_width (masks_at e bs) (bytes-length e.mask_width)))
        ∙ ap (take (e.mask_width * max_tasks)) masks-written

  -- the step at the head
  abbrev step_of : List ℕ → Step
  step_of bs = record { label = get_or bs 1 0; masks = masks_at e bs }

  -- `14` label and four masks are written as they were read
  step-written : (bs : List ℕ) → AreBytes bs → eqb (get_or bs 0 0) 0x14 ≡ true → step_width e ≤ length bs →
      step_bytes e (step_of bs) ++ drop (step_width e) bs ≡ bs
  step-written bs h t long =
      ap (λ l. 0x14 ∷ get_or bs 1 0 ∷ l) (masks-written bs h long)
      ∙ ap₂ (λ (x : ℕ) l. x ∷ l) (sym (eqb-true (get_or bs 0 0) 0x14 t)) (sym (drop-cons bs 1 0 (omega arith)))
      ∙ sym (drop-cons bs 0 0 (omega arith))

  -- steps are written as they were read
  steps-written : (n : ℕ) (bs : List ℕ) (r : Parsed (List Step)) → AreBytes bs → read_steps e n bs ≡ some r →
      flat_map (step_bytes e) r.value ++ r.rest ≡ bs
  unfolding read_steps
  steps-written zero bs r h f = ap (λ s. flat_map (step_bytes e) s.value ++ s.rest) (sym (some-injective _ _ f))
  steps-written (suc n) bs r h f = by (eqb (get_or bs 0 0) 0x14) refl f (λ t. steps-written n (drop (step_width e) bs) t (drop-bytes (step_width e) bs h))
    where
      more : Option (Parsed (List Step))
      more = read_steps e n (drop (step_width e) bs)

      by : (b : Bool) → eqb (get_or bs 0 0) 0x14 ≡ b →
          cond b (cond (leb (step_width e) (length bs)) (cons_parsed (step_of bs) more) none) (some (record { value = []; rest = bs })) ≡ some r →
          ((t : Parsed (List Step)) → more ≡ some t → flat_map (step_bytes e) t.value ++ t.rest ≡ drop (step_width e) bs) →
          flat_map (step_bytes e) r.value ++ r.rest ≡ bs
      by true here k later =
          let two = cond-some (leb (step_width e) (length bs)) (cons_parsed (step_of bs) more) k in
          let t = cons-some (step_of bs) more r two.1 in
          ap (λ u. flat_map (step_bytes e) u.value ++ u.rest) (sym t.2)
          ∙ append_assoc (step_bytes e (step_of bs)) (flat_map (step_bytes e) t.0.value) t.0.rest
          ∙ ap (λ l. step_bytes e (step_of bs) ++ l) (later t.0 t.1) ∙ step-written bs h here (leb-true (step_width e) (length bs) two.0)
      by false here k later = ap (λ u. flat_map (step_bytes e) u.value ++ u.rest) (sym (some-injective _ _ k))

-- ---- the certificate

-- `15` end stands alone
end-written : (bs : List ℕ) → is_end bs ≡ true → 0x15 ∷ [] ≡ bs
end-written [] h = absurd (false≢true h)
end-written (x ∷ []) h = ap (λ (y : ℕ). y ∷ []) (sym (eqb-true x 0x15 h))
end-written (x ∷ y ∷ bs) h =
    absurd (omega (arith, eqb-true (length (x ∷ y ∷ bs)) 1 (both (eqb (length (x ∷ y ∷ bs)) 1) (eqb x 0x15) h).0))

-- a certificate with this fraction and these potentials, whose further bytes are these
record Ends (e : Edition) (p q : ℕ) (zs : List ℤ) (bs : List ℕ) (c : Certificate) : Type 0 where
  is_p : c.p ≡ p
  is_q : c.q ≡ q
  is_potentials : c.potentials ≡ zs
  ends : cond (eqb c.q 0) [] (cycle_bytes e c) ++ (0x15 ∷ []) ≡ bs

module _ (e : Edition) (p q : ℕ) (zs : List ℤ) (bs : List ℕ) (h : AreBytes bs) where
  -- with a cycle
  cycle-ends : (c : Certificate) → eqb q 0 ≡ false → has bs 0x13 3 ≡ true → (o : Option (Parsed (List Step))) → read_steps e max_steps (drop 3 bs) ≡ o →
      with_steps p q zs (number (part bs 1 2)) o ≡ some c → Ends e p q zs bs c
  cycle-ends c z t none k f = absurd (none-ne-some c f)
  cycle-ends c z t (some r) k f =
      let two = cond-some (is_end r.rest && ltb 0 (length r.value)) _ f in
      let at = command-cons bs 0x13 2 t in
      let ended = end-written r.rest (both (is_end r.rest) (ltb 0 (length r.value)) two.0).0 in
      subst (Ends e p q zs bs) (some-injective _ _ two.1)
      (record {
        is_p = refl;
        is_q = refl;
        is_potentials = refl;
        ends =
            ap (λ b. cond b [] (cycle_bytes e (record { p = p; q = q; potentials = zs; node = number (part bs 1 2); steps = r.value })) ++ (0x15 ∷ [])) z
            ∙ append_assoc (0x13 ∷ bytes 2 (number (part bs 1 2))) (flat_map (step_bytes e) r.value) (0x15 ∷ [])
            ∙ ap (λ l. 0x13 ∷ (bytes 2 (number (part bs 1 2)) ++ (flat_map (step_bytes e) r.value ++ l))) ended
            ∙ ap (λ l. 0x13 ∷ (bytes 2 (number (part bs 1 2)) ++ l)) (steps-written e max_steps (drop 3 bs) r (drop-bytes 3 bs h) k)
            ∙ ap (λ l. 0x13 ∷ l) (field-written bs 1 2 h at.1) ∙ at.0;
      })

  -- with or without one
  rest-ends : (c : Certificate) → with_potentials e p q (some (record { value = zs; rest = bs })) ≡ some c → Ends e p q zs bs c
  rest-ends c f = by (eqb q 0) refl f
    where
      bare : Certificate
      bare = record { p = p; q = q; potentials = zs; node = 0; steps = [] }

      full : Option Certificate
      full = with_steps p q zs (number (part bs 1 2)) (read_steps e max_steps (drop 3 bs))

      by : (b : Bool) → eqb q 0 ≡ b → cond b (cond (is_end bs) (some bare) none) (cond (has bs 0x13 3) full none) ≡ some c → Ends e p q zs bs c
      by true z k =
          let two = cond-some (is_end bs) (some bare) k in
          subst (Ends e p q zs bs) (some-injective _ _ two.1)
          (record {
            is_p = refl;
            is_q = refl;
            is_potentials = refl;
            ends = ap (λ b. cond b [] (cycle_bytes e bare) ++ (0x15 ∷ [])) z ∙ end-written bs two.0;
          })
      by false z k = let two = cond-some (has bs 0x13 3) full k in cycle-ends c z two.0 (read_steps e max_steps (drop 3 bs)) refl two.1

-- `11` p q N are written as they were read
header_written : (bs : List ℕ) → AreBytes bs → has bs 0x11 11 ≡ true →
    0x11 ∷ (bytes 4 (number (part bs 1 4)) ++ (bytes 4 (number (part bs 5 4)) ++ (bytes 2 (number (part bs 9 2)) ++ drop 11 bs))) ≡ bs
header_written bs h t =
    let at = command-cons bs 0x11 10 t in
    let p = bytes 4 (number (part bs 1 4)) in
    let q = bytes 4 (number (part bs 5 4)) in
    ap (λ l. 0x11 ∷ (p ++ (q ++ l))) (field-written bs 9 2 h at.1) ∙ ap (λ l. 0x11 ∷ (p ++ l)) (field-written bs 5 4 h (omega (arith, at.1)))
    ∙ ap (λ l. 0x11 ∷ l) (field-written bs 1 4 h (omega (arith, at.1))) ∙ at.0

-- bytes that are read as a certificate are written of it again
pub bytes-read-back : (e : Edition) (bs : List ℕ) (c : Certificate) → AreBytes bs → read_certificate_in e bs ≡ some c → certificate_bytes_in e c ≡ bs
unfolding read_certificate_in
bytes-read-back e bs c h is =
    let three = cond-some (has bs 0x11 11 && leb 1 n && leb n max_nodes) (with_potentials e p q (read_potentials n (drop 11 bs))) is in
    let two = both (has bs 0x11 11 && leb 1 n) (leb n max_nodes) three.0 in
    by (both (has bs 0x11 11) (leb 1 n) two.0).0 (read_potentials n (drop 11 bs)) refl three.1
  where
    p : ℕ
    p = number (part bs 1 4)

    q : ℕ
    q = number (part bs 5 4)

    n : ℕ
    n = number (part bs 9 2)

    by : has bs 0x11 11 ≡ true → (o : Option (Parsed (List ℤ))) → read_potentials n (drop 11 bs) ≡ o → with_potentials e p q o ≡ some c →
        certificate_bytes_in e c ≡ bs
    by t none k f = absurd (none-ne-some c f)
    by t (some r) k f =
        let w = potentials-written n (drop 11 bs) r (drop-bytes 11 bs h) k in
        let x = rest-ends e p q r.value r.rest w.2 c f in
        bytes_grouped e c
        ∙ (λ i. 0x11 ∷ (bytes 4 (x.is_p i) ++ (bytes 4 (x.is_q i) ++ (bytes 2 (length (x.is_potentials i)) ++ (flat_map potential_bytes (x.is_potentials i) ++ x.ends i)))))
        ∙ ap₂ (λ (m : ℕ) l. 0x11 ∷ (bytes 4 p ++ (bytes 4 q ++ (bytes 2 m ++ l)))) w.1 w.0 ∙ header_written bs h t

-- ---- the steps of what is read

-- a certificate that is read has no more steps than the limit, and none where q = 0
pub record Few (c : Certificate) : Type 0 where
  pub steps : length c.steps ≤ max_steps
  pub bare : c.q ≡ 0 → (c.node ≡ 0) × (c.steps ≡ [])

module _ (e : Edition) where
  pub steps-few : (n : ℕ) (bs : List ℕ) (r : Parsed (List Step)) → read_steps e n bs ≡ some r → length r.value ≤ n
  unfolding read_steps
  steps-few zero bs r h = omega (arith, ap (λ s. length s.value) (some-injective _ _ h))
  steps-few (suc n) bs r h = by (eqb (get_or bs 0 0) 0x14) h (steps-few n (drop (step_width e) bs))
    where
      here : Step
      here = record { label = get_or bs 1 0; masks = masks_at e bs }

      more : Option (Parsed (List Step))
      more = read_steps e n (drop (step_width e) bs)

      by : (b : Bool) → cond b (cond (leb (step_width e) (length bs)) (cons_parsed here more) none) (some (record { value = []; rest = bs })) ≡ some r →
          ((t : Parsed (List Step)) → more ≡ some t → length t.value ≤ n) → length r.value ≤ suc n
      by true k later =
          let t = cons-some here more r (cond-some (leb (step_width e) (length bs)) (cons_parsed here more) k).1 in
          omega (arith, later t.0 t.1, ap (λ s. length s.value) t.2)
      by false k later = omega (arith, ap (λ s. length s.value) (some-injective _ _ k))

  few-cycle : (p q v : ℕ) (zs : List ℤ) (bs : List ℕ) (c : Certificate) → eqb q 0 ≡ false → (o : Option (Parsed (List Step))) → read_steps e max_steps bs ≡ o →
      with_steps p q zs v o ≡ some c → Few c
  few-cycle p q v zs bs c z none k f = absurd (none-ne-some c f)
  few-cycle p q v zs bs c z (some r) k f =
      subst Few (some-injective _ _ (cond-some (is_end r.rest && ltb 0 (length r.value)) _ f).1)
      (record { steps = steps-few max_steps bs r k; bare = λ n. absurd (eqb-false q 0 z n) })

  few-rest : (p q : ℕ) (c : Certificate) (o : Option (Parsed (List ℤ))) → with_potentials e p q o ≡ some c → Few c
  few-rest p q c none f = absurd (none-ne-some c f)
  few-rest p q c (some r) f = by (eqb q 0) refl f
    where
      bare : Certificate
      bare = record { p = p; q = q; potentials = r.value; node = 0; steps = [] }

      v : ℕ
      v = number (part r.rest 1 2)

      full : Option Certificate
      full = with_steps p q r.value v (read_steps e max_steps (drop 3 r.rest))

      by : (b : Bool) → eqb q 0 ≡ b → cond b (cond (is_end r.rest) (some bare) none) (cond (has r.rest 0x13 3) full none) ≡ some c → Few c
      by true z k =
          subst Few (some-injective _ _ (cond-some (is_end r.rest) (some bare) k).1) (record { steps = omega arith; bare = λ n. (refl, refl) })
      by false z k = few-cycle p q v r.value (drop 3 r.rest) c z (read_steps e max_steps (drop 3 r.rest)) refl (cond-some (has r.rest 0x13 3) full k).1

  pub read-few : (bs : List ℕ) (c : Certificate) → read_certificate_in e bs ≡ some c → Few c
  unfolding read_certificate_in
  read-few bs c h =
      let n : ℕ = number (part bs 9 2) in
      let p : ℕ = number (part bs 1 4) in
      let q : ℕ = number (part bs 5 4) in
      let zs : Option (Parsed (List ℤ)) = read_potentials n (drop 11 bs) in
      few-rest p q c zs (cond-some (has bs 0x11 11 && leb 1 n && leb n max_nodes) (with_potentials e p q zs) h).1
