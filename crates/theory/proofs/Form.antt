-- The form of a certificate: what is written of it is read as it, in each edition.
-- Assumes nothing.
use mathlib.Core.Path.{◌≡◌, refl, sym, ◌∙◌, ap, subst}
use mathlib.Core.Bool.{Bool, true, false, cond, ◌&&◌, false≢true}
use mathlib.Core.Logic.{⊎_elim}
use mathlib.Core.Option.{Option, none, some, none-ne-some, some-injective}
use mathlib.Core.List.Memᴰ
use mathlib.Core.List.{List, [], ◌∷◌, ◌++◌, map, append_assoc, Memᴰ}
use Prim.Native.Nat.{ℕ, zero, suc, ◌*◌, ◌^◌, ◌<◌, ◌≤◌}
use native.Mathlib.Nat.{one-le-pow, lt_of_lt_of_le, not-suc-le-zero, le_of_suc-le-suc}
use native.Mathlib.Decide.{dec_lt}
use native.Mathlib.Omega.{arith}
use lib.Dec.{leb, eqb}
use lib.IntN.{ℤ, pos, negsuc}
use lib.ListN.{length, get_or, take, drop, replicate, length-append, length-replicate}
use lib.Seq.{length-take-le, drop_at, drop-drop, ext_get_or}
use lib.Signed.{mag}
use borrow.Author.Tests.{leb-true, lt-ltb, le-leb, eqb-true, eqb-false, eq-eqb, ne_eqb}
use Rattle.model.specs.Limits.{max_tasks, max_nodes, max_steps, max_potential}
use Rattle.model.specs.Edition.{Edition, WideEnough}
use Rattle.model.specs.Lists.{flat_map, up_from, all, same_numbers}
use Rattle.model.specs.Bytes.{number, bytes, signed, complement, part}
use Rattle.model.specs.Plan.{Plan}
use Rattle.model.specs.Graph.{Node, Edge, start, edges, nodes, too_large}
use Rattle.model.specs.Certificate.{Step, Certificate, step_bytes, cycle_bytes, certificate_bytes_in, Parsed, cons_parsed, read_potentials, step_width, masks_at, read_steps, is_end, with_steps, with_potentials, read_certificate_in}
use Rattle.model.specs.Check.{within_limit, potentials_ok, padded, find_step, Reached, follow, closes}
use Rattle.model.proofs.Lists.{flat_map-length, get_or-table}
use Rattle.model.proofs.Plan.{both}
use Rattle.words.proofs.Complement.{complement-lt, signed-complement}
use Rattle.words.proofs.Fields.{field-read, field-rest, field_at}
use Rattle.words.proofs.Numbers.{bytes-length}
use Rattle.model.proofs.Tests.{true-and, all-each, same_numbers_lem}
use Rattle.theory.proofs.Nodes.{some-node, nodes_fit}
use Rattle.theory.proofs.Patterns.{WindowsWithin, mask_below}
use Rattle.theory.proofs.Steps.{find_step_lem, after, closes_parts, cycle-closes}
use Rattle.theory.proofs.Accepted.{Accepted}
use Rattle.theory.proofs.Gains.{fraction-fits}

-- a step has a mask for each task that a plan may have, and each fits its bytes
pub record MasksFit (e : Edition) (ms : List ℕ) : Type 0 where
  pub count : length ms ≡ max_tasks
  pub below : (i : ℕ) → get_or ms i 0 < 256 ^ e.mask_width

-- each number fits its bytes, and "`13` and `14` are missing exactly when q = 0"
pub record Formed (e : Edition) (c : Certificate) : Type 0 where
  pub small_p : c.p < 2 ^ 32
  pub small_q : c.q < 2 ^ 32
  pub some : 1 ≤ length c.potentials
  pub few : length c.potentials ≤ max_nodes
  pub potentials : (z : ℤ) → Memᴰ z c.potentials → mag z < 2 ^ 63
  pub node : c.node < 2 ^ 16
  pub masks : (s : Step) → Memᴰ s c.steps → MasksFit e s.masks
  pub few_steps : length c.steps ≤ max_steps
  pub cycle : 0 < c.q → 0 < length c.steps
  pub bare : c.q ≡ 0 → (c.node ≡ 0) × (c.steps ≡ [])

-- ---- the potentials

-- `12` potential
abbrev pub potential_bytes : ℤ → List ℕ
potential_bytes z = 0x12 ∷ bytes 8 (complement z)

-- the potentials are read
potentials-read : (zs : List ℤ) (rest : List ℕ) → ((z : ℤ) → Memᴰ z zs → mag z < 2 ^ 63) →
    read_potentials (length zs) (flat_map potential_bytes zs ++ rest) ≡ some (record { value = zs; rest = rest })
unfolding read_potentials
potentials-read [] rest h = refl
potentials-read (z ∷ zs) rest h =
    ap (λ l. read_potentials (suc (length zs)) (0x12 ∷ l)) (append_assoc (bytes 8 (complement z)) (flat_map potential_bytes zs) rest)
    ∙ one (flat_map potential_bytes zs ++ rest) ∙ ap (cons_parsed z) (potentials-read zs rest (λ y m. h y (Memᴰ.tail m)))
  where
    small : mag z < 2 ^ 63
    small = h z (Memᴰ.head refl)

    one : (l : List ℕ) → read_potentials (suc (length zs)) (potential_bytes z ++ l) ≡ cons_parsed z (read_potentials (length zs) l)
    one l = λ i. cond (room i) (cons_parsed (value i) (read_potentials (length zs) (field-rest 8 (complement z) l i))) none
      where
        room : leb 9 (suc (length (bytes 8 (complement z) ++ l))) ≡ true
        room = le-leb 9 (suc (length (bytes 8 (complement z) ++ l))) (simp (length-append, bytes-length) (omega arith))

        value : signed (number (take 8 (bytes 8 (complement z) ++ l))) ≡ z
        value = ap signed (field-read 8 (complement z) l (complement-lt z small)) ∙ signed-complement z small

-- ---- the steps

-- the masks are read
masks-read : (e : Edition) (ms : List ℕ) (label : ℕ) (rest : List ℕ) → MasksFit e ms →
    masks_at e (0x14 ∷ label ∷ (flat_map (bytes e.mask_width) ms ++ rest)) ≡ ms
masks-read e ms label rest fit =
    sym (λ j. map (λ i. number (take k (drop-drop (k * i) 2 (0x14 ∷ label ∷ body) j))) (up_from 0 max_tasks))
    ∙ ext_get_or 0 (map (λ i. number (part body (k * i) k)) (up_from 0 max_tasks)) ms (sym fit.count) each
  where
    k : ℕ
    k = e.mask_width

    body : List ℕ
    body = flat_map (bytes k) ms ++ rest

    each : (i : ℕ) → i < max_tasks → get_or (map (λ i. number (part body (k * i) k)) (up_from 0 max_tasks)) i 0 ≡ get_or ms i 0
    each i h = get_or-table (λ i. number (part body (k * i) k)) max_tasks i 0 h ∙ field_at k ms rest i (omega (arith, fit.count)) (fit.below i)

-- steps are read, up to where no `14` stands
steps-read : (e : Edition) (n : ℕ) (ss : List Step) (rest : List ℕ) → length ss ≤ n → ((s : Step) → Memᴰ s ss → MasksFit e s.masks) →
    eqb (get_or rest 0 0) 0x14 ≡ false → read_steps e n (flat_map (step_bytes e) ss ++ rest) ≡ some (record { value = ss; rest = rest })
unfolding read_steps
steps-read e zero [] rest h fit none_here = refl
steps-read e zero (s ∷ ss) rest h fit none_here = absurd (not-suc-le-zero h)
steps-read e (suc n) [] rest h fit none_here = λ i. cond (none_here i) (cond (leb (step_width e) (length rest)) more none) (some (record { value = []; rest = rest }))
  where
    more : Option (Parsed (List Step))
    more = cons_parsed (record { label = get_or rest 1 0; masks = masks_at e rest }) (read_steps e n (drop (step_width e) rest))
steps-read e (suc n) (s ∷ ss) rest h fit none_here =
    ap (λ l. read_steps e (suc n) (0x14 ∷ s.label ∷ l)) (append_assoc masks (flat_map (step_bytes e) ss) rest)
    ∙ one (flat_map (step_bytes e) ss ++ rest) ∙ ap (cons_parsed s) (steps-read e n ss rest (le_of_suc-le-suc h) (λ t m. fit t (Memᴰ.tail m)) none_here)
  where
    masks : List ℕ
    masks = flat_map (bytes e.mask_width) s.masks

    fits : MasksFit e s.masks
    fits = fit s (Memᴰ.head refl)

    width : length masks ≡ e.mask_width * max_tasks
    width = flat_map-length (bytes e.mask_width) e.mask_width s.masks (bytes-length e.mask_width) ∙ ap (λ (n : ℕ). e.mask_width * n) fits.count

    one : (l : List ℕ) → read_steps e (suc n) (step_bytes e s ++ l) ≡ cons_parsed s (read_steps e n l)
    one l = λ i. cond (room i) (cons_parsed (record { label = s.label; masks = masks-read e s.masks s.label l fits i }) (read_steps e n (left i))) none
      where
        room : leb (step_width e) (length (step_bytes e s ++ l)) ≡ true
        room = le-leb (step_width e) (length (step_bytes e s ++ l)) (omega (arith, length-append masks l, width))

        left : drop (step_width e) (step_bytes e s ++ l) ≡ l
        left = sym (drop-drop (e.mask_width * max_tasks) 2 (step_bytes e s ++ l)) ∙ drop_at masks l (e.mask_width * max_tasks) width

-- ---- the certificate

-- `11` p q N
header_read : (e : Edition) (p q n : ℕ) (rest : List ℕ) → p < 2 ^ 32 → q < 2 ^ 32 → 1 ≤ n → n ≤ max_nodes →
    read_certificate_in e (0x11 ∷ (bytes 4 p ++ (bytes 4 q ++ (bytes 2 n ++ rest)))) ≡ with_potentials e p q (read_potentials n rest)
unfolding read_certificate_in
header_read e p q n rest hp hq least most = λ i. cond (tests i) (with_potentials e (is_p i) (is_q i) (read_potentials (is_n i) (left i))) none
  where
    after_p : List ℕ
    after_p = bytes 4 q ++ (bytes 2 n ++ rest)

    body : List ℕ
    body = bytes 4 p ++ after_p

    two : drop 8 body ≡ bytes 2 n ++ rest
    two = sym (drop-drop 4 4 body) ∙ ap (drop 4) (field-rest 4 p after_p) ∙ field-rest 4 q (bytes 2 n ++ rest)

    is_p : number (take 4 body) ≡ p
    is_p = field-read 4 p after_p hp

    is_q : number (take 4 (drop 4 body)) ≡ q
    is_q = ap (λ l. number (take 4 l)) (field-rest 4 p after_p) ∙ field-read 4 q (bytes 2 n ++ rest) hq

    is_n : number (take 2 (drop 8 body)) ≡ n
    is_n = ap (λ l. number (take 2 l)) two ∙ field-read 2 n rest (omega arith)

    left : drop 10 body ≡ rest
    left = sym (drop-drop 2 8 body) ∙ ap (drop 2) two ∙ field-rest 2 n rest

    long : 11 ≤ suc (length body)
    long = simp (length-append, bytes-length) (omega arith)

    tests : (leb 11 (suc (length body)) && leb 1 (number (take 2 (drop 8 body))) && leb (number (take 2 (drop 8 body))) max_nodes) ≡ true
    tests =
        ap (λ m. leb 11 (suc (length body)) && leb 1 m && leb m max_nodes) is_n
        ∙ true-and (leb 11 (suc (length body)) && leb 1 n) (leb n max_nodes)
        (true-and (leb 11 (suc (length body))) (leb 1 n) (le-leb 11 (suc (length body)) long) (le-leb 1 n least)) (le-leb n max_nodes most)

-- `15` end alone
end_read : (e : Edition) (c : Certificate) → Formed e c → c.q ≡ 0 →
    with_potentials e c.p c.q (some (record { value = c.potentials; rest = 0x15 ∷ [] })) ≡ some c
end_read e c f z =
    let two = f.bare z in
    λ i. cond (eq-eqb c.q 0 z i) (some (record { p = c.p; q = c.q; potentials = c.potentials; node = sym two.0 i; steps = sym two.1 i })) none

-- `13` node, the steps and `15` end
cycle-read : (e : Edition) (c : Certificate) → Formed e c → 0 < c.q →
    with_potentials e c.p c.q (some (record { value = c.potentials; rest = cycle_bytes e c ++ (0x15 ∷ []) })) ≡ some c
cycle-read e c f h =
    (λ i. cond (ne_eqb c.q 0 (omega arith) i) bare (cond (room i) (with_steps c.p c.q c.potentials (is_node i) (is_steps i)) none))
    ∙ (λ i. cond (lt-ltb 0 (length c.steps) (f.cycle h) i) (some c) none)
  where
    steps : List ℕ
    steps = flat_map (step_bytes e) c.steps ++ (0x15 ∷ [])

    body : List ℕ
    body = bytes 2 c.node ++ flat_map (step_bytes e) c.steps ++ (0x15 ∷ [])

    grouped : body ≡ bytes 2 c.node ++ steps
    grouped = append_assoc (bytes 2 c.node) (flat_map (step_bytes e) c.steps) (0x15 ∷ [])

    bare : Option Certificate
    bare = cond (is_end (0x13 ∷ body)) (some (record { p = c.p; q = c.q; potentials = c.potentials; node = 0; steps = [] })) none

    room : leb 3 (suc (length body)) ≡ true
    room = le-leb 3 (suc (length body)) (simp (length-append, bytes-length) (omega arith))

    is_node : number (take 2 body) ≡ c.node
    is_node = ap (λ l. number (take 2 l)) grouped ∙ field-read 2 c.node steps f.node

    is_steps : read_steps e max_steps (drop 2 body) ≡ some (record { value = c.steps; rest = 0x15 ∷ [] })
    is_steps =
        ap (λ l. read_steps e max_steps (drop 2 l)) grouped ∙ ap (read_steps e max_steps) (field-rest 2 c.node steps)
        ∙ steps-read e max_steps c.steps (0x15 ∷ []) f.few_steps f.masks refl

-- a certificate's bytes, each part with all that follows it
pub bytes_grouped : (e : Edition) (c : Certificate) →
    certificate_bytes_in e c ≡ 0x11 ∷ (bytes 4 c.p ++ (bytes 4 c.q ++ (bytes 2 (length c.potentials)
    ++ (flat_map potential_bytes c.potentials ++ (cond (eqb c.q 0) [] (cycle_bytes e c) ++ (0x15 ∷ []))))))
unfolding certificate_bytes_in
bytes_grouped e c = simp append_assoc

-- a certificate of this form is read from its bytes
pub certificate-read-back : (e : Edition) (c : Certificate) → Formed e c → read_certificate_in e (certificate_bytes_in e c) ≡ some c
certificate-read-back e c f =
    ap (read_certificate_in e) (bytes_grouped e c)
    ∙ header_read e c.p c.q (length c.potentials) _ f.small_p f.small_q f.some f.few
    ∙ ap (with_potentials e c.p c.q) (potentials-read c.potentials _ f.potentials) ∙ by (eqb c.q 0) refl
  where
    by : (b : Bool) → eqb c.q 0 ≡ b →
        with_potentials e c.p c.q (some (record { value = c.potentials; rest = cond b [] (cycle_bytes e c) ++ (0x15 ∷ []) })) ≡ some c
    by true z = end_read e c f (eqb-true c.q 0 z)
    by false z = cycle-read e c f (omega (arith, eqb-false c.q 0 z))

-- ---- what the checker accepts

-- a step has a mask for each task that a plan may have
pub padded-length : (ms : List ℕ) → length (padded ms) ≡ max_tasks
padded-length ms = length-take-le max_tasks (ms ++ replicate max_tasks 0) (simp (length-append, length-replicate) (omega arith))

-- zeros that stand for missing masks are below any bound
pad_below : (k j n : ℕ) (ms : List ℕ) → 0 < n → ((i : ℕ) → get_or ms i 0 < n) → (i : ℕ) → get_or (take k (ms ++ replicate j 0)) i 0 < n
pad_below zero j n ms z h i = z
pad_below (suc k) zero n [] z h i = z
pad_below (suc k) (suc j) n [] z h zero = z
pad_below (suc k) (suc j) n [] z h (suc i) = pad_below k j n [] z h i
pad_below (suc k) j n (m ∷ ms) z h zero = h 0
pad_below (suc k) j n (m ∷ ms) z h (suc i) = pad_below k j n ms z (λ x. h (suc x)) i

-- steps that gain are some
follow-some : (P : Plan) (ss : List Step) (r r' : Reached) → follow P ss r ≡ some r' → r.ideal < r'.ideal → 0 < length ss
unfolding follow
follow-some P [] r r' h l = absurd (omega (arith, ap (λ t. t.ideal) (some-injective _ _ h)))
follow-some P (s ∷ ss) r r' h l = omega arith

-- a potential within the limit fits its bytes
limit_fits : (z : ℤ) → within_limit z ≡ true → mag z < 2 ^ 63
limit_fits (pos n) h = omega (arith, leb-true n max_potential h)
limit_fits (negsuc n) h = omega (arith, leb-true (suc n) max_potential h)

module _ (e : Edition) (wide : WideEnough e) (P : Plan) (windows : WindowsWithin P e.window) where
  -- an edge's masks fit their bytes, as a step has them
  pub edge-masks : (u : Node) (f : Edge) → Memᴰ f (edges P u) → MasksFit e (padded f.masks)
  edge-masks u f m = record {
    count = padded-length f.masks;
    below = pad_below max_tasks max_tasks (256 ^ e.mask_width) f.masks (one-le-pow e.mask_width 256 (omega arith))
        (λ i. lt_of_lt_of_le (mask_below P e.window windows u f m i) wide.masks);
  }

  -- so do those of steps that lead on
  follow-masks : (ss : List Step) (r r' : Reached) → follow P ss r ≡ some r' → (s : Step) → Memᴰ s ss → MasksFit e s.masks
  unfolding follow
  follow-masks [] r r' h s m = absurd (Memᴰ.not-nil m)
  follow-masks (t ∷ ss) r r' h s m = by (find_step t (edges P r.at)) refl h (λ u. follow-masks ss u r')
    where
      by : (o : Option Edge) → find_step t (edges P r.at) ≡ o → elim o [ none ↦ none | some f ↦ follow P ss (after r f) ] ≡ some r' →
          ((u : Reached) → follow P ss u ≡ some r' → (s : Step) → Memᴰ s ss → MasksFit e s.masks) → MasksFit e s.masks
      by none f k later = absurd (none-ne-some r' k)
      by (some f) found k later =
          let here = find_step_lem t (edges P r.at) f found in
          let two = both (eqb f.label t.label) (same_numbers (padded f.masks) t.masks) here.1 in
          ⊎_elim
          (λ p. subst (MasksFit e) ((same_numbers_lem (padded f.masks) t.masks).0 two.1 ∙ ap (λ u. u.masks) (sym p)) (edge-masks r.at f here.0))
          (later (after r f) k s) (Memᴰ.cases_cons m)

  -- steps that close are some, and their masks fit
  closes-steps : (p q : ℕ) (u : Node) (ss : List Step) (o : Option Reached) →
      follow P ss (record { at = u; kept = 0; ideal = 0 }) ≡ o → closes p q u o ≡ true →
      (0 < length ss) × ((s : Step) → Memᴰ s ss → MasksFit e s.masks)
  closes-steps p q u ss none f h = absurd (false≢true h)
  closes-steps p q u ss (some r) f h =
      let from : Reached = record { at = u; kept = 0; ideal = 0 } in
      (follow-some P ss from r f (closes_parts p q u r h).1, follow-masks ss from r f)

  -- what the checker finds true of a certificate makes it of this form, where its steps are no more than the limit and are missing for q = 0
  pub accepted_formed : too_large P ≡ false → (c : Certificate) {p q N K : ℕ} → Accepted P c p q N K →
      length c.steps ≤ max_steps → (c.q ≡ 0 → (c.node ≡ 0) × (c.steps ≡ [])) → Formed e c
  unfolding potentials_ok
  accepted_formed fits c a few bare = record {
    small_p = omega (arith, (fraction-fits c.p c.q a.fraction).0);
    small_q = omega (arith, (fraction-fits c.p c.q a.fraction).1);
    some = omega (arith, a.counted, some-node P);
    few = omega (arith, a.counted, nodes_fit P fits);
    potentials = λ z m. limit_fits z ((all-each within_limit c.potentials).0 (both (all within_limit c.potentials) _ a.potentials).0 z m);
    node = by_node (dec_lt 0 c.q);
    masks = by_masks (dec_lt 0 c.q);
    few_steps = few;
    cycle = λ h. (closed h).0;
    bare = bare;
  }
    where
      u : Node
      u = get_or (nodes P) c.node start

      closed : 0 < c.q → (0 < length c.steps) × ((s : Step) → Memᴰ s c.steps → MasksFit e s.masks)
      closed h = closes-steps c.p c.q u c.steps _ refl (cycle-closes P (nodes P) c h a.cycle).1

      by_node : Dec (0 < c.q) → c.node < 2 ^ 16
      by_node (yes h) = omega (arith, (cycle-closes P (nodes P) c h a.cycle).0, nodes_fit P fits)
      by_node (no h) = omega (arith, (bare (omega arith)).0)

      by_masks : Dec (0 < c.q) → (s : Step) → Memᴰ s c.steps → MasksFit e s.masks
      by_masks (yes h) s m = (closed h).1 s m
      by_masks (no h) s m = absurd (Memᴰ.not-nil (subst (λ ss. Memᴰ s ss) (bare (omega arith)).1 m))
