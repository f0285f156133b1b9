-- Best edges along the first steps of a cycle: one step more, their sums and their bytes. Assumes nothing.
use mathlib.Core.Path.{◌≡◌, refl, sym, ap, subst, subst₂, ◌∙◌}
use mathlib.Core.Bool.{Bool, true, false, cond}
use mathlib.Core.List.{List, [], ◌∷◌, ◌++◌, map}
use Prim.Native.Nat.{ℕ, zero, suc, ◌+◌, ◌*◌, ◌≤◌, ◌<◌}
use native.Mathlib.Nat.{not-suc-le-zero}
use native.Mathlib.Numerals.{add-one}
use native.Mathlib.Omega.{arith}
use lib.Dec.{eqb}
use lib.ListN.{length, get_or, take, drop, length-map, drop_of_length-le}
use lib.Seq.{length-take-le, take_all, take-suc, drop-cons}
use borrow.Author.Tests.{eqb-true, eqb-false}
use Rattle.model.specs.Bytes.{overwrite}
use Rattle.model.specs.Edition.{long_reads}
use Rattle.model.specs.Certificate.{step_bytes}
use Rattle.model.specs.Graph.{Edge}
use Rattle.model.specs.Limits.{max_tasks, max_value}
use Rattle.model.specs.Lists.{flat_map, up_from}
use Rattle.model.specs.Plan.{Plan}
use Rattle.model.specs.Walk.{kept, ideal}
use Rattle.model.proofs.Lists.{flat_map-length, length-up_from, get_or-table}
use Rattle.words.proofs.Memory.{overwrite-none}
use Rattle.theory.specs.Search.{Taken}
use Rattle.theory.specs.Lightest.{Best, Along, here, go, step_of}
use Rattle.theory.proofs.Circuits.{along_walk, first_node, along-length, along-first, along-same}
use Rattle.theory.proofs.Cycles.{sum_of-append}
use Rattle.theory.proofs.Form.{padded-length}
use Rattle.theory.proofs.Gains.{walk_kept-le, walk_ideal-le}
use Rattle.theory.proofs.Sound.{PlanSound}
use Rattle.certificate.specs.View.{step_size}
use Rattle.certificate_bytes.specs.Pieces.{packed_step}
use Rattle.certificate_bytes.proofs.Pieces.{step-length, overwrite_piece}
use Rattle.policy.specs.declared.Rules.{Rules}
use Rattle.links.specs.Links.{taken_in, taken_of, first_steps}
use Rattle.links.specs.declared.Taken as links
use Rattle.circuit.specs.declared.BestEdge.{BestEdge}
use Rattle.circuit.specs.Circuit.{Linked, StandsFor, node_after, Turns, Writes}

module _ {P : Plan} where
  -- one step more
  along-more : {u x v l : ℕ} {ss : List Taken} {es : List Edge} {e : Edge} → Along P u ss x es → Best P x l v e →
      Along P u (ss ++ (record { node = x; label = l } ∷ [])) v (es ++ (e ∷ []))
  along-more here b = go b here
  along-more (go c a) b = go c (along-more a b)

  -- each step has a best edge, from its node to the one after it
  along-step : {u v : ℕ} {ss : List Taken} {es : List Edge} → Along P u ss v es → (i : ℕ) (d : Taken) → i < length ss →
      (e : Edge) × Best P (get_or ss i d).node (get_or ss i d).label (first_node (drop (suc i) ss) v) e
  along-step here i d h = absurd (not-suc-le-zero h)
  along-step (go {u = u} {l = l} {e = e} b a) zero d h = (e, subst (λ (x : ℕ). Best P u l x e) (along-first a) b)
  along-step (go b a) (suc i) d h = along-step a i d (omega arith)

-- ---- the steps in memory

module _ (m : List ℕ) (k : ℕ) where
  abbrev steps : List Taken
  steps = first_steps m k

  pub steps-length : length steps ≡ k
  steps-length = length-map (up_from 0 k) (λ i. taken_of (taken_in m i)) ∙ length-up_from 0 k

  steps-at : (i : ℕ) → i < k → get_or steps i (taken_of (taken_in m 0)) ≡ taken_of (taken_in m i)
  steps-at i = get_or-table (λ j. taken_of (taken_in m j)) k i (taken_of (taken_in m 0))

  -- where the steps from the step i on start, to v
  from_step : (v i : ℕ) → i < k → first_node (drop i steps) v ≡ (taken_in m i).node
  from_step v i h =
      ap (λ ss. first_node ss v) (drop-cons steps i (taken_of (taken_in m 0)) (omega (arith, steps-length)))
      ∙ ap (λ (s : Taken). s.node) (steps-at i h)

  from_end : (v i : ℕ) → k ≤ i → first_node (drop i steps) v ≡ v
  from_end v i h = ap (λ ss. first_node ss v) (drop_of_length-le steps {i = i} (omega (arith, steps-length)))

  -- a node of a step follows each step
  after-below : (n i : ℕ) → ((j : ℕ) → j < k → (taken_in m j).node < n) → i < k → node_after m k i < n
  after-below n i below h = by (eqb (i + 1) k) refl
    where
      by : (b : Bool) → eqb (i + 1) k ≡ b → cond b (taken_in m 0).node (taken_in m (i + 1)).node < n
      by true e = below 0 (omega arith)
      by false e = below (i + 1) (omega (arith, eqb-false (i + 1) k e))

  -- best edges along the first i steps
  abbrev Part : Plan → ℕ → ℕ → List Edge → Type 0
  Part P v i fs = Along P v (take i steps) (first_node (drop i steps) v) fs

  module _ {P : Plan} {v : ℕ} {es : List Edge} (a : Along P v steps v es) where
    -- where the steps after the step i start
    after_is : (i : ℕ) → i < k → node_after m k i ≡ first_node (drop (suc i) steps) v
    after_is i h = by (eqb (i + 1) k) refl
      where
        by : (b : Bool) → eqb (i + 1) k ≡ b → cond b (taken_in m 0).node (taken_in m (i + 1)).node ≡ first_node (drop (suc i) steps) v
        by true e =
            sym (from_end v (suc i) (omega (arith, eqb-true (i + 1) k e)) ∙ along-first a ∙ from_step v 0 (omega arith))
        by false e =
            ap (λ (j : ℕ). (taken_in m j).node) (add-one i) ∙ sym (from_step v (suc i) (omega (arith, eqb-false (i + 1) k e)))

    -- each step has a best edge to the node after it
    step-best : (i : ℕ) → i < k → (e : Edge) × Best P (taken_in m i).node (taken_in m i).label (node_after m k i) e
    step-best i h =
        let s = along-step a i (taken_of (taken_in m 0)) (omega (arith, steps-length)) in
        (s.0, subst₂ (λ (s' : Taken) (x : ℕ). Best P s'.node s'.label x s.0) (steps-at i h) (sym (after_is i h)) s.1)

    part-start : Part P v 0 []
    part-start = subst (λ (x : ℕ). Along P v [] x []) (along-first a) here

    part-more : {fs : List Edge} {f : Edge} (i : ℕ) → i < k → Part P v i fs →
        Best P (taken_in m i).node (taken_in m i).label (node_after m k i) f → Part P v (i + 1) (fs ++ (f ∷ []))
    part-more {fs} {f} i h p b =
        let first : Along P v (take i steps) (taken_in m i).node fs = subst (λ (x : ℕ). Along P v (take i steps) x fs) (from_step v i h) p in
        let more = along-more first b in
        let same : take i steps ++ (taken_of (taken_in m i) ∷ []) ≡ take (suc i) steps =
        sym (take-suc steps i (taken_of (taken_in m 0)) (omega (arith, steps-length)) ∙ ap (λ s. take i steps ++ (s ∷ [])) (steps-at i h)) in
        subst (λ (j : ℕ). Part P v j (fs ++ (f ∷ []))) (sym (add-one i))
        (subst₂ (λ ss (x : ℕ). Along P v ss x (fs ++ (f ∷ []))) same (after_is i h) more)

    part-all : {fs : List Edge} (i : ℕ) → k ≤ i → Part P v i fs → Along P v steps v fs
    part-all {fs} i h p =
        subst₂ (λ ss (x : ℕ). Along P v ss x fs) (take_all i steps (omega (arith, steps-length))) (from_end v i h) p

  part_length : {P : Plan} {v : ℕ} {fs : List Edge} (i : ℕ) → i ≤ k → Part P v i fs → length fs ≡ i
  part_length i h p = along-length p ∙ length-take-le i steps (omega (arith, steps-length))

-- the step i of a cycle, as a label from its node to the one after it
pub turns-linked : {P : Plan} {r : Rules} {next m : List ℕ} {n k v : ℕ} {es : List Edge} → Turns P r next m n k v es → {i : ℕ} → i < k →
    {s : links.Taken} → s ≡ taken_in m i → {x : ℕ} → x ≡ node_after m k i → (e : Edge) × Linked P r next m n s.node s.label x e
turns-linked {P} {r} {next} {m} {n} {k} t {i} h is to =
    let b = step-best m k t.along i h in (
      b.0,
      subst₂ (λ (s : links.Taken) (x : ℕ). Linked P r next m n s.node s.label x b.0) (sym is) (sym to)
          (record { planned = t.planned; holds = t.holds; from = t.below i h; to = after-below m k n i t.below h; best = b.1 }),
    )

-- ---- their sums

-- these are the sums of best edges along the first i steps
pub record Summed (P : Plan) (m : List ℕ) (k v i sum most : ℕ) : Type 0 where
  pub edges : List Edge
  pub along : Part m k P v i edges
  pub kept : sum ≡ kept edges
  pub ideal : most ≡ ideal edges

module _ {P : Plan} {m : List ℕ} {k v : ℕ} where
  -- so they are small
  pub summed_fits : PlanSound P → {i sum most : ℕ} → i ≤ k → Summed P m k v i sum most →
      (sum ≤ i * max_value) × (most ≤ i * (max_tasks * max_value))
  summed_fits sd {i} h s =
      let w = along_walk P sd s.along in
      let size = part_length m k i h s.along in (
        omega (arith, s.kept, size, walk_kept-le P sd w),
        omega (arith, s.ideal, size, walk_ideal-le P sd w),
      )

  module _ {es : List Edge} (a : Along P v (first_steps m k) v es) where
    pub summed_start : Summed P m k v 0 0 0
    summed_start = record { edges = []; along = part-start m k a; kept = refl; ideal = refl }

    pub summed_more : {i sum most : ℕ} {b : BestEdge} → i < k → Summed P m k v i sum most →
        StandsFor P (taken_in m i).node (taken_in m i).label (node_after m k i) b → Summed P m k v (i + 1) (sum + b.kept) (most + b.ideal)
    summed_more {i} h s t = record {
      edges = s.edges ++ (t.edge ∷ []);
      along = part-more m k a i h s.along t.best;
      kept = omega (arith, s.kept, t.kept, sum_of-append (λ e. e.kept) s.edges (t.edge ∷ []));
      ideal = omega (arith, s.ideal, t.ideal, sum_of-append (λ e. e.ideal) s.edges (t.edge ∷ []));
    }

    pub summed_all : {i sum most : ℕ} → k ≤ i → Summed P m k v i sum most → (sum ≡ kept es) × (most ≡ ideal es)
    summed_all {i} h s =
        let same = along-same (part-all m k a i h s.along) a in
        (s.kept ∙ same.0, s.ideal ∙ same.1)

-- ---- their bytes

abbrev pub edge_bytes : Edge → List ℕ
edge_bytes e = step_bytes long_reads (step_of e)

pub edge-length : (e : Edge) → length (edge_bytes e) ≡ step_size
edge-length e = step-length long_reads (step_of e) (padded-length e.masks)

pub edges-bytes : (es : List Edge) → flat_map edge_bytes es ≡ flat_map (step_bytes long_reads) (map step_of es)
edges-bytes [] = refl
edges-bytes (e ∷ es) = ap (λ bs. edge_bytes e ++ bs) (edges-bytes es)

-- best edges along the first i steps are written from a place on
pub record Written (P : Plan) (m : List ℕ) (k v i : ℕ) (before : List ℕ) (at : ℕ) (after : List ℕ) : Type 0 where
  pub edges : List Edge
  pub along : Part m k P v i edges
  pub bytes : after ≡ overwrite before at (flat_map edge_bytes edges)

module _ {P : Plan} {m : List ℕ} {k v : ℕ} {es : List Edge} (a : Along P v (first_steps m k) v es) {before : List ℕ} {at : ℕ} where
  pub written_start : Written P m k v 0 before at before
  written_start = record { edges = []; along = part-start m k a; bytes = sym (overwrite-none before at) }

  pub written-more : {i : ℕ} {after : List ℕ} {b : BestEdge} → i < k → at + step_size * k ≤ length before → Written P m k v i before at after →
      StandsFor P (taken_in m i).node (taken_in m i).label (node_after m k i) b →
      Written P m k v (i + 1) before at (overwrite after (at + step_size * i) (step_bytes long_reads (packed_step b.label b.masks)))
  written-more {i} {after} {b} h fits w t = record {
    edges = w.edges ++ (t.edge ∷ []);
    along = part-more m k a i h w.along t.best;
    bytes =
        (λ j. overwrite (w.bytes j) (at + step_size * i) (step_bytes long_reads (record { label = sym t.label j; masks = sym t.masks j })))
        ∙ overwrite_piece edge_bytes before at [] w.edges t.edge (at + step_size * i)
        (omega (arith, flat_map-length edge_bytes step_size w.edges edge-length, ap (λ (n : ℕ). step_size * n) (part_length m k i (omega arith) w.along)))
        (omega (arith, edge-length t.edge));
  }

  pub written_all : {i : ℕ} {after : List ℕ} → k ≤ i → Written P m k v i before at after → Writes P m k v before at after
  written_all {i} h w = record {
    edges = w.edges;
    along = part-all m k a i h w.along;
    bytes = w.bytes ∙ ap (overwrite before at) (edges-bytes w.edges);
  }
