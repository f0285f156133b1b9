-- The steps written for a cycle of the graph are accepted: the checker finds each edge again.
-- Assumes nothing.
use mathlib.Core.Path.{◌≡◌, refl, sym, ◌∙◌, ap, ap₂, subst}
use mathlib.Core.Bool.{Bool, true, false, cond, ◌&&◌, false≢true}
use mathlib.Core.Logic.{⊎_elim}
use mathlib.Core.Option.{Option, none, some}
use mathlib.Core.List.Memᴰ
use mathlib.Core.List.{List, [], ◌∷◌, ◌++◌, map, Memᴰ}
use Prim.Native.Nat.{ℕ, ◌+◌, ◌*◌, ◌<◌, ◌≤◌}
use native.Mathlib.Nat.{add-zero, zero-add, add_assoc}
use native.Mathlib.Omega.{arith}
use lib.Dec.{ltb, eqb}
use lib.ListN.{length, get_or, take, replicate}
use lib.Seq.{take-take, take-append_seam}
use borrow.Author.Tests.{lt-ltb, eqb-true, eq-eqb}
use Rattle.model.specs.Limits.{max_tasks}
use Rattle.model.specs.Lists.{same_numbers}
use Rattle.model.specs.Plan.{Plan}
use Rattle.model.specs.Graph.{Node, Edge, start, edges, same_node}
use Rattle.model.specs.Walk.{Walk, here, go, kept, ideal}
use Rattle.model.specs.Certificate.{Certificate, Step}
use Rattle.model.specs.Check.{padded, is_step, find_step, Reached, follow, closes, cycle_ok}
use Rattle.model.proofs.Plan.{both}
use Rattle.model.proofs.Tests.{true-and, same_numbers_lem}
use Rattle.theory.specs.Lightest.{step_of}
use Rattle.theory.proofs.Edges.{edge_determined}
use Rattle.theory.proofs.Sound.{PlanSound}
use Rattle.theory.proofs.Walks.{step-of}
use Rattle.theory.proofs.Nodes.{same-node}
use Rattle.theory.proofs.Steps.{Tight, after}

-- padded masks begin with the masks
take-padded : (ms : List ℕ) → length ms ≤ max_tasks → take (length ms) (padded ms) ≡ ms
take-padded ms h = take-take (length ms) max_tasks (ms ++ replicate max_tasks 0) h ∙ take-append_seam ms (replicate max_tasks 0)

-- so they tell as many masks apart
padded-same : (ms ns : List ℕ) → length ms ≡ length ns → length ms ≤ max_tasks → padded ms ≡ padded ns → ms ≡ ns
padded-same ms ns e h p =
    sym (take-padded ms h) ∙ ap₂ (λ (n : ℕ) l. take n l) e p ∙ take-padded ns (omega arith)

-- the only edge that fits a step is the one found
find_only : (s : Step) (es : List Edge) (e : Edge) → Memᴰ e es → is_step s e ≡ true →
    ((f : Edge) → Memᴰ f es → is_step s f ≡ true → f ≡ e) → find_step s es ≡ some e
find_only s [] e m h only = absurd (Memᴰ.not-nil m)
find_only s (f ∷ es) e m h only = by (is_step s f) refl (λ k. find_only s es e k h (λ g j. only g (Memᴰ.tail j)))
  where
    by : (b : Bool) → is_step s f ≡ b → (Memᴰ e es → find_step s es ≡ some e) → cond b (some f) (find_step s es) ≡ some e
    by true t later = ap some (only f (Memᴰ.head refl) t)
    by false t later =
        later (⊎_elim (λ p. absurd (false≢true (sym t ∙ subst (λ g. is_step s g ≡ true) p h))) (λ k. k) (Memᴰ.cases_cons m))

-- the same sums at the same node
found : (u : Node) {k k' i i' : ℕ} → k ≡ k' → i ≡ i' →
    ◌≡◌ {A = Option Reached} (some (record { at = u; kept = k; ideal = i })) (some (record { at = u; kept = k'; ideal = i' }))
found u p q = λ j. some (record { at = u; kept = p j; ideal = q j })

module _ (P : Plan) (sd : PlanSound P) where
  -- an edge is found by its step
  pub find_own : (u : Node) (e : Edge) → Memᴰ e (edges P u) → find_step (step_of e) (edges P u) ≡ some e
  find_own u e m = find_only (step_of e) (edges P u) e m own only
    where
      own : is_step (step_of e) e ≡ true
      own =
          true-and (eqb e.label e.label) (same_numbers (padded e.masks) (padded e.masks)) (eq-eqb e.label e.label refl)
          ((same_numbers_lem (padded e.masks) (padded e.masks)).1 refl)

      only : (f : Edge) → Memᴰ f (edges P u) → is_step (step_of e) f ≡ true → f ≡ e
      only f k h =
          let two = both (eqb f.label e.label) (same_numbers (padded f.masks) (padded e.masks)) h in
          let left = (step-of P u f k).fits.count in
          let right = (step-of P u e m).fits.count in
          edge_determined P u f e k m (eqb-true _ _ two.0)
          (padded-same f.masks e.masks (left ∙ sym right) (omega (arith, sd.tasks_fit))
          ((same_numbers_lem (padded f.masks) (padded e.masks)).0 two.1))

  -- the steps of a walk lead along it
  pub walk_follow : {u v : Node} {es : List Edge} → Walk P u v es → (k i : ℕ) →
      follow P (map step_of es) (record { at = u; kept = k; ideal = i }) ≡ some (record { at = v; kept = k + kept es; ideal = i + ideal es })
  unfolding follow
  walk_follow {u} here k i = found u (sym (add-zero k)) (sym (add-zero i))
  walk_follow {v = v} (go {u = u} {e = e} {es = es} m w) k i =
      ap (λ (o : Option Edge). elim o [ none ↦ none | some f ↦ follow P (map step_of es) (after (record { at = u; kept = k; ideal = i }) f) ])
      (find_own u e m)
      ∙ walk_follow w (k + e.kept) (i + e.ideal) ∙ found v (add_assoc k e.kept (kept es)) (add_assoc i e.ideal (ideal es))

  -- a cycle's steps are accepted at its node
  pub cycle-written : (ns : List Node) (c : Certificate) → c.node < length ns →
      (t : Tight P c.p c.q (get_or ns c.node start)) → c.steps ≡ map step_of t.path → cycle_ok P ns c ≡ true
  unfolding cycle_ok
  cycle-written ns c h t e = by (eqb c.q 0)
    where
      u : Node
      u = get_or ns c.node start

      ends : follow P c.steps (record { at = u; kept = 0; ideal = 0 }) ≡ some (record { at = u; kept = kept t.path; ideal = ideal t.path })
      ends =
          ap (λ ss. follow P ss (record { at = u; kept = 0; ideal = 0 })) e ∙ walk_follow t.walk 0 0
          ∙ found u (zero-add (kept t.path)) (zero-add (ideal t.path))

      closed : closes c.p c.q u (follow P c.steps (record { at = u; kept = 0; ideal = 0 })) ≡ true
      closed =
          ap (closes c.p c.q u) ends
          ∙ true-and (same_node u u && ltb 0 (ideal t.path)) (eqb (c.p * ideal t.path) (c.q * kept t.path))
          (true-and (same_node u u) (ltb 0 (ideal t.path)) ((same-node u u).1 refl) (lt-ltb 0 (ideal t.path) t.some))
          (eq-eqb (c.p * ideal t.path) (c.q * kept t.path) t.exact)

      by : (b : Bool) → cond b true (ltb c.node (length ns) && closes c.p c.q u (follow P c.steps (record { at = u; kept = 0; ideal = 0 }))) ≡ true
      by true = refl
      by false = true-and (ltb c.node (length ns)) _ (lt-ltb c.node (length ns) h) closed
