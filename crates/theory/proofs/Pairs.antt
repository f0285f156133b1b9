-- The pairs of states of two automata: those that are numbered are the reachable ones, and by their numbers both automata are one.
-- Assumes nothing.
use mathlib.Core.Path.{◌≡◌, refl, sym, ap, ap₂, subst, ◌∙◌}
use mathlib.Core.Logic.{◌↔◌}
use mathlib.Core.Bool.{Bool, true, false, ◌&&◌, and-false}
use mathlib.Core.List.Memᴰ
use mathlib.Core.List.{List, [], ◌∷◌, ◌++◌, Memᴰ}
use mathlib.Core.Option.{Option, none, some, none-ne-some, some-injective}
use Prim.Native.Nat.{ℕ, ◌^◌, ◌<◌, ◌≤◌}
use native.Mathlib.Decide.{dec_lt}
use native.Mathlib.Omega.{arith}
use borrow.Author.Tests.{ltb-true, ltb-false, eqb-true, eq-eqb}
use lib.Dec.{eqb}
use lib.ListN.{length, get_or}
use Rattle.model.specs.Limits.{max_states}
use Rattle.model.specs.Lists.{up_from, list_of}
use Rattle.model.specs.Discovery.{number_in}
use Rattle.model.specs.Plan.{Plan, next_in}
use Rattle.model.specs.Schedule.{admits, admits_from, state_after}
use Rattle.model.specs.Combine.{Pair, starts, same_pair, pair_of, pair_next, pairs_next, pairs, many_pairs, numbered, numbered_next, combined, PairReached, PairsReached, PairsExact, ManyReached}
use Rattle.model.proofs.Lists.{mem-get_or, mem-of-flat_map, mem-given}
use Rattle.model.proofs.Plan.{both}
use Rattle.model.proofs.Tests.{true-and}
use Rattle.model.proofs.Distinct.{distinct-at}
use Rattle.model.proofs.Discovery.{Leads, here, go, Known, known-found, number_at, found-closed, led-found}
use Rattle.theory.proofs.Sound.{PlanSound, label-below}
use Rattle.theory.proofs.Automata.{arcs-next, arcs-none}

-- the test of two pairs decides whether they are the same
pub same_pair_lem : (u v : Pair) → (same_pair u v ≡ true) ↔ (u ≡ v)
same_pair_lem u v = (
  λ h.
      let two = both (eqb u.left v.left) (eqb u.right v.right) h in
      λ i. record { left = eqb-true u.left v.left two.0 i; right = eqb-true u.right v.right two.1 i },
  λ e.
      true-and (eqb u.left v.left) (eqb u.right v.right) (eq-eqb _ _ (ap (λ w. w.left) e)) (eq-eqb _ _ (ap (λ w. w.right) e)),
)

-- a pair is where both lead
pair_some : (o o' : Option ℕ) (v : Pair) → pair_of o o' ≡ some v → (o ≡ some v.left) × (o' ≡ some v.right)
pair_some none o' v e = absurd (none-ne-some v e)
pair_some (some s) none v e = absurd (none-ne-some v e)
pair_some (some s) (some t) v e =
    let p = some-injective (record { left = s; right = t }) v e in
    (ap (λ (w : Pair). some w.left) p, ap (λ (w : Pair). some w.right) p)

list_mem : {v : Pair} (o : Option Pair) → Memᴰ v (list_of o) → o ≡ some v
list_mem none m = absurd (Memᴰ.not-nil m)
list_mem (some w) m = ap some (sym (Memᴰ.eq_of_singleton m))

-- ---- the state after one label more

abbrev pub then : Plan → ℕ → Option ℕ → Option ℕ
then P l none = none
then P l (some s) = next_in P.arcs s l

pub state_snoc : (P : Plan) (run : List ℕ) (s l : ℕ) → state_after P (run ++ (l ∷ [])) s ≡ then P l (state_after P run s)
state_snoc P [] s l = by (next_in P.arcs s l)
  where
    by : (o : Option ℕ) → (elim o [ none ↦ none | some t ↦ some t ]) ≡ o
    by none = refl
    by (some t) = refl
state_snoc P (k ∷ ks) s l = by (next_in P.arcs s k) (λ t. state_snoc P ks t l)
  where
    by : (o : Option ℕ) → ((t : ℕ) → state_after P (ks ++ (l ∷ [])) t ≡ then P l (state_after P ks t)) →
        (elim o [ none ↦ none | some t ↦ state_after P (ks ++ (l ∷ [])) t ]) ≡ then P l (elim o [ none ↦ none | some t ↦ state_after P ks t ])
    by none later = refl
    by (some t) later = later t

module _ (P Q : Plan) (sound-P : PlanSound P) where
  abbrev next : Pair → List Pair
  next = pairs_next P.arcs Q.arcs (length P.tasks)

  abbrev leads_to : Pair → ℕ → Option Pair
  leads_to = pair_next P.arcs Q.arcs

  abbrev Led : Pair → Type 0
  Led = Leads same_pair same_pair_lem next starts

  -- ---- the pairs numbered are the reachable ones

  -- one label on
  next-mem : (u v : Pair) (l : ℕ) → l < 2 ^ length P.tasks → leads_to u l ≡ some v → Memᴰ v (next u)
  next-mem u v l h e = mem-given (leads_to u) (2 ^ length P.tasks) l h e

  led-run : {v : Pair} → Led v → PairReached P Q v
  led-run here = record { run = []; first = refl; second = refl }
  led-run (go {u = u} {v = v} h m) =
      let r = led-run h in
      let w = mem-of-flat_map (λ l. list_of (leads_to u l)) (up_from 0 (2 ^ length P.tasks)) m in
      let e = pair_some (next_in P.arcs u.left w.0) (next_in Q.arcs u.right w.0) v (list_mem (leads_to u w.0) w.2) in
      record {
        run = r.run ++ (w.0 ∷ []);
        first = state_snoc P r.run 0 w.0 ∙ ap (then P w.0) r.first ∙ e.0;
        second = state_snoc Q r.run 0 w.0 ∙ ap (then Q w.0) r.second ∙ e.1;
      }

  run-led : (run : List ℕ) (u v : Pair) → Led u → state_after P run u.left ≡ some v.left → state_after Q run u.right ≡ some v.right → Led v
  run-led [] u v h p q = subst Led (λ i. record { left = some-injective _ _ p i; right = some-injective _ _ q i }) h
  run-led (l ∷ ls) u v h p q =
      by (next_in P.arcs u.left l) (next_in Q.arcs u.right l) refl refl p q (λ w k a b. run-led ls w v k a b)
    where
      by : (o o' : Option ℕ) → next_in P.arcs u.left l ≡ o → next_in Q.arcs u.right l ≡ o' →
          (elim o [ none ↦ none | some t ↦ state_after P ls t ]) ≡ some v.left → (elim o' [ none ↦ none | some t ↦ state_after Q ls t ]) ≡ some v.right →
          ((w : Pair) → Led w → state_after P ls w.left ≡ some v.left → state_after Q ls w.right ≡ some v.right → Led v) → Led v
      by none o' e e' a b later = absurd (none-ne-some v.left a)
      by (some s) none e e' a b later = absurd (none-ne-some v.right b)
      by (some s) (some t) e e' a b later =
          let w : Pair = record { left = s; right = t } in
          later w (go h (next-mem u w l (label-below P sound-P u.left l s e) (ap₂ pair_of e e'))) a b

  known-pairs : Known same_pair same_pair_lem next starts max_states (pairs P Q)
  unfolding pairs
  known-pairs = known-found same_pair same_pair_lem next starts max_states

  pairs-reached : PairsReached P Q (pairs P Q)
  pairs-reached = record {
    each = λ u m. led-run (known-pairs.led u m);
    apart = distinct-at (pairs P Q) starts known-pairs.distinct;
  }

  pub few-pairs : many_pairs P Q ≡ false → length (pairs P Q) ≤ max_states
  unfolding many_pairs
  few-pairs few = ltb-false max_states (length (pairs P Q)) few

  pub pairs-exact : PairsExact P Q
  unfolding pairs
  pairs-exact = record {
    reached = pairs-reached;
    whole = λ few u r.
        led-found same_pair same_pair_lem next starts max_states (few-pairs few) (run-led r.run starts u here r.first r.second);
  }

  -- too many are numbered: too many are reachable
  pub many-reached : many_pairs P Q ≡ true → ManyReached P Q
  unfolding many_pairs
  many-reached many = record { us = pairs P Q; many = ltb-true max_states (length (pairs P Q)) many; reached = pairs-reached }

  pub some_pair : 1 ≤ length (pairs P Q)
  some_pair = known-pairs.some

  -- ---- what the pairs admit

  module _ (few : many_pairs P Q ≡ false) where
    -- where a pair leads is among them
    closed : (i l : ℕ) → i < length (pairs P Q) → l < 2 ^ length P.tasks → (v : Pair) → leads_to (get_or (pairs P Q) i starts) l ≡ some v →
        Memᴰ v (pairs P Q)
    unfolding pairs
    closed i l h k v e =
        found-closed same_pair same_pair_lem next starts max_states (few-pairs few) (get_or (pairs P Q) i starts) v (mem-get_or (pairs P Q) i starts h)
        (next-mem (get_or (pairs P Q) i starts) v l k e)

    abbrev to : ℕ → ℕ → Option ℕ
    to = numbered_next P.arcs Q.arcs (pairs P Q)

    -- every next state is one of the states
    pub combined-next : (s l t : ℕ) → s < length (pairs P Q) → l < 2 ^ length P.tasks → to s l ≡ some t → t < length (pairs P Q)
    combined-next s l t h k e = by (leads_to (get_or (pairs P Q) s starts) l) refl e
      where
        by : (o : Option Pair) → leads_to (get_or (pairs P Q) s starts) l ≡ o → numbered (pairs P Q) o ≡ some t → t < length (pairs P Q)
        by none f e = absurd (none-ne-some t e)
        by (some v) f e =
            subst (λ (x : ℕ). x < length (pairs P Q)) (some-injective (number_in same_pair (pairs P Q) v) t e)
            (number_at same_pair same_pair_lem (pairs P Q) v starts (closed s l h k v f)).0

    abbrev onward : List ℕ → Plan → Option ℕ → Bool
    onward ls R o = elim o [ none ↦ false | some t ↦ admits_from R ls t ]

    -- from a pair the run is admitted just if both admit it from their states
    abbrev BothFrom : List ℕ → ℕ → Type 0
    BothFrom run i =
        admits_from (combined P Q) run i ≡ (admits_from P run (get_or (pairs P Q) i starts).left && admits_from Q run (get_or (pairs P Q) i starts).right)

    both_from : (run : List ℕ) (i : ℕ) → i < length (pairs P Q) → BothFrom run i
    unfolding combined
    both_from [] i h = refl
    both_from (l ∷ ls) i h = by (dec_lt l (2 ^ length P.tasks)) (λ j k. both_from ls j k)
      where
        u : Pair
        u = get_or (pairs P Q) i starts

        each : l < 2 ^ length P.tasks → (o o' : Option ℕ) → next_in P.arcs u.left l ≡ o → next_in Q.arcs u.right l ≡ o' →
            ((j : ℕ) → j < length (pairs P Q) → BothFrom ls j) →
            onward ls (combined P Q) (numbered (pairs P Q) (pair_of o o')) ≡ (onward ls P o && onward ls Q o')
        each k none o' e e' later = refl
        each k (some s) none e e' later = sym (and-false (admits_from P ls s))
        each k (some s) (some t) e e' later =
            let v : Pair = record { left = s; right = t } in
            let r = number_at same_pair same_pair_lem (pairs P Q) v starts (closed i l h k v (ap₂ pair_of e e')) in
            later (number_in same_pair (pairs P Q) v) r.0
            ∙ ap (λ (w : Pair). admits_from P ls w.left && admits_from Q ls w.right) r.1

        no_label : 2 ^ length P.tasks ≤ l → (o : Option ℕ) → next_in P.arcs u.left l ≡ o →
            false ≡ (onward ls P o && onward ls Q (next_in Q.arcs u.right l))
        no_label k none e = refl
        no_label k (some s) e = absurd (omega (arith, k, label-below P sound-P u.left l s e))

        by : Dec (l < 2 ^ length P.tasks) → ((j : ℕ) → j < length (pairs P Q) → BothFrom ls j) → BothFrom (l ∷ ls) i
        by (yes k) later =
            ap (onward ls (combined P Q)) (arcs-next (length (pairs P Q)) (length P.tasks) to i l h k)
            ∙ each k (next_in P.arcs u.left l) (next_in Q.arcs u.right l) refl refl later
        by (no k) later =
            ap (onward ls (combined P Q)) (arcs-none (length (pairs P Q)) (length P.tasks) to i l (omega (arith, k)))
            ∙ no_label (omega (arith, k)) (next_in P.arcs u.left l) refl

    pub combined-runs : (run : List ℕ) → admits (combined P Q) run ≡ (admits P run && admits Q run)
    combined-runs run =
        both_from run 0 some_pair ∙ ap (λ (w : Pair). admits_from P run w.left && admits_from Q run w.right) known-pairs.first
