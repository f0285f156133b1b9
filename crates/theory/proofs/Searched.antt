-- The states of a search over the lightest edges as distances: to try the best edges of the nodes that wait, each once, is to take all edges.
-- Assumes nothing.
use mathlib.Core.Path.{◌≡◌, refl, sym, ◌∙◌, ap, ap₂, subst, subst₂}
use mathlib.Core.Bool.{Bool, true, false, cond}
use mathlib.Core.Logic.{◌⊎◌, inl, inr}
use mathlib.Core.List.{map, map-map}
use mathlib.Core.Option.{Option, none, some}
use Prim.Native.Nat.{ℕ, zero, suc, ◌+◌, ◌*◌, ◌-◌, ◌<◌}
use native.Mathlib.Decide.{dec_lt}
use native.Mathlib.Omega.{arith}
use lib.IntN.{ℤ, pos, nat_abs, ◌+ℤ◌}
use lib.ListN.{length, length-map, length-replicate, get_or-eq_default}
use lib.Seq.{ext_get_or}
use Rattle.model.specs.Lists.{up_from}
use Rattle.model.specs.Plan.{Plan}
use Rattle.model.specs.Discovery.{number_in}
use Rattle.model.specs.Graph.{start, nodes, same_node, too_large}
use Rattle.model.specs.Check.{weight}
use Rattle.model.specs.Passes.{distance_at, beginning, relax_node, unmoved}
use Rattle.model.proofs.Lists.{get_d_default, get_or-table, length-up_from, map_same, mem-of-up_from}
use Rattle.theory.specs.Search.{State, distance_of, distances_of, distances, Stays, Later, Done, LedFrom, Spread, share, remaining}
use Rattle.theory.specs.Lightest.{Lightest}
use Rattle.theory.proofs.Sums.{sum_same}
use Rattle.theory.proofs.Sound.{PlanSound}
use Rattle.theory.proofs.Nodes.{number-get_or, nodes-distinct}
use Rattle.theory.proofs.Circuits.{best-edge, done-edge}
use Rattle.theory.proofs.Relaxing.{AtMost, plus, at_most_none, Below, below_refl, SettledAt, LedTo, target, target_below, node-is}
use Rattle.theory.proofs.Passes.{unmoved-same}

-- ---- the distances of a state

module _ (n : ℕ) (s : State) where
  told-length : length (distances_of n s) ≡ n
  told-length = length-map (up_from 0 n) (distance_of s) ∙ length-up_from 0 n

  told_at : (x : ℕ) → x < n → distance_at (distances_of n s) x ≡ distance_of s x
  told_at x = get_or-table (distance_of s) n x none

  told_past : (x : ℕ) → (x < n → ⊥) → distance_at (distances_of n s) x ≡ none
  told_past x h = get_or-eq_default (distances_of n s) none (omega (arith, h, told-length))

-- a known one
told-known : (s : State) (x : ℕ) → s.known x ≡ true → distance_of s x ≡ some (s.dist x)
told-known s x e = ap (λ b. cond b (some (s.dist x)) none) e

-- numbers that stand where they did have the same distances
told-stays : (s s' : State) (x : ℕ) → Stays s s' x → distance_of s' x ≡ distance_of s x
told-stays s s' x e = ap₂ (λ b z. cond b (some z) none) e.0 e.1

pub told-still : (n : ℕ) (s s' : State) → ((x : ℕ) → x < n → Stays s s' x) → distances_of n s' ≡ distances_of n s
told-still n s s' e = map_same (distance_of s') (distance_of s) (up_from 0 n) (λ x m. told-stays s s' x (e x (omega (arith, mem-of-up_from 0 n m))))

-- a later state has no greater ones
told-later : (n : ℕ) (s s' : State) → Later n s s' → Below (distances_of n s') (distances_of n s)
told-later n s s' l = record { at = λ x. by x (dec_lt x n) }
  where
    known : (x : ℕ) → x < n → (b : Bool) → s.known x ≡ b → AtMost (distance_of s' x) (cond b (some (s.dist x)) none)
    known x h true e = subst (λ a. AtMost a (some (s.dist x))) (sym (told-known s' x (l.known x h e))) (l.dist x h e)
    known x h false e = at_most_none (distance_of s' x)

    by : (x : ℕ) → Dec (x < n) → AtMost (distance_at (distances_of n s') x) (distance_at (distances_of n s) x)
    by x (yes h) = subst₂ AtMost (sym (told_at n s' x h)) (sym (told_at n s x h)) (known x h (s.known x) refl)
    by x (no h) = subst₂ AtMost (sym (told_past n s' x h)) (sym (told_past n s x h)) tt

-- where less remains, one has moved
pub told_moved : (n c : ℕ) (s s' : State) → remaining n c s' < remaining n c s → unmoved (distances_of n s) (distances_of n s') ≡ false
told_moved n c s s' less = by (unmoved (distances_of n s) (distances_of n s')) refl
  where
    b : ℕ
    b = n * c

    -- what a number adds to the measure, by its distance
    share_of : Option ℤ → ℕ
    share_of none = 2 * b + 1
    share_of (some z) = nat_abs (z +ℤ pos b)

    share-told : (k : Bool) (z : ℤ) → share b k z ≡ share_of (cond k (some z) none)
    share-told true z = refl
    share-told false z = refl

    same : distances_of n s ≡ distances_of n s' → remaining n c s' ≡ remaining n c s
    same e =
        sum_same (λ x. share b (s'.known x) (s'.dist x)) (λ x. share b (s.known x) (s.dist x)) n
        (λ x h.
        share-told (s'.known x) (s'.dist x)
        ∙ ap share_of (sym (told_at n s' x h) ∙ ap (λ ds. distance_at ds x) (sym e) ∙ told_at n s x h)
        ∙ sym (share-told (s.known x) (s.dist x)))

    by : (t : Bool) → unmoved (distances_of n s) (distances_of n s') ≡ t → t ≡ false
    by true e = absurd (omega (arith, less, same ((unmoved-same (distances_of n s) (distances_of n s')).0 e)))
    by false e = refl

-- where 0 alone is known, at the distance 0, the passes begin
pub told-start : (n : ℕ) (s : State) → 0 < n → s.known 0 ≡ true → s.dist 0 ≡ pos 0 → ((v : ℕ) → v < n → s.known v ≡ true → v ≡ 0) →
    distances_of n s ≡ beginning n
told-start n s positive k d only =
    ext_get_or none (distances_of n s) (beginning n) (omega (arith, told-length n s, length-replicate {A = Option ℤ} (n - 1) none, positive))
    (λ x h. let below : x < n = omega (arith, told-length n s) in told_at n s x below ∙ by x below)
  where
    unknown : (x : ℕ) → suc x < n → (b : Bool) → s.known (suc x) ≡ b → cond b (some (s.dist (suc x))) none ≡ none
    unknown x h true e = absurd (omega (arith, only (suc x) h e))
    unknown x h false e = refl

    by : (x : ℕ) → x < n → distance_of s x ≡ distance_at (beginning n) x
    by zero h = told-known s 0 k ∙ ap some d
    by (suc x) h = unknown x h (s.known (suc x)) refl ∙ sym (get_d_default (n - 1) x none)

-- where all are known
pub told-all : (n : ℕ) (s : State) → ((v : ℕ) → v < n → s.known v ≡ true) → distances_of n s ≡ map some (distances n s)
told-all n s k =
    map_same (distance_of s) (λ x. some (s.dist x)) (up_from 0 n) (λ x m. told-known s x (k x (omega (arith, mem-of-up_from 0 n m))))
    ∙ sym (map-map (λ z. some z) s.dist (up_from 0 n))

-- ---- the edges of a node

module _ (P : Plan) (sd : PlanSound P) (fits : too_large P ≡ false) (p q u : ℕ) (below : u < length (nodes P)) where
  abbrev n : ℕ
  n = length (nodes P)

  -- where the links of u are done, no edge of u leads to a smaller distance
  settled_at : (s : State) → (s.known u ≡ true → Done (Lightest P p q) n s u) → SettledAt P p q (distances_of n s) u
  settled_at s done e m =
      subst₂ (λ a b. AtMost a (plus b (weight p q e))) (sym (told_at n s (target P e) (target_below P fits u below e m)))
      (sym (told_at n s u below)) (by (s.known u) refl)
    where
      by : (b : Bool) → s.known u ≡ b → AtMost (distance_of s (target P e)) (plus (cond b (some (s.dist u)) none) (weight p q e))
      by true k =
          let to = done-edge P sd fits p q s u below (done k) e m in
          subst (λ a. AtMost a (some (s.dist u +ℤ weight p q e))) (sym (told-known s (target P e) to.0)) to.1
      by false k = at_most_none (distance_of s (target P e))

  -- u waits, and its links are tried
  pub node-waits : (s s' : State) → s.known u ≡ true → Later n s s' → Done (Lightest P p q) n s' u → Spread (Lightest P p q) n s s' u →
      relax_node P p q (distances_of n s) u ≡ distances_of n s'
  node-waits s s' known later done spread =
      node-is P p q fits u below (distances_of n s) (distances_of n s') (told-length n s) (told-length n s' ∙ sym (told-length n s)) (told-later n s s' later)
      (settled_at s' (λ e. done)) (λ x h. let less : x < n = omega (arith, h, told-length n s) in by x less (spread.origin x less))
    where
      by : (x : ℕ) → x < n → Stays s s' x ⊎ LedFrom (Lightest P p q) s s' u x →
          (distance_at (distances_of n s') x ≡ distance_at (distances_of n s) x) ⊎ LedTo P p q (distances_of n s) u x (distance_at (distances_of n s') x)
      by x h (inl e) = inl (told_at n s' x h ∙ told-stays s s' x e ∙ sym (told_at n s x h))
      by x h (inr (l, w, k, e, d)) = inr (
        k.edge,
        best-edge P sd k.best,
        ap (number_in same_node (nodes P)) k.best.to ∙ number-get_or (nodes P) start (nodes-distinct P) x h,
        told_at n s' x h ∙ told-known s' x e ∙ ap some (d ∙ ap (λ z. s.dist u +ℤ z) (sym k.weighs))
            ∙ ap (λ a. plus a (weight p q k.edge)) (sym (told_at n s u below ∙ told-known s u known)),
      )

  -- u does not wait: nothing is left to take
  pub node_idle : (s : State) → (s.known u ≡ true → Done (Lightest P p q) n s u) → relax_node P p q (distances_of n s) u ≡ distances_of n s
  node_idle s done =
      node-is P p q fits u below (distances_of n s) (distances_of n s) (told-length n s) refl (below_refl (distances_of n s)) (settled_at s done) (λ x h. inl refl)
