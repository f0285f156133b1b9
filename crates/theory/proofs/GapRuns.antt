-- The automaton of a gap admits exactly the runs that keep it.
-- Assumes nothing.
use mathlib.Core.Path.{◌≡◌, refl, sym, ap, subst, ◌∙◌}
use mathlib.Core.Logic.{◌↔◌, ◌⊎◌, inl, inr, ⊎_elim}
use Prim.Native.Nat.{ℕ, zero, suc, ◌+◌, ◌-◌, ◌^◌, ◌≤◌, ◌<◌}
use native.Mathlib.Decide.{dec_lt}
use native.Mathlib.Omega.{arith}
use mathlib.Core.Bool.{Bool, true, false, ◌&&◌}
use mathlib.Core.List.{List, [], ◌∷◌}
use mathlib.Core.Option.{Option, none, some}
use borrow.Author.Tests.{eqb-true, eqb-false}
use lib.Dec.{T, eqb}
use lib.ListN.{length, get_or}
use Rattle.model.specs.Lists.{bit, one, sum}
use Rattle.model.specs.Plan.{Plan, next_in}
use Rattle.model.specs.Schedule.{admits, admits_from}
use Rattle.model.specs.PlanBytes.{arcs_of}
use Rattle.model.specs.Gap.{releases, gap_next, Release, GapKept}
use Rattle.model.proofs.Tests.{holds, fails, both_hold, left-holds, right-holds}
use Rattle.theory.proofs.Bits.{bit_past}
use Rattle.theory.proofs.Automata.{arcs-next, arcs-none}

-- ---- how many numbers pass a test

abbrev passing : (ℕ → Bool) → ℕ → ℕ
passing f n = sum (λ k. one (f k)) n

one_of : (b : Bool) → T b → one b ≡ 1
one_of true h = refl
one_of false h = absurd h

passing-pos : (f : ℕ → Bool) (n k : ℕ) → k < n → T (f k) → 1 ≤ passing f n
passing-pos f zero k h t = absurd (omega arith)
passing-pos f (suc n) k h t = go (eqb k n) refl (λ i. passing-pos f n k i t)
  where
    go : (b : Bool) → eqb k n ≡ b → (k < n → 1 ≤ passing f n) → 1 ≤ passing f n + one (f n)
    go true e later = omega (arith, one_of (f n) (subst (λ (x : ℕ). T (f x)) (eqb-true k n e) t))
    go false e later = omega (arith, later (omega (arith, eqb-false k n e)))

passing_two : (f : ℕ → Bool) (n k j : ℕ) → k < j → j < n → T (f k) → T (f j) → 2 ≤ passing f n
passing_two f zero k j h i t u = absurd (omega arith)
passing_two f (suc n) k j h i t u = go (eqb j n) refl (λ l. passing_two f n k j h l t u)
  where
    go : (b : Bool) → eqb j n ≡ b → (j < n → 2 ≤ passing f n) → 2 ≤ passing f n + one (f n)
    go true e later =
        omega (arith, one_of (f n) (subst (λ (x : ℕ). T (f x)) (eqb-true j n e) u), passing-pos f n k (omega (arith, eqb-true j n e)) t)
    go false e later = omega (arith, later (omega (arith, eqb-false j n e)))

passing-some : (f : ℕ → Bool) (n : ℕ) → 1 ≤ passing f n → (k : ℕ) × (k < n) × T (f k)
passing-some f zero h = absurd (omega arith)
passing-some f (suc n) h = go (f n) refl (λ i. passing-some f n i)
  where
    go : (b : Bool) → f n ≡ b → (1 ≤ passing f n → (k : ℕ) × (k < n) × T (f k)) → (k : ℕ) × (k < suc n) × T (f k)
    go true e later = (n, omega arith, holds e)
    go false e later = let r = later (omega (arith, ap one e)) in (r.0, omega (arith, r.1), r.2)

passing_pair : (f : ℕ → Bool) (n : ℕ) → 2 ≤ passing f n → (k : ℕ) × (j : ℕ) × (k < j) × T (f k) × T (f j)
passing_pair f zero h = absurd (omega arith)
passing_pair f (suc n) h = go (f n) refl (λ i. passing_pair f n i)
  where
    go : (b : Bool) → f n ≡ b → (2 ≤ passing f n → (k : ℕ) × (j : ℕ) × (k < j) × T (f k) × T (f j)) → (k : ℕ) × (j : ℕ) × (k < j) × T (f k) × T (f j)
    go true e later =
        let r = passing-some f n (omega (arith, ap one e)) in
        (r.0, n, r.1, r.2, holds e)
    go false e later = later (omega (arith, ap one e))

-- ---- the automaton

module _ (set : ℕ → Bool) (count g : ℕ) (wide : 1 ≤ g) (Q : Plan) (arcs : Q.arcs ≡ arcs_of g count (λ s l. gap_next g s (releases set count l))) where
  -- what a label does in a state
  next-is : (s l : ℕ) → s < g → l < 2 ^ count → next_in Q.arcs s l ≡ gap_next g s (releases set count l)
  next-is s l h i = ap (λ as'. next_in as' s l) arcs ∙ arcs-next g count (λ s l. gap_next g s (releases set count l)) s l h i

  next-not : (s l : ℕ) → 2 ^ count ≤ l → next_in Q.arcs s l ≡ none
  next-not s l h = ap (λ as'. next_in as' s l) arcs ∙ arcs-none g count (λ s l. gap_next g s (releases set count l)) s l h

  -- a run that keeps the gap, and releases nothing of the set in its first s slots
  record Kept (s : ℕ) (run : List ℕ) : Type 0 where
    gap : GapKept set count g run
    closed : (t i : ℕ) → Release set run t i → s ≤ t

  -- a task of the set that the first label releases, and the test of it
  test : ℕ → ℕ → Bool
  test l k = set (suc k) && bit l k

  counted : (l : ℕ) → releases set count l ≡ passing (test l) count
  unfolding releases test
  counted l = refl

  of-first : (l : ℕ) (ls : List ℕ) (i : ℕ) → l < 2 ^ count → Release set (l ∷ ls) 0 i → (i - 1 < count) × T (test l (i - 1))
  unfolding test
  of-first l ls i h r = (
    below (dec_lt (i - 1) count),
    both_hold (set (suc (i - 1))) (bit l (i - 1)) (subst (λ (x : ℕ). T (set x)) (omega (arith, r.numbered)) r.of_group) r.released,
  )
    where
      below : Dec (i - 1 < count) → i - 1 < count
      below (yes p) = p
      below (no p) = absurd (fails (bit_past count l (i - 1) h (omega (arith, p))) r.released)

  to-first : (l : ℕ) (ls : List ℕ) (k : ℕ) → T (test l k) → Release set (l ∷ ls) 0 (suc k)
  unfolding test
  to-first l ls k t = record {
    slot = omega arith;
    numbered = omega arith;
    released = subst (λ (x : ℕ). T (bit l x)) (omega arith) (right-holds (set (suc k)) (bit l k) t);
    of_group = left-holds (set (suc k)) (bit l k) t;
  }

  later : (l : ℕ) (ls : List ℕ) (t i : ℕ) → Release set ls t i → Release set (l ∷ ls) (suc t) i
  later l ls t i r = record { slot = omega (arith, r.slot); numbered = r.numbered; released = r.released; of_group = r.of_group }

  sooner : (l : ℕ) (ls : List ℕ) (t i : ℕ) → Release set (l ∷ ls) (suc t) i → Release set ls t i
  sooner l ls t i r = record { slot = omega (arith, r.slot); numbered = r.numbered; released = r.released; of_group = r.of_group }

  -- a label, and the run after it: no release
  kept-none : (l : ℕ) (ls : List ℕ) (s : ℕ) → l < 2 ^ count → releases set count l ≡ 0 → Kept (s - 1) ls → Kept s (l ∷ ls)
  unfolding releases test
  kept-none l ls s h z k = record {
    gap = record { labels = λ t i. labels t i; apart = λ t i t' i' r r' o. apart t i t' i' r r' o };
    closed = λ t i r. closed t i r;
  }
    where
      no_first : (i : ℕ) → Release set (l ∷ ls) 0 i → ⊥
      no_first i r = let f = of-first l ls i h r in omega (arith, z, passing-pos (test l) count (i - 1) f.0 f.1)

      labels : (t : ℕ) → t < length (l ∷ ls) → get_or (l ∷ ls) t 0 < 2 ^ count
      labels zero i = h
      labels (suc t) i = k.gap.labels t (omega (arith, i))

      apart : (t i t' i' : ℕ) → Release set (l ∷ ls) t i → Release set (l ∷ ls) t' i' → t ≤ t' → ((t ≡ t') × (i ≡ i')) ⊎ (t + g ≤ t')
      apart zero i t' i' r r' o = absurd (no_first i r)
      apart (suc t) i zero i' r r' o = absurd (no_first i' r')
      apart (suc t) i (suc t') i' r r' o =
          ⊎_elim (λ e. inl (ap suc e.0, e.1)) (λ e. inr (omega (arith, e))) (k.gap.apart t i t' i' (sooner l ls t i r) (sooner l ls t' i' r') (omega (arith, o)))

      closed : (t i : ℕ) → Release set (l ∷ ls) t i → s ≤ t
      closed zero i r = absurd (no_first i r)
      closed (suc t) i r = omega (arith, k.closed t i (sooner l ls t i r))

  -- one release, in an open slot
  kept-one : (l : ℕ) (ls : List ℕ) → l < 2 ^ count → releases set count l ≡ 1 → Kept (g - 1) ls → Kept 0 (l ∷ ls)
  unfolding releases test
  kept-one l ls h z k = record {
    gap = record { labels = λ t i. labels t i; apart = λ t i t' i' r r' o. apart t i t' i' r r' o };
    closed = λ t i r. omega arith;
  }
    where
      labels : (t : ℕ) → t < length (l ∷ ls) → get_or (l ∷ ls) t 0 < 2 ^ count
      labels zero i = h
      labels (suc t) i = k.gap.labels t (omega (arith, i))

      -- two tasks would be two releases
      same : (i i' : ℕ) → Release set (l ∷ ls) 0 i → Release set (l ∷ ls) 0 i' → i ≡ i'
      same i i' r r' =
          let f = of-first l ls i h r in
          let f' = of-first l ls i' h r' in
          by (dec_lt (i - 1) (i' - 1)) (dec_lt (i' - 1) (i - 1)) f f'
        where
          by : Dec (i - 1 < i' - 1) → Dec (i' - 1 < i - 1) → (i - 1 < count) × T (test l (i - 1)) → (i' - 1 < count) × T (test l (i' - 1)) → i ≡ i'
          by (yes p) q f f' = absurd (omega (arith, z, passing_two (test l) count (i - 1) (i' - 1) p f'.0 f.1 f'.1))
          by (no p) (yes q) f f' = absurd (omega (arith, z, passing_two (test l) count (i' - 1) (i - 1) q f.0 f'.1 f.1))
          by (no p) (no q) f f' = omega (arith, p, q, r.numbered, r'.numbered)

      apart : (t i t' i' : ℕ) → Release set (l ∷ ls) t i → Release set (l ∷ ls) t' i' → t ≤ t' → ((t ≡ t') × (i ≡ i')) ⊎ (t + g ≤ t')
      apart zero i zero i' r r' o = inl (refl, same i i' r r')
      apart zero i (suc t') i' r r' o = inr (omega (arith, k.closed t' i' (sooner l ls t' i' r')))
      apart (suc t) i zero i' r r' o = absurd (omega (arith, o))
      apart (suc t) i (suc t') i' r r' o =
          ⊎_elim (λ e. inl (ap suc e.0, e.1)) (λ e. inr (omega (arith, e))) (k.gap.apart t i t' i' (sooner l ls t i r) (sooner l ls t' i' r') (omega (arith, o)))

  -- the run after a label keeps what the whole does
  kept-tail : (l : ℕ) (ls : List ℕ) (s : ℕ) → Kept s (l ∷ ls) → Kept (s - 1) ls
  kept-tail l ls s k = record {
    gap = record {
      labels = λ t i. k.gap.labels (suc t) (omega (arith, i));
      apart = λ t i t' i' r r' o.
          ⊎_elim (λ e. inl (omega (arith, e.0), e.1)) (λ e. inr (omega (arith, e)))
          (k.gap.apart (suc t) i (suc t') i' (later l ls t i r) (later l ls t' i' r') (omega (arith, o)));
    };
    closed = λ t i r. omega (arith, k.closed (suc t) i (later l ls t i r));
  }

  -- after a release the next ones are g slots on
  kept-after : (l : ℕ) (ls : List ℕ) (j : ℕ) → T (test l j) → Kept 0 (l ∷ ls) → Kept (g - 1) ls
  kept-after l ls j m k = record {
    gap = (kept-tail l ls 0 k).gap;
    closed = λ t i r.
        ⊎_elim (λ e. absurd (omega (arith, e.0))) (λ e. omega (arith, e))
        (k.gap.apart 0 (suc j) (suc t) i (to-first l ls j m) (later l ls t i r) (omega arith));
  }

  -- ---- both ways

  abbrev leads : ℕ → List ℕ → Option ℕ → Bool
  leads s ls o = elim o [ none ↦ false | some t ↦ admits_from Q ls t ]

  to : (run : List ℕ) (s : ℕ) → s < g → T (admits_from Q run s) → Kept s run
  to [] s h a = record {
    gap = record { labels = λ t i. absurd (omega (arith, i)); apart = λ t i t' i' r r' o. absurd (omega (arith, r.slot)) };
    closed = λ t i r. absurd (omega (arith, r.slot));
  }
  to (l ∷ ls) s h a = go (dec_lt l (2 ^ count)) (λ t i b. to ls t i b)
    where
      by : l < 2 ^ count → ((t : ℕ) → t < g → T (admits_from Q ls t) → Kept t ls) → (s n : ℕ) → s < g → releases set count l ≡ n → T (leads s ls (gap_next g s n)) → Kept s (l ∷ ls)
      by i rest s zero h e b = kept-none l ls s i e (rest (s - 1) (omega arith) b)
      by i rest zero (suc zero) h e b = kept-one l ls i e (rest (g - 1) (omega arith) b)
      by i rest (suc s) (suc zero) h e b = absurd b
      by i rest s (suc (suc n)) h e b = absurd b

      go : Dec (l < 2 ^ count) → ((t : ℕ) → t < g → T (admits_from Q ls t) → Kept t ls) → Kept s (l ∷ ls)
      go (yes i) rest = by i rest s (releases set count l) h refl (subst (λ o. T (leads s ls o)) (next-is s l h i) a)
      go (no i) rest = absurd (subst (λ o. T (leads s ls o)) (next-not s l (omega (arith, i))) a)

  back : (run : List ℕ) (s : ℕ) → s < g → Kept s run → T (admits_from Q run s)
  back [] s h k = tt
  back (l ∷ ls) s h k = subst (λ o. T (leads s ls o)) (sym (next-is s l h inside)) (by (λ t i b. back ls t i b) s (releases set count l) h k refl)
    where
      inside : l < 2 ^ count
      inside = k.gap.labels 0 (omega arith)

      by : ((t : ℕ) → t < g → Kept t ls → T (admits_from Q ls t)) → (s n : ℕ) → s < g → Kept s (l ∷ ls) → releases set count l ≡ n → T (leads s ls (gap_next g s n))
      by rest s zero h k e = rest (s - 1) (omega arith) (kept-tail l ls s k)
      by rest zero (suc zero) h k e = let f = passing-some (test l) count (omega (arith, e, counted l)) in rest (g - 1) (omega arith) (kept-after l ls f.0 f.2 k)
      by rest (suc s) (suc zero) h k e = let f = passing-some (test l) count (omega (arith, e, counted l)) in absurd (omega (arith, k.closed 0 (suc f.0) (to-first l ls f.0 f.2)))
      by rest s (suc (suc n)) h k e = let f = passing_pair (test l) count (omega (arith, e, counted l)) in
          absurd (⊎_elim (λ q. omega (arith, q.1, f.2)) (λ q. omega (arith, q))
          (k.gap.apart 0 (suc f.0) 0 (suc f.1) (to-first l ls f.0 f.3) (to-first l ls f.1 f.4) (omega arith)))

  pub gap_runs : (run : List ℕ) → T (admits Q run) ↔ GapKept set count g run
  gap_runs run = (
    λ a. (to run 0 wide a).gap,
    λ k. back run 0 wide (record { gap = k; closed = λ t i r. omega arith }),
  )
