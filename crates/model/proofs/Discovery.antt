-- Discovery over any type: what is found is led to by the start, no two are the same, and once all of it is explored it is closed.
-- Assumes nothing.
use mathlib.Core.Path.{◌≡◌, refl, sym, ap, subst, ◌∙◌}
use mathlib.Core.Logic.{◌↔◌, ◌⊎◌, inl, inr, ⊎_elim}
use mathlib.Core.Bool.{Bool, true, false, cond, ◌||◌, false≢true}
use mathlib.Core.List.Memᴰ
use mathlib.Core.List.{List, [], ◌∷◌, ◌++◌, foldl, append_assoc, append-nil, Memᴰ}
use Prim.Native.Nat.{ℕ, zero, suc, ◌+◌, ◌-◌, ◌<◌, ◌≤◌}
use native.Mathlib.Decide.{dec_lt}
use native.Mathlib.Nat.{not-suc-le-zero}
use native.Mathlib.Omega.{arith}
use borrow.Author.Tests.{ltb-true, ltb-false, lt-ltb, le-ltb}
use lib.Dec.{ltb}
use lib.ListN.{length, get_or, length-append, get_or-append}
use Rattle.model.specs.Discovery.{among, add, found, number_in}
use Rattle.model.proofs.Lists.{mem-get_or, place}
use Rattle.model.proofs.Tests.{same_decided}
use Rattle.model.proofs.Distinct.{Distinct, distinct_snoc, distinct-at, distinct-le}

module _ {A : Type 0} (same : A → A → Bool) (decides : (u v : A) → (same u v ≡ true) ↔ (u ≡ v)) where
  -- the test is the same the other way round
  pub same_back : (u v : A) → same u v ≡ same v u
  same_back u v = same_decided (decides u v) (λ h. sym ((decides v u).0 h), λ e. (decides v u).1 (sym e))

  -- the test of membership decides it
  pub among-mem : (u : A) (us : List A) → (among same u us ≡ true) ↔ Memᴰ u us
  among-mem u [] = (λ h. absurd (false≢true h), λ m. absurd (Memᴰ.not-nil m))
  among-mem u (v ∷ vs) = by (same u v) refl (among-mem u vs)
    where
      by : (b : Bool) → same u v ≡ b → (among same u vs ≡ true) ↔ Memᴰ u vs → ((b || among same u vs) ≡ true) ↔ Memᴰ u (v ∷ vs)
      by true e later = (λ h. Memᴰ.head ((decides u v).0 e), λ m. refl)
      by false e later = (
        λ h. Memᴰ.tail (later.0 h),
        λ m. ⊎_elim (λ p. absurd (false≢true (sym e ∙ (decides u v).1 p))) later.1 (Memᴰ.cases_cons m),
      )

  -- ---- the number of one

  -- it is its place
  pub number_at : (us : List A) (u d : A) → Memᴰ u us → (number_in same us u < length us) × (get_or us (number_in same us u) d ≡ u)
  number_at [] u d m = absurd (Memᴰ.not-nil m)
  number_at (v ∷ vs) u d m = by (same v u) refl (number_at vs u d)
    where
      At : List A → ℕ → Type 0
      At us i = (i < length us) × (get_or us i d ≡ u)

      by : (b : Bool) → same v u ≡ b → (Memᴰ u vs → At vs (number_in same vs u)) → At (v ∷ vs) (cond b 0 (suc (number_in same vs u)))
      by true e later = (omega arith, (decides v u).0 e)
      by false e later =
          let r = later (⊎_elim (λ p. absurd (false≢true (sym e ∙ (decides v u).1 (sym p)))) (λ k. k) (Memᴰ.cases_cons m)) in
          (omega (arith, r.0), r.1)

  -- the number of the one at a place is that place
  pub number-get_or : (us : List A) (d : A) → Distinct us → (i : ℕ) → i < length us → number_in same us (get_or us i d) ≡ i
  number-get_or us d s i h =
      let r = number_at us (get_or us i d) d (mem-get_or us i d h) in
      distinct-at us d s (number_in same us (get_or us i d)) i r.0 h r.1

  -- others behind do not change it
  number_append : (us more : List A) (v : A) → Memᴰ v us → number_in same (us ++ more) v ≡ number_in same us v
  number_append [] more v m = absurd (Memᴰ.not-nil m)
  number_append (u ∷ us) more v m = by (same u v) refl (number_append us more v)
    where
      by : (b : Bool) → same u v ≡ b → (Memᴰ v us → number_in same (us ++ more) v ≡ number_in same us v) →
          cond b 0 (suc (number_in same (us ++ more) v)) ≡ cond b 0 (suc (number_in same us v))
      by true e later = refl
      by false e later =
          ap suc (later (⊎_elim (λ p. absurd (false≢true (sym e ∙ (decides u v).1 (sym p)))) (λ k. k) (Memᴰ.cases_cons m)))

  -- one has a number below the length just if it is among them
  pub number-le : (us : List A) (u : A) → number_in same us u ≤ length us
  number-le [] u = omega arith
  number-le (v ∷ vs) u = by (same v u) (number-le vs u)
    where
      by : (b : Bool) → number_in same vs u ≤ length vs → cond b 0 (suc (number_in same vs u)) ≤ suc (length vs)
      by true h = omega arith
      by false h = omega arith

  pub number-mem : (us : List A) (u : A) → number_in same us u < length us → Memᴰ u us
  number-mem [] u h = absurd (not-suc-le-zero h)
  number-mem (v ∷ vs) u h = by (same v u) refl (number-mem vs u) h
    where
      by : (b : Bool) → same v u ≡ b → (number_in same vs u < length vs → Memᴰ u vs) →
          cond b 0 (suc (number_in same vs u)) < suc (length vs) → Memᴰ u (v ∷ vs)
      by true e later k = Memᴰ.head (sym ((decides v u).0 e))
      by false e later k = Memᴰ.tail (later (omega arith))

  pub among-number : (us : List A) (u : A) → among same u us ≡ ltb (number_in same us u) (length us)
  among-number us u =
      same_decided (among-mem u us) (λ h. number-mem us u (ltb-true _ _ h), λ m. lt-ltb _ _ (number_at us u u m).0)

  -- ---- others join

  -- what others make of those known
  record Grown (us ts all : List A) : Type 0 where
    more : List A
    grown : all ≡ us ++ more
    distinct : Distinct us → Distinct all
    from : (v : A) → Memᴰ v all → Memᴰ v us ⊎ Memᴰ v ts
    holds : (v : A) → Memᴰ v ts → Memᴰ v all

  -- those known stay
  grown_keeps : {us ts all : List A} → Grown us ts all → {v : A} → Memᴰ v us → Memᴰ v all
  grown_keeps g {v} m = subst (λ l. Memᴰ v l) (sym g.grown) (Memᴰ.append_left g.more m)

  -- none
  grown_none : (us : List A) → Grown us [] us
  grown_none us = record {
    more = [];
    grown = sym (append-nil us);
    distinct = λ d. d;
    from = λ v m. inl m;
    holds = λ v m. absurd (Memᴰ.not-nil m);
  }

  -- one
  grown_one : (us : List A) (t : A) → Grown us (t ∷ []) (add same us t)
  grown_one us t = by (among same t us) refl
    where
      by : (b : Bool) → among same t us ≡ b → Grown us (t ∷ []) (cond b us (us ++ (t ∷ [])))
      by true p = record {
        more = [];
        grown = sym (append-nil us);
        distinct = λ d. d;
        from = λ v m. inl m;
        holds = λ v m. Memᴰ.cast (Memᴰ.eq_of_singleton m) ((among-mem t us).0 p);
      }
      by false p = record {
        more = t ∷ [];
        grown = refl;
        distinct = λ d. distinct_snoc us t d (λ m. false≢true (sym p ∙ (among-mem t us).1 m));
        from = λ v m. Memᴰ.append_cases us m;
        holds = λ v m. Memᴰ.append_right us m;
      }

  -- one, then the others
  grown_then : {us ks all : List A} {t : A} {ts : List A} → Grown us (t ∷ []) ks → Grown ks ts all → Grown us (t ∷ ts) all
  grown_then {us} {ks} {all} {t} {ts} g h = record {
    more = g.more ++ h.more;
    grown = h.grown ∙ ap (λ l. l ++ h.more) g.grown ∙ append_assoc us g.more h.more;
    distinct = λ d. h.distinct (g.distinct d);
    from = λ v m.
        ⊎_elim (λ k. ⊎_elim (λ j. inl j) (λ j. inr (Memᴰ.head (Memᴰ.eq_of_singleton j))) (g.from v k))
        (λ k. inr (Memᴰ.tail k)) (h.from v m);
    holds = λ v m.
        ⊎_elim (λ p. grown_keeps h (g.holds v (Memᴰ.head p))) (λ k. h.holds v k) (Memᴰ.cases_cons m);
  }

  -- all of them
  grown_all : (ts us : List A) → Grown us ts (foldl (add same) us ts)
  grown_all [] us = grown_none us
  grown_all (t ∷ ts) us = grown_then (grown_one us t) (grown_all ts (add same us t))

  longer_by : {us ts all : List A} → Grown us ts all → length us ≤ length all
  longer_by {us} g = omega (arith, ap length g.grown, length-append us g.more)

  -- none is lost
  pub fold_longer : (ts us : List A) → length us ≤ length (foldl (add same) us ts)
  fold_longer ts us = longer_by (grown_all ts us)

  -- those that join are then among them, and no others that were not
  pub fold_either : (ts us : List A) (v : A) → Memᴰ v (foldl (add same) us ts) → Memᴰ v us ⊎ Memᴰ v ts
  fold_either ts us v m = (grown_all ts us).from v m

  pub fold-holds : (ts us : List A) (v : A) → Memᴰ v ts → Memᴰ v (foldl (add same) us ts)
  fold-holds ts us v m = (grown_all ts us).holds v m

  -- those that were keep their numbers
  pub fold-number : (ts us : List A) (v : A) → Memᴰ v us → number_in same (foldl (add same) us ts) v ≡ number_in same us v
  fold-number ts us v m =
      let g = grown_all ts us in
      ap (λ l. number_in same l v) g.grown ∙ number_append us g.more v m

  -- and places
  pub fold-get_or : (ts us : List A) (d : A) (i : ℕ) → i < length us → get_or (foldl (add same) us ts) i d ≡ get_or us i d
  fold-get_or ts us d i h =
      let g = grown_all ts us in
      ap (λ l. get_or l i d) g.grown ∙ get_or-append us g.more d i h

  -- one that joins is then among them, and no other is unless it was
  pub add_own : (us : List A) (v : A) → among same v (add same us v) ≡ true
  add_own us v = (among-mem v (add same us v)).1 ((grown_one us v).holds v (Memᴰ.head refl))

  pub add-other : (us : List A) (u v : A) → (u ≡ v → ⊥) → among same u (add same us v) ≡ among same u us
  add-other us u v ne =
      let g = grown_one us v in
      same_decided (among-mem u (add same us v)) (
        λ h. grown_keeps g ((among-mem u us).0 h),
        λ m. (among-mem u us).1 (⊎_elim (λ k. k) (λ k. absurd (ne (Memᴰ.eq_of_singleton k))) (g.from u m)),
      )

  module _ (next : A → List A) (start : A) where
    -- what the start leads to
    pub data Leads : A → Type 0 where
      here : Leads start
      go : {u v : A} → Leads u → Memᴰ v (next u) → Leads v

    -- what holds of those known once k of them have been explored
    pub record Known (k : ℕ) (us : List A) : Type 0 where
      pub distinct : Distinct us
      pub some : 0 < length us
      pub first : get_or us 0 start ≡ start
      pub led : (v : A) → Memᴰ v us → Leads v
      pub closed : (j : ℕ) → j < k → j < length us → (v : A) → Memᴰ v (next (get_or us j start)) → Memᴰ v us

    -- at first
    known_start : Known 0 (start ∷ [])
    known_start = record {
      distinct = (Memᴰ.not-nil, tt);
      some = omega arith;
      first = refl;
      led = λ v m. subst Leads (sym (Memᴰ.eq_of_singleton m)) here;
      closed = λ j h. absurd (not-suc-le-zero h);
    }

    module _ (k : ℕ) {us : List A} (known : Known k us) where
      -- past the last one, all have been explored
      known_past : length us ≤ k → Known (suc k) us
      known_past h = record {
        distinct = known.distinct;
        some = known.some;
        first = known.first;
        led = known.led;
        closed = λ j l i. known.closed j (omega arith) i;
      }

      -- what follows the next one
      known_next : k < length us → {all : List A} → Grown us (next (get_or us k start)) all → Known (suc k) all
      known_next h {all} g = record {
        distinct = g.distinct known.distinct;
        some = omega (arith, longer_by g, known.some);
        first = alike 0 known.some ∙ known.first;
        led = λ v m. ⊎_elim (known.led v) (λ n. go (known.led (get_or us k start) (mem-get_or us k start h)) n) (g.from v m);
        closed = λ j l i v m. by j (dec_lt j k) l v m;
      }
        where
          alike : (j : ℕ) → j < length us → get_or all j start ≡ get_or us j start
          alike j l = ap (λ a. get_or a j start) g.grown ∙ get_or-append us g.more start j l

          by : (j : ℕ) → Dec (j < k) → j < suc k → (v : A) → Memᴰ v (next (get_or all j start)) → Memᴰ v all
          by j (yes l) i v m = grown_keeps g (known.closed j l (omega arith) v (subst (λ u. Memᴰ v (next u)) (alike j (omega arith)) m))
          by j (no l) i v m =
              let at : j ≡ k = omega arith in
              g.holds v (subst (λ u. Memᴰ v (next u)) (alike j (omega arith) ∙ ap (λ n. get_or us n start) at) m)

    -- ---- the steps of the discovery

    abbrev known_by : ℕ → List A
    known_by k = found same next start k

    -- one that is known is explored
    abbrev step : ℕ → List A
    step k = foldl (add same) (known_by k) (next (get_or (known_by k) k start))

    pub found-step : (k : ℕ) → k < length (known_by k) → known_by (suc k) ≡ step k
    unfolding found
    found-step k h = ap (λ (b : Bool). cond b (step k) (known_by k)) (lt-ltb k (length (known_by k)) h)

    -- past the last one nothing joins
    past : (k : ℕ) → length (known_by k) ≤ k → known_by (suc k) ≡ known_by k
    unfolding found
    past k h = ap (λ (b : Bool). cond b (step k) (known_by k)) (le-ltb k (length (known_by k)) h)

    -- what holds of every step holds in the end
    by_steps : (C : ℕ → List A → Type 0) → C 0 (start ∷ []) →
        ((k : ℕ) → k < length (known_by k) → C k (known_by k) → C (suc k) (step k)) →
        ((k : ℕ) → length (known_by k) ≤ k → C k (known_by k) → C (suc k) (known_by k)) → (k : ℕ) → C k (known_by k)
    unfolding found
    by_steps C none more done zero = none
    by_steps C none more done (suc k) = by (ltb k (length (known_by k))) refl (by_steps C none more done k)
      where
        by : (b : Bool) → ltb k (length (known_by k)) ≡ b → C k (known_by k) → C (suc k) (cond b (step k) (known_by k))
        by true e h = more k (ltb-true _ _ e) h
        by false e h = done k (ltb-false _ _ e) h

    pub known-found : (k : ℕ) → Known k (known_by k)
    known-found =
        by_steps Known known_start (λ k h known. known_next k known h (grown_all (next (get_or (known_by k) k start)) (known_by k)))
        (λ k h known. known_past k known h)

    -- those known only grow at the end
    longer : (k j : ℕ) → length (known_by k) ≤ length (known_by (j + k))
    longer k zero = subst (λ (i : ℕ). length (known_by k) ≤ length (known_by i)) (let e : k ≡ 0 + k = omega arith in e) (omega arith)
    longer k (suc j) =
        subst (λ (i : ℕ). length (known_by k) ≤ length (known_by i)) (let e : suc (j + k) ≡ suc j + k = omega arith in e)
        (omega (arith, longer k j, one (dec_lt (j + k) (length (known_by (j + k))))))
      where
        one : Dec (j + k < length (known_by (j + k))) → length (known_by (j + k)) ≤ length (known_by (suc (j + k)))
        one (yes h) =
            omega (arith, ap length (found-step (j + k) h), fold_longer (next (get_or (known_by (j + k)) (j + k) start)) (known_by (j + k)))
        one (no h) = omega (arith, ap length (past (j + k) (omega (arith, h))))

    rest : (k j : ℕ) → length (known_by k) ≤ k → known_by (j + k) ≡ known_by k
    rest k zero h = ap known_by (let e : 0 + k ≡ k = omega arith in e)
    rest k (suc j) h =
        let later = rest k j h in
        ap known_by (let e : suc j + k ≡ suc (j + k) = omega arith in e) ∙ past (j + k) (omega (arith, ap length later)) ∙ later

    module _ (limit : ℕ) where
      -- once all known have been explored there are no others
      pub found_all : (k : ℕ) → k ≤ limit → length (known_by k) ≤ k → known_by k ≡ known_by limit
      found_all k few h = sym (rest k (limit - k) h) ∙ ap known_by (let e : limit - k + k ≡ limit = omega arith in e)

      -- more than the limit once are more in the end
      pub found-many : (k : ℕ) → k ≤ limit → limit < length (known_by k) → limit < length (known_by limit)
      found-many k few h =
          subst (λ (i : ℕ). limit < length (known_by i)) (let e : limit - k + k ≡ limit = omega arith in e)
          (omega (arith, h, longer k (limit - k)))

      -- ---- where no more than the limit are found

      -- the start is found
      pub start-found : Memᴰ start (known_by limit)
      start-found = Memᴰ.cast (sym (known-found limit).first) (mem-get_or (known_by limit) 0 start (known-found limit).some)

      module _ (few : length (known_by limit) ≤ limit) where
        -- what follows one of them is one of them
        pub found-closed : (u v : A) → Memᴰ u (known_by limit) → Memᴰ v (next u) → Memᴰ v (known_by limit)
        found-closed u v m n =
            let r = place start m in
            (known-found limit).closed r.0 (omega (arith, few, r.1)) r.1 v (subst (λ x. Memᴰ v (next x)) (sym r.2) n)

        -- all that the start leads to are found
        pub led-found : {v : A} → Leads v → Memᴰ v (known_by limit)
        led-found here = start-found
        led-found (go {u = u} {v = v} l m) = found-closed u v (led-found l) m

        -- and are no more
        pub few-led : (us : List A) → Distinct us → ((v : A) → Memᴰ v us → Leads v) → length us ≤ limit
        few-led us d l = omega (arith, few, distinct-le us (known_by limit) d (λ v m. led-found (l v m)))
