-- Laws of what is noted of a label's choices: every choice's pattern with at least its gain, nothing but choices, and the patterns in
-- the order of their first occurrence.
-- Assumes nothing.
use mathlib.Core.Path.{◌≡◌, refl, sym, ◌∙◌, ap, ap₂}
use mathlib.Core.Bool.{cond}
use mathlib.Core.Logic.{◌↔◌, ◌⊎◌, inl, inr, ⊎_elim}
use mathlib.Core.List.Memᴰ
use mathlib.Core.List.{List, [], ◌∷◌, ◌++◌, map, map-map, foldl, Memᴰ}
use Prim.Native.Nat.{ℕ, ◌+◌, ◌/◌, ◌^◌, ◌<◌, ◌≤◌}
use native.Mathlib.Decide.{dec_lt}
use native.Mathlib.Omega.{arith}
use lib.Dec.{eqb, ltb}
use lib.ListN.{length, get_or, set, length-set, length-replicate}
use lib.Pow.{pow_mono}
use lib.Seq.{get_or-set_same, get_or-set_other}
use borrow.Author.Tests.{lt-ltb, eq-eqb, ne_eqb}
use Rattle.model.specs.Discovery.{among, add}
use Rattle.model.specs.Graph.{choices, joined, worth}
use Rattle.model.specs.Limits.{max_window}
use Rattle.model.specs.Masks.{mask_count}
use Rattle.model.proofs.Tests.{same_number}
use Rattle.model.proofs.Lists.{get_d_default}
use Rattle.model.proofs.Discovery.{fold_either, fold-holds, add_own, add-other}
use Rattle.words.specs.Packed.{packed}
use Rattle.theory.proofs.Patterns.{joined-low}
use Rattle.theory.proofs.Edges.{mem-choices}
use Rattle.policy.specs.View.{Tasks, TasksInRange}
use Rattle.policy.proofs.Cells.{window-low}
use Rattle.graph.specs.Outcomes.{pattern_count, Outcome, outcome_of, outcomes, Notes, note, noted_of, nothing_noted}
use Rattle.graph.proofs.Notes.{masks_with, note-less, note_better, note-first}

abbrev pub score_at : Notes → ℕ → ℕ
score_at n p = get_or n.scores p 0

-- ---- one outcome

-- what is noted of an outcome: it is not better, or better, or the first of its pattern
data Case (wanted : ℕ) (n : Notes) (o : Outcome) : Type 0 where
  less : o.gain < score_at n o.pattern → note wanted n o ≡ n → Case wanted n o
  better : score_at n o.pattern ≤ o.gain → 0 < score_at n o.pattern
      → note wanted n o ≡ record { scores = set n.scores o.pattern (o.gain + 1); masks = masks_with wanted n o; order = n.order } → Case wanted n o
  first : score_at n o.pattern ≡ 0
      → note wanted n o ≡ record { scores = set n.scores o.pattern (o.gain + 1); masks = masks_with wanted n o; order = n.order ++ (o.pattern ∷ []) } → Case wanted n o

cases : (wanted : ℕ) (n : Notes) (o : Outcome) → Case wanted n o
cases wanted n o = by (dec_lt o.gain (score_at n o.pattern)) (dec_lt 0 (score_at n o.pattern))
  where
    by : Dec (o.gain < score_at n o.pattern) → Dec (0 < score_at n o.pattern) → Case wanted n o
    by (yes h) d = less h (note-less wanted n o (score_at n o.pattern) refl h)
    by (no h) (yes p) = better (omega arith) p (note_better wanted n o (score_at n o.pattern) refl (omega arith) p)
    by (no h) (no p) = let z : score_at n o.pattern ≡ 0 = omega arith in first z (note-first wanted n o (score_at n o.pattern) refl z)

module _ (wanted : ℕ) (n : Notes) (o : Outcome) where
  note-length : length (note wanted n o).scores ≡ length n.scores
  note-length = by (cases wanted n o)
    where
      by : Case wanted n o → length (note wanted n o).scores ≡ length n.scores
      by (less h e) = rw e
      by (better h p e) = rw e (length-set n.scores o.pattern (o.gain + 1))
      by (first z e) = rw e (length-set n.scores o.pattern (o.gain + 1))

  -- the score of another pattern is as it was
  note-other : (p : ℕ) → (p ≡ o.pattern → ⊥) → score_at (note wanted n o) p ≡ score_at n p
  note-other p ne = by (cases wanted n o)
    where
      by : Case wanted n o → score_at (note wanted n o) p ≡ score_at n p
      by (less h e) = rw e
      by (better h q e) = rw e (get_or-set_other n.scores o.pattern p (o.gain + 1) 0 ne)
      by (first z e) = rw e (get_or-set_other n.scores o.pattern p (o.gain + 1) 0 ne)

  -- an outcome of another pattern leaves the masks
  note_masks : (o.pattern ≡ wanted → ⊥) → (note wanted n o).masks ≡ n.masks
  note_masks ne = by (cases wanted n o)
    where
      other : masks_with wanted n o ≡ n.masks
      other = ap (λ b. cond b o.masks n.masks) (ne_eqb o.pattern wanted ne)

      by : Case wanted n o → (note wanted n o).masks ≡ n.masks
      by (less h e) = rw e
      by (better h q e) = rw e other
      by (first z e) = rw e other

  -- the score of its pattern is as it was, where that is better, or the outcome's; and so are the masks, where they are wanted
  abbrev Kept : Type 0
  Kept = (score_at (note wanted n o) o.pattern ≡ score_at n o.pattern) × ((note wanted n o).masks ≡ n.masks)

  abbrev Put : Type 0
  Put = (score_at (note wanted n o) o.pattern ≡ o.gain + 1) × (o.pattern ≡ wanted → (note wanted n o).masks ≡ o.masks)

  note-same : o.pattern < length n.scores → ((o.gain < score_at n o.pattern) × Kept) ⊎ ((score_at n o.pattern ≤ o.gain) × Put)
  note-same below = by (cases wanted n o)
    where
      put : get_or (set n.scores o.pattern (o.gain + 1)) o.pattern 0 ≡ o.gain + 1
      put = get_or-set_same n.scores o.pattern (o.gain + 1) 0 below

      own : o.pattern ≡ wanted → masks_with wanted n o ≡ o.masks
      own e = ap (λ b. cond b o.masks n.masks) (eq-eqb o.pattern wanted e)

      by : Case wanted n o → ((o.gain < score_at n o.pattern) × Kept) ⊎ ((score_at n o.pattern ≤ o.gain) × Put)
      by (less h e) = inl (h, rw e (refl, refl))
      by (better h p e) = inr (h, rw e (put, own))
      by (first z e) = inr (omega arith, rw e (put, own))

  module _ (below : o.pattern < length n.scores) where
    note-least : o.gain + 1 ≤ score_at (note wanted n o) o.pattern
    note-least = ⊎_elim (λ h. omega (arith, h.0, h.1.0)) (λ h. omega (arith, h.1.0)) (note-same below)

    note-rises : (p : ℕ) → score_at n p ≤ score_at (note wanted n o) p
    note-rises p = by (dec_lt p o.pattern) (dec_lt o.pattern p)
      where
        other : (p ≡ o.pattern → ⊥) → score_at n p ≤ score_at (note wanted n o) p
        other ne = omega (arith, note-other p ne)

        by : Dec (p < o.pattern) → Dec (o.pattern < p) → score_at n p ≤ score_at (note wanted n o) p
        by (yes h) d = other (λ e. omega arith)
        by (no h) (yes h') = other (λ e. omega arith)
        by (no h) (no h') =
            let e : p ≡ o.pattern = omega arith in
            rw e (⊎_elim (λ h. omega (arith, h.1.0)) (λ h. omega (arith, h.0, h.1.0)) (note-same below))

-- ---- many outcomes

-- every pattern has a place in the notes
abbrev Below : ℕ → List Outcome → Type 0
Below k os = (o : Outcome) → Memᴰ o os → o.pattern < k

fold-rises : (wanted k : ℕ) (os : List Outcome) (n : Notes) → length n.scores ≡ k → Below k os → (p : ℕ) → score_at n p ≤ score_at (foldl (note wanted) n os) p
fold-rises wanted k [] n size below p = omega arith
fold-rises wanted k (o ∷ os) n size below p =
    omega (
      arith,
      note-rises wanted n o (omega (arith, below o (Memᴰ.head refl))) p,
      fold-rises wanted k os (note wanted n o) (note-length wanted n o ∙ size) (λ a m. below a (Memᴰ.tail m)) p,
    )

-- each outcome is noted, or a better one
fold-least : (wanted k : ℕ) (os : List Outcome) (n : Notes) → length n.scores ≡ k → Below k os → (a : Outcome) → Memᴰ a os
    → a.gain + 1 ≤ score_at (foldl (note wanted) n os) a.pattern
fold-least wanted k [] n size below a m = absurd (Memᴰ.not-nil m)
fold-least wanted k (o ∷ os) n size below a m = ⊎_elim here (fold-least wanted k os (note wanted n o) (note-length wanted n o ∙ size) later a) (Memᴰ.cases_cons m)
  where
    later : Below k os
    later b h = below b (Memᴰ.tail h)

    here : a ≡ o → a.gain + 1 ≤ score_at (foldl (note wanted) n (o ∷ os)) a.pattern
    here e =
        rw e
        (omega (
          arith,
          note-least wanted n o (omega (arith, below o (Memᴰ.head refl))),
          fold-rises wanted k os (note wanted n o) (note-length wanted n o ∙ size) later o.pattern,
        ))

-- what is noted was noted before, or is one of the outcomes
abbrev Before : ℕ → Notes → Notes → ℕ → Type 0
Before wanted n n' p = (score_at n' p ≡ score_at n p) × (p ≡ wanted → n'.masks ≡ n.masks)

abbrev Among : ℕ → List Outcome → Notes → ℕ → Type 0
Among wanted os n' p = (a : Outcome) × Memᴰ a os × (a.pattern ≡ p) × (score_at n' p ≡ a.gain + 1) × (p ≡ wanted → n'.masks ≡ a.masks)

fold-from : (wanted k : ℕ) (os : List Outcome) (n : Notes) → length n.scores ≡ k → Below k os → (p : ℕ)
    → Before wanted n (foldl (note wanted) n os) p ⊎ Among wanted os (foldl (note wanted) n os) p
fold-from wanted k [] n size below p = inl (refl, λ e. refl)
fold-from wanted k (o ∷ os) n size below p =
    ⊎_elim (λ e. by e (dec_lt p o.pattern) (dec_lt o.pattern p)) (λ r. inr (r.0, Memᴰ.tail r.1, r.2, r.3, r.4))
    (fold-from wanted k os (note wanted n o) (note-length wanted n o ∙ size) (λ a m. below a (Memᴰ.tail m)) p)
  where
    last : Notes
    last = foldl (note wanted) n (o ∷ os)

    other : Before wanted (note wanted n o) last p → (p ≡ o.pattern → ⊥) → Before wanted n last p
    other e ne = (e.0 ∙ note-other wanted n o p ne, λ w. e.1 w ∙ note_masks wanted n o (λ q. ne (w ∙ sym q)))

    by : Before wanted (note wanted n o) last p → Dec (p < o.pattern) → Dec (o.pattern < p) → Before wanted n last p ⊎ Among wanted (o ∷ os) last p
    by e (yes h) d = inl (other e (λ q. omega arith))
    by e (no h) (yes h') = inl (other e (λ q. omega arith))
    by e (no h) (no h') =
        let q : o.pattern ≡ p = omega arith in
        ⊎_elim (λ r. inl (e.0 ∙ rw (← q) r.1.0, λ w. e.1 w ∙ r.1.1))
        (λ r. inr (o, Memᴰ.head refl, q, e.0 ∙ rw (← q) r.1.0, λ w. e.1 w ∙ r.1.1 (q ∙ w)))
        (note-same wanted n o (omega (arith, below o (Memᴰ.head refl))))

-- ---- the order

-- numbers in the order of their first occurrence
unfoldable pub firsts : List ℕ → List ℕ
firsts ps = foldl (add eqb) [] ps

-- they are the same numbers
pub firsts_mem : (ps : List ℕ) (p : ℕ) → Memᴰ p (firsts ps) ↔ Memᴰ p ps
unfolding firsts
firsts_mem ps p =
    (λ m. ⊎_elim (λ k. absurd (Memᴰ.not-nil k)) (λ k. k) (fold_either eqb same_number ps [] p m), fold-holds eqb same_number ps [] p)

-- a pattern is in the order just where it has a score
abbrev Agrees : Notes → Type 0
Agrees n = (q : ℕ) → q < length n.scores → among eqb q n.order ≡ ltb 0 (score_at n q)

module _ (wanted : ℕ) (n : Notes) (o : Outcome) (agrees : Agrees n) (below : o.pattern < length n.scores) where
  note-order : (note wanted n o).order ≡ add eqb n.order o.pattern
  note-order = by (cases wanted n o)
    where
      by : Case wanted n o → (note wanted n o).order ≡ add eqb n.order o.pattern
      by (less h e) = rw (e, agrees o.pattern below, lt-ltb 0 (score_at n o.pattern) (omega arith))
      by (better h p e) = rw (e, agrees o.pattern below, lt-ltb 0 (score_at n o.pattern) p)
      by (first z e) = rw (e, agrees o.pattern below, z)

  note_agrees : Agrees (note wanted n o)
  note_agrees q h = ap (among eqb q) note-order ∙ by (dec_lt q o.pattern) (dec_lt o.pattern q)
    where
      Agreed : Type 0
      Agreed = among eqb q (add eqb n.order o.pattern) ≡ ltb 0 (score_at (note wanted n o) q)

      other : (q ≡ o.pattern → ⊥) → Agreed
      other ne =
          add-other eqb same_number n.order q o.pattern ne ∙ agrees q (omega (arith, note-length wanted n o))
          ∙ ap (ltb 0) (sym (note-other wanted n o q ne))

      by : Dec (q < o.pattern) → Dec (o.pattern < q) → Agreed
      by (yes l) d = other (λ e. omega arith)
      by (no l) (yes l') = other (λ e. omega arith)
      by (no l) (no l') =
          let e : q ≡ o.pattern = omega arith in
          rw e (add_own eqb same_number n.order o.pattern ∙ sym (lt-ltb 0 (score_at (note wanted n o) o.pattern) (omega (arith, note-least wanted n o below))))

fold-order : (wanted k : ℕ) (os : List Outcome) (n : Notes) → length n.scores ≡ k → Below k os → Agrees n
    → (foldl (note wanted) n os).order ≡ foldl (add eqb) n.order (map (λ (o : Outcome). o.pattern) os)
fold-order wanted k [] n size below agrees = refl
fold-order wanted k (o ∷ os) n size below agrees =
    let here : o.pattern < length n.scores = omega (arith, below o (Memᴰ.head refl)) in
    fold-order wanted k os (note wanted n o) (note-length wanted n o ∙ size) (λ a m. below a (Memᴰ.tail m)) (note_agrees wanted n o agrees here)
    ∙ ap (λ l. foldl (add eqb) l (map (λ (o : Outcome). o.pattern) os)) (note-order wanted n o agrees here)

-- ---- from nothing

nothing-size : length nothing_noted.scores ≡ pattern_count
unfolding nothing_noted
nothing-size = length-replicate {A = ℕ} pattern_count 0

nothing-score : (p : ℕ) → score_at nothing_noted p ≡ 0
unfolding nothing_noted
nothing-score p = get_d_default pattern_count p 0

no_order : nothing_noted.order ≡ []
unfolding nothing_noted
no_order = refl

nothing_agrees : Agrees nothing_noted
nothing_agrees q h = ap (among eqb q) no_order ∙ rw (nothing-score q)

-- ---- the choices of a label

module _ (ts : Tasks) (range : TasksInRange ts) (l taken : ℕ) (low : taken < mask_count) where
  abbrev pub pattern_of : List ℕ → ℕ
  pattern_of ms = joined taken ms / 2

  pub pattern-low : (ms : List ℕ) → Memᴰ ms (choices ts l taken) → pattern_of ms < pattern_count
  pattern-low ms m = let j : joined taken ms < mask_count = joined-low max_window taken ms low mask in omega arith
    where
      mask : (i : ℕ) → get_or ms i 0 < 2 ^ max_window
      mask i =
          ⊎_elim (λ (e : get_or ms i 0 ≡ 0). omega arith) (λ p. omega (arith, p.below, pow_mono (window-low ts range i)))
          (((mem-choices ts l taken ms).0 m).mask i)

  below : Below pattern_count (outcomes ts l taken)
  unfolding outcomes
  below o m =
      let r = Memᴰ.of_map (outcome_of ts taken) (choices ts l taken) m in
      omega (arith, pattern-low r.0 r.1, ap (λ (a : Outcome). a.pattern) r.2)

  module _ (wanted : ℕ) where
    abbrev pub notes : Notes
    notes = noted_of ts l taken wanted nothing_noted

    -- every choice's pattern is noted, with at least its gain
    pub choice_noted : (ms : List ℕ) → Memᴰ ms (choices ts l taken) → worth ts ms + 1 ≤ score_at notes (pattern_of ms)
    unfolding outcomes
    choice_noted ms m = fold-least wanted pattern_count (outcomes ts l taken) nothing_noted nothing-size below (outcome_of ts taken ms) (Memᴰ.map (outcome_of ts taken) m)

    -- what is noted is a choice's pattern and gain, and its masks where they are wanted
    pub noted_choice : (p : ℕ) → 0 < score_at notes p
        → (ms : List ℕ) × Memᴰ ms (choices ts l taken) × (pattern_of ms ≡ p) × (score_at notes p ≡ worth ts ms + 1) × (p ≡ wanted → notes.masks ≡ packed ms)
    unfolding outcomes
    noted_choice p h =
        ⊎_elim (λ e. absurd (omega (arith, h, e.0, nothing-score p)))
        (λ r.
        let s = Memᴰ.of_map (outcome_of ts taken) (choices ts l taken) r.1 in (
          s.0,
          s.1,
          ap (λ (a : Outcome). a.pattern) s.2 ∙ r.2,
          r.3 ∙ ap (λ (a : Outcome). a.gain + 1) (sym s.2),
          λ w. r.4 w ∙ ap (λ (a : Outcome). a.masks) (sym s.2),
        ))
        (fold-from wanted pattern_count (outcomes ts l taken) nothing_noted nothing-size below p)

    -- the order is that of the patterns' first occurrence
    pub noted-order : notes.order ≡ firsts (map pattern_of (choices ts l taken))
    unfolding outcomes firsts
    noted-order =
        fold-order wanted pattern_count (outcomes ts l taken) nothing_noted nothing-size below nothing_agrees
        ∙ ap₂ (foldl (add eqb)) no_order (map-map (λ (o : Outcome). o.pattern) (outcome_of ts taken) (choices ts l taken))
