-- Laws of notes: what noting an outcome leaves, in the notes and in memory.
-- Assumes nothing.
use mathlib.Core.Path.{◌≡◌, refl, sym, ◌∙◌, ap, ap₂, subst}
use mathlib.Core.Bool.{Bool, true, false, cond}
use mathlib.Core.Logic.{◌⊎◌, inl, ⊎_elim}
use mathlib.Core.List.{List, [], ◌∷◌, ◌++◌, map}
use Prim.Native.Nat.{ℕ, ◌+◌, ◌-◌, ◌*◌, ◌/◌, ◌%◌, ◌<◌, ◌≤◌}
use native.Mathlib.Nat.{div-add-mod'}
use native.Mathlib.Decide.{dec_lt}
use native.Mathlib.Omega.{arith}
use lib.Dec.{eqb, ltb}
use lib.ListN.{length, get_or, set, drop, replicate, length-append, length-set, length-drop, length-replicate, get_or-append, get_or-replicate}
use lib.Seq.{get_or-set_same, get_or-set_other, get_or-drop, get_or-append_right}
use borrow.Author.Tests.{lt-ltb, le-leb, lt-leb, eq-eqb, ne_eqb}
use Rattle.model.specs.Lists.{keep, up_from, one}
use Rattle.model.proofs.Lists.{length-keep-le, get_or-table, table_more}
use Rattle.policy.proofs.Lists.{length-table}
use Rattle.graph.specs.Outcomes.{pattern_count, Outcome, outcome_in, Notes, note, noted_masks_at, order_at, lists_at, note_room, score_at, word_base, masks_in, pattern_in, notes_in, with_masks, Tallied, Room, NotesFree, Keeps, Noting, nothing_noted, Cleared}
use Rattle.graph.proofs.Tables.{table_same, table-set, table_const, length-keep-set}

-- ---- noting an outcome, by the score that is noted for its pattern

-- the masks noted then, where it is best
abbrev pub masks_with : ℕ → Notes → Outcome → ℕ
masks_with wanted n o = cond (eqb o.pattern wanted) o.masks n.masks

module _ (wanted : ℕ) (n : Notes) (o : Outcome) (s : ℕ) (is : get_or n.scores o.pattern 0 ≡ s) where
  pub note-less : o.gain < s → note wanted n o ≡ n
  unfolding note
  note-less h = rw (is, lt-leb s o.gain h, ne_eqb s 0 (λ e. omega arith))

  pub note_better : s ≤ o.gain → 0 < s
      → note wanted n o ≡ record { scores = set n.scores o.pattern (o.gain + 1); masks = masks_with wanted n o; order = n.order }
  unfolding note
  note_better h p = rw (is, le-leb s o.gain h, ne_eqb s 0 (λ e. omega arith))

  pub note-first : s ≡ 0
      → note wanted n o ≡ record { scores = set n.scores o.pattern (o.gain + 1); masks = masks_with wanted n o; order = n.order ++ (o.pattern ∷ []) }
  unfolding note
  note-first e = rw (is, le-leb s o.gain (omega arith), eq-eqb s 0 e)

-- the tally counts a pattern just where it is first noted
pub tally-note : (wanted : ℕ) (n : Notes) (o : Outcome) → o.pattern < length n.scores → Tallied n → Tallied (note wanted n o)
tally-note wanted n o below t = by (dec_lt o.gain s) (dec_lt 0 s)
  where
    s : ℕ
    s = get_or n.scores o.pattern 0

    more : length (keep (ltb 0) (set n.scores o.pattern (o.gain + 1))) + one (ltb 0 s) ≡ length (keep (ltb 0) n.scores) + 1
    more = length-keep-set (ltb 0) n.scores o.pattern (o.gain + 1) 0 below ∙ rw (lt-ltb 0 (o.gain + 1) (omega arith))

    by : Dec (o.gain < s) → Dec (0 < s) → Tallied (note wanted n o)
    by (yes h) d = rw (note-less wanted n o s refl h) t
    by (no h) (yes p) = rw (note_better wanted n o s refl (omega arith) p) (record { tally = omega (arith, t.tally, rw (lt-ltb 0 s p) at more) })
    by (no h) (no p) =
        let z : s ≡ 0 = omega arith in
        rw (note-first wanted n o s refl z)
        (record { tally = omega (arith, t.tally, length-append n.order (o.pattern ∷ []), rw z at more) })

-- ---- what is kept

pub keeps_refl : {place : ℕ} {m : List ℕ} → Keeps place m m
keeps_refl = record { long = refl; lists = λ i h k. refl; behind = λ i h. refl }

module _ {place : ℕ} {m m' : List ℕ} (a : Keeps place m m') where
  pub keeps_trans : {m'' : List ℕ} → Keeps place m' m'' → Keeps place m m''
  keeps_trans b = record {
    long = b.long ∙ a.long;
    lists = λ i h k. b.lists i h k ∙ a.lists i h k;
    behind = λ i h. b.behind i h ∙ a.behind i h;
  }

  -- of fewer lists
  pub keeps_fewer : (place' : ℕ) → place' ≤ place → Keeps place' m m'
  keeps_fewer place' le = record { long = a.long; lists = λ i h k. a.lists i h (omega arith); behind = a.behind }

  pub keeps_free : NotesFree m m'
  keeps_free = record { long = a.long; others = λ i. ⊎_elim (λ h. absurd (omega arith)) (λ h. a.behind i (omega arith)) }

-- a number that is written outside of those lists
pub keeps-set : (place : ℕ) (m : List ℕ) (at v : ℕ) → (at < lists_at) ⊎ (place ≤ at) → at < note_room → Keeps place m (set m at v)
keeps-set place m at v apart inside = record {
  long = length-set m at v;
  lists = λ i h k. get_or-set_other m at i v 0 (λ e. ⊎_elim (λ l. omega arith) (λ l. omega arith) apart);
  behind = λ i h. get_or-set_other m at i v 0 (λ e. omega arith);
}

-- ---- what a write leaves of the notes in memory

module _ (m : List ℕ) (count : ℕ) (room : note_room ≤ length m) (few : count ≤ pattern_count) where
  abbrev before : Notes
  before = notes_in m count

  -- a score takes its place
  pub notes-score : (p s : ℕ) → p < pattern_count → notes_in (set m p s) count ≡ record { scores = set before.scores p s; masks = before.masks; order = before.order }
  unfolding notes_in
  notes-score p s below = λ i. record { scores = scores i; masks = masks i; order = order i }
    where
      scores : map (score_at (set m p s)) (up_from 0 pattern_count) ≡ set (map (score_at m) (up_from 0 pattern_count)) p s
      scores =
          table-set (score_at m) (score_at (set m p s)) pattern_count p below (λ k h ne. get_or-set_other m p k s 0 ne)
          ∙ ap (set (map (score_at m) (up_from 0 pattern_count)) p) (get_or-set_same m p s 0 (omega arith))

      masks : masks_in (set m p s) ≡ masks_in m
      masks =
          ap₂ (λ (a b : ℕ). a * word_base + b) (get_or-set_other m p noted_masks_at s 0 (λ e. omega arith)) (get_or-set_other m p (noted_masks_at + 1) s 0 (λ e. omega arith))

      order : map (pattern_in (set m p s)) (up_from 0 count) ≡ map (pattern_in m) (up_from 0 count)
      order = table_same (pattern_in m) (pattern_in (set m p s)) count (λ k h. get_or-set_other m p (order_at + k) s 0 (λ e. omega arith))

  -- masks are noted where they are wanted
  pub notes-masks : (b : Bool) (x : ℕ) → notes_in (with_masks b x m) count ≡ record { scores = before.scores; masks = cond b x before.masks; order = before.order }
  unfolding notes_in
  notes-masks false x = refl
  notes-masks true x = λ i. record { scores = scores i; masks = masks i; order = order i }
    where
      high : List ℕ
      high = set m noted_masks_at (x / word_base)

      both : List ℕ
      both = set high (noted_masks_at + 1) (x % word_base)

      other : (k : ℕ) → (k ≡ noted_masks_at → ⊥) → (k ≡ noted_masks_at + 1 → ⊥) → get_or both k 0 ≡ get_or m k 0
      other k a b = get_or-set_other high (noted_masks_at + 1) k (x % word_base) 0 b ∙ get_or-set_other m noted_masks_at k (x / word_base) 0 a

      scores : map (score_at both) (up_from 0 pattern_count) ≡ map (score_at m) (up_from 0 pattern_count)
      scores = table_same (score_at m) (score_at both) pattern_count (λ k h. other k (λ e. omega arith) (λ e. omega arith))

      masks : masks_in both ≡ x
      masks =
          ap₂ (λ (a b : ℕ). a * word_base + b)
          (get_or-set_other high (noted_masks_at + 1) noted_masks_at (x % word_base) 0 (λ e. omega arith) ∙ get_or-set_same m noted_masks_at (x / word_base) 0 (omega arith))
          (get_or-set_same high (noted_masks_at + 1) (x % word_base) 0 (omega (arith, length-set m noted_masks_at (x / word_base))))
          ∙ div-add-mod' x word_base

      order : map (pattern_in both) (up_from 0 count) ≡ map (pattern_in m) (up_from 0 count)
      order = table_same (pattern_in m) (pattern_in both) count (λ k h. other (order_at + k) (λ e. omega arith) (λ e. omega arith))

  -- a pattern joins the order
  pub notes-order : (p : ℕ) → count < pattern_count
      → notes_in (set m (order_at + count) p) (count + 1) ≡ record { scores = before.scores; masks = before.masks; order = before.order ++ (p ∷ []) }
  unfolding notes_in
  notes-order p free = λ i. record { scores = scores i; masks = masks i; order = order i }
    where
      after : List ℕ
      after = set m (order_at + count) p

      kept : (k : ℕ) → k < order_at + count → get_or after k 0 ≡ get_or m k 0
      kept k h = get_or-set_other m (order_at + count) k p 0 (λ e. omega arith)

      scores : map (score_at after) (up_from 0 pattern_count) ≡ map (score_at m) (up_from 0 pattern_count)
      scores = table_same (score_at m) (score_at after) pattern_count (λ k h. kept k (omega arith))

      masks : masks_in after ≡ masks_in m
      masks = ap₂ (λ (a b : ℕ). a * word_base + b) (kept noted_masks_at (omega arith)) (kept (noted_masks_at + 1) (omega arith))

      order : map (pattern_in after) (up_from 0 (count + 1)) ≡ map (pattern_in m) (up_from 0 count) ++ (p ∷ [])
      order =
          table_more (pattern_in after) count
          ∙ ap₂ (λ l k. l ++ (k ∷ [])) (table_same (pattern_in m) (pattern_in after) count (λ k h. kept (order_at + k) (omega arith)))
          (get_or-set_same m (order_at + count) p 0 (omega arith))

pub masks-keep : (place : ℕ) (b : Bool) (x : ℕ) (m : List ℕ) → Keeps place m (with_masks b x m)
masks-keep place false x m = keeps_refl
masks-keep place true x m =
    keeps_trans (keeps-set place m noted_masks_at (x / word_base) (inl (omega arith)) (omega arith))
    (keeps-set place (set m noted_masks_at (x / word_base)) (noted_masks_at + 1) (x % word_base) (inl (omega arith)) (omega arith))

-- ---- noting an outcome in memory

module _ (m : List ℕ) (count : ℕ) (r : Room m count) where
  pub scores-size : length (notes_in m count).scores ≡ pattern_count
  unfolding notes_in
  scores-size = length-table (score_at m) pattern_count

  counted : count ≡ length (keep (ltb 0) (notes_in m count).scores)
  unfolding notes_in
  counted = sym (length-table (pattern_in m) count) ∙ r.tallied.tally

  pub few : count ≤ pattern_count
  few = omega (arith, counted, length-keep-le (ltb 0) (notes_in m count).scores, scores-size)

module _ (m : List ℕ) (count : ℕ) (r : Room m count) (wanted pattern gain masks : ℕ) (below : pattern < pattern_count) where
  abbrev outcome : Outcome
  outcome = outcome_in pattern gain masks

  abbrev noted : Notes
  noted = notes_in m count

  found : get_or noted.scores pattern 0 ≡ get_or m pattern 0
  unfolding notes_in
  found = get_or-table (score_at m) pattern_count pattern 0 below

  -- where the pattern is not noted yet, the order has room for it
  pub free : get_or m pattern 0 ≡ 0 → count < pattern_count
  free e =
      let more = length-keep-set (ltb 0) noted.scores pattern 1 0 (omega (arith, scores-size m count r)) in
      omega (
        arith,
        counted m count r,
        scores-size m count r,
        length-keep-le (ltb 0) (set noted.scores pattern 1),
        length-set noted.scores pattern 1,
        rw (found ∙ e) at more,
      )

  done : (after : List ℕ) (count' : ℕ) → notes_in after count' ≡ note wanted noted outcome → Keeps note_room m after
      → Noting wanted (outcome ∷ []) note_room m count after count'
  done after count' notes keeps = record {
    notes = notes;
    keeps = keeps;
    room = record {
      room = omega (arith, r.room, keeps.long);
      tallied = subst Tallied (sym notes) (tally-note wanted noted outcome (omega (arith, scores-size m count r)) r.tallied);
    };
  }

  pub noting_less : gain < get_or m pattern 0 → Noting wanted (outcome ∷ []) note_room m count m count
  noting_less lt = done m count (sym (note-less wanted noted outcome (get_or m pattern 0) found lt)) keeps_refl

  -- the score and the masks
  abbrev scored : List ℕ
  scored = set m pattern (gain + 1)

  abbrev with_outcome : List ℕ
  with_outcome = with_masks (eqb pattern wanted) masks scored

  keeps-outcome : Keeps note_room m with_outcome
  keeps-outcome =
      keeps_trans (keeps-set note_room m pattern (gain + 1) (inl (omega arith)) (omega arith)) (masks-keep note_room (eqb pattern wanted) masks scored)

  notes-outcome : notes_in with_outcome count
      ≡ record { scores = set noted.scores pattern (gain + 1); masks = masks_with wanted noted outcome; order = noted.order }
  notes-outcome =
      notes-masks scored count (omega (arith, r.room, length-set m pattern (gain + 1))) (few m count r) (eqb pattern wanted) masks
      ∙ ap (λ (n : Notes). record { scores = n.scores; masks = cond (eqb pattern wanted) masks n.masks; order = n.order })
      (notes-score m count r.room (few m count r) pattern (gain + 1) below)

  pub noting_better : get_or m pattern 0 ≤ gain → (get_or m pattern 0 ≡ 0 → ⊥) → Noting wanted (outcome ∷ []) note_room m count with_outcome count
  noting_better le ne =
      done with_outcome count
      (notes-outcome ∙ sym (note_better wanted noted outcome (get_or m pattern 0) found le (omega arith))) keeps-outcome

  pub noting_first : get_or m pattern 0 ≡ 0 → Noting wanted (outcome ∷ []) note_room m count (set with_outcome (order_at + count) pattern) (count + 1)
  noting_first e =
      let room : note_room ≤ length with_outcome = omega (arith, keeps-outcome.long, r.room) in
      done (set with_outcome (order_at + count) pattern) (count + 1)
      (notes-order with_outcome count room (few m count r) pattern (free e)
      ∙ ap (λ (n : Notes). record { scores = n.scores; masks = n.masks; order = n.order ++ (pattern ∷ []) }) notes-outcome
      ∙ sym (note-first wanted noted outcome (get_or m pattern 0) found e))
      (keeps_trans keeps-outcome (keeps-set note_room with_outcome (order_at + count) pattern (inl (omega (arith, free e))) (omega (arith, free e))))

-- ---- notes that were cleared

pub notes-cleared : (m m' : List ℕ) → note_room ≤ length m → length m' ≡ length m → ((i : ℕ) → i < order_at → get_or m' i 0 ≡ 0)
    → ((i : ℕ) → order_at ≤ i → get_or m' i 0 ≡ get_or m i 0) → Cleared m m'
unfolding notes_in nothing_noted
notes-cleared m m' room long zero others = record {
  notes = notes;
  only = record { long = long; others = λ i. ⊎_elim (λ h. absurd (omega arith)) (λ h. others i (omega arith)) };
  room = record { room = omega arith; tallied = subst Tallied (sym notes) (record { tally = refl }) };
}
  where
    notes : notes_in m' 0 ≡ nothing_noted
    notes = λ i. record { scores = scores i; masks = masks i; order = [] }
      where
        scores : map (score_at m') (up_from 0 pattern_count) ≡ replicate pattern_count 0
        scores = table_const (score_at m') pattern_count 0 (λ p h. zero p (omega arith))

        masks : masks_in m' ≡ 0
        masks = ap₂ (λ (a b : ℕ). a * word_base + b) (zero noted_masks_at (omega arith)) (zero (noted_masks_at + 1) (omega arith))

-- the numbers before the order are written over with zeros
pub front-cleared : (m zeros : List ℕ) → note_room ≤ length m → zeros ≡ replicate order_at 0 → Cleared m (zeros ++ drop order_at m)
front-cleared m zeros room e =
    notes-cleared m (zeros ++ drop order_at m) room (omega (arith, size, length-append zeros (drop order_at m), length-drop order_at m))
    (λ i h. get_or-append zeros (drop order_at m) 0 i (omega (arith, size)) ∙ ap (λ (l : List ℕ). get_or l i 0) e ∙ get_or-replicate order_at i 0 0 h)
    (λ i h.
    let at : order_at + (i - length zeros) ≡ i = omega (arith, size) in
    get_or-append_right zeros (drop order_at m) i 0 (omega (arith, size)) ∙ get_or-drop order_at m (i - length zeros) 0 ∙ ap (λ (k : ℕ). get_or m k 0) at)
  where
    size : length zeros ≡ order_at
    size = ap length e ∙ length-replicate {A = ℕ} order_at 0

-- ---- reading notes

pub score-read : (m : List ℕ) (count p : ℕ) → p < pattern_count → get_or m p 0 ≡ get_or (notes_in m count).scores p 0
unfolding notes_in
score-read m count p h = sym (get_or-table (score_at m) pattern_count p 0 h)

pub masks-read : (m : List ℕ) (count : ℕ) → masks_in m ≡ (notes_in m count).masks
unfolding notes_in
masks-read m count = refl
