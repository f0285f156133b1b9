-- Labels that are gone through one after another.
-- Assumes nothing.
use mathlib.Core.Path.{◌≡◌, refl, sym, ap, subst, ◌∙◌}
use mathlib.Core.Bool.{true}
use mathlib.Core.List.{List, [], ◌∷◌, ◌++◌, append_assoc, append-nil}
use Prim.Native.Nat.{ℕ, suc, ◌+◌, ◌-◌, ◌^◌, ◌≤◌, ◌<◌}
use native.Mathlib.Numerals.{add-one}
use native.Mathlib.Omega.{arith}
use borrow.Author.Tests.{leb-true}
use lib.Dec.{leb}
use lib.ListN.{length, get_or, take, drop, length-append}
use lib.Seq.{split_at, take-suc, take_all, length-take-le, append_snoc}
use Rattle.model.specs.Limits.{max_cap_slots, max_cap_work}
use Rattle.model.specs.Refusals.{not_admitted}
use Rattle.model.specs.Plan.{Task, between}
use Rattle.model.specs.Cap.{CapAnswer, kept, over, refused, label_work, work_of, cap_run, earlier, cap_in_range}
use Rattle.model.proofs.Lists.{get_or-table}
use Rattle.model.proofs.Plan.{both}
use Rattle.std.specs.Prelude.{Ok, Err, Some, None}
use Rattle.theory.proofs.Cap.{run-told, next-foreign, next-over, next-kept}
use Rattle.plan.specs.View.{label_count}
use Rattle.refusals.specs.declared.Refusal.TheVariants.{NotAdmitted}
use Rattle.cap.specs.View.{Answer, places, CapOf, Shows, Going, Room, Scans}
use Rattle.cap.specs.declared.Cap.{Cap}
use Rattle.cap.specs.declared.Window.{Window}
use Rattle.cap.proofs.Sliding.{label_back, oldest_within, sum-next, kept-within, kept_own, back_is, last_more}

-- a cap in range
pub range_bounds : (k w : ℕ) → cap_in_range k w ≡ true → (1 ≤ k) × (k ≤ max_cap_slots) × (w ≤ max_cap_work)
range_bounds k w e =
    let two = both (between 1 k max_cap_slots) (leb w max_cap_work) e in
    let row = both (leb 1 k) (leb k max_cap_slots) two.0 in
    (leb-true 1 k row.0, leb-true k max_cap_slots row.1, leb-true w max_cap_work two.1)

-- the log tells nothing, and its last k slots have this work
pub record Passed (ts : List Task) (k w : ℕ) (log : List ℕ) (sum : ℕ) : Type 0 where
  pub so_far : cap_run ts k w log ≡ kept
  pub total : sum ≡ work_of ts (drop (length log - k) log)

-- the labels before a place are gone through
pub record Scanned (c : Cap) (v : Window) (labels : List ℕ) (sum i : ℕ) : Type 0 where
  pub inside : i ≤ length labels
  pub passed : (ts : List Task) (k w : ℕ) (log : List ℕ) → Going ts k w log c v → Passed ts k w (log ++ take i labels) sum

-- what is known of a label, and of the oldest one, by the cap's table
module _ (ts : List Task) (k w : ℕ) (c : Cap) (of : CapOf ts k w c) where
  work-is : (l : ℕ) → l < 2 ^ length ts → get_or c.works l 0 ≡ label_work ts l
  work-is l h = ap (λ (t : List ℕ). get_or t l 0) of.works ∙ get_or-table (label_work ts) label_count l 0 (omega (arith, of.few))

module _ (c : Cap) (v : Window) (labels : List ℕ) where
  pub scanned_start : Scanned c v labels v.sum 0
  scanned_start = record {
    inside = omega arith;
    passed = λ ts k w log g.
        subst (λ (l : List ℕ). Passed ts k w l v.sum) (sym (append-nil log)) (record { so_far = g.so_far; total = g.shows.sum });
  }

  module _ (sum i : ℕ) (s : Scanned c v labels sum i) where
    -- the label k slots back
    abbrev back : ℕ
    back = get_or (v.last ++ labels) (i + (places - c.slots)) 0

    module _ (ts : List Task) (k w : ℕ) (log : List ℕ) (g : Going ts k w log c v) where
      abbrev before : List ℕ
      before = log ++ take i labels

      here : Passed ts k w before sum
      here = s.passed ts k w log g

      range : (1 ≤ k) × (k ≤ max_cap_slots) × (w ≤ max_cap_work)
      range = range_bounds k w g.of.ranged

      oldest_is : back ≡ label_back k before
      oldest_is =
          ap (λ (n : ℕ). get_or (v.last ++ labels) (i + (places - n)) 0) g.of.slots
          ∙ back_is log v.last labels g.shows.last k i range.0 range.1 s.inside

      own_back : back < 2 ^ length ts
      own_back = omega (arith, oldest_is, kept_own ts k w before here.so_far (length before + (places - k)))

      oldest_work : get_or c.works back 0 ≡ label_work ts (label_back k before)
      oldest_work = work-is ts k w c g.of back own_back ∙ ap (label_work ts) oldest_is

      small : (get_or c.works back 0 ≤ sum) × (sum ≤ w)
      small = (
        omega (arith, here.total, oldest_work, oldest_within ts before k range.0 range.1),
        omega (arith, here.total, kept-within ts before k range.0 range.1 w here.so_far),
      )

      slot-number : v.slots + i ≡ length before
      slot-number = omega (arith, g.shows.slots, length-append log (take i labels), length-take-le i labels s.inside)

    -- the numbers of a turn
    module _ (room : Room c v (length labels)) where
      pub few-labels : c.labels ≤ label_count
      few-labels = omega (arith, room.going.of.labels, room.going.of.few)

      pub row_fits : (1 ≤ c.slots) × (c.slots ≤ places) × (i ≤ length labels)
      row_fits = let r = range_bounds room.slots room.work room.going.of.ranged in (
        omega (arith, room.going.of.slots),
        omega (arith, room.going.of.slots),
        s.inside,
      )

      pub back_fits : back < label_count
      back_fits = omega (arith, own_back room.tasks room.slots room.work room.log room.going, room.going.of.few)

      pub sum_fits : (oldest : ℕ) → oldest ≡ back → (get_or c.works oldest 0 ≤ sum) × (sum ≤ max_cap_work)
      sum_fits oldest is =
          let n = small room.tasks room.slots room.work room.log room.going in
          let r = range_bounds room.slots room.work room.going.of.ranged in
          (omega (arith, ap (λ (l : ℕ). get_or c.works l 0) is), omega arith)

      pub counted : v.slots + i < 2 ^ 64
      counted = omega (arith, room.going.shows.slots, room.fits, s.inside)

    -- all of them
    pub scanned_end : length labels ≤ i → (slots : ℕ) → slots ≡ v.slots + i → (last : List ℕ) → last ≡ drop (length labels) (v.last ++ labels) →
        Scans c v labels (record { answer = Ok None; window = record { slots = slots; sum = sum; last = last } })
    scanned_end h slots slots-is last last-is ts k w log g =
        let all : log ++ take i labels ≡ log ++ labels = ap (λ (l : List ℕ). log ++ l) (take_all i labels h) in
        let end = subst (λ (l : List ℕ). Passed ts k w l sum) all (here ts k w log g) in
        let shown : Shows ts k (log ++ labels) (record { slots = slots; sum = sum; last = last }) = record {
          slots = slots-is ∙ slot-number ts k w log g ∙ ap length all;
          sum = end.total;
          last = last-is ∙ last_more log v.last labels g.shows.last;
        } in
        record { answer = sym end.so_far; going = λ e. record { of = g.of; so_far = end.so_far; shows = shown } }

    module _ (h : i < length labels) where
      -- the log up to this place, with the label that stands there, and with all labels
      up_to : (log : List ℕ) → (log ++ take i labels) ++ (get_or labels i 0 ∷ []) ≡ log ++ take (i + 1) labels
      up_to log =
          append_assoc log (take i labels) (get_or labels i 0 ∷ [])
          ∙ ap (λ (l : List ℕ). log ++ l) (sym (take-suc labels i 0 h) ∙ ap (λ (n : ℕ). take n labels) (sym (add-one i)))

      whole : (log : List ℕ) → log ++ labels ≡ ((log ++ take i labels) ++ (get_or labels i 0 ∷ [])) ++ drop (suc i) labels
      whole log =
          ap (λ (l : List ℕ). log ++ l) (split_at labels i 0 h)
          ∙ sym (append_assoc log (take i labels) (get_or labels i 0 ∷ drop (suc i) labels))
          ∙ sym (append_snoc (log ++ take i labels) (get_or labels i 0) (drop (suc i) labels))

      -- what is told here is told of all labels
      stays : (ts : List Task) (k w : ℕ) (log : List ℕ) (a : CapAnswer) → ((b : CapAnswer) → earlier a b ≡ a) →
          cap_run ts k w ((log ++ take i labels) ++ (get_or labels i 0 ∷ [])) ≡ a → cap_run ts k w (log ++ labels) ≡ a
      stays ts k w log a first e =
          let more = (log ++ take i labels) ++ (get_or labels i 0 ∷ []) in
          let later = cap_run ts k w (more ++ drop (suc i) labels) in
          ap (cap_run ts k w) (whole log) ∙ run-told ts k w more (drop (suc i) labels) ∙ ap (λ (b : CapAnswer). earlier b later) e ∙ first later

      pub scanned_foreign : c.labels ≤ get_or labels i 0 → Scans c v labels (record { answer = Err NotAdmitted; window = v })
      scanned_foreign f ts k w log g =
          let told = next-foreign ts k w (before ts k w log g) (get_or labels i 0) (here ts k w log g).so_far (omega (arith, g.of.labels)) in
          record { answer = sym (stays ts k w log (refused not_admitted) (λ b. refl) told); going = λ e. absurd (never e) }
        where
          never : ◌≡◌ {A = Answer} (Err NotAdmitted) (Ok None) → ⊥
          never e = cc

      -- one label more
      module _ (own : get_or labels i 0 < c.labels) (oldest next : ℕ) (is : oldest ≡ back)
          (next-is : next + get_or c.works oldest 0 ≡ sum + get_or c.works (get_or labels i 0) 0) where
        module _ (ts : List Task) (k w : ℕ) (log : List ℕ) (g : Going ts k w log c v) where
          own_label : get_or labels i 0 < 2 ^ length ts
          own_label = omega (arith, g.of.labels)

          total : next ≡ work_of ts (drop (suc (length (before ts k w log g)) - k) (before ts k w log g ++ (get_or labels i 0 ∷ [])))
          total =
              let r = range ts k w log g in
              omega (
                arith,
                next-is,
                ap (λ (l : ℕ). get_or c.works l 0) is ∙ oldest_work ts k w log g,
                work-is ts k w c g.of (get_or labels i 0) own_label,
                (here ts k w log g).total,
                sum-next ts (before ts k w log g) k r.0 r.1 (get_or labels i 0),
              )

        pub scanned_over : c.most < next → (slot : ℕ) → slot ≡ v.slots + i → Scans c v labels (record { answer = Ok (Some slot); window = v })
        scanned_over o slot slot_is ts k w log g =
            let told = next-over ts k w (before ts k w log g) (get_or labels i 0) (here ts k w log g).so_far (own_label ts k w log g) (omega (arith, total ts k w log g, g.of.most)) in
            record {
              answer = sym (stays ts k w log (over slot) (λ b. refl) (told ∙ ap over (sym (slot_is ∙ slot-number ts k w log g))));
              going = λ e. absurd (never e);
            }
          where
            never : ◌≡◌ {A = Answer} (Ok (Some slot)) (Ok None) → ⊥
            never e = cc

        pub scanned_next : next ≤ c.most → Scanned c v labels next (i + 1)
        scanned_next o = record {
          inside = omega arith;
          passed = λ ts k w log g.
              let more = before ts k w log g ++ (get_or labels i 0 ∷ []) in
              let long : length more ≡ suc (length (before ts k w log g)) = length-append (before ts k w log g) (get_or labels i 0 ∷ []) ∙ add-one (length (before ts k w log g)) in
              subst (λ (l : List ℕ). Passed ts k w l next) (up_to log)
              (record {
                so_far = next-kept ts k w (before ts k w log g) (get_or labels i 0) (here ts k w log g).so_far (own_label ts k w log g) (omega (arith, total ts k w log g, g.of.most));
                total = total ts k w log g ∙ ap (λ (n : ℕ). work_of ts (drop (n - k) more)) (sym long);
              });
        }
