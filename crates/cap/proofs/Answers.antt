-- What is known of a log before its first label, after more of it, and at its end.
-- Assumes nothing.
use mathlib.Core.Path.{◌≡◌, refl, sym, ap, subst, ◌∙◌}
use mathlib.Core.Bool.{true, false}
use mathlib.Core.List.{List, [], ◌++◌, append-nil, append_assoc}
use Prim.Native.Nat.{ℕ, ◌+◌, ◌-◌, ◌^◌, ◌≤◌, ◌<◌}
use native.Mathlib.Omega.{arith}
use lib.ListN.{length, length-append}
use lib.Seq.{drop-nil}
use Rattle.std.specs.Prelude.{Ok, Err, Some, None}
use Rattle.model.specs.Plan.{Task, Plan, faulty, sound, read_plan}
use Rattle.model.specs.Cap.{CapAnswer, work_of, cap_run, earlier, cap_in_range, cap, Exact}
use Rattle.theory.proofs.Cap.{cap-faulty, cap-sound, cap-told, cap-claim}
use Rattle.plan.specs.View.{fault_number}
use Rattle.plan.specs.declared.Fault.{Fault}
use Rattle.refusals.specs.declared.Refusal.TheVariants as refusal
use Rattle.refusals.specs.declared.Refusal.{Refusal}
use Rattle.cap.specs.View.{Answer, answer_of, no_labels, CapOf, Shows, Room, Scans, Watched, Watching, Refuses, Feeds, Checks}
use Rattle.cap.specs.declared.Cap.{Cap}
use Rattle.cap.specs.declared.Watch.{Watch}
use Rattle.cap.specs.declared.Window.{Window}

-- ---- before the first label

shows-none : (ts : List Task) (k : ℕ) → Shows ts k [] no_labels
shows-none ts k = record { slots = refl; sum = sym (ap (work_of ts) (drop-nil (0 - k))); last = refl }

module _ (plan : List ℕ) (k w : ℕ) where
  pub begun-faulty : (f : Fault) → read_plan plan ≡ faulty (fault_number f) → Refuses plan k w (refusal.Plan f)
  begun-faulty f e log = cap-faulty plan log k w (fault_number f) e

  module _ (P : Plan) (read : read_plan plan ≡ sound P) where
    pub begun_unranged : cap_in_range k w ≡ false → Refuses plan k w refusal.BadCap
    begun_unranged e log = cap-sound plan log k w P read false e

    pub begun_kept : (c : Cap) → CapOf P.tasks k w c → (v : Window) → v ≡ no_labels → Watched plan k w [] c (record { answer = Ok None; window = v })
    unfolding cap_run
    begun_kept c of v same = record {
      answer = sym (cap-sound plan [] k w P read true of.ranged);
      going = λ e. record {
        plan-read = P;
        read = read;
        going = record { of = of; so_far = refl; shows = subst (Shows P.tasks k []) (sym same) (shows-none P.tasks k) };
      };
    }

-- ---- after more labels

module _ (c : Cap) (before : Watch) (labels : List ℕ) where
  -- an answer that is told stays
  stays : (a : Answer) → before.answer ≡ a → ((b : CapAnswer) → earlier (answer_of a) b ≡ answer_of a) → (a ≡ Ok None → ⊥) → Feeds c before labels before
  stays a is first never plan k w log watched = record {
    answer =
        let later = cap plan (log ++ labels) k w in
        ap answer_of is
        ∙ sym (first later)
        ∙ ap (λ (b : CapAnswer). earlier b later) (sym (ap answer_of is) ∙ watched.answer)
        ∙ sym (cap-told plan log labels k w);
    going = λ e. absurd (never (sym is ∙ e));
  }

  pub fed_over : (t : ℕ) → before.answer ≡ Ok (Some t) → Feeds c before labels before
  fed_over t is = stays (Ok (Some t)) is (λ b. refl) (λ e. cc)

  pub fed_refused : (r : Refusal) → before.answer ≡ Err r → Feeds c before labels before
  fed_refused r is = stays (Err r) is (λ b. refl) (λ e. cc)

  module _ (is : before.answer ≡ Ok None) where
    pub room_of : Watching c before (length labels) → Room c before.window (length labels)
    room_of w =
        let g = w.watched.going is in
        record { tasks = g.plan-read.tasks; slots = w.slots; work = w.work; log = w.log; going = g.going; fits = w.fits }

    pub fed_kept : (after : Watch) → Scans c before.window labels after → Feeds c before labels after
    fed_kept after scans plan k w log watched =
        let g = watched.going is in
        let P = g.plan-read in
        let f = scans P.tasks k w log g.going in
        record {
          answer = f.answer ∙ sym (cap-sound plan (log ++ labels) k w P g.read true g.going.of.ranged);
          going = λ e. record { plan-read = P; read = g.read; going = f.going e };
        }

-- labels that are fed in parts are fed as a whole
module _ (c : Cap) where
  pub feeds_none : (s : Watch) → Feeds c s [] s
  feeds_none s plan k w log watched = subst (λ (l : List ℕ). Watched plan k w l c s) (sym (append-nil log)) watched

  pub feeds_parts : (before middle after : Watch) (first second : List ℕ) → Feeds c before first middle → Feeds c middle second after → Feeds c before (first ++ second) after
  feeds_parts before middle after first second f g plan k w log watched =
      subst (λ (l : List ℕ). Watched plan k w l c after) (append_assoc log first second) (g plan k w (log ++ first) (f plan k w log watched))

  -- and the log can go on
  pub watching_more : (before after : Watch) (labels : List ℕ) (n m : ℕ) → length labels + m ≤ n → Feeds c before labels after → Watching c before n → Watching c after m
  watching_more before after labels n m h f w = record {
    plan = w.plan;
    slots = w.slots;
    work = w.work;
    log = w.log ++ labels;
    watched = f w.plan w.slots w.work w.log w.watched;
    fits = omega (arith, w.fits, length-append w.log labels);
  }

  pub watching_from : (plan : List ℕ) (k w : ℕ) (s : Watch) (n : ℕ) → n < 2 ^ 64 → Watched plan k w [] c s → Watching c s n
  watching_from plan k w s n h watched = record { plan = plan; slots = k; work = w; log = []; watched = watched; fits = omega arith }

-- ---- at its end

pub checked : (plan labels : List ℕ) (k w : ℕ) (c : Cap) (s : Watch) → Watched plan k w labels c s → Checks plan labels k w s.answer
checked plan labels k w c s watched = record {
  answer = watched.answer;
  exact = λ P read ranged. subst (Exact P.tasks k w labels) (sym watched.answer) (cap-claim plan labels k w P read ranged);
}

-- what is refused is refused for each log
pub checked-refused : (plan labels : List ℕ) (k w : ℕ) (r : Refusal) → Refuses plan k w r → Checks plan labels k w (Err r)
checked-refused plan labels k w r refused = record {
  answer = sym (refused labels);
  exact = λ P read ranged. subst (Exact P.tasks k w labels) (refused labels) (cap-claim plan labels k w P read ranged);
}
