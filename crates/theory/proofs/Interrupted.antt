-- Who was interrupted: a trace tells of every slot the job that it displaces, and no other.
-- Assumes nothing.
use mathlib.Core.Path.{◌≡◌, refl, sym, ◌∙◌, ap, ap₂, subst}
use mathlib.Core.Bool.{Bool, false, cond}
use mathlib.Core.List.{List, [], ◌∷◌, Memᴰ}
use mathlib.Core.Option.{Option, none, some}
use Prim.Native.Nat.{ℕ, zero, suc, ◌-◌, ◌<◌, ◌≤◌}
use native.Mathlib.Nat.{le_of_suc-le-suc, not-suc-le-zero}
use native.Mathlib.Omega.{arith}
use borrow.Author.Tests.{ltb-false}
use lib.Dec.{T, ltb}
use lib.ListN.{length, get_or, take}
use Rattle.model.specs.Calls.{refuses, writes}
use Rattle.model.specs.Hopeless.{after_choice}
use Rattle.model.specs.Interrupted.{Interrupted, InterruptedAfter, TellsCuts}
use Rattle.model.specs.Limits.{max_labels, trace_room}
use Rattle.model.specs.Plan.{Plan, sound, read_plan}
use Rattle.model.specs.Refusals.{too_many_labels, not_admitted}
use Rattle.model.specs.Schedule.{admits}
use Rattle.model.specs.Slot.{Job, JobId, task_of, id_of, has_id, worked, ready, key_of, chosen_in, slot, jobs_after, displaced_in}
use Rattle.model.specs.Trace.{Row, task_or0, row_of, slots, trace_run, trace}
use Rattle.model.proofs.Displaced.{has_id_lem, displaced-is}
use Rattle.model.proofs.Tests.{is_true, is_false, holds, fails}
use Rattle.theory.proofs.Hopeless.{first-among, of-slot, slot-ran, of-ran, is-ready}
use Rattle.theory.proofs.Jobs.{Known, older, tick-older, ready-known, was, slot-known, known-after, known-none}
use Rattle.theory.proofs.Locks.{is_held, runs-to_its_end}
use Rattle.theory.proofs.Writings.{taken, passed, over}

-- what a row says of who was cut
abbrev pub cut_at : List Row → ℕ → ℕ
cut_at rs t = (get_or rs t (record { ran = 0; gain = 0; cut = 0 })).cut

module _ (P : Plan) where
  -- ---- two slots, one after the other

  module _ (js : List Job) (k l : ℕ) (h : Known P.tasks 1 js) where
    -- the jobs that the second slot finds
    ready-next : Known P.tasks 0 (ready P (slot P js k).jobs l)
    ready-next = ready-known P (slot P js k).jobs l (slot-known P js k (ready-known P js k h))

    -- a job that is interrupted is displaced
    interrupted_told : (j : Job) → Interrupted P js k l j → displaced_in P (slot P js k).ran (slot P js k).jobs l ≡ some (id_of j)
    interrupted_told j s =
        (displaced-is (slot P js k).ran (slot P js k).jobs (chosen_in P (slot P js k).jobs l) (id_of j)).1 (record {
          before = slot-ran P js k s.ran.1 ∙ ap (λ (a : Job). some (id_of a)) (sym s.ran.2);
          found = (j, s.present, (has_id_lem (id_of j) j).1 refl, s.unfinished);
          other = λ c e. is_false (has_id (id_of j) c) (λ t. s.waits (e ∙ ap some (same c e ((has_id_lem (id_of j) c).0 (is_true (has_id (id_of j) c) t)))));
        })
      where
        same : (c : Job) → chosen_in P (slot P js k).jobs l ≡ some c → id_of j ≡ id_of c → c ≡ j
        same c e i =
            ready-next.one c j (first-among (key_of P) (ready P (slot P js k).jobs l) e) (is-ready P l s.present) (sym i)

    -- it ran, so it has begun
    interrupted_begun : (j : Job) → Interrupted P js k l j → j.work < (task_of P.tasks j.task).work
    interrupted_begun j s =
        let c = s.ran.0 in
        let less : (worked c c).work ≡ c.work - 1 = ap (λ (b : Bool). cond b (c.work - 1) c.work) ((has_id_lem (id_of c) c).1 refl) in
        omega (
          arith,
          s.unfinished,
          less,
          ap (λ (a : Job). a.work) s.ran.2,
          ap (λ (a : Job). (task_of P.tasks a.task).work) s.ran.2,
          (ready-known P js k h).bounded c (first-among (key_of P) (ready P js k) s.ran.1),
        )

    -- a job that is displaced is interrupted
    told_interrupted : (i : JobId) → displaced_in P (slot P js k).ran (slot P js k).jobs l ≡ some i → (j : Job) × Interrupted P js k l j × (i ≡ id_of j)
    told_interrupted i e =
        let d = (displaced-is (slot P js k).ran (slot P js k).jobs (chosen_in P (slot P js k).jobs l) i).0 e in
        let j = d.found.0 in
        let its : i ≡ id_of j = (has_id_lem i j).0 d.found.2 in
        let c = of-ran P js k d.before in
        let x = was P js k d.found.1 in
        let old : id_of c.0 ≡ older (id_of j) = tick-older c.0 j (c.2 ∙ its) (of-slot P js k d.found.1).4 in
        let same : x.0 ≡ c.0 = (ready-known P js k h).one x.0 c.0 x.1 (first-among (key_of P) (ready P js k) c.1) (x.3 ∙ sym old) in (
          j,
          record {
            ran = (c.0, c.1, sym x.2 ∙ ap₂ after_choice c.1 same);
            unfinished = d.found.3;
            present = d.found.1;
            waits = λ e'. fails (d.other j e') (holds d.found.2);
          },
          its,
        )

  -- ---- a trace

  -- the job that ran in the last slot of the labels, or before them
  abbrev pub ran_after : Option JobId → List Job → List ℕ → Option JobId
  ran_after ran js [] = ran
  ran_after ran js (l ∷ ls) = ran_after (slot P js l).ran (slot P js l).jobs ls

  -- a row of a trace is that of the slot that finds the job that ran last and the jobs left so far
  pub row-traced : (run : List ℕ) (t : ℕ) → t < length run → (ran : Option JobId) (js : List Job) (other : Row) →
      get_or (slots P ran js run) t other ≡ row_of P (ran_after ran js (take t run)) (jobs_after P js (take t run)) (get_or run t 0)
  row-traced [] t h ran js other = absurd (not-suc-le-zero h)
  row-traced (l ∷ run) zero h ran js other = refl
  row-traced (l ∷ run) (suc t) h ran js other = row-traced run t (le_of_suc-le-suc h) (slot P js l).ran (slot P js l).jobs other

  -- after one label more
  one_more : (run : List ℕ) (t : ℕ) → t < length run → (ran : Option JobId) (js : List Job) →
      let d = slot P (jobs_after P js (take t run)) (get_or run t 0) in
      (ran_after ran js (take (suc t) run) ≡ d.ran) × (jobs_after P js (take (suc t) run) ≡ d.jobs)
  one_more [] t h ran js = absurd (not-suc-le-zero h)
  one_more (l ∷ run) zero h ran js = (refl, refl)
  one_more (l ∷ run) (suc t) h ran js = one_more run t (le_of_suc-le-suc h) (slot P js l).ran (slot P js l).jobs

  -- the job that is displaced in the slot t + 1 of a run
  abbrev displaced_after : List ℕ → ℕ → Option JobId
  displaced_after run t =
      let d = slot P (jobs_after P [] (take t run)) (get_or run t 0) in
      displaced_in P d.ran d.jobs (get_or run (suc t) 0)

  -- the trace's column has its task
  cut-traced : (run : List ℕ) (t : ℕ) → suc t < length run → cut_at (slots P none [] run) (suc t) ≡ task_or0 (displaced_after run t)
  cut-traced run t h =
      let d = one_more run t (omega (arith, h)) none [] in
      ap (λ (r : Row). r.cut) (row-traced run (suc t) h none [] (record { ran = 0; gain = 0; cut = 0 }))
      ∙ ap₂ (λ (ran : Option JobId) (js : List Job). task_or0 (displaced_in P ran js (get_or run (suc t) 0))) d.0 d.1

  -- the column `cut` tells of every run who was interrupted, and where nobody was
  pub cuts-told : (run : List ℕ) → TellsCuts P run (cut_at (slots P none [] run))
  cuts-told run = record {
    first = λ h. none_first run;
    told = λ t h j s. (
      cut-traced run t h ∙ ap task_or0 (interrupted_told (before t) (get_or run t 0) (get_or run (suc t) 0) (known t) j s),
      (slot-known P (before t) (get_or run t 0) (ready-known P (before t) (get_or run t 0) (known t))).numbered j s.present,
    );
    only = only;
    unlocked = λ t h p.
        let s = only t h p in
        is_false (task_of P.tasks (cut_at (slots P none [] run) (suc t))).locked
        (λ l. holding t (omega (arith, h)) s.0 s.1 (subst (λ (n : ℕ). T (task_of P.tasks n).locked) s.2 l));
  }
    where
      before : ℕ → List Job
      before t = jobs_after P [] (take t run)

      known : (t : ℕ) → Known P.tasks 1 (before t)
      known t = known-after P (take t run) [] (known-none P)

      none_first : (run : List ℕ) → cut_at (slots P none [] run) 0 ≡ 0
      none_first [] = refl
      none_first (l ∷ run) = refl

      -- a job that is interrupted has begun, so one of a locked task would run on
      holding : (t : ℕ) → t < length run → (j : Job) → InterruptedAfter P run t j → T (task_of P.tasks j.task).locked → ⊥
      holding t h j s l =
          let d = (one_more run t h none []).1 in
          s.waits
          (ap (λ (js : List Job). chosen_in P js (get_or run (suc t) 0)) (sym d)
          ∙ (runs-to_its_end P).runs (take (suc t) run) j (record {
            present = subst (Memᴰ j) (sym d) s.present;
            holds = is_held P.tasks j (is_true _ l) (interrupted_begun (before t) (get_or run t 0) (get_or run (suc t) 0) (known t) j s) s.unfinished;
          }) (get_or run (suc t) 0))

      by : (t : ℕ) → suc t < length run → (o : Option JobId) → displaced_after run t ≡ o → 0 < task_or0 o →
          (j : Job) × InterruptedAfter P run t j × (cut_at (slots P none [] run) (suc t) ≡ j.task)
      by t h none e p = absurd (omega (arith, p))
      by t h (some i) e p =
          let s = told_interrupted (before t) (get_or run t 0) (get_or run (suc t) 0) (known t) i e in
          (s.0, s.1, cut-traced run t h ∙ ap task_or0 e ∙ ap (λ (a : JobId). a.task) s.2)

      only : (t : ℕ) → suc t < length run → 0 < cut_at (slots P none [] run) (suc t) →
          (j : Job) × InterruptedAfter P run t j × (cut_at (slots P none [] run) (suc t) ≡ j.task)
      only t h p = by t h (displaced_after run t) refl (subst (λ (n : ℕ). 0 < n) (cut-traced run t h) p)

-- the rows that the trace call is to write are those of the labels' slots
pub traced-slots : (plan labels : List ℕ) (lent : ℕ) (P : Plan) → read_plan plan ≡ sound P → (rs : List Row) → trace plan labels lent ≡ writes rs →
    (length labels ≤ max_labels) × (slots P none [] labels ≡ rs)
unfolding trace trace_run
traced-slots plan labels lent P read rs e =
    let due = cond (admits P labels) (writes (slots P none [] labels)) (refuses not_admitted) in
    let counted = passed (ltb max_labels (length labels)) too_many_labels due rs (over trace_room lent (read_plan plan) (λ Q. trace_run Q labels) P rs read e) in
    let admitted = (taken (admits P labels) not_admitted (writes (slots P none [] labels)) rs counted.1).1 in
    (ltb-false max_labels (length labels) counted.0, let a = admitted in cc)

-- so whatever has their column tells who was interrupted
pub traced-cuts : (plan labels : List ℕ) (lent : ℕ) (P : Plan) → read_plan plan ≡ sound P → (rs : List Row) → trace plan labels lent ≡ writes rs →
    (cut : ℕ → ℕ) → ((t : ℕ) → t < length labels → cut t ≡ cut_at rs t) → TellsCuts P labels cut
traced-cuts plan labels lent P read rs e cut same =
    let h = subst (λ (r : List Row). TellsCuts P labels (cut_at r)) (traced-slots plan labels lent P read rs e).1 (cuts-told P labels) in
    record {
      first = λ p. same 0 p ∙ h.first p;
      told = λ t p j s. (same (suc t) p ∙ (h.told t p j s).0, (h.told t p j s).1);
      only = λ t p q. let s = h.only t p (subst (λ (n : ℕ). 0 < n) (same (suc t) p) q) in (s.0, s.1, same (suc t) p ∙ s.2);
      unlocked = λ t p q.
          subst (λ (n : ℕ). (task_of P.tasks n).locked ≡ false) (sym (same (suc t) p))
          (h.unlocked t p (subst (λ (n : ℕ). 0 < n) (same (suc t) p) q));
    }
