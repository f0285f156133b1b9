-- Locks: a job of a locked task that has begun runs to its end, and a plan without locks keeps its fraction.
-- Assumes nothing.
use mathlib.Core.Path.{◌≡◌, refl, sym, ◌∙◌, ap, subst}
use mathlib.Core.Bool.{Bool, true, false, cond, ◌&&◌}
use mathlib.Core.List.Memᴰ
use mathlib.Core.List.{List, [], ◌∷◌, ◌++◌, foldl, Memᴰ}
use mathlib.Core.Logic.{◌⊎◌, inl, inr, ⊎_elim}
use mathlib.Core.Option.{Option, none, some, some-injective}
use Prim.Native.Nat.{ℕ, zero, suc, ◌-◌, ◌<◌}
use native.Mathlib.Omega.{arith}
use borrow.Author.Tests.{ltb-true, lt-ltb}
use lib.ListN.{get_or}
use Rattle.model.specs.Hopeless.{after_choice, IsFirst}
use Rattle.model.specs.Locks.{HeldAfter, RunsToItsEnd, KeepsItsFraction}
use Rattle.model.specs.Masks.{masks_of}
use Rattle.model.specs.Plan.{Task, Plan}
use Rattle.model.specs.PlanBytes.{lock_bytes}
use Rattle.model.specs.Slot.{Job, no_task, task_of, policy_key, unfinished, begun, held, key, key_below, sooner, first, is_job, id_of, worked, tick, ready, key_of, chosen_in, slot, jobs_after}
use Rattle.model.proofs.Displaced.{has_id_lem}
use Rattle.model.proofs.Plan.{both}
use Rattle.model.proofs.Tests.{fails, true-and}
use Rattle.theory.proofs.Hopeless.{first-among, least-key-first, of-slot, is-ready, stays_there}
use Rattle.theory.proofs.Jobs.{Known, new_work_lem, found-ready, ready-known, slot-known, after-append, known-none}

-- ---- a locked job, once begun

-- at most one of the jobs is held
abbrev OneHeld : List Task → List Job → Type 0
OneHeld ts js = (j k : Job) → Memᴰ j js → Memᴰ k js → held ts j ≡ true → held ts k ≡ true → j ≡ k

-- a job that is held is of a locked task
held-locked : (ts : List Task) (j : Job) → held ts j ≡ true → (task_of ts j.task).locked ≡ true
held-locked ts j h =
    let task = task_of ts j.task in
    (both task.locked (begun ts j) (both (task.locked && begun ts j) (unfinished j) h).0).0

-- and has begun
held-begun : (ts : List Task) (j : Job) → held ts j ≡ true → j.work < (task_of ts j.task).work
held-begun ts j h =
    let task = task_of ts j.task in
    ltb-true j.work task.work (both task.locked (begun ts j) (both (task.locked && begun ts j) (unfinished j) h).0).1

-- a job of a locked task that has begun and is unfinished is held
pub is_held : (ts : List Task) (j : Job) → (task_of ts j.task).locked ≡ true → j.work < (task_of ts j.task).work → 0 < j.work → held ts j ≡ true
is_held ts j l b u =
    let task = task_of ts j.task in
    true-and (task.locked && begun ts j) (unfinished j) (true-and task.locked (begun ts j) l (lt-ltb j.work task.work b)) (lt-ltb 0 j.work u)

module _ (P : Plan) where
  -- a job that is held comes before every other
  held_first : (js : List Job) → OneHeld P.tasks js → (j : Job) → Memᴰ j js → held P.tasks j ≡ true → first (key_of P) js ≡ some j
  unfolding key
  held_first js one j m h = least-key-first (key_of P) j js before m
    where
      before : IsFirst (key_of P) j js
      before i n = go (held P.tasks i) refl
        where
          go : (b : Bool) → held P.tasks i ≡ b → (i ≡ j) ⊎ (key_below (key_of P j) (key_of P i) ≡ true)
          go true e = inl (one i j n m e h)
          go false e = inr (rw (h, e))

  module _ (js : List Job) (l : ℕ) where
    -- no new job is held
    ready_held : OneHeld P.tasks js → OneHeld P.tasks (ready P js l)
    ready_held one j k mj mk hj hk = one j k (old j mj hj) (old k mk hk) hj hk
      where
        old : (i : Job) → Memᴰ i (ready P js l) → held P.tasks i ≡ true → Memᴰ i js
        old i m h = ⊎_elim (λ a. a) (λ n. absurd (omega (arith, new_work_lem P.tasks l n, held-begun P.tasks i h))) (found-ready P js l m)

    -- a job that a slot leaves held is the one that it chose
    held-chosen : Known P.tasks 0 (ready P js l) → OneHeld P.tasks (ready P js l) → (x : Job) → Memᴰ x (ready P js l) →
        held P.tasks (after_choice (chosen_in P js l) x) ≡ true → chosen_in P js l ≡ some x
    held-chosen known one x m h = by (chosen_in P js l) refl h
      where
        by : (c : Option Job) → chosen_in P js l ≡ c → held P.tasks (after_choice c x) ≡ true → chosen_in P js l ≡ some x
        by none e h' = held_first (ready P js l) one x m h'
        by (some c) e h' = go (is_job c x) refl
          where
            ran : Bool → Job
            ran b = record { task = x.task; work = cond b (x.work - 1) x.work; left = x.left }

            go : (b : Bool) → is_job c x ≡ b → chosen_in P js l ≡ some x
            go true s = e ∙ ap some (known.one c x (first-among (key_of P) (ready P js l) e) m ((has_id_lem (id_of c) x).0 s))
            go false s = held_first (ready P js l) one x m (sym (ap (λ (b : Bool). held P.tasks (ran b)) s) ∙ h')

    -- so a slot leaves at most one
    slot_held : Known P.tasks 0 (ready P js l) → OneHeld P.tasks (ready P js l) → OneHeld P.tasks (slot P js l).jobs
    slot_held known one j k mj mk hj hk =
        let x = of-slot P js l mj in
        let y = of-slot P js l mk in
        let cx = held-chosen known one x.0 x.1 (ap (held P.tasks) x.2 ∙ hj) in
        let cy = held-chosen known one y.0 y.1 (ap (held P.tasks) y.2 ∙ hk) in
        sym x.2 ∙ ap (after_choice (chosen_in P js l)) (some-injective x.0 y.0 (sym cx ∙ cy)) ∙ y.2

  -- and so do the slots of any labels
  held_after : (ls : List ℕ) (js : List Job) → Known P.tasks 1 js → OneHeld P.tasks js → OneHeld P.tasks (jobs_after P js ls)
  held_after [] js known one = one
  held_after (l ∷ ls) js known one =
      let ready' = ready-known P js l known in
      held_after ls (slot P js l).jobs (slot-known P js l ready') (slot_held js l ready' (ready_held js l one))

  -- from no job on
  run-held : (run : List ℕ) → OneHeld P.tasks (jobs_after P [] run)
  run-held run = held_after run [] (known-none P) (λ j k m n. absurd (Memᴰ.not-nil m))

  -- it runs in the next slot,
  runs-next : (run : List ℕ) (j : Job) → HeldAfter P run j → (l : ℕ) → chosen_in P (jobs_after P [] run) l ≡ some j
  runs-next run j h l =
      let js = jobs_after P [] run in
      held_first (ready P js l) (ready_held js l (run-held run)) j (is-ready P l h.present) h.holds

  -- and is held after it, with one slot of work less
  held_next : (run : List ℕ) (j : Job) → HeldAfter P run j → (l : ℕ) → 1 < j.work → 1 < j.left → HeldAfter P (run ++ (l ∷ [])) (tick (worked j j))
  held_next run j h l more left = record {
    present = subst (λ js. Memᴰ (tick (worked j j)) js) (sym (after-append P run l [])) stays;
    holds = is_held P.tasks (tick (worked j j)) (held-locked P.tasks j h.holds) (omega (arith, less, held-begun P.tasks j h.holds)) (omega (arith, less));
  }
    where
      chosen : chosen_in P (jobs_after P [] run) l ≡ some j
      chosen = runs-next run j h l

      less : (worked j j).work ≡ j.work - 1
      less = ap (λ (b : Bool). cond b (j.work - 1) j.work) ((has_id_lem (id_of j) j).1 refl)

      after : after_choice (chosen_in P (jobs_after P [] run) l) j ≡ tick (worked j j)
      after = ap (λ (c : Option Job). after_choice c j) chosen

      stays : Memᴰ (tick (worked j j)) (slot P (jobs_after P [] run) l).jobs
      stays =
          subst (λ (k : Job). Memᴰ k (slot P (jobs_after P [] run) l).jobs) after
          (stays_there P l h.present (omega (arith, less, ap (λ (k : Job). k.work) after)) (omega (arith, ap (λ (k : Job). k.left) after)))

  -- a job of a locked task that has begun runs in every slot until it is done or its slots left are over
  pub runs-to_its_end : RunsToItsEnd P
  runs-to_its_end = record {
    runs = runs-next;
    on = held_next;
    one = λ run j k h h'. run-held run j k h.present h'.present h.holds h'.holds;
  }

-- ---- without locks

-- no task is locked
unlocked-each : (ts : List Task) (n : ℕ) → lock_bytes ts n ≡ [] → (i : ℕ) → (get_or ts i no_task).locked ≡ false
unlocked-each [] n h i = refl
unlocked-each (t ∷ ts) n h i = go t.locked refl h (unlocked-each ts (suc n)) i
  where
    go : (b : Bool) → t.locked ≡ b → (cond b (0x09 ∷ n ∷ []) [] ++ lock_bytes ts (suc n)) ≡ [] →
        (lock_bytes ts (suc n) ≡ [] → (j : ℕ) → (get_or ts j no_task).locked ≡ false) → (j : ℕ) → (get_or (t ∷ ts) j no_task).locked ≡ false
    go true e h' rest j = absurd (Memᴰ.not-nil (subst (Memᴰ 0x09) h' (Memᴰ.head refl)))
    go false e h' rest zero = e
    go false e h' rest (suc j) = rest h' j

-- two keys by which jobs compare alike have the same first
first-same : (k k' : Job → List ℕ) → ((i j : Job) → key_below (k i) (k j) ≡ key_below (k' i) (k' j)) → (js : List Job) → first k js ≡ first k' js
unfolding first
first-same k k' h js = from none js
  where
    next : (a : Option Job) (j : Job) → sooner k a j ≡ sooner k' a j
    next none j = refl
    next (some m) j = ap (λ (b : Bool). some (cond b j m)) (h j m)

    from : (a : Option Job) (js : List Job) → foldl (sooner k) a js ≡ foldl (sooner k') a js
    from a [] = refl
    from a (j ∷ js) = from (sooner k a j) js ∙ ap (λ (o : Option Job). foldl (sooner k') o js) (next a j)

-- a plan without locks: every key begins with 1, every mask that is clear is a mask, and no schedule is asked for neighbours
pub keeps_its_fraction : KeepsItsFraction
unfolding key masks_of
keeps_its_fraction P none-locked = record {
  chosen = first-same (key_of P) (policy_key P.tasks P.policy) (λ i j. rw (unlocked i, unlocked j));
  masks = λ i released taken. rw (each (i - 1));
  schedules = λ picks gives t i p l. absurd (fails (each (i - 1)) l);
}
  where
    each : (i : ℕ) → (get_or P.tasks i no_task).locked ≡ false
    each = unlocked-each P.tasks 1 none-locked

    unlocked : (j : Job) → held P.tasks j ≡ false
    unlocked j = ap (λ (b : Bool). b && begun P.tasks j && unfinished j) (each (j.task - 1))
