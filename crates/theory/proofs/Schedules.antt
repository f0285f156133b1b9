-- The graph is true to schedules: every walk from the start is a schedule of its labels, and every schedule of an admitted run is a walk.
-- Assumes nothing.
use mathlib.Core.Path.{◌≡◌, refl, sym, ◌∙◌, ap, subst, subst₃}
use mathlib.Core.Bool.{Bool, true, false, not, ◌&&◌}
use mathlib.Core.Logic.{inl, inr, ⊎_elim, by_cases}
use mathlib.Core.Option.{some}
use mathlib.Core.List.{List, [], ◌∷◌, map, Memᴰ}
use Prim.Native.Nat.{ℕ, zero, suc, ◌+◌, ◌-◌, ◌/◌, ◌^◌, ◌<◌, ◌≤◌}
use native.Mathlib.Nat.{zero-add, add-zero}
use native.Mathlib.Decide.{dec_lt}
use native.Mathlib.Omega.{arith}
use lib.Dec.{T, leb, eqb, leb→le, eqb→eq, T_not, not_T}
use lib.ListN.{length, get_or, length-map, get_or-eq_default}
use borrow.Author.Tests.{le-leb, eq-eqb}
use Rattle.model.specs.Lists.{bit, one, ones, sum, up_from}
use Rattle.model.specs.Plan.{Task, Plan, next_in, IsSound, read_plan, sound}
use Rattle.model.specs.Slot.{no_task, task_of}
use Rattle.model.specs.Masks.{bit_run, neighbouring}
use Rattle.model.specs.Schedule.{Unbroken, Schedule, gain_from, admits, admits_from}
use Rattle.model.specs.Graph.{Node, Edge, start, joined, edge_of, edges}
use Rattle.model.specs.Walk.{Walk, here, go, labels, mask_at, Agrees, TrueToSchedules}
use Rattle.model.proofs.Lists.{mem-get_or, get_or-table, length-up_from}
use Rattle.model.proofs.Runs.{run-below, neighbouring-run}
use Rattle.model.proofs.Tests.{is_true, is_false, holds, fails, same_test, left-holds, right-holds}
use Rattle.theory.proofs.Sums.{sum_same, sum-zero}
use Rattle.theory.proofs.Bits.{bit_half, zero_no_bit, bit_past, ones_below, no_bit, from_bits, from_bits_lt, bit_from_bits, run-bit, run_of}
use Rattle.theory.proofs.Edges.{Picked, MaskOf, Fits, mem-edges, joined-bit}
use Rattle.theory.proofs.Sound.{PlanSound, TaskSound, sound-plan, read-sound, label-below}
use Rattle.theory.proofs.Walks.{admits-some, walk_admits, walk_kept, walk_ideal, gain_of, gain_of-same, picks_of, mask_at-none, walk_mask, walk_once}

-- a task of a sound plan is sound
pub task-sound : (P : Plan) → PlanSound P → (i : ℕ) → i < length P.tasks → TaskSound (get_or P.tasks i no_task)
task-sound P sd i h = sd.task (get_or P.tasks i no_task) (mem-get_or P.tasks i no_task h)

-- a mask that is picked belongs to a task
picked_task : (ts : List Task) (b : Bool) (i m : ℕ) → Picked (get_or ts i no_task) b m → i < length ts
picked_task ts b i m p =
    by_cases (dec_lt i (length ts)) (λ h. h)
    (λ h. absurd (omega (arith, p.pos, subst (λ t. m < 2 ^ t.window) (get_or-eq_default ts no_task {n = i} (omega arith)) p.below)))

-- a label that releases a task is a label of the run
released_in : (run : List ℕ) (t i : ℕ) → T (bit (get_or run t 0) i) → t < length run
released_in run t i h =
    by_cases (dec_lt t (length run)) (λ k. k)
    (λ k. absurd (zero_no_bit (get_or-eq_default run 0 (omega arith)) i h))

-- a mask with a bit is not 0
bit_nonzero : (m k : ℕ) → T (bit m k) → T (not (eqb m 0))
bit_nonzero m k h = not_T (eqb m 0) (λ e. zero_no_bit (eqb→eq m 0 e) k h)

-- and 0 is
zero_unpicked : {m : ℕ} → m ≡ 0 → T (not (eqb m 0)) → ⊥
zero_unpicked {m} e h = T_not (eqb m 0) h (holds (eq-eqb m 0 e))

-- ---- a walk is a schedule

-- the slot s is given to the job where its mask has the bit
abbrev gives_of : List Edge → ℕ → ℕ → ℕ → Bool
gives_of es s t i = leb t s && bit (mask_at es t i) (s - t)

-- counted from the release, the slots are the mask's bits
gives_at : (es : List Edge) (t i k : ℕ) → gives_of es (t + k) t i ≡ bit (mask_at es t i) k
gives_at es t i k =
    let e : t + k - t ≡ k = omega arith in
    rw (le-leb t (t + k) (omega arith), e)

-- a slot that is given is one of them
gives-bit : (es : List Edge) (s t i : ℕ) → T (gives_of es s t i) → (t ≤ s) × T (bit (mask_at es t i) (s - t))
gives-bit es s t i h = (
  leb→le t s (left-holds (leb t s) (bit (mask_at es t i) (s - t)) h),
  right-holds (leb t s) (bit (mask_at es t i) (s - t)) h,
)

module _ (P : Plan) (sd : PlanSound P) {v : Node} {es : List Edge} (w : Walk P start v es) where
  -- a mask that is not 0 fits its task
  picked_at : (t i : ℕ) → T (picks_of es t i) →
      (1 ≤ i) × Picked (task_of P.tasks i) (bit (get_or (labels es) t 0) (i - 1)) (mask_at es t i)
  picked_at t zero h = absurd (zero_unpicked (mask_at-none es t) h)
  picked_at t (suc i) h =
      let e : i ≡ suc i - 1 = omega arith in (
        omega arith,
        ⊎_elim (λ z. absurd (zero_unpicked z h)) (λ p. p)
            (subst (λ j. MaskOf (get_or P.tasks j no_task) (bit (get_or (labels es) t 0) j) (mask_at es t (suc i))) e (walk_mask w t i)),
      )

  -- its slots are inside the window
  below-window : (s t i : ℕ) → T (gives_of es s t i) → s < t + (task_of P.tasks i).window
  below-window s t i h =
      let g = gives-bit es s t i h in
      let p = (picked_at t i (bit_nonzero (mask_at es t i) (s - t) g.1)).1 in
      by_cases (dec_lt s (t + (task_of P.tasks i).window)) (λ k. k)
      (λ k. absurd (fails (bit_past (task_of P.tasks i).window (mask_at es t i) (s - t) p.below (omega arith)) g.1))

  -- and are as many as its work
  whole-work : (t i : ℕ) → T (picks_of es t i) →
      sum (λ k. one (gives_of es (t + k) t i)) (task_of P.tasks i).window ≡ (task_of P.tasks i).work
  whole-work t i h =
      let p = (picked_at t i h).1 in
      let task = task-sound P sd (i - 1) (picked_task P.tasks _ (i - 1) (mask_at es t i) p) in
      sum_same _ _ (task_of P.tasks i).window (λ k _. ap one (gives_at es t i k))
      ∙ sym (ones_below (task_of P.tasks i).window (task_of P.tasks i).window (mask_at es t i) p.below (omega arith)) ∙ p.size

  -- of a locked task they are the bits of a run, so they lie among C slots in a row
  unbroken-row : Unbroken P.tasks (picks_of es) (gives_of es)
  unbroken-row t i h l =
      let p = (picked_at t i h).1 in
      let job = task_of P.tasks i in
      let r = (neighbouring-run job.window (mask_at es t i)).0 (p.run (is_true job.locked l)) in
      let run : mask_at es t i ≡ bit_run job.work r.0 = r.2 ∙ ap (λ (c : ℕ). bit_run c r.0) p.size in (
        t + r.0,
        λ s g.
            let b = gives-bit es s t i g in
            omega (arith, b.0, (run-bit job.work r.0 (s - t)).0 (subst (λ (m : ℕ). T (bit m (s - t))) run b.1)),
      )

  -- the schedule of a walk
  schedule_of : Schedule P (labels es)
  schedule_of = record {
    picks = picks_of es;
    gives = gives_of es;
    released = λ t i h.
        let r = picked_at t i h in (
          released_in (labels es) t (i - 1) r.1.out,
          r.0,
          omega (arith, picked_task P.tasks (bit (get_or (labels es) t 0) (i - 1)) (i - 1) (mask_at es t i) r.1),
          r.1.out,
        );
    in_window = λ s t i h.
        let g = gives-bit es s t i h in
        (bit_nonzero (mask_at es t i) (s - t) g.1, g.0, below-window s t i h);
    whole = whole-work;
    unbroken = unbroken-row;
    once = λ s t i t' i' h h'.
        let g = gives-bit es s t i h in
        let g' = gives-bit es s t' i' h' in
        walk_once w t i (s - t) t' i' (s - t') (omega arith) g.1 g'.1;
  }

  -- the schedule has the walk's releases, slots and gains
  schedule_agrees : Agrees P (labels es) schedule_of es
  unfolding schedule_of
  schedule_agrees = record {
    releases = refl;
    slots = λ t i k. (subst T (sym (gives_at es t i k)), subst T (gives_at es t i k));
    policy = walk_kept P w;
    clairvoyant = walk_ideal w;
  }

-- ---- a schedule is a walk

-- one step more
suc-add-suc : (t k : ℕ) → suc t + k ≡ t + suc k
suc-add-suc t k = omega arith

module _ (P : Plan) (sd : PlanSound P) (run : List ℕ) (σ : Schedule P run) where
  -- the mask of a job: its slots, counted from its release
  mask_of : ℕ → ℕ → ℕ
  mask_of t i = from_bits (λ k. σ.gives (t + k) t i) (task_of P.tasks i).window

  -- its bits are the slots given to the job
  mask-bit : (t i k : ℕ) → bit (mask_of t i) k ≡ σ.gives (t + k) t i
  unfolding mask_of
  mask-bit t i k =
      let D = (task_of P.tasks i).window in
      by_cases (dec_lt k D) (bit_from_bits (λ j. σ.gives (t + j) t i) D k)
      (λ h. bit_past D (mask_of t i) k (from_bits_lt _ D) (omega arith)
      ∙ sym (is_false (σ.gives (t + k) t i) (λ g. omega (arith, (σ.in_window (t + k) t i g).2))))

  -- a slot of the mask is given to the job
  mask-gives : (t i k : ℕ) → T (bit (mask_of t i) k) → T (σ.gives (t + k) t i)
  mask-gives t i k h = subst T (mask-bit t i k) h

  -- a job that is not picked has the mask 0
  unpicked : (t i : ℕ) → (T (σ.picks t i) → ⊥) → mask_of t i ≡ 0
  unpicked t i h = no_bit (mask_of t i) (λ k b. h (σ.in_window (t + k) t i (mask-gives t i k b)).0)

  -- a job that is picked has a sound task
  task-of : (t i : ℕ) → T (σ.picks t i) → TaskSound (task_of P.tasks i)
  task-of t i h = task-sound P sd (i - 1) (omega (arith, σ.released t i h))

  -- the bits of its mask sum to the work
  mask-sum : (t i : ℕ) → T (σ.picks t i) → sum (λ k. one (bit (mask_of t i) k)) (task_of P.tasks i).window ≡ (task_of P.tasks i).work
  mask-sum t i h = sum_same _ _ (task_of P.tasks i).window (λ k _. ap one (mask-bit t i k)) ∙ σ.whole t i h

  -- so the mask is not 0
  picked_pos : (t i : ℕ) → T (σ.picks t i) → 1 ≤ mask_of t i
  picked_pos t i h = by_cases (dec_lt 0 (mask_of t i)) (λ k. k) (λ k. absurd (none (omega arith)))
    where
      zeros : mask_of t i ≡ 0 → (k : ℕ) → k < (task_of P.tasks i).window → one (bit (mask_of t i) k) ≡ 0
      zeros z k _ = ap one (is_false (bit (mask_of t i) k) (zero_no_bit z k))

      none : mask_of t i ≡ 0 → ⊥
      none z = omega (arith, (task-of t i h).some_work, mask-sum t i h, sum-zero _ (task_of P.tasks i).window (zeros z))

  -- a job is picked just where its mask is not 0
  picks-mask : (t i : ℕ) → σ.picks t i ≡ not (eqb (mask_of t i) 0)
  picks-mask t i =
      same_test (σ.picks t i) (not (eqb (mask_of t i) 0))
      (λ h. not_T (eqb (mask_of t i) 0) (λ e. omega (arith, picked_pos t i h, eqb→eq (mask_of t i) 0 e)))
      (λ h. go (σ.picks t i) refl h)
    where
      go : (b : Bool) → σ.picks t i ≡ b → T (not (eqb (mask_of t i) 0)) → T b
      go true e h = tt
      go false e h = zero_unpicked (unpicked t i (fails e)) h

  -- that of a locked task is a run, since its slots lie among C slots in a row
  mask-run : (t i : ℕ) → T (σ.picks t i) → mask_of t i < 2 ^ (task_of P.tasks i).window →
      ones (task_of P.tasks i).window (mask_of t i) ≡ (task_of P.tasks i).work → (task_of P.tasks i).locked ≡ true →
      neighbouring (task_of P.tasks i).window (mask_of t i) ≡ true
  mask-run t i h below size l =
      let job = task_of P.tasks i in
      let row = σ.unbroken t i h (holds l) in
      let at = row.0 - t in
      let run = run_of job.window (mask_of t i) job.work at below size (λ k b. omega (arith, row.1 (t + k) (mask-gives t i k b))) in
      (neighbouring-run job.window (mask_of t i)).1 (
        at,
        omega (arith, run-below job.work at job.window (task-of t i h).some_work (subst (λ (m : ℕ). m < 2 ^ job.window) run below)),
        run ∙ ap (λ (c : ℕ). bit_run c at) (sym size),
      )

  -- the mask fits its task and label
  mask_fits : (t i : ℕ) → MaskOf (task_of P.tasks i) (bit (get_or run t 0) (i - 1)) (mask_of t i)
  unfolding mask_of
  mask_fits t i = go (σ.picks t i) refl
    where
      D : ℕ
      D = (task_of P.tasks i).window

      below : mask_of t i < 2 ^ D
      below = from_bits_lt (λ k. σ.gives (t + k) t i) D

      go : (b : Bool) → σ.picks t i ≡ b → MaskOf (task_of P.tasks i) (bit (get_or run t 0) (i - 1)) (mask_of t i)
      go true e =
          let h = holds e in
          let size = ones_below D D (mask_of t i) below (omega arith) ∙ mask-sum t i h in
          inr (record { out = (σ.released t i h).3; pos = picked_pos t i h; below = below; size = size; run = mask-run t i h below size })
      go false e = inl (unpicked t i (fails e))

  -- the masks of a step
  masks_at : ℕ → List ℕ
  masks_at t = map (λ i. mask_of t (suc i)) (up_from 0 (length P.tasks))

  -- one for each task
  length-masks : (t : ℕ) → length (masks_at t) ≡ length P.tasks
  unfolding masks_at
  length-masks t = length-map (up_from 0 (length P.tasks)) (λ i. mask_of t (suc i)) ∙ length-up_from 0 (length P.tasks)

  -- the mask at a place is that of the task
  masks-at : (t i : ℕ) → get_or (masks_at t) i 0 ≡ mask_of t (suc i)
  unfolding masks_at
  masks-at t i =
      by_cases (dec_lt i (length P.tasks)) (get_or-table (λ j. mask_of t (suc j)) (length P.tasks) i 0)
      (λ h. get_or-eq_default (masks_at t) 0 (omega (arith, length-masks t))
      ∙ sym (unpicked t (suc i) (λ p. omega (arith, (σ.released t (suc i) p).2))))

  -- a slot of it is given to the task's job
  masks_give : (t i k : ℕ) → T (bit (get_or (masks_at t) i 0) k) → T (σ.gives (t + k) t (suc i))
  masks_give t i k h = mask-gives t (suc i) k (subst (λ m. T (bit m k)) (masks-at t i) h)

  -- the pattern, from slot t on, is clear of the slots of the jobs released from then on
  Free : ℕ → ℕ → Type 0
  Free taken t = (t' i k : ℕ) → t ≤ t' → T (σ.gives (t + k) t' i) → T (bit taken k) → ⊥

  -- the masks of a step are a choice
  masks_fit : (taken l t : ℕ) → get_or run t 0 ≡ l → Free taken t → Fits P.tasks l taken (masks_at t)
  unfolding Free
  masks_fit taken l t e free = record {
    count = length-masks t;
    mask = λ i.
        let p : suc i - 1 ≡ i = omega arith in
        subst₃ (λ (j n m : ℕ). MaskOf (get_or P.tasks j no_task) (bit n j) m) p e (sym (masks-at t i)) (mask_fits t (suc i));
    clear = λ i k h. free t (suc i) k (omega arith) (masks_give t i k h);
    apart = λ i j k h h'. omega (arith, σ.once (t + k) t (suc i) t (suc j) (masks_give t i k h) (masks_give t j k h'));
  }

  -- the next pattern is clear of the later jobs' slots
  free_next : (taken t : ℕ) → Free taken t → Free (joined taken (masks_at t) / 2) (suc t)
  unfolding Free
  free_next taken t free t' i k h g b =
      let g' : T (σ.gives (t + suc k) t' i) = subst (λ s. T (σ.gives s t' i)) (suc-add-suc t k) g in
      ⊎_elim (λ c. free t' i (suc k) (omega arith) g' c)
      (λ r. omega (arith, σ.once (t + suc k) t (suc r.0) t' i (masks_give t r.0 (suc k) r.1) g'))
      ((joined-bit taken (masks_at t) (suc k)).0 (subst T (bit_half (joined taken (masks_at t)) k) b))

  -- a walk with the masks of the schedule, from slot t on
  record WalkFrom (t : ℕ) (u : Node) (ls : List ℕ) : Type 0 where
    last : Node
    steps : List Edge
    walk : Walk P u last steps
    follows : labels steps ≡ ls
    masks : (j i : ℕ) → mask_at steps j i ≡ mask_of (t + j) i

  -- the edge of a step
  edge_at : Node → ℕ → ℕ → ℕ → Edge
  edge_at u l s t = edge_of P u l s (masks_at t)

  -- it is an edge of the node
  edge-at : (u : Node) (l s t : ℕ) → next_in P.arcs u.state l ≡ some s → get_or run t 0 ≡ l → Free u.taken t →
      Memᴰ (edge_at u l s t) (edges P u)
  unfolding edge_at
  edge-at u l s t next e free =
      (mem-edges P u (edge_at u l s t)).1
      (record {
        label = l;
        below = label-below P sd u.state l s next;
        at = record { next = s; masks = masks_at t; admitted = next; fits = masks_fit u.taken l t e free; is = refl };
      })

  -- one step, then the rest
  walk_cons : (u : Node) (l s t : ℕ) (ls : List ℕ) → Memᴰ (edge_at u l s t) (edges P u) →
      WalkFrom (suc t) (edge_at u l s t).to ls → WalkFrom t u (l ∷ ls)
  unfolding edge_at edge_of
  walk_cons u l s t ls m w = record {
    last = w.last;
    steps = edge_at u l s t ∷ w.steps;
    walk = go m w.walk;
    follows = ap (λ ks. l ∷ ks) w.follows;
    masks = masks';
  }
    where
      masks' : (j i : ℕ) → mask_at (edge_at u l s t ∷ w.steps) j i ≡ mask_of (t + j) i
      masks' zero zero = sym (unpicked (t + 0) 0 (λ p. omega (arith, (σ.released (t + 0) 0 p).1)))
      masks' zero (suc i) = masks-at t i ∙ ap (λ n. mask_of n (suc i)) (sym (add-zero t))
      masks' (suc j) i = w.masks j i ∙ ap (λ n. mask_of n i) (suc-add-suc t j)

  -- the labels left are the run's from slot t on
  walk_from : (ls : List ℕ) (t : ℕ) (u : Node) → T (admits_from P ls u.state) → ((j : ℕ) → get_or run (t + j) 0 ≡ get_or ls j 0) →
      Free u.taken t → WalkFrom t u ls
  unfolding edge_at edge_of
  walk_from [] t u adm same free = record {
    last = u;
    steps = [];
    walk = here;
    follows = refl;
    masks = λ j i. sym (unpicked (t + j) i (λ p. zero_no_bit (same j) (i - 1) (σ.released (t + j) i p).3));
  }
  walk_from (l ∷ ls) t u adm same free =
      let n = admits-some P l ls u.state adm in
      walk_cons u l n.0 t ls (edge-at u l n.0 t n.1 (ap (λ k. get_or run k 0) (sym (add-zero t)) ∙ same 0) free)
      (walk_from ls (suc t) (edge_at u l n.0 t).to n.2 (λ j. ap (λ k. get_or run k 0) (suc-add-suc t j) ∙ same (suc j))
      (free_next u.taken t free))

  -- the start has no taken slot
  free_start : Free 0 0
  unfolding Free
  free_start t' i k h g b = zero_no_bit refl k b

  -- a walk with the schedule's releases, slots and gains
  walk_of : T (admits P run) → (v : Node) × (es : List Edge) × Walk P start v es × Agrees P run σ es
  walk_of adm = (w.last, w.steps, w.walk, agrees)
    where
      w : WalkFrom 0 start run
      w = walk_from run 0 start adm (λ j. ap (λ k. get_or run k 0) (zero-add j)) free_start

      same-mask : (t i : ℕ) → mask_at w.steps t i ≡ mask_of t i
      same-mask t i = w.masks t i ∙ ap (λ n. mask_of n i) (zero-add t)

      same_bit : (t i k : ℕ) → bit (mask_at w.steps t i) k ≡ σ.gives (t + k) t i
      same_bit t i k = ap (λ m. bit m k) (same-mask t i) ∙ mask-bit t i k

      same-picks : (t i : ℕ) → picks_of w.steps t i ≡ σ.picks t i
      same-picks t i = ap (λ m. not (eqb m 0)) (same-mask t i) ∙ sym (picks-mask t i)

      agrees : Agrees P run σ w.steps
      agrees = record {
        releases = w.follows;
        slots = λ t i k. (subst T (same_bit t i k), subst T (sym (same_bit t i k)));
        policy = walk_kept P w.walk ∙ ap (gain_from P []) w.follows;
        clairvoyant =
            walk_ideal w.walk ∙ ap (λ ls. gain_of P.tasks (picks_of w.steps) (length ls)) w.follows
            ∙ gain_of-same P.tasks (picks_of w.steps) σ.picks (length run) same-picks;
      }

-- ---- the theorem

-- the graph of a sound plan is true to its schedules
pub true-to-schedules : (P : Plan) → PlanSound P → TrueToSchedules P
true-to-schedules P sd = record {
  to_walk = λ run adm σ. walk_of P sd run σ adm;
  to_schedule = λ v es w. (walk_admits P w, schedule_of P sd w, schedule_agrees P sd w);
}

-- so is that of every plan that the reader takes
pub sound-true-to-schedules : (P : Plan) → IsSound P → TrueToSchedules P
sound-true-to-schedules P s = true-to-schedules P (sound-plan P s)

-- the same, from the bytes
pub read-true-to-schedules : (bs : List ℕ) (P : Plan) → read_plan bs ≡ sound P → TrueToSchedules P
read-true-to-schedules bs P h = true-to-schedules P (read-sound bs P h)
