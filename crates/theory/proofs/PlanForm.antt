-- The bytes of a sound plan: read as it, no longer than the longest, and the only ones.
-- Assumes nothing.
use mathlib.Core.Path.{◌≡◌, refl, sym, ap, subst, ◌∙◌}
use Prim.Native.Nat.{ℕ, zero, suc, ◌+◌, ◌-◌, ◌*◌, ◌≤◌, ◌<◌}
use native.Mathlib.Nat.{mod-eq_of_lt, mul-le-mul_left, mul-suc}
use native.Mathlib.Omega.{arith}
use mathlib.Core.Bool.{Bool, true, false, cond, not, ◌&&◌, ◌||◌, false≢true}
use mathlib.Core.List.{List, [], ◌∷◌, ◌++◌, map, append_assoc, append-nil}
use borrow.Author.Tests.{eqb-true, leb-true, eq-eqb, ne_eqb, not-true}
use lib.Dec.{eqb, leb, ltb}
use lib.ListN.{length, get_or, take, drop, length-append, take-append-drop}
use lib.Seq.{take_all, length-take-le, get_or-drop}
use Rattle.model.specs.Edition.{Edition, WideEnough, task_width, plan_room_in}
use Rattle.model.specs.Limits.{max_tasks, max_states}
use Rattle.model.specs.Lists.{flat_map, up_from}
use Rattle.model.specs.Bytes.{number, bytes}
use Rattle.model.specs.Plan.{Task, Arc, Plan, PlanAnswer, faulty, sound, Reading, nothing_read, is_zero, width, may_follow, in_range, fault, any_locked, lock_at, after, last_operand, refused_or, at_end, read_commands, read_from, read_plan_in}
use Rattle.model.specs.PlanBytes.{task_bytes, lock_bytes, arc_bytes, plan_bytes_in, PlansAreWritten}
use Rattle.model.proofs.Lists.{flat_map-append}
use Rattle.model.proofs.Plan.{both, width-pos, fault-none, arc_ranged, Passes, by_command, lock_at-flat_map, locks-few, lock_bytes-unlocked, lock-last}
use Rattle.words.proofs.Numbers.{AreBytes, bytes-length, bytes-number}
use Rattle.words.proofs.Words.{part_bytes}
use Rattle.words.proofs.Memory.{part-map}
use Rattle.theory.proofs.Sound.{PlanSoundIn, Held, held-nothing, held_after, sound-plan}
use Rattle.theory.proofs.Long.{arcs-few}
use Rattle.theory.proofs.PlanRead.{plan-read-back}

-- ---- no longer than the longest

length-tasks : (e : Edition) (ts : List Task) → length (flat_map (task_bytes e) ts) ≡ task_width e * length ts
length-tasks e [] = omega arith
length-tasks e (t ∷ ts) =
    omega (
      arith,
      length-append (task_bytes e t) (flat_map (task_bytes e) ts),
      bytes-length e.value_width t.value,
      length-tasks e ts,
      mul-suc (task_width e) (length ts),
    )

length-arcs : (as' : List Arc) → length (flat_map arc_bytes as') ≡ 4 * length as'
length-arcs [] = refl
length-arcs (a ∷ as') = omega (arith, length-append (arc_bytes a) (flat_map arc_bytes as'), length-arcs as')

fits : (e : Edition) (P : Plan) → PlanSoundIn e P → length (plan_bytes_in e P) ≤ plan_room_in e
unfolding plan_bytes_in
fits e P s =
    let head : List ℕ = 0x02 ∷ P.policy ∷ 0x03 ∷ P.states ∷ (flat_map arc_bytes P.arcs ++ (0x05 ∷ [])) in
    let r : Reading = record { tasks = P.tasks; policy = P.policy; states = P.states; arcs = P.arcs; ended = true } in
    let few = arcs-few {e = e} r (record {
      tasks_fit = s.tasks_fit;
      task = s.task;
      policy_fits = s.policy_fits;
      tasked = λ h. s.some_task;
      states_fit = s.states_fit;
      policied = λ h. s.some_policy;
      arc = s.arc;
      rise = s.rise;
      stated = λ k. s.some_state;
    }) in
    omega (
      arith,
      few,
      mul-le-mul_left (task_width e) s.tasks_fit,
      mul-le-mul_left (cond e.locks 2 0) s.tasks_fit,
      length-tasks e P.tasks,
      locks-few e P.tasks 1 (λ t m. (s.task t m).lock_fits),
      length-arcs P.arcs,
      length-append (flat_map (task_bytes e) P.tasks) (lock_bytes P.tasks 1 ++ head),
      length-append (lock_bytes P.tasks 1) head,
      length-append (flat_map arc_bytes P.arcs) (0x05 ∷ []),
    )

-- ---- the only ones

-- a number that is given
abbrev given : ℕ → ℕ → List ℕ
given c n = cond (eqb n 0) [] (c ∷ n ∷ [])

abbrev ending : Bool → List ℕ
ending b = cond b (0x05 ∷ []) []

-- the bytes of tasks, and of their locks
abbrev heads : Edition → List Task → List ℕ
heads e ts = flat_map (task_bytes e) ts ++ lock_bytes ts 1

-- the bytes of what has been read
abbrev spelt : Edition → List Task → ℕ → ℕ → List Arc → Bool → List ℕ
spelt e ts p m as' b = heads e ts ++ (given 0x02 p ++ (given 0x03 m ++ (flat_map arc_bytes as' ++ ending b)))

abbrev written : Edition → Reading → List ℕ
written e r = spelt e r.tasks r.policy r.states r.arcs r.ended

-- later commands are missing while earlier ones are
record Ordered (r : Reading) : Type 0 where
  states_later : r.policy ≡ 0 → r.states ≡ 0
  arcs_later : r.states ≡ 0 → r.arcs ≡ []

-- a command with its operands, the last of which has the bytes that are left
abbrev command : Edition → ℕ → ℕ → ℕ → ℕ → List ℕ
command e c x y z = take (width e c) (c ∷ x ∷ y ∷ bytes (width e c - 3) z)

-- a task, and an arc
command-task : (e : Edition) (x y z : ℕ) → command e 1 x y z ≡ task_bytes e (record { work = x; window = y; value = z; locked = false })
unfolding width
command-task e x y z =
    let left : task_width e - 3 ≡ e.value_width = omega arith in
    ap (λ (k : ℕ). take (task_width e) (1 ∷ x ∷ y ∷ bytes k z)) left
    ∙ take_all (task_width e) (1 ∷ x ∷ y ∷ bytes e.value_width z) (omega (arith, bytes-length e.value_width z))

command_arc : (e : Edition) (x y z : ℕ) → z < 256 → command e 4 x y z ≡ arc_bytes (record { from = x; label = y; to = z })
unfolding width bytes
command_arc e x y z h = ap (λ (t : ℕ). 4 ∷ x ∷ y ∷ t ∷ []) (mod-eq_of_lt h)

zero_of : (n : ℕ) → is_zero n ≡ true → n ≡ 0
zero_of n h = eqb-true n 0 h

given-some : (c n : ℕ) → 1 ≤ n → given c n ≡ c ∷ n ∷ []
given-some c n h = ap (λ (b : Bool). cond b [] (c ∷ n ∷ [])) (ne_eqb n 0 (λ e. omega (arith, e, h)))

flat_snoc {ℓ} : {A : Type ℓ} (f : A → List ℕ) (l : List A) (x : A) → flat_map f (l ++ (x ∷ [])) ≡ flat_map f l ++ f x
flat_snoc f l x = flat_map-append f l (x ∷ []) ∙ ap (λ k. flat_map f l ++ k) (append-nil (f x))

regroup : (h p s a b : List ℕ) → h ++ (p ++ (s ++ (a ++ b))) ≡ (h ++ (p ++ (s ++ a))) ++ b
regroup h p s a b =
    ap (λ k. h ++ (p ++ k)) (sym (append_assoc s a b)) ∙ ap (λ k. h ++ k) (sym (append_assoc p (s ++ a) b)) ∙ sym (append_assoc h (p ++ (s ++ a)) b)

-- a task behind tasks that are not locked
heads-task : (e : Edition) (ts : List Task) (t : Task) → any_locked ts ≡ false → t.locked ≡ false → heads e (ts ++ (t ∷ [])) ≡ heads e ts ++ task_bytes e t
heads-task e ts t h k =
    let none : lock_bytes ts 1 ≡ [] = lock_bytes-unlocked [] ts 1 h in
    let last : any_locked (t ∷ []) ≡ false = ap (λ (b : Bool). b || false) k in
    (λ i. flat_map (task_bytes e) (ts ++ (t ∷ [])) ++ (lock_bytes-unlocked ts (t ∷ []) 1 last ∙ none) i)
    ∙ append-nil (flat_map (task_bytes e) (ts ++ (t ∷ []))) ∙ flat_snoc (task_bytes e) ts t
    ∙ ap (λ l. l ++ task_bytes e t) (sym (ap (λ l. flat_map (task_bytes e) ts ++ l) none ∙ append-nil (flat_map (task_bytes e) ts)))

-- a lock behind the others
heads-lock : (e : Edition) (r : Reading) (x y z : ℕ) → Passes e r 9 x y z → heads e (lock_at r.tasks (x - 1)) ≡ heads e r.tasks ++ (0x09 ∷ x ∷ [])
heads-lock e r x y z p =
    (λ i. lock_at-flat_map (task_bytes e) (λ t. refl) r.tasks (x - 1) i ++ lock-last e r x y z p i)
    ∙ sym (append_assoc (flat_map (task_bytes e) r.tasks) (lock_bytes r.tasks 1) (0x09 ∷ x ∷ []))

module _ (e : Edition) (r : Reading) (held : Held e r) (o : Ordered r) (x y z : ℕ) where
  -- the command c, without a fault, is spelt behind what has been read
  abbrev Spells : ℕ → Type 0
  Spells c = Passes e r c x y z → Ordered (after r c x y z) × (written e (after r c x y z) ≡ written e r ++ command e c x y z)

  -- without a policy there are only tasks and locks
  bare : is_zero r.policy ≡ true → (ts : List Task) → spelt e ts r.policy r.states r.arcs false ≡ heads e ts
  bare h ts =
      let no_policy : r.policy ≡ 0 = zero_of r.policy h in
      let no_states : r.states ≡ 0 = o.states_later no_policy in
      let no_arcs : r.arcs ≡ [] = o.arcs_later no_states in
      (λ i. spelt e ts (no_policy i) (no_states i) (no_arcs i) false) ∙ append-nil (heads e ts)

  -- so what follows tasks and locks follows all
  behind : is_zero r.policy ≡ true → r.ended ≡ false → (ts : List Task) (bs : List ℕ) → heads e ts ≡ heads e r.tasks ++ bs →
      spelt e ts r.policy r.states r.arcs false ≡ written e r ++ bs
  behind h going ts bs same =
      bare h ts ∙ same
      ∙ ap (λ l. l ++ bs) (sym (ap (spelt e r.tasks r.policy r.states r.arcs) going ∙ bare h r.tasks))

  -- a task
  spells_task : Spells 1
  unfolding after may_follow
  spells_task p =
      let t : Task = record { work = x; window = y; value = z; locked = false } in
      let follows = both (is_zero r.policy && ltb (length r.tasks) max_tasks) (not (any_locked r.tasks)) p.follows in
      let no_policy = (both (is_zero r.policy) (ltb (length r.tasks) max_tasks) follows.0).0 in (
        record { states_later = o.states_later; arcs_later = o.arcs_later },
        behind no_policy p.going (r.tasks ++ (t ∷ [])) (task_bytes e t) (heads-task e r.tasks t (not-true (any_locked r.tasks) follows.1) refl)
            ∙ ap (λ l. written e r ++ l) (sym (command-task e x y z)),
      )

  -- the policy
  spells_policy : Spells 2
  unfolding after width may_follow in_range bytes
  spells_policy p =
      let follows = both (is_zero r.policy) (not (is_zero (length r.tasks))) p.follows in
      let no_policy : r.policy ≡ 0 = zero_of r.policy follows.0 in
      let no_states : r.states ≡ 0 = o.states_later no_policy in
      let no_arcs : r.arcs ≡ [] = o.arcs_later no_states in
      let some : 1 ≤ x = leb-true 1 x (both (leb 1 x) (leb x 4) p.ranged).0 in (
        record { states_later = λ k. no_states; arcs_later = o.arcs_later },
        (λ i. heads e r.tasks ++ (given-some 2 x some i ++ (given 3 (no_states i) ++ (flat_map arc_bytes (no_arcs i) ++ []))))
            ∙ ap (λ k. k ++ (2 ∷ x ∷ [])) (sym ((λ i. spelt e r.tasks (no_policy i) (no_states i) (no_arcs i) (p.going i)) ∙ append-nil (heads e r.tasks))),
      )

  -- the number of states
  spells_states : Spells 3
  unfolding after width may_follow in_range bytes
  spells_states p =
      let follows = both (not (is_zero r.policy)) (is_zero r.states) p.follows in
      let no_states : r.states ≡ 0 = zero_of r.states follows.1 in
      let no_arcs : r.arcs ≡ [] = o.arcs_later no_states in
      let some : 1 ≤ x = leb-true 1 x (both (leb 1 x) (leb x max_states) p.ranged).0 in
      let head : List ℕ = heads e r.tasks in
      let policy : List ℕ = given 2 r.policy in (
        record { states_later = λ k. absurd (false≢true (sym (not-true (is_zero r.policy) follows.0) ∙ eq-eqb r.policy 0 k)); arcs_later = λ k. no_arcs },
        (λ i. head ++ (policy ++ (given-some 3 x some i ++ (flat_map arc_bytes (no_arcs i) ++ []))))
            ∙ sym (append_assoc head policy (3 ∷ x ∷ []))
            ∙ ap (λ k. k ++ (3 ∷ x ∷ [])) (sym ((λ i. spelt e r.tasks r.policy (no_states i) (no_arcs i) (p.going i)) ∙ ap (λ k. head ++ k) (append-nil policy))),
      )

  -- an arc
  spells_arc : Spells 4
  unfolding after width may_follow in_range bytes
  spells_arc p =
      let a : Arc = record { from = x; label = y; to = z } in
      let head : List ℕ = heads e r.tasks in
      let policy : List ℕ = given 2 r.policy in
      let states : List ℕ = given 3 r.states in (
        record { states_later = o.states_later; arcs_later = λ k. absurd (false≢true (sym (not-true (is_zero r.states) p.follows) ∙ eq-eqb r.states 0 k)) },
        ap (λ k. head ++ (policy ++ (states ++ k))) (append-nil (flat_map arc_bytes (r.arcs ++ (a ∷ []))) ∙ flat_snoc arc_bytes r.arcs a)
            ∙ regroup head policy states (flat_map arc_bytes r.arcs) (arc_bytes a)
            ∙ ap (λ k. k ++ arc_bytes a) (sym ((λ i. spelt e r.tasks r.policy r.states r.arcs (p.going i)) ∙ ap (λ k. head ++ (policy ++ (states ++ k))) (append-nil (flat_map arc_bytes r.arcs))))
            ∙ ap (λ k. written e r ++ k) (sym (command_arc e x y z (omega (arith, held.states_fit, (arc_ranged e r 4 x y z refl p.ranged).2)))),
      )

  -- the end
  spells_end : Spells 5
  unfolding after width may_follow in_range bytes
  spells_end p =
      let head : List ℕ = heads e r.tasks in
      let policy : List ℕ = given 2 r.policy in
      let states : List ℕ = given 3 r.states in (
        record { states_later = o.states_later; arcs_later = o.arcs_later },
        regroup head policy states (flat_map arc_bytes r.arcs) (5 ∷ [])
            ∙ ap (λ k. k ++ (5 ∷ [])) (sym ((λ i. spelt e r.tasks r.policy r.states r.arcs (p.going i)) ∙ ap (λ k. head ++ (policy ++ (states ++ k))) (append-nil (flat_map arc_bytes r.arcs)))),
      )

  -- a lock
  spells_lock : Spells 9
  unfolding after width may_follow
  spells_lock p =
      let no_policy = (both (is_zero r.policy) (not (is_zero (length r.tasks))) p.follows).0 in (
        record { states_later = o.states_later; arcs_later = o.arcs_later },
        behind no_policy p.going (lock_at r.tasks (x - 1)) (0x09 ∷ x ∷ []) (heads-lock e r x y z p),
      )

  -- each of them
  spell : (c : ℕ) → Spells c
  spell c p = by_command Spells e c p.known spells_task spells_policy spells_states spells_arc spells_end (λ has. spells_lock) p

-- the bytes of a command stand in front of the others
front : (w c : ℕ) (bs : List ℕ) → AreBytes bs → 1 ≤ w → w ≤ suc (length bs) →
    take w (c ∷ get_or bs 0 0 ∷ get_or bs 1 0 ∷ bytes (w - 3) (number (map (λ i. get_or bs i 0) (up_from 2 (w - 3))))) ++ drop w (c ∷ bs) ≡ c ∷ bs
front zero c bs b h l = absurd (omega arith)
front (suc zero) c bs b h l = refl
front (suc (suc w)) c [] b h l = absurd (omega arith)
front (suc (suc zero)) c (x ∷ bs) b h l = refl
front (suc (suc (suc w))) c (x ∷ []) b h l = absurd (omega arith)
front (suc (suc (suc w))) c (x ∷ y ∷ bs) b h l =
    let size : length (take w bs) ≡ w = length-take-le w bs (omega arith) in
    let read : number (map (λ i. get_or (x ∷ y ∷ bs) i 0) (up_from 2 w)) ≡ number (take w bs) = ap number (part-map (x ∷ y ∷ bs) 2 w (omega arith)) in
    let back : bytes w (number (take w bs)) ≡ take w bs = ap (λ (k : ℕ). bytes k (number (take w bs))) (sym size) ∙ bytes-number (take w bs) (part_bytes (x ∷ y ∷ bs) 2 w b) in
    ap (λ (k : ℕ). c ∷ x ∷ y ∷ (take w (bytes k (number (map (λ i. get_or (x ∷ y ∷ bs) i 0) (up_from 2 k)))) ++ drop w bs)) (suc-sub_three w)
    ∙ ap (λ l. c ∷ x ∷ y ∷ (take w l ++ drop w bs)) (ap (bytes w) read ∙ back)
    ∙ ap (λ l. c ∷ x ∷ y ∷ (l ++ drop w bs)) (take_all w (take w bs) (omega (arith, size)))
    ∙ ap (λ l. c ∷ x ∷ y ∷ l) (take-append-drop w bs)
  where
    suc-sub_three : (n : ℕ) → suc (suc (suc n)) - 3 ≡ n
    suc-sub_three n = omega arith

only_end : (e : Edition) (r : Reading) (P : Plan) → Held e r → at_end r ≡ sound P → written e r ++ [] ≡ plan_bytes_in e P
unfolding plan_bytes_in
only_end e r P held h = go r.ended refl h
  where
    go : (b : Bool) → r.ended ≡ b →
        cond b (sound (record { tasks = r.tasks; policy = r.policy; states = r.states; arcs = r.arcs })) (faulty 1) ≡ sound P →
        written e r ++ [] ≡ plan_bytes_in e P
    go true is k =
        let states = held.stated is in
        let same : ◌≡◌ {A = Plan} (record { tasks = r.tasks; policy = r.policy; states = r.states; arcs = r.arcs }) P = cc in
        append-nil (written e r)
        ∙ (λ i. heads e r.tasks ++ (given-some 2 r.policy (held.policied states) i ++ (given-some 3 r.states states i ++ (flat_map arc_bytes r.arcs ++ ending (is i)))))
        ∙ append_assoc (flat_map (task_bytes e) r.tasks) (lock_bytes r.tasks 1) (0x02 ∷ r.policy ∷ 0x03 ∷ r.states ∷ (flat_map arc_bytes r.arcs ++ (0x05 ∷ [])))
        ∙ ap (plan_bytes_in e) same
    go false is k = let z : ◌≡◌ {A = ℕ} 0 1 = cc in absurd (omega arith)

module _ (e : Edition) (P : Plan) where
  only-read : (n : ℕ) (bs : List ℕ) (r : Reading) → AreBytes bs → Held e r → Ordered r → read_commands e n bs r ≡ sound P → written e r ++ bs ≡ plan_bytes_in e P
  unfolding last_operand
  only-read zero bs r b held o h = let z : ◌≡◌ {A = ℕ} 0 1 = cc in absurd (omega arith)
  only-read (suc n) [] r b held o h = only_end e r P held h
  only-read (suc n) (c ∷ bs) r b held o h =
      go (fault e r (length (c ∷ bs)) c x y z) refl h
      (λ p k. only-read n (drop (width e c) (c ∷ bs)) (after r c x y z) rest-bytes (held_after e r held x y z c p) (spell e r held o x y z c p).0 k)
    where
      x : ℕ
      x = get_or bs 0 0

      y : ℕ
      y = get_or bs 1 0

      z : ℕ
      z = last_operand e c bs

      rest : PlanAnswer
      rest = read_commands e n (drop (width e c) (c ∷ bs)) (after r c x y z)

      rest-bytes : AreBytes (drop (width e c) (c ∷ bs))
      rest-bytes i = subst (λ (v : ℕ). v < 256) (sym (get_or-drop (width e c) (c ∷ bs) i 0)) (b (width e c + i))

      go : (f : ℕ) → fault e r (length (c ∷ bs)) c x y z ≡ f → refused_or f rest ≡ sound P →
          (Passes e r c x y z → rest ≡ sound P → written e (after r c x y z) ++ drop (width e c) (c ∷ bs) ≡ plan_bytes_in e P) → written e r ++ (c ∷ bs) ≡ plan_bytes_in e P
      go zero is k later =
          let t = fault-none e r (length (c ∷ bs)) c x y z is in
          ap (λ l. written e r ++ l) (sym (front (width e c) c bs (λ i. b (suc i)) (width-pos e c) t.1))
          ∙ sym (append_assoc (written e r) (command e c x y z) (drop (width e c) (c ∷ bs)))
          ∙ ap (λ l. l ++ drop (width e c) (c ∷ bs)) (sym (spell e r held o x y z c t.0).1)
          ∙ later t.0 k
      go (suc f) is k later = let z : ◌≡◌ {A = ℕ} 0 1 = cc in absurd (omega arith)

pub plans_are_written : (e : Edition) → WideEnough e → PlansAreWritten e
unfolding read_plan_in read_from
plans_are_written e wide P h =
    let s = sound-plan P h in
    record {
      taken = plan-read-back e wide P s;
      fits = fits e P s;
      only = λ bs b is. only-read e P (suc (length bs)) bs nothing_read b (held-nothing e) (record { states_later = λ _. refl; arcs_later = λ _. refl }) is;
    }
