-- Laws of what the reader's structs stand for: the tasks, the last lock and the table of next states.
-- Assumes nothing.
use mathlib.Core.Path.{◌≡◌, refl, sym, ap, ap₂, ◌∙◌, subst}
use mathlib.Core.Bool.{Bool, true, false, cond, not, ◌&&◌, ◌||◌, and-false, or-true}
use mathlib.Core.List.{List, [], ◌∷◌, ◌++◌, append-nil}
use mathlib.Core.Option.{Option, none, some}
use Prim.Native.Nat.{ℕ, zero, suc, ◌+◌, ◌-◌, ◌*◌, ◌/◌, ◌%◌, ◌^◌, ◌≤◌, ◌<◌}
use native.Mathlib.Nat.{lt_of_lt_of_le, add-zero, add-suc, add-sub_of_le, suc_inj, suc-ne-zero}
use native.Mathlib.Omega.{arith}
use borrow.Author.Tests.{lt-ltb, le-ltb, le-leb, lt-leb, eq-eqb, ne_eqb, ltb-true, ltb-false, eqb-true, eqb-false}
use lib.Dec.{leb, ltb, eqb, leb-zero}
use lib.ListN.{length, get_or, take, drop, set, length-map, length-set, get_or-map}
use lib.Seq.{drop-nil, length-take-le, get_or-take, get_or-set_same, get_or-set_other}
use lib.Pow.{pow_mono}
use Rattle.model.specs.Edition.{Edition}
use Rattle.model.specs.Limits.{max_states}
use Rattle.model.specs.Plan as model
use Rattle.model.specs.Plan.{Arc, next_in, with_lock, lock_at, any_locked, rising, pair_below, lock_rises, rises, unknown, width, may_follow, arc_in_range, in_range, first_fault, fault}
use Rattle.model.proofs.Plan.{rising-last, ranged-first, lock-ranged, arc_ranged, or_else, or_else-none, next-append}
use Rattle.std.specs.Prelude as rust
use Rattle.plan.specs.declared.tasks.Plan.{Plan}
use Rattle.plan.specs.declared.Fault.{Fault}
use Rattle.plan.specs.declared.Reading.{Reading}
use Rattle.plan.specs.declared.tasks.Task.{Task}
use Rattle.plan.specs.declared.tasks.TaskList.{TaskList}
use Rattle.plan.specs.View.{answer_of, empty_task, task_view, tasks_of, label_count, pair_count, arc_at, arcs_below, arcs_in, next_of, reading_of, rises_in, fault_in, list_of, Within, Holds}

-- as many tasks as the count says
pub tasks-length : (ts : List Task) (n : ℕ) → n ≤ length ts → length (tasks_of ts n) ≡ n
tasks-length ts n h = length-map (take n ts) task_view ∙ length-take-le n ts h

pub tasks-size : (t : TaskList) → length (list_of t) ≡ t.count
tasks-size t = tasks-length t.list t.count (omega (arith, t.room, t.fits))

-- the model's task at a place
pub task-given : (ts : List Task) (n i : ℕ) → i < n → task_view (get_or ts i empty_task) ≡ get_or (tasks_of ts n) i (task_view empty_task)
task-given ts n i h = sym (get_or-map task_view (take n ts) i empty_task ∙ ap task_view (get_or-take n ts i empty_task h))

-- a store of the same task, locked, among the tasks given
pub lock-stored : (ts : List Task) (n at : ℕ) (t : Task) → at < n → at < length ts → task_view t ≡ with_lock true (task_view (get_or ts at empty_task)) →
    tasks_of (set ts at t) n ≡ lock_at (tasks_of ts n) at
lock-stored [] n at t h k e = absurd (omega (arith, k))
lock-stored (x ∷ ts) zero at t h k e = absurd (omega (arith, h))
lock-stored (x ∷ ts) (suc n) zero t h k e = ap (λ (u : model.Task). u ∷ tasks_of ts n) e
lock-stored (x ∷ ts) (suc n) (suc at) t h k e = ap (λ (us : List model.Task). task_view x ∷ us) (lock-stored ts n at t (omega (arith, h)) (omega (arith, k)) e)

-- one more task, which is not locked
pub locks-task : (ts : List model.Task) (t : model.Task) → t.locked ≡ false → (from : ℕ) → any_locked (drop from (ts ++ (t ∷ []))) ≡ any_locked (drop from ts)
locks-task [] t e zero = ap (λ (b : Bool). b || false) e
locks-task [] t e (suc from) = ap any_locked (drop-nil from)
locks-task (u ∷ ts) t e zero = ap (λ (b : Bool). u.locked || b) (locks-task ts t e 0)
locks-task (u ∷ ts) t e (suc from) = locks-task ts t e from

ltb_suc : (a b : ℕ) → ltb a b ≡ ltb (suc a) (suc b)
ltb_suc a b = go (ltb a b) refl
  where
    go : (c : Bool) → ltb a b ≡ c → c ≡ ltb (suc a) (suc b)
    go true is = sym (lt-ltb (suc a) (suc b) (omega (arith, ltb-true)))
    go false is = sym (le-ltb (suc a) (suc b) (omega (arith, ltb-false)))

-- a task locked, where none after it is
pub locks-lock : (ts : List model.Task) (at : ℕ) → at < length ts → ((from : ℕ) → at < from → any_locked (drop from ts) ≡ false) →
    (from : ℕ) → any_locked (drop from (lock_at ts at)) ≡ ltb from (suc at)
locks-lock [] at h free from = absurd (omega (arith, h))
locks-lock (t ∷ ts) zero h free zero = sym (lt-ltb 0 1 (omega arith))
locks-lock (t ∷ ts) zero h free (suc from) = free (suc from) (omega arith) ∙ sym (le-ltb (suc from) 1 (omega arith))
locks-lock (t ∷ ts) (suc at) h free zero =
    ap (λ (b : Bool). t.locked || b) (locks-lock ts at (omega (arith, h)) (λ k g. free (suc k) (omega arith)) 0 ∙ lt-ltb 0 (suc at) (omega arith))
    ∙ or-true t.locked
    ∙ sym (lt-ltb 0 (suc (suc at)) (omega arith))
locks-lock (t ∷ ts) (suc at) h free (suc from) = locks-lock ts at (omega (arith, h)) (λ k g. free (suc k) (omega arith)) from ∙ ltb_suc from (suc at)

-- some task is locked where the last lock is not 0
pub locked-any : (r : Reading) → Within r → any_locked (list_of r.tasks) ≡ not (eqb r.lock 0)
locked-any r w = w.locks 0 ∙ go (eqb r.lock 0) refl
  where
    go : (b : Bool) → eqb r.lock 0 ≡ b → ltb 0 r.lock ≡ not b
    go true is = le-ltb 0 r.lock (omega (arith, eqb-true))
    go false is = lt-ltb 0 r.lock (omega (arith, eqb-false))

-- a lock's number, from 1, rises where it is above the last one
pub lock-rises : (r : Reading) → Within r → (i : ℕ) → 1 ≤ i → lock_rises (list_of r.tasks) i ≡ ltb r.lock i
lock-rises r w i h = ap not (w.locks (i - 1)) ∙ go (ltb r.lock i) refl
  where
    go : (b : Bool) → ltb r.lock i ≡ b → not (ltb (i - 1) r.lock) ≡ b
    go true is = ap not (le-ltb (i - 1) r.lock (omega (arith, ltb-true)))
    go false is = ap not (lt-ltb (i - 1) r.lock (omega (arith, ltb-false)))

-- entries without a next state add no arc
arcs-above : (next : List ℕ) (n k : ℕ) → ((j : ℕ) → n ≤ j → get_or next j 0 ≡ 0) → arcs_below next (n + k) ≡ arcs_below next n
arcs-above next n zero h = ap (arcs_below next) (add-zero n)
arcs-above next n (suc k) h =
    ap (arcs_below next) (add-suc n k)
    ∙ ap (λ (t : ℕ). arcs_below next (n + k) ++ arc_at (n + k) t) (h (n + k) (omega arith))
    ∙ append-nil (arcs_below next (n + k))
    ∙ arcs-above next n k h

-- a store at a pair leaves the arcs of those below it
arcs-set : (next : List ℕ) (k v n : ℕ) → n ≤ k → arcs_below (set next k v) n ≡ arcs_below next n
arcs-set next k v zero h = refl
arcs-set next k v (suc n) h =
    ap₂ (λ (as' : List Arc) (t : ℕ). as' ++ arc_at n t) (arcs-set next k v n (omega arith)) (get_or-set_other next k n v 0 (omega arith))

-- the table's arcs are those below the least pair
arcs-held : (next : List ℕ) (least : ℕ) → Holds next least → arcs_in next ≡ arcs_below next least
unfolding arcs_in
arcs-held next least h =
    ap (arcs_below next) (sym (add-sub_of_le h.within)) ∙ arcs-above next least (pair_count - least) h.above

-- the arc of a pair
abbrev pub arc_of : ℕ → ℕ → Arc
arc_of k t = record { from = k / label_count; label = k % label_count; to = t }

-- pairs are in the order of their places
pair_order : (m t s l : ℕ) → l < label_count → pair_below (arc_of m t) s l ≡ leb (suc m) (s * label_count + l)
pair_order m t s l h = go (ltb (m / label_count) s) (eqb (m / label_count) s) (ltb (m % label_count) l) refl refl refl
  where
    go : (a b c : Bool) → ltb (m / label_count) s ≡ a → eqb (m / label_count) s ≡ b → ltb (m % label_count) l ≡ c →
        (a || (b && c)) ≡ leb (suc m) (s * label_count + l)
    go true b c p q r = sym (le-leb (suc m) (s * label_count + l) (omega (arith, ltb-true)))
    go false true true p q r = sym (le-leb (suc m) (s * label_count + l) (omega (arith, eqb-true, ltb-true)))
    go false true false p q r = sym (lt-leb (suc m) (s * label_count + l) (omega (arith, eqb-true, ltb-false)))
    go false false c p q r = sym (lt-leb (suc m) (s * label_count + l) (omega (arith, ltb-false, eqb-false)))

-- a pair rises above the table's arcs from the least one on
pub least-rises : (next : List ℕ) (least : ℕ) → Holds next least → (s l : ℕ) → l < label_count → rising (arcs_in next) s l ≡ leb least (s * label_count + l)
least-rises next zero h s l low = ap (λ (as' : List Arc). rising as' s l) (arcs-held next 0 h) ∙ sym (leb-zero (s * label_count + l))
least-rises next (suc m) h s l low = ap (λ (as' : List Arc). rising as' s l) (arcs-held next (suc m) h) ∙ last (get_or next m 0) refl
  where
    last : (v : ℕ) → get_or next m 0 ≡ v → rising (arcs_below next m ++ arc_at m v) s l ≡ leb (suc m) (s * label_count + l)
    last zero e = absurd (h.below m refl e)
    last (suc t) e = rising-last (arcs_below next m) (arc_of m t) s l ∙ pair_order m t s l low

-- an arc in range has a label of the table
pub label-low : (e : Edition) (r : Reading) (arcs : List Arc) (c x y z : ℕ) → Within r → in_range e (reading_of r arcs) c x y z ≡ true → c ≡ 4 → y < label_count
label-low e r arcs c x y z w h is =
    lt_of_lt_of_le (subst (λ (n : ℕ). y < 2 ^ n) (tasks-size r.tasks) (arc_ranged e _ _ _ _ _ is h).1) (pow_mono r.tasks.fits)

-- where the operands are in range, the least pair tells whether an arc's rises, and the last lock whether a lock's number does
from-least : (e : Edition) (r : Reading) (next : List ℕ) (c x y z : ℕ) → Within r → Holds next r.least →
    in_range e (reading_of r (arcs_in next)) c x y z ≡ true → rises_in r c x y ≡ rises (reading_of r (arcs_in next)) c x y
from-least e r next c x y z w h g = go (eqb c 4) (eqb c 9) refl refl
  where
    go : (a b : Bool) → eqb c 4 ≡ a → eqb c 9 ≡ b →
        cond a (leb r.least (x * label_count + y)) (cond b (ltb r.lock x) true)
        ≡ cond a (rising (arcs_in next) x y) (cond b (lock_rises (list_of r.tasks) x) true)
    go true b is k = sym (least-rises next r.least h x y (label-low e r (arcs_in next) c x y z w g (eqb-true c 4 is)))
    go false true is k = sym (lock-rises r w x (lock-ranged e (reading_of r (arcs_in next)) c x y z (eqb-true c 9 k) g).0)
    go false false is k = refl

-- the fault by the least pair and the last lock is the definition's
pub fault-from-least : (e : Edition) (r : Reading) (next : List ℕ) (left c x y z : ℕ) → Within r → Holds next r.least →
    fault_in e r left c x y z ≡ fault e (reading_of r (arcs_in next)) left c x y z
unfolding fault may_follow in_range arc_in_range
fault-from-least e r next left c x y z w h = go (in_range e (reading_of r (arcs_in next)) c x y z) refl
  where
    go : (g : Bool) → in_range e (reading_of r (arcs_in next)) c x y z ≡ g →
        first_fault r.ended (unknown e c) (may_follow (reading_of r []) c) (ltb left (width e c)) g (rises_in r c x y)
        ≡ first_fault r.ended (unknown e c) (may_follow (reading_of r (arcs_in next)) c) (ltb left (width e c)) g (rises (reading_of r (arcs_in next)) c x y)
    go true g = ap (first_fault r.ended (unknown e c) (may_follow (reading_of r []) c) (ltb left (width e c)) true) (from-least e r next c x y z w h g)
    go false g = ranged-first r.ended (unknown e c) (may_follow (reading_of r []) c) (ltb left (width e c)) _ _

-- the table with one more arc, whose pair rises
module _ (next : List ℕ) (least k t : ℕ) (h : Holds next least) (rises : least ≤ k) (fits : k < pair_count) where
  stored : get_or (set next k (suc t)) k 0 ≡ suc t
  stored = get_or-set_same next k (suc t) 0 (omega (arith, h.size))

  pub holds-add : Holds (set next k (suc t)) (suc k)
  holds-add = record {
    size = length-set next k (suc t) ∙ h.size;
    within = fits;
    above = λ j i. get_or-set_other next k j (suc t) 0 (omega arith) ∙ h.above j (omega arith);
    below = λ m e z. absurd (suc-ne-zero t (sym stored ∙ ap (λ (i : ℕ). get_or (set next k (suc t)) i 0) (suc_inj e) ∙ z));
  }

  pub arcs-add : arcs_in (set next k (suc t)) ≡ arcs_in next ++ (arc_of k t ∷ [])
  arcs-add =
      arcs-held (set next k (suc t)) (suc k) holds-add
      ∙ ap₂ (λ (as' : List Arc) (v : ℕ). as' ++ arc_at k v) (arcs-set next k (suc t) k (omega arith)) stored
      ∙ ap (λ (as' : List Arc). as' ++ (arc_of k t ∷ []))
      (ap (arcs_below next) (sym (add-sub_of_le rises)) ∙ arcs-above next least (k - least) h.above ∙ sym (arcs-held next least h))

-- ---- the next state

-- the state and the label of a pair, by its place
module _ (s l : ℕ) (h : l < label_count) where
  pub pair_state : (s * label_count + l) / label_count ≡ s
  pair_state = omega arith

  pub pair_label : (s * label_count + l) % label_count ≡ l
  pair_label = omega arith

-- a pair is told by its place
pair_place : (n s l : ℕ) → l < label_count → (eqb (n / label_count) s && eqb (n % label_count) l) ≡ eqb n (s * label_count + l)
pair_place n s l h = go (eqb (n / label_count) s) (eqb (n % label_count) l) refl refl
  where
    go : (a b : Bool) → eqb (n / label_count) s ≡ a → eqb (n % label_count) l ≡ b → (a && b) ≡ eqb n (s * label_count + l)
    go true true p q = sym (eq-eqb n (s * label_count + l) (omega (arith, eqb-true)))
    go true false p q = sym (ne_eqb n (s * label_count + l) (λ e. eqb-false (n % label_count) l q (omega arith)))
    go false b p q = sym (ne_eqb n (s * label_count + l) (λ e. eqb-false (n / label_count) s p (omega arith)))

cond_same : (b : Bool) (o : Option ℕ) → o ≡ cond b o o
cond_same true o = refl
cond_same false o = refl

next-at : (n v s l : ℕ) → l < label_count → next_in (arc_at n v) s l ≡ cond (eqb n (s * label_count + l)) (next_of v) none
next-at n zero s l h = cond_same (eqb n (s * label_count + l)) none
next-at n (suc t) s l h = ap (λ (b : Bool). cond b (some t) none) (pair_place n s l h)

-- a pair's entry is its next state
next-below : (next : List ℕ) (n s l : ℕ) → l < label_count →
    next_in (arcs_below next n) s l ≡ cond (ltb (s * label_count + l) n) (next_of (get_or next (s * label_count + l) 0)) none
next-below next zero s l h = ap (λ (b : Bool). cond b (next_of (get_or next (s * label_count + l) 0)) none) (sym (le-ltb (s * label_count + l) 0 (omega arith)))
next-below next (suc n) s l h =
    next-append (arcs_below next n) (arc_at n (get_or next n 0)) s l
    ∙ ap₂ or_else (next-below next n s l h) (next-at n (get_or next n 0) s l h)
    ∙ go (ltb k n) (eqb n k) (ltb k (suc n)) refl refl refl
  where
    k : ℕ
    k = s * label_count + l

    go : (a b c : Bool) → ltb k n ≡ a → eqb n k ≡ b → ltb k (suc n) ≡ c →
        or_else (cond a (next_of (get_or next k 0)) none) (cond b (next_of (get_or next n 0)) none) ≡ cond c (next_of (get_or next k 0)) none
    go true true c p q r = absurd (omega (arith, ltb-true, eqb-true))
    go true false true p q r = or_else-none (next_of (get_or next k 0))
    go true false false p q r = absurd (omega (arith, ltb-true, ltb-false))
    go false true true p q r = ap (λ (i : ℕ). next_of (get_or next i 0)) (eqb-true _ _ q)
    go false true false p q r = absurd (omega (arith, ltb-false, eqb-true))
    go false false true p q r = absurd (eqb-false n k q (omega (arith, ltb-false, ltb-true)))
    go false false false p q r = refl

pub next_in_table : (next : List ℕ) (s l : ℕ) → s < max_states → l < label_count → next_in (arcs_in next) s l ≡ next_of (get_or next (s * label_count + l) 0)
unfolding arcs_in
next_in_table next s l hs hl =
    next-below next pair_count s l hl
    ∙ ap (λ (b : Bool). cond b (next_of (get_or next (s * label_count + l) 0)) none) (lt-ltb (s * label_count + l) pair_count (omega arith))

-- an entry that is not 0
pub next-some : (to : ℕ) → 0 < to → next_of to ≡ some (to - 1)
next-some zero h = absurd (omega arith)
next-some (suc t) h = let e : t ≡ suc t - 1 = omega arith in ap some e

-- a label past the table's is not admitted
next_past : (next : List ℕ) (n s l : ℕ) → label_count ≤ l → next_in (arcs_below next n) s l ≡ none
next_past next zero s l h = refl
next_past next (suc n) s l h =
    next-append (arcs_below next n) (arc_at n (get_or next n 0)) s l
    ∙ ap₂ or_else (next_past next n s l h) (here (get_or next n 0))
  where
    no : (eqb (n / label_count) s && eqb (n % label_count) l) ≡ false
    no = ap (λ (b : Bool). eqb (n / label_count) s && b) (ne_eqb (n % label_count) l (omega arith)) ∙ and-false (eqb (n / label_count) s)

    here : (v : ℕ) → next_in (arc_at n v) s l ≡ none
    here zero = refl
    here (suc t) = ap (λ (b : Bool). cond b (some t) none) no

pub next_past_table : (next : List ℕ) (s l : ℕ) → label_count ≤ l → next_in (arcs_in next) s l ≡ none
unfolding arcs_in
next_past_table next s l h = next_past next pair_count s l h

-- what was read, where the answer is known
pub read_as : {r u : rust.Result Plan Fault} {a : model.PlanAnswer} → answer_of r ≡ a → r ≡ u → a ≡ answer_of u
read_as e k = sym e ∙ ap answer_of k
