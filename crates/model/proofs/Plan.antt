-- Laws of the reading of plan bytes: one command at a time, what a command without a fault is, and what a lock does.
-- Assumes nothing.
use mathlib.Core.Path.{◌≡◌, refl, sym, ap, ap₂, subst, ◌∙◌}
use mathlib.Core.Bool.{Bool, true, false, cond, not, ◌&&◌, ◌||◌, and-false, false≢true}
use mathlib.Core.List.Memᴰ
use mathlib.Core.List.{List, [], ◌∷◌, ◌++◌, map, append_assoc, Memᴰ}
use mathlib.Core.Logic.{◌⊎◌, inl, inr, ⊎_elim}
use mathlib.Core.Option.{Option, none, some}
use Prim.Native.Nat.{ℕ, zero, suc, ◌+◌, ◌-◌, ◌*◌, ◌^◌, ◌≤◌, ◌<◌}
use native.Mathlib.Nat.{add-zero, mul-suc, not-suc-le-zero}
use native.Mathlib.Omega.{arith}
use borrow.Author.Tests.{ltb-true, ltb-false, leb-true, eqb-true, le-leb, lt-leb, not-true, not-false}
use lib.Dec.{eqb, ltb, leb}
use lib.ListN.{length, get_or, drop, set, length-append, length-drop}
use lib.Seq.{drop-cons, drop-drop, get_or-drop, get_or-append_seam, set-append_seam}
use Rattle.model.specs.Plan.{Task, Arc, is_arc, next_in, Reading, read_commands, read_from, refused_or, first_fault, fault, after, width, last_operand, at_end, may_follow, any_locked, in_range, arc_in_range, rises, rising, pair_below, between, unknown, is_zero, with_lock, lock_at}
use Rattle.model.specs.Edition.{Edition, first_edition, long_reads, WideEnough, task_width}
use Rattle.model.specs.Limits.{max_tasks, max_states}
use Rattle.model.specs.Lists.{flat_map}
use Rattle.model.specs.PlanBytes.{lock_bytes}

pub both : (a b : Bool) → (a && b) ≡ true → (a ≡ true) × (b ≡ true)
both true b h = (refl, h)
both false b h = absurd (false≢true h)

-- of two tests neither holds
pub or_neither : (a b : Bool) → (a || b) ≡ false → (a ≡ false) × (b ≡ false)
or_neither true b h = absurd (false≢true (sym h))
or_neither false b h = (refl, h)

-- ---- a number within bounds

module _ (low n high : ℕ) where
  pub between-below : n < low → between low n high ≡ false
  between-below h = ap (λ (b : Bool). b && leb n high) (lt-leb low n h)

  pub between-above : high < n → between low n high ≡ false
  between-above h = ap (λ (b : Bool). leb low n && b) (lt-leb n high h) ∙ and-false (leb low n)

  pub between-inside : low ≤ n → n ≤ high → between low n high ≡ true
  between-inside h k = ap₂ (λ (a b : Bool). a && b) (le-leb low n h) (le-leb n high k)

-- ---- editions

-- what the bytes of each edition hold
pub first_wide : WideEnough first_edition
first_wide = record { values = omega arith; masks = omega arith }

pub long_wide : WideEnough long_reads
long_wide = record { values = omega arith; masks = omega arith }

-- ---- commands

-- an operand, from the command's place
pub operand : (s : List ℕ) (at k j : ℕ) → suc at + k ≡ at + j → get_or (drop (suc at) s) k 0 ≡ get_or s (at + j) 0
operand s at k j e = get_or-drop (suc at) s k 0 ∙ ap (λ (i : ℕ). get_or s i 0) e

module _ (e : Edition) where
  -- every command takes a byte
  pub width-pos : (c : ℕ) → 1 ≤ width e c
  unfolding width
  width-pos c = go (eqb c 1) (eqb c 4) (eqb c 5)
    where
      go : (a b d : Bool) → 1 ≤ cond a (task_width e) (cond b 4 (cond d 1 2))
      go true b d = omega arith
      go false true d = omega arith
      go false false true = omega arith
      go false false false = omega arith

  -- turns to spare change nothing
  fuel : (n m : ℕ) (bs : List ℕ) (r : Reading) → length bs < n → length bs < m → read_commands e n bs r ≡ read_commands e m bs r
  fuel zero m bs r h k = absurd (not-suc-le-zero h)
  fuel (suc n) zero bs r h k = absurd (not-suc-le-zero k)
  fuel (suc n) (suc m) [] r h k = refl
  fuel (suc n) (suc m) (c ∷ bs) r h k =
      ap (refused_or (fault e r (length (c ∷ bs)) c (get_or bs 0 0) (get_or bs 1 0) (last_operand e c bs)))
      (fuel n m (drop (width e c) (c ∷ bs)) (after r c (get_or bs 0 0) (get_or bs 1 0) (last_operand e c bs))
      (omega (arith, length-drop (width e c) (c ∷ bs), width-pos c))
      (omega (arith, length-drop (width e c) (c ∷ bs), width-pos c)))

  pub read_from-nil : (r : Reading) → read_from e [] r ≡ at_end r
  unfolding read_from
  read_from-nil r = refl

  pub read_from-cons : (c : ℕ) (bs : List ℕ) (r : Reading) →
      read_from e (c ∷ bs) r
      ≡ refused_or (fault e r (length (c ∷ bs)) c (get_or bs 0 0) (get_or bs 1 0) (last_operand e c bs))
      (read_from e (drop (width e c) (c ∷ bs)) (after r c (get_or bs 0 0) (get_or bs 1 0) (last_operand e c bs)))
  unfolding read_from
  read_from-cons c bs r =
      ap (refused_or (fault e r (length (c ∷ bs)) c (get_or bs 0 0) (get_or bs 1 0) (last_operand e c bs)))
      (fuel (suc (length bs)) (suc (length (drop (width e c) (c ∷ bs)))) (drop (width e c) (c ∷ bs)) (after r c (get_or bs 0 0) (get_or bs 1 0) (last_operand e c bs))
      (omega (arith, length-drop (width e c) (c ∷ bs), width-pos c))
      (omega arith))

  -- the command at a place: its fault, or what is read past it
  pub read_from-at : (s : List ℕ) (at : ℕ) (r : Reading) → at < length s →
      read_from e (drop at s) r
      ≡ refused_or (fault e r (length s - at) (get_or s at 0) (get_or s (at + 1) 0) (get_or s (at + 2) 0) (last_operand e (get_or s at 0) (drop (suc at) s)))
      (read_from e (drop (at + width e (get_or s at 0)) s) (after r (get_or s at 0) (get_or s (at + 1) 0) (get_or s (at + 2) 0) (last_operand e (get_or s at 0) (drop (suc at) s))))
  read_from-at s at r h =
      let split : drop at s ≡ get_or s at 0 ∷ drop (suc at) s = drop-cons s at 0 h in
      let left : length (drop at s) ≡ length s - at = length-drop at s in
      let rest : drop (width e (get_or s at 0)) (drop at s) ≡ drop (at + width e (get_or s at 0)) s = drop-drop (width e (get_or s at 0)) at s in
      let x : get_or (drop (suc at) s) 0 0 ≡ get_or s (at + 1) 0 = operand s at 0 1 (omega arith) in
      let y : get_or (drop (suc at) s) 1 0 ≡ get_or s (at + 2) 0 = operand s at 1 2 (omega arith) in
      cc (read_from-cons (get_or s at 0) (drop (suc at) s) r, ap length split)

-- what a command without a fault is
pub record Passes (e : Edition) (r : Reading) (c x y z : ℕ) : Type 0 where
  pub going : r.ended ≡ false
  pub known : unknown e c ≡ false
  pub follows : may_follow r c ≡ true
  pub ranged : in_range e r c x y z ≡ true
  pub above : rises r c x y ≡ true

none_fails : (e u f s g p : Bool) → first_fault e u f s g p ≡ 0 →
    (e ≡ false) × (u ≡ false) × (f ≡ true) × (s ≡ false) × (g ≡ true) × (p ≡ true)
unfolding first_fault
none_fails true u f s g p h = absurd (omega arith)
none_fails false true f s g p h = absurd (omega arith)
none_fails false false false s g p h = absurd (omega arith)
none_fails false false true true g p h = absurd (omega arith)
none_fails false false true false false p h = absurd (omega arith)
none_fails false false true false true false h = absurd (omega arith)
none_fails false false true false true true h = (refl, refl, refl, refl, refl, refl)

-- an operand out of range is told before pairs are compared
pub ranged-first : (e u f s p p' : Bool) → first_fault e u f s false p ≡ first_fault e u f s false p'
unfolding first_fault
ranged-first e u f s p p' = refl

module _ (e : Edition) (r : Reading) (left c x y z : ℕ) where
  pub fault-none : fault e r left c x y z ≡ 0 → Passes e r c x y z × (width e c ≤ left)
  unfolding fault
  fault-none h =
      let t = none_fails r.ended (unknown e c) (may_follow r c) (ltb left (width e c)) (in_range e r c x y z) (rises r c x y) h in
      (record { going = t.0; known = t.1; follows = t.2; ranged = t.4; above = t.5 }, ltb-false _ _ t.3)

-- a lock in range
pub lock-ranged : (e : Edition) (r : Reading) (c i y z : ℕ) → c ≡ 9 → in_range e r c i y z ≡ true → (1 ≤ i) × (i ≤ length r.tasks)
unfolding in_range
lock-ranged e r c i y z is h =
    let two = both (leb 1 i) (leb i (length r.tasks)) (simp is at h) in (leb-true _ _ two.0, leb-true _ _ two.1)

-- an arc in range
pub arc_ranged : (e : Edition) (r : Reading) (c s l t : ℕ) → c ≡ 4 → in_range e r c s l t ≡ true → (s < r.states) × (l < 2 ^ length r.tasks) × (t < r.states)
unfolding in_range arc_in_range
arc_ranged e r c s l t is h =
    let all : (ltb s r.states && ltb l (2 ^ length r.tasks) && ltb t r.states) ≡ true = simp is at h in
    let two = both _ _ all in
    let one = both _ _ two.0 in
    (ltb-true _ _ one.0, ltb-true _ _ one.1, ltb-true _ _ two.1)

-- a task may follow where there is room for it
pub task_follows : (r : Reading) (c : ℕ) → c ≡ 1 → may_follow r c ≡ true → length r.tasks < max_tasks
unfolding may_follow
task_follows r c e h =
    let two = both (is_zero r.policy && ltb (length r.tasks) max_tasks) (not (any_locked r.tasks)) (simp e at h) in
    ltb-true _ _ (both (is_zero r.policy) (ltb (length r.tasks) max_tasks) two.0).1

-- a number of states in range
pub states-ranged : (e : Edition) (r : Reading) (c m y z : ℕ) → c ≡ 3 → in_range e r c m y z ≡ true → m ≤ max_states
unfolding in_range
states-ranged e r c m y z is h =
    leb-true _ _ (both (leb 1 m) (leb m max_states) (simp is at h)).1

-- the last arc decides whether a pair rises
pub rising-last : (as' : List Arc) (a : Arc) (s l : ℕ) → rising (as' ++ (a ∷ [])) s l ≡ pair_below a s l
rising-last [] a s l = refl
rising-last (b ∷ []) a s l = refl
rising-last (b ∷ d ∷ as') a s l = rising-last (d ∷ as') a s l

-- ---- the known commands

-- a known command is one of five, or a lock in an edition that has it
pub known_is : (e : Edition) (c : ℕ) → unknown e c ≡ false → ((1 ≤ c) × (c ≤ 5)) ⊎ ((c ≡ 9) × (e.locks ≡ true))
known_is e c h = go (between 1 c 5) refl (not-false (between 1 c 5 || (e.locks && eqb c 9)) h)
  where
    go : (b : Bool) → between 1 c 5 ≡ b → (b || (e.locks && eqb c 9)) ≡ true → ((1 ≤ c) × (c ≤ 5)) ⊎ ((c ≡ 9) × (e.locks ≡ true))
    go true is k = let two = both (leb 1 c) (leb c 5) is in inl (leb-true 1 c two.0, leb-true c 5 two.1)
    go false is k = let two = both e.locks (eqb c 9) k in inr (eqb-true c 9 two.1, two.0)

-- what holds of each known command holds of a known one
pub by_command {ℓ} : (B : ℕ → Type ℓ) (e : Edition) (c : ℕ) → unknown e c ≡ false → B 1 → B 2 → B 3 → B 4 → B 5 → (e.locks ≡ true → B 9) → B c
by_command B e c h task policy states arc end lock =
    ⊎_elim (λ k. five c k.0 k.1) (λ k. subst B (sym k.0) (lock k.1)) (known_is e c h)
  where
    five : (n : ℕ) → 1 ≤ n → n ≤ 5 → B n
    five zero l k = absurd (omega arith)
    five (suc zero) l k = task
    five (suc (suc zero)) l k = policy
    five (suc (suc (suc zero))) l k = states
    five (suc (suc (suc (suc zero)))) l k = arc
    five (suc (suc (suc (suc (suc zero))))) l k = end
    five (suc (suc (suc (suc (suc (suc n)))))) l k = absurd (omega arith)

-- ---- locks

-- a lock is a write at the task's place
pub lock_at-set : (ts : List Task) (i : ℕ) (d : Task) → lock_at ts i ≡ set ts i (with_lock true (get_or ts i d))
lock_at-set [] i d = refl
lock_at-set (t ∷ ts) zero d = refl
lock_at-set (t ∷ ts) (suc i) d = ap (λ l. t ∷ l) (lock_at-set ts i d)

-- it keeps how many tasks there are
pub lock_at-length : (ts : List Task) (i : ℕ) → length (lock_at ts i) ≡ length ts
lock_at-length [] i = refl
lock_at-length (t ∷ ts) zero = refl
lock_at-length (t ∷ ts) (suc i) = ap suc (lock_at-length ts i)

-- what a lock keeps of a task holds of each
pub lock_at-each {κ} : {B : Task → Type κ} → ((t : Task) → B t → B (with_lock true t)) →
    (ts : List Task) (i : ℕ) → ((t : Task) → Memᴰ t ts → B t) → (t : Task) → Memᴰ t (lock_at ts i) → B t
lock_at-each keeps [] i h t m = h t m
lock_at-each {B = B} keeps (u ∷ ts) zero h t m =
    ⊎_elim (λ p. subst B (sym p) (keeps u (h u (Memᴰ.head refl)))) (λ k. h t (Memᴰ.tail k)) (Memᴰ.cases_cons m)
lock_at-each {B = B} keeps (u ∷ ts) (suc i) h t m =
    ⊎_elim (λ p. subst B (sym p) (h u (Memᴰ.head refl))) (lock_at-each keeps ts i (λ a k. h a (Memᴰ.tail k)) t) (Memᴰ.cases_cons m)

-- the task behind others is locked
pub lock_at_seam : (ts : List Task) (t : Task) (us : List Task) → lock_at (ts ++ t ∷ us) (length ts) ≡ ts ++ with_lock true t ∷ us
lock_at_seam ts t us =
    lock_at-set (ts ++ t ∷ us) (length ts) t
    ∙ ap (λ u. set (ts ++ t ∷ us) (length ts) (with_lock true u)) (get_or-append_seam ts t us t) ∙ set-append_seam ts t us (with_lock true t)

-- without their locks no task is locked
pub none-locked : (ts : List Task) → any_locked (map (with_lock false) ts) ≡ false
none-locked [] = refl
none-locked (t ∷ ts) = none-locked ts

-- what does not tell of locks is kept
pub lock_at-flat_map {κ} : {B : Type κ} (f : Task → List B) → ((t : Task) → f (with_lock true t) ≡ f t) → (ts : List Task) (i : ℕ) → flat_map f (lock_at ts i) ≡ flat_map f ts
lock_at-flat_map f same [] i = refl
lock_at-flat_map f same (t ∷ ts) zero = ap (λ l. l ++ flat_map f ts) (same t)
lock_at-flat_map f same (t ∷ ts) (suc i) = ap (λ l. f t ++ l) (lock_at-flat_map f same ts i)

-- the locks of tasks behind others stand behind theirs
pub lock_bytes-append : (ts us : List Task) (i : ℕ) → lock_bytes (ts ++ us) i ≡ lock_bytes ts i ++ lock_bytes us (i + length ts)
lock_bytes-append [] us i = ap (lock_bytes us) (sym (add-zero i))
lock_bytes-append (t ∷ ts) us i =
    let own : List ℕ = cond t.locked (0x09 ∷ i ∷ []) [] in
    let next : suc i + length ts ≡ i + suc (length ts) = omega arith in
    ap (λ l. own ++ l) (lock_bytes-append ts us (suc i))
    ∙ ap (λ (n : ℕ). own ++ (lock_bytes ts (suc i) ++ lock_bytes us n)) next ∙ sym (append_assoc own (lock_bytes ts (suc i)) (lock_bytes us (i + suc (length ts))))

-- a lock is two bytes, in an edition that has locks
pub locks-few : (e : Edition) (ts : List Task) (i : ℕ) → ((t : Task) → Memᴰ t ts → t.locked ≡ true → e.locks ≡ true) →
    length (lock_bytes ts i) ≤ cond e.locks 2 0 * length ts
locks-few e [] i h = omega arith
locks-few e (t ∷ ts) i h =
    let own : List ℕ = cond t.locked (0x09 ∷ i ∷ []) [] in
    let one : length own ≤ cond e.locks 2 0 = go t.locked (h t (Memᴰ.head refl)) in
    omega (arith, one, length-append own (lock_bytes ts (suc i)), locks-few e ts (suc i) (λ u m. h u (Memᴰ.tail m)), mul-suc (cond e.locks 2 0) (length ts))
  where
    go : (b : Bool) → (b ≡ true → e.locks ≡ true) → length (cond b (0x09 ∷ i ∷ []) []) ≤ cond e.locks 2 0
    go true has = subst (λ (b : Bool). 2 ≤ cond b 2 0) (sym (has refl)) (omega arith)
    go false has = omega arith

-- tasks that are not locked have no bytes of locks
pub lock_bytes-unlocked : (ts us : List Task) (i : ℕ) → any_locked us ≡ false → lock_bytes (ts ++ us) i ≡ lock_bytes ts i
lock_bytes-unlocked [] [] i h = refl
lock_bytes-unlocked [] (u ∷ us) i h =
    let none = or_neither u.locked (any_locked us) h in
    ap (λ (b : Bool). cond b (0x09 ∷ i ∷ []) [] ++ lock_bytes us (suc i)) none.0 ∙ lock_bytes-unlocked [] us (suc i) none.1
lock_bytes-unlocked (t ∷ ts) us i h = ap (λ l. cond t.locked (0x09 ∷ i ∷ []) [] ++ l) (lock_bytes-unlocked ts us (suc i) h)

-- a lock where no task from its number on is locked comes last
pub lock_bytes-lock : (ts : List Task) (j i : ℕ) → j < length ts → any_locked (drop j ts) ≡ false → lock_bytes (lock_at ts j) i ≡ lock_bytes ts i ++ (0x09 ∷ (i + j) ∷ [])
lock_bytes-lock [] j i h k = absurd (omega (arith, h))
lock_bytes-lock (t ∷ ts) zero i h k =
    let none : lock_bytes (t ∷ ts) i ≡ [] = lock_bytes-unlocked [] (t ∷ ts) i k in
    let here : i ≡ i + 0 = omega arith in
    ap (λ l. 0x09 ∷ i ∷ l) (lock_bytes-unlocked [] ts (suc i) (or_neither t.locked (any_locked ts) k).1)
    ∙ ap (λ (n : ℕ). 0x09 ∷ n ∷ []) here ∙ ap (λ l. l ++ (0x09 ∷ (i + 0) ∷ [])) (sym none)
lock_bytes-lock (t ∷ ts) (suc j) i h k =
    let own : List ℕ = cond t.locked (0x09 ∷ i ∷ []) [] in
    let next : suc i + j ≡ i + suc j = omega arith in
    ap (λ l. own ++ l) (lock_bytes-lock ts j (suc i) (omega (arith, h)) k)
    ∙ ap (λ (n : ℕ). own ++ (lock_bytes ts (suc i) ++ (0x09 ∷ n ∷ []))) next ∙ sym (append_assoc own (lock_bytes ts (suc i)) (0x09 ∷ (i + suc j) ∷ []))

-- a lock without a fault comes last
pub lock-last : (e : Edition) (r : Reading) (x y z : ℕ) → Passes e r 9 x y z →
    lock_bytes (lock_at r.tasks (x - 1)) 1 ≡ lock_bytes r.tasks 1 ++ (0x09 ∷ x ∷ [])
unfolding in_range
lock-last e r x y z p =
    let two = both (leb 1 x) (leb x (length r.tasks)) p.ranged in
    let some : 1 ≤ x = leb-true 1 x two.0 in
    let there : x ≤ length r.tasks = leb-true x (length r.tasks) two.1 in
    let number : 1 + (x - 1) ≡ x = omega arith in
    lock_bytes-lock r.tasks (x - 1) 1 (omega arith) (not-true (any_locked (drop (x - 1) r.tasks)) p.above)
    ∙ ap (λ (n : ℕ). lock_bytes r.tasks 1 ++ (0x09 ∷ n ∷ [])) number

-- ---- the next state

abbrev pub or_else : Option ℕ → Option ℕ → Option ℕ
or_else none b = b
or_else (some t) b = some t

pub or_else-none : (a : Option ℕ) → or_else a none ≡ a
or_else-none none = refl
or_else-none (some t) = refl

-- a label is looked up among the first arcs, then among the others
pub next-append : (as' bs : List Arc) (s l : ℕ) → next_in (as' ++ bs) s l ≡ or_else (next_in as' s l) (next_in bs s l)
next-append [] bs s l = refl
next-append (a ∷ as') bs s l = go (is_arc s l a) (next-append as' bs s l)
  where
    go : (b : Bool) → next_in (as' ++ bs) s l ≡ or_else (next_in as' s l) (next_in bs s l) →
        cond b (some a.to) (next_in (as' ++ bs) s l) ≡ or_else (cond b (some a.to) (next_in as' s l)) (next_in bs s l)
    go true h = refl
    go false h = h
