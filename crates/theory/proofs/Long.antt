-- Bytes past the longest plan, labels past the most, and bytes past the longest certificate change no answer.
-- Assumes nothing.
use mathlib.Core.Path.{◌≡◌, refl, sym, ap, ◌∙◌}
use mathlib.Core.Bool.{Bool, true, false, cond, not, ◌&&◌}
use mathlib.Core.List.{List, [], ◌∷◌, ◌++◌, Memᴰ}
use mathlib.Core.Option.{Option, none, some, none-ne-some, some-injective}
use mathlib.Core.Logic.{⊎_elim}
use Prim.Native.Nat.{ℕ, zero, suc, ◌+◌, ◌-◌, ◌*◌, ◌^◌, ◌≤◌, ◌<◌}
use native.Mathlib.Nat.{lt_of_lt_of_le, mul-le-mul_left, mul-suc}
use native.Mathlib.Omega.{arith}
use borrow.Author.Tests.{lt-ltb, le-ltb, ne_eqb, leb-true, eqb-true}
use lib.Dec.{eqb, leb, ltb}
use lib.IntN.{ℤ}
use lib.ListN.{length, get_or, drop, length-append, length-drop, get_or-append}
use lib.Pow.{pow_mono}
use Rattle.model.specs.Limits.{max_tasks, max_states, max_nodes, max_steps, max_labels, certificate_room}
use Rattle.model.specs.Edition.{Edition, long_reads, task_width, plan_room_in}
use Rattle.model.specs.Lists.{one, up_from}
use Rattle.model.specs.Bytes.{number, signed, part}
use Rattle.model.specs.Certificate.{Step, Certificate, Parsed, cons_parsed, has, read_potentials, step_width, masks_at, read_steps, is_end, with_steps, with_potentials, read_certificate_in, read_certificate}
use Rattle.model.specs.Plan.{Task, Plan, Arc, Reading, nothing_read, is_zero, width, may_follow, in_range, first_fault, fault, lock_at, after, last_operand, refused_or, read_from, read_plan_in, unknown, rises}
use Rattle.model.specs.PlanBytes.{lock_bytes}
use Rattle.model.specs.Refusals.{too_many_labels, not_admitted}
use Rattle.model.specs.Schedule.{admits}
use Rattle.model.specs.Calls.{refuses, writes}
use Rattle.model.specs.Trace.{slots, trace_run}
use lib.Seq.{get_or-drop}
use Rattle.model.proofs.Lists.{map_same, mem-of-up_from}
use Rattle.model.proofs.Plan.{both, width-pos, read_from-at, fault-none, Passes, by_command, lock_at-length, locks-few, lock_bytes-unlocked, lock-last}
use Rattle.model.proofs.Tests.{one-le, cond-some}
use Rattle.theory.proofs.Reread.{cons-some}
use Rattle.theory.proofs.Sound.{ArcsRise, Before, Held, held-nothing, held_after}

-- the labels of a state, and the pairs of a state and a label
abbrev label_count : ℕ
label_count = 2 ^ max_tasks

abbrev pair_count : ℕ
pair_count = max_states * label_count

-- the bytes of the commands read so far
abbrev size : Edition → Reading → ℕ
size e r =
    task_width e * length r.tasks + length (lock_bytes r.tasks 1) + 2 * one (not (is_zero r.policy)) + 2 * one (not (is_zero r.states)) + 4 * length r.arcs + one r.ended

abbrev place : Arc → ℕ
place a = a.from * label_count + a.label

-- rising pairs rise in their places
before-place : (a b : Arc) → a.label < label_count → Before a b → place a < place b
before-place a b h o = ⊎_elim (λ l. omega arith) (λ e. omega (arith, e.0, e.1)) o

-- so there are no more than places
rise_count : (a : Arc) (as' : List Arc) (k : ℕ) → ArcsRise (a ∷ as') →
    ((b : Arc) → Memᴰ b (a ∷ as') → (place b < pair_count) × (b.label < label_count)) → k ≤ place a → k + length (a ∷ as') ≤ pair_count
rise_count a [] k r h low = omega (arith, (h a (Memᴰ.head refl)).0)
rise_count a (b ∷ as') k r h low =
    let up : place a < place b = before-place a b (h a (Memᴰ.head refl)).1 r.0 in
    let rest : suc k + length (b ∷ as') ≤ pair_count = rise_count b as' (suc k) r.1 (λ c m. h c (Memᴰ.tail m)) (omega arith) in
    omega arith

pub arcs-few : {e : Edition} (r : Reading) → Held e r → length r.arcs ≤ pair_count
arcs-few r h = go r.arcs h.rise each
  where
    each : (b : Arc) → Memᴰ b r.arcs → (place b < pair_count) × (b.label < label_count)
    each b m =
        let s = h.arc b m in
        let low : b.label < label_count = lt_of_lt_of_le s.label_below (pow_mono h.tasks_fit) in
        let from : b.from < max_states = lt_of_lt_of_le s.from_below h.states_fit in
        (omega arith, low)

    go : (as' : List Arc) → ArcsRise as' → ((b : Arc) → Memᴰ b as' → (place b < pair_count) × (b.label < label_count)) → length as' ≤ pair_count
    go [] r e = omega arith
    go (a ∷ as') r e = omega (arith, rise_count a as' 0 r e (omega arith))

-- what is read is never longer than the longest plan
size-most : (e : Edition) (r : Reading) → Held e r → size e r ≤ plan_room_in e
size-most e r h =
    let tasks : task_width e * length r.tasks ≤ task_width e * max_tasks = mul-le-mul_left (task_width e) h.tasks_fit in
    let each : ℕ = cond e.locks 2 0 in
    omega (arith, arcs-few r h, locks-few e r.tasks 1 (λ t m. (h.task t m).lock_fits), mul-le-mul_left each h.tasks_fit, one-le (not (is_zero r.policy)), one-le (not (is_zero r.states)), one-le r.ended)

-- no command is longer than a task's or four bytes
abbrev pub widest : Edition → ℕ
widest e = 1 + task_width e

pub width-most : (e : Edition) (c : ℕ) → width e c ≤ widest e
unfolding width
width-most e c = go (eqb c 1) (eqb c 4) (eqb c 5)
  where
    go : (a b d : Bool) → cond a (task_width e) (cond b 4 (cond d 1 2)) ≤ widest e
    go true b d = omega arith
    go false true d = omega arith
    go false false true = omega arith
    go false false false = omega arith

-- nothing given counts for nothing, and a number from 1 for one
given-none : (n : ℕ) → is_zero n ≡ true → one (not (is_zero n)) ≡ 0
given-none n h = ap (λ (b : Bool). one (not b)) h

given-some : (n : ℕ) → leb 1 n ≡ true → one (not (is_zero n)) ≡ 1
given-some n h = ap (λ (b : Bool). one (not b)) (ne_eqb n 0 (omega (arith, leb-true)))

module _ (e : Edition) (r : Reading) (x y z : ℕ) where
  -- the command c, without a fault, adds its bytes
  abbrev Adds : ℕ → Type 0
  Adds c = Passes e r c x y z → width e c + size e r ≤ size e (after r c x y z)

  -- a task
  adds_task : Adds 1
  unfolding width after
  adds_task p =
      let t : Task = record { work = x; window = y; value = z; locked = false } in
      let more : length (r.tasks ++ (t ∷ [])) ≡ suc (length r.tasks) = omega (arith, length-append r.tasks (t ∷ [])) in
      let unlocked : length (lock_bytes (r.tasks ++ (t ∷ [])) 1) ≡ length (lock_bytes r.tasks 1) = ap length (lock_bytes-unlocked r.tasks (t ∷ []) 1 refl) in
      omega (arith, ap one p.going, ap (λ (n : ℕ). task_width e * n) more, mul-suc (task_width e) (length r.tasks))

  -- the policy
  adds_policy : Adds 2
  unfolding width after may_follow in_range
  adds_policy p =
      let free = both (is_zero r.policy) (not (is_zero (length r.tasks))) p.follows in
      let some = both (leb 1 x) (leb x 4) p.ranged in
      omega (arith, ap one p.going, given-none r.policy free.0, given-some x some.0)

  -- the number of states
  adds_states : Adds 3
  unfolding width after may_follow in_range
  adds_states p =
      let free = both (not (is_zero r.policy)) (is_zero r.states) p.follows in
      let some = both (leb 1 x) (leb x max_states) p.ranged in
      omega (arith, ap one p.going, given-none r.states free.1, given-some x some.0)

  -- an arc
  adds_arc : Adds 4
  unfolding width after
  adds_arc p = omega (arith, ap one p.going, length-append r.arcs (record { from = x; label = y; to = z } ∷ []))

  -- the end
  adds_end : Adds 5
  unfolding width after
  adds_end p = omega (arith, ap one p.going)

  -- a lock
  adds_lock : Adds 9
  unfolding width after
  adds_lock p =
      let same : task_width e * length (lock_at r.tasks (x - 1)) ≡ task_width e * length r.tasks = ap (λ (n : ℕ). task_width e * n) (lock_at-length r.tasks (x - 1)) in
      omega (arith, ap one p.going, ap length (lock-last e r x y z p), length-append (lock_bytes r.tasks 1) (0x09 ∷ x ∷ []))

  -- a command without a fault adds its bytes
  size-after : (c : ℕ) → Passes e r c x y z → width e c + size e r ≤ size e (after r c x y z)
  size-after c p = by_command Adds e c p.known adds_task adds_policy adds_states adds_arc adds_end (λ has. adds_lock) p

-- where the bytes of the longest command follow, more of them change no fault
same-fault : (e : Edition) (r : Reading) (m n c x y z : ℕ) → widest e ≤ m → widest e ≤ n → fault e r m c x y z ≡ fault e r n c x y z
unfolding fault
same-fault e r m n c x y z hm hn =
    ap (λ (b : Bool). first_fault r.ended (unknown e c) (may_follow r c) b (in_range e r c x y z) (rises r c x y))
    (le-ltb m (width e c) (omega (arith, width-most e c)) ∙ sym (le-ltb n (width e c) (omega (arith, width-most e c))))

-- the last operand is of the bytes of the longest command
same-last : (e : Edition) (c : ℕ) (l m : List ℕ) → ((i : ℕ) → suc i < widest e → get_or l i 0 ≡ get_or m i 0) → last_operand e c l ≡ last_operand e c m
unfolding last_operand
same-last e c l m h =
    ap number (map_same (λ i. get_or l i 0) (λ i. get_or m i 0) (up_from 2 (width e c - 3))
    (λ i k. h i (omega (arith, (mem-of-up_from 2 (width e c - 3) k).0, (mem-of-up_from 2 (width e c - 3) k).1, width-most e c))))

-- from a place on, bytes past the longest plan change nothing
long-from : (e : Edition) (n at : ℕ) (bs more : List ℕ) (r : Reading) → plan_room_in e < at + n → at ≤ size e r → Held e r → plan_room_in e + widest e ≤ length bs →
    read_from e (drop at (bs ++ more)) r ≡ read_from e (drop at bs) r
long-from e zero at bs more r f a h l = absurd (omega (arith, size-most e r h))
long-from e (suc n) at bs more r f a h l =
    read_from-at e (bs ++ more) at r (omega (arith, length-append bs more, size-most e r h))
    ∙ (λ i. refused_or (fault e r (length (bs ++ more) - at) (c i) (x i) (y i) (last (c i))) (read_from e (drop (at + width e (c i)) (bs ++ more)) (after r (c i) (x i) (y i) (last (c i)))))
    ∙ ap (λ (v : ℕ). refused_or (fault e r (length (bs ++ more) - at) c₀ x₀ y₀ v) (read_from e (drop (at + width e c₀) (bs ++ more)) (after r c₀ x₀ y₀ v))) z
    ∙ go (fault e r (length bs - at) c₀ x₀ y₀ z₀) refl
    (λ p. long-from e n (at + width e c₀) bs more (after r c₀ x₀ y₀ z₀)
    (omega (arith, width-pos e c₀)) (omega (arith, size-after e r x₀ y₀ z₀ c₀ p)) (held_after e r h x₀ y₀ z₀ c₀ p) l)
    ∙ sym (read_from-at e bs at r (omega (arith, size-most e r h)))
  where
    byte : (j : ℕ) → j < at + widest e → get_or (bs ++ more) j 0 ≡ get_or bs j 0
    byte j k = get_or-append bs more 0 j (omega (arith, size-most e r h))

    last : ℕ → ℕ
    last k = last_operand e k (drop (suc at) (bs ++ more))

    c₀ : ℕ
    c₀ = get_or bs at 0

    x₀ : ℕ
    x₀ = get_or bs (at + 1) 0

    y₀ : ℕ
    y₀ = get_or bs (at + 2) 0

    z₀ : ℕ
    z₀ = last_operand e c₀ (drop (suc at) bs)

    c : get_or (bs ++ more) at 0 ≡ c₀
    c = byte at (omega arith)

    x : get_or (bs ++ more) (at + 1) 0 ≡ x₀
    x = byte (at + 1) (omega arith)

    y : get_or (bs ++ more) (at + 2) 0 ≡ y₀
    y = byte (at + 2) (omega arith)

    z : last c₀ ≡ z₀
    z = same-last e c₀ (drop (suc at) (bs ++ more)) (drop (suc at) bs)
        (λ i k. get_or-drop (suc at) (bs ++ more) i 0 ∙ byte (suc at + i) (omega arith) ∙ sym (get_or-drop (suc at) bs i 0))

    next : Reading
    next = after r c₀ x₀ y₀ z₀

    far : fault e r (length (bs ++ more) - at) c₀ x₀ y₀ z₀ ≡ fault e r (length bs - at) c₀ x₀ y₀ z₀
    far = same-fault e r (length (bs ++ more) - at) (length bs - at) _ _ _ _ (omega (arith, length-append bs more, size-most e r h)) (omega (arith, size-most e r h))

    go : (k : ℕ) → fault e r (length bs - at) c₀ x₀ y₀ z₀ ≡ k →
        (Passes e r c₀ x₀ y₀ z₀ → read_from e (drop (at + width e c₀) (bs ++ more)) next ≡ read_from e (drop (at + width e c₀) bs) next) →
        refused_or (fault e r (length (bs ++ more) - at) c₀ x₀ y₀ z₀) (read_from e (drop (at + width e c₀) (bs ++ more)) next)
        ≡ refused_or (fault e r (length bs - at) c₀ x₀ y₀ z₀) (read_from e (drop (at + width e c₀) bs) next)
    go zero is later =
        (λ i. refused_or (far i) (later (fault-none e r (length bs - at) _ _ _ _ is).0 i))
    go (suc k) is later =
        ap (λ (m : ℕ). refused_or m (read_from e (drop (at + width e c₀) (bs ++ more)) next)) (far ∙ is)
        ∙ sym (ap (λ (m : ℕ). refused_or m (read_from e (drop (at + width e c₀) bs) next)) is)

-- a plan's answer is settled where the longest command has room past the longest plan
pub long-plan : (e : Edition) (bs more : List ℕ) → plan_room_in e + widest e ≤ length bs → read_plan_in e (bs ++ more) ≡ read_plan_in e bs
unfolding read_plan_in
long-plan e bs more l = long-from e (suc (plan_room_in e)) 0 bs more nothing_read (omega arith) (omega arith) (held-nothing e) l

-- labels past the most change nothing
pub long-labels : (P : Plan) (ls more : List ℕ) → max_labels < length ls → trace_run P (ls ++ more) ≡ trace_run P ls
unfolding trace_run
long-labels P ls more h = many (ls ++ more) (omega (arith, length-append ls more)) ∙ sym (many ls h)
  where
    many : (l : List ℕ) → max_labels < length l → trace_run P l ≡ refuses too_many_labels
    many l h = ap (λ (b : Bool). cond b (refuses too_many_labels) (cond (admits P l) (writes (slots P none [] l)) (refuses not_admitted))) (lt-ltb max_labels (length l) h)

-- ---- certificates

-- so many potentials take nine bytes each
potentials-size : (n : ℕ) (bs : List ℕ) (r : Parsed (List ℤ)) → read_potentials n bs ≡ some r → length bs ≤ 9 * n + length r.rest
unfolding read_potentials
potentials-size zero bs r e = omega (arith, ap (λ s. length s.rest) (some-injective _ _ e))
potentials-size (suc n) bs r e =
    let more = read_potentials n (drop 9 bs) in
    let t = cons-some (signed (number (part bs 1 8))) more r (cond-some (has bs 0x12 9) _ e).1 in
    omega (arith, length-drop 9 bs, potentials-size n (drop 9 bs) t.0 t.1, ap (λ s. length s.rest) t.2)

module _ (e : Edition) where
  -- up to so many steps take no more than their bytes each
  steps-size : (n : ℕ) (bs : List ℕ) (r : Parsed (List Step)) → read_steps e n bs ≡ some r → length bs ≤ step_width e * n + length r.rest
  unfolding read_steps
  steps-size zero bs r h = omega (arith, ap (λ s. length s.rest) (some-injective _ _ h))
  steps-size (suc n) bs r h = by (eqb (get_or bs 0 0) 0x14) h (steps-size n (drop (step_width e) bs))
    where
      s : Step
      s = record { label = get_or bs 1 0; masks = masks_at e bs }

      more : Option (Parsed (List Step))
      more = read_steps e n (drop (step_width e) bs)

      by : (b : Bool) → cond b (cond (leb (step_width e) (length bs)) (cons_parsed s more) none) (some (record { value = []; rest = bs })) ≡ some r →
          ((t : Parsed (List Step)) → more ≡ some t → length (drop (step_width e) bs) ≤ step_width e * n + length t.rest) →
          length bs ≤ step_width e * suc n + length r.rest
      by true k later =
          let t = cons-some s more r (cond-some (leb (step_width e) (length bs)) (cons_parsed s more) k).1 in
          omega (arith, mul-suc (step_width e) n, length-drop (step_width e) bs, later t.0 t.1, ap (λ u. length u.rest) t.2)
      by false k later = omega (arith, ap (λ u. length u.rest) (some-injective _ _ k))

-- `15` end is one byte
end-size : (bs : List ℕ) → is_end bs ≡ true → length bs ≡ 1
end-size bs h = eqb-true (length bs) 1 (both (eqb (length bs) 1) (eqb (get_or bs 0 0) 0x15) h).0

module _ (e : Edition) (p q : ℕ) (zs : List ℤ) (c : Certificate) where
  -- the steps of a cycle, and the end
  cycle-size : (v : ℕ) (bs : List ℕ) (o : Option (Parsed (List Step))) → read_steps e max_steps bs ≡ o → with_steps p q zs v o ≡ some c →
      length bs ≤ step_width e * max_steps + 1
  cycle-size v bs none h f = absurd (none-ne-some c f)
  cycle-size v bs (some r) h f =
      let two = both (is_end r.rest) (ltb 0 (length r.value)) (cond-some (is_end r.rest && ltb 0 (length r.value)) _ f).0 in
      omega (arith, steps-size e max_steps bs r h, end-size r.rest two.0)

  -- what follows the potentials
  rest-size : (bs : List ℕ) → with_potentials e p q (some (record { value = zs; rest = bs })) ≡ some c → length bs ≤ 3 + (step_width e * max_steps + 1)
  rest-size bs f = by (eqb q 0) f
    where
      bare : Option Certificate
      bare = some (record { p = p; q = q; potentials = zs; node = 0; steps = [] })

      full : Option Certificate
      full = with_steps p q zs (number (part bs 1 2)) (read_steps e max_steps (drop 3 bs))

      by : (b : Bool) → cond b (cond (is_end bs) bare none) (cond (has bs 0x13 3) full none) ≡ some c → length bs ≤ 3 + (step_width e * max_steps + 1)
      by true k = omega (arith, end-size bs (cond-some (is_end bs) bare k).0)
      by false k =
          omega (arith, length-drop 3 bs, cycle-size (number (part bs 1 2)) (drop 3 bs) (read_steps e max_steps (drop 3 bs)) refl (cond-some (has bs 0x13 3) full k).1)

-- the longest certificate: the head, the most potentials and steps, the cycle's start and the end
abbrev longest_certificate : Edition → ℕ
longest_certificate e = 11 + 9 * max_nodes + (3 + (step_width e * max_steps + 1))

-- what is read as a certificate is no longer than the longest
certificate-size : (e : Edition) (bs : List ℕ) (c : Certificate) → read_certificate_in e bs ≡ some c → length bs ≤ longest_certificate e
unfolding read_certificate_in
certificate-size e bs c h =
    let two = cond-some (has bs 0x11 11 && leb 1 n && leb n max_nodes) (with_potentials e p q (read_potentials n (drop 11 bs))) h in
    by (leb-true n max_nodes (both (has bs 0x11 11 && leb 1 n) (leb n max_nodes) two.0).1) (read_potentials n (drop 11 bs)) refl two.1
  where
    p : ℕ
    p = number (part bs 1 4)

    q : ℕ
    q = number (part bs 5 4)

    n : ℕ
    n = number (part bs 9 2)

    by : n ≤ max_nodes → (o : Option (Parsed (List ℤ))) → read_potentials n (drop 11 bs) ≡ o → with_potentials e p q o ≡ some c → length bs ≤ longest_certificate e
    by few none k f = absurd (none-ne-some c f)
    by few (some r) k f = omega (arith, length-drop 11 bs, potentials-size n (drop 11 bs) r k, rest-size e p q r.value c r.rest f)

-- a list longer than any certificate is none, so bytes past the longest change no answer
pub long-certificate_in : (e : Edition) (bs more : List ℕ) → longest_certificate e < length bs → read_certificate_in e (bs ++ more) ≡ read_certificate_in e bs
long-certificate_in e bs more h = none_read (bs ++ more) (omega (arith, length-append bs more)) ∙ sym (none_read bs h)
  where
    none_read : (l : List ℕ) → longest_certificate e < length l → read_certificate_in e l ≡ none
    none_read l long = by (read_certificate_in e l) refl
      where
        by : (o : Option Certificate) → read_certificate_in e l ≡ o → o ≡ none
        by none is = refl
        by (some c) is = absurd (omega (arith, certificate-size e l c is))

pub long-certificate : (bs more : List ℕ) → certificate_room < length bs → read_certificate (bs ++ more) ≡ read_certificate bs
long-certificate = long-certificate_in long_reads
