-- Plans in both editions: what is sent forth comes back, what the first edition can't say, and what carries over.
-- Assumes nothing.
use mathlib.Core.Path.{◌≡◌, refl, sym, ap, ◌∙◌, subst}
use mathlib.Core.Bool.{Bool, true, false, cond, not, ◌&&◌, ◌||◌, false≢true}
use mathlib.Core.List.{List, [], ◌∷◌, Memᴰ}
use mathlib.Core.Logic.{◌↔◌}
use mathlib.Core.Option.{some}
use Prim.Native.Nat.{ℕ, zero, suc, ◌≤◌}
use native.Mathlib.Omega.{arith}
use borrow.Author.Tests.{leb-true, le-leb, ltb-false}
use lib.Dec.{leb, ltb}
use lib.ListN.{length, get_or, drop}
use Rattle.model.specs.Edition.{Edition, WideEnough, first_edition, long_reads, plan_room_in, plan_room}
use Rattle.model.specs.Refusals.{bytes_end, out_of_range, not_in_first, short_memory}
use Rattle.model.specs.Lists.{all}
use Rattle.model.specs.Plan.{Task, Plan, PlanAnswer, faulty, sound, Reading, nothing_read, first_fault, fault, after, width, last_operand, refused_or, at_end, read_commands, read_from, read_plan_in, read_plan, IsSoundIn}
use Rattle.model.specs.Graph.{nodes}
use Rattle.model.specs.Certificate.{Certificate, read_certificate_in, certificate_bytes}
use Rattle.model.specs.Calls.{refuses, writes, with_plan}
use Rattle.model.specs.PlanBytes.{plan_bytes_in, plan_bytes}
use Rattle.model.specs.Convert.{forth, says, back_of, back, Converted, Unsaid, CertificateCarried, CarriesOver}
use Rattle.model.proofs.Plan.{both, first_wide, long_wide}
use Rattle.model.proofs.Calls.{room_enough, by_plan}
use Rattle.model.proofs.Tests.{true-and, implies_test, all-each}
use Rattle.words.proofs.Numbers.{AreBytes}
use Rattle.theory.proofs.Sound.{TaskSoundIn, PlanSoundIn, PlanSound, read-sound, sound-plan}
use Rattle.theory.proofs.PlanRead.{plan-read-back}
use Rattle.theory.proofs.PlanForm.{plans_are_written}
use Rattle.theory.proofs.Writings.{taken, passed, over}
use Rattle.theory.proofs.Form.{certificate-read-back, accepted_formed}
use Rattle.theory.proofs.Reread.{read-few}
use Rattle.theory.proofs.Accepted.{accepted-iff, check-iff}

-- ---- a plan's parts in both editions

-- a plan within the limits of an edition, for its tasks, is one of that edition
with_tasks : {e f : Edition} (P : Plan) → PlanSoundIn e P → ((t : Task) → Memᴰ t P.tasks → TaskSoundIn f t) → PlanSoundIn f P
with_tasks P s h = record {
  some_task = s.some_task;
  tasks_fit = s.tasks_fit;
  task = h;
  some_policy = s.some_policy;
  policy_fits = s.policy_fits;
  some_state = s.some_state;
  states_fit = s.states_fit;
  arc = s.arc;
  rise = s.rise;
}

-- a plan of the first edition is one of the long-read edition
first_in_long : (P : Plan) → PlanSoundIn first_edition P → PlanSound P
first_in_long P s = with_tasks P s (λ t m.
    let k = s.task t m in
    record {
      some_work = k.some_work;
      work_fits = k.work_fits;
      window_fits = omega (arith, k.window_fits);
      some_value = k.some_value;
      value_fits = omega (arith, k.value_fits);
      lock_fits = λ h. refl;
    })

-- and one whose tasks the first edition can say is of the first
said_in_first : (P : Plan) → PlanSound P → all (says first_edition) P.tasks ≡ true → PlanSoundIn first_edition P
said_in_first P s h = with_tasks P s (λ t m.
    let k = s.task t m in
    let three = both (leb t.window 8 && leb t.value 255) (not t.locked || false) ((all-each (says first_edition) P.tasks).0 h t m) in
    let two = both (leb t.window 8) (leb t.value 255) three.0 in
    record {
      some_work = k.some_work;
      work_fits = k.work_fits;
      window_fits = leb-true _ _ two.0;
      some_value = k.some_value;
      value_fits = leb-true _ _ two.1;
      lock_fits = (implies_test t.locked false).0 three.1;
    })

first_said : (P : Plan) → PlanSoundIn first_edition P → all (says first_edition) P.tasks ≡ true
first_said P s =
    (all-each (says first_edition) P.tasks).1
    (λ t m.
    let k = s.task t m in
    true-and (leb t.window 8 && leb t.value 255) (not t.locked || false)
    (true-and (leb t.window 8) (leb t.value 255) (le-leb _ _ k.window_fits) (le-leb _ _ k.value_fits))
    ((implies_test t.locked false).1 k.lock_fits))

-- ---- sent forth and back

module _ (P : Plan) (s : PlanSoundIn first_edition P) where
  back-writes : (plan : List ℕ) (lent : ℕ) → plan_room_in first_edition ≤ lent → read_plan plan ≡ sound P → back plan lent ≡ writes P
  unfolding back
  back-writes plan lent h e =
      by_plan (plan_room_in first_edition) lent back_of (read_plan plan) (sound P) h e
      ∙ ap (λ (b : Bool). cond b (writes P) (refuses not_in_first)) (first_said P s)

  forth-writes : (plan : List ℕ) (lent : ℕ) → plan_room ≤ lent → read_plan_in first_edition plan ≡ sound P → forth plan lent ≡ writes P
  unfolding forth
  forth-writes plan lent h e = by_plan plan_room lent writes (read_plan_in first_edition plan) (sound P) h e

  -- in each edition its bytes are read as it
  long_read : read_plan (plan_bytes P) ≡ sound P
  long_read = plan-read-back long_reads long_wide P (first_in_long P s)

  first_read : read_plan_in first_edition (plan_bytes_in first_edition P) ≡ sound P
  first_read = plan-read-back first_edition first_wide P s

-- bytes that are read as a plan are its own
own_bytes : (e : Edition) → WideEnough e → (bs : List ℕ) (P : Plan) → AreBytes bs → read_plan_in e bs ≡ sound P → plan_bytes_in e P ≡ bs
own_bytes e wide bs P b r = sym ((plans_are_written e wide P (record { bytes = bs; read = r })).only bs b r)

-- whatever the forth call writes
pub forth_converted : (plan : List ℕ) (lent : ℕ) (P Q : Plan) → AreBytes plan → read_plan_in first_edition plan ≡ sound P → forth plan lent ≡ writes Q →
    Converted first_edition long_reads back plan (plan_bytes Q) P
unfolding forth
forth_converted plan lent P Q b r e =
    let s = read-sound plan P r in
    let same : P ≡ Q = let k = over plan_room lent (read_plan_in first_edition plan) writes P Q r e in cc in
    subst (λ (R : Plan). Converted first_edition long_reads back plan (plan_bytes R) P) same
    (record {
      read = long_read P s;
      returned = λ lent h. back-writes P s (plan_bytes P) lent h (long_read P s);
      same = own_bytes first_edition first_wide plan P b r;
    })

-- whatever the back call writes
pub back_converted : (plan : List ℕ) (lent : ℕ) (P Q : Plan) → AreBytes plan → read_plan plan ≡ sound P → back plan lent ≡ writes Q →
    Converted long_reads first_edition forth plan (plan_bytes_in first_edition Q) P
unfolding back
back_converted plan lent P Q b r e =
    let two = taken (all (says first_edition) P.tasks) not_in_first (writes P) Q (over (plan_room_in first_edition) lent (read_plan plan) back_of P Q r e) in
    let s = said_in_first P (read-sound plan P r) two.0 in
    let same : P ≡ Q = let k = two.1 in cc in
    subst (λ (R : Plan). Converted long_reads first_edition forth plan (plan_bytes_in first_edition R) P) same
    (record {
      read = first_read P s;
      returned = λ lent h. forth-writes P s (plan_bytes_in first_edition P) lent h (first_read P s);
      same = own_bytes long_reads long_wide plan P b r;
    })

-- it is no longer than the longest plan of the first edition
pub back_fits : (plan : List ℕ) (lent : ℕ) (Q : Plan) → back plan lent ≡ writes Q → length (plan_bytes_in first_edition Q) ≤ plan_room_in first_edition
unfolding back
back_fits plan lent Q e = by (read_plan plan) refl (passed (ltb lent (plan_room_in first_edition)) short_memory (with_plan (read_plan plan) back_of) Q e).1
  where
    by : (a : PlanAnswer) → read_plan plan ≡ a → with_plan a back_of ≡ writes Q → length (plan_bytes_in first_edition Q) ≤ plan_room_in first_edition
    by (faulty n) r e = let z : ◌≡◌ {A = ℕ} 0 1 = cc in absurd (omega arith)
    by (sound P) r e =
        let two = taken (all (says first_edition) P.tasks) not_in_first (writes P) Q e in
        let s = said_in_first P (read-sound plan P r) two.0 in
        let same : P ≡ Q = let k = two.1 in cc in
        subst (λ (R : Plan). length (plan_bytes_in first_edition R) ≤ plan_room_in first_edition) same
        (plans_are_written first_edition first_wide P (record { bytes = plan_bytes_in first_edition P; read = first_read P s })).fits

-- ---- what the first edition can't say

-- a fault of a plan has a number of its own
fault-most : (ended unknown follows short ranged rises : Bool) → first_fault ended unknown follows short ranged rises ≤ out_of_range
unfolding first_fault
fault-most true u f s g p = omega arith
fault-most false true f s g p = omega arith
fault-most false false false s g p = omega arith
fault-most false false true true g p = omega arith
fault-most false false true false false p = omega arith
fault-most false false true false true false = omega arith
fault-most false false true false true true = omega arith

module _ (e : Edition) (k : ℕ) where
  end-most : (r : Reading) → at_end r ≡ faulty k → k ≤ out_of_range
  end-most r h = go r.ended h
    where
      go : (b : Bool) → cond b (sound (record { tasks = r.tasks; policy = r.policy; states = r.states; arcs = r.arcs })) (faulty bytes_end) ≡ faulty k → k ≤ out_of_range
      go true h = let z : ◌≡◌ {A = ℕ} 0 1 = cc in absurd (omega arith)
      go false h = let z : bytes_end ≡ k = cc in omega arith

  commands_most : (n : ℕ) (bs : List ℕ) (r : Reading) → read_commands e n bs r ≡ faulty k → k ≤ out_of_range
  unfolding fault
  commands_most zero bs r h = let z : bytes_end ≡ k = cc in omega arith
  commands_most (suc n) [] r h = end-most r h
  commands_most (suc n) (c ∷ bs) r h =
      go (fault e r (length (c ∷ bs)) c x y z) (fault-most _ _ _ _ _ _) h
      (commands_most n (drop (width e c) (c ∷ bs)) (after r c x y z))
    where
      x : ℕ
      x = get_or bs 0 0

      y : ℕ
      y = get_or bs 1 0

      z : ℕ
      z = last_operand e c bs

      rest : PlanAnswer
      rest = read_commands e n (drop (width e c) (c ∷ bs)) (after r c x y z)

      go : (f : ℕ) → f ≤ out_of_range → refused_or f rest ≡ faulty k → (rest ≡ faulty k → k ≤ out_of_range) → k ≤ out_of_range
      go zero small h later = later h
      go (suc f) small h later = let z : suc f ≡ k = cc in omega arith

plan-fault-most : (e : Edition) (bs : List ℕ) (k : ℕ) → read_plan_in e bs ≡ faulty k → k ≤ out_of_range
unfolding read_plan_in read_from
plan-fault-most e bs k h = commands_most e k (suc (length bs)) bs nothing_read h

-- 16 is given exactly for the sound plans that no bytes of the first edition say
module _ (plan : List ℕ) (lent : ℕ) where
  unsaid-of : (a : PlanAnswer) → read_plan plan ≡ a → with_plan a back_of ≡ refuses not_in_first → Unsaid first_edition plan
  unsaid-of (faulty n) e h = let z : n ≡ not_in_first = cc in absurd (omega (arith, plan-fault-most long_reads plan n e))
  unsaid-of (sound P) e h = record { plan = P; read = e; unsaid = λ s. by (all (says first_edition) P.tasks) (first_said P (sound-plan P s)) h }
    where
      by : (b : Bool) → b ≡ true → cond b (writes P) (refuses not_in_first) ≡ refuses not_in_first → ⊥
      by true t h = let z : ◌≡◌ {A = ℕ} 0 1 = cc in omega arith
      by false t h = false≢true t

  refused-of : Unsaid first_edition plan → with_plan (read_plan plan) back_of ≡ refuses not_in_first
  refused-of u =
      ap (λ (a : PlanAnswer). with_plan a back_of) u.read ∙ by (all (says first_edition) u.plan.tasks) refl
    where
      by : (b : Bool) → all (says first_edition) u.plan.tasks ≡ b → cond b (writes u.plan) (refuses not_in_first) ≡ refuses not_in_first
      by true e = absurd (u.unsaid (record { bytes = plan_bytes_in first_edition u.plan; read = first_read u.plan (said_in_first u.plan (read-sound plan u.plan u.read) e) }))
      by false e = refl

  pub back-unsaid : (back plan lent ≡ refuses not_in_first) ↔ ((plan_room_in first_edition ≤ lent) × Unsaid first_edition plan)
  unfolding back
  back-unsaid = (
    λ h. go (ltb lent (plan_room_in first_edition)) refl h,
    λ u. room_enough (plan_room_in first_edition) lent (with_plan (read_plan plan) back_of) u.0 ∙ refused-of u.1,
  )
    where
      go : (b : Bool) → ltb lent (plan_room_in first_edition) ≡ b → cond b (refuses short_memory) (with_plan (read_plan plan) back_of) ≡ refuses not_in_first →
          (plan_room_in first_edition ≤ lent) × Unsaid first_edition plan
      go true t h = let z : short_memory ≡ not_in_first = cc in absurd (omega arith)
      go false t h = (ltb-false lent (plan_room_in first_edition) t, unsaid-of (read_plan plan) refl h)

-- ---- what carries over

-- a certificate that is read in an edition and passes the tests is accepted in the long-read edition
pub certificate-carried : (P : Plan) → IsSoundIn first_edition P → (old : List ℕ) (c : Certificate) → read_certificate_in first_edition old ≡ some c →
    CertificateCarried P c (plan_bytes P) (certificate_bytes c)
certificate-carried P i old c r p q n k lent fits v room =
    let s = sound-plan P i in
    let a = (accepted-iff P c).0 v in
    let few = read-few first_edition old c r in
    (check-iff (plan_bytes P) (certificate_bytes c) lent).1
    (record {
      room = room;
      P = P;
      plan_read = long_read P s;
      fits = fits;
      c = c;
      certificate_read =
          certificate-read-back long_reads c
          (accepted_formed long_reads long_wide P (λ t m. ((first_in_long P s).task t m).window_fits) fits c a few.steps few.bare);
      accepted = a;
    })

-- whatever the forth call writes has the nodes of the old plan, and its certificates
pub forth-carries : (plan : List ℕ) (lent : ℕ) (P Q : Plan) → read_plan_in first_edition plan ≡ sound P → forth plan lent ≡ writes Q → CarriesOver P (plan_bytes Q)
unfolding forth
forth-carries plan lent P Q r e =
    let same : P ≡ Q = let k = over plan_room lent (read_plan_in first_edition plan) writes P Q r e in cc in
    subst (λ (R : Plan). CarriesOver P (plan_bytes R)) same
    (record {
      same_nodes = λ R f. let is : R ≡ P = let k = long_read P (read-sound plan P r) in cc in ap nodes is;
      certificates = λ old c. certificate-carried P (record { bytes = plan; read = r }) old c;
    })
