-- When the checker's answer is a share: what it then finds of the certificate, and of the bytes.
-- Assumes nothing.
use mathlib.Core.Path.{◌≡◌, refl, sym, ◌∙◌, ap}
use mathlib.Core.Bool.{Bool, true, false, cond, false≢true}
use mathlib.Core.Logic.{◌↔◌}
use mathlib.Core.Option.{Option, none, some}
use mathlib.Core.List.{List}
use Prim.Native.Nat.{ℕ, ◌≤◌}
use native.Mathlib.Omega.{arith}
use lib.Dec.{ltb, eqb}
use lib.ListN.{length}
use borrow.Author.Tests.{ltb-false, le-ltb, eqb-true, eq-eqb}
use Rattle.model.specs.Limits.{work_room}
use Rattle.model.specs.Refusals.{short_memory, too_many_nodes, bad_fraction, bad_count, bad_potential, bad_cycle}
use Rattle.model.specs.Plan.{Plan, PlanAnswer, faulty, sound, read_plan}
use Rattle.model.specs.Graph.{nodes, too_large}
use Rattle.model.specs.Certificate.{Certificate, read_certificate}
use Rattle.model.specs.Check.{fraction_ok, potentials_ok, cycle_ok, allowance, CheckAnswer, refused, share, verdict, check_read, check_plan, check}

-- ---- the verdict

-- what the checker finds true of a certificate that it answers with p, q, N and K
pub record Accepted (P : Plan) (c : Certificate) (p q N K : ℕ) : Type 0 where
  pub is_p : c.p ≡ p
  pub is_q : c.q ≡ q
  pub is_count : length c.potentials ≡ N
  pub is_allowance : allowance c.potentials ≡ K
  pub fraction : fraction_ok c.p c.q ≡ true
  pub counted : length c.potentials ≡ length (nodes P)
  pub potentials : potentials_ok P (nodes P) c.p c.q c.potentials ≡ true
  pub cycle : cycle_ok P (nodes P) c ≡ true

module _ {p q N K : ℕ} where
  -- a refusal is no share
  refused-share : {n : ℕ} → refused n ≡ share p q N K → ⊥
  refused-share h = let z : ◌≡◌ {A = ℕ} 0 1 = cc in omega arith

  -- a test that must be true for a share
  past : (b : Bool) (x : CheckAnswer) (n : ℕ) → (cond b x (refused n) ≡ share p q N K) ↔ ((b ≡ true) × (x ≡ share p q N K))
  past true x n = (λ h. (refl, h), λ h. h.1)
  past false x n = (λ h. absurd (refused-share h), λ h. absurd (false≢true h.0))

  -- a test that must be false for a share
  past_not : (b : Bool) (x : CheckAnswer) (n : ℕ) → (cond b (refused n) x ≡ share p q N K) ↔ ((b ≡ false) × (x ≡ share p q N K))
  past_not true x n = (λ h. absurd (refused-share h), λ h. absurd (false≢true (sym h.0)))
  past_not false x n = (λ h. (refl, h), λ h. h.1)

-- the checker's answer is a share exactly where it finds these
pub accepted-iff : (P : Plan) (c : Certificate) {p q N K : ℕ} → (verdict P c ≡ share p q N K) ↔ Accepted P c p q N K
unfolding verdict
accepted-iff P c {p} {q} {N} {K} = (from, to)
  where
    answer : CheckAnswer
    answer = share c.p c.q (length c.potentials) (allowance c.potentials)

    cycle : CheckAnswer
    cycle = cond (cycle_ok P (nodes P) c) answer (refused bad_cycle)

    potentials : CheckAnswer
    potentials = cond (potentials_ok P (nodes P) c.p c.q c.potentials) cycle (refused bad_potential)

    count : CheckAnswer
    count = cond (eqb (length c.potentials) (length (nodes P))) potentials (refused bad_count)

    from : verdict P c ≡ share p q N K → Accepted P c p q N K
    from h =
        let one = (past (fraction_ok c.p c.q) count bad_fraction).0 h in
        let two = (past (eqb (length c.potentials) (length (nodes P))) potentials bad_count).0 one.1 in
        let three = (past (potentials_ok P (nodes P) c.p c.q c.potentials) cycle bad_potential).0 two.1 in
        let four = (past (cycle_ok P (nodes P) c) answer bad_cycle).0 three.1 in
        let same : share c.p c.q (length c.potentials) (allowance c.potentials) ≡ share p q N K = four.1 in
        record {
          is_p = cc;
          is_q = cc;
          is_count = cc;
          is_allowance = cc;
          fraction = one.0;
          counted = eqb-true _ _ two.0;
          potentials = three.0;
          cycle = four.0;
        }

    to : Accepted P c p q N K → verdict P c ≡ share p q N K
    to a =
        let same : answer ≡ share p q N K = cc in
        (past (fraction_ok c.p c.q) count bad_fraction).1 (
          a.fraction,
          (past (eqb (length c.potentials) (length (nodes P))) potentials bad_count).1 (
            eq-eqb _ _ a.counted,
            (past (potentials_ok P (nodes P) c.p c.q c.potentials) cycle bad_potential).1
                (a.potentials, (past (cycle_ok P (nodes P) c) answer bad_cycle).1 (a.cycle, same)),
          ),
        )

-- ---- the answer

-- what the checker finds of the bytes that it answers with p, q, N and K
pub record Passed (plan certificate : List ℕ) (lent p q N K : ℕ) : Type 0 where
  pub room : work_room ≤ lent
  pub P : Plan
  pub plan_read : read_plan plan ≡ sound P
  pub fits : too_large P ≡ false
  pub c : Certificate
  pub certificate_read : read_certificate certificate ≡ some c
  pub accepted : Accepted P c p q N K

-- the certificate is read and accepted
read-accepted : (P : Plan) (o : Option Certificate) {p q N K : ℕ} → check_read P o ≡ share p q N K →
    (c : Certificate) × (o ≡ some c) × Accepted P c p q N K
read-accepted P none h = absurd (refused-share h)
read-accepted P (some c) h = (c, refl, (accepted-iff P c).0 h)

module _ (plan certificate : List ℕ) (lent : ℕ) {p q N K : ℕ} where
  -- the plan is read, and has no more nodes than the limit
  plan-passed : work_room ≤ lent → (o : PlanAnswer) → read_plan plan ≡ o → check_plan o certificate ≡ share p q N K → Passed plan certificate lent p q N K
  plan-passed room (faulty n) r h = absurd (refused-share h)
  plan-passed room (sound P) r h =
      let two = (past_not (too_large P) (check_read P (read_certificate certificate)) too_many_nodes).0 h in
      let t = read-accepted P (read_certificate certificate) two.1 in
      record { room = room; P = P; plan_read = r; fits = two.0; c = t.0; certificate_read = t.1; accepted = t.2 }

  -- the checker's answer is a share exactly where it finds these
  pub check-iff : (check plan certificate lent ≡ share p q N K) ↔ Passed plan certificate lent p q N K
  unfolding check
  check-iff = (
    λ h.
        let two = (past_not (ltb lent work_room) (check_plan (read_plan plan) certificate) short_memory).0 h in
        plan-passed (ltb-false lent work_room two.0) (read_plan plan) refl two.1,
    λ s.
        (past_not (ltb lent work_room) (check_plan (read_plan plan) certificate) short_memory).1 (
          le-ltb lent work_room s.room,
          ap (λ o. check_plan o certificate) s.plan_read
              ∙ (past_not (too_large s.P) (check_read s.P (read_certificate certificate)) too_many_nodes).1
              (s.fits, ap (check_read s.P) s.certificate_read ∙ (accepted-iff s.P s.c).1 s.accepted),
        ),
  )
