-- The answer of the solver, by its tests, and what it promises. Assumes nothing.
use mathlib.Core.Path.{◌≡◌, refl, sym, ◌∙◌, ap, ap₂, subst}
use mathlib.Core.Bool.{Bool, true, false, cond, ◌&&◌}
use mathlib.Core.List.{List}
use mathlib.Core.Option.{none, some, none-ne-some}
use Prim.Native.Nat.{ℕ, ◌≤◌, ◌<◌}
use native.Mathlib.Omega.{arith}
use lib.Dec.{leb}
use lib.ListN.{length, take}
use borrow.Author.Tests.{le-leb, lt-leb, le-ltb}
use Rattle.std.specs.Prelude.{Ok, Err}
use Rattle.model.specs.Bytes.{cleared, work_after}
use Rattle.model.specs.Certificate.{read_certificate, certificate_bytes}
use Rattle.model.specs.Check as check_model
use Rattle.model.specs.Check.{share, check_read, check_plan, check}
use Rattle.model.specs.Graph.{nodes, too_large}
use Rattle.model.specs.Limits.{work_room, certificate_room}
use Rattle.model.specs.Plan.{Plan, IsSound, PlanAnswer, read_plan, sound}
use Rattle.model.specs.Refusals.{too_many_nodes, short_memory}
use Rattle.model.specs.Solve.{SolveAnswer, refused, solvable, solve_plan, solve}
use Rattle.theory.proofs.Accepted.{accepted-iff}
use Rattle.theory.proofs.Claim.{check-claim}
use Rattle.words.proofs.Memory.{overwrite-first}
use Rattle.plan.specs.View.{plan_of}
use Rattle.plan.specs.declared.tasks.Plan as plan
use Rattle.machine.specs.Machine.{MachineOf}
use Rattle.machine.specs.declared.Machine.{Machine}
use Rattle.graph.specs.View.{Planned}
use Rattle.graph.proofs.View.{planned-of}
use Rattle.solver.specs.declared.Solved.{Solved}
use Rattle.refusals.specs.declared.Refusal.TheVariants.{ShortMemory}
use Rattle.solver.specs.Promise.{Answer, refused_by, Writes, Does, Certifies, Solves}

-- a machine's rules and table are its plan's
pub planned_by : {p : plan.Plan} {m : Machine} → IsSound (plan_of p) → MachineOf p m → Planned (plan_of p) m.rules m.next
planned_by {p} {m} is_sound of = subst (Planned (plan_of p) m.rules) (sym of.next) (planned-of p m.rules is_sound of.rules)

-- a refusal writes nothing
not_both : {r : Answer} {n : ℕ} {s : Solved} → refused_by r ≡ some n → r ≡ Ok s → ⊥
not_both {n = n} e d = none-ne-some n (sym (ap refused_by d) ∙ e)

-- the bytes and the passes that are told
abbrev pub bytes_of : Answer → ℕ
bytes_of (Err f) = 0
bytes_of (Ok s) = s.bytes

abbrev pub passes_of : Answer → ℕ
passes_of (Err f) = 0
passes_of (Ok s) = s.passes

-- ---- too many nodes, or the certificate

module _ (P : Plan) (n : ℕ) (before after : List ℕ) (r : Answer) where
  pub large : none ≡ cond (too_large P) none (some n) → after ≡ before → refused_by r ≡ some too_many_nodes → Does (solve_plan (sound P)) before after r
  large e kept number = by (too_large P) e
    where
      by : (b : Bool) → none ≡ cond b none (some n) → Does (cond b (refused too_many_nodes) (solvable P)) before after r
      by true k = record { number = number; kept = kept }
      by false k = absurd (none-ne-some n k)

  pub small : (k : ℕ) → some k ≡ cond (too_large P) none (some n) → Writes P before after r → Does (solve_plan (sound P)) before after r
  small k e w = by (too_large P) e
    where
      by : (b : Bool) → some k ≡ cond b none (some n) → Does (cond b (refused too_many_nodes) (solvable P)) before after r
      by true h = absurd (none-ne-some k (sym h))
      by false h = w

-- ---- what is written is accepted

module _ (plan : List ℕ) (P : Plan) (read : read_plan plan ≡ sound P) (before after : List ℕ) (r : Answer) where
  -- of a plan that is not too large
  accepts : too_large P ≡ false → (w : Writes P before after r) → (lent : ℕ) → work_room ≤ lent →
      check plan (take (length (certificate_bytes w.certificate)) after) lent
      ≡ share w.certificate.p w.certificate.q (length (nodes P)) (check_model.allowance w.certificate.potentials)
  unfolding check
  accepts fits w lent enough =
      let c = w.certificate in
      let counted = ((accepted-iff P c).0 w.solved.accepted).counted in
      ap (λ (b : Bool). cond b (check_model.refused short_memory) (check_plan (read_plan plan) (take (length (certificate_bytes c)) after))) (le-ltb lent work_room enough)
      ∙ ap₂ check_plan read (ap (take (length (certificate_bytes c))) w.bytes ∙ overwrite-first before (certificate_bytes c))
      ∙ ap (λ (b : Bool). cond b (check_model.refused too_many_nodes) (check_read P (read_certificate (certificate_bytes c)))) fits
      ∙ ap (check_read P) w.solved.form ∙ w.solved.accepted
      ∙ ap (λ (n : ℕ). share c.p c.q n (check_model.allowance c.potentials)) counted

  certified : Does (solve_plan (sound P)) before after r → (s : Solved) → r ≡ Ok s → Certifies plan P s.bytes after
  certified does s e = by (too_large P) refl does
    where
      by : (b : Bool) → too_large P ≡ b → Does (cond b (refused too_many_nodes) (solvable P)) before after r → Certifies plan P s.bytes after
      by true large f = absurd (not_both f.number e)
      by false fits w =
          let size : length (certificate_bytes w.certificate) ≡ s.bytes = ap bytes_of (sym w.answer ∙ e) in
          let accepted : (lent : ℕ) → work_room ≤ lent → _ = λ lent h.
          subst (λ (k : ℕ). check plan (take k after) lent ≡ share w.certificate.p w.certificate.q (length (nodes P)) (check_model.allowance w.certificate.potentials))
          size (accepts fits w lent h) in record {
            p = w.certificate.p;
            q = w.certificate.q;
            k = check_model.allowance w.certificate.potentials;
            accepted = accepted;
            claim = check-claim plan (take s.bytes after) work_room (accepted work_room (omega arith)) P read;
          }

-- ---- the call

module _ (plan work out : List ℕ) where
  -- the tests of the lent memory
  abbrev tested : Bool → Bool → SolveAnswer
  tested a b = let answer = solve_plan (read_plan plan) in cond (a && b) answer (refused short_memory)

  solve-tested : (a b : Bool) → leb work_room (length work) ≡ a → leb certificate_room (length out) ≡ b → solve plan (length work) (length out) ≡ tested a b
  unfolding solve
  solve-tested a b e d = ap₂ tested e d

  memory-tested : (a b : Bool) → leb work_room (length work) ≡ a → leb certificate_room (length out) ≡ b →
      work_after (leb work_room (length work) && leb certificate_room (length out)) work ≡ work_after (a && b) work
  memory-tested a b e d = ap₂ (λ s t. work_after (s && t) work) e d

  -- 11
  short : (a b : Bool) → leb work_room (length work) ≡ a → leb certificate_room (length out) ≡ b → (a && b) ≡ false →
      Solves plan work work out out (Err ShortMemory)
  short a b e d none_lent = record {
    due =
        subst (λ (d : SolveAnswer). Does d out out (Err ShortMemory))
        (sym (solve-tested a b e d ∙ ap (λ (t : Bool). cond t (solve_plan (read_plan plan)) (refused short_memory)) none_lent)) (record { number = refl; kept = refl });
    certifies = λ P read s e. absurd (not_both {n = short_memory} refl e);
    memory = sym (memory-tested a b e d ∙ ap (λ (t : Bool). work_after t work) none_lent);
  }

  pub short-work : length work < work_room → Solves plan work work out out (Err ShortMemory)
  short-work h = short false (leb certificate_room (length out)) (lt-leb work_room (length work) h) refl refl

  pub short-out : work_room ≤ length work → length out < certificate_room → Solves plan work work out out (Err ShortMemory)
  short-out w h = short true false (le-leb work_room (length work) w) (lt-leb certificate_room (length out) h) refl

  -- enough is lent
  pub enough : (work' out' : List ℕ) (r : Answer) → work_room ≤ length work → certificate_room ≤ length out →
      Does (solve_plan (read_plan plan)) out out' r → work' ≡ cleared work → Solves plan work work' out out' r
  enough work' out' r w h does clear =
      let e = le-leb work_room (length work) w in
      let d = le-leb certificate_room (length out) h in record {
        due = subst (λ (d : SolveAnswer). Does d out out' r) (sym (solve-tested true true e d)) does;
        certifies = λ P read. certified plan P read out out' r (subst (λ (a : PlanAnswer). Does (solve_plan a) out out' r) read does);
        memory = clear ∙ sym (memory-tested true true e d);
      }
