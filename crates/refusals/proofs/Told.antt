-- What a call tells, by what is due.
-- Assumes nothing.
use mathlib.Core.Path.{◌≡◌, refl, sym, ap, ◌∙◌, subst}
use mathlib.Core.List.{List}
use Prim.Native.Nat.{ℕ}
use native.Mathlib.Omega.{arith}
use lib.ListN.{length, take}
use Rattle.model.specs.Bytes.{overwrite}
use Rattle.model.specs.Calls.{Writing, written, refuses, writes, result_of, output_after}
use Rattle.model.proofs.Calls.{refused-due}
use Rattle.words.proofs.Memory.{overwrite-first}
use Rattle.refusals.specs.Numbers.{refusal_number}
use Rattle.plan.specs.View.{fault_number}
use Rattle.plan.specs.declared.Fault.{Fault}
use Rattle.refusals.specs.declared.Refusal.TheVariants.{Plan}
use Rattle.std.specs.Prelude.{Ok, Err}
use Rattle.std.specs.Result.{IsErrAnd}
use Rattle.refusals.specs.Told.{Answer, Told}
use Rattle.refusals.specs.declared.Refusal.{Refusal}

module _ {A : Type 0} where
  -- what is told of something due is told of anything equal
  pub told_by : {spell : A → List ℕ} {a b : Writing A} {before after : List ℕ} {r : Answer} → a ≡ b → Told spell b before after r → Told spell a before after r
  told_by {spell = spell} {before = before} {after = after} {r = r} e h = subst (λ (t : Writing A). Told spell t before after r) (sym e) h

  -- and of an equal answer
  pub told_as : {spell : A → List ℕ} {due : Writing A} {before after : List ℕ} {a b : Answer} → a ≡ b → Told spell due before after a → Told spell due before after b
  told_as {spell = spell} {due = due} {before = before} {after = after} e h = subst (λ (r : Answer). Told spell due before after r) e h

  -- a refusal leaves the output as it was
  pub told-refusal : (spell : A → List ℕ) (due : Writing A) (before : List ℕ) (r : Refusal) → due ≡ refuses (refusal_number r) → Told spell due before before (Err r)
  unfolding output_after
  told-refusal spell due before r e = record {
    answer = sym (ap (result_of spell) e);
    output = sym (ap (λ (b : Writing A). output_after spell b before) e);
  }

  -- a plan's fault that is handed on
  pub told_up : (spell : A → List ℕ) (due : Writing A) (before : List ℕ) (t : Answer) (f : Fault) → IsErrAnd t (λ r. r ≡ Plan f) → due ≡ refuses (fault_number f) →
      Told spell due before before t
  told_up spell due before (Err r) f h e = subst (λ (q : Refusal). Told spell due before before (Err q)) (sym h) (told-refusal spell due before (Plan f) e)
  told_up spell due before (Ok n) f h e = absurd h

  -- what is written is told by its length
  pub told-written : (spell : A → List ℕ) (due : Writing A) (a : A) (before after : List ℕ) (n : ℕ) → due ≡ writes a → n ≡ length (spell a) →
      after ≡ overwrite before 0 (spell a) → Told spell due before after (Ok n)
  unfolding output_after
  told-written spell due a before after n e l o = record {
    answer = ap written l ∙ sym (ap (result_of spell) e);
    output = o ∙ sym (ap (λ (b : Writing A). output_after spell b before) e);
  }

  -- what was written is what was due, and its bytes stand first
  pub record WrittenAs (spell : A → List ℕ) (due : Writing A) (after : List ℕ) (n : ℕ) : Type 0 where
    pub what : A
    pub is_due : due ≡ writes what
    pub size : n ≡ length (spell what)
    pub bytes : take n after ≡ spell what

  pub told-bytes : (spell : A → List ℕ) (due : Writing A) (before after : List ℕ) (n : ℕ) → Told spell due before after (Ok n) → WrittenAs spell due after n
  unfolding output_after
  told-bytes spell (refuses m) before after n t = let k = t.answer in let z : ◌≡◌ {A = ℕ} 0 1 = cc in absurd (omega arith)
  told-bytes spell (writes a) before after n t =
      let size : n ≡ length (spell a) = let k = t.answer in cc in
      record { what = a; is_due = refl; size = size; bytes = (λ i. take (size i) (t.output i)) ∙ overwrite-first before (spell a) }

  -- a refusal that is told was due
  pub told-due : (spell : A → List ℕ) (due : Writing A) (before after : List ℕ) (r : Refusal) → Told spell due before after (Err r) → due ≡ refuses (refusal_number r)
  told-due spell due before after r t = refused-due spell (refusal_number r) due (sym t.answer)
