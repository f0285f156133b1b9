-- The calls' answers by their tests.
-- Assumes nothing.
use mathlib.Core.Path.{◌≡◌, sym, ap, subst, ◌∙◌}
use mathlib.Core.Bool.{Bool, true, false, cond}
use mathlib.Core.List.{List}
use Prim.Native.Nat.{ℕ, ◌≤◌, ◌<◌}
use lib.ListN.{length}
use Rattle.model.specs.Bytes.{overwrite}
use Rattle.model.specs.Edition.{first_edition, long_reads, plan_room_in, plan_room}
use Rattle.model.specs.Lists.{all}
use Rattle.model.specs.Refusals.{short_memory, not_in_first}
use Rattle.model.specs.Calls.{Writing, refuses, writes, with_plan, result_of}
use Rattle.model.specs.Plan as model
use Rattle.model.specs.Plan.{PlanAnswer, read_plan, read_plan_in}
use Rattle.model.specs.PlanBytes.{plan_bytes_in, plan_bytes}
use Rattle.model.specs.Convert.{forth, says, back_of, back, Converted, CarriesOver}
use Rattle.model.proofs.Calls.{room-short, by_plan, refused-due}
use Rattle.words.proofs.Numbers.{AreBytes}
use Rattle.theory.proofs.Converted.{forth_converted, forth-carries, back_converted, back-unsaid}
use Rattle.plan.specs.declared.tasks.Plan.{Plan}
use Rattle.plan.specs.View.{plan_of}
use Rattle.refusals.specs.declared.Refusal.TheVariants.{NotInFirst}
use Rattle.std.specs.Prelude.{Ok, Err}
use Rattle.refusals.specs.Told.{Answer, Told}
use Rattle.refusals.proofs.Told.{told_as, told-refusal, told-written, told-bytes}
use Rattle.convert.specs.Promise.{SendsForth, SendsBack}

-- ---- the test on the tasks

module _ (p : Plan) (before : List ℕ) where
  abbrev due : Bool → Writing model.Plan
  due b = cond b (writes (plan_of p)) (refuses not_in_first)

  pub not_said : all (says first_edition) (plan_of p).tasks ≡ false → Told (plan_bytes_in first_edition) (back_of (plan_of p)) before before (Err NotInFirst)
  not_said e = told-refusal (plan_bytes_in first_edition) (back_of (plan_of p)) before NotInFirst (ap due e)

  pub said : all (says first_edition) (plan_of p).tasks ≡ true → (after : List ℕ) (n : ℕ) → n ≡ length (plan_bytes_in first_edition (plan_of p)) →
      after ≡ overwrite before 0 (plan_bytes_in first_edition (plan_of p)) → Told (plan_bytes_in first_edition) (back_of (plan_of p)) before after (Ok n)
  said e after n = told-written (plan_bytes_in first_edition) (back_of (plan_of p)) (plan_of p) before after n (ap due e)

-- ---- what is promised

module _ (plan before after : List ℕ) (r : Answer) (b : AreBytes plan) where
  pub sends_forth : Told plan_bytes (forth plan (length before)) before after r → SendsForth plan before after r
  sends_forth t = record {
    converts = record {
      told = t;
      kept = λ P read n e.
          let w = told-bytes plan_bytes (forth plan (length before)) before after n (told_as e t) in
          subst (λ l. Converted first_edition long_reads back plan l P) (sym w.bytes) (forth_converted plan (length before) P w.what b read w.is_due);
    };
    carries = λ P read n e.
        let w = told-bytes plan_bytes (forth plan (length before)) before after n (told_as e t) in
        subst (CarriesOver P) (sym w.bytes) (forth-carries plan (length before) P w.what read w.is_due);
  }

  pub sends_back : Told (plan_bytes_in first_edition) (back plan (length before)) before after r → SendsBack plan before after r
  sends_back t = record {
    converts = record {
      told = t;
      kept = λ P read n e.
          let w = told-bytes (plan_bytes_in first_edition) (back plan (length before)) before after n (told_as e t) in
          subst (λ l. Converted long_reads first_edition forth plan l P) (sym w.bytes) (back_converted plan (length before) P w.what b read w.is_due);
    };
    unsaid = (
      λ e. (back-unsaid plan (length before)).0 (refused-due (plan_bytes_in first_edition) not_in_first (back plan (length before)) (sym t.answer ∙ e)),
      λ u. t.answer ∙ ap (result_of (plan_bytes_in first_edition)) ((back-unsaid plan (length before)).1 u),
    );
  }

-- ---- the tests before

module _ (plan : List ℕ) (lent : ℕ) where
  pub forth-short : lent < plan_room → forth plan lent ≡ refuses short_memory
  unfolding forth
  forth-short h = room-short plan_room lent (with_plan (read_plan_in first_edition plan) writes) h

  pub by_first : (a : PlanAnswer) → plan_room ≤ lent → read_plan_in first_edition plan ≡ a → forth plan lent ≡ with_plan a writes
  unfolding forth
  by_first a h e = by_plan plan_room lent writes (read_plan_in first_edition plan) a h e

  pub back-short : lent < plan_room_in first_edition → back plan lent ≡ refuses short_memory
  unfolding back
  back-short h = room-short (plan_room_in first_edition) lent (with_plan (read_plan plan) back_of) h

  pub by_long : (a : PlanAnswer) → plan_room_in first_edition ≤ lent → read_plan plan ≡ a → back plan lent ≡ with_plan a back_of
  unfolding back
  by_long a h e = by_plan (plan_room_in first_edition) lent back_of (read_plan plan) a h e
