-- The trace's answer by its tests.
-- Assumes nothing.
use mathlib.Core.Path.{◌≡◌, sym, ap, ◌∙◌}
use mathlib.Core.Bool.{Bool, true, false, cond}
use mathlib.Core.List.{List, []}
use mathlib.Core.Option.{none}
use Prim.Native.Nat.{ℕ, ◌+◌, ◌*◌, ◌≤◌, ◌<◌}
use native.Mathlib.Omega.{arith}
use borrow.Author.Tests.{lt-ltb, le-ltb}
use lib.ListN.{length}
use lib.Seq.{get_or-take}
use Rattle.model.specs.Bytes.{overwrite}
use Rattle.model.specs.Calls.{Writing, refuses, writes, with_plan}
use Rattle.model.specs.Interrupted.{TellsCuts, cut_in}
use Rattle.model.specs.Limits.{max_labels, trace_room}
use Rattle.model.specs.Refusals.{short_memory, too_many_labels, not_admitted}
use Rattle.model.specs.Plan.{Plan, PlanAnswer, sound, read_plan}
use Rattle.model.specs.Schedule.{admits}
use Rattle.model.specs.Trace.{Row, slots, trace_run, trace, trace_bytes, row_size}
use Rattle.model.proofs.Calls as calls
use Rattle.theory.proofs.Interrupted.{traced-slots, traced-cuts}
use Rattle.std.specs.Prelude.{Ok}
use Rattle.refusals.specs.Told.{Answer, Told}
use Rattle.refusals.proofs.Told as told
use Rattle.tracer.specs.Promise.{Traces}
use Rattle.tracer.proofs.Slots.{cut_column, slots_length, trace-length}

-- a trace has a row for each label
pub told-trace : (a : Writing (List Row)) (P : Plan) (ls before after : List ℕ) → a ≡ writes (slots P none [] ls) →
    after ≡ overwrite before 0 (trace_bytes (slots P none [] ls)) → Told trace_bytes a before after (Ok (row_size * length ls))
told-trace a P ls before after e o =
    told.told-written trace_bytes a (slots P none [] ls) before after (row_size * length ls) e
    (sym (trace-length (slots P none [] ls) ∙ ap (λ (n : ℕ). row_size * n) (slots_length P none [] ls))) o

-- what is told is the whole promise, since the rows that are due tell who was interrupted
pub traces : {plan labels before after : List ℕ} {r : Answer} → Told trace_bytes (trace plan labels (length before)) before after r → Traces plan labels before after r
traces {plan = plan} {labels = labels} {before = before} {after = after} t = record { told = t; cuts = λ P read n e. cuts P read n (told.told-bytes trace_bytes due before after n (told.told_as e t)) }
  where
    due : Writing (List Row)
    due = trace plan labels (length before)

    cuts : (P : Plan) → read_plan plan ≡ sound P → (n : ℕ) → told.WrittenAs trace_bytes due after n → TellsCuts P labels (cut_in after)
    cuts P read n w =
        let rs = w.what in
        let each : length rs ≡ length labels = ap length (sym (traced-slots plan labels (length before) P read rs w.is_due).1) ∙ slots_length P none [] labels in
        traced-cuts plan labels (length before) P read rs w.is_due (cut_in after)
        (λ t lt.
        sym (get_or-take n after (row_size * t + 3) 0 (omega (arith, w.size, trace-length rs, each)))
        ∙ ap (λ (l : List ℕ). cut_in l t) w.bytes
        ∙ cut_column rs t (omega (arith, each)))

-- the tests on the labels
module _ (P : Plan) (ls : List ℕ) where
  pub too_many : max_labels < length ls → trace_run P ls ≡ refuses too_many_labels
  unfolding trace_run
  too_many h = ap (λ (b : Bool). cond b (refuses too_many_labels) (cond (admits P ls) (writes (slots P none [] ls)) (refuses not_admitted))) (lt-ltb max_labels (length ls) h)

  few : (b : Bool) → length ls ≤ max_labels → admits P ls ≡ b → trace_run P ls ≡ cond b (writes (slots P none [] ls)) (refuses not_admitted)
  unfolding trace_run
  few b h e = λ i. cond (le-ltb max_labels (length ls) h i) (refuses too_many_labels) (cond (e i) (writes (slots P none [] ls)) (refuses not_admitted))

  pub not-admitted : length ls ≤ max_labels → admits P ls ≡ false → trace_run P ls ≡ refuses not_admitted
  not-admitted h e = few false h e

  pub all-admitted : length ls ≤ max_labels → admits P ls ≡ true → trace_run P ls ≡ writes (slots P none [] ls)
  all-admitted h e = few true h e

-- the tests before the labels
module _ (plan ls : List ℕ) (lent : ℕ) where
  pub short : lent < trace_room → trace plan ls lent ≡ refuses short_memory
  unfolding trace
  short h = calls.room-short trace_room lent (with_plan (read_plan plan) (λ P. trace_run P ls)) h

  pub by_plan : (a : PlanAnswer) → trace_room ≤ lent → read_plan plan ≡ a → trace plan ls lent ≡ with_plan a (λ P. trace_run P ls)
  unfolding trace
  by_plan a h e = calls.by_plan trace_room lent (λ P. trace_run P ls) (read_plan plan) a h e
