-- A trace that was written, as lines.
-- Assumes nothing.
use mathlib.Core.Path.{◌≡◌, refl, sym, ap, ◌∙◌, subst}
use mathlib.Core.List.{List, [], ◌∷◌, ◌++◌, append_assoc}
use mathlib.Core.Option.{Option, none}
use Prim.Native.Nat.{ℕ, suc, ◌+◌, ◌^◌, ◌≤◌, ◌<◌}
use native.Mathlib.Nat.{suc_inj}
use native.Mathlib.Omega.{arith}
use lib.ListN.{length, get_or, drop}
use lib.Seq.{drop_at}
use Rattle.model.specs.Bytes.{number, part, overwrite}
use Rattle.model.specs.Limits.{max_labels, max_value, trace_room}
use Rattle.model.specs.Plan.{Plan, read_plan, IsSound}
use Rattle.model.specs.Slot.{Job, JobId, slot}
use Rattle.model.specs.Text.{refused_line, trace_header, trace_line, trace_lines, trace_text}
use Rattle.model.specs.Calls.{Writing, refuses, writes, output_after}
use Rattle.model.specs.Trace.{Row, row_of, slots, trace, trace_run, row_bytes, trace_bytes, row_size}
use Rattle.words.proofs.Fields.{field-read}
use Rattle.theory.proofs.Interrupted.{traced-slots}
use Rattle.theory.proofs.Sound.{sound-plan}
use Rattle.theory.proofs.Writings.{over-sound}
use Rattle.theory.proofs.Schedules.{task-sound}
use Rattle.policy.proofs.Gain.{gain-most}
use Rattle.refusals.specs.Numbers.{refusal_number}
use Rattle.refusals.specs.declared.Refusal.{Refusal}
use Rattle.std.specs.Prelude.{Ok, Err}
use Rattle.refusals.specs.Told.{Told}
use Rattle.tracer.proofs.Slots.{row-length, row-bytes, row_cut, slots_length}
use Rattle.trace_text.specs.Rows.{row_lines}

-- every gain is of two bytes
data Small : List Row → Type 0 where
  nothing : Small []
  row : {r : Row} {rs : List Row} → r.gain < 2 ^ 16 → Small rs → Small (r ∷ rs)

-- the lines by the bytes of a trace are its lines
rows_lines : (t : ℕ) (ls : List ℕ) (rs : List Row) (rest : List ℕ) → length rs ≡ length ls → Small rs →
    row_lines t ls (trace_bytes rs ++ rest) ≡ trace_lines t ls rs
unfolding trace_bytes
rows_lines t [] rs rest e s = refl
rows_lines t (l ∷ ls) [] rest e s = absurd (omega arith)
rows_lines t (l ∷ ls) (r ∷ rs) rest e (row g s) =
    (λ i. trace_line t l (record { ran = r.ran; gain = gain i; cut = cut i }) ++ row_lines (suc t) ls (later i))
    ∙ ap (λ (m : List ℕ). trace_line t l r ++ m) (rows_lines (suc t) ls rs rest (suc_inj e) s)
  where
    whole : trace_bytes (r ∷ rs) ++ rest ≡ row_bytes r ++ (trace_bytes rs ++ rest)
    whole = append_assoc (row_bytes r) (trace_bytes rs) rest

    gain : number (part (trace_bytes (r ∷ rs) ++ rest) 1 2) ≡ r.gain
    gain =
        ap (λ (l : List ℕ). number (part l 1 2)) (whole ∙ row-bytes r (trace_bytes rs ++ rest)) ∙ field-read 2 r.gain (r.cut ∷ (trace_bytes rs ++ rest)) g

    cut : get_or (trace_bytes (r ∷ rs) ++ rest) 3 0 ≡ r.cut
    cut = ap (λ (l : List ℕ). get_or l 3 0) whole ∙ row_cut r (trace_bytes rs ++ rest)

    later : drop row_size (trace_bytes (r ∷ rs) ++ rest) ≡ trace_bytes rs ++ rest
    later = ap (drop row_size) whole ∙ drop_at (row_bytes r) (trace_bytes rs ++ rest) row_size (row-length r)

-- the slots of a sound plan gain no more than a value
slots_small : (P : Plan) → IsSound P → (ran : Option JobId) (js : List Job) (ls : List ℕ) → Small (slots P ran js ls)
slots_small P s ran js [] = nothing
slots_small P s ran js (l ∷ ls) =
    row {r = row_of P ran js l} (omega (arith, gain-most P js l max_value (λ i h. (task-sound P (sound-plan P s) i h).value_fits)))
    (slots_small P s (slot P js l).ran (slot P js l).jobs ls)

-- what a trace that is written says of plan and labels
pub record Written (plan labels : List ℕ) (rs : List Row) : Type 0 where
  pub few : length labels ≤ max_labels
  pub each : length rs ≡ length labels
  pub lines : (rest : List ℕ) → row_lines 0 labels (trace_bytes rs ++ rest) ≡ trace_lines 0 labels rs

-- a trace that the definition gives was written so
pub traced-written : (plan labels : List ℕ) (lent : ℕ) (rs : List Row) → trace plan labels lent ≡ writes rs → Written plan labels rs
unfolding trace
traced-written plan labels lent rs h =
    let read = over-sound trace_room lent (read_plan plan) (λ P. trace_run P labels) rs h in
    let P = read.0 in
    let slotted = traced-slots plan labels lent P read.1 rs h in
    let size = slots_length P none [] labels in
    subst (Written plan labels) slotted.1 (record {
      few = slotted.0;
      each = size;
      lines = λ rest. rows_lines 0 labels (slots P none [] labels) rest size (slots_small P (record { bytes = plan; read = read.1 }) none [] labels);
    })

-- the text by what the call told
module _ (plan labels before after : List ℕ) (lent : ℕ) (same : lent ≡ trace_room) where
  at_room : trace plan labels lent ≡ trace plan labels trace_room
  at_room = ap (trace plan labels) same

  -- a refusal is its line
  pub refusal-text : (r : Refusal) → Told trace_bytes (trace plan labels lent) before after (Err r) →
      refused_line (refusal_number r) ≡ trace_text labels (trace plan labels trace_room)
  unfolding trace_text
  refusal-text r h = go (trace plan labels lent) refl h ∙ ap (trace_text labels) at_room
    where
      go : (a : Writing (List Row)) → trace plan labels lent ≡ a → Told trace_bytes a before after (Err r) → refused_line (refusal_number r) ≡ trace_text labels (trace plan labels lent)
      go (refuses n) e t =
          let same_number : refusal_number r ≡ n = let k = t.answer in cc in
          ap refused_line same_number ∙ sym (ap (trace_text labels) e)
      go (writes rs) e t = let k = t.answer in let z : ◌≡◌ {A = ℕ} 0 1 = cc in absurd (omega arith)

  -- a trace that was written is its table
  pub record Table : Type 0 where
    pub few : length labels ≤ max_labels
    pub text : trace_header ++ row_lines 0 labels after ≡ trace_text labels (trace plan labels trace_room)

  pub table-text : (n : ℕ) → Told trace_bytes (trace plan labels lent) before after (Ok n) → Table
  unfolding trace_text output_after overwrite
  table-text n h = go (trace plan labels lent) refl h
    where
      go : (a : Writing (List Row)) → trace plan labels lent ≡ a → Told trace_bytes a before after (Ok n) → Table
      go (refuses m) e t = let k = t.answer in let z : ◌≡◌ {A = ℕ} 0 1 = cc in absurd (omega arith)
      go (writes rs) e t =
          let w = traced-written plan labels lent rs e in
          record {
            few = w.few;
            text =
                ap (λ (l : List ℕ). trace_header ++ row_lines 0 labels l) t.output
                ∙ ap (λ (l : List ℕ). trace_header ++ l) (w.lines (drop (0 + length (trace_bytes rs)) before))
                ∙ ap (trace_text labels) (sym e ∙ at_room);
          }
