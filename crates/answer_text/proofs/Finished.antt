-- A call's answer, finished, is the text of what was due.
-- Assumes nothing.
use mathlib.Core.Path.{◌≡◌, refl, ap, subst, ◌∙◌}
use mathlib.Core.List.{List}
use Prim.Native.Nat.{ℕ, ◌≤◌}
use native.Mathlib.Omega.{arith}
use lib.ListN.{length}
use Rattle.std.specs.Prelude.{Ok, Err}
use Rattle.model.specs.Bytes.{Put}
use Rattle.model.specs.Calls.{Writing, refuses, writes, output_after}
use Rattle.model.specs.Text.{refused_line, writing_text}
use Rattle.io.specs.Counts.{IsPrefixLen}
use Rattle.words.proofs.Put.{put_as}
use Rattle.text.proofs.Put.{put-inside, counted}
use Rattle.refusals.specs.Numbers.{refusal_number}
use Rattle.refusals.specs.Told.{Answer, Told}
use Rattle.refusals.proofs.Told.{told_as, told-bytes}
use Rattle.answer_text.specs.Finish.{Finishes, Printable, refusal_room}

module _ {A : Type 0} (spell : A → List ℕ) where
  pub finished : (due : Writing A) (before mid after : List ℕ) (r : Answer) (n : ℕ) → Told spell due before mid r → Finishes r mid after n →
      Put before after 0 (writing_text spell due) n
  unfolding output_after writing_text
  finished (refuses m) before mid after (Err r) n t f =
      let same : refusal_number r ≡ m = let k = t.answer in cc in
      put_as (ap refused_line same) (subst (λ (l : List ℕ). Put l after 0 (refused_line (refusal_number r)) n) t.output f)
  finished (refuses m) before mid after (Ok k) n t f = let e = t.answer in let z : ◌≡◌ {A = ℕ} 0 1 = cc in absurd (omega arith)
  finished (writes a) before mid after (Err r) n t f = let e = t.answer in let z : ◌≡◌ {A = ℕ} 0 1 = cc in absurd (omega arith)
  finished (writes a) before mid after (Ok k) n t f =
      let size : k ≡ length (spell a) = let e = t.answer in cc in
      record { bytes = f.0 ∙ t.output; next = omega (arith, f.1, size) }

-- what is finished stands in the output
pub finished_inside : (r : Answer) (mid after : List ℕ) (n : ℕ) → Printable r mid → Finishes r mid after n → IsPrefixLen n after
finished_inside (Err r) mid after n w f = put-inside mid after (refused_line (refusal_number r)) n f
finished_inside (Ok k) mid after n w f = counted n after (omega (arith, w.inside k refl, f.1, ap length f.0))

-- and what a call has written fits
module _ {A : Type 0} (spell : A → List ℕ) (due : Writing A) where
  pub told_printable : (before after : List ℕ) (r : Answer) → refusal_room ≤ length after → Told spell due before after r → Printable r after
  unfolding output_after
  told_printable before after r room t = record {
    room = room;
    inside = λ n e.
        let w = told-bytes spell due before after n (told_as e t) in
        let put : Put before after 0 (spell w.what) n = record {
          bytes = t.output ∙ ap (λ (d : Writing A). output_after spell d before) w.is_due;
          next = omega (arith, w.size);
        } in
        (put-inside before after (spell w.what) n put).0;
  }
