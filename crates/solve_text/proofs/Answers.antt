-- What the solver's answer leaves to be written.
-- Assumes nothing.
use mathlib.Core.Path.{◌≡◌, sym, ap, ap₂, ◌∙◌, subst}
use mathlib.Core.List.{List}
use mathlib.Core.Option.{some, none-ne-some, some-injective}
use Prim.Native.Nat.{ℕ}
use native.Mathlib.Omega.{arith}
use lib.ListN.{length}
use Rattle.std.specs.Prelude.{Ok, Err}
use Rattle.model.specs.Bytes.{Put}
use Rattle.model.specs.Certificate.{Certificate}
use Rattle.model.specs.Limits.{work_room, certificate_room}
use Rattle.model.specs.Solve.{SolveAnswer, refused, solvable, solve}
use Rattle.model.specs.Text.{number_line, refused_line}
use Rattle.words.proofs.Put.{put_as}
use Rattle.text.proofs.Put.{put-inside}
use Rattle.io.specs.Counts.{IsPrefixLen}
use Rattle.refusals.specs.Numbers.{refusal_number}
use Rattle.refusals.specs.declared.Refusal.{Refusal}
use Rattle.solver.specs.declared.Solved.{Solved}
use Rattle.solver.specs.Promise.{Answer, refused_by, Does, Solves}
use Rattle.solver.proofs.Answers.{bytes_of, passes_of}
use Rattle.solve_text.specs.Bytes.{in_bytes, in_passes, Puts}

-- two large buffers are memory enough
pub enough : (plan : List ℕ) {lent room : ℕ} → 65536 ≡ lent → 65536 ≡ room → solve plan lent room ≡ solve plan work_room certificate_room
unfolding solve
enough plan l r = sym (ap₂ (solve plan) l r)

-- what is put stands inside
puts_inside : (spell : Certificate → ℕ → List ℕ) (d : SolveAnswer) (m n : List ℕ) (r : ℕ) → Puts spell d m n r → IsPrefixLen r n
puts_inside spell (refused k) m n r p = put-inside m n _ r p
puts_inside spell (solvable P) m n r p = put-inside m n _ r p.put

module _ {plan work work' out out' : List ℕ} {a : Answer} (solved : Solves plan work work' out out' a) where
  abbrev due : SolveAnswer
  due = solve plan (length work) (length out)

  -- what is due is put
  abbrev Promised : (Certificate → ℕ → List ℕ) → List ℕ → List ℕ → ℕ → Type 0
  Promised spell before after r = Puts spell due before after r × IsPrefixLen r after

  promised : (spell : Certificate → ℕ → List ℕ) (before after : List ℕ) (r : ℕ) → Puts spell due before after r → Promised spell before after r
  promised spell before after r p = (p, puts_inside spell due before after r p)

  module _ (f : Refusal) (e : a ≡ Err f) where
    -- after a refusal the output is as it was,
    refusal-kept : out' ≡ out
    refusal-kept = by due solved.due
      where
        by : (d : SolveAnswer) → Does d out out' a → out' ≡ out
        by (refused n) h = h.kept
        by (solvable P) h = absurd (none-ne-some _ (sym (ap refused_by h.answer) ∙ ap refused_by e))

    -- and its line is due
    pub puts_refusal : (spell : Certificate → ℕ → List ℕ) {before after : List ℕ} {r : ℕ} → Put before after 0 (refused_line (refusal_number f)) r →
        Promised spell before after r
    puts_refusal spell {before} {after} {r} put = promised spell before after r (by due solved.due)
      where
        by : (d : SolveAnswer) → Does d out out' a → Puts spell d before after r
        by (refused n) h = put_as (ap refused_line (some-injective _ _ (sym (ap refused_by e) ∙ h.number))) put
        by (solvable P) h = absurd (none-ne-some _ (sym (ap refused_by h.answer) ∙ ap refused_by e))

    -- written over the output too
    pub puts_over : {after : List ℕ} {r : ℕ} → Put out' after 0 (refused_line (refusal_number f)) r → Promised in_bytes out after r
    puts_over {after} {r} put = puts_refusal in_bytes (subst (λ m. Put m after 0 (refused_line (refusal_number f)) r) refusal-kept put)

  module _ (s : Solved) (e : a ≡ Ok s) where
    not-refused : {f : ℕ} → refused_by a ≡ some f → ⊥
    not-refused h = none-ne-some _ (sym (ap refused_by e) ∙ h)

    -- a certificate is written already
    pub puts_certificate : Promised in_bytes out out' s.bytes
    puts_certificate = promised in_bytes out out' s.bytes (by due solved.due)
      where
        by : (d : SolveAnswer) → Does d out out' a → Puts in_bytes d out out' s.bytes
        by (refused f) h = absurd (not-refused h.number)
        by (solvable P) h =
            let size = ap bytes_of (sym e ∙ h.answer) in
            record { certificate = h.certificate; passes = h.passes; solved = h.solved; put = record { bytes = h.bytes; next = omega (arith, size) } }

    -- the line of its passes
    pub puts_passes : {before after : List ℕ} {r : ℕ} → Put before after 0 (number_line s.passes) r → Promised in_passes before after r
    puts_passes {before} {after} {r} put = promised in_passes before after r (by due solved.due)
      where
        by : (d : SolveAnswer) → Does d out out' a → Puts in_passes d before after r
        by (refused f) h = absurd (not-refused h.number)
        by (solvable P) h =
            record { certificate = h.certificate; passes = h.passes; solved = h.solved; put = put_as (ap number_line (ap passes_of (sym e ∙ h.answer))) put }
