-- Writes that are read in parts.
-- Assumes nothing.
use mathlib.Core.Path.{◌≡◌, refl, sym, ap, ◌∙◌}
use mathlib.Core.List.{List, [], ◌∷◌, ◌++◌, append_assoc}
use Prim.Native.Nat.{ℕ, ◌%◌}
use native.Mathlib.Omega.{arith}
use lib.ListN.{length}
use Rattle.model.specs.Controller.{Block, Write, after_write, after_writes, writes_in}
use Rattle.model.specs.Plan.{Plan}
use Rattle.model.specs.Text.{write_line, write_lines}
use Rattle.theory.proofs.Controller.{after_more}
use Rattle.policy.specs.View.{tasks_in}
use Rattle.policy.specs.declared.Rules.{Rules}
use Rattle.controller.specs.Block.{Ready, block_of}
use Rattle.controller.specs.View.{Becomes}
use Rattle.controller.specs.declared.part.Block as controller

-- an even number of bytes tears no write
pub writes-append : (bs cs : List ℕ) → length bs % 2 ≡ 0 → writes_in (bs ++ cs) ≡ writes_in bs ++ writes_in cs
writes-append [] cs h = refl
writes-append (n ∷ []) cs h = absurd (omega arith)
writes-append (n ∷ v ∷ bs) cs h = ap (λ (ws : List Write). record { byte = n; value = v } ∷ ws) (writes-append bs cs (omega arith))

lines_append : (P : Plan) (b : Block) (ws vs : List Write) → write_lines P b (ws ++ vs) ≡ write_lines P b ws ++ write_lines P (after_writes P b ws) vs
lines_append P b [] vs = refl
lines_append P b (w ∷ ws) vs =
    ap (λ (l : List ℕ). write_line P b w ++ l) (lines_append P (after_write P b w) ws vs)
    ∙ sym (append_assoc (write_line P b w) (write_lines P (after_write P b w) ws) (write_lines P (after_writes P (after_write P b w) ws) vs))

-- the block after a part and then the rest, and their lines
module _ (P : Plan) (b : Block) (bs cs : List ℕ) (even : length bs % 2 ≡ 0) where
  pub after_parts : after_writes P b (writes_in (bs ++ cs)) ≡ after_writes P (after_writes P b (writes_in bs)) (writes_in cs)
  after_parts = ap (after_writes P b) (writes-append bs cs even) ∙ after_more P b (writes_in bs) (writes_in cs)

  pub lines_parts : write_lines P b (writes_in (bs ++ cs)) ≡ write_lines P b (writes_in bs) ++ write_lines P (after_writes P b (writes_in bs)) (writes_in cs)
  lines_parts = ap (write_lines P b) (writes-append bs cs even) ∙ lines_append P b (writes_in bs) (writes_in cs)

-- ---- the block as the code has it

abbrev pub RunsTo : Rules → List ℕ → controller.Block → List ℕ → controller.Block → Type 0
RunsTo r next b writes after = Becomes r next (λ P. after_writes P (block_of (tasks_in r) b) (writes_in writes)) after

pub runs_none : (r : Rules) (next : List ℕ) (b : controller.Block) → Ready r b → RunsTo r next b [] b
runs_none r next b ready = record { is = λ P part. refl; ready = ready }

-- one part after another
pub runs_parts : (r : Rules) (next : List ℕ) (b : controller.Block) (bs cs : List ℕ) (middle after : controller.Block) → length bs % 2 ≡ 0 →
    RunsTo r next b bs middle → RunsTo r next middle cs after → RunsTo r next b (bs ++ cs) after
runs_parts r next b bs cs middle after even h g = record {
  is = λ P part.
      g.is P part
      ∙ ap (λ (k : Block). after_writes P k (writes_in cs)) (h.is P part)
      ∙ sym (after_parts P (block_of (tasks_in r) b) bs cs even);
  ready = g.ready;
}
