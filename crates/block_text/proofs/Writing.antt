-- Lines that are written one after another, each with its write made.
-- Assumes nothing.
use mathlib.Core.Path.{◌≡◌, refl, sym, ap, ap₂, ◌∙◌, subst}
use mathlib.Core.Bool.{Bool, true, false, cond, ◌||◌}
use mathlib.Core.List.{List, ◌∷◌}
use Prim.Native.Nat.{ℕ, ◌+◌, ◌*◌, ◌/◌, ◌^◌, ◌≤◌, ◌<◌}
use native.Mathlib.Omega.{arith}
use lib.ListN.{length, get_or, drop}
use Rattle.model.specs.Bytes.{Put}
use Rattle.model.specs.Controller as model
use Rattle.model.specs.Controller.{Write, gives_label, runs, gives_mask, refusal_of, registers, after_write, writes_in}
use Rattle.model.specs.Plan.{Plan}
use Rattle.model.specs.Refusals.{bad_write}
use Rattle.model.specs.Text.{numbers_line, write_line, write_lines}
use Rattle.words.proofs.Numbers.{AreBytes}
use Rattle.words.proofs.Put.{put_as}
use Rattle.text.proofs.Put.{counted}
use Rattle.policy.specs.View.{Tasks, tasks_in}
use Rattle.policy.specs.declared.Rules.{Rules}
use Rattle.controller.specs.Block.{Ready, block_of}
use Rattle.controller.specs.View.{write_of, PartOf, Becomes}
use Rattle.controller.specs.declared.part.Block.{Block}
use Rattle.controller.proofs.Lists.{writes_at, writes_end}
use Rattle.controller.proofs.Reached.{Reached, reached-start, reached-next, reached-end}
use Rattle.block_text.specs.Lines.{line_room, Lined}
use Rattle.block_text.proofs.Ahead.{Ahead, ahead-start, ahead_as, ahead-next, ahead-end}
use Rattle.block_text.proofs.Line.{line-short}

-- a refusal has at most two digits
pub refusal_small : (w : Write) → refusal_of w < 10 ^ 2
unfolding refusal_of
refusal_small w = go (gives_label w || runs w || gives_mask w)
  where
    go : (b : Bool) → cond b 0 bad_write < 10 ^ 2
    go true = omega arith
    go false = omega arith

-- the writes before a place are made and their lines written: with those from it on all are
pub record Writing (r : Rules) (next writes : List ℕ) (b : Block) (before out : List ℕ) (after : Block) (end i : ℕ) : Type 0 where
  pub reached : Reached r next writes b after i
  pub size : length out ≡ length before
  pub room : end ≤ line_room * (i / 2)
  pub lines : (P : Plan) → PartOf P r next →
      Ahead before 0 (write_lines P (block_of (tasks_in r) b) (writes_in writes)) out end (write_lines P (block_of (tasks_in r) after) (writes_in (drop i writes)))

-- the write at a place is made: its refusal, and the bytes as the block then reads
pub record Made (r : Rules) (next writes : List ℕ) (after : Block) (i byte refusal : ℕ) (bytes : List ℕ) (more : Block) : Type 0 where
  pub inside : i + 1 < length writes
  pub read : byte ≡ get_or writes i 0
  pub block : Becomes r next (λ P. after_write P (block_of (tasks_in r) after) (write_of byte (get_or writes (i + 1) 0))) more
  pub told : refusal ≡ refusal_of (write_of byte (get_or writes (i + 1) 0))
  pub shown : (ts : Tasks) → bytes ≡ registers (block_of ts more)
  pub sixteen : length bytes ≡ 16
  pub low : AreBytes bytes

pub writing_start : (r : Rules) (next writes : List ℕ) (b : Block) (before : List ℕ) → Ready r b → Writing r next writes b before before b 0 0
writing_start r next writes b before ready = record {
  reached = reached-start r next writes b ready;
  size = refl;
  room = omega arith;
  lines = λ P part. ahead-start _ _ _;
}

module _ (r : Rules) (next writes : List ℕ) (b : Block) (before out : List ℕ) (after : Block) (end i : ℕ)
    (fits : line_room * (length writes / 2) ≤ length before) (h : Writing r next writes b before out after end i) where
  -- one write more, with its line
  module _ (byte refusal : ℕ) (bytes : List ℕ) (more : Block) (m : Made r next writes after i byte refusal bytes more) where
    abbrev write : Write
    write = write_of byte (get_or writes (i + 1) 0)

    abbrev later : List Write
    later = writes_in (drop (i + 2) writes)

    first : writes_in (drop i writes) ≡ write ∷ later
    first = writes_at writes i m.inside ∙ ap (λ (n : ℕ). write_of n (get_or writes (i + 1) 0) ∷ later) (sym m.read)

    short : length (numbers_line refusal bytes) ≤ line_room
    short = line-short refusal bytes (omega (arith, m.told, refusal_small write)) m.low m.sixteen

    pub line-room : end + length (numbers_line refusal bytes) ≤ length out
    line-room = omega (arith, short, h.room, h.size, m.inside)

    line : (P : Plan) → PartOf P r next → numbers_line refusal bytes ≡ write_line P (block_of (tasks_in r) after) write
    unfolding write_line
    line P part = ap₂ numbers_line m.told (m.shown (tasks_in r) ∙ ap registers (m.block.is P part))

    pub writing-next : (written : List ℕ) (place : ℕ) → Put out written end (numbers_line refusal bytes) place → length written ≡ length out → (j : ℕ) → j ≡ i + 2 →
        Writing r next writes b before written more place j
    writing-next written place p same j e = subst (λ (k : ℕ). Writing r next writes b before written more place k) (sym e) (record {
      reached = reached-next r next writes b after i h.reached byte m.read more m.inside (i + 2) refl m.block;
      size = same ∙ h.size;
      room = omega (arith, p.next, short, h.room);
      lines = λ P part.
          ahead_as (ap (λ (k : model.Block). write_lines P k later) (sym (m.block.is P part)))
          (ahead-next {xs = write_line P (block_of (tasks_in r) after) write} {ys = write_lines P (after_write P (block_of (tasks_in r) after) write) later}
          (put_as (line P part) p) same
          (ahead_as (ap (write_lines P (block_of (tasks_in r) after)) first) (h.lines P part)));
    })

  -- all of them
  pub writing-end : length writes ≤ i + 1 → Lined before out r next b writes (record { block = after; end = end })
  writing-end done = record {
    text = λ P part.
        ahead-end (omega (arith, h.room, h.reached.inside)) (ahead_as (ap (write_lines P (block_of (tasks_in r) after)) (writes_end writes i done)) (h.lines P part));
    block = reached-end r next writes b after i h.reached done;
    inside = counted end out (omega (arith, h.room, h.reached.inside, h.size));
  }
