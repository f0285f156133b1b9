-- `mask_text::list_mask` meets its contract: a mask with c ones is written, and no other is.
-- Assumes nothing.
use mathlib.Core.Path.{◌≡◌, sym, ap, ◌∙◌}
use mathlib.Core.Bool.{Bool}
use mathlib.Core.List.{[], ◌∷◌}
use Prim.Native.Nat.{ℕ, ◌<◌}
use native.Mathlib.Omega.{arith}
use lib.Dec.{eqb}
use lib.ListN.{length}
use borrow.Author.Tests.{eq-eqb, ne_eqb}
use Rattle.model.specs.Limits.{max_window}
use Rattle.model.specs.Lists.{cons_if, keep, ones}
use Rattle.model.proofs.Runs.{ones-counted}
use Rattle.words.proofs.Put.{put-none, put_byte, put_as}
use Rattle.mask_text.proofs.list_mask.Goals as goal
use Rattle.mask_text.proofs.list_mask.Goals.{Else-m-c}

-- a mask with c ones, and any other
kept : (m c : ℕ) → ones max_window m ≡ c → m ∷ [] ≡ keep (λ k. eqb (ones max_window k) c) (m ∷ [])
kept m c e = ap (λ (b : Bool). cons_if b m []) (sym (eq-eqb (ones max_window m) c e))

left_out : (m c : ℕ) → (ones max_window m ≡ c → ⊥) → [] ≡ keep (λ k. eqb (ones max_window k) c) (m ∷ [])
left_out m c n = ap (λ (b : Bool). cons_if b m []) (sym (ne_eqb (ones max_window m) c n))

pub returns-then-m-c : goal.returns-then-m-c
returns-then-m-c c =
    let a = c.args in
    put_as (left_out a.m a.c (λ e. c.if-m-c.true (ones-counted max_window a.m c.requires.0 ∙ e))) (put-none a.table.now a.at)

-- the mask has c ones
has : (c : Else-m-c) → ones max_window c.args.m ≡ c.args.c
has c = sym (ones-counted max_window c.args.m c.requires.0) ∙ c.if-m-c.false

-- and there is room for it
fits : (c : Else-m-c) → c.args.at < length c.args.table.now
fits c = omega (arith, c.requires.1, ap length (kept c.args.m c.args.c (has c)))

pub bounds-table-at : goal.bounds-table-at
bounds-table-at c = fits c

pub returns : goal.returns
returns c =
    let a = c.args in
    put_as (kept a.m a.c (has c)) (put_byte a.table.now a.at a.m (fits c))
