-- A part after writes: one more, and those of one item after another.
-- Assumes nothing.
use mathlib.Core.Path.{◌≡◌, refl, sym, ap, ◌∙◌, subst}
use mathlib.Core.List.{List, [], ◌∷◌, ◌++◌, append_assoc, append-nil, foldl, foldl-append}
use Prim.Native.Nat.{ℕ, ◌+◌, ◌^◌, ◌≤◌, ◌<◌}
use native.Mathlib.Omega.{arith}
use lib.ListN.{length}
use Rattle.model.specs.Controller.{Write, refusal_of, last_refusal}
use Rattle.model.specs.Text.{numbers_line}
use Rattle.model.proofs.Lists.{table_more}
use Rattle.words.proofs.Numbers.{AreBytes}
use Rattle.controller.specs.View.{After, Writes}
use Rattle.controller.specs.declared.part.Controller.{Controller}
use Rattle.block_text.specs.Lines.{line_room}
use Rattle.block_text.proofs.Line.{line-short}
use Rattle.block_text.proofs.Writing.{refusal_small}
use Rattle.block_cases.specs.Script.{item_write, first_writes, Moved, Scripted}

-- ---- the part

pub moved_none : (c : Controller) → Moved c [] c
moved_none c = record { more = λ P vs h. subst (λ (ws : List Write). After P ws c) (sym (append-nil vs)) h }

pub moved_then : (a b c : Controller) (ws vs : List Write) → Moved a ws b → Moved b vs c → Moved a (ws ++ vs) c
moved_then a b c ws vs h g = record {
  more = λ P us start. subst (λ (l : List Write). After P l c) (append_assoc us ws vs) (g.more P (us ++ ws) (h.more P us start));
}

-- a write is a move
moved-write : (b c : Controller) (w : Write) (n : ℕ) → Writes b w c n → Moved b (w ∷ []) c
moved-write b c w n h = record { more = h.more }

-- ---- the refusal

last_more : (ws : List Write) (w : Write) → last_refusal (ws ++ (w ∷ [])) ≡ refusal_of w
last_more ws w = foldl-append (λ n w. refusal_of w) 0 ws (w ∷ [])

last_small : (ws : List Write) → last_refusal ws < 10 ^ 2
last_small ws = go ws 0 (omega arith)
  where
    go : (ws : List Write) (n : ℕ) → n < 10 ^ 2 → foldl (λ n w. refusal_of w) n ws < 10 ^ 2
    go [] n h = h
    go (w ∷ ws) n h = go ws (refusal_of w) (refusal_small w)

-- ---- an item's writes

pub scripted_none : (item : List ℕ) (c : Controller) → Scripted c (first_writes item 0) c 0
scripted_none item c = record { part = moved_none c; refusal = refl }

module _ (item : List ℕ) (a : Controller) where
  -- one more
  pub scripted_more : (k : ℕ) (b c : Controller) (m n : ℕ) (w : Write) → w ≡ item_write item k → Scripted a (first_writes item k) b m →
      Writes b w c n → Scripted a (first_writes item (k + 1)) c n
  scripted_more k b c m n w e h g =
      subst (λ (ws : List Write). Scripted a ws c n) (sym (table_more (item_write item) k ∙ ap (λ (v : Write). first_writes item k ++ (v ∷ [])) (sym e))) (record {
        part = moved_then a b c (first_writes item k) (w ∷ []) h.part (moved-write b c w n g);
        refusal = g.steps.refusal ∙ sym (last_more (first_writes item k) w);
      })

  -- all
  pub scripted_all : (k n : ℕ) (c : Controller) (m : ℕ) → k ≡ n → Scripted a (first_writes item k) c m → Scripted a (first_writes item n) c m
  scripted_all k n c m e h = subst (λ (j : ℕ). Scripted a (first_writes item j) c m) e h

-- the line of its last write
pub script_line : (a : Controller) (ws : List Write) (c : Controller) (n : ℕ) (bytes : List ℕ) → Scripted a ws c n → AreBytes bytes → length bytes ≡ 16 →
    length (numbers_line n bytes) ≤ line_room
script_line a ws c n bytes h low sixteen = line-short n bytes (omega (arith, h.refusal, last_small ws)) low sixteen
