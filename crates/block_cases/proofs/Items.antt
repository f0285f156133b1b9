-- An item's bytes: how many writes it makes, and that each of them stands inside.
-- Assumes nothing.
use mathlib.Core.Path.{◌≡◌, refl, ap, ◌∙◌}
use mathlib.Core.Bool.{Bool, true, false, cond}
use mathlib.Core.List.{List}
use Prim.Native.Nat.{ℕ, zero, suc, ◌+◌, ◌*◌, ◌%◌, ◌^◌, ◌≤◌, ◌<◌}
use native.Mathlib.Nat.{mul-zero, mul-le-mul, mod-lt}
use native.Mathlib.Omega.{arith}
use lib.Dec.{ltb}
use lib.ListN.{length, get_or}
use borrow.Author.Tests.{lt-ltb, le-ltb, ltb-false}
use Rattle.model.specs.Bytes.{number, part}
use Rattle.controller.specs.View.{write_of}
use Rattle.block_cases.specs.Script.{item_count, item_total, item_write}

-- a number of four bytes times one of one byte
pub product_small : {m n : ℕ} → m < 2 ^ 32 → n < 256 → m * n < 2 ^ 64
product_small {m} {n} h g =
    let most : m * n ≤ 2 ^ 32 * 256 = mul-le-mul {n₂ = 2 ^ 32} {m₂ = 256} (omega arith) (omega arith) in
    omega arith

module _ (item : List ℕ) where
  abbrev total_by : Bool → ℕ
  total_by short = cond short 0 (number (part item 0 4) * item_count item)

  -- an item that is too short makes none
  pub total_short : length item < 5 + 9 * item_count item → item_total item ≡ 0
  total_short h = ap total_by (lt-ltb (length item) (5 + 9 * item_count item) h)

  -- any other its writes, so many times over
  pub total_whole : 5 + 9 * item_count item ≤ length item → item_total item ≡ number (part item 0 4) * item_count item
  total_whole h = ap total_by (le-ltb (length item) (5 + 9 * item_count item) h)

  -- one that makes some has one, and is whole
  made-whole : (k : ℕ) → k < item_total item → (0 < item_count item) × (5 + 9 * item_count item ≤ length item)
  made-whole k h = go (ltb (length item) (5 + 9 * item_count item)) refl h
    where
      some : (n m : ℕ) → k < m * n → 0 < n
      some zero m g = absurd (omega (arith, mul-zero m))
      some (suc n) m g = omega arith

      go : (b : Bool) → ltb (length item) (5 + 9 * item_count item) ≡ b → k < total_by b → (0 < item_count item) × (5 + 9 * item_count item ≤ length item)
      go true e g = absurd (omega arith)
      go false e g = (some (item_count item) (number (part item 0 4)) g, ltb-false (length item) (5 + 9 * item_count item) e)

-- where the k-th write stands, by the count that the code has
pub record Standing (item : List ℕ) (count k : ℕ) : Type 0 where
  pub some : 0 < count
  pub inside : 5 + 9 * (k % count) + 9 ≤ length item
  pub read : (byte : ℕ) → byte ≡ number (part item (5 + 9 * (k % count)) 8) → write_of byte (get_or item (5 + 9 * (k % count) + 8) 0) ≡ item_write item k

pub standing : (item : List ℕ) (count total k : ℕ) → count ≡ item_count item → total ≡ item_total item → k < total → Standing item count k
standing item count total k counted all h =
    let whole = made-whole item k (omega arith) in
    let some : 0 < count = omega arith in
    record {
      some = some;
      inside = omega (arith, mod-lt k some);
      read = λ byte e.
          ap (λ (n : ℕ). write_of n (get_or item (5 + 9 * (k % count) + 8) 0)) e
          ∙ ap (λ (n : ℕ). write_of (number (part item (5 + 9 * (k % n)) 8)) (get_or item (5 + 9 * (k % n) + 8) 0)) counted;
    }
