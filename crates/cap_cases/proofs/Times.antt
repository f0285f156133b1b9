-- Labels that are fed time after time.
-- Assumes nothing.
use mathlib.Core.Path.{◌≡◌, sym, ap, subst}
use mathlib.Core.List.{List, []}
use Prim.Native.Nat.{ℕ, zero, suc, ◌+◌, ◌-◌, ◌*◌, ◌^◌, ◌≤◌, ◌<◌}
use native.Mathlib.Nat.{zero-mul, suc-mul, mul-le-mul}
use native.Mathlib.Numerals.{add-one}
use native.Mathlib.Omega.{arith}
use lib.ListN.{length, length-append}
use Rattle.cap.specs.View.{Watching, Feeds}
use Rattle.cap.specs.declared.Cap.{Cap}
use Rattle.cap.specs.declared.Watch.{Watch}
use Rattle.cap.proofs.Answers.{feeds_none, feeds_parts, watching_more}
use Rattle.cap_cases.specs.Kinds.{repeated}

-- one time of those that are left
one_more : (left n : ℕ) → 0 < left → n + (left - 1) * n ≤ left * n
one_more left n h =
    let same : left ≡ suc (left - 1) = omega arith in
    omega (arith, ap (λ (m : ℕ). m * n) same, suc-mul (left - 1) n)

-- the labels are fed so many times, of so many
pub record Through (c : Cap) (before after : Watch) (labels : List ℕ) (times made : ℕ) : Type 0 where
  pub within : made ≤ times
  pub fed : Feeds c before (repeated made labels) after
  pub goes : Watching c after ((times - made) * length labels)

module _ (c : Cap) (before : Watch) (labels : List ℕ) (times : ℕ) where
  pub through_start : Watching c before (times * length labels) → Through c before before labels times 0
  through_start w = record {
    within = omega arith;
    fed = feeds_none c before;
    goes = watching_more c before before [] (times * length labels) ((times - 0) * length labels) (omega (arith, ap (λ (n : ℕ). n * length labels) whole)) (feeds_none c before) w;
  }
    where
      whole : times - 0 ≡ times
      whole = omega arith

  module _ (after : Watch) (made : ℕ) (t : Through c before after labels times made) where
    pub through_goes : made < times → Watching c after (length labels)
    through_goes h =
        watching_more c after after [] ((times - made) * length labels) (length labels) (omega (arith, one_more (times - made) (length labels) (omega arith)))
        (feeds_none c after) t.goes

    pub through_next : made < times → (next : Watch) → Feeds c after labels next → Through c before next labels times (made + 1)
    through_next h next f =
        let left : times - made - 1 ≡ times - (made + 1) = omega arith in
        record {
          within = omega arith;
          fed = subst (λ (n : ℕ). Feeds c before (repeated n labels) next) (sym (add-one made)) (feeds_parts c before after next (repeated made labels) labels t.fed f);
          goes = subst (λ (n : ℕ). Watching c next (n * length labels)) left
              (watching_more c after next labels ((times - made) * length labels) ((times - made - 1) * length labels) (one_more (times - made) (length labels) (omega arith)) f t.goes);
        }

    pub through_end : times ≤ made → Feeds c before (repeated times labels) after
    through_end h = let all : made ≡ times = omega (arith, t.within) in subst (λ (n : ℕ). Feeds c before (repeated n labels) after) all t.fed

pub repeated-length : (n : ℕ) (labels : List ℕ) → length (repeated n labels) ≡ n * length labels
repeated-length zero labels = sym (zero-mul (length labels))
repeated-length (suc n) labels = omega (arith, length-append (repeated n labels) labels, repeated-length n labels, suc-mul n (length labels))

-- labels of a case, so many times over, and others behind them can be counted
pub times_fit : (times n m : ℕ) → times < 2 ^ 32 → n < 2 ^ 17 → m < 2 ^ 17 → times * n + m < 2 ^ 64
times_fit times n m h g k = omega (arith, mul-le-mul {n₁ = times} {m₁ = n} {n₂ = 2 ^ 32} {m₂ = 2 ^ 17} (omega arith) (omega arith))
