-- Bytes that are written one piece after another: with what is still to be written, the whole.
-- Assumes nothing.
use mathlib.Core.Path.{◌≡◌, refl, ◌∙◌, subst}
use mathlib.Core.List.{List, [], ◌++◌}
use Prim.Native.Nat.{ℕ, ◌+◌, ◌≤◌}
use native.Mathlib.Omega.{arith}
use lib.ListN.{length, length-append}
use Rattle.model.specs.Bytes.{Put}
use Rattle.words.proofs.Put.{put-none, put_then}

-- once the rest is written at the end, all stands at the place
pub record Ahead (before : List ℕ) (at : ℕ) (all now : List ℕ) (end : ℕ) (rest : List ℕ) : Type 0 where
  pub size : length now ≡ length before
  pub next : end + length rest ≡ at + length all
  pub whole : (after : List ℕ) (last : ℕ) → last ≤ length before → Put now after end rest last → Put before after at all last

pub ahead-start : (m : List ℕ) (at : ℕ) (all : List ℕ) → Ahead m at all m at all
ahead-start m at all = record { size = refl; next = refl; whole = λ after last h p. p }

pub ahead_as : {before all now xs ys : List ℕ} {at end : ℕ} → xs ≡ ys → Ahead before at all now end xs → Ahead before at all now end ys
ahead_as {before} {all} {now} {at = at} {end = end} e a = subst (λ (l : List ℕ). Ahead before at all now end l) e a

-- one piece more
pub ahead-next : {before all now more xs ys : List ℕ} {at end place : ℕ} → Put now more end xs place → length more ≡ length now →
    Ahead before at all now end (xs ++ ys) → Ahead before at all more place ys
ahead-next {before} {now = now} {more = more} {xs = xs} {ys = ys} p same a = record {
  size = same ∙ a.size;
  next = omega (arith, p.next, a.next, length-append xs ys);
  whole = λ after last h q. a.whole after last h (put_then p q (omega (arith, h, a.size)));
}

-- nothing is left
pub ahead-end : {before all now : List ℕ} {at end : ℕ} → end ≤ length before → Ahead before at all now end [] → Put before now at all end
ahead-end {before} {all} {now} {at} {end} h a = a.whole now end h (put-none now end)
