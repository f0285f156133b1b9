-- A test that is passed by no greater gain than by a smaller one passes all choices of a label just if it passes what is noted of them.
-- Assumes nothing.
use mathlib.Core.Path.{◌≡◌, sym, ap, ap₂, subst, ◌∙◌}
use mathlib.Core.Bool.{Bool, true}
use mathlib.Core.Logic.{◌↔◌}
use mathlib.Core.List.Memᴰ
use mathlib.Core.List.{List, map, Memᴰ}
use Prim.Native.Nat.{ℕ, ◌-◌, ◌≤◌, ◌<◌}
use native.Mathlib.Omega.{arith}
use Rattle.model.specs.Graph.{choices, worth}
use Rattle.model.specs.Lists.{all}
use Rattle.model.specs.Masks.{mask_count}
use Rattle.model.proofs.Tests.{same_decided, all-each}
use Rattle.policy.specs.View.{Tasks, TasksInRange}
use Rattle.graph.proofs.Outcomes.{score_at, firsts_mem, notes, pattern_of, choice_noted, noted_choice, noted-order}

module _ (ts : Tasks) (range : TasksInRange ts) (l taken : ℕ) (low : taken < mask_count) (wanted : ℕ) where
  -- the score of a pattern, and its gain
  abbrev score : ℕ → ℕ
  score p = score_at (notes ts range l taken low wanted) p

  abbrev order : List ℕ
  order = (notes ts range l taken low wanted).order

  -- the patterns of the choices, and that those in the order are the same
  abbrev patterns : List ℕ
  patterns = map (pattern_of ts range l taken low) (choices ts l taken)

  order-mem : (p : ℕ) → Memᴰ p order ↔ Memᴰ p patterns
  order-mem p = subst (λ ps. Memᴰ p ps ↔ Memᴰ p patterns) (sym (noted-order ts range l taken low wanted)) (firsts_mem patterns p)

  -- a pattern in the order is a choice's
  pub order_choice : (p : ℕ) → Memᴰ p order → (ms : List ℕ) × Memᴰ ms (choices ts l taken) × (pattern_of ts range l taken low ms ≡ p)
  order_choice p m = Memᴰ.of_map (pattern_of ts range l taken low) (choices ts l taken) ((order-mem p).0 m)

  -- and has a score
  pub order-scored : (p : ℕ) → Memᴰ p order → 0 < score p
  order-scored p m =
      let r = order_choice p m in
      omega (arith, choice_noted ts range l taken low wanted r.0 r.1, ap score r.2)

  -- every choice's pattern is in the order
  pub choice_order : (ms : List ℕ) → Memᴰ ms (choices ts l taken) → Memᴰ (pattern_of ts range l taken low ms) order
  choice_order ms m = (order-mem (pattern_of ts range l taken low ms)).1 (Memᴰ.map (pattern_of ts range l taken low) m)

  -- the greatest gain of each pattern is enough
  pub greatest : (ok : ℕ → ℕ → Bool) → ((p g h : ℕ) → g ≤ h → ok p h ≡ true → ok p g ≡ true) →
      all (λ ms. ok (pattern_of ts range l taken low ms) (worth ts ms)) (choices ts l taken) ≡ all (λ p. ok p (score p - 1)) order
  greatest ok less =
      same_decided (all-each each (choices ts l taken)) (
        λ h ms m.
            less (pattern_of ts range l taken low ms) (worth ts ms) (score (pattern_of ts range l taken low ms) - 1)
            (omega (arith, choice_noted ts range l taken low wanted ms m)) ((all-each best order).0 h (pattern_of ts range l taken low ms) (choice_order ms m)),
        λ h. (all-each best order).1 (λ p m.
            let r = noted_choice ts range l taken low wanted p (order-scored p m) in
            let gain : worth ts r.0 ≡ score p - 1 = omega (arith, r.3) in
            sym (ap₂ ok r.2 gain) ∙ h r.0 r.1),
      )
    where
      each : List ℕ → Bool
      each ms = ok (pattern_of ts range l taken low ms) (worth ts ms)

      best : ℕ → Bool
      best p = ok p (score p - 1)
