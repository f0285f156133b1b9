-- The form, from its parts: the head, the potentials and the cycle.
-- Assumes nothing.
use Rattle.std.specs.Prelude as rust
use Rattle.std.specs.Prelude.{None, Some}
use mathlib.Core.Path.{◌≡◌, refl, sym, ap, ap₂, subst₂, ◌∙◌}
use mathlib.Core.Bool.{Bool, true, false, cond, ◌&&◌, and-false}
use mathlib.Core.List.{List, []}
use mathlib.Core.Logic.{◌⊎◌, ⊎_elim}
use mathlib.Core.Option.{Option, none, some}
use Prim.Native.Nat.{ℕ, ◌+◌, ◌*◌, ◌≤◌, ◌<◌}
use native.Mathlib.Omega.{arith}
use borrow.Author.Tests.{lt-ltb, le-ltb, le-leb, lt-leb, eq-eqb, ne_eqb}
use lib.Dec.{leb, ltb, eqb}
use lib.IntN.{ℤ}
use lib.ListN.{length, take, drop}
use lib.Seq.{drop-drop}
use Rattle.model.specs.Limits.{max_nodes, max_steps}
use Rattle.model.specs.Edition.{Edition}
use Rattle.model.specs.Bytes.{number, part}
use Rattle.model.specs.Certificate.{Certificate, Step, Parsed, has, read_potentials, step_width, read_steps, is_end, with_steps, with_potentials, read_certificate_in}
use Rattle.certificate.specs.declared.Reader.{Reader}
use Rattle.certificate.specs.declared.Run.{Run}
use Rattle.certificate.specs.View.{head_command, node_command, head_size, potential_size, cycle_size, potential_in, step_in, p_in, q_in, potential_count_in, cycle_node_in, potentials_in, steps_in, steps_place, in_place, parsed, PotentialsRead, StepsRead, cycle_from}
use Rattle.certificate.proofs.Runs.{items-length}

-- ---- what a reader is asked is so of the bytes and the place that it has

module _ (r : Reader) (bs : List ℕ) (at : ℕ) (bytes : r.src.now ≡ bs) (place : r.at ≡ at) where
  pub tested : (command n : ℕ) {b t : Bool} → b ≡ has (drop r.at r.src.now) command n → b ≡ t → has (drop at bs) command n ≡ t
  tested command n is t = sym (ap₂ (λ l (k : ℕ). has (drop k l) command n) bytes place) ∙ sym is ∙ t

  pub end-tested : {b t : Bool} → b ≡ is_end (drop r.at r.src.now) → b ≡ t → is_end (drop at bs) ≡ t
  end-tested is t = sym (ap₂ (λ l (k : ℕ). is_end (drop k l)) bytes place) ∙ sym is ∙ t

  pub operand_in : (width : ℕ) {v : ℕ} → v ≡ number (part r.src.now r.at width) → v ≡ number (part bs at width)
  operand_in width is = is ∙ ap₂ (λ l (k : ℕ). number (part l k width)) bytes place

  pub potentials-moved : (n : ℕ) (o : rust.Option Reader) → PotentialsRead r.src.now r.at n o → PotentialsRead bs at n o
  potentials-moved n o = subst₂ (λ l (k : ℕ). PotentialsRead l k n o) bytes place

  pub steps-moved : (e : Edition) (o : rust.Option Run) → StepsRead e r.src.now r.at o → StepsRead e bs at o
  steps-moved e o = subst₂ (λ l (k : ℕ). StepsRead e l k o) bytes place

-- ---- the cycle

module _ (e : Edition) (bs : List ℕ) (p q n at : ℕ) where
  pub cycle_missing : has (drop at bs) node_command cycle_size ≡ false → none ≡ cycle_from e bs p q n at
  cycle_missing gone =
      sym
      (λ i. cond (gone i) (with_steps p q (potentials_in bs n) (cycle_node_in (drop at bs) 0) (read_steps e max_steps (drop cycle_size (drop at bs)))) none)

  module _ (here : has (drop at bs) node_command cycle_size ≡ true) where
    -- with a cycle of m steps from the node v
    abbrev with_cycle : ℕ → ℕ → Certificate
    with_cycle v m = record { p = p; q = q; potentials = potentials_in bs n; node = v; steps = steps_in e bs (at + cycle_size) m }

    -- by what is read of the steps
    by_steps : {o : Option (Parsed (List Step))} → o ≡ read_steps e max_steps (drop (at + cycle_size) bs) →
        cycle_from e bs p q n at ≡ with_steps p q (potentials_in bs n) (cycle_node_in bs at) o
    by_steps read =
        (λ i. cond (here i) (with_steps p q (potentials_in bs n) (number (take 2 (drop-drop 1 at bs i))) (read_steps e max_steps (drop-drop cycle_size at bs i))) none)
        ∙ ap (with_steps p q (potentials_in bs n) (cycle_node_in bs at)) (sym read)

    pub cycle-fault : none ≡ read_steps e max_steps (drop (at + cycle_size) bs) → none ≡ cycle_from e bs p q n at
    cycle-fault read = sym (by_steps read)

    module _ (m end : ℕ) (read : parsed bs (step_in e bs) (at + cycle_size) (step_width e) m end ≡ read_steps e max_steps (drop (at + cycle_size) bs)) where
      -- by the end, and how many they are
      by_tests : {a b : Bool} → is_end (drop end bs) ≡ a → ltb 0 m ≡ b →
          cycle_from e bs p q n at ≡ cond (a && b) (some (with_cycle (cycle_node_in bs at) m)) none
      by_tests ended counted =
          by_steps read
          ∙ ap₂ (λ s t. cond (s && t) (some (with_cycle (cycle_node_in bs at) m)) none)
          ended (ap (ltb 0) (items-length (step_in e bs) (at + cycle_size) (step_width e) m) ∙ counted)

      pub cycle-empty : m ≡ 0 → none ≡ cycle_from e bs p q n at
      cycle-empty z = sym (by_tests refl (le-ltb 0 m (omega arith)) ∙ ap (λ t. cond t (some (with_cycle (cycle_node_in bs at) m)) none) (and-false (is_end (drop end bs))))

      pub cycle-goes_on : is_end (drop end bs) ≡ false → none ≡ cycle_from e bs p q n at
      cycle-goes_on h = sym (by_tests h refl)

      pub cycle-read : (m ≡ 0 → ⊥) → is_end (drop end bs) ≡ true → (v from : ℕ) → v ≡ cycle_node_in bs at → from ≡ at + cycle_size →
          at ≡ head_size + potential_size * n → (q ≡ 0 → ⊥) →
          Some (record { fraction = record { p = p; q = q }; count = n; node = v; from = from; steps = m }) ≡ in_place (cycle_from e bs p q n at)
      cycle-read h ended v from is_v place after above =
          (λ i. Some (record { fraction = record { p = p; q = q }; count = count i; node = is_v i; from = start i; steps = steps i }))
          ∙ ap in_place (sym (by_tests ended (lt-ltb 0 m (omega (arith, h)))))
        where
          count : n ≡ length (potentials_in bs n)
          count = sym (items-length (potential_in bs) head_size potential_size n)

          steps : m ≡ length (steps_in e bs (at + cycle_size) m)
          steps = sym (items-length (step_in e bs) (at + cycle_size) (step_width e) m)

          start : from ≡ steps_place (with_cycle v m)
          start = omega (arith, place, after, count, ap (λ b. cond b 0 cycle_size) (ne_eqb q 0 above))

-- ---- the certificate

module _ (e : Edition) (bs : List ℕ) where
  -- by the head's tests
  by_head : {a b c : Bool} → has bs head_command head_size ≡ a → leb 1 (potential_count_in bs) ≡ b → leb (potential_count_in bs) max_nodes ≡ c →
      read_certificate_in e bs ≡ cond (a && b && c)
      (with_potentials e (p_in bs) (q_in bs) (read_potentials (potential_count_in bs) (drop head_size bs))) none
  unfolding read_certificate_in
  by_head h f g =
      λ i. cond (h i && f i && g i) (with_potentials e (p_in bs) (q_in bs) (read_potentials (potential_count_in bs) (drop head_size bs))) none

  pub head_missing : has bs head_command head_size ≡ false → none ≡ read_certificate_in e bs
  head_missing gone = sym (by_head gone refl refl)

  module _ (here : has bs head_command head_size ≡ true) (n : ℕ) (is_n : n ≡ potential_count_in bs) where
    pub bad_count : (n < 1) ⊎ ((1 ≤ n) × (max_nodes < n)) → none ≡ read_certificate_in e bs
    bad_count =
        ⊎_elim
        (λ h. sym (by_head here (ap (leb 1) (sym is_n) ∙ lt-leb 1 n h) refl))
        (λ h. sym (by_head here (ap (leb 1) (sym is_n) ∙ le-leb 1 n h.0) (ap (λ (m : ℕ). leb m max_nodes) (sym is_n) ∙ lt-leb n max_nodes h.1)))

    module _ (low : 1 ≤ n) (high : n ≤ max_nodes) (p q : ℕ) (is_p : p ≡ p_in bs) (is_q : q ≡ q_in bs) where
      -- by what is read of the potentials
      by_potentials : {o : Option (Parsed (List ℤ))} → o ≡ read_potentials n (drop head_size bs) → read_certificate_in e bs ≡ with_potentials e p q o
      by_potentials read =
          by_head here (ap (leb 1) (sym is_n) ∙ le-leb 1 n low) (ap (λ (m : ℕ). leb m max_nodes) (sym is_n) ∙ le-leb n max_nodes high)
          ∙ sym (λ i. with_potentials e (is_p i) (is_q i) (read_potentials (is_n i) (drop head_size bs)))
          ∙ ap (with_potentials e p q) (sym read)

      pub potentials-fault : none ≡ read_potentials n (drop head_size bs) → none ≡ read_certificate_in e bs
      potentials-fault read = sym (by_potentials read)

      module _ (end : ℕ) (read : parsed bs (potential_in bs) head_size potential_size n end ≡ read_potentials n (drop head_size bs)) where
        -- without a cycle
        abbrev bare : Certificate
        bare = record { p = p; q = q; potentials = potentials_in bs n; node = 0; steps = [] }

        -- by whether there is a cycle, and the end
        by_cycle : {b t : Bool} → eqb q 0 ≡ b → is_end (drop end bs) ≡ t →
            read_certificate_in e bs ≡ cond b (cond t (some bare) none) (cycle_from e bs p q n end)
        by_cycle z ended = by_potentials read ∙ (λ i. cond (z i) (cond (ended i) (some bare) none) (cycle_from e bs p q n end))

        pub with_cycle_lem : (q ≡ 0 → ⊥) → cycle_from e bs p q n end ≡ read_certificate_in e bs
        with_cycle_lem h = sym (by_cycle (ne_eqb q 0 h) refl)

        pub goes_on : q ≡ 0 → is_end (drop end bs) ≡ false → none ≡ read_certificate_in e bs
        goes_on z h = sym (by_cycle (eq-eqb q 0 z) h)

        pub without_cycle : q ≡ 0 → is_end (drop end bs) ≡ true → end ≡ head_size + potential_size * n →
            Some (record { fraction = record { p = p; q = q }; count = n; node = 0; from = end; steps = 0 }) ≡ in_place (read_certificate_in e bs)
        without_cycle z h after =
            (λ i. Some (record { fraction = record { p = p; q = q }; count = count i; node = 0; from = start i; steps = 0 }))
            ∙ ap in_place (sym (by_cycle (eq-eqb q 0 z) h))
          where
            count : n ≡ length (potentials_in bs n)
            count = sym (items-length (potential_in bs) head_size potential_size n)

            start : end ≡ steps_place bare
            start = omega (arith, after, count, ap (λ b. cond b 0 cycle_size) (eq-eqb q 0 z))
