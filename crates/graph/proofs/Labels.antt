-- The notes of a label's choices: their order, and that it can be read. Assumes nothing.
use mathlib.Core.Path.{◌≡◌, sym, ap, subst, ◌∙◌}
use mathlib.Core.List.Memᴰ
use mathlib.Core.List.{List, map, Memᴰ}
use Prim.Native.Nat.{ℕ, ◌<◌}
use native.Mathlib.Omega.{arith}
use lib.ListN.{length, get_or, length-map}
use Rattle.model.specs.Graph.{choices}
use Rattle.model.specs.Lists.{up_from}
use Rattle.model.specs.Masks.{mask_count}
use Rattle.model.proofs.Lists.{length-up_from, get_or-table, mem-get_or}
use Rattle.policy.specs.View.{Tasks, TasksInRange}
use Rattle.graph.specs.Outcomes.{pattern_count, Notes, pattern_in, notes_in, noted_of, nothing_noted, Room}
use Rattle.graph.specs.Label.{order_in, Readable}
use Rattle.graph.proofs.Notes.{few}
use Rattle.graph.proofs.Outcomes.{firsts, firsts_mem, pattern_of, pattern-low, noted-order}

abbrev Low : ℕ → List ℕ → Type 0
Low b l = (p : ℕ) → Memᴰ p l → p < b

module _ (ts : Tasks) (range : TasksInRange ts) (l taken wanted : ℕ) (low : taken < mask_count)
    (after : List ℕ) (count : ℕ) (noted : notes_in after count ≡ noted_of ts l taken wanted nothing_noted) where
  -- the patterns in the notes
  pub label-order : order_in after count ≡ firsts (map (pattern_of ts range l taken low) (choices ts l taken))
  unfolding notes_in
  label-order = ap (λ (n : Notes). n.order) noted ∙ noted-order ts range l taken low wanted

  order-low : Low pattern_count (order_in after count)
  order-low =
      subst (Low pattern_count) (sym label-order) (λ p m.
      let r = Memᴰ.of_map (pattern_of ts range l taken low) (choices ts l taken) ((firsts_mem (map (pattern_of ts range l taken low) (choices ts l taken)) p).0 m) in
      subst (λ (q : ℕ). q < pattern_count) r.2 (pattern-low ts range l taken low r.0 r.1))

  pub label-readable : Room after count → Readable after count
  label-readable r = record {
    few = few after count r;
    room = r.room;
    low = λ k h.
        let size : length (order_in after count) ≡ count = length-map (up_from 0 count) (pattern_in after) ∙ length-up_from 0 count in
        let member : Memᴰ (get_or (order_in after count) k 0) (order_in after count) = mem-get_or (order_in after count) k 0 (omega arith) in
        omega (arith, order-low (get_or (order_in after count) k 0) member, get_or-table (pattern_in after) count k 0 h);
  }
