-- The state of the search after a node is marked, and at the start. Assumes nothing.
use mathlib.Core.Path.{◌≡◌, refl, sym, ap, subst, ◌∙◌}
use mathlib.Core.Bool.{true, false, true≢false}
use mathlib.Core.List.{List}
use Prim.Native.Nat.{ℕ, ◌<◌, ◌≤◌}
use native.Mathlib.Decide.{ℕ_discrete}
use native.Mathlib.Omega.{arith}
use lib.IntN.{ℤ}
use Rattle.model.specs.Limits.{max_nodes}
use Rattle.model.specs.Passes.{beginning}
use Rattle.theory.specs.Search.{distances_of, Search}
use Rattle.theory.proofs.Search as search
use Rattle.theory.proofs.Search.{Alike, search-start}
use Rattle.theory.proofs.Searched.{told-start}
use Rattle.theory.proofs.Upward.{changed-at, changed_off}
use Rattle.links.specs.declared.Link.{Link}
use Rattle.links.specs.declared.Mark.TheVariants.{Tried}
use Rattle.links.specs.Links.{link_in, is_known, is_waiting, state_in, marked, Puts, no_link, start_link, Begins}

module _ {m m' : List ℕ} {u : ℕ} (puts : Puts u (marked Tried (link_in m u)) m m') where
  at_mark : u < max_nodes → link_in m' u ≡ marked Tried (link_in m u)
  at_mark h = puts.links u h ∙ changed-at (link_in m) u (marked Tried (link_in m u)) u refl

  off_mark : (x : ℕ) → x < max_nodes → (x ≡ u → ⊥) → link_in m' x ≡ link_in m x
  off_mark x h q = puts.links x h ∙ changed_off (link_in m) u (marked Tried (link_in m u)) x q

  -- the node waits no longer
  pub mark_tried : u < max_nodes → (state_in m').waiting u ≡ false
  mark_tried h = ap (λ (l : Link). is_waiting l.mark) (at_mark h)

  module _ {n : ℕ} (few : n ≤ max_nodes) (known : (state_in m).known u ≡ true) where
    abbrev Same : ℕ → Type 0
    Same x = ((state_in m).known x ≡ (state_in m').known x) × ((search.tried (state_in m) u).waiting x ≡ (state_in m').waiting x)
        × ((link_in m x).distance ≡ (link_in m' x).distance) × ((link_in m x).parent ≡ (link_in m' x).parent) × ((link_in m x).label ≡ (link_in m' x).label)

    same : (x : ℕ) → x < n → Same x
    same x h = by (ℕ_discrete x u)
      where
        by : Dec (x ≡ u) → Same x
        by (yes p) =
            let e = at_mark (subst (λ (y : ℕ). y < max_nodes) p (omega arith)) in
            subst Same (sym p) (
              known ∙ ap (λ (l : Link). is_known l.mark) (sym e),
              changed-at (state_in m).waiting u false u refl ∙ ap (λ (l : Link). is_waiting l.mark) (sym e),
              ap (λ (l : Link). l.distance) (sym e),
              ap (λ (l : Link). l.parent) (sym e),
              ap (λ (l : Link). l.label) (sym e),
            )
        by (no q) =
            let e = sym (off_mark x (omega arith) q) in (
              ap (λ (l : Link). is_known l.mark) e,
              changed_off (state_in m).waiting u false x q ∙ ap (λ (l : Link). is_waiting l.mark) e,
              ap (λ (l : Link). l.distance) e,
              ap (λ (l : Link). l.parent) e,
              ap (λ (l : Link). l.label) e,
            )

    -- and all else is as it was
    pub mark_alike : Alike n (search.tried (state_in m) u) (state_in m')
    mark_alike = record {
      known = λ x h. (same x h).0;
      waiting = λ x h. (same x h).1;
      dist = λ x h. (same x h).2;
      parent = λ x h. (same x h).3;
      label = λ x h. (same x h).4;
    }

-- ---- the start

module _ {n : ℕ} {m m' : List ℕ} (few : n ≤ max_nodes) (b : Begins m m') where
  first : link_in m' 0 ≡ start_link
  first = b.links 0 (omega arith)

  -- the start node alone is known
  alone : (v : ℕ) → v < n → (state_in m').known v ≡ true → v ≡ 0
  alone v h k = by (ℕ_discrete v 0)
    where
      by : Dec (v ≡ 0) → v ≡ 0
      by (yes p) = p
      by (no q) =
          let e = b.links v (omega arith) ∙ changed_off (λ x. no_link) 0 start_link v q in
          absurd (true≢false (sym k ∙ ap (λ (l : Link). is_known l.mark) e))

  -- the search starts
  pub begin_search : (Between : ℕ → ℕ → ℕ → ℤ → Type 0) (c : ℕ) → Search Between n c (state_in m')
  begin_search Between c =
      search-start Between n c (state_in m')
      (ap (λ (l : Link). is_known l.mark) first) (ap (λ (l : Link). is_waiting l.mark) first) (ap (λ (l : Link). l.distance) first) alone

  -- "from 0 at the start node, the others unknown"
  pub begin_found : 0 < n → distances_of n (state_in m') ≡ beginning n
  begin_found positive =
      told-start n (state_in m') positive (ap (λ (l : Link). is_known l.mark) first) (ap (λ (l : Link). l.distance) first) alone
