-- The links at the start of a search. Assumes nothing.
use mathlib.Core.Path.{◌≡◌, ◌∙◌, ap, subst}
use mathlib.Core.Bool.{cond}
use mathlib.Core.List.{List}
use Prim.Native.Nat.{ℕ, ◌+◌, ◌*◌, ◌≤◌, ◌<◌}
use native.Mathlib.Nat.{add_assoc}
use native.Mathlib.Omega.{arith}
use lib.Dec.{eqb}
use lib.ListN.{length, get_or, replicate, length-replicate, get_or-replicate}
use Rattle.model.specs.Bytes.{number, signed, part, overwrite}
use Rattle.model.specs.Limits.{max_nodes}
use Rattle.words.proofs.Memory.{overwrite-inside}
use Rattle.store.proofs.Tables.{zero-entry}
use Rattle.links.specs.Links.{link_bytes, links_at, links_end, link_in, mark_of, no_link, start_link, Puts, Begins, links_size}
use Rattle.words.proofs.Free.{only_trans}
use Rattle.words.proofs.Free.{overwrite-only}

module _ (m : List ℕ) (room : links_end ≤ length m) where
  abbrev zeros : List ℕ
  zeros = replicate (link_bytes * max_nodes) 0

  abbrev cleared : List ℕ
  cleared = overwrite m links_at zeros

  fits : links_at + length zeros ≤ length m
  fits = omega (arith, length-replicate {A = ℕ} (link_bytes * max_nodes) 0)

  zero-byte : (i : ℕ) → i < link_bytes * max_nodes → get_or cleared (links_at + i) 0 ≡ 0
  zero-byte i h =
      overwrite-inside m links_at zeros fits i (omega (arith, length-replicate {A = ℕ} (link_bytes * max_nodes) 0))
      ∙ get_or-replicate (link_bytes * max_nodes) i 0 0 h

  -- zeros are no link
  none_there : (x : ℕ) → x < max_nodes → link_in cleared x ≡ no_link
  unfolding signed
  none_there x h =
      let n = link_bytes * max_nodes in
      let zero-part : (i k : ℕ) → i + k ≤ n → number (part cleared (links_at + i) k) ≡ 0 = λ i k j. zero-entry m links_at n i k (omega arith) j in
      λ i. record {
        distance = signed (zero-part (link_bytes * x) 8 (omega arith) i);
        parent = (ap (λ (a : ℕ). number (part cleared a 2)) (add_assoc links_at (link_bytes * x) 8) ∙ zero-part (link_bytes * x + 8) 2 (omega arith)) i;
        label = (ap (λ (a : ℕ). get_or cleared a 0) (add_assoc links_at (link_bytes * x) 10) ∙ zero-byte (link_bytes * x + 10) (omega arith)) i;
        mark = mark_of ((ap (λ (a : ℕ). get_or cleared a 0) (add_assoc links_at (link_bytes * x) 11) ∙ zero-byte (link_bytes * x + 11) (omega arith)) i);
      }

  -- and then the start node's is written
  pub begins : (m₁ m' : List ℕ) → m₁ ≡ cleared → Puts 0 start_link m₁ m' → Begins m m'
  begins m₁ m' e p =
      let p' = subst (λ x. Puts 0 start_link x m') e p in record {
        links = λ x h. p'.links x h ∙ ap (λ l. cond (eqb x 0) start_link l) (none_there x h);
        only = only_trans (overwrite-only m links_at zeros fits links_at links_size (omega arith) (omega (arith, length-replicate {A = ℕ} (link_bytes * max_nodes) 0))) p'.only;
      }
