-- What trying one edge leaves: a distance that is kept, a smaller one, or a circuit. Assumes nothing.
use mathlib.Core.Path.{◌≡◌, refl, sym, ◌∙◌, ap, subst}
use mathlib.Core.Bool.{Bool, true, false, cond, not, ◌||◌, false≢true, true≢false}
use mathlib.Core.Logic.{⊎_elim}
use mathlib.Core.List.Memᴰ
use mathlib.Core.List.{List, [], ◌∷◌, Memᴰ}
use Prim.Native.Nat.{ℕ, suc, ◌+◌, ◌<◌}
use native.Mathlib.Numerals.{add-one}
use native.Mathlib.Omega.{arith}
use borrow.Author.Tests.{eq-eqb}
use lib.Dec.{eqb}
use lib.IntN.{ℤ, ◌+ℤ◌}
use lib.ListN.{length, length-append}
use lib.Signed.{◌≤ℤ◌, ◌<ℤ◌, lt_z, lt_z_yes, lt_z_no, ≤ℤ_refl}
use Rattle.std.specs.Prelude.{Ok, Err, None, Some}
use Rattle.model.specs.Plan.{Plan}
use Rattle.model.proofs.Lists.{mem-up_from}
use Rattle.model.proofs.Tests.{holds}
use Rattle.theory.specs.Search as search
use Rattle.theory.specs.Search.{changed, trail}
use Rattle.theory.proofs.Upward.{upward-way}
use Rattle.theory.proofs.Tree.{length-trail, trail-below}
use Rattle.theory.proofs.Search.{relaxed, Alike, Relaxable, search-cycle}
use Rattle.theory.proofs.Progress.{progress-none, progress_relax, progress_alike, spread_none, spread_relax, spread_alike}
use Rattle.theory.proofs.Circuits.{circuit-of}
use Rattle.potentials.specs.declared.Claim.{Claim}
use Rattle.links.specs.Links.{links_at, links_size, steps_size, link_in, is_known, is_waiting, taken_in, state_in, taken_of, first_steps, Puts, Climbs, WayUp, Closes}
use Rattle.links.specs.declared.Link.{Link}
use Rattle.links.specs.declared.Mark.TheVariants.{Waiting}
use Rattle.words.proofs.Free.{only_refl, only_wider}
use Rattle.distances.specs.Distances.{LinkOf, Offer, Relaxes}

-- ---- the test

module _ (l : Link) (z : ℤ) where
  abbrev pub shorter : Bool
  shorter = not (is_known l.mark) || lt_z z l.distance

  not-shorter : shorter ≡ false → (is_known l.mark ≡ true) × (l.distance ≤ℤ z)
  not-shorter = by (is_known l.mark) (lt_z z l.distance) refl
    where
      by : (a b : Bool) → lt_z z l.distance ≡ b → (not a || b) ≡ false → (a ≡ true) × (l.distance ≤ℤ z)
      by false b f h = absurd (true≢false h)
      by true true f h = absurd (true≢false h)
      by true false f h = (refl, lt_z_no (holds (ap not f)))

  is-less : shorter ≡ true → is_known l.mark ≡ true → z <ℤ l.distance
  is-less = by (is_known l.mark) (lt_z z l.distance) refl
    where
      by : (a b : Bool) → lt_z z l.distance ≡ b → (not a || b) ≡ true → a ≡ true → z <ℤ l.distance
      by false b f h k = absurd (false≢true k)
      by true true f h k = lt_z_yes (holds f)
      by true false f h k = absurd (false≢true h)

-- ---- the three outcomes

module _ {P : Plan} {claim : Claim} {m : List ℕ} {u l v : ℕ} {z : ℤ} (o : Offer P claim m u l v z) where
  pub offer_climbs : Climbs m u
  offer_climbs = record {
    count = claim.n;
    few = o.few;
    room = o.room;
    upward = o.search.tree.upward;
    below = o.from;
    known = o.known;
  }

  -- the distance is no smaller
  pub relax_keeps : shorter (link_in m v) z ≡ false → Relaxes P claim u v z m m (Ok false)
  relax_keeps e = record {
    advance = record {
      progress = progress-none (LinkOf P claim) o.search;
      links = only_refl;
      circuit = tt;
      only = only_refl;
    };
    reached = not-shorter (link_in m v) z e;
    spread = spread_none (LinkOf P claim);
  }

  module _ (less : shorter (link_in m v) z ≡ true) where
    -- it is smaller where there was one
    below : (state_in m).known v ≡ true → ((state_in m).dist u +ℤ o.weight) <ℤ (state_in m).dist v
    below k = subst (λ y. y <ℤ (state_in m).dist v) o.distance (is-less (link_in m v) z less k)

    -- v is not above u: it is stored
    module _ (way : WayUp m u v None) (m' : List ℕ) (puts : Puts v (record { distance = z; parent = u; label = l; mark = Waiting }) m m') where
      abbrev link : Link
      link = record { distance = z; parent = u; label = l; mark = Waiting }

      can : Relaxable (LinkOf P claim) claim.n (state_in m) u l v o.weight
      can = record {
        from = o.from;
        to = o.to;
        is_known = o.known;
        link = o.link;
        apart = way.0;
        steps = way.1;
        top = way.2;
        before = way.3;
        less = below;
      }

      -- a field of the links afterwards
      field : {A : Type 0} (f : Link → A) (x : ℕ) → x < claim.n → changed (λ y. f (link_in m y)) v (f link) x ≡ f (link_in m' x)
      field f x h = by (eqb x v) ∙ sym (ap f (puts.links x (omega (arith, o.few))))
        where
          by : (b : Bool) → cond b (f link) (f (link_in m x)) ≡ f (cond b link (link_in m x))
          by true = refl
          by false = refl

      alike : Alike claim.n (relaxed (state_in m) u l v ((state_in m).dist u +ℤ o.weight)) (state_in m')
      alike = record {
        known = λ x h. field (λ k. is_known k.mark) x h;
        waiting = λ x h. field (λ k. is_waiting k.mark) x h;
        dist = λ x h. ap (λ y. changed (state_in m).dist v y x) (sym o.distance) ∙ field (λ k. k.distance) x h;
        parent = λ x h. field (λ k. k.parent) x h;
        label = λ x h. field (λ k. k.label) x h;
      }

      at_v : link_in m' v ≡ link
      at_v = puts.links v (omega (arith, o.few, o.to)) ∙ ap (λ b. cond b link (link_in m v)) (eq-eqb v v refl)

      pub relax_moves : Relaxes P claim u v z m m' (Ok true)
      relax_moves = record {
        advance = record {
          progress = progress_alike (LinkOf P claim) (omega (arith, o.from)) (progress_relax (LinkOf P claim) o.within o.search can) alike;
          links = puts.only;
          circuit = tt;
          only = only_wider puts.only links_at (links_size + steps_size) (omega arith) (omega arith);
        };
        reached = (ap (λ k. is_known k.mark) at_v, subst (λ k. k.distance ≤ℤ z) (sym at_v) (≤ℤ_refl z));
        spread = spread_alike (LinkOf P claim) o.from (spread_relax (LinkOf P claim) can) alike;
      }

    -- v stands above u: the way down and the edge are a circuit
    module _ (j : ℕ) (way : WayUp m u v (Some j)) (m' : List ℕ) (closes : Closes u l j m m') where
      there : (state_in m).known v ≡ true
      there = subst (λ (x : ℕ). (state_in m).known x ≡ true) way.0 (upward-way o.search.tree.upward j u o.from o.known way.1).1

      size : length (first_steps m' (j + 1)) ≡ suc j
      size =
          let last : List search.Taken = record { node = u; label = l } ∷ [] in
          ap length closes.steps ∙ length-append (trail (state_in m).parent (state_in m).label j u) last
          ∙ ap (λ (k : ℕ). k + 1) (length-trail (state_in m).parent (state_in m).label j u) ∙ add-one j

      -- every node of it is one of the first n
      nodes-below : (i : ℕ) → i < j + 1 → (taken_in m' i).node < claim.n
      nodes-below i h =
          let mem = subst (Memᴰ (taken_of (taken_in m' i))) closes.steps (Memᴰ.map (λ x. taken_of (taken_in m' x)) {a = i} (mem-up_from 0 (j + 1) (omega arith) (omega arith))) in
          ⊎_elim (λ k. trail-below o.search.tree.upward (state_in m).label j u o.from o.known way.1 (taken_of (taken_in m' i)) k)
          (λ k. subst (λ (s : search.Taken). s.node < claim.n) (sym (Memᴰ.eq_of_singleton k)) o.from)
          (Memᴰ.append_cases (trail (state_in m).parent (state_in m).label j u) mem)

      pub relax_closes : Relaxes P claim u v z m m' (Err (j + 1))
      relax_closes =
          let c = search-cycle (LinkOf P claim) o.search u l v j o.weight o.from o.known o.link (below there) way.0 way.1 in
          let path = subst (λ ss. search.Path (LinkOf P claim) v v ss c.0) (sym closes.steps) c.1 in record {
            advance = record {
              progress = tt;
              links = tt;
              circuit = (omega arith, record { node = v; below = o.to; circuit = circuit-of path c.2 (omega (arith, size, c.3)); nodes = nodes-below });
              only = only_wider closes.only links_at (links_size + steps_size) (omega arith) (omega arith);
            };
            reached = tt;
            spread = tt;
          }
