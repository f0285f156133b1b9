-- The tree of parents by which distances from number 0 are found, over any links between numbers.
-- Assumes nothing.
use mathlib.Core.Path.{◌≡◌, sym, ◌∙◌, ap, subst, subst₂}
use mathlib.Core.Bool.{Bool, true}
use mathlib.Core.Logic.{⊎_elim}
use mathlib.Core.List.Memᴰ
use mathlib.Core.List.{List, [], ◌∷◌, ◌++◌, Memᴰ}
use Prim.Native.Nat.{ℕ, zero, suc, ◌*◌, ◌<◌, ◌≤◌}
use native.Mathlib.Nat.{suc-mul, mul-le-mul_right}
use native.Mathlib.Decide.{ℕ_discrete}
use native.Mathlib.Omega.{arith}
use lib.IntN.{ℤ, pos, ◌+ℤ◌, +ℤ_idl, +ℤ_idr, +ℤ_assoc}
use lib.ListN.{length, length-append}
use lib.Signed.{◌≤ℤ◌, ◌<ℤ◌, ≤ℤ_refl}
use Rattle.words.proofs.Signed.{up-add, ≤ℤ_iff, <ℤ-iff, ≤ℤ_trans, ≤ℤ_antisymm, +ℤ_mono}
use Rattle.theory.specs.Search.{above, Before, Upward, changed, Taken, trail, Path, here, go, Tree, Within}
use Rattle.theory.proofs.Upward.{before-up, before-first, changed-at, changed_off, upward-start, upward-first, upward-short, upward-same, upward-changed}

pub length-trail : (parent label : ℕ → ℕ) (j v : ℕ) → length (trail parent label j v) ≡ j
length-trail parent label zero v = omega arith
length-trail parent label (suc j) v =
    let last : List Taken = record { node = parent v; label = label v } ∷ [] in
    omega (arith, length-trail parent label j (parent v), length-append (trail parent label j (parent v)) last)

-- with no greater distance at v, no known distance is greater
pub changed_lower : (known : ℕ → Bool) (dist : ℕ → ℤ) (v : ℕ) (z : ℤ) → (known v ≡ true → z ≤ℤ dist v) → (x : ℕ) → known x ≡ true →
    changed dist v z x ≤ℤ dist x
changed_lower known dist v z no_more x e = by (ℕ_discrete x v)
  where
    by : Dec (x ≡ v) → changed dist v z x ≤ℤ dist x
    by (yes p) = subst₂ (λ a b. a ≤ℤ b) (sym (changed-at dist v z x p)) (ap dist (sym p)) (no_more (ap known (sym p) ∙ e))
    by (no q) = subst (λ a. a ≤ℤ dist x) (sym (changed_off dist v z x q)) (≤ℤ_refl (dist x))

-- each of them leaves a number below n
pub trail-below : {n : ℕ} {known : ℕ → Bool} {parent : ℕ → ℕ} → Upward n known parent → (label : ℕ → ℕ) (j v : ℕ) → v < n → known v ≡ true →
    Before parent 0 j v → (s : Taken) → Memᴰ s (trail parent label j v) → s.node < n
trail-below t label zero v h e b s m = absurd (Memᴰ.not-nil m)
trail-below {n} {known} {parent} t label (suc j) v h e b s m =
    let up = t.up v h e (b 0 (omega arith)) in
    ⊎_elim (λ k. trail-below t label j (parent v) up.0 up.1 (before-up parent 0 j v b) s k)
    (λ k. subst (λ (x : Taken). x.node < n) (sym (Memᴰ.eq_of_singleton k)) up.0)
    (Memᴰ.append_cases (trail parent label j (parent v)) m)

-- `Link u l v w`: the label l leads from u to v at the weight w
module _ (Link : ℕ → ℕ → ℕ → ℤ → Type 0) where
  -- a path, then one from where it leads
  pub path_append : {u v x : ℕ} {ss ts : List Taken} {y z : ℤ} → Path Link u v ss y → Path Link v x ts z → Path Link u x (ss ++ ts) (y +ℤ z)
  path_append {u} {v} {x} {ts = ts} {z = z} here q = subst (Path Link u x ts) (sym (+ℤ_idl z)) q
  path_append {u} {v} {x} {ts = ts} {z = z} (go {l = l} {ss = ss} {w = w} {z = y} k p) q =
      subst (Path Link u x (record { node = u; label = l } ∷ (ss ++ ts))) (sym (+ℤ_assoc w y z)) (go k (path_append p q))

  -- one link more
  pub path_snoc : {u v l x : ℕ} {ss : List Taken} {y w : ℤ} → Path Link u v ss y → Link v l x w →
      Path Link u x (ss ++ (record { node = v; label = l } ∷ [])) (y +ℤ w)
  path_snoc {u} {v} {l} {x} {ss} {y} {w} p k =
      subst (Path Link u x (ss ++ (record { node = v; label = l } ∷ []))) (ap (λ z. y +ℤ z) (+ℤ_idr w)) (path_append p (go k here))

  -- no link leads to an unknown number or to a smaller distance
  abbrev pub Settled : ℕ → (ℕ → Bool) → (ℕ → ℤ) → Type 0
  Settled n known dist = (u : ℕ) → u < n → known u ≡ true → (l v : ℕ) (w : ℤ) → v < n → Link u l v w →
      (known v ≡ true) × (dist v ≤ℤ (dist u +ℤ w))

  -- at the start only 0 is known
  pub tree-start : (n : ℕ) (known : ℕ → Bool) (dist : ℕ → ℤ) (parent label : ℕ → ℕ) → known 0 ≡ true → dist 0 ≡ pos 0 →
      ((v : ℕ) → v < n → known v ≡ true → v ≡ 0) → Tree Link n known dist parent label
  tree-start n known dist parent label k d only = record {
    upward = upward-start n known parent k only;
    zero-at = d;
    link = λ v h e q. absurd (q (only v h e));
  }

  module _ {n : ℕ} {known : ℕ → Bool} {dist : ℕ → ℤ} {parent label : ℕ → ℕ} (t : Tree Link n known dist parent label) where
    -- the way down from the number j steps above v
    record Down (j v : ℕ) : Type 0 where
      total : ℤ
      path : Path Link (above parent j v) v (trail parent label j v) total
      less : (dist (above parent j v) +ℤ total) ≤ℤ dist v
      more : Settled n known dist → dist v ≤ℤ (dist (above parent j v) +ℤ total)

    -- a link after the way down to the parent
    down_go : (j v : ℕ) (w : ℤ) → v < n → parent v < n → known (parent v) ≡ true → Link (parent v) (label v) v w →
        (dist (parent v) +ℤ w) ≤ℤ dist v → Down j (parent v) → Down (suc j) v
    down_go j v w h h' e' l s d =
        let a = dist (above parent j (parent v)) in
        let p = dist (parent v) in record {
          total = d.total +ℤ w;
          path = path_snoc d.path l;
          less = (≤ℤ_iff (a +ℤ (d.total +ℤ w)) (dist v)).1 (omega (
            arith,
            up-add a (d.total +ℤ w),
            up-add d.total w,
            up-add a d.total,
            up-add p w,
            (≤ℤ_iff (a +ℤ d.total) p).0 d.less,
            (≤ℤ_iff (p +ℤ w) (dist v)).0 s,
          ));
          more = λ c. (≤ℤ_iff (dist v) (a +ℤ (d.total +ℤ w))).1 (omega (
            arith,
            up-add a (d.total +ℤ w),
            up-add d.total w,
            up-add a d.total,
            up-add p w,
            (≤ℤ_iff p (a +ℤ d.total)).0 (d.more c),
            (≤ℤ_iff (dist v) (p +ℤ w)).0 (c (parent v) h' e' (label v) v w h l).1,
          ));
        }

    tree_down : (j v : ℕ) → v < n → known v ≡ true → Before parent 0 j v → Down j v
    tree_down zero v h e b = record {
      total = pos 0;
      path = here;
      less = subst (λ z. z ≤ℤ dist v) (sym (+ℤ_idr (dist v))) (≤ℤ_refl (dist v));
      more = λ c. subst (λ z. dist v ≤ℤ z) (sym (+ℤ_idr (dist v))) (≤ℤ_refl (dist v));
    }
    tree_down (suc j) v h e b =
        let q = b 0 (omega arith) in
        let r = t.upward.up v h e q in
        let l = t.link v h e q in
        down_go j v l.0 h r.0 r.1 l.1 l.2 (tree_down j (parent v) r.0 r.1 (before-up parent 0 j v b))

    -- where all is settled, a path of fewer than n links that is as long as its distance
    pub tree_settled : Settled n known dist → (v : ℕ) → v < n → known v ≡ true →
        (ss : List Taken) × (length ss < n) × Path Link 0 v ss (dist v)
    tree_settled c v h e =
        let f = upward-first t.upward v h e in
        let ss = trail parent label f.0 v in
        let d = tree_down f.0 v h e f.3 in
        let from : dist (above parent f.0 v) +ℤ d.total ≡ d.total =
        ap (λ y. y +ℤ d.total) (ap dist f.2 ∙ t.zero-at) ∙ +ℤ_idl d.total in
        let same : d.total ≡ dist v = sym from ∙ ≤ℤ_antisymm d.less (d.more c) in (
          ss,
          omega (arith, f.1, length-trail parent label f.0 v),
          subst₂ (λ (x : ℕ) z. Path Link x v ss z) f.2 same d.path,
        )

    -- a link to a smaller distance, from a number below in the tree, closes a cycle of at most n links that costs less than 0
    pub tree-cycle : (u l v j : ℕ) (w : ℤ) → u < n → known u ≡ true → Link u l v w → (dist u +ℤ w) <ℤ dist v →
        above parent j u ≡ v → Before parent 0 j u →
        (z : ℤ) × Path Link v v (trail parent label j u ++ (record { node = u; label = l } ∷ [])) z × (z <ℤ pos 0) × (suc j ≤ n)
    tree-cycle u l v j w h e k s a b =
        let d = tree_down j u h e b in
        let y = d.total in
        let down : (dist v +ℤ y) ≤ℤ dist u = subst (λ (x : ℕ). (dist x +ℤ y) ≤ℤ dist u) a d.less in (
          y +ℤ w,
          path_snoc (subst (λ (x : ℕ). Path Link x u (trail parent label j u) y) a d.path) k,
          (<ℤ-iff (y +ℤ w) (pos 0)).1
              (omega (
                arith,
                up-add y w,
                up-add (dist v) y,
                up-add (dist u) w,
                (≤ℤ_iff (dist v +ℤ y) (dist u)).0 down,
                (<ℤ-iff (dist u +ℤ w) (dist v)).0 s,
              )),
          upward-short t.upward j u h e b,
        )

    -- where weights are from −c to c, a distance falls by at most c a step
    tree_fall : (c : ℕ) → Within Link n c → (j v : ℕ) → v < n → known v ≡ true → Before parent 0 j v →
        dist (above parent j v) ≤ℤ (dist v +ℤ pos (j * c))
    tree_fall c light zero v h e b =
        (≤ℤ_iff (dist v) (dist v +ℤ pos (0 * c))).1 (omega (arith, up-add (dist v) (pos (0 * c))))
    tree_fall c light (suc j) v h e b =
        let q = b 0 (omega arith) in
        let r = t.upward.up v h e q in
        let l = t.link v h e q in
        let w = l.0 in
        let a = dist (above parent j (parent v)) in
        let p = dist (parent v) in
        let later = tree_fall c light j (parent v) r.0 r.1 (before-up parent 0 j v b) in
        (≤ℤ_iff a (dist v +ℤ pos (suc j * c))).1
        (omega (
          arith,
          up-add (dist v) (pos (suc j * c)),
          suc-mul j c,
          up-add p (pos (j * c)),
          up-add p w,
          up-add w (pos c),
          (≤ℤ_iff a (p +ℤ pos (j * c))).0 later,
          (≤ℤ_iff (p +ℤ w) (dist v)).0 l.2,
          (≤ℤ_iff (pos 0) (w +ℤ pos c)).0 (light (parent v) (label v) v w r.0 h l.1).1,
        ))

    -- so it is not below −n × c
    pub tree-least : (c : ℕ) → Within Link n c → (v : ℕ) → v < n → known v ≡ true → pos 0 ≤ℤ (dist v +ℤ pos (n * c))
    tree-least c light v h e =
        let f = upward-first t.upward v h e in
        let fall : pos 0 ≤ℤ (dist v +ℤ pos (f.0 * c)) =
        subst (λ z. z ≤ℤ (dist v +ℤ pos (f.0 * c))) (ap dist f.2 ∙ t.zero-at) (tree_fall c light f.0 v h e f.3) in
        let more : f.0 * c ≤ n * c = mul-le-mul_right c (omega (arith, f.1)) in
        (≤ℤ_iff (pos 0) (dist v +ℤ pos (n * c))).1
        (omega (
          arith,
          more,
          up-add (dist v) (pos (n * c)),
          up-add (dist v) (pos (f.0 * c)),
          (≤ℤ_iff (pos 0) (dist v +ℤ pos (f.0 * c))).0 fall,
        ))

    -- functions that are the same below n
    pub tree-same : (known' : ℕ → Bool) (dist' : ℕ → ℤ) (parent' label' : ℕ → ℕ) → 0 < n → ((x : ℕ) → x < n → known x ≡ known' x) →
        ((x : ℕ) → x < n → dist x ≡ dist' x) → ((x : ℕ) → x < n → parent x ≡ parent' x) → ((x : ℕ) → x < n → label x ≡ label' x) →
        Tree Link n known' dist' parent' label'
    tree-same known' dist' parent' label' some k d p m = record {
      upward = upward-same t.upward known' parent' some k p;
      zero-at = sym (d 0 some) ∙ t.zero-at;
      link = λ v h e q.
          let r = t.upward.up v h (k v h ∙ e) q in
          let was = t.link v h (k v h ∙ e) q in (
            was.0,
            subst₂ (λ (y a : ℕ). Link y a v was.0) (p v h) (m v h) was.1,
            subst₂ (λ y z. (y +ℤ was.0) ≤ℤ z) (d (parent v) r.0 ∙ ap dist' (p v h)) (d v h) was.2,
          );
    }

    -- v, that is not above u, with a link from u that gives it no greater distance
    module _ (u l v k : ℕ) (w : ℤ) (below : u < n) (is_Known : known u ≡ true) (apart : v ≡ 0 → ⊥) (e : Link u l v w)
        (top : above parent k u ≡ 0) (b : Before parent v k u) (no_more : known v ≡ true → (dist u +ℤ w) ≤ℤ dist v) where
      abbrev dist' : ℕ → ℤ
      dist' = changed dist v (dist u +ℤ w)

      abbrev parent' : ℕ → ℕ
      parent' = changed parent v u

      abbrev label' : ℕ → ℕ
      label' = changed label v l

      -- the new parent's distance stays
      stays : dist' u ≡ dist u
      stays = changed_off dist v (dist u +ℤ w) u (before-first parent v k u top b apart)

      -- the link to the parent of x afterwards
      abbrev Linked : ℕ → Type 0
      Linked x = (w : ℤ) × Link (parent' x) (label' x) x w × ((dist' (parent' x) +ℤ w) ≤ℤ dist' x)

      -- of v itself
      linked-at : (x : ℕ) → x ≡ v → Linked x
      linked-at x p =
          let to : parent' x ≡ u = changed-at parent v u x p in (
            w,
            subst (λ (y : ℕ). Link (parent' x) (label' x) y w) (sym p)
                (subst₂ (λ (y a : ℕ). Link y a v w) (sym to) (sym (changed-at label v l x p)) e),
            subst₂ (λ y z. (y +ℤ w) ≤ℤ z) (sym (ap dist' to ∙ stays)) (sym (changed-at dist v (dist u +ℤ w) x p))
                (≤ℤ_refl (dist u +ℤ w)),
          )

      -- of another
      linked_off : (x : ℕ) → x < n → known x ≡ true → (x ≡ 0 → ⊥) → (x ≡ v → ⊥) → Linked x
      linked_off x h a q o =
          let to : parent' x ≡ parent x = changed_off parent v u x o in
          let was = t.link x h a q in (
            was.0,
            subst₂ (λ (y a : ℕ). Link y a x was.0) (sym to) (sym (changed_off label v l x o)) was.1,
            subst₂ (λ y z. (y +ℤ was.0) ≤ℤ z) (sym (ap dist' to)) (sym (changed_off dist v (dist u +ℤ w) x o))
                (≤ℤ_trans (+ℤ_mono (changed_lower known dist v (dist u +ℤ w) no_more (parent x) (t.upward.up x h a q).1) (≤ℤ_refl was.0)) was.2),
          )

      -- the tree afterwards
      pub tree_relax : Tree Link n (changed known v true) (changed dist v (dist u +ℤ w)) (changed parent v u) (changed label v l)
      tree_relax = record {
        upward = upward-changed t.upward u v k below is_Known top b;
        zero-at = changed_off dist v (dist u +ℤ w) 0 (λ p. apart (sym p)) ∙ t.zero-at;
        link = λ x h a q. link-of x h a q (ℕ_discrete x v);
      }
        where
          link-of : (x : ℕ) → x < n → changed known v true x ≡ true → (x ≡ 0 → ⊥) → Dec (x ≡ v) → Linked x
          link-of x h a q (yes p) = linked-at x p
          link-of x h a q (no o) = linked_off x h (sym (changed_off known v true x o) ∙ a) q o
