-- What the choices of masks and the edges of a node are, by their parts.
-- Assumes nothing.
use mathlib.Core.Path.{◌≡◌, refl, sym, ◌∙◌, ap, subst}
use mathlib.Core.Bool.{Bool, true, false, cond, ◌&&◌, false≢true}
use mathlib.Core.Option.{Option, none, some, none-ne-some, some-injective}
use mathlib.Core.Logic.{◌↔◌, ◌⊎◌, inl, inr, ⊎_elim}
use mathlib.Core.List.Memᴰ
use mathlib.Core.List.{List, [], ◌∷◌, map, Memᴰ}
use Prim.Native.Nat.{ℕ, zero, suc, ◌-◌, ◌/◌, ◌%◌, ◌^◌, ◌<◌, ◌≤◌}
use native.Mathlib.Omega.{arith}
use lib.Bits.{bit_and, bit_or}
use lib.Dec.{T, eqb}
use lib.ListN.{length, get_or}
use lib.Pow.{suc_ones}
use borrow.Author.Tests.{eqb-true, eq-eqb}
use Rattle.model.specs.Lists.{bit, ones, keep, up_from}
use Rattle.model.specs.Plan.{Task, Plan, next_in}
use Rattle.model.specs.Slot.{no_task}
use Rattle.model.specs.Masks.{free_masks, neighbouring, masks_of}
use Rattle.model.specs.Graph.{Node, Edge, joined, choices, edge_of, edges_to, edges_at, edges}
use Rattle.model.proofs.Lists.{mem-of-keep, mem-keep, mem-of-up_from, mem-up_from, mem-of-flat_map, mem-flat_map}
use Rattle.model.proofs.Plan.{both}
use Rattle.model.proofs.Runs.{zero-neighbouring}
use Rattle.theory.proofs.Bits.{Apart, and-apart, bit-zero, bit_half, zero_no_bit, or-bit}

-- "if the label releases it, C bits below bit D"; "a locked task's mask is a run of neighbouring bits"
pub record Picked (t : Task) (released : Bool) (m : ℕ) : Type 0 where
  pub out : T released
  pub pos : 1 ≤ m
  pub below : m < 2 ^ t.window
  pub size : ones t.window m ≡ t.work
  pub run : t.locked ≡ true → neighbouring t.window m ≡ true

-- "either 0, or .."
abbrev pub MaskOf : Task → Bool → ℕ → Type 0
MaskOf t released m = (m ≡ 0) ⊎ Picked t released m

-- the elements that pass a test, where it is asked
mem-kept : (asked : Bool) (f : ℕ → Bool) (l : List ℕ) (m : ℕ) → Memᴰ m (cond asked (keep f l) l) ↔ (Memᴰ m l × (asked ≡ true → f m ≡ true))
mem-kept true f l m = (λ h. let r = mem-of-keep f l h in (r.0, λ _. r.1), λ r. mem-keep f r.0 (r.1 refl))
mem-kept false f l m = (λ h. (h, λ e. absurd (false≢true e)), λ r. r.0)

module _ (t : Task) (m : ℕ) where
  -- a lock asks for a run
  abbrev Asked : Type 0
  Asked = t.locked ≡ true → neighbouring t.window m ≡ true

  -- 0 is one, and so is a mask that fits
  mask-run : (b : Bool) → MaskOf t b m → Asked
  mask-run b h l =
      ⊎_elim (λ (e : m ≡ 0). ap (neighbouring t.window) e ∙ zero-neighbouring t.window) (λ (p : Picked t b m). p.run l) h

  module _ (taken : ℕ) where
    -- C ones, clear of the pattern
    abbrev counted : ℕ → Bool
    counted n = eqb (ones t.window n) t.work && eqb (bit_and n taken) 0

    -- a free mask that is a run where a lock asks for it is 0, or fits the task
    of-free_masks : (b : Bool) → Memᴰ m (free_masks t b taken) → Asked → MaskOf t b m × Apart m taken
    unfolding free_masks
    of-free_masks false h run = let e = Memᴰ.eq_of_singleton h in (inl e, λ k b _. zero_no_bit e k b)
    of-free_masks true h run =
        ⊎_elim (λ (e : m ≡ 0). (inl e, λ k b _. zero_no_bit e k b))
        (λ k. of-kept (mem-of-keep counted (up_from 1 (2 ^ t.window - 1)) k)) (Memᴰ.cases_cons h)
      where
        of-kept : Memᴰ m (up_from 1 (2 ^ t.window - 1)) × (counted m ≡ true) → MaskOf t true m × Apart m taken
        of-kept (h, e) =
            let r = mem-of-up_from 1 (2 ^ t.window - 1) h in
            let two = both (eqb (ones t.window m) t.work) (eqb (bit_and m taken) 0) e in (
              inr (record { out = tt; pos = r.0; below = omega (arith, suc_ones t.window, r.1); size = eqb-true _ _ two.0; run = run }),
              (and-apart m taken).0 (eqb-true _ _ two.1),
            )

    -- and back
    in_free_masks : (b : Bool) → MaskOf t b m → Apart m taken → Memᴰ m (free_masks t b taken)
    unfolding free_masks
    in_free_masks false h a = Memᴰ.head (⊎_elim (λ (e : m ≡ 0). e) (λ (p : Picked t false m). absurd p.out) h)
    in_free_masks true h a = ⊎_elim (λ (e : m ≡ 0). Memᴰ.head e) (λ (p : Picked t true m). Memᴰ.tail (kept p)) h
      where
        kept : Picked t true m → Memᴰ m (keep counted (up_from 1 (2 ^ t.window - 1)))
        kept p =
            mem-keep counted (mem-up_from 1 (2 ^ t.window - 1) p.pos (omega (arith, suc_ones t.window, p.below)))
            (rw (eq-eqb _ _ p.size, eq-eqb _ _ ((and-apart m taken).1 a)))

-- the masks of a task are 0, or fit it, and are clear of the pattern
pub mem-masks_of : (t : Task) (b : Bool) (taken m : ℕ) → Memᴰ m (masks_of t b taken) ↔ (MaskOf t b m × Apart m taken)
unfolding masks_of
mem-masks_of t b taken m =
    let kept = mem-kept t.locked (neighbouring t.window) (free_masks t b taken) m in (
      λ h. let r = kept.0 h in of-free_masks t m taken b r.0 r.1,
      λ h. kept.1 (in_free_masks t m taken b h.0 h.1, mask-run t m b h.0),
    )

-- a choice: for each task a mask, "clear of the pattern and of the other masks"; past the tasks get_or is 0
pub record Fits (ts : List Task) (l taken : ℕ) (ms : List ℕ) : Type 0 where
  pub count : length ms ≡ length ts
  pub mask : (i : ℕ) → MaskOf (get_or ts i no_task) (bit l i) (get_or ms i 0)
  pub clear : (i : ℕ) → Apart (get_or ms i 0) taken
  pub apart : (i j k : ℕ) → T (bit (get_or ms i 0) k) → T (bit (get_or ms j 0) k) → i ≡ j

-- no task, no mask
fits-nil : (l taken : ℕ) → Fits [] l taken []
fits-nil l taken = record {
  count = refl;
  mask = λ i. inl refl;
  clear = λ i k b _. zero_no_bit refl k b;
  apart = λ i j k h. absurd (zero_no_bit refl k h);
}

module _ (t : Task) (ts : List Task) (l taken m : ℕ) (ms : List ℕ) where
  -- one task more
  fits-cons : MaskOf t (eqb (l % 2) 1) m × Apart m taken → Fits ts (l / 2) (bit_or taken m) ms → Fits (t ∷ ts) l taken (m ∷ ms)
  fits-cons (first, free) f = record { count = ap suc f.count; mask = mask'; clear = clear'; apart = apart' }
    where
      mask' : (i : ℕ) → MaskOf (get_or (t ∷ ts) i no_task) (bit l i) (get_or (m ∷ ms) i 0)
      mask' zero = subst (λ b. MaskOf t b m) (sym (bit-zero l)) first
      mask' (suc i) = subst (λ b. MaskOf (get_or ts i no_task) b (get_or ms i 0)) (bit_half l i) (f.mask i)

      clear' : (i : ℕ) → Apart (get_or (m ∷ ms) i 0) taken
      clear' zero = free
      clear' (suc i) = λ k h h'. f.clear i k h ((or-bit taken m k).1 (inl h'))

      apart' : (i j k : ℕ) → T (bit (get_or (m ∷ ms) i 0) k) → T (bit (get_or (m ∷ ms) j 0) k) → i ≡ j
      apart' zero zero k h h' = refl
      apart' zero (suc j) k h h' = absurd (f.clear j k h' ((or-bit taken m k).1 (inr h)))
      apart' (suc i) zero k h h' = absurd (f.clear i k h ((or-bit taken m k).1 (inr h')))
      apart' (suc i) (suc j) k h h' = ap suc (f.apart i j k h h')

  -- and back
  fits_head : Fits (t ∷ ts) l taken (m ∷ ms) → MaskOf t (eqb (l % 2) 1) m × Apart m taken
  fits_head f = (subst (λ b. MaskOf t b m) (bit-zero l) (f.mask 0), f.clear 0)

  -- the later tasks find the pattern with the first mask in it
  fits-tail : Fits (t ∷ ts) l taken (m ∷ ms) → Fits ts (l / 2) (bit_or taken m) ms
  fits-tail f = record {
    count = omega (arith, f.count);
    mask = λ i. subst (λ b. MaskOf (get_or ts i no_task) b (get_or ms i 0)) (sym (bit_half l i)) (f.mask (suc i));
    clear = λ i k h h'.
        ⊎_elim (λ (b : T (bit taken k)). f.clear (suc i) k h b)
        (λ (b : T (bit m k)). let e : suc i ≡ 0 = f.apart (suc i) 0 k h b in omega arith) ((or-bit taken m k).0 h');
    apart = λ i j k h h'. omega (arith, f.apart (suc i) (suc j) k h h');
  }

-- every choice fits
of-choices : (ts : List Task) (l taken : ℕ) (ms : List ℕ) → Memᴰ ms (choices ts l taken) → Fits ts l taken ms
unfolding choices
of-choices [] l taken ms h = subst (Fits [] l taken) (sym (Memᴰ.eq_of_singleton h)) (fits-nil l taken)
of-choices (t ∷ ts) l taken ms h =
    let r = mem-of-flat_map (λ m. map (λ ms. m ∷ ms) (choices ts (l / 2) (bit_or taken m))) (masks_of t (eqb (l % 2) 1) taken) h in
    let m = r.0 in
    let s = Memᴰ.of_map (λ ms. m ∷ ms) (choices ts (l / 2) (bit_or taken m)) r.2 in
    subst (Fits (t ∷ ts) l taken) s.2
    (fits-cons t ts l taken m s.0 ((mem-masks_of t (eqb (l % 2) 1) taken m).0 r.1) (of-choices ts (l / 2) (bit_or taken m) s.0 s.1))

-- what fits is a choice
in_choices : (ts : List Task) (l taken : ℕ) (ms : List ℕ) → Fits ts l taken ms → Memᴰ ms (choices ts l taken)
unfolding choices
in_choices [] l taken [] f = Memᴰ.head refl
in_choices [] l taken (m ∷ ms) f = absurd (omega (arith, f.count))
in_choices (t ∷ ts) l taken [] f = absurd (omega (arith, f.count))
in_choices (t ∷ ts) l taken (m ∷ ms) f =
    mem-flat_map (λ m. map (λ ms. m ∷ ms) (choices ts (l / 2) (bit_or taken m)))
    ((mem-masks_of t (eqb (l % 2) 1) taken m).1 (fits_head t ts l taken m ms f))
    (Memᴰ.map (λ ms. m ∷ ms) (in_choices ts (l / 2) (bit_or taken m) ms (fits-tail t ts l taken m ms f)))

-- the choices are the lists of masks that fit
pub mem-choices : (ts : List Task) (l taken : ℕ) (ms : List ℕ) → Memᴰ ms (choices ts l taken) ↔ Fits ts l taken ms
mem-choices ts l taken ms = (of-choices ts l taken ms, in_choices ts l taken ms)

-- a bit of the joined pattern is a bit of the pattern or of a mask
pub joined-bit : (taken : ℕ) (ms : List ℕ) (k : ℕ) →
    T (bit (joined taken ms) k) ↔ (T (bit taken k) ⊎ ((i : ℕ) × T (bit (get_or ms i 0) k)))
joined-bit taken [] k = (inl, ⊎_elim (λ h. h) (λ h. absurd (zero_no_bit refl k h.1)))
joined-bit taken (m ∷ ms) k = (
  λ h. ⊎_elim (λ b. ⊎_elim inl (λ c. inr (zero, c)) ((or-bit taken m k).0 b)) (λ r. inr (suc r.0, r.1))
      ((joined-bit (bit_or taken m) ms k).0 h),
  λ h. (joined-bit (bit_or taken m) ms k).1 (⊎_elim (λ b. inl ((or-bit taken m k).1 (inl b))) (λ r. at r.0 r.1) h),
)
  where
    at : (i : ℕ) → T (bit (get_or (m ∷ ms) i 0) k) → T (bit (bit_or taken m) k) ⊎ ((j : ℕ) × T (bit (get_or ms j 0) k))
    at zero b = inl ((or-bit taken m k).1 (inr b))
    at (suc i) b = inr (i, b)

-- an edge of a label that leads to the state o, if any: its masks are a choice
pub record EdgeTo (P : Plan) (u : Node) (l : ℕ) (o : Option ℕ) (e : Edge) : Type 0 where
  pub next : ℕ
  pub masks : List ℕ
  pub admitted : o ≡ some next
  pub fits : Fits P.tasks l u.taken masks
  pub is : e ≡ edge_of P u l next masks

-- an edge of a label: the automaton admits it
abbrev pub EdgeAt : Plan → Node → ℕ → Edge → Type 0
EdgeAt P u l e = EdgeTo P u l (next_in P.arcs u.state l) e

-- an edge of a node: its label is below 2 to the number of tasks
pub record EdgeFrom (P : Plan) (u : Node) (e : Edge) : Type 0 where
  pub label : ℕ
  pub below : label < 2 ^ length P.tasks
  pub at : EdgeAt P u label e

-- the edges of a label, by the state that it leads to
mem-edges_to : (P : Plan) (u : Node) (l : ℕ) (o : Option ℕ) (e : Edge) → Memᴰ e (edges_to P u l o) ↔ EdgeTo P u l o e
mem-edges_to P u l none e = (λ h. absurd (Memᴰ.not-nil h), λ r. absurd (none-ne-some r.next r.admitted))
mem-edges_to P u l (some s) e = (
  λ h. let r = Memᴰ.of_map (edge_of P u l s) (choices P.tasks l u.taken) h in
      record { next = s; masks = r.0; admitted = refl; fits = (mem-choices P.tasks l u.taken r.0).0 r.1; is = sym r.2 },
  λ r. Memᴰ.cast (r.is ∙ ap (λ (n : ℕ). edge_of P u l n r.masks) (sym (some-injective s r.next r.admitted)))
      (Memᴰ.map (edge_of P u l s) ((mem-choices P.tasks l u.taken r.masks).1 r.fits)),
)

-- the edges of a label are those of its choices, where it is admitted
pub mem-edges_at : (P : Plan) (u : Node) (l : ℕ) (e : Edge) → Memᴰ e (edges_at P u l) ↔ EdgeAt P u l e
unfolding edges_at
mem-edges_at P u l e = mem-edges_to P u l (next_in P.arcs u.state l) e

-- the edges of a node are those of its labels
pub mem-edges : (P : Plan) (u : Node) (e : Edge) → Memᴰ e (edges P u) ↔ EdgeFrom P u e
unfolding edges
mem-edges P u e = (
  λ h. let r = mem-of-flat_map (edges_at P u) (up_from 0 (2 ^ length P.tasks)) h in
      record {
        label = r.0;
        below = omega (arith, mem-of-up_from 0 (2 ^ length P.tasks) r.1);
        at = (mem-edges_at P u r.0 e).0 r.2;
      },
  λ r. mem-flat_map (edges_at P u) (mem-up_from 0 (2 ^ length P.tasks) (omega arith) (omega (arith, r.below)))
      ((mem-edges_at P u r.label e).1 r.at),
)

-- the label and the masks of an edge from a node determine it
pub edge_determined : (P : Plan) (u : Node) (e e' : Edge) → Memᴰ e (edges P u) → Memᴰ e' (edges P u) →
    e.label ≡ e'.label → e.masks ≡ e'.masks → e ≡ e'
unfolding edge_of
edge_determined P u e e' h h' p q =
    let r = (mem-edges P u e).0 h in
    let r' = (mem-edges P u e').0 h' in
    let s = r.at in
    let s' = r'.at in
    let l : r.label ≡ r'.label = sym (ap (λ (d : Edge). d.label) s.is) ∙ p ∙ ap (λ (d : Edge). d.label) s'.is in
    let m : s.masks ≡ s'.masks = sym (ap (λ (d : Edge). d.masks) s.is) ∙ q ∙ ap (λ (d : Edge). d.masks) s'.is in
    let n : s.next ≡ s'.next =
    some-injective s.next s'.next (sym s.admitted ∙ ap (next_in P.arcs u.state) l ∙ s'.admitted) in
    s.is ∙ (λ i. edge_of P u (l i) (n i) (m i)) ∙ sym s'.is
