-- Laws of walks: the labels are admitted, the gains add up, the masks fit, and no slot is given twice.
-- Assumes nothing.
use mathlib.Core.Path.{◌≡◌, refl, sym, ◌∙◌, ap, ap₂, subst}
use mathlib.Core.Bool.{Bool, true, false, cond, not}
use mathlib.Core.Option.{Option, none, some}
use mathlib.Core.Logic.{inl, inr}
use mathlib.Core.List.{List, [], ◌∷◌, Memᴰ}
use Prim.Native.Nat.{ℕ, zero, suc, ◌+◌, ◌/◌, ◌^◌, ◌<◌}
use native.Mathlib.Nat.{add-sub_cancel}
use native.Mathlib.Numerals.{add-one}
use native.Mathlib.Omega.{arith}
use lib.Dec.{T, eqb}
use lib.ListN.{length, get_or}
use Rattle.model.specs.Lists.{bit, sum}
use Rattle.model.specs.Plan.{Task, Plan, next_in}
use Rattle.model.specs.Slot.{no_task, task_of, slot}
use Rattle.model.specs.Schedule.{admits_from, gain_from}
use Rattle.model.specs.Graph.{Node, Edge, joined, worth, edge_of, edges}
use Rattle.model.specs.Walk.{Walk, here, go, kept, ideal, labels, mask_at}
use Rattle.theory.proofs.Sums.{sum_same, sum-zero, sum_head}
use Rattle.theory.proofs.Bits.{bit_half, zero_no_bit}
use Rattle.theory.proofs.Edges.{MaskOf, Fits, EdgeFrom, mem-edges, joined-bit}

-- an edge from a node, by its own parts
pub record Step (P : Plan) (u : Node) (e : Edge) : Type 0 where
  pub below : e.label < 2 ^ length P.tasks
  pub admitted : next_in P.arcs u.state e.label ≡ some e.to.state
  pub fits : Fits P.tasks e.label u.taken e.masks
  pub jobs : e.to.jobs ≡ (slot P u.jobs e.label).jobs
  pub taken : e.to.taken ≡ joined u.taken e.masks / 2
  pub kept : e.kept ≡ (slot P u.jobs e.label).gain
  pub ideal : e.ideal ≡ worth P.tasks e.masks

-- every edge has them
pub step-of : (P : Plan) (u : Node) (e : Edge) → Memᴰ e (edges P u) → Step P u e
unfolding edge_of
step-of P u e h = subst (Step P u) (sym r.at.is) whole
  where
    r : EdgeFrom P u e
    r = (mem-edges P u e).0 h

    whole : Step P u (edge_of P u r.label r.at.next r.at.masks)
    whole = record {
      below = r.below;
      admitted = r.at.admitted;
      fits = r.at.fits;
      jobs = refl;
      taken = refl;
      kept = refl;
      ideal = refl;
    }

-- a label that leads on: the rest is admitted from where it leads
pub admits-next : (P : Plan) (l : ℕ) (ls : List ℕ) (s t : ℕ) → next_in P.arcs s l ≡ some t → admits_from P (l ∷ ls) s ≡ admits_from P ls t
admits-next P l ls s t h = ap (λ (o : Option ℕ). elim o [ none ↦ false | some n ↦ admits_from P ls n ]) h

-- the first label that is admitted leads on
pub admits-some : (P : Plan) (l : ℕ) (ls : List ℕ) (s : ℕ) → T (admits_from P (l ∷ ls) s) →
    (t : ℕ) × (next_in P.arcs s l ≡ some t) × T (admits_from P ls t)
admits-some P l ls s h = go (next_in P.arcs s l) refl h
  where
    go : (o : Option ℕ) → next_in P.arcs s l ≡ o → T (elim o [ none ↦ false | some n ↦ admits_from P ls n ]) →
        (t : ℕ) × (next_in P.arcs s l ≡ some t) × T (admits_from P ls t)
    go none e h = absurd h
    go (some t) e h = (t, e, h)

module _ (P : Plan) where
  -- the automaton admits a walk's labels
  pub walk_admits : {u v : Node} {es : List Edge} → Walk P u v es → T (admits_from P (labels es) u.state)
  walk_admits here = tt
  walk_admits (go {u = u} {e = e} {es = es} h w) =
      subst T (sym (admits-next P e.label (labels es) u.state e.to.state (step-of P u e h).admitted)) (walk_admits w)

  -- what a walk keeps is the policy's gain over its labels
  pub walk_kept : {u v : Node} {es : List Edge} → Walk P u v es → kept es ≡ gain_from P u.jobs (labels es)
  walk_kept here = refl
  walk_kept (go {u = u} {e = e} {es = es} h w) =
      let s = step-of P u e h in
      ap₂ (λ (a b : ℕ). a + b) s.kept (walk_kept w ∙ ap (λ js. gain_from P js (labels es)) s.jobs)

-- the clairvoyant's gain of a choice, task by task
worth-sum : (ts : List Task) (ms : List ℕ) →
    worth ts ms ≡ sum (λ k. cond (not (eqb (get_or ms k 0) 0)) (get_or ts k no_task).value 0) (length ts)
worth-sum [] ms = refl
worth-sum (t ∷ ts) [] = sym (sum-zero _ (suc (length ts)) (λ k h. refl))
worth-sum (t ∷ ts) (m ∷ ms) =
    ap₂ (λ (a b : ℕ). a + b) (flip (eqb m 0)) (worth-sum ts ms)
    ∙ sym (sum_head (λ k. cond (not (eqb (get_or (m ∷ ms) k 0) 0)) (get_or (t ∷ ts) k no_task).value 0) (length ts))
  where
    flip : (b : Bool) → cond b 0 t.value ≡ cond (not b) t.value 0
    flip true = refl
    flip false = refl

-- the gain of picked jobs, slot by slot and task by task
abbrev pub gain_of : List Task → (ℕ → ℕ → Bool) → ℕ → ℕ
gain_of ts picks n = sum (λ t. sum (λ k. cond (picks t (k + 1)) (task_of ts (k + 1)).value 0) (length ts)) n

-- a walk picks a job where its mask is not 0
abbrev pub picks_of : List Edge → ℕ → ℕ → Bool
picks_of es t i = not (eqb (mask_at es t i) 0)

-- the same picks gain the same
pub gain_of-same : (ts : List Task) (f g : ℕ → ℕ → Bool) (n : ℕ) → ((t i : ℕ) → f t i ≡ g t i) → gain_of ts f n ≡ gain_of ts g n
gain_of-same ts f g n h =
    sum_same _ _ n (λ t _. sum_same _ _ (length ts) (λ k _. ap (λ b. cond b (task_of ts (k + 1)).value 0) (h t (k + 1))))

-- a walk's ideal gain is that of the jobs that it picks
pub walk_ideal : {P : Plan} {u v : Node} {es : List Edge} → Walk P u v es → ideal es ≡ gain_of P.tasks (picks_of es) (length (labels es))
walk_ideal here = refl
walk_ideal {P} (go {u = u} {e = e} {es = es} h w) =
    ap₂ (λ (a b : ℕ). a + b) ((step-of P u e h).ideal ∙ worth-sum P.tasks e.masks ∙ sum_same _ _ (length P.tasks) shifted)
    (walk_ideal w)
    ∙ sym (sum_head _ (length (labels es)))
  where
    shifted : (k : ℕ) → k < length P.tasks →
        cond (not (eqb (get_or e.masks k 0) 0)) (get_or P.tasks k no_task).value 0
        ≡ cond (picks_of (e ∷ es) 0 (k + 1)) (task_of P.tasks (k + 1)).value 0
    shifted k h = rw (add-sub_cancel, add-one)

-- no task is numbered 0
pub mask_at-none : (es : List Edge) (t : ℕ) → mask_at es t 0 ≡ 0
mask_at-none [] t = refl
mask_at-none (e ∷ es) zero = refl
mask_at-none (e ∷ es) (suc t) = mask_at-none es t

-- every mask of a walk fits its task and label
pub walk_mask : {P : Plan} {u v : Node} {es : List Edge} → Walk P u v es → (t i : ℕ) →
    MaskOf (get_or P.tasks i no_task) (bit (get_or (labels es) t 0) i) (mask_at es t (suc i))
walk_mask here t i = inl refl
walk_mask {P} (go {u = u} {e = e} h w) zero i = (step-of P u e h).fits.mask i
walk_mask (go h w) (suc t) i = walk_mask w t i

module _ {P : Plan} {u : Node} {e : Edge} (s : Step P u e) (k : ℕ) where
  -- the pattern after an edge, by its bits
  step-bit : bit (joined u.taken e.masks) (suc k) ≡ bit e.to.taken k
  step-bit = sym (ap (λ (n : ℕ). bit n k) s.taken ∙ bit_half (joined u.taken e.masks) k)

  -- a slot that was taken stays so
  step_keeps : T (bit u.taken (suc k)) → T (bit e.to.taken k)
  step_keeps h = subst T step-bit ((joined-bit u.taken e.masks (suc k)).1 (inl h))

  -- a slot of a mask is taken
  step_takes : (i : ℕ) → T (bit (get_or e.masks i 0) (suc k)) → T (bit e.to.taken k)
  step_takes i h = subst T step-bit ((joined-bit u.taken e.masks (suc k)).1 (inr (i, h)))

-- the same bit of the same number
at_place : (n : ℕ) {j k : ℕ} → j ≡ k → T (bit n j) → T (bit n k)
at_place n e h = subst (λ i. T (bit n i)) e h

-- the masks of a walk are clear of the pattern that it finds
pub walk_clear : {P : Plan} {u v : Node} {es : List Edge} → Walk P u v es → (t i k : ℕ) →
    T (bit (mask_at es t i) k) → T (bit u.taken (t + k)) → ⊥
walk_clear here t i k h b = zero_no_bit refl k h
walk_clear (go m w) zero zero k h b = zero_no_bit refl k h
walk_clear {P} (go {u = u} {e = e} m w) zero (suc i) k h b = (step-of P u e m).fits.clear i k h (at_place u.taken (omega arith) b)
walk_clear {P} (go {u = u} {e = e} m w) (suc t) i k h b =
    walk_clear w t i k h (step_keeps (step-of P u e m) (t + k) (at_place u.taken (omega arith) b))

-- a slot of the first step's mask is in no later step's
first-apart : {P : Plan} {u v : Node} {e : Edge} {es : List Edge} → Step P u e → Walk P e.to v es →
    (i k t i' k' : ℕ) → k ≡ suc t + k' →
    T (bit (mask_at (e ∷ es) 0 i) k) → T (bit (mask_at es t i') k') → ⊥
first-apart s w zero k t i' k' p h h' = zero_no_bit refl k h
first-apart {e = e} s w (suc i) k t i' k' p h h' =
    walk_clear w t i' k' h' (step_takes s (t + k') i (at_place (get_or e.masks i 0) (omega arith) h))

-- no slot is given twice along a walk
pub walk_once : {P : Plan} {u v : Node} {es : List Edge} → Walk P u v es → (t i k t' i' k' : ℕ) → t + k ≡ t' + k' →
    T (bit (mask_at es t i) k) → T (bit (mask_at es t' i') k') → (t ≡ t') × (i ≡ i')
walk_once here t i k t' i' k' p h h' = absurd (zero_no_bit refl k h)
walk_once (go m w) zero zero k zero i' k' p h h' = absurd (zero_no_bit refl k h)
walk_once (go m w) zero (suc i) k zero zero k' p h h' = absurd (zero_no_bit refl k' h')
walk_once {P} (go {u = u} {e = e} m w) zero (suc i) k zero (suc i') k' p h h' =
    (refl, ap suc ((step-of P u e m).fits.apart i i' k h (at_place (get_or e.masks i' 0) (omega arith) h')))
walk_once {P} (go {u = u} {e = e} m w) zero i k (suc t') i' k' p h h' =
    absurd (first-apart (step-of P u e m) w i k t' i' k' (omega arith) h h')
walk_once {P} (go {u = u} {e = e} m w) (suc t) i k zero i' k' p h h' =
    absurd (first-apart (step-of P u e m) w i' k' t i k (omega arith) h' h)
walk_once (go m w) (suc t) i k (suc t') i' k' p h h' =
    let r = walk_once w t i k t' i' k' (omega arith) h h' in
    (ap suc r.0, r.1)
