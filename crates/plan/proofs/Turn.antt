-- A turn of the reader: what holds before each command, and how a command keeps it.
-- Assumes nothing.
use mathlib.Core.Path.{◌≡◌, refl, sym, ap, ap₂, ◌∙◌}
use mathlib.Core.Bool.{false, false≢true}
use mathlib.Core.List.{List, [], ◌∷◌, ◌++◌}
use Prim.Native.Nat.{ℕ, zero, suc, ◌-◌, ◌≤◌, ◌<◌}
use native.Mathlib.Omega.{arith}
use native.Mathlib.Numerals.{add-one}
use Rattle.std.specs.Prelude as rust
use Rattle.std.specs.Prelude.{None, Some, Ok, Err}
use Rattle.std.specs.Result.{IsErrAnd}
use Rattle.std.proofs.lemmas.List.{take_all}
use borrow.Author.Tests.{le-ltb}
use lib.Dec.{ltb}
use lib.ListN.{length, get_or, take, drop, replicate, length-replicate, length-drop}
use lib.Seq.{drop-nil}
use Rattle.model.specs.Edition.{Edition}
use Rattle.model.specs.Plan as model
use Rattle.model.proofs.Plan.{fault-none, read_from-cons, read_from-nil, width-pos}
use Rattle.model.proofs.Lists.{get_d_default}
use Rattle.plan.specs.declared.Operation.{Operation}
use Rattle.plan.specs.declared.tasks.Plan.{Plan}
use Rattle.plan.specs.declared.Reading.{Reading}
use Rattle.plan.specs.declared.Fault.{Fault}
use Rattle.plan.specs.declared.Fault.TheVariants.{BytesEnd, UnknownCommand, OutOfPlace, OutOfRange}
use Rattle.plan.specs.View.{answer_of, fault_number, command_number, given_in, fault_in, reading_of, NothingRead, empty_table, arcs_in, arcs_below, arc_at, pair_count, fault_here, IsOperation, Within, Holds, Readable, Reads}
use Rattle.plan.proofs.View.{fault-from-least}

-- the bytes before the rest have been read
pub record Reached (e : Edition) (s next : List ℕ) (r : Reading) (left : List ℕ) : Type 0 where
  pub within : Within r
  pub holds : Holds next r.least
  pub rest : model.read_plan_in e s ≡ model.read_from e left (reading_of r (arcs_in next))

-- a table of zeros has no arc
empty-below : (n k : ℕ) → arcs_below (replicate n 0) k ≡ []
empty-below n zero = refl
empty-below n (suc k) = ap₂ (λ (as' : List model.Arc) (t : ℕ). as' ++ arc_at k t) (empty-below n k) (get_d_default n k 0)

empty-arcs : arcs_in empty_table ≡ []
unfolding arcs_in
empty-arcs = empty-below pair_count pair_count

empty_holds : Holds empty_table 0
empty_holds = record {
  size = length-replicate {A = ℕ} pair_count 0;
  within = omega arith;
  above = λ k h. get_d_default pair_count k 0;
  below = λ m f z. omega arith;
}

-- before the first command
module _ (r : Reading) (n : NothingRead r) where
  nothing-within : Within r
  nothing-within = record {
    bare = n.bare;
    locks = λ from. (λ i. model.any_locked (drop from (n.tasks i))) ∙ ap model.any_locked (drop-nil from) ∙ sym (ltb-zero from (omega (arith, n.lock)));
    states = λ m e. absurd (none_given m (sym n.states ∙ e));
    some = λ p e. absurd (none_given p (sym n.policy ∙ e));
    policy = λ m e. absurd (none_given m (sym n.states ∙ e));
    end = λ e. absurd (false≢true (sym n.ended ∙ e));
  }
    where
      ltb-zero : (k : ℕ) → r.lock ≤ k → ltb k r.lock ≡ false
      ltb-zero k h = le-ltb k r.lock h

      none_given : (m : ℕ) → ◌≡◌ {A = rust.Option ℕ} None (Some m) → ⊥
      none_given m q = let z : ◌≡◌ {A = ℕ} 0 1 = cc in omega arith

  nothing-reading : reading_of r (arcs_in empty_table) ≡ model.nothing_read
  nothing-reading = λ i. record { tasks = n.tasks i; policy = given_in (n.policy i); states = given_in (n.states i); arcs = empty-arcs i; ended = n.ended i }

  pub reached-start : (e : Edition) (s next : List ℕ) → next ≡ empty_table → Reached e s next r s
  unfolding model.read_plan_in
  reached-start e s next t = rw t (record {
    within = nothing-within;
    holds = rw n.least empty_holds;
    rest = ap (model.read_from e s) (sym nothing-reading);
  })

-- past the last command
pub at-end : (e : Edition) (s next : List ℕ) (r : Reading) (rest : List ℕ) → Reached e s next r rest → rest ≡ [] →
    model.read_plan_in e s ≡ model.at_end (reading_of r (arcs_in next))
at-end e s next r rest h end = h.rest ∙ ap (λ (l : List ℕ). model.read_from e l (reading_of r (arcs_in next))) end ∙ read_from-nil e (reading_of r (arcs_in next))

-- where a command is due
module _ (e : Edition) (s next : List ℕ) (r : Reading) (rest : List ℕ) (c : ℕ) (bs : List ℕ) (h : Reached e s next r rest) (due : rest ≡ c ∷ bs) where
  abbrev fault_due : ℕ
  fault_due = model.fault e (reading_of r (arcs_in next)) (length (c ∷ bs)) c (get_or bs 0 0) (get_or bs 1 0) (model.last_operand e c bs)

  abbrev later : model.PlanAnswer
  later =
      model.read_from e (drop (model.width e c) (c ∷ bs))
      (model.after (reading_of r (arcs_in next)) c (get_or bs 0 0) (get_or bs 1 0) (model.last_operand e c bs))

  step : model.read_plan_in e s ≡ model.refused_or fault_due later
  step = h.rest ∙ ap (λ (l : List ℕ). model.read_from e l (reading_of r (arcs_in next))) due ∙ read_from-cons e c bs (reading_of r (arcs_in next))

  -- the fault found is the definition's
  found : fault_due ≡ fault_here e r c bs
  found =
      sym (fault-from-least e r next (length (c ∷ bs)) c (get_or bs 0 0) (get_or bs 1 0) (model.last_operand e c bs) h.within h.holds)
      ∙ ap (λ (k : ℕ). fault_in e r k c (get_or bs 0 0) (get_or bs 1 0) (model.last_operand e c bs)) (sym (add-one (length bs)))

  refusal-first : (f : Fault) (a : model.PlanAnswer) → model.refused_or (fault_number f) a ≡ model.faulty (fault_number f)
  refusal-first BytesEnd a = refl
  refusal-first UnknownCommand a = refl
  refusal-first OutOfPlace a = refl
  refusal-first OutOfRange a = refl

  -- a fault is the answer
  pub answers_fault : (f : Fault) → fault_here e r c bs ≡ fault_number f → model.faulty (fault_number f) ≡ model.read_plan_in e s
  answers_fault f is = sym (step ∙ ap (λ (n : ℕ). model.refused_or n later) (found ∙ is) ∙ refusal-first f later)

  module _ (g : Operation) (is : IsOperation e c bs g) (none : fault_here e r c bs ≡ 0) where
    -- a command without a fault may be read
    pub readable : Readable r next (command_number g.command) g.x g.y g.z
    readable = rw (is.command, is.x, is.y, is.z) (record {
      within = h.within;
      holds = h.holds;
      edition = e;
      left = length (c ∷ bs);
      passes = found ∙ none;
    })

    -- and then the bytes before the next one have been
    pub reached-next : (n : Reading) (after : List ℕ) → Reads r n next after (command_number g.command) g.x g.y g.z →
        Reached e s after n (drop (model.width e (command_number g.command)) rest)
    reached-next n after d = record {
      within = d.within;
      holds = d.holds;
      rest =
          step ∙ ap (λ (k : ℕ). model.refused_or k later) (found ∙ none)
          ∙ sym (λ i. model.read_from e (drop (model.width e (is.command i)) (due i)) (model.after (reading_of r (arcs_in next)) (is.command i) (is.x i) (is.y i) (is.z i)))
          ∙ ap (model.read_from e (drop (model.width e (command_number g.command)) rest)) (sym d.reading);
    }

    -- it is within the bytes left, and takes one at least
    pub width-fits : (model.width e (command_number g.command) ≤ length rest) × (0 < model.width e (command_number g.command))
    width-fits =
        rw (is.command, due)
        ((fault-none e (reading_of r (arcs_in next)) (length (c ∷ bs)) c (get_or bs 0 0) (get_or bs 1 0) (model.last_operand e c bs) (found ∙ none)).1, width-pos e c)

-- ---- the bytes left as parts of those there were

module _ (l : List ℕ) (w : ℕ) where
  part_all : take (length l - w) (drop w l) ≡ drop w l
  part_all = take_all (length l - w) (drop w l) (omega (arith, length-drop w l))

  -- past w bytes
  pub part_of : (v : ℕ) → w ≡ v → drop v l ≡ take (length l - w) (drop w l)
  part_of v e = ap (λ (k : ℕ). drop k l) (sym e) ∙ sym part_all

  pub part_less : w ≤ length l → 0 < w → length (take (length l - w) (drop w l)) < length l
  part_less h k = omega (arith, ap (λ (m : List ℕ). length m) part_all, length-drop w l)

pub none-left : (l : List ℕ) → length l ≡ 0 → l ≡ []
none-left [] h = refl
none-left (x ∷ l) h = absurd (omega (arith, h))

-- a fault that is handed on is the answer
pub refused_by : (t : rust.Result Plan Fault) (f : Fault) → IsErrAnd t (λ e. e ≡ f) → (a : model.PlanAnswer) → model.faulty (fault_number f) ≡ a → answer_of t ≡ a
refused_by (Ok p) f h a k = absurd h
refused_by (Err e) f h a k = ap (λ (g : Fault). model.faulty (fault_number g)) h ∙ k
