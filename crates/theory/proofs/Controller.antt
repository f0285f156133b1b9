-- The register block is true to the rules.
-- Assumes nothing.
use mathlib.Core.Path.{◌≡◌, refl, sym, ap, ap₂, subst, ◌∙◌}
use mathlib.Core.Bool.{Bool, true, false, cond, ◌||◌}
use mathlib.Core.List.{List, [], ◌∷◌, ◌++◌, foldl-append, append-nil, append_assoc, reverse, reverse-append, reverse-reverse, head-eq_of_cons-eq, tail-eq_of_cons-eq, concat-ne-nil}
use mathlib.Core.Option.{Option, none, some}
use Prim.Native.Nat.{ℕ, ◌+◌, ◌%◌, ◌<◌}
use native.Mathlib.Nat.{mod-add-mod, mod-lt}
use native.Mathlib.Omega.{arith}
use borrow.Author.Tests.{eqb-true}
use lib.Dec.{T, eqb, lit<}
use Rattle.model.specs.Bytes.{bytes}
use Rattle.model.specs.Controller.{Block, Write, fresh, registers, gives_label, runs, gives_mask, refusal_of, gain_limit, ran_to, with_label, with_mask, after_write, after_writes, block_after, asked, admitted_next, admitted_of, BlockClaim}
use Rattle.model.specs.Lists.{cons_if}
use Rattle.model.specs.Plan.{Plan, next_in}
use Rattle.model.specs.Refusals.{bad_write}
use Rattle.model.specs.Schedule.{gain_from, policy_gain, admits_from, admits, state_after}
use Rattle.model.specs.Slot.{Job, Done, slot, jobs_after}
use Rattle.model.specs.Trace.{task_or0}
use Rattle.model.proofs.Plan.{both}
use Rattle.model.proofs.Tests.{holds, fails}
use Rattle.words.proofs.Numbers.{number-bytes}
use Rattle.theory.proofs.Jobs.{after-append}
use Rattle.theory.proofs.Pairs.{then, state_snoc}

-- ---- writes

-- the block after a slot with its label
abbrev slot_run : Plan → Block → Block
slot_run P b = ran_to P b (next_in P.arcs b.state b.label)

-- the block after a write, by the tests of what it gives
abbrev by_tests : Plan → Block → Write → Bool → Bool → Bool → Block
by_tests P b w x y z = cond x (with_label b w.value) (cond y (slot_run P b) (cond z (with_mask b w.value) b))

-- a write that is refused leaves the block as it was
pub refused-unchanged : (P : Plan) (b : Block) (w : Write) → refusal_of w ≡ bad_write → after_write P b w ≡ b
unfolding refusal_of after_write
refused-unchanged P b w e = by (gives_label w) (runs w) (gives_mask w) e
  where
    by : (x y z : Bool) → cond (x || y || z) 0 bad_write ≡ bad_write → by_tests P b w x y z ≡ b
    by true y z e = absurd (omega (arith, e))
    by false true z e = absurd (omega (arith, e))
    by false false true e = absurd (omega (arith, e))
    by false false false e = refl

-- writes, and then more
pub after_more : (P : Plan) (b : Block) (ws vs : List Write) → after_writes P b (ws ++ vs) ≡ after_writes P (after_writes P b ws) vs
after_more P b [] vs = refl
after_more P b (w ∷ ws) vs = after_more P (after_write P b w) ws vs

-- ---- one label more

-- a list and its last are told by the whole
of-last : (Q : List ℕ → ℕ → Type 0) (xs ys : List ℕ) (x y : ℕ) → xs ++ (x ∷ []) ≡ ys ++ (y ∷ []) → Q xs x → Q ys y
of-last Q xs ys x y e q = subst (λ zs. Q zs y) same (subst (Q xs) (head-eq_of_cons-eq turned) q)
  where
    turned : x ∷ reverse xs ≡ y ∷ reverse ys
    turned = sym (reverse-append xs (x ∷ [])) ∙ ap reverse e ∙ reverse-append ys (y ∷ [])

    same : xs ≡ ys
    same = sym (reverse-reverse xs) ∙ ap reverse (tail-eq_of_cons-eq turned) ∙ reverse-reverse ys

abbrev is_some : Option ℕ → Bool
is_some none = false
is_some (some t) = true

module _ (P : Plan) where
  -- one slot's gain more
  gain_snoc : (ls : List ℕ) (js : List Job) (l : ℕ) → gain_from P js (ls ++ (l ∷ [])) ≡ gain_from P js ls + (slot P (jobs_after P js ls) l).gain
  gain_snoc [] js l = omega arith
  gain_snoc (k ∷ ls) js l = omega (arith, gain_snoc ls (slot P js k).jobs l)

  -- labels are admitted just if a state is after them
  admits-state : (ls : List ℕ) (s : ℕ) → admits_from P ls s ≡ is_some (state_after P ls s)
  admits-state [] s = refl
  admits-state (l ∷ ls) s = by (next_in P.arcs s l) (λ t. admits-state ls t)
    where
      by : (o : Option ℕ) → ((t : ℕ) → admits_from P ls t ≡ is_some (state_after P ls t)) →
          (elim o [ none ↦ false | some t ↦ admits_from P ls t ]) ≡ is_some (elim o [ none ↦ none | some t ↦ state_after P ls t ])
      by none later = refl
      by (some t) later = later t

  admitted_snoc : (ls : List ℕ) (l : ℕ) → admitted_of P (ls ++ (l ∷ [])) ≡ admitted_next P (admitted_of P ls) l
  unfolding admitted_of
  admitted_snoc ls l = foldl-append (admitted_next P) [] ls (l ∷ [])

  -- ---- the block and the labels

  -- the slot with a label after those of the labels that are admitted before it
  abbrev slot_after : List ℕ → ℕ → Done
  slot_after ls l = slot P (jobs_after P [] (admitted_of P ls)) l

  -- this is the task that it runs, if the label is admitted
  abbrev Ran : ℕ → List ℕ → ℕ → Type 0
  Ran task ls l = T (admits P (admitted_of P ls ++ (l ∷ []))) → task ≡ task_or0 (slot_after ls l).ran

  -- the block after slots were asked for with these labels
  record Agrees (b : Block) (ls : List ℕ) : Type 0 where
    state : state_after P (admitted_of P ls) 0 ≡ some b.state
    jobs : b.jobs ≡ jobs_after P [] (admitted_of P ls)
    gain : b.gain ≡ policy_gain P (admitted_of P ls) % gain_limit
    ran : (ks : List ℕ) (k : ℕ) → ls ≡ ks ++ (k ∷ []) → Ran b.ran ks k

  -- after one slot more
  slot_agrees : (b : Block) (ls : List ℕ) → Agrees b ls → Agrees (slot_run P b) (ls ++ (b.label ∷ []))
  unfolding ran_to
  slot_agrees b ls h = by (next_in P.arcs b.state l) refl
    where
      l : ℕ
      l = b.label

      run : List ℕ
      run = admitted_of P ls

      leads : (o : Option ℕ) → next_in P.arcs b.state l ≡ o → state_after P (run ++ (l ∷ [])) 0 ≡ o
      leads o e = state_snoc P run 0 l ∙ ap (then P l) h.state ∙ e

      admitted : (o : Option ℕ) → next_in P.arcs b.state l ≡ o → admits P (run ++ (l ∷ [])) ≡ is_some o
      admitted o e = admits-state (run ++ (l ∷ [])) 0 ∙ ap is_some (leads o e)

      next : (o : Option ℕ) → next_in P.arcs b.state l ≡ o → admitted_of P (ls ++ (l ∷ [])) ≡ cond (is_some o) (run ++ (l ∷ [])) run
      next o e = admitted_snoc ls l ∙ ap (λ (t : Bool). cond t (run ++ (l ∷ [])) run) (admitted o e)

      by : (o : Option ℕ) → next_in P.arcs b.state l ≡ o → Agrees (ran_to P b o) (ls ++ (l ∷ []))
      by none e =
          let same : admitted_of P (ls ++ (l ∷ [])) ≡ run = next none e in
          record {
            state = ap (λ (r : List ℕ). state_after P r 0) same ∙ h.state;
            jobs = h.jobs ∙ ap (jobs_after P []) (sym same);
            gain = h.gain ∙ ap (λ (r : List ℕ). policy_gain P r % gain_limit) (sym same);
            ran = λ ks k f. of-last (Ran 0) ls ks l k f (λ t. absurd (fails (admitted none e) t));
          }
      by (some s) e =
          let more : admitted_of P (ls ++ (l ∷ [])) ≡ run ++ (l ∷ []) = next (some s) e in
          let done : slot P b.jobs l ≡ slot_after ls l = ap (λ (js : List Job). slot P js l) h.jobs in
          record {
            state = ap (λ (r : List ℕ). state_after P r 0) more ∙ leads (some s) e;
            jobs = ap (λ (d : Done). d.jobs) done ∙ sym (after-append P run l []) ∙ ap (jobs_after P []) (sym more);
            gain = ap₂ (λ (g : ℕ) (d : Done). (g + d.gain) % gain_limit) h.gain done
                ∙ mod-add-mod (policy_gain P run) gain_limit (slot_after ls l).gain
                ∙ ap (λ (g : ℕ). g % gain_limit) (sym (gain_snoc run [] l))
                ∙ ap (λ (r : List ℕ). policy_gain P r % gain_limit) (sym more);
            ran = λ ks k f. of-last (Ran (task_or0 (slot P b.jobs l).ran)) ls ks l k f (λ t. ap (λ (d : Done). task_or0 d.ran) done);
          }

  -- which clears the label
  slot_clears : (b : Block) (o : Option ℕ) → (ran_to P b o).label ≡ 0
  unfolding ran_to
  slot_clears b none = refl
  slot_clears b (some s) = refl

  -- after any writes
  all_agree : (ws : List Write) (b : Block) (ls : List ℕ) → Agrees b ls → Agrees (after_writes P b ws) (ls ++ asked b.label ws)
  unfolding after_write
  all_agree [] b ls h = subst (Agrees b) (sym (append-nil ls)) h
  all_agree (w ∷ ws) b ls h = by (gives_label w) (runs w) (gives_mask w) refl refl (λ c ks a. all_agree ws c ks a)
    where
      by : (x y z : Bool) → gives_label w ≡ x → runs w ≡ y →
          ((c : Block) (ks : List ℕ) → Agrees c ks → Agrees (after_writes P c ws) (ks ++ asked c.label ws)) →
          Agrees (after_writes P (by_tests P b w x y z) ws)
          (ls ++ cons_if y b.label (asked (cond x w.value (cond y 0 b.label)) ws))
      by true true z e f later =
          absurd (omega (arith, eqb-true w.byte 0 e, eqb-true w.byte 1 (both (eqb w.byte 1) (eqb w.value 1) f).0))
      by true false z e f later = later (with_label b w.value) ls (record { state = h.state; jobs = h.jobs; gain = h.gain; ran = h.ran })
      by false true z e f later =
          subst (Agrees (after_writes P (slot_run P b) ws))
          (append_assoc ls (b.label ∷ []) (asked (slot_run P b).label ws)
          ∙ ap (λ (l : ℕ). ls ++ (b.label ∷ asked l ws)) (slot_clears b (next_in P.arcs b.state b.label)))
          (later (slot_run P b) (ls ++ (b.label ∷ [])) (slot_agrees b ls h))
      by false false true e f later = later (with_mask b w.value) ls (record { state = h.state; jobs = h.jobs; gain = h.gain; ran = h.ran })
      by false false false e f later = later b ls h

  -- at first no slot was asked for
  fresh_agrees : Agrees fresh []
  unfolding admitted_of
  fresh_agrees = record {
    state = refl;
    jobs = refl;
    gain = refl;
    ran = λ ks k e. absurd (concat-ne-nil k ks (sym e));
  }

-- the theorem that is due
pub block-claim : BlockClaim
unfolding registers bytes
block-claim P ws =
    let a = all_agree P ws fresh [] (fresh_agrees P) in
    record {
      run = holds (admits-state P (admitted_of P (asked 0 ws)) 0 ∙ ap is_some a.state);
      gain = number-bytes 4 (block_after P ws).gain (subst (λ (g : ℕ). g < gain_limit) (sym a.gain) (mod-lt _ (lit< tt))) ∙ a.gain;
      ran = a.ran;
    }
