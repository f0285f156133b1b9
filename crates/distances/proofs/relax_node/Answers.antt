-- `distances::relax_node` meets its contract: the labels one after another. Assumes nothing.
use mathlib.Core.Path.{◌≡◌, refl, sym, ap, subst, ◌∙◌}
use mathlib.Core.Bool.{Bool, true, false, true≢false}
use mathlib.Core.List.{List}
use Prim.Native.Nat.{ℕ, ◌^◌}
use native.Mathlib.Omega.{arith}
use Rattle.discovery.specs.Discovery.{node_in}
use Rattle.links.specs.declared.Link.{Link}
use Rattle.links.specs.declared.Mark.{Mark}
use Rattle.links.specs.declared.Mark.TheVariants.{Unknown, Waiting, Tried}
use Rattle.links.specs.Links.{link_in, is_known, is_waiting, state_in}
use Rattle.distances.specs.Distances.{RelaxesNode}
use Rattle.distances.proofs.Advances.{advance-none, advance-circuit, sought-after}
use Rattle.distances.proofs.Labels.{below_none, below_more, below_all}
use Rattle.distances.proofs.Rows.{numbered-kept}
use Rattle.distances.proofs.Taken.{taken_idle}
use Rattle.distances.proofs.Targets.{passed_up}
use Rattle.distances.proofs.relax_node.Goals as goal

-- whether a node waits, by its link
waiting-is : (m : List ℕ) (u : ℕ) {l : Link} {w b : Bool} → l ≡ link_in m u → w ≡ is_waiting l.mark → w ≡ b → (state_in m).waiting u ≡ b
waiting-is m u e f h = ap (λ (l : Link). is_waiting l.mark) (sym e) ∙ sym f ∙ h

-- what waits is known
waits-known : (k : Mark) → is_waiting k ≡ true → is_known k ≡ true
waits-known Unknown h = absurd (true≢false (sym h))
waits-known Waiting h = refl
waits-known Tried h = absurd (true≢false (sym h))

pub returns-then-not-waits : goal.returns-then-not-waits
returns-then-not-waits c P s =
    let a = c.args in
    let idle : (state_in a.m.now).waiting a.u ≡ false = waiting-is a.m.now a.u c.link_to.ensures c.waits.ensures c.if-not-waits.true in record {
      advance = advance-none s.search;
      taken = taken_idle s.priced c.requires.1 (λ known. s.search.done a.u c.requires.1 known idle);
      tried = λ e. idle;
    }

pub loop-label-init : goal.loop-label-init
loop-label-init c P s = below_none s.search

pub relax_label-requires : goal.relax_label-requires
relax_label-requires c =
    let a = c.args in
    let seeking = c.requires.0 in
    let b = c.loop-label.invariant seeking.plan seeking.sought in
    let known = waits-known (link_in a.m.now a.u).mark (waiting-is a.m.now a.u c.link_to.ensures c.waits.ensures c.if-not-waits.false) in (
      record { plan = seeking.plan; sought = sought-after b.advance seeking.sought },
      numbered-kept b.advance.only seeking.sought.priced.holds.rows.index.few (record {
        below = c.requires.1;
        row = c.node_of-node.ensures ∙ ap node_in c.row.ensures;
      }),
      b.advance.progress.later.known a.u c.requires.1 known,
    )

pub returns-in_err-moved : goal.returns-in_err-moved
returns-in_err-moved c P s =
    let a = c.args in
    let b = c.loop-label.invariant P s in
    subst (RelaxesNode P a.claim a.u a.m.now c.relax_label.new.m) (sym (passed_up c.from_residual.result c.from_residual.ensures.1)) (record {
      advance = advance-circuit b.advance (c.in_err-moved.ensures P (sought-after b.advance s)).advance;
      taken = tt;
      tried = tt;
    })

pub loop-label-preserved : goal.loop-label-preserved
loop-label-preserved c P s = let b = c.loop-label.invariant P s in below_more b (c.in_ok-moved.ensures P (sought-after b.advance s))

pub returns : goal.returns
returns c P s =
    let a = c.args in
    let all : c.loop-label.label ≡ 2 ^ a.machine.now.rules.tasks.count = omega arith in
    let known = waits-known (link_in a.m.now a.u).mark (waiting-is a.m.now a.u c.link_to.ensures c.waits.ensures c.if-not-waits.false) in
    below_all (c.loop-label.invariant P s) s a.machine.now.ruled all c.requires.1 known c.set_mark.ensures.puts
