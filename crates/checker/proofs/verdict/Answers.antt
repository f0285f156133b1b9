-- `checker::verdict` meets its contract: the tests of the definition, one after the other. Assumes nothing.
use mathlib.Core.Path.{sym, ◌∙◌}
use Rattle.words.proofs.Free.{only_refl}
use Rattle.model.specs.Edition.{long_reads}
use Rattle.certificate.specs.View.{certificate_of}
use Rattle.checker.proofs.Tests.{bad_fraction_lem}
use Rattle.checker.proofs.Passed.{other_count, past_limit, tested, edge_fails, cycle_fails, all_pass}
use Rattle.checker.proofs.verdict.Goals as goal

pub returns-then-not-is_allowed : goal.returns-then-not-is_allowed
returns-then-not-is_allowed c =
    let a = c.args in record {
      result_value = λ P p h. bad_fraction_lem P (certificate_of long_reads a.s.now a.parts) (sym c.is_allowed.ensures ∙ c.if-not-is_allowed.true);
      notes_free = only_refl;
    }

pub returns-then-parts-n : goal.returns-then-parts-n
returns-then-parts-n c = record {
  result_value = λ P p h. other_count c.args.s.now c.args.parts c.args.machine.now.rules (sym c.is_allowed.ensures ∙ c.if-not-is_allowed.false) c.if-parts-n.true P h;
  notes_free = only_refl;
}

pub returns-then-not-within_limits : goal.returns-then-not-within_limits
returns-then-not-within_limits c = record {
  result_value = λ P p h.
      past_limit c.args.s.now c.args.parts c.args.machine.now.rules (sym c.is_allowed.ensures ∙ c.if-not-is_allowed.false) c.if-parts-n.false
      (sym c.within_limits.ensures ∙ c.if-not-within_limits.true) P h;
  notes_free = only_refl;
}

pub edges_hold-requires : goal.edges_hold-requires
edges_hold-requires c =
    let held = c.requires.0 in record {
      plan = held.plan;
      certificate = certificate_of long_reads c.args.s.now c.args.parts;
      test =
          tested c.args.s.now c.args.parts c.args.machine.now.rules (sym c.is_allowed.ensures ∙ c.if-not-is_allowed.false) c.if-parts-n.false c.requires.1
          (sym c.within_limits.ensures ∙ c.if-not-within_limits.false) held.plan held.planned held.holds;
    }

pub returns-then-not-edges_hold : goal.returns-then-not-edges_hold
returns-then-not-edges_hold c = record {
  result_value =
      edge_fails c.args.s.now c.args.parts c.args.machine.now.rules (sym c.is_allowed.ensures ∙ c.if-not-is_allowed.false) c.if-parts-n.false c.requires.1
      (sym c.within_limits.ensures ∙ c.if-not-within_limits.false) c.edges_hold.ensures.value c.if-not-edges_hold.true;
  notes_free = c.edges_hold.ensures.notes_free;
}

pub returns-then-not-holds : goal.returns-then-not-holds
returns-then-not-holds c = record {
  result_value =
      cycle_fails c.args.s.now c.args.parts c.args.machine.now.rules (sym c.is_allowed.ensures ∙ c.if-not-is_allowed.false) c.if-parts-n.false c.requires.1
      (sym c.within_limits.ensures ∙ c.if-not-within_limits.false) c.edges_hold.ensures.value c.if-not-edges_hold.false
      c.holds.ensures c.if-not-holds.true;
  notes_free = c.edges_hold.ensures.notes_free;
}

pub returns : goal.returns
returns c = record {
  result_value =
      all_pass c.args.s.now c.args.parts c.args.machine.now.rules (sym c.is_allowed.ensures ∙ c.if-not-is_allowed.false) c.if-parts-n.false c.requires.1
      (sym c.within_limits.ensures ∙ c.if-not-within_limits.false) c.edges_hold.ensures.value c.if-not-edges_hold.false
      c.holds.ensures c.if-not-holds.false c.allowance-k.ensures;
  notes_free = c.edges_hold.ensures.notes_free;
}
