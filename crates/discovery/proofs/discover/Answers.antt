-- `discovery::discover` meets its contract. Assumes nothing.
use Rattle.words.proofs.Free.{only_trans}
use Rattle.discovery.proofs.Answer.{none-stored, begun-some, begun, discovers}
use Rattle.discovery.proofs.discover.Goals as goal

pub add_node-requires : goal.add_node-requires
add_node-requires c = none-stored c.clear_index.new.m c.clear_index.ensures.index

pub returns-in_err-first-clause-discovers : goal.returns-in_err-first-clause-discovers
returns-in_err-first-clause-discovers c =
    absurd (begun-some c.args.machine.now.rules c.start.result c.start.ensures c.clear_index.new.m c.add_node.new.m c.clear_index.ensures.index c.in_err-first.ensures)

pub explore_all-requires : goal.explore_all-requires
explore_all-requires c = (
  c.requires.planning,
  (begun c.args.machine.now.rules c.start.result c.start.ensures c.clear_index.new.m c.add_node.new.m c.clear_index.ensures.index
      c.in_ok-first.first c.in_ok-first.ensures).0,
)

pub returns-clause-discovers : goal.returns-clause-discovers
returns-clause-discovers c =
    let a = c.args in
    let m = a.machine.now in
    let begin =
    begun m.rules c.start.result c.start.ensures c.clear_index.new.m c.add_node.new.m c.clear_index.ensures.index c.in_ok-first.first c.in_ok-first.ensures in
    discovers m.rules m.next a.m.now c.add_node.new.m c.explore_all.new.m c.requires.planning (only_trans c.clear_index.ensures.only begin.1)
    c.explore_all.result c.explore_all.ensures.known
