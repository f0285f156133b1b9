-- `graph::best_score` meets its contract. Assumes nothing.
use Rattle.graph.proofs.Notes.{score-read}
use Rattle.graph.proofs.best_score.Goals as goal

pub returns : goal.returns
returns c = λ count. score-read c.args.notes.now count c.args.pattern c.requires
