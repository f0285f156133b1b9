-- `rewrite_plan::word_in` meets its contract: the bytes of the longest word.
-- Assumes nothing.
use Rattle.rewrite_plan.proofs.Words.{combine_is}
use Rattle.rewrite_plan.proofs.word_in.Goals as goal

pub returns-in-combine : goal.returns-in-combine
returns-in-combine c = search combine_is
