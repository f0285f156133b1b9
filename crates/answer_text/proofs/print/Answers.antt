-- `answer_text::print` meets its contract: what is finished stands in the output.
-- Assumes nothing.
use Rattle.answer_text.proofs.Finished.{finished_inside}
use Rattle.answer_text.proofs.print.Goals as goal

pub slice_bounds-write_all-end : goal.slice_bounds-write_all-end
slice_bounds-write_all-end c = (finished_inside _ _ _ _ c.requires c.finish-n.ensures).0

pub slice_bounds-write_all-end-2 : goal.slice_bounds-write_all-end-2
slice_bounds-write_all-end-2 c = (finished_inside _ _ _ _ c.requires c.finish-n.ensures).1
