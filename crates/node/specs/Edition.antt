-- An edition as a struct.
use Rattle.model.specs.Edition as model
use Rattle.node.specs.declared.Edition.{Edition}

abbrev pub edition_of : Edition → model.Edition
edition_of e = record { window = e.window; value = e.value; value_width = e.value_width; mask_width = e.mask_width; locks = e.locks }
