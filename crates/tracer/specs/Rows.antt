-- What a row stands for.
use Rattle.model.specs.Trace as model
use Rattle.tracer.specs.declared.Row.{Row}

abbrev pub row_view : Row → model.Row
row_view r = record { ran = r.ran; gain = r.gain; cut = r.cut }
