-- The pieces that are written of the head, of the cycle's start, of a step and of the end.
use Rattle.std.specs.Prelude.{ℕ, List, [], ◌∷◌, ◌++◌}
use Rattle.model.specs.Bytes.{bytes}
use Rattle.model.specs.Certificate.{Step}
use Rattle.words.specs.Packed.{unpacked}
use Rattle.certificate.specs.View.{head_command, node_command, end_command}

abbrev pub head_bytes : ℕ → ℕ → ℕ → List ℕ
head_bytes p q n = (head_command ∷ bytes 4 p) ++ bytes 4 q ++ bytes 2 n

abbrev pub node_bytes : ℕ → List ℕ
node_bytes v = node_command ∷ bytes 2 v

abbrev pub packed_step : ℕ → ℕ → Step
packed_step label masks = record { label = label; masks = unpacked masks }

abbrev pub end_bytes : List ℕ
end_bytes = end_command ∷ []
