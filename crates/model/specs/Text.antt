-- What the programs write to standard output.
use Rattle.std.specs.Prelude.{ℕ, zero, suc, ◌+◌, ◌/◌, ◌%◌, cond, List, [], ◌∷◌, ◌++◌, ltb}
use Rattle.std.proofs.Math.Option.{Option, none, some}
use Rattle.model.specs.Lists.{flat_map}
use Rattle.model.specs.Masks.{mask_table}
use Rattle.model.specs.Trace.{Row}
use Rattle.model.specs.Check.{CheckAnswer, refused, share}
use Rattle.model.specs.Thousandths.{thousandths}
use Rattle.model.specs.Calls.{Writing, refuses, writes}
use Rattle.model.specs.Plan.{Plan}
use Rattle.model.specs.Controller.{Block, Write, registers, refusal_of, after_write}
use Rattle.model.specs.Cap.{CapAnswer, over, kept}

-- "Numbers are decimal." Each turn takes a digit, so as many turns as the number are enough.
abbrev pub digits_in : ℕ → ℕ → List ℕ
digits_in zero n = (48 + n) ∷ []
digits_in (suc k) n =
    let more = digits_in k (n / 10) ++ ((48 + n % 10) ∷ []) in
    cond (ltb n 10) ((48 + n) ∷ []) more

unfoldable pub decimal : ℕ → List ℕ
decimal n = digits_in n n

abbrev pub space : List ℕ
space = 32 ∷ []

-- a number and the space after it
abbrev pub field : ℕ → List ℕ
field n = decimal n ++ space

abbrev pub line_feed : List ℕ
line_feed = 10 ∷ []

-- a number that ends its line
abbrev pub number_line : ℕ → List ℕ
number_line n = decimal n ++ line_feed

-- numbers in one line: the first, and the others
abbrev pub numbers_line : ℕ → List ℕ → List ℕ
numbers_line n [] = number_line n
numbers_line n (m ∷ ms) = field n ++ numbers_line m ms

-- "A refusal is the single line `refused n`."
unfoldable pub refused_line : ℕ → List ℕ
refused_line n = (114 ∷ 101 ∷ 102 ∷ 117 ∷ 115 ∷ 101 ∷ 100 ∷ 32 ∷ []) ++ decimal n ++ line_feed

-- m, or `none`
abbrev pub thousandths_text : Option ℕ → List ℕ
thousandths_text none = 110 ∷ 111 ∷ 110 ∷ 101 ∷ []
thousandths_text (some m) = decimal m

-- "One checks and writes `p q N K m`"
unfoldable pub check_text : CheckAnswer → List ℕ
check_text (refused n) = refused_line n
check_text (share p q n k) =
    field p ++ field q ++ field n ++ field k ++ thousandths_text (thousandths p q) ++ line_feed

-- "The first line of the trace is `slot label run gain`", with "a last column `cut`", "header included"
abbrev pub trace_header : List ℕ
trace_header =
    115 ∷ 108 ∷ 111 ∷ 116 ∷ 32 ∷ 108 ∷ 97 ∷ 98 ∷ 101 ∷ 108 ∷ 32 ∷ 114 ∷ 117 ∷ 110 ∷ 32 ∷ 103 ∷ 97 ∷ 105 ∷ 110 ∷ 32 ∷ 99 ∷ 117 ∷ 116 ∷ 10 ∷ []

-- "then a line per label: its slot, the label, the task that ran (0: none), the slot's gain", and "the displaced job's task, 0 for none"
unfoldable pub trace_line : ℕ → ℕ → Row → List ℕ
trace_line slot label r =
    field slot ++ field label ++ field r.ran ++ field r.gain ++ number_line r.cut

-- the lines from a slot on
abbrev pub trace_lines : ℕ → List ℕ → List Row → List ℕ
trace_lines t [] rs = []
trace_lines t (l ∷ ls) [] = []
trace_lines t (l ∷ ls) (r ∷ rs) = trace_line t l r ++ trace_lines (suc t) ls rs

unfoldable pub trace_text : List ℕ → Writing (List Row) → List ℕ
trace_text labels (refuses n) = refused_line n
trace_text labels (writes rs) = trace_header ++ trace_lines 0 labels rs

-- What a program that writes a plan or a certificate writes: its bytes, or the line of the refusal.
unfoldable pub writing_text : {A : Type 0} → (A → List ℕ) → Writing A → List ℕ
writing_text spell (refuses n) = refused_line n
writing_text spell (writes a) = spell a

-- "a small generator program .. prints it in its order, fewest ones first, one decimal number a line"
unfoldable pub mask_text : List ℕ
mask_text = flat_map number_line mask_table

-- What is written for writes to the register block: a line each, its refusal or 0 and the sixteen bytes as they then read.
unfoldable pub write_line : Plan → Block → Write → List ℕ
write_line P b w = numbers_line (refusal_of w) (registers (after_write P b w))

-- the lines from a block on
abbrev pub write_lines : Plan → Block → List Write → List ℕ
write_lines P b [] = []
write_lines P b (w ∷ ws) = write_line P b w ++ write_lines P (after_write P b w) ws

-- What is written for a log that is held against a cap: the line of the first slot that exceeds it, "otherwise `kept`"; or of the refusal.
unfoldable pub cap_text : CapAnswer → List ℕ
cap_text (CapAnswer.refused n) = refused_line n
cap_text (over t) = number_line t
cap_text kept = 107 ∷ 101 ∷ 112 ∷ 116 ∷ line_feed
