-- What the program's arguments ask for, and what it then writes.
use Rattle.std.specs.Prelude as rust
use Rattle.std.specs.Prelude.{◌≡◌, cond, List, [], ◌∷◌, ℕ, length, None, Some}
use Rattle.model.specs.Bytes.{Put}
use Rattle.model.specs.Calls.{Writing}
use Rattle.model.specs.Combine.{combine}
use Rattle.model.specs.Convert.{forth, back}
use Rattle.model.specs.Edition.{first_edition, plan_room}
use Rattle.model.specs.Gap.{group_gap}
use Rattle.model.specs.Lists.{same_numbers}
use Rattle.model.specs.Plan as model
use Rattle.model.specs.PlanBytes.{plan_bytes_in, plan_bytes}
use Rattle.model.specs.Text.{writing_text}
use Rattle.arguments.specs.Decimal.{decimal_in, number_of}
use Rattle.gap.specs.Groups.{group_of}
use Rattle.gap.specs.declared.Group.TheVariants as group
use Rattle.rewrite_plan.specs.declared.Word.{Word}
use Rattle.rewrite_plan.specs.declared.Word.TheVariants as word
use Rattle.rewrite_plan.specs.declared.Command.{Command}
use Rattle.rewrite_plan.specs.declared.Command.TheVariants as command

-- `gap`, `group`, `combine`, `forth`, `back`
abbrev pub gap_word : List ℕ
gap_word = 103 ∷ 97 ∷ 112 ∷ []

abbrev pub group_word : List ℕ
group_word = 103 ∷ 114 ∷ 111 ∷ 117 ∷ 112 ∷ []

abbrev pub combine_word : List ℕ
combine_word = 99 ∷ 111 ∷ 109 ∷ 98 ∷ 105 ∷ 110 ∷ 101 ∷ []

abbrev pub forth_word : List ℕ
forth_word = 102 ∷ 111 ∷ 114 ∷ 116 ∷ 104 ∷ []

abbrev pub back_word : List ℕ
back_word = 98 ∷ 97 ∷ 99 ∷ 107 ∷ []

abbrev pub word_in : List ℕ → rust.Option Word
word_in s =
    cond (same_numbers s gap_word) (Some word.Gap)
    (cond (same_numbers s group_word) (Some word.Group)
    (cond (same_numbers s combine_word) (Some word.Combine)
    (cond (same_numbers s forth_word) (Some word.Forth)
    (cond (same_numbers s back_word) (Some word.Back) None))))

-- a word alone
abbrev pub alone_is : Word → rust.Option Command
alone_is word.Gap = None
alone_is word.Group = None
alone_is word.Combine = Some command.Combine
alone_is word.Forth = Some command.Forth
alone_is word.Back = Some command.Back

abbrev pub single_is : rust.Option Word → rust.Option Command
single_is None = None
single_is (Some w) = alone_is w

-- a word and two numbers: a task or a set, and the slots of the gap
abbrev pub spacing_is : Word → ℕ → ℕ → rust.Option Command
spacing_is word.Gap n slots = Some (command.Space (group.Task n) slots)
spacing_is word.Group n slots = Some (command.Space (group.Set n) slots)
spacing_is word.Combine n slots = None
spacing_is word.Forth n slots = None
spacing_is word.Back n slots = None

abbrev pub counted_is : rust.Option Word → rust.Option ℕ → rust.Option ℕ → rust.Option Command
counted_is None n slots = None
counted_is (Some w) None slots = None
counted_is (Some w) (Some n) None = None
counted_is (Some w) (Some n) (Some slots) = spacing_is w n slots

-- the arguments behind the program's name
abbrev pub command_is : List (List ℕ) → rust.Option Command
command_is [] = None
command_is (w ∷ []) = single_is (word_in w)
command_is (w ∷ n ∷ []) = None
command_is (w ∷ n ∷ slots ∷ []) = counted_is (word_in w) (number_of (decimal_in n)) (number_of (decimal_in slots))
command_is (w ∷ n ∷ slots ∷ more ∷ rest) = None

-- the edition whose bytes a command writes
abbrev pub spelled : Command → model.Plan → List ℕ
spelled (command.Space g slots) = plan_bytes
spelled command.Combine = plan_bytes
spelled command.Forth = plan_bytes
spelled command.Back = plan_bytes_in first_edition

-- what is due for the plans that it reads, with so much room; only `combine` reads the other one
abbrev pub due : Command → List ℕ → List ℕ → ℕ → Writing model.Plan
due (command.Space g slots) plan other = group_gap plan (group_of g) slots
due command.Combine plan other = combine plan other
due command.Forth plan other = forth plan
due command.Back plan other = back plan

-- the text of what is due stands first in what a command was lent, n bytes of it, whatever the other plan was
abbrev pub Rewrites : Command → List ℕ → List ℕ → List ℕ → ℕ → Type 0
Rewrites c plan before after n = (other : List ℕ) × Put before after 0 (writing_text (spelled c) (due c plan other (length before))) n

-- what a command writes, the text of what is due with room for a plan; for arguments that are none it writes nothing
abbrev pub Runs : rust.Option Command → ℕ → Type 0
Runs (Some c) n =
    (plan other out out' : List ℕ) × (plan_room ≡ length out) × Put out out' 0 (writing_text (spelled c) (due c plan other (length out))) n
Runs None n = n ≡ 0
