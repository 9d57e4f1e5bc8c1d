-- The text of a run: a line for each step, with the messages that it sent and what it completed behind it, and at the end
-- the order.
use Rattle.std.specs.Prelude.{ℕ, ◌+◌, List, [], ◌∷◌, ◌++◌, length, flat_map, codes, Option, Some, None}
use Rattle.std.specs.Fmt.{decimal}
use Rattle.curp_cmd.specs.Text.{answer_text, command_text, id_text, labelled, node_label, words}
use Rattle.curp_cmd.specs.declared.command.Command.{Command}
use Rattle.curp_cmd.specs.declared.command.Answer.{Answer}
use Rattle.curp_cmd.specs.declared.command.RequestId.{RequestId}
use Rattle.curp_msg.specs.Text.{body_text, result_text}
use Rattle.curp_msg.specs.declared.machine.Completed.{Completed}
use Rattle.curp_msg.specs.declared.message.Message.{Message}
use Rattle.curp_msg.specs.declared.outcome.Outcome.{Outcome}
use Rattle.curp_msg.specs.declared.outcome.StepResult.{StepResult}

-- words with a space between, and a line feed behind them
abbrev pub line : List (List ℕ) → List ℕ
line ws = words ws ++ codes "\n"

-- a message: its number in the run, who sent it, whom it goes to, and what it says
abbrev pub message_line : ℕ → Message → List ℕ
message_line number m = line (labelled (codes "m") number ∷ node_label m.from ∷ node_label m.to ∷ body_text m.body ∷ [])

-- messages, where the first one has that number
abbrev pub message_lines : ℕ → List Message → List ℕ
message_lines first [] = []
message_lines first (m ∷ ms) = message_line first m ++ message_lines (first + 1) ms

-- ---- steps

-- the number of a step, and how it went
abbrev pub result_line : ℕ → StepResult → List ℕ
result_line number result = line (labelled (codes "s") number ∷ result_text result ∷ [])

-- the request that a step completed, with its answer
abbrev pub completed_line : Option Completed → List ℕ
completed_line None = []
completed_line (Some c) = line (codes "c" ∷ id_text c.id ∷ answer_text c.answer ∷ [])

-- how step number `number` went, the messages that it sent, and what it completed
unfoldable pub step_text : ℕ → Outcome → List Message → List ℕ
step_text number outcome sent =
    result_line number outcome.result ++ message_lines outcome.first sent ++ completed_line outcome.completed

-- ---- the order

-- a request of the order, with its command and its answer
abbrev pub entry_line : RequestId × Command × Answer → List ℕ
entry_line entry = line (id_text entry.0 ∷ command_text entry.1 ∷ codes "->" ∷ answer_text entry.2 ∷ [])

-- how many requests it has, and each with its command and its answer
unfoldable pub order_text : List (RequestId × Command × Answer) → List ℕ
order_text list = line (codes "order" ∷ decimal (length list) ∷ []) ++ flat_map entry_line list
