-- What `play` writes for the bytes of a script, and what its order is.
use Rattle.std.specs.Prelude.{ℕ, List, [], map, Option, Some, None}
use Rattle.curp_cmd.specs.declared.command.Answer.{Answer}
use Rattle.curp_cmd.specs.declared.command.Command.{Command}
use Rattle.curp_cmd.specs.declared.command.RequestId.{RequestId}
use Rattle.curp_order.specs.Order.{Asked}
use Rattle.curp_order.specs.Order.{IsHistory, IsOrder}
use Rattle.curp_msg.specs.declared.script.Header.{Header}
use Rattle.curp_msg.specs.declared.script.Step.{Step}
use Rattle.curp_script.specs.EventTexts.{claim_lines}
use Rattle.curp_script.specs.Script.{Ending, Whole, Bad, TooLong, TooMany, Steps, Script}
use Rattle.curp_model.specs.World.{World, opening, order, run, world}
use Rattle.curp_report.specs.RunText.{closing_order, steps_text}
use Rattle.curp_runner.specs.Reading.{HoldsRead, script_in}

-- ---- the text

-- behind the steps stands the order, where the script was read to its end
abbrev pub closing_text : Ending → World → List ℕ
closing_text Whole w = closing_order w
closing_text (Bad line reason) w = []
closing_text (TooLong line) w = []
closing_text TooMany w = []

-- the text of what comes behind the header, where the steps are numbered from a number on
abbrev pub text_from : ℕ → World → Steps → List ℕ
text_from number w body = steps_text (closing_text body.ending) number w body.steps

-- a script without a header has no text
abbrev pub text_behind : Option Header → Steps → List ℕ
text_behind None body = []
text_behind (Some header) body = text_from 1 (opening header) body

-- the text of a script
abbrev pub text_of : Script → List ℕ
text_of s = text_behind s.header s.body

-- ---- what a read fault leaves

-- no order, of no world
abbrev pub no_order : World → List ℕ
no_order w = []

-- the texts of the steps alone
abbrev pub texts_of_steps : Option Header → List Step → List ℕ
texts_of_steps None steps = []
texts_of_steps (Some header) steps = steps_text no_order 1 (opening header) steps

abbrev pub texts_of : Script → List ℕ
texts_of s = texts_of_steps s.header s.body.steps

-- the texts of the steps on the whole lines that were taken of a script
abbrev pub HoldsWholeLines : (left_before left_after held_before held_after : List ℕ) → Type 0
HoldsWholeLines left_before left_after held_before held_after =
    HoldsRead (λ read. texts_of (script_in read)) left_before left_after held_before held_after

-- ---- the history

-- the lines of the history, then those of the order, where the script was read to its end
abbrev pub claim_behind : Ending → World → List ℕ
claim_behind Whole w = claim_lines w.history (order w)
claim_behind (Bad line reason) w = []
claim_behind (TooLong line) w = []
claim_behind TooMany w = []

-- those of what comes behind the header
abbrev pub claim_from : World → Steps → List ℕ
claim_from w body = claim_behind body.ending (run w body.steps)

-- a script without a header has none
abbrev pub claim_text : Option Header → Steps → List ℕ
claim_text None body = []
claim_text (Some header) body = claim_from (opening header) body

-- the lines of what clients saw in a script, and of its order
abbrev pub claim_of : Script → List ℕ
claim_of s = claim_text s.header s.body

-- ---- the order

-- what clients saw in this world is a history, and the order that is printed is one of it
abbrev pub OrderStands : World → Type 0
OrderStands w = IsHistory w.history × IsOrder w.history (order w)

-- the steps behind a header lead to such a world
abbrev pub LeadsToAnOrder : Option Header → Steps → Type 0
LeadsToAnOrder None body = ⊥
LeadsToAnOrder (Some header) body = OrderStands (world header body.steps)

-- the requests of an order, without their answers
abbrev pub asked_of : List (RequestId × Command × Answer) → List Asked
asked_of order = map (λ x. (x.0, x.1)) order

-- a script that has a header, and such a world at its end
abbrev pub HasAnOrder : Script → Type 0
HasAnOrder s = LeadsToAnOrder s.header s.body
