-- The ranges of the values in a line of a history or an order: what the types hold them to.
use Rattle.std.specs.Prelude.{⊤}
use Rattle.curp_cmd.specs.declared.command.Answer.{Answer}
use Rattle.curp_cmd.specs.declared.command.Answer.TheVariants.{Number, Length, Found}
use Rattle.curp_cmd.specs.declared.command.Command.{Command}
use Rattle.curp_cmd.specs.declared.command.RequestId.{RequestId}
use Rattle.curp_order.specs.declared.Event.{Event}
use Rattle.curp_order.specs.declared.Event.TheVariants.{Invoke, Complete}
use Rattle.curp_law_print.specs.Ranges.{CommandInRange, IsExpected, IsIndex, IsLong}

-- a client's number, and its request's
abbrev pub IdInRange : RequestId → Type 0
IdInRange id = IsIndex id.client × IsIndex id.seq

-- what an answer tells
abbrev pub AnswerInRange : Answer → Type 0
AnswerInRange (Number n) = IsLong n
AnswerInRange (Length n) = IsIndex n
AnswerInRange (Found value) = IsExpected value
AnswerInRange _ = ⊤

-- a request with its command
abbrev pub AskedInRange : RequestId × Command → Type 0
AskedInRange x = IdInRange x.0 × CommandInRange x.1

-- what a client saw
abbrev pub EventInRange : Event → Type 0
EventInRange (Invoke id command) = AskedInRange (id, command)
EventInRange (Complete id answer) = IdInRange id × AnswerInRange answer
