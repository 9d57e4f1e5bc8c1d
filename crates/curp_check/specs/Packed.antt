-- Events and requests whose commands and answers are kept as their encodings, each at a place among bytes.
use Rattle.std.specs.Prelude.{◌≡◌, ℕ, ◌≤◌, List, [], ◌++◌, length, drop, Result, Ok, Err}
use Rattle.curp_base.specs.Words.{At}
use Rattle.curp_cmd.specs.declared.command.Answer.{Answer}
use Rattle.curp_cmd.specs.declared.command.Answer.TheVariants.{Done}
use Rattle.curp_cmd.specs.declared.command.Command.{Command}
use Rattle.curp_cmd.specs.declared.command.Command.TheVariants.{Get}
use Rattle.curp_cmd.specs.declared.command.RequestId.{RequestId}
use Rattle.curp_items.specs.Encoding.{start_of}
use Rattle.curp_items.specs.Format.{Format, Input}
use Rattle.curp_items.specs.Items.{answer, command}
use Rattle.curp_order.specs.Order.{Asked}
use Rattle.curp_order.specs.declared.Event.{Event}
use Rattle.curp_order.specs.declared.Event.TheVariants.{Invoke, Complete}
use Rattle.curp_check.specs.declared.events.Mark.{Mark}
use Rattle.curp_check.specs.declared.events.Mark.TheVariants as kind
use Rattle.curp_check.specs.declared.events.PackedEvent.{PackedEvent}

-- ---- values

-- what is read from a place on
abbrev pub read_at : {A : Type 0} → Format A → List ℕ → ℕ → Result (A × Input) ℕ
read_at f bytes place = f.read (start_of (drop place bytes))

-- the value is what is read there
abbrev pub StandsAt : {A : Type 0} → Format A → List ℕ → ℕ → A → Type 0
StandsAt f bytes place x = (after : Input) × (read_at f bytes place ≡ Ok (x, after))

-- the value's encoding begins at the place, and bytes follow
pub record IsEncodedAt {A : Type 0} (f : Format A) (bytes : List ℕ) (place : ℕ) (x : A) : Type 0 where
  pub fits : f.Fits x
  pub within : place ≤ length bytes
  pub rest : List ℕ
  pub laid : drop place bytes ≡ f.of x ++ rest

-- what was read, or another value where nothing was
abbrev pub value_or : {A : Type 0} → A → Result (A × Input) ℕ → A
value_or other (Ok x) = x.0
value_or other (Err place) = other

abbrev pub command_at : List ℕ → ℕ → Command
command_at bytes place = value_or (Get []) (read_at command bytes place)

abbrev pub answer_at : List ℕ → ℕ → Answer
answer_at bytes place = value_or Done (read_at answer bytes place)

-- ---- events

-- the event of a mark, whose command or answer stands at a place
abbrev pub event_by : List ℕ → Mark → ℕ → Event
event_by bytes (kind.Invoke id) place = Invoke id (command_at bytes place)
event_by bytes (kind.Complete id) place = Complete id (answer_at bytes place)

abbrev pub event_packed : List ℕ → PackedEvent → Event
event_packed bytes p = event_by bytes p.mark p.place

-- there is a command or an answer, whichever the mark is for
abbrev pub HasValue : List ℕ → Mark → ℕ → Type 0
HasValue bytes (kind.Invoke id) place = (c : Command) × IsEncodedAt command bytes place c
HasValue bytes (kind.Complete id) place = (a : Answer) × IsEncodedAt answer bytes place a

abbrev pub IsPacked : List ℕ → PackedEvent → Type 0
IsPacked bytes p = HasValue bytes p.mark p.place

-- it is packed, as this event
pub record IsPackedAs (bytes : List ℕ) (e : Event) (p : PackedEvent) : Type 0 where
  pub packed : IsPacked bytes p
  pub event : event_packed bytes p ≡ e

-- the event at a place is of this kind, and of this request
abbrev pub IsMarked : List Event → ℕ → Mark → Type 0
IsMarked events at (kind.Invoke id) = (c : Command) × At events at (Invoke id c)
IsMarked events at (kind.Complete id) = (a : Answer) × At events at (Complete id a)

-- ---- requests of an order

abbrev pub asked_packed : List ℕ → RequestId × ℕ → Asked
asked_packed bytes p = (p.0, command_at bytes p.1)

abbrev pub HasCommand : List ℕ → RequestId × ℕ → Type 0
HasCommand bytes p = (c : Command) × IsEncodedAt command bytes p.1 c
