-- A connection: its requests, the replies that are due to them, and what comes and is told (this project's own).
use Rattle.std.specs.Prelude.{ℕ, ◌+◌, ◌==◌, ◌&&◌, ◌||◌, not, nat_le, nat_lt, Bool, true, false, if◌then◌else◌, List, [], ◌∷◌, ◌++◌}
use Rattle.std.specs.Prelude.{length, drop, map, Option, Some, None, is_some}
use Rattle.curp_cmd.specs.RequestId.{same_id}
use Rattle.curp_cmd.specs.declared.command.Answer.{Answer}
use Rattle.curp_cmd.specs.declared.command.Command.{Command}
use Rattle.curp_cmd.specs.declared.command.RequestId.{RequestId}
use Rattle.curp_resp.specs.First.{first_in}
use Rattle.curp_resp.specs.declared.asked.Asked.{Asked}
use Rattle.curp_resp.specs.declared.asked.Asked.TheVariants as asked
use Rattle.curp_resp.specs.declared.first.FirstRequest.{FirstRequest}
use Rattle.curp_resp.specs.declared.first.FirstRequest.TheVariants as first
use Rattle.curp_front.specs.declared.connection.Peer.{Peer}
use Rattle.curp_front.specs.declared.connection.Peer.TheVariants as peer
use Rattle.curp_front.specs.declared.connection.Said.{Said}
use Rattle.curp_front.specs.declared.connection.Said.TheVariants as said
use Rattle.curp_front.specs.declared.connection.ConnectionStage.{ConnectionStage}
use Rattle.curp_front.specs.declared.connection.ConnectionStage.TheVariants as stage
use Rattle.curp_front.specs.declared.due.DueReply.{DueReply}
use Rattle.curp_front.specs.declared.due.DueReply.TheVariants as due

-- its number, the bytes that came and were not taken apart, and the replies that are due to its commands, in order
pub record Conversation : Type 0 where
  pub number : ℕ
  pub bytes : List ℕ
  pub due : List DueReply
  pub peer : Peer
  pub stage : ConnectionStage

-- before anything came
abbrev pub fresh : ℕ → Conversation
fresh number = record { number = number; bytes = []; due = []; peer = peer.Sending; stage = stage.Serving }

-- so many bytes may wait
abbrev pub most_bytes : ℕ
most_bytes = 131072

-- to so many commands a reply may be due
abbrev pub most_due : ℕ
most_due = 16

-- ---- where it stands

abbrev pub is_gone : Peer → Bool
is_gone peer.Sending = false
is_gone peer.Paused = false
is_gone peer.Gone = true

abbrev pub is_paused : Peer → Bool
is_paused peer.Sending = false
is_paused peer.Paused = true
is_paused peer.Gone = false

abbrev pub is_serving : ConnectionStage → Bool
is_serving stage.Serving = true
is_serving stage.Overfull = false
is_serving stage.Failed = false
is_serving stage.Closed = false

abbrev pub is_overfull : ConnectionStage → Bool
is_overfull stage.Serving = false
is_overfull stage.Overfull = true
is_overfull stage.Failed = false
is_overfull stage.Closed = false

-- the requests that came are served
abbrev pub is_served : ConnectionStage → Bool
is_served stage.Serving = true
is_served stage.Overfull = true
is_served stage.Failed = false
is_served stage.Closed = false

abbrev pub is_closed : ConnectionStage → Bool
is_closed stage.Serving = false
is_closed stage.Overfull = false
is_closed stage.Failed = false
is_closed stage.Closed = true

-- its end was told, and no more bytes come
abbrev pub is_over : Conversation → Bool
is_over c = is_closed c.stage && is_gone c.peer

abbrev pub has_number : ℕ → Conversation → Bool
has_number number c = c.number == number

-- ---- what comes

-- bytes come behind those that wait, unless too many would
abbrev pub more_came : List ℕ → Conversation → Conversation
more_came bytes c =
    if nat_le (length c.bytes + length bytes) most_bytes
    then record c { bytes = c.bytes ++ bytes; peer = peer.Paused }
    else record c { stage = stage.Overfull }

-- bytes come; behind its end, and where it is to end, they are passed over
abbrev pub came : List ℕ → Conversation → Conversation
came bytes c = if is_gone c.peer || not (is_serving c.stage) then c else more_came bytes c

-- no more bytes come
abbrev pub gone : Conversation → Conversation
gone c = record c { peer = peer.Gone }

-- ---- what comes of its commands

abbrev pub is_given : DueReply → Bool
is_given due.Given = true
is_given (due.Pending id) = false
is_given (due.Answered a) = false
is_given (due.Refused why) = false

-- the first that was given, and of which nothing has come, is this from then on
abbrev pub settled_due : DueReply → List DueReply → List DueReply
settled_due new [] = []
settled_due new (d ∷ rest) = if is_given d then new ∷ rest else d ∷ settled_due new rest

abbrev pub settled : DueReply → Conversation → Conversation
settled new c = record c { due = settled_due new c.due }

-- a request was completed with this answer
abbrev pub completed_due : RequestId → Answer → DueReply → DueReply
completed_due id answer due.Given = due.Given
completed_due id answer (due.Pending own) = if same_id own id then due.Answered answer else due.Pending own
completed_due id answer (due.Answered a) = due.Answered a
completed_due id answer (due.Refused why) = due.Refused why

abbrev pub completed : RequestId → Answer → Conversation → Conversation
completed id answer c = record c { due = map (completed_due id answer) c.due }

-- ---- which command is to be invoked

abbrev pub asked_command : Asked → Option Command
asked_command (asked.Command command) = Some command
asked_command (asked.Other other) = None

abbrev pub first_command : FirstRequest → Option Command
first_command (first.Whole asks len) = asked_command asks
first_command first.Part = None
first_command first.Broken = None

-- so many bytes has the first request, where one is whole
abbrev pub first_len : FirstRequest → ℕ
first_len (first.Whole asks len) = len
first_len first.Part = 0
first_len first.Broken = 0

-- the command that stands first, where not too many replies are due
abbrev pub command_of : Conversation → Option Command
command_of c =
    if is_served c.stage && nat_lt (length c.due) most_due then first_command (first_in c.bytes) else None

abbrev pub wants : Conversation → Bool
wants c = is_some (command_of c)

abbrev pub without_first : Conversation → Conversation
without_first c = record c { bytes = drop (first_len (first_in c.bytes)) c.bytes }

-- it is given, to be invoked, and a reply to it is due
abbrev pub taken_if : Option Command → Conversation → Conversation
taken_if None c = c
taken_if (Some command) c = record (without_first c) { due = c.due ++ due.Given ∷ [] }

abbrev pub taken : Conversation → Conversation
taken c = taken_if (command_of c) c

-- ---- what it is told

-- behind the last bytes: these were left
abbrev pub said_behind : List ℕ → Said
said_behind [] = said.Close
said_behind (byte ∷ rest) = said.Protocol

-- no request is whole: it ends by an error where too many bytes came, and where no more come
abbrev pub said_inside : Conversation → Option Said
said_inside c =
    if is_overfull c.stage then Some said.TooMuch else (if is_gone c.peer then Some (said_behind c.bytes) else None)

-- to a request that means no command
abbrev pub said_to : Asked → Option Said
said_to (asked.Command command) = None
said_to (asked.Other other) = Some (said.Other other)

-- what is said of what stands first among its bytes, where no reply is due
abbrev pub said_at : FirstRequest → Conversation → Option Said
said_at (first.Whole asks len) c = said_to asks
said_at first.Broken c = Some said.Protocol
said_at first.Part c = said_inside c

-- the reply to a command, once it is there
abbrev pub due_said : DueReply → Option Said
due_said due.Given = None
due_said (due.Pending id) = None
due_said (due.Answered a) = Some (said.Answer a)
due_said (due.Refused why) = Some (said.Refused why)

-- the first reply that is due, once it is there
abbrev pub said_of_due : List DueReply → Conversation → Option Said
said_of_due [] c = said_at (first_in c.bytes) c
said_of_due (d ∷ rest) c = due_said d

abbrev pub is_part : FirstRequest → Bool
is_part (first.Whole asks len) = false
is_part first.Part = true
is_part first.Broken = false

-- it waits until more may come, and no whole request of it waits
abbrev pub more_may_come : Conversation → Bool
more_may_come c = is_paused c.peer && is_part (first_in c.bytes)

abbrev pub said_by_stage : ConnectionStage → Conversation → Option Said
said_by_stage stage.Serving c = if more_may_come c then Some said.More else said_of_due c.due c
said_by_stage stage.Overfull c = said_of_due c.due c
said_by_stage stage.Failed c = Some said.Close
said_by_stage stage.Closed c = None

-- what it is told next
abbrev pub said_by : Conversation → Option Said
said_by c = said_by_stage c.stage c

abbrev pub speaks : Conversation → Bool
speaks c = is_some (said_by c)

abbrev pub failed : Conversation → Conversation
failed c = record c { bytes = []; stage = stage.Failed }

-- it was told this
abbrev pub passed : Said → Conversation → Conversation
passed said.More c = record c { peer = peer.Sending }
passed (said.Answer a) c = record c { due = drop 1 c.due }
passed (said.Refused why) c = record c { due = drop 1 c.due }
passed (said.Other other) c = without_first c
passed said.Protocol c = failed c
passed said.TooMuch c = failed c
passed said.Close c = record c { stage = stage.Closed }
