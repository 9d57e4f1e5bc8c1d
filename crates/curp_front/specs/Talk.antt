-- What passes at one connection from its beginning on, and which replies its requests get.
use Rattle.std.specs.Prelude.{◌≡◌, ◌≢◌, ◌⊎◌, ℕ, nat_le, ◌+◌, ◌||◌, not, if◌then◌else◌, List, [], ◌∷◌, ◌++◌, length, map, flat_map, Option, Some, None, ⊤}
use Rattle.curp_base.specs.Words.{Each}
use Rattle.curp_cmd.specs.declared.command.Answer.{Answer}
use Rattle.curp_cmd.specs.declared.command.RequestId.{RequestId}
use Rattle.curp_resp.specs.Input.{NoneStandsFirst, StandsFirst}
use Rattle.curp_resp.specs.Meaning.{meaning}
use Rattle.curp_resp.specs.Reply.{other_of, protocol_error, reply_of}
use Rattle.curp_resp.specs.declared.asked.Asked.{Asked}
use Rattle.curp_resp.specs.declared.asked.Asked.TheVariants as asked
use Rattle.curp_front.specs.Conversation.{Conversation, came, completed, fresh, gone, is_gone, is_serving, most_bytes, passed, said_by, settled, taken}
use Rattle.curp_front.specs.Replies.{refusal_text, said_text, too_many_bytes}
use Rattle.curp_front.specs.declared.connection.Said.{Said}
use Rattle.curp_front.specs.declared.connection.Said.TheVariants as said
use Rattle.curp_front.specs.declared.connection.ConnectionStage.{ConnectionStage}
use Rattle.curp_front.specs.declared.connection.ConnectionStage.TheVariants as stage
use Rattle.curp_front.specs.declared.due.DueReply.{DueReply}
use Rattle.curp_front.specs.declared.due.DueReply.TheVariants as due

-- ---- what passes

-- bytes come, or no more; its next command is given, if it has one; the first that was given is invoked or refused; a
-- request is completed; it is told what is next, if anything is
pub data Event : Type 0 where
  Came : List ℕ → Event
  Ended : Event
  Taken : Event
  Settled : DueReply → Event
  Completed : RequestId → Answer → Event
  Told : Event

-- a connection, the bytes of it that were taken, what came of its commands to which a reply was told, and what was told
pub record Talk : Type 0 where
  pub now : Conversation
  pub input : List ℕ
  pub outcomes : List DueReply
  pub told : List Said

abbrev pub begins : ℕ → Talk
begins number = record { now = fresh number; input = []; outcomes = []; told = [] }

-- the bytes that are taken of those that come
abbrev pub taken_bytes : List ℕ → Conversation → List ℕ
taken_bytes bytes c =
    if is_gone c.peer || not (is_serving c.stage) then []
    else (if nat_le (length c.bytes + length bytes) most_bytes then bytes else [])

-- what came of the command whose reply this is
abbrev pub outcome_of : Said → List DueReply
outcome_of said.More = []
outcome_of (said.Answer a) = due.Answered a ∷ []
outcome_of (said.Refused why) = due.Refused why ∷ []
outcome_of (said.Other other) = []
outcome_of said.Protocol = []
outcome_of said.TooMuch = []
outcome_of said.Close = []

abbrev pub tells : Option Said → Talk → Talk
tells None t = t
tells (Some s) t = record {
  now = passed s t.now;
  input = t.input;
  outcomes = t.outcomes ++ outcome_of s;
  told = t.told ++ s ∷ [];
}

abbrev pub happens : Event → Talk → Talk
happens (Came bytes) t = record t { now = came bytes t.now; input = t.input ++ taken_bytes bytes t.now }
happens Ended t = record t { now = gone t.now }
happens Taken t = record t { now = taken t.now }
happens (Settled new) t = record t { now = settled new t.now }
happens (Completed id answer) t = record t { now = completed id answer t.now }
happens Told t = tells (said_by t.now) t

abbrev pub talk : List Event → Talk → Talk
talk [] t = t
talk (e ∷ events) t = talk events (happens e t)

-- ---- the replies

-- to what came of a command
abbrev pub outcome_text : DueReply → List ℕ
outcome_text due.Given = []
outcome_text (due.Pending id) = []
outcome_text (due.Answered a) = reply_of a
outcome_text (due.Refused why) = refusal_text why

-- to requests, of which the commands come to these in turn, up to the first that has come to nothing
abbrev pub replies_to : List Asked → List DueReply → List ℕ
replies_to [] outcomes = []
replies_to (asked.Other other ∷ rest) outcomes = other_of other ++ replies_to rest outcomes
replies_to (asked.Command command ∷ rest) [] = []
replies_to (asked.Command command ∷ rest) (outcome ∷ outcomes) = outcome_text outcome ++ replies_to rest outcomes

-- how many of them are commands
abbrev pub command_count : List Asked → ℕ
command_count [] = 0
command_count (asked.Other other ∷ rest) = command_count rest
command_count (asked.Command command ∷ rest) = command_count rest + 1

-- ---- in order

-- the input begins with these requests, and this is left behind them
abbrev pub Splits : List (List (List ℕ)) → List ℕ → List ℕ → Type 0
Splits [] input rest = input ≡ rest
Splits (arguments ∷ requests) input rest =
    (behind : List ℕ) × StandsFirst input arguments behind × Splits requests behind rest

abbrev pub IsCommand : Asked → Type 0
IsCommand (asked.Command command) = ⊤
IsCommand (asked.Other other) = ⊥

abbrev pub MeansCommand : List (List ℕ) → Type 0
MeansCommand arguments = IsCommand (meaning arguments)

-- it was told that its bytes begin with no request, or that too many came
abbrev pub IsError : List ℕ → List ℕ → Type 0
IsError rest text = ((rest ≢ []) × (text ≡ protocol_error)) ⊎ (text ≡ too_many_bytes)

-- Until it is told an error or its end, all that is left waits, and no such thing was told. Then no reply is due, and
-- what was left begins with no request; it was told an error, or nothing where nothing was left.
abbrev pub EndsSo : ConnectionStage → (bytes : List ℕ) → (waiting : List (List (List ℕ))) → (rest text : List ℕ) → Type 0
EndsSo stage.Serving bytes waiting rest text = (rest ≡ bytes) × (text ≡ [])
EndsSo stage.Overfull bytes waiting rest text = (rest ≡ bytes) × (text ≡ [])
EndsSo stage.Failed bytes waiting rest text = (waiting ≡ []) × NoneStandsFirst rest × IsError rest text
EndsSo stage.Closed bytes waiting rest text =
    (waiting ≡ []) × NoneStandsFirst rest × (((rest ≡ []) × (text ≡ [])) ⊎ IsError rest text)

-- The bytes that were taken are requests that were replied to, commands to which a reply is due, and a rest. What was
-- told is the replies to the first in order, each command's by what came of it, and what ended it.
pub record InOrder (t : Talk) : Type 0 where
  pub replied : List (List (List ℕ))
  pub waiting : List (List (List ℕ))
  pub rest : List ℕ
  pub ending : List ℕ
  pub splits : Splits (replied ++ waiting) t.input rest
  pub commands : Each MeansCommand waiting
  pub due : length waiting ≡ length t.now.due
  pub outcomes : command_count (map meaning replied) ≡ length t.outcomes
  pub told : flat_map said_text t.told ≡ replies_to (map meaning replied) t.outcomes ++ ending
  pub ends : EndsSo t.now.stage t.now.bytes waiting rest ending
