-- What the process of a node says of what its node did (this project's own).
use Rattle.std.specs.Prelude.{ℕ, ◌+◌, ◌-◌, ◌^◌, min, if◌then◌else◌, Bool, true, false, not, List, [], ◌∷◌, ◌++◌, length, map, Option, Some, None}
use Rattle.std.specs.List.{filter, flat_map, list_any}
use Rattle.curp_base.specs.Words.{numbers_from}
use Rattle.curp_cmd.specs.RequestId.{same_id}
use Rattle.curp_cmd.specs.declared.command.RequestId.{RequestId}
use Rattle.curp_cmd.specs.declared.node.NodeId.{NodeId}
use Rattle.curp_cmd.specs.declared.node.NodeKind.{NodeKind}
use Rattle.curp_cmd.specs.declared.node.NodeKind.TheVariants as kind
use Rattle.curp_durable.specs.declared.stand.Answered.{Answered}
use Rattle.curp_durable.specs.declared.stand.Answered.TheVariants as answered
use Rattle.curp_journal.specs.Journal.{last_stamp}
use Rattle.curp_journal.specs.declared.arrived.Arrived.{Arrived}
use Rattle.curp_journal.specs.declared.arrived.Arrived.TheVariants as arrived
use Rattle.curp_journal.specs.declared.item.Item.{Item}
use Rattle.curp_msg.specs.declared.machine.Completed.{Completed}
use Rattle.curp_msg.specs.declared.machine.Local.TheVariants as local
use Rattle.curp_msg.specs.declared.message.Message.{Message}
use Rattle.curp_parcels.specs.Outgoing.{has_encoding, outgoing}
use Rattle.curp_parcels.specs.Parcels.{behind_length}
use Rattle.curp_parcels.specs.Reading.{place_behind}
use Rattle.curp_parcels.specs.declared.outgoing.Outgoing.{Outgoing}
use Rattle.curp_parcels.specs.declared.outgoing.Outgoing.TheVariants as out

-- ---- what is said of an input

-- what has an encoding is said, and of what has none that it is withheld
abbrev pub said_or_withheld : (step place stamp : ℕ) → Outgoing → Outgoing
said_or_withheld step place stamp said = if has_encoding said then said else out.Withheld step place stamp

-- a message goes out
abbrev pub message_told : (step place stamp : ℕ) → Message → Outgoing
message_told step place stamp m = said_or_withheld step place stamp (out.Sent step place stamp m)

-- the messages of an item, the first of which has this place
abbrev pub messages_told : (step place stamp : ℕ) → List Message → List Outgoing
messages_told step place stamp [] = []
messages_told step place stamp (m ∷ more) = message_told step place stamp m ∷ messages_told step (place + 1) stamp more

-- the request that an item completes, if it completes one
abbrev pub completion_told : (step stamp : ℕ) → Option Completed → List Outgoing
completion_told step stamp None = []
completion_told step stamp (Some c) = said_or_withheld step 0 stamp (out.Completed stamp c) ∷ []

-- of the input of this number: its item's messages and the request that it completes, or that it was refused
abbrev pub told : (input : ℕ) → Answered → List Outgoing
told input (answered.Made step item) = messages_told step 1 item.stamp item.done.sent ++ completion_told step item.stamp item.done.completed
told input (answered.Refused number) = out.Refused input number ∷ []

-- the number of the input so many behind this one. It stands still at the end of a `u64`
abbrev pub input_behind : (input count : ℕ) → ℕ
input_behind input count = place_behind input count

-- of inputs one behind the other, the first of which has this number
abbrev pub all_told : (input : ℕ) → List Answered → List Outgoing
all_told input [] = []
all_told input (a ∷ more) = told input a ++ all_told (input_behind input 1) more

-- ---- as bytes

abbrev pub parcel_of : Outgoing → List ℕ
parcel_of said = behind_length (outgoing.of said)

-- the parcels of what is said, one behind the other
abbrev pub parcels_of : List Outgoing → List ℕ
parcels_of said = flat_map parcel_of said

-- ---- what a process says first, of a journal's items

-- the requests that the items complete, the first of which has this number
abbrev pub completions_told : (step : ℕ) → List Item → List Outgoing
completions_told step [] = []
completions_told step (item ∷ more) = completion_told step item.stamp item.done.completed ++ completions_told (step + 1) more

-- it is the order to invoke a command
abbrev pub invokes : Arrived → Bool
invokes (arrived.Local (local.Invoke command) stamp) = true
invokes _ = false

-- how many requests the items invoke. A client has no more numbers than 32 bits tell
abbrev pub invoked : List Item → ℕ
invoked items = min (length (filter (λ (item : Item). invokes item.input) items)) (2 ^ 32 - 1)

-- the ids of a client's first requests, so many (RIFL)
abbrev pub first_ids : (client count : ℕ) → List RequestId
first_ids client count = map (λ (seq : ℕ). record { client = client; seq = seq }) (numbers_from 1 count)

abbrev pub completes : RequestId → Option Completed → Bool
completes id None = false
completes id (Some c) = same_id c.id id

-- one of the items completes the request
abbrev pub is_completed : List Item → RequestId → Bool
is_completed items id = list_any (λ (item : Item). completes id item.done.completed) items

-- of a client's first requests, so many, those that none of the items completes
abbrev pub pending_among : (client count : ℕ) → List Item → List RequestId
pending_among client count items = filter (λ id. not (is_completed items id)) (first_ids client count)

-- the client's requests that are pending, ascending: those that were invoked, and that no item completes
abbrev pub pending_of : (client : ℕ) → List Item → List RequestId
pending_of client items = pending_among client (invoked items) items

abbrev pub pending_told : List RequestId → List Outgoing
pending_told ids = map (λ id. out.Pending id) ids

-- what is said of a node's pending requests: only a client has any
abbrev pub requests_told : NodeKind → (number : ℕ) → List Item → List Outgoing
requests_told kind.Client number items = pending_told (pending_of number items)
requests_told _ number items = []

-- where the journal of the node of this name stands, which requests completed, and which are pending
abbrev pub greeting : NodeId → List Item → List Outgoing
greeting node items =
    out.Stands (length items) (last_stamp 0 items) ∷ completions_told 1 items ++ requests_told node.kind node.number items
