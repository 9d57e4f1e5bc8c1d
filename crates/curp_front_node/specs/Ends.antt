-- What can end the process of a client with connections in front, and what it tells of a command that isn't invoked.
use Rattle.std.specs.Prelude.{◌≡◌, ℕ, ◌==◌, if◌then◌else◌, List, [], ◌++◌, ⊤}
use Rattle.curp_client.specs.Refusals.{invoke_number}
use Rattle.curp_client.specs.declared.error.InvokeError.TheVariants as invoke
use Rattle.curp_front.specs.declared.due.InvokeRefusal.{InvokeRefusal}
use Rattle.curp_front.specs.declared.due.InvokeRefusal.TheVariants.{Spent, Split}
use Rattle.curp_front.specs.Replies.{too_many_connections}
use Rattle.curp_front.specs.Words.{is_short, output_parcel}
use Rattle.curp_front.specs.declared.output.FrontOutput.{FrontOutput}
use Rattle.curp_front.specs.declared.output.FrontOutput.TheVariants as output
use Rattle.curp_parcels.specs.declared.parcels.NextParcel.{NextParcel}
use Rattle.curp_parcels.specs.declared.parcels.NextParcel.TheVariants as next
use Rattle.curp_filter.specs.declared.end.FilterEnd.{FilterEnd}
use Rattle.curp_filter.specs.declared.end.FilterEnd.TheVariants as end

-- what it waits for
abbrev pub IsOfWaiting : FilterEnd → Type 0
IsOfWaiting end.End = ⊤
IsOfWaiting (end.Inside at) = ⊤
IsOfWaiting (end.TooLong at) = ⊤
IsOfWaiting end.ReadFault = ⊤
IsOfWaiting end.NoMemory = ⊤
IsOfWaiting _ = ⊥

-- what it reads ahead, or its journal
abbrev pub IsOfNode : FilterEnd → Type 0
IsOfNode (end.TooLong at) = ⊤
IsOfNode (end.NotKept why) = ⊤
IsOfNode end.NoMemory = ⊤
IsOfNode _ = ⊥

-- that, or what it writes
abbrev pub IsOfWriting : FilterEnd → Type 0
IsOfWriting (end.TooLong at) = ⊤
IsOfWriting end.WriteFault = ⊤
IsOfWriting (end.NotKept why) = ⊤
IsOfWriting end.NoMemory = ⊤
IsOfWriting _ = ⊥

-- how it ends where it waited for a parcel, by why there is none
abbrev pub IsEndOfWait : NextParcel → FilterEnd → Type 0
IsEndOfWait (next.Inside at) it = it ≡ end.Inside at
IsEndOfWait (next.TooLong at) it = it ≡ end.TooLong at
IsEndOfWait next.ReadFault it = it ≡ end.ReadFault
IsEndOfWait next.NoMemory it = it ≡ end.NoMemory
IsEndOfWait _ it = it ≡ end.End

-- why a command isn't invoked, by the number of the refusal
abbrev pub refusal_of : ℕ → InvokeRefusal
refusal_of number = if number == invoke_number invoke.Split then Split else Spent

-- what is told of a connection, where a reply isn't too long for a parcel
abbrev pub told_of : FrontOutput → List ℕ
told_of it = if is_short it then output_parcel it else []

-- what a connection too many is told, and that it is closed
abbrev pub turned_away : ℕ → List ℕ
turned_away connection = told_of (output.Reply connection too_many_connections) ++ told_of (output.Close connection)
