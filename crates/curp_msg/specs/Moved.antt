-- What an input does to a node, and what a call that makes it so promises (this project's own).
use Rattle.std.proofs.Common.{arith, ap, refl}
use Rattle.std.specs.Prelude.{◌≡◌, ◌≢◌, ℕ, ◌<◌, List, [], map, Option, Some, None, Result, Ok, Err, slice_set}
use Rattle.std.specs.declared.alloc.AllocError.{AllocError}
use Rattle.curp_base.specs.Words.{At}
use Rattle.curp_cmd.specs.declared.command.Request.{Request}
use Rattle.curp_cmd.specs.declared.node.NodeId.{NodeId}
use Rattle.curp_msg.specs.declared.body.Body.{Body}
use Rattle.curp_msg.specs.declared.machine.Completed.{Completed}
use Rattle.curp_msg.specs.declared.machine.Done.{Done}
use Rattle.curp_msg.specs.declared.message.Message.{Message}

-- from one node to another
abbrev pub says : NodeId → NodeId → Body → Message
says from to body = record { from = from; to = to; body = body }

-- from one node to each of several
abbrev pub says_each : NodeId → List NodeId → Body → List Message
says_each from nodes body = map (λ to. says from to body) nodes

-- a node's state, with the node's number
pub record Node (S : Type 0) : Type 0 where
  pub number : ℕ
  pub state : S

-- What one input does to a node: its next state, the messages that it sends in their order, the request that it invokes,
-- the one that completes, and the number by which a local order is refused, else 0
pub record Moved (S : Type 0) : Type 0 where
  pub state : S
  pub messages : List Message
  pub invoked : Option Request
  pub completed : Option Completed
  pub refused : ℕ

-- only the state changes, if at all
abbrev pub quiet : {S : Type 0} → S → Moved S
quiet s = record { state = s; messages = []; invoked = None; completed = None; refused = 0 }

-- the state changes and messages go out
abbrev pub sends : {S : Type 0} → S → List Message → Moved S
sends s messages = record { state = s; messages = messages; invoked = None; completed = None; refused = 0 }

-- the state changes, and a request is invoked and goes out by messages
abbrev pub invokes : {S : Type 0} → S → Request → List Message → Moved S
invokes s request messages = record { state = s; messages = messages; invoked = Some request; completed = None; refused = 0 }

-- the state changes and a request completes
abbrev pub completes : {S : Type 0} → S → Completed → Moved S
completes s c = record { state = s; messages = []; invoked = None; completed = Some c; refused = 0 }

-- an order that is refused changes nothing
abbrev pub refuses : {S : Type 0} → S → ℕ → Moved S
refuses s number = record { state = s; messages = []; invoked = None; completed = None; refused = number }

-- an order, by what is to be done, or the number by which it is refused
abbrev pub unless_refused : {S A : Type 0} → S → (A → Moved S) → Result A ℕ → Moved S
unless_refused s act (Ok x) = act x
unless_refused s act (Err number) = refuses s number

-- the same for a node that has the state inside its own
abbrev pub within : {S T : Type 0} → (S → T) → Moved S → Moved T
within wrap m = record { state = wrap m.state; messages = m.messages; invoked = m.invoked; completed = m.completed; refused = m.refused }

-- the same for a node with its number
abbrev pub numbered_move : {S : Type 0} → ℕ → Moved S → Moved (Node S)
numbered_move n m = within (λ s. record { number = n; state = s }) m

-- what is handed out of a move
abbrev pub done_of : {S : Type 0} → Moved S → Done
done_of m = record { refused = m.refused; sent = m.messages; invoked = m.invoked; completed = m.completed }

-- the node has its next state, and what is done is handed out
abbrev pub Makes : {S : Type 0} → (new : S) → Done → Moved S → Type 0
Makes new done m = (new ≡ m.state) × (done ≡ done_of m)

-- the call made the move; by an error, as by running out of memory, nothing has changed
abbrev pub Moves : {S E : Type 0} → (old new : S) → Result Done E → Moved S → Type 0
Moves old new (Ok done) m = Makes new done m
Moves old new (Err why) m = new ≡ old

-- the call made the move of the node at a place, and the others are as they were
pub record MovesAt {S : Type 0} (place : ℕ) (old new : List S) (result : Result Done AllocError) (machine : S → Moved S) : Type 0 where
  pub before : S
  pub after : S
  pub was : At old place before
  pub is : new ≡ slice_set old place after
  pub moves : Moves before after result (machine before)

-- ---- how nodes refuse

-- an order is refused by a small number, and then nothing has changed, is sent, is invoked or completes
pub record Refuses {S : Type 0} (s : S) (m : Moved S) : Type 0 where
  pub small : m.refused < 255
  pub same : m.refused ≢ 0 → m.state ≡ s
  pub silent : m.refused ≢ 0 → m.messages ≡ []
  pub uninvoked : m.refused ≢ 0 → m.invoked ≡ None
  pub idle : m.refused ≢ 0 → m.completed ≡ None

-- what isn't refused
pub not_refused : {S : Type 0} (s : S) (m : Moved S) → m.refused ≡ 0 → Refuses s m
not_refused s m e = record { small = omega (arith, e); same = λ r. absurd (r e); silent = λ r. absurd (r e); uninvoked = λ r. absurd (r e); idle = λ r. absurd (r e) }

-- what is refused by a number
pub refused_by : {S : Type 0} (s : S) (number : ℕ) → number < 255 → Refuses s (refuses s number)
refused_by s number small = record { small = small; same = λ r. refl; silent = λ r. refl; uninvoked = λ r. refl; idle = λ r. refl }

-- the same for a node that has the state inside its own
pub refuses_within : {S T : Type 0} (wrap : S → T) (s : S) (m : Moved S) → Refuses s m → Refuses (wrap s) (within wrap m)
refuses_within wrap s m r = record { small = r.small; same = λ some. ap wrap (r.same some); silent = r.silent; uninvoked = r.uninvoked; idle = r.idle }
