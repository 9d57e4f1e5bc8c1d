-- The numbers of a client's requests, by the history: which were invoked, which are pending, and which are completed.
use Rattle.std.specs.Prelude.{◌≡◌, ◌≤◌, ◌<◌, ◌⊎◌, ℕ, List, [], ◌∷◌, ⊤}
use Rattle.curp_base.specs.Words.{At, Each}
use Rattle.curp_cmd.specs.declared.command.Answer.{Answer}
use Rattle.curp_cmd.specs.declared.command.Command.{Command}
use Rattle.curp_cmd.specs.declared.command.Request.{Request}
use Rattle.curp_cmd.specs.declared.command.RequestId.{RequestId}
use Rattle.curp_order.specs.declared.Event.{Event}
use Rattle.curp_order.specs.declared.Event.TheVariants.{Invoke, Complete}
use Rattle.curp_model.specs.Client.{ClientState, NumbersRise, Pending}

-- the request was invoked, with its command
abbrev pub RequestInvoked : List Event → Request → Type 0
RequestInvoked events r = (i : ℕ) × At events i (Invoke r.id r.command)

-- the request of that id is completed
abbrev pub WasCompleted : List Event → RequestId → Type 0
WasCompleted events id = (i : ℕ) × (a : Answer) × At events i (Complete id a)

-- client n has completed all its requests below a number
abbrev pub CompletedBelow : List Event → ℕ → ℕ → Type 0
CompletedBelow events n first = (seq : ℕ) → 1 ≤ seq → seq < first → WasCompleted events (record { client = n; seq = seq })

-- a request of client n that was invoked, with a first number, not above its own, below which all are completed
pub record IsAsked (n : ℕ) (events : List Event) (r : Request) : Type 0 where
  pub client : r.id.client ≡ n
  pub invoked : RequestInvoked events r
  pub own_first : r.first ≤ r.id.seq
  pub below : CompletedBelow events n r.first

-- and that isn't completed
pub record IsUncompleted (n : ℕ) (events : List Event) (r : Request) : Type 0 where
  pub asked : IsAsked n events r
  pub waits : WasCompleted events r.id → ⊥

-- a request of that id is pending
abbrev pub IsPending : List Pending → RequestId → Type 0
IsPending pending id = (k : ℕ) × (p : Pending) × At pending k p × (p.request.id ≡ id)

-- Each number from 1 to the client's last is that of a request that is pending or completed; no other was invoked by it; what
-- is pending waits, and its numbers rise
pub record ClientNumbersOk (n : ℕ) (events : List Event) (c : ClientState) : Type 0 where
  pub pending : Each (λ (p : Pending). IsUncompleted n events p.request) c.pending
  pub rise : NumbersRise c.pending
  pub used : (seq : ℕ) → 1 ≤ seq → seq ≤ c.last → IsPending c.pending (record { client = n; seq = seq }) ⊎ WasCompleted events (record { client = n; seq = seq })
  pub counted : (i : ℕ) (id : RequestId) (command : Command) → At events i (Invoke id command) → id.client ≡ n → (1 ≤ id.seq) × (id.seq ≤ c.last)

-- the event is about a request of client n
abbrev pub IsEventOf : ℕ → Event → Type 0
IsEventOf n (Invoke id command) = id.client ≡ n
IsEventOf n (Complete id a) = id.client ≡ n
