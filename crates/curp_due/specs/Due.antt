-- What clients and masters are due to be ordered by their own threads (this project's own).
use Rattle.std.specs.Prelude.{ℕ, ◌+◌, ◌-◌, ◌^◌, ◌%◌, ◌==◌, ltb, not, min, Bool, if◌then◌else◌, List, [], ◌∷◌, ◌++◌, length, map, filter, take, drop, Option, Some, None}
use Rattle.curp_cmd.specs.declared.command.Command.{Command}
use Rattle.curp_cmd.specs.declared.command.RequestId.{RequestId}
use Rattle.curp_msg.specs.declared.machine.Local.{Local}
use Rattle.curp_msg.specs.declared.machine.Local.TheVariants.{Collect, Invoke, Retry, Sync}
use Rattle.curp_nodes.specs.declared.policy.TheConstants.{COLLECT_AFTER, PENDING_AT_ONCE, SYNC_AFTER}
use Rattle.curp_seat.specs.declared.took.Took.{Took}
use Rattle.curp_seat.specs.declared.took.Took.TheVariants.{Asks, Configuration}

-- ---- clients

-- what a client has to do: the commands that are still to be invoked, the number of its last request, the numbers of those
-- that pend, in the order in which they were invoked, and the one up to which none of these needs a retry
pub record ClientWork : Type 0 where
  pub left : List Command
  pub invoked : ℕ
  pub pending : List ℕ
  pub retried : ℕ

-- the pending requests that need a retry
abbrev pub to_retry : ClientWork → List ℕ
to_retry work = filter (λ seq. ltb work.retried seq) work.pending

-- for how many requests more there is room: so few pend at once, and a request's number has 32 bits
abbrev pub room : ClientWork → ℕ
room work = min (PENDING_AT_ONCE - length work.pending) (2 ^ 32 - 1 - work.invoked)

-- all that it is due, in order: retries, and then its next commands, for which there is room
abbrev pub client_due : ClientWork → List Local
client_due work = map Retry (to_retry work) ++ map Invoke (take (room work) work.left)

-- once it was given an order
abbrev pub client_given : ClientWork → Option Local → ClientWork
client_given work (Some (Retry seq)) = record work { retried = seq }
client_given work (Some (Invoke command)) = record work {
  left = drop 1 work.left;
  invoked = work.invoked + 1;
  pending = work.pending ++ (work.invoked + 1) ∷ [];
  retried = work.invoked + 1;
}
client_given work _ = work

-- those of its numbers that pend still, where a request was completed
abbrev pub still_pending : Option RequestId → List ℕ → List ℕ
still_pending None pending = pending
still_pending (Some id) pending = filter (λ seq. not (seq == id.seq)) pending

-- after a configuration all that pends needs a retry
abbrev pub retried_after : Took → ℕ → ℕ
retried_after (Configuration newest) retried = 0
retried_after _ retried = retried

-- once it took an input and completed a request
abbrev pub client_noted : ClientWork → Took → Option RequestId → ClientWork
client_noted work took completed = record work {
  pending = still_pending completed work.pending;
  retried = retried_after took work.retried;
}

-- ---- masters

-- what a master has to do: how many updates and syncs it took, as a number of 64 bits, and the orders that it is due
pub record MasterWork : Type 0 where
  pub asked : ℕ
  pub due : List Local

-- what it is due once it took so many: a sync after each so many of them, and behind it a collection after each so many
abbrev pub master_due : ℕ → List Local
master_due asked =
    (if asked % SYNC_AFTER == 0 then Sync ∷ [] else []) ++ (if asked % COLLECT_AFTER == 0 then Collect ∷ [] else [])

-- once it took an input
abbrev pub master_noted : MasterWork → Took → MasterWork
master_noted work Asks = record { asked = (work.asked + 1) % 2 ^ 64; due = master_due ((work.asked + 1) % 2 ^ 64) }
master_noted work _ = work
