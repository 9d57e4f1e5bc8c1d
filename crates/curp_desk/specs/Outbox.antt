-- What an outbox holds (this project's own).
use Rattle.std.specs.Prelude.{◌≡◌, ◌≤◌, ℕ, ◌+◌, ◌-◌, ◌^◌, min, Bool, false, List, [], ◌∷◌, ◌++◌, length, map, take, Some, option_map}
use Rattle.curp_cmd.specs.declared.node.NodeId.{NodeId}
use Rattle.curp_journal.specs.Journal.{NodeJournal}
use Rattle.curp_journal.specs.Sending.{named_of}
use Rattle.curp_journal.specs.declared.arrived.Arrived.{Arrived}
use Rattle.curp_journal.specs.declared.arrived.Arrived.TheVariants as arrived
use Rattle.curp_journal.specs.declared.arrived.Named.{Named}
use Rattle.curp_journal.specs.declared.item.Item.{Item}
use Rattle.curp_seat.specs.Taking.{took_by}
use Rattle.curp_desk.specs.declared.listener.MadeStep.{MadeStep}
use Rattle.curp_desk.specs.declared.inside.Out.{Out}

-- what the items of a node, numbered from there on, sent, in order
abbrev pub all_sent : NodeId → ℕ → List Item → List Named
all_sent from step [] = []
all_sent from step (item ∷ items) = named_of from step item.stamp 1 item.done.sent ++ all_sent from (step + 1) items

-- a message as what is to be sent by the sender of that number
abbrev pub out_of : ℕ → Named → Out
out_of number named = record {
  to = named.message.to;
  envelope = record { sender = number; carries = Some (arrived.Message named) };
}

-- what is heard of a step that made that item of what came
abbrev pub step_by : Arrived → Item → MadeStep
step_by arrived item = record {
  took = took_by arrived;
  completed = option_map (λ completed. completed.id) item.done.completed;
  stamp = item.stamp;
}

-- what lies on a desk: the node with its journal, its number as a sender, how many items it had when it came there, how many
-- messages the courier was handed since, what is to be sent, whether the node has ended, and whether there was no memory for
-- what a step sent
pub record OnDesk (N : Type 0) : Type 0 where
  pub log : NodeJournal N
  pub number : ℕ
  pub begun : ℕ
  pub handed : ℕ
  pub outs : List Out
  pub ended : Bool
  pub short : Bool

-- a number as a `u64` counts it, which stands still at its type's end
abbrev pub counted : ℕ → ℕ
counted n = min n (2 ^ 64 - 1)

-- What the items sent before the node came to the desk, what the courier was handed, which is as many as were counted, and then
-- what the outbox holds is all that the journal's items sent; but for what there was no memory for, behind which nothing was
-- put out
pub record IsOutbox {N : Type 0} (on : OnDesk N) : Type 0 where
  pub taken : List Named
  pub due : List Named
  pub lost : List Named
  pub within : on.begun ≤ length on.log.items
  pub handed_are : on.handed ≡ counted (length taken)
  pub outs_are : on.outs ≡ map (out_of on.number) due
  pub sent_are : all_sent on.log.id 1 (take on.begun on.log.items) ++ (taken ++ (due ++ lost)) ≡ all_sent on.log.id 1 on.log.items
  pub none_lost : on.short ≡ false → lost ≡ []
