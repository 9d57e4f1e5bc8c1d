use Rattle.std.proofs.Common.{◌≡◌, ◌↔◌, drop}
use Rattle.curp_journal.specs.Journal.{after}
use Rattle.curp_seat.specs.Making.{DoesAll}
use Rattle.curp_seat.proofs.replay.does_all.Given as goal

-- the node does all just where it does what is left, and what is left leads to where all leads
abbrev pub invariant-loop-item : goal.invariant-loop-item
invariant-loop-item g l =
    let machine = g.N.Core.machine in
    let left = drop l.item-index l.items in
    record {
      all : DoesAll machine l.node left ↔ DoesAll machine l.fn.node l.items;
      state : after machine l.node left ≡ after machine l.fn.node l.items;
    }
