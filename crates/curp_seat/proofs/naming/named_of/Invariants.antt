use Rattle.std.proofs.Common.{◌≡◌, ◌+◌, take}
use Rattle.curp_journal.specs.Sending.{named_of}
use Rattle.curp_seat.proofs.naming.named_of.Given as goal

abbrev pub invariant-loop-message : goal.invariant-loop-message
invariant-loop-message l = record {
  named_so_far : l.named.items ≡ named_of l.from l.step l.stamp 1 (take l.message-index l.messages);
  place_is : l.place ≡ l.message-index + 1;
}
