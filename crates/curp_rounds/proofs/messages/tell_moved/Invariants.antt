use Rattle.std.proofs.Common.{◌≡◌, ◌++◌, flat_map, take}
use Rattle.curp_model.specs.Master.{moved_entry}
use Rattle.curp_rounds.proofs.messages.tell_moved.Given as goal

-- the entries so far
abbrev pub invariant-loop-entry : goal.invariant-loop-entry
invariant-loop-entry l = l.sent.items ≡ l.initial.sent.items ++ flat_map (moved_entry l.number) (take l.entry-index l.entries)
