use Rattle.std.proofs.Common.{◌≡◌, take}
use Rattle.curp_model.specs.Manager.{start_on}
use Rattle.curp_changes.proofs.messages.start_on.Given as goal

-- the messages so far
abbrev pub invariant-loop-witness : goal.invariant-loop-witness
invariant-loop-witness l = l.messages.items ≡ start_on l.part l.epoch (take l.witness-index l.witnesses)
