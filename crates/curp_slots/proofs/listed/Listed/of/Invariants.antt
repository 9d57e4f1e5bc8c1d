use Rattle.std.proofs.Common.{◌≡◌, take}
use Rattle.curp_cmd.specs.RequestId.{has_id}
use Rattle.curp_cmd.specs.declared.command.RequestId.{RequestId}
use Rattle.curp_slots.proofs.listed.Listed.of.Given as goal

-- the ids so far are there
abbrev pub invariant-loop-id : goal.invariant-loop-id
invariant-loop-id l = (id : RequestId) → has_id id l.listed.keys ≡ has_id id (take l.id-index l.ids)
