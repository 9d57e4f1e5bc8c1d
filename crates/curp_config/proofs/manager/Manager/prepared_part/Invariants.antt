use Rattle.std.proofs.Common.{◌≡◌, map, take, None}
use Rattle.curp_base.specs.Cases.{first_there}
use Rattle.curp_base.specs.Words.{numbered}
use Rattle.curp_model.specs.Manager.{lists_in_work}
use Rattle.curp_msg.specs.declared.config.PartConfig.{PartConfig}
use Rattle.curp_config.proofs.manager.Manager.prepared_part.Given as goal

-- none so far
abbrev pub invariant-loop-part : goal.invariant-loop-part
invariant-loop-part l = first_there (map (λ (c : PartConfig). lists_in_work l.version c (numbered l.self.doing c.part)) (take l.part-index l.self.config.parts)) ≡ None
