use Rattle.std.proofs.Common.{◌≡◌, ◌==◌, flat_map, take, []}
use Rattle.std.specs.Prelude.{if◌then◌else◌, ◌∷◌}
use Rattle.curp_model.specs.Manager.{give_message}
use Rattle.curp_msg.specs.declared.config.PartConfig.{PartConfig}
use Rattle.curp_config.proofs.manager.Manager.give_again.Given as goal

-- the messages so far
abbrev pub invariant-loop-part : goal.invariant-loop-part
invariant-loop-part l = l.messages.items
    ≡ flat_map (λ (c : PartConfig). if c.part == l.migration.target then give_message c l.migration.number l.carried ∷ [] else []) (take l.part-index l.self.config.parts)
