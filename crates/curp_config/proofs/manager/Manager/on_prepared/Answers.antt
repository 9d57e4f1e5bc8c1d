use Rattle.std.proofs.Common.{◌≡◌, Option, subst, sym, ◌∙◌}
use Rattle.std.specs.Prelude.{IfOk}
use Rattle.curp_model.specs.Manager.{tells_again}
use Rattle.curp_msg.specs.Moved.{done_of}
use Rattle.curp_msg.specs.declared.config.PartConfig.{PartConfig}
use Rattle.curp_msg.specs.declared.machine.Done.{Done}
use Rattle.curp_config.specs.Parts.{prepared_part}
use Rattle.curp_config.proofs.Again.{prepared_told}
use Rattle.curp_config.proofs.manager.Manager.on_prepared.Goals as goal

pub returns-in-None : goal.returns-in-None
returns-in-None c =
    let told = subst (λ (o : Option PartConfig). IfOk c.tell_again.result (λ (done : Done). done ≡ done_of (tells_again c.args.self.now o))) c.adopted_lists.ensures c.tell_again.ensures in
    prepared_told prepared_part c.args.self.now c.args.version c.tell_again.result (sym c.in-None.is ∙ c.in_ok-entry.ensures.part) told
