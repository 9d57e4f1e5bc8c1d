use Rattle.std.proofs.Common.{List, [], ◌∷◌, None, refl, ap, ◌∙◌}
use Rattle.curp_msg.specs.Moved.{Moved}
use Rattle.curp_msg.specs.declared.machine.Done.{Done}
use Rattle.curp_msg.specs.declared.message.Message.{Message}
use Rattle.curp_model.specs.Manager.{ManagerState}
use Rattle.curp_config.proofs.Movable.{move_made, move_says}
use Rattle.curp_config.proofs.Ordered.{migrate_made, migrate_stops, migrate_out_of_memory}
use Rattle.curp_config.proofs.manager.Manager.migrate.Goals as goal

pub returns-in_default-clause-moves : goal.returns-in_default-clause-moves
returns-in_default-clause-moves c =
    rw (migrate_stops c.args.self.now c.args.lo c.args.hi c.args.to _ (c.in-Ok.ensures.ok c.in-Ok.ensures.ordered) c.in_default.ensures) (refl, c.quiet.ensures)

pub returns-in_default-clause-refused : goal.returns-in_default-clause-refused
returns-in_default-clause-refused c =
    ap (λ (m : Moved ManagerState). m.refused) (migrate_stops c.args.self.now c.args.lo c.args.hi c.args.to _ (c.in-Ok.ensures.ok c.in-Ok.ensures.ordered) c.in_default.ensures)

pub returns-in_err-messages-clause-refused : goal.returns-in_err-messages-clause-refused
returns-in_err-messages-clause-refused c =
    migrate_out_of_memory c.args.self.now c.args.lo c.args.hi c.args.to _ _ (c.in-Ok.ensures.ok c.in-Ok.ensures.ordered) c.in-Some.ensures.1 c.from_residual.ensures

pub returns-clause-moves : goal.returns-clause-moves
returns-clause-moves c =
    let g = c.args.self.now in
    let o = c.in-Ok.ensures.ordered in
    let owner = c.in-Ok.parts.0.now in
    let target = c.in-Ok.parts.1.now in
    let done : List Message → Done = λ (messages : List Message). record { refused = 0; sent = messages; invoked = None; completed = None } in
    rw (migrate_made g c.args.lo c.args.hi c.args.to _ (c.in-Ok.ensures.ok o) c.in-Some.ensures.1) (
      move_made g c.args.lo c.args.hi o _ c.fresh_migration-number.result owner target c.fresh_migration-number.ensures _ c.in-Some.next c.self.view_is c.in-Some.ensures.0,
      c.sends.ensures
          ∙ ap done (c.in_ok-messages.ensures ∙ ap (λ (m : Message). m ∷ []) c.take_message.ensures ∙ move_says g c.args.lo c.args.hi o _ c.fresh_migration-number.result owner target c.fresh_migration-number.ensures),
    )

pub returns-clause-refused : goal.returns-clause-refused
returns-clause-refused c =
    ap (λ (m : Moved ManagerState). m.refused) (migrate_made c.args.self.now c.args.lo c.args.hi c.args.to _ (c.in-Ok.ensures.ok c.in-Ok.ensures.ordered) c.in-Some.ensures.1)
