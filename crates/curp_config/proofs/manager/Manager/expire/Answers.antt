use Rattle.std.proofs.Common.{ℕ, List, None, ap, ◌∙◌}
use Rattle.std.specs.BTreeSet.{insert_key}
use Rattle.std.specs.Ordering.{nat_cmp}
use Rattle.curp_msg.specs.Moved.{Moved}
use Rattle.curp_msg.specs.declared.machine.Done.{Done}
use Rattle.curp_msg.specs.declared.message.Message.{Message}
use Rattle.curp_model.specs.Manager.{ManagerState}
use Rattle.curp_config.proofs.Ordered.{expire_made}
use Rattle.curp_config.proofs.manager.Manager.expire.Goals as goal

pub returns-clause-moves : goal.returns-clause-moves
returns-clause-moves c =
    let known = c.in-Ok.known in
    let g : ManagerState = record {
      shape = c.self.inside.shape;
      config = c.self.inside.config;
      doing = c.self.inside.doing.items;
      moving = c.self.inside.moving;
      gone = c.self.inside.gone.keys;
      next = c.self.inside.next;
    } in
    let done : List Message → Done = λ (messages : List Message). record { refused = 0; sent = messages; invoked = None; completed = None } in
    rw (expire_made c.args.self.now c.args.client known c.in-Ok.ensures.ok) (
      ap (λ (gone : List ℕ). record g { gone = gone }) c.in_ok-note.ensures.ok ∙ ap (λ (h : ManagerState). record h { gone = insert_key nat_cmp h.gone known }) c.self.view_is,
      c.sends.ensures ∙ ap done c.in_ok-messages.ensures,
    )

pub returns-clause-refused : goal.returns-clause-refused
returns-clause-refused c =
    ap (λ (m : Moved ManagerState). m.refused) (expire_made c.args.self.now c.args.client c.in-Ok.known c.in-Ok.ensures.ok)
