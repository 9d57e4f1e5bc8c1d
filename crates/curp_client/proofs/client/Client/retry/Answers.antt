use Rattle.std.proofs.Common.{◌≡◌, ◌≤◌, false, [], ◌∷◌, ◌++◌, ap, refl, sym, subst, ◌∙◌}
use Rattle.curp_cmd.specs.Store.{is_update}
use Rattle.curp_cmd.specs.declared.command.Request.{Request}
use Rattle.curp_model.specs.Client as model
use Rattle.curp_msg.specs.Moved.{Moved}
use Rattle.curp_client.proofs.Numbers.{each_changed}
use Rattle.curp_client.proofs.Orders.{retry_made, retry_sends, retry_split, retry_out_of_memory}
use Rattle.curp_client.proofs.client.Client.retry.Goals as goal

pub returns-in_default-owner_of-clause-refused : goal.returns-in_default-owner_of-clause-refused
returns-in_default-owner_of-clause-refused c =
    rw (sym c.self.view_is) (ap (λ (m : Moved model.ClientState). m.refused) (retry_split _ _ _ c.in-Some.pending.now c.deref.result.now c.in-Some.ensures (c.deref.ensures ∙ c.request-request.ensures) c.in_default-owner_of.ensures))

pub returns-in_err-messages-clause-refused : goal.returns-in_err-messages-clause-refused
returns-in_err-messages-clause-refused c =
    rw (sym c.self.view_is) (retry_out_of_memory _ _ _ c.in-Some.pending.now c.deref.result.now c.in-Some.ensures (c.deref.ensures ∙ c.request-request.ensures) c.in-Some-owner_of.part.now _ c.in-Some-owner_of.ensures c.from_residual.ensures)

pub returns-in_err-attempt-clause-refused : goal.returns-in_err-attempt-clause-refused
returns-in_err-attempt-clause-refused c =
    rw (sym c.self.view_is)
    (retry_out_of_memory _ _ _ c.in-Some.pending.now c.deref.result.now c.in-Some.ensures (c.deref.ensures ∙ c.request-request.ensures) c.in-Some-owner_of.part.now _ c.in-Some-owner_of.ensures c.from_residual-in_err-attempt.ensures)

pub returns-in_err-resend-clause-refused : goal.returns-in_err-resend-clause-refused
returns-in_err-resend-clause-refused c =
    rw (sym c.self.view_is)
    (retry_out_of_memory _ _ _ c.in-Some.pending.now c.deref.result.now c.in-Some.ensures (c.deref.ensures ∙ c.request-request.ensures) c.in-Some-owner_of.part.now _ c.in-Some-owner_of.ensures c.from_residual-in_err-resend.ensures)

pub invariant_of-self-2 : goal.invariant_of-self-2
invariant_of-self-2 c =
    each_changed (λ n. n ≤ c.self.inside.last) c.self.inside.pending c.resend.new.self _ (λ p. record p { attempts = p.attempts ++ c.in_ok-attempt.attempt ∷ []; asked = false })
    c.in_ok-resend.ensures.ok c.self.invariant

pub returns-clause-moves : goal.returns-clause-moves
returns-clause-moves c =
    let before : model.ClientState = record { fast = c.self.inside.fast; protocol = c.self.inside.protocol; config = c.self.inside.config; last = c.self.inside.last; pending = c.self.inside.pending } in
    let said : c.in_ok-messages.messages.items ≡ model.sent_by c.self.inside.number c.self.inside.fast c.self.inside.protocol (is_update c.deref.result.now.command) c.deref.result.now c.in-Some-owner_of.part.now =
    subst (λ (r : Request). c.in_ok-messages.messages.items ≡ model.sent_by c.self.inside.number c.self.inside.fast c.self.inside.protocol (is_update r.command) r c.in-Some-owner_of.part.now)
    (sym c.deref.ensures) c.in_ok-messages.ensures
    in
    let sent =
    retry_sends c.self.inside.number before c.args.seq c.in-Some.pending.now c.deref.result.now c.in-Some.ensures (c.deref.ensures ∙ c.request-request.ensures) c.in-Some-owner_of.part.now c.in_ok-attempt.attempt c.resend.new.self
    c.in_ok-messages.messages.items c.in-Some-owner_of.ensures said c.in_ok-attempt.ensures c.in_ok-resend.ensures.ok
    in
    rw (sym c.self.view_is, sent) (refl, c.sends.ensures)

pub returns-clause-refused : goal.returns-clause-refused
returns-clause-refused c =
    rw (sym c.self.view_is)
    (ap (λ (m : Moved model.ClientState). m.refused) (retry_made _ _ _ c.in-Some.pending.now c.deref.result.now c.in-Some.ensures (c.deref.ensures ∙ c.request-request.ensures) c.in-Some-owner_of.part.now c.in-Some-owner_of.ensures))
