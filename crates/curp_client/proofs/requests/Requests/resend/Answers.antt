use Rattle.std.proofs.Common.{refl, false, ◌++◌, ◌∷◌, []}
use Rattle.curp_model.specs.Client.{Attempt, Pending}
use Rattle.curp_client.proofs.Numbers.{changed, rise_changed, unchanged}
use Rattle.curp_client.proofs.requests.Requests.resend.Goals as goal

resent : Attempt → Pending → Pending
resent attempt p = record p { attempts = p.attempts ++ attempt ∷ []; asked = false }

pub invariant_of-self : goal.invariant_of-self
unfolding resent
invariant_of-self c =
    rise_changed c.self.inside.items.items _ c.args.id.now (resent c.args.attempt)
    (changed c.self.inside.items.items c.args.id.now c.in-Some.at c.index_mut.result.now c.resend.new.self c.self.invariant (rw c.deref.ensures.value at c.in-Some.ensures) c.index_mut.ensures.value
    c.self.inside.items.items (resent c.args.attempt) refl c.in_ok-resend.ensures.ok (λ p. refl))
    c.self.invariant

pub returns-in_ok-resend-clause-ok : goal.returns-in_ok-resend-clause-ok
unfolding resent
returns-in_ok-resend-clause-ok c =
    changed c.self.inside.items.items c.args.id.now c.in-Some.at c.index_mut.result.now c.resend.new.self c.self.invariant (rw c.deref.ensures.value at c.in-Some.ensures) c.index_mut.ensures.value
    c.args.self.now (resent c.args.attempt) c.self.view_is c.in_ok-resend.ensures.ok (λ p. refl)

pub returns-in_default-clause-ok : goal.returns-in_default-clause-ok
unfolding resent
returns-in_default-clause-ok c = unchanged c.self.inside.items.items c.args.self.now c.args.id.now (resent c.args.attempt) c.self.view_is (rw c.deref.ensures.value at c.in_default.ensures)
