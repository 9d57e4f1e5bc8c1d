use Rattle.std.proofs.Common.{refl, true}
use Rattle.curp_client.proofs.Numbers.{changed, rise_changed, unchanged}
use Rattle.curp_client.proofs.requests.Requests.ask.Goals as goal

pub invariant_of-self : goal.invariant_of-self
invariant_of-self c =
    rise_changed c.self.inside.items.items _ c.args.id.now (λ p. record p { asked = true })
    (changed c.self.inside.items.items c.args.id.now c.in-Some.at c.index_mut.result.now c.ask.new.self c.self.invariant (rw c.deref.ensures.value at c.in-Some.ensures) c.index_mut.ensures.value
    c.self.inside.items.items (λ p. record p { asked = true }) refl c.ask.ensures (λ p. refl))
    c.self.invariant

pub returns-in-Some : goal.returns-in-Some
returns-in-Some c =
    changed c.self.inside.items.items c.args.id.now c.in-Some.at c.index_mut.result.now c.ask.new.self c.self.invariant (rw c.deref.ensures.value at c.in-Some.ensures) c.index_mut.ensures.value
    c.args.self.now (λ p. record p { asked = true }) c.self.view_is c.ask.ensures (λ p. refl)

pub returns-in_default : goal.returns-in_default
returns-in_default c = unchanged c.self.inside.items.items c.args.self.now c.args.id.now (λ p. record p { asked = true }) c.self.view_is (rw c.deref.ensures.value at c.in_default.ensures)
