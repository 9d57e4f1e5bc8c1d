use Rattle.std.proofs.Common.{refl}
use Rattle.curp_client.specs.Evidence.{kept}
use Rattle.curp_client.proofs.Kept.{completes_nothing, completes_that}
use Rattle.curp_client.proofs.Numbers.{changed, found_is, rise_changed, same_request, unchanged}
use Rattle.curp_client.proofs.requests.Requests.keep.Goals as goal

pub returns-in_default-clause-ok : goal.returns-in_default-clause-ok
returns-in_default-clause-ok c = unchanged c.self.inside.items.items c.args.self.now c.args.id.now (λ p. kept p c.args.evidence) c.self.view_is (rw c.deref.ensures.value at c.in_default.ensures)

pub returns-in_default-clause-completes : goal.returns-in_default-clause-completes
returns-in_default-clause-completes c = completes_nothing c.self.inside.items.items c.args.self.now c.args.id.now c.args.evidence _ c.self.view_is (rw c.deref.ensures.value at c.in_default.ensures)

pub invariant_of-self-2 : goal.invariant_of-self-2
invariant_of-self-2 c =
    rise_changed c.self.inside.items.items _ c.args.id.now (λ p. kept p c.args.evidence)
    (changed c.self.inside.items.items c.args.id.now c.in-Some.at c.index_mut-pending.result.now c.keep.new.self c.self.invariant (rw c.deref.ensures.value at c.in-Some.ensures) c.index_mut-pending.ensures.value
    c.self.inside.items.items (λ p. kept p c.args.evidence) refl c.in_ok-keep.ensures.ok (same_request c.args.evidence))
    c.self.invariant

pub returns-clause-ok : goal.returns-clause-ok
returns-clause-ok c =
    changed c.self.inside.items.items c.args.id.now c.in-Some.at c.index_mut-pending.result.now c.keep.new.self c.self.invariant (rw c.deref.ensures.value at c.in-Some.ensures) c.index_mut-pending.ensures.value
    c.args.self.now (λ p. kept p c.args.evidence) c.self.view_is c.in_ok-keep.ensures.ok (same_request c.args.evidence)

pub returns-clause-completes : goal.returns-clause-completes
returns-clause-completes c =
    completes_that c.self.inside.items.items c.args.self.now c.args.id.now c.args.evidence _ c.index_mut-pending.result.now c.keep.new.self c.self.view_is
    (found_is c.self.inside.items.items c.args.id.now c.in-Some.at c.index_mut-pending.result.now c.keep.new.self c.self.invariant (rw c.deref.ensures.value at c.in-Some.ensures) c.index_mut-pending.ensures.value)
    c.in_ok-keep.ensures.ok c.completion.ensures
