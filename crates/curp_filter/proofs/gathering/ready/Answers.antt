use Rattle.curp_filter.proofs.Together.{ready_came, shrinks}
use Rattle.curp_filter.proofs.gathering.ready.Goals as goal

pub returns-in-Some-clause-came : goal.returns-in-Some-clause-came
returns-in-Some-clause-came c left =
    ready_came c.in-Some.answer c.came_of.result c.ok.result _ _ _ _ c.ok.ensures.value c.came_of.ensures.came c.came_of.ensures.ends c.in-Some.ensures.of_bytes (c.in-Some.ensures.answer left)

pub returns-in-Some-clause-shrinks : goal.returns-in-Some-clause-shrinks
returns-in-Some-clause-shrinks c =
    shrinks c.ok.result c.args.parcels.now c.ready_parcel.new.self (λ left.
    ready_came c.in-Some.answer c.came_of.result c.ok.result _ _ _ _ c.ok.ensures.value c.came_of.ensures.came c.came_of.ensures.ends c.in-Some.ensures.of_bytes (c.in-Some.ensures.answer left))
