use Rattle.std.proofs.Common.{ℕ, List, ap, subst}
use Rattle.curp_parcels.specs.Reading.{FindsFirst, ParcelsRead, StandsTooLong}
use Rattle.curp_parcels.specs.declared.framing.First.TheVariants as first
use Rattle.curp_parcels.proofs.Reading.{too_long_at}
use Rattle.curp_parcels.proofs.parcels.Parcels.ready_parcel.Goals as goal

pub give-requires : goal.give-requires
give-requires c = subst (λ (l : List ℕ). FindsFirst l (first.Whole c.in-Whole.count)) c.bytes.ensures c.in-Whole.ensures

pub returns-in-TooLong-clause-answer : goal.returns-in-TooLong-clause-answer
returns-in-TooLong-clause-answer c = too_long_at c.args.self.now _ (ap (λ (p : ParcelsRead). p.passed) c.self.view_is) (subst StandsTooLong c.bytes.ensures c.in-TooLong.ensures)
