use Rattle.std.proofs.Common.{ℕ, List, ap, subst}
use Rattle.curp_parcels.specs.Parcels.{IsIn, incoming}
use Rattle.curp_parcels.specs.Reading.{ParcelsRead}
use Rattle.curp_parcels.proofs.Reading.{gives_found, room_of, skips_found}
use Rattle.curp_parcels.proofs.parcels.Parcels.give.Goals as goal

pub content-requires : goal.content-requires
content-requires c = room_of c.args.self.now.ahead c.args.count c.requires

pub pass-requires : goal.pass-requires
pass-requires c = room_of c.args.self.now.ahead c.args.count c.requires

pub returns-in-Some-clause-answer : goal.returns-in-Some-clause-answer
returns-in-Some-clause-answer c =
    gives_found c.args.self.now c.pass.new.self c.args.count c.requires c.in-Ok.read (subst (λ (l : List ℕ). IsIn incoming l c.in-Ok.read) c.content.ensures c.in-Ok.ensures) c.pass.ensures c.in-Some.arrived c.in-Some.is

pub returns-in-None-clause-answer : goal.returns-in-None-clause-answer
returns-in-None-clause-answer c =
    skips_found c.args.self.now c.pass.new.self c.args.count c.requires c.in-Ok.read (subst (λ (l : List ℕ). IsIn incoming l c.in-Ok.read) c.content.ensures c.in-Ok.ensures) c.pass.ensures _ (ap (λ (p : ParcelsRead). p.passed) c.self.view_is) c.in-None.is
