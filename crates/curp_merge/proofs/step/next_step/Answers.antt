use Rattle.std.proofs.Common.{◌<◌, inl, inr, length, IfSome, ap, sym, subst, arith}
use Rattle.curp_base.specs.Words.{At}
use Rattle.curp_base.proofs.Lists.{at_within}
use Rattle.curp_merge.specs.Weaving.{NamesTurn}
use Rattle.curp_merge.proofs.Scanning.{read_at}
use Rattle.curp_merge.proofs.Stamps.{turn_cases, turn_of_item}
use Rattle.curp_merge.proofs.step.next_step.Goals as goal

pub returns-clause-names : goal.returns-clause-names
returns-clause-names c =
    let j = c.args.strand.now in
    let taken = c.args.taken in
    let item = c.index-items-taken.result in
    let many = ap (λ items. length items) c.items-items.ensures in
    let below : taken < length c.items-items.result.now =
    elim (turn_cases j taken c.requires.ready.turn c.requires.ready.its_turn) [
      | inl did ↦ omega (arith, many, at_within j.items taken did.0 did.2)
      | inr stop ↦ absurd (omega (arith, many, stop.1))
    ] in
    let read = read_at c.items-items.result.now taken item below c.index-items-taken.is in
    let at : At j.items taken item = subst (λ items. At items taken item) c.items-items.ensures read in
    subst (λ turn. IfSome turn (λ turn. NamesTurn c.args.strands.now c.args.tracks.now turn c.in_ok-step_of.field-0)) (sym (turn_of_item j taken item at)) c.in_ok-step_of.ensures.names
