use Rattle.std.proofs.Common.{◌≡◌, ◌∙◌, map, ap, arith}
use Rattle.std.proofs.lemmas.List.{take_all}
use Rattle.curp_rifl.specs.Records.{Record}
use Rattle.curp_rifl.proofs.Changes.{ascend_answers}
use Rattle.curp_rifl.proofs.records.answers_of.Goals as goal

pub returns-clause-ascend : goal.returns-clause-ascend
returns-clause-ascend c =
    let all = take_all c.loop-id.id-index c.args.records.now (omega arith) in
    let whole : c.loop-id.answers.items ≡ map (λ (e : Record). (e.0, e.1.answer)) c.args.records.now = c.loop-id.invariant ∙ ap (map (λ (e : Record). (e.0, e.1.answer))) all in
    rw whole (ascend_answers c.args.records.now c.requires)
