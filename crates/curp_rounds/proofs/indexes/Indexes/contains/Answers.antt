use Rattle.std.proofs.Common.{ap, ◌∙◌}
use Rattle.curp_model.specs.Master.{has}
use Rattle.curp_rounds.proofs.Places.{contained}
use Rattle.curp_rounds.proofs.indexes.Indexes.contains.Goals as goal

pub returns : goal.returns
returns c =
    c.is_ok.ensures.value
    ∙ contained c.deref.result.now c.args.index c.place.result c.place.ensures.found c.place.ensures.absent
    ∙ ap (has c.args.index) (c.deref.ensures.value ∙ ap (λ i. i.numbers) c.self.view_is)
