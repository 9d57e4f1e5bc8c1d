use Rattle.std.proofs.Common.{ap, ◌∙◌}
use Rattle.curp_line.specs.Cuts.{epoch_place}
use Rattle.curp_line.proofs.cut_epochs.CutEpochs.place_of.Goals as goal

pub returns : goal.returns
returns c =
    c.value_of.ensures ∙ c.self.invariant.placed c.args.part c.args.rank ∙ ap (λ e. epoch_place c.args.part c.args.rank e.epochs) c.self.view_is
