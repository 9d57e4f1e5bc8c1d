use Rattle.std.proofs.Common.{ap, ◌∙◌}
use Rattle.std.specs.Option.{unwrap_or}
use Rattle.curp_line.specs.Cuts.{how_many, is_epoch_of}
use Rattle.curp_line.proofs.cut_epochs.CutEpochs.count_of.Goals as goal

pub returns : goal.returns
returns c =
    c.unwrap_or.ensures ∙ ap (λ r. unwrap_or r 0) c.value_of.ensures ∙ c.self.invariant.counted c.args.part
    ∙ ap (λ e. how_many (is_epoch_of c.args.part) e.epochs) c.self.view_is
