use Rattle.std.proofs.Common.{◌∙◌, List, drop, ap}
use Rattle.std.proofs.lemmas.List.{drop-drop}
use Rattle.curp_model.specs.Master.{Captured}
use Rattle.curp_rounds.proofs.captures.drop_prefix.Goals as goal

pub loop-preserved : goal.loop-preserved
loop-preserved c = c.pop_front.ensures.rest ∙ ap (λ (cs : List Captured). drop 1 cs) c.loop.invariant ∙ drop-drop 1 c.loop.counter c.args.waiting.now.items
