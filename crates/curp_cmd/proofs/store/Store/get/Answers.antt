use Rattle.std.proofs.Common.{sym, ap, ◌∙◌}
use Rattle.std.specs.FinMap as map
use Rattle.curp_cmd.proofs.Maps.{get_is}
use Rattle.curp_cmd.proofs.store.Store.get.Goals as goal

pub returns : goal.returns
returns c = c.copied.ensures ∙ c.get.ensures.value ∙ sym (get_is _ c.args.key.now) ∙ ap (λ s. map.get s.map c.args.key.now) c.self.view_is
