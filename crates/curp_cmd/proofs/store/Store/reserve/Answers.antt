use Rattle.std.proofs.Common.{ap, ◌∙◌}
use Rattle.curp_cmd.proofs.Maps.{map_reordered}
use Rattle.curp_cmd.proofs.store.Store.reserve.Goals as goal

pub returns-clause-map : goal.returns-clause-map
returns-clause-map c = map_reordered _ _ c.reserve.ensures.entries.2 ∙ ap (λ s. s.map) c.self.view_is
