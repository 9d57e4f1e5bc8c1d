use Rattle.std.proofs.Common.{is_some, sym, ap, ◌∙◌}
use Rattle.std.specs.FinMap as map
use Rattle.curp_cmd.proofs.Maps.{map_without, get_is}
use Rattle.curp_cmd.proofs.store.Store.delete.Goals as goal

pub returns-clause-found : goal.returns-clause-found
returns-clause-found c =
    c.is_some.ensures ∙ ap is_some (c.remove.ensures.value ∙ sym (get_is _ c.args.key.now)) ∙ ap (λ s. map.contains_key s.map c.args.key.now) c.self.view_is

pub returns-clause-map : goal.returns-clause-map
returns-clause-map c = map_without _ _ _ c.remove.ensures.updates.0 ∙ ap (λ s. map.remove s.map c.args.key.now) c.self.view_is
