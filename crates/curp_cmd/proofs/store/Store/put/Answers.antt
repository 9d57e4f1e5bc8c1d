use Rattle.std.proofs.Common.{ap, ◌∙◌}
use Rattle.std.specs.FinMap as map
use Rattle.curp_cmd.proofs.Maps.{map_put}
use Rattle.curp_cmd.proofs.store.Store.put.Goals as goal

pub returns-clause-map : goal.returns-clause-map
returns-clause-map c =
    let done = rw c.unwrap.ensures at c.insert-put.ensures.updates in
    map_put _ _ _ _ done.0 ∙ ap (λ s. map.insert s.map c.args.key.now c.args.value.now) c.self.view_is
