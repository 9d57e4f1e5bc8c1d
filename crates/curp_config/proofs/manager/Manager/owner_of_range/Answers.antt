use Rattle.std.proofs.Common.{◌∙◌, ap, sym, rules, tests}
use Rattle.std.proofs.lemmas.Iterator.{YieldsList-from_slice}
use Rattle.std.proofs.lemmas.Iterator.Search.{find_from_yields_List}
use Rattle.curp_model.specs.Manager.{ManagerState, owns_range}
use Rattle.curp_config.proofs.manager.Manager.owner_of_range.Goals as goal
use Rattle.curp_base.proofs.Lists.{first_is_found}

pub returns : goal.returns
returns c =
    find_from_yields_List (owns_range c.args.lo c.args.hi) _ _ _ c.find.ensures.ran (YieldsList-from_slice c.args.self.now.config.parts (c.iter.ensures.rest ∙ c.as_slice-parts.ensures ∙ ap (λ (g : ManagerState). g.config.parts) c.self.view_is)) (λ x b q k. search (rules, tests))
    ∙ sym (first_is_found (owns_range c.args.lo c.args.hi) c.args.self.now.config.parts)
