use Rattle.std.proofs.Common.{◌==◌, ◌∙◌, ap, sym, rules, tests}
use Rattle.std.proofs.lemmas.Iterator.{YieldsList-from_slice}
use Rattle.std.proofs.lemmas.Iterator.Search.{find_from_yields_List}
use Rattle.curp_msg.specs.declared.config.PartConfig.{PartConfig}
use Rattle.curp_model.specs.Manager.{ManagerState}
use Rattle.curp_config.proofs.manager.Manager.adopted_lists.Goals as goal
use Rattle.curp_base.proofs.Lists.{first_is_found}

pub returns : goal.returns
returns c =
    find_from_yields_List (λ (p : PartConfig). p.version == c.args.version) _ _ _ c.find.ensures.ran (YieldsList-from_slice c.args.self.now.config.parts (c.iter.ensures.rest ∙ c.as_slice-parts.ensures ∙ ap (λ (g : ManagerState). g.config.parts) c.self.view_is)) (λ x b q k. search (rules, tests))
    ∙ sym (first_is_found (λ (p : PartConfig). p.version == c.args.version) c.args.self.now.config.parts)
