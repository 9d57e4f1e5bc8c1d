use Rattle.std.proofs.Common.{◌∙◌, sym, rules, tests}
use Rattle.std.proofs.lemmas.Iterator.{YieldsList-from_slice}
use Rattle.std.proofs.lemmas.Iterator.Search.{find_from_yields_List}
use Rattle.curp_cmd.specs.Hash.{hashes}
use Rattle.curp_model.specs.Ranges.{owns_all}
use Rattle.curp_msg.specs.declared.config.PartConfig.{PartConfig}
use Rattle.curp_client.proofs.owner.owner_of.Goals as goal
use Rattle.curp_base.proofs.Lists.{first_is_found}

pub returns : goal.returns
returns c =
    find_from_yields_List (λ (p : PartConfig). owns_all p.ranges (hashes c.args.command.now)) _ _ _ c.find.ensures.ran (YieldsList-from_slice c.args.config.now.parts cc) (λ x b q k. search (rules, tests))
    ∙ sym (first_is_found (λ (p : PartConfig). owns_all p.ranges (hashes c.args.command.now)) c.args.config.now.parts)
