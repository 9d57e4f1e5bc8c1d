use Rattle.std.proofs.Common.{◌∙◌, sym, rules, tests}
use Rattle.std.proofs.lemmas.Iterator.{YieldsList-from_slice}
use Rattle.std.proofs.lemmas.Iterator.Search.{find_from_yields_List}
use Rattle.std.specs.List.{list_any}
use Rattle.curp_model.specs.Client.{Glimpse, is_seen}
use Rattle.curp_client.proofs.pending.Pending.seen_glimpse.Goals as goal
use Rattle.curp_base.proofs.Lists.{first_is_found}

pub returns : goal.returns
returns c =
    find_from_yields_List (λ (g : Glimpse). list_any (is_seen c.args.self.now g) c.args.self.now.attempts) _ _ _ c.find.ensures.ran (YieldsList-from_slice c.args.self.now.glimpses cc) (λ x b q k. search (rules, tests))
    ∙ sym (first_is_found (λ (g : Glimpse). list_any (is_seen c.args.self.now g) c.args.self.now.attempts) c.args.self.now.glimpses)
