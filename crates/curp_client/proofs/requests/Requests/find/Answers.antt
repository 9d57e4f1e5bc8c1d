use Rattle.std.proofs.Common.{◌∙◌, sym, rules, tests}
use Rattle.std.proofs.lemmas.Iterator.{YieldsList-from_slice}
use Rattle.std.proofs.lemmas.Iterator.Search.{find_from_yields_List}
use Rattle.curp_cmd.specs.RequestId.{same_id}
use Rattle.curp_model.specs.Client.{Pending}
use Rattle.curp_client.proofs.requests.Requests.find.Goals as goal
use Rattle.curp_base.proofs.Lists.{first_is_found}

pub returns : goal.returns
returns c =
    find_from_yields_List (λ (p : Pending). same_id p.request.id c.args.id.now) _ _ _ c.find.ensures.ran (YieldsList-from_slice c.args.self.now cc) (λ x b q k. search (rules, tests))
    ∙ sym (first_is_found (λ (p : Pending). same_id p.request.id c.args.id.now) c.args.self.now)
