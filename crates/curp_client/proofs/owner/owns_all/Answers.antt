use Rattle.std.proofs.Common.{◌∙◌, sym, rules, tests}
use Rattle.std.proofs.lemmas.Iterator.{YieldsList-from_slice}
use Rattle.std.proofs.lemmas.Iterator.Search.{all_from_yields_List}
use Rattle.curp_cmd.proofs.Ascendings.{all_ascending}
use Rattle.curp_cmd.specs.Hash.{hashes_of}
use Rattle.curp_range.specs.Spans.{is_owned}
use Rattle.curp_client.proofs.owner.owns_all.Goals as goal

pub returns : goal.returns
returns c =
    all_from_yields_List (is_owned c.args.part.now.ranges) _ _ _ c.all.ensures.ran (YieldsList-from_slice (hashes_of c.args.command.now) cc) (λ x b q k. search (rules, tests))
    ∙ sym (all_ascending (is_owned c.args.part.now.ranges) (hashes_of c.args.command.now))
