use Rattle.std.proofs.Common.{◌∙◌, sym, rules, tests}
use Rattle.std.proofs.lemmas.Iterator.{YieldsList-from_slice}
use Rattle.std.proofs.lemmas.Iterator.Search.{any_from_yields_List}
use Rattle.curp_cmd.specs.Hash.{hashes_of}
use Rattle.curp_cmd.proofs.Ascendings.{any_ascending}
use Rattle.curp_model.specs.Log.{entry_touches}
use Rattle.curp_master_log.proofs.untold.touches_any.Goals as goal

pub returns : goal.returns
returns c =
    any_from_yields_List (entry_touches c.args.entry.now) _ _ _ c.any.ensures.ran (YieldsList-from_slice (hashes_of c.args.command.now) cc) (λ x b q k. search (rules, tests))
    ∙ sym (any_ascending (entry_touches c.args.entry.now) (hashes_of c.args.command.now))
