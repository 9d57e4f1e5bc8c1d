use Rattle.std.proofs.Common.{◌≡◌, rules, true}
use Rattle.std.specs.List.{list_all}
use Rattle.clap.specs.Faults.{is_free_app}
use Rattle.clap.specs.Simple.{app_of, built, is_simple}
use Rattle.clap.specs.Walk.{texts}
use Rattle.clap.proofs.WalkLemmas.{both}
use Rattle.curp_words.specs.Words.{is_well_formed}
use Rattle.curp_words.proofs.words.parsed.Goals as goal

pub returns-in-Ok-clause-ok : goal.returns-in-Ok-clause-ok
returns-in-Ok-clause-ok c = λ simple.
    let well : list_all is_well_formed (texts c.args.words.now) ≡ true = search rules in
    record {
      well = well;
      no_fault = c.in-Ok.ensures.kinds simple;
      rows = (c.in-Ok.ensures.matches (both (is_simple (app_of c.args.command)) (is_free_app (built (app_of c.args.command))) simple).0).0;
    }
