use Rattle.std.proofs.Common.{◌∙◌, rules, tests}
use Rattle.std.proofs.lemmas.Iterator.{YieldsList-from_slice}
use Rattle.std.proofs.lemmas.Iterator.Search.{all_from_yields_List}
use Rattle.curp_words.specs.Words.{is_well_formed}
use Rattle.curp_words.proofs.Parses.{all_texts}
use Rattle.curp_words.proofs.words.are_well_formed.Goals as goal

pub returns : goal.returns
returns c =
    all_from_yields_List (λ word. is_well_formed word.now) _ _ _ c.all.ensures.ran (YieldsList-from_slice c.args.words.now cc) (λ x b q k. search (rules, tests))
    ∙ all_texts is_well_formed c.args.words.now
