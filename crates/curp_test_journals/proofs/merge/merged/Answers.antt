use Rattle.curp_test_journals.proofs.Pairs.{both_are}
use Rattle.curp_test_journals.proofs.merge.merged.Goals as goal

pub merge-requires : goal.merge-requires
merge-requires c = both_are c.args.first c.args.second c.requires.apart c.requires.first c.requires.second
