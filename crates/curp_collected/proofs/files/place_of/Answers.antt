use Rattle.std.proofs.Common.{◌≢◌}
use Rattle.curp_collected.specs.declared.files.File.{File}
use Rattle.curp_collected.proofs.Finding.{all_seen}
use Rattle.curp_collected.proofs.files.place_of.Goals as goal

pub returns-clause-none : goal.returns-clause-none
returns-clause-none c = all_seen (λ (f : File). f.title.node ≢ c.args.node) c.args.files.now c.loop-file.file c.loop-file-test.false c.loop-file.invariant
