use Rattle.curp_merge.proofs.Sums.{merged_length}
use Rattle.curp_merge.proofs.script.merge_held.Goals as goal

pub returns-clause-steps : goal.returns-clause-steps
returns-clause-steps c = merged_length c.args.strands.now c.in_ok-weave.field-0.items c.requires.journals.apart c.in_ok-weave.ensures
