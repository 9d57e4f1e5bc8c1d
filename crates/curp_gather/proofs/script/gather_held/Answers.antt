use Rattle.std.proofs.Common.{◌≡◌, ◌∙◌}
use Rattle.curp_gather.specs.Journals.{journals_of}
use Rattle.curp_gather.proofs.Gathered.{gathered, mergeable}
use Rattle.curp_gather.proofs.script.gather_held.Goals as goal

pub merge_held-requires-clause-journals : goal.merge_held-requires-clause-journals
merge_held-requires-clause-journals c =
    mergeable c.args._header.now c.args.journals.now c.requires.journals c.in_ok-strands.ensures.replayed c.deref.result.now (c.deref.ensures.value ∙ c.in_ok-strands.ensures.strands)

pub returns : goal.returns
returns c =
    let same : c.deref.result.now ≡ journals_of c.args.journals.now = c.deref.ensures.value ∙ c.in_ok-strands.ensures.strands in
    let told = c.merge_held.ensures in
    let whole =
    gathered c.args._header.now c.args.journals.now c.requires.journals c.in_ok-strands.ensures.replayed c.deref.result.now same c.merge_held.result
    (record { merged = told.merged; steps = told.steps; few = told.few; light = told.light; cause = told.cause }) in
    record { script = whole.script; counted = whole.counted; few = whole.few; light = whole.light; cause = whole.cause }
