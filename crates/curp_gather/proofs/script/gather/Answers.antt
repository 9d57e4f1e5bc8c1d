use Rattle.std.proofs.Common.{◌≡◌, ◌∙◌, IfOk, List, subst}
use Rattle.curp_merge.specs.Held.{AllHeld}
use Rattle.curp_journal.specs.Turns.{Journal}
use Rattle.curp_gather.specs.Journals.{journals_of}
use Rattle.curp_gather.proofs.Gathered.{gathered, mergeable}
use Rattle.curp_gather.proofs.script.gather.Goals as goal

pub merge-requires : goal.merge-requires
merge-requires c =
    mergeable c.args._header.now c.args.journals.now c.requires c.in_ok-strands.ensures.replayed c.deref.result.now (c.deref.ensures.value ∙ c.in_ok-strands.ensures.strands)

pub returns : goal.returns
returns c =
    let same : c.deref.result.now ≡ journals_of c.args.journals.now = c.deref.ensures.value ∙ c.in_ok-strands.ensures.strands in
    let told = c.merge.ensures in
    let whole =
    gathered c.args._header.now c.args.journals.now c.requires c.in_ok-strands.ensures.replayed c.deref.result.now same c.merge.result
    (record { merged = told.merged; steps = told.steps; few = told.few; light = told.light; cause = told.cause }) in
    record {
      script = whole.script;
      counted = whole.counted;
      held = subst (λ (ls : List Journal). IfOk c.merge.result (λ steps. AllHeld ls)) same told.held;
      few = whole.few;
      light = whole.light;
      cause = whole.cause;
    }
