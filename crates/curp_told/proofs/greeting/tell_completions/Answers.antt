use Rattle.std.proofs.Common.{◌+◌, ◌++◌, refl}
use Rattle.curp_told.specs.Told.{completions_told, parcels_of}
use Rattle.curp_told.proofs.Joining.{completions_on, ends}
use Rattle.curp_told.proofs.greeting.tell_completions.Goals as goal

pub loop-before-preserved : goal.loop-before-preserved
loop-before-preserved c =
    let l = c.loop-before in
    let whole = c.args.text.now.items ++ parcels_of (completions_told 1 c.args.items.now) in
    completions_on l.before l.text.items c.tell_completion.new.text.items whole c.args.items.now c.index-items-before.result c.loop-before-test.true c.index-items-before.is c.in_ok-tell_completion.ensures l.invariant

pub returns : goal.returns
returns c =
    let l = c.loop-before in
    ends (completions_told (l.before + 1)) refl c.args.items.now l.before l.text.items (c.args.text.now.items ++ parcels_of (completions_told 1 c.args.items.now)) c.loop-before-test.false l.invariant
