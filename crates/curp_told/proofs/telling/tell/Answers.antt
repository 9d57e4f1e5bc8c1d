use Rattle.std.proofs.Common.{◌++◌, refl}
use Rattle.curp_told.specs.Told.{all_told, parcels_of}
use Rattle.curp_told.proofs.Joining.{ends, told_on}
use Rattle.curp_told.proofs.telling.tell.Goals as goal

pub loop-answered-preserved : goal.loop-answered-preserved
loop-answered-preserved c =
    let l = c.loop-answered in
    let whole = c.args.text.now.items ++ parcels_of (all_told c.args.first c.args.answers.now) in
    told_on l.answered-index l.text.items c.tell_answer.new.text.items whole c.args.answers.now l.input c.saturating_add-input.result c.answered-item.result c.loop-answered-test.true c.answered-item.is c.saturating_add-input.ensures c.in_ok-tell_answer.ensures l.invariant

pub returns : goal.returns
returns c =
    let l = c.loop-answered in
    let whole = c.args.text.now.items ++ parcels_of (all_told c.args.first c.args.answers.now) in
    record { tells = ends (all_told l.input) refl c.args.answers.now l.answered-index l.text.items whole c.loop-answered-test.false l.invariant }
