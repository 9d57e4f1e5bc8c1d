use Rattle.std.proofs.Common.{◌+◌, ◌++◌, refl}
use Rattle.curp_told.specs.Told.{messages_told, parcels_of}
use Rattle.curp_told.proofs.Joining.{ends, messages_on}
use Rattle.curp_told.proofs.telling.tell_messages.Goals as goal

pub loop-before-preserved : goal.loop-before-preserved
loop-before-preserved c =
    let l = c.loop-before in
    let whole = c.args.text.now.items ++ parcels_of (messages_told c.args.step 1 c.args.stamp c.args.messages.now) in
    messages_on l.before l.text.items c.tell_message.new.text.items whole c.args.step c.args.stamp c.args.messages.now c.index-messages-before.result c.loop-before-test.true c.index-messages-before.is
    c.in_ok-tell_message.ensures
    l.invariant

pub returns : goal.returns
returns c =
    let l = c.loop-before in
    ends (messages_told c.args.step (l.before + 1) c.args.stamp) refl c.args.messages.now l.before l.text.items (c.args.text.now.items ++ parcels_of (messages_told c.args.step 1 c.args.stamp c.args.messages.now)) c.loop-before-test.false l.invariant
