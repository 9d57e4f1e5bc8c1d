use Rattle.std.proofs.Common.{rules}
use Rattle.curp_base.proofs.Lists.{prefix_trans}
use Rattle.curp_serve.proofs.Leading.{led_last, led_more, led_none}
use Rattle.curp_serve.proofs.stepper.Stepper.quiet.Goals as goal

pub messages-preserved : goal.messages-preserved
messages-preserved c =
    let is = c.messages.invariant in
    record {
      same = led_more c.args.self.now c.messages.self c.deliver_next.new.self is.same (search rules) c.is_busy.ensures.few c.in_ok-deliver_next.ensures;
      grows = prefix_trans is.grows c.deliver_next.ensures.grows;
    }

pub returns-in_err-deliver_next : goal.returns-in_err-deliver_next
returns-in_err-deliver_next c =
    let is = c.messages.invariant in
    led_last c.args.self.now c.messages.self c.deliver_next.new.self c.from_residual.result c.in_err-deliver_next.field-0.0 (search rules) is.same is.grows (search rules) c.in_err-deliver_next.ensures

pub returns : goal.returns
returns c = let is = c.messages.invariant in led_none c.args.self.now c.messages.self is.same is.grows (search rules) c.is_busy.ensures.free
