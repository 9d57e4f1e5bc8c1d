use Rattle.curp_script.proofs.Delivery.{is_delivery, reads_delivery}
use Rattle.curp_script.proofs.read.delivery.printed_delivery.Goals as goal

pub returns : goal.returns
returns c =
    let rest = c.in_ok-rest.ensures.cases in
    let digits = c.in_ok-digits.ensures.cases in
    reads_delivery c.args.line.now c.in_ok-digits.digits.now c.whole_of.result
    (is_delivery c.args.line.now c.in_ok-rest.rest.now c.in_ok-digits.digits.now rest.0 rest.1 digits.0 digits.1) c.whole_of.ensures
