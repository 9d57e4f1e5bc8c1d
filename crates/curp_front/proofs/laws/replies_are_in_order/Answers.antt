use Rattle.curp_front.specs.Talk.{begins}
use Rattle.curp_front.proofs.Talk.{always, at_first}
use Rattle.curp_front.proofs.laws.replies_are_in_order.Goals as goal

pub returns : goal.returns
returns c = λ number events. always events (begins number) (at_first number)
