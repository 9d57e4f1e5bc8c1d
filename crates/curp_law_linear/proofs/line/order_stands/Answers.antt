use Rattle.curp_law_linear.proofs.Discharged.{pure, second}
use Rattle.curp_law_linear.proofs.Histories.{order_stands}
use Rattle.curp_law_linear.proofs.Growing.{order_grows}
use Rattle.curp_law_linear.proofs.line.order_stands.Goals as goal

pub returns : goal.returns
returns c = record { order = λ s ok. order_stands s ok; grows = λ s m fits logs ok. order_grows pure second s m fits logs ok }
