-- The order with its answers is as long as the order.
use Rattle.std.proofs.Common.{◌≡◌, suc, List, [], ◌∷◌, length, refl, ap, arith}
use Rattle.curp_cmd.specs.Store.{nothing}
use Rattle.curp_cmd.specs.declared.command.Answer.{Answer}
use Rattle.curp_cmd.specs.declared.command.Command.{Command}
use Rattle.curp_cmd.specs.declared.command.RequestId.{RequestId}
use Rattle.curp_order.proofs.Laws.{length-answers}
use Rattle.curp_order.specs.Order.{answers}
use Rattle.curp_model.specs.World.{World, answered_order, order, with_answers}

length-with_answers : (os : List (RequestId × Command)) (answered : List Answer) → length answered ≡ length os → length (with_answers os answered) ≡ length os
length-with_answers [] answered e = refl
length-with_answers (o ∷ os) [] e = absurd (omega arith)
length-with_answers (o ∷ os) (a ∷ answered) e = ap suc (length-with_answers os answered (omega arith))

pub as_many_answers : (w : World) → length (answered_order w) ≡ length (order w)
as_many_answers w = length-with_answers (order w) (answers (order w)) (length-answers nothing (order w))
