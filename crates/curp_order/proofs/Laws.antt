-- What longer orders answer.
use Rattle.std.proofs.Common.{◌≡◌, ℕ, suc, List, [], ◌∷◌, ◌++◌, append_assoc, length, refl, ap, sym, ◌∙◌}
use Rattle.curp_base.specs.Words.{At, IsPrefix}
use Rattle.curp_base.proofs.Lists.{at_push}
use Rattle.curp_cmd.specs.declared.command.Answer.{Answer}
use Rattle.curp_cmd.specs.declared.command.Command.{Command}
use Rattle.curp_cmd.specs.declared.command.RequestId.{RequestId}
use Rattle.curp_cmd.specs.Store.{Contents, applied}
use Rattle.curp_order.specs.Order.{answers, answers_from, store_after}

pub answers_append : (s : Contents) (xs ys : List (RequestId × Command)) → answers_from s (xs ++ ys) ≡ answers_from s xs ++ answers_from (store_after s xs) ys
answers_append s [] ys = refl
answers_append s (x ∷ xs) ys = ap (λ (w : List Answer). (applied s x.1).answer ∷ w) (answers_append (applied s x.1).after xs ys)

pub length-answers : (s : Contents) (xs : List (RequestId × Command)) → length (answers_from s xs) ≡ length xs
length-answers s [] = refl
length-answers s (x ∷ xs) = ap suc (length-answers (applied s x.1).after xs)

pub answers_prefix : {xs ys : List (RequestId × Command)} → IsPrefix xs ys → IsPrefix (answers xs) (answers ys)
answers_prefix {xs = xs} {ys = ys} p = record { rest = answers_from _ p.rest; is = sym (answers_append _ xs p.rest) ∙ ap answers p.is }

pub answers_push : (s : Contents) (xs : List (RequestId × Command)) (o : RequestId × Command) (k : ℕ) → k ≡ length xs → At (answers_from s (xs ++ o ∷ [])) k (applied (store_after s xs) o.1).answer
answers_push s xs o k e = rw answers_append (at_push (answers_from s xs) _ k (e ∙ sym (length-answers s xs)))

-- one more request is done, where the store had still to answer it
pub answers_step : (given all : List Answer) (s : Contents) (x : RequestId × Command) (rest : List (RequestId × Command)) → given ++ answers_from s (x ∷ rest) ≡ all → (given ++ (applied s x.1).answer ∷ []) ++ answers_from (applied s x.1).after rest ≡ all
answers_step given all s x rest e = append_assoc given _ _ ∙ e
