use Rattle.std.proofs.Common.{◌≡◌, ◌+◌, List, [], ◌∷◌, ◌++◌, append_assoc, drop, refl, sym, ap, subst, ◌∙◌, append-nil, arith}
use Rattle.std.proofs.lemmas.List.{drop_more, drop_all}
use Rattle.curp_cmd.specs.Store.{Contents, applied}
use Rattle.curp_cmd.specs.declared.command.Answer.{Answer}
use Rattle.curp_cmd.specs.declared.command.Command.{Command}
use Rattle.curp_cmd.specs.declared.command.RequestId.{RequestId}
use Rattle.curp_model.specs.World.{with_answers}
use Rattle.curp_order.specs.Order.{answers, answers_from}
use Rattle.curp_sent.proofs.ordered.answered.Goals as goal

-- one more request is done
answered_more : (given all : List (RequestId × Command × Answer)) (s : Contents) (x : RequestId × Command) (rest : List (RequestId × Command))
    → given ++ with_answers (x ∷ rest) (answers_from s (x ∷ rest)) ≡ all
    → (given ++ (x.0, x.1, (applied s x.1).answer) ∷ []) ++ with_answers rest (answers_from (applied s x.1).after rest) ≡ all
answered_more given all s x rest e = append_assoc given _ _ ∙ e

-- the next request is the first of the rest
pub loop-id-preserved : goal.loop-id-preserved
loop-id-preserved c =
    let xs = c.args.requests.now in
    let i = c.loop-id.id-index in
    let item = c.loop-id-item.result in
    let next : drop i xs ≡ item ∷ drop (i + 1) xs = drop_more xs i item (omega arith) ∙ ap (λ (x : RequestId × Command). x ∷ drop (i + 1) xs) (sym c.loop-id-item.is) in
    let due : c.loop-id.list.items ++ with_answers (item ∷ drop (i + 1) xs) (answers_from c.loop-id.store.map (item ∷ drop (i + 1) xs)) ≡ with_answers xs (answers xs) =
    subst (λ (rest : List (RequestId × Command)). c.loop-id.list.items ++ with_answers rest (answers_from c.loop-id.store.map rest) ≡ with_answers xs (answers xs)) next c.loop-id.invariant in
    rw (c.in_ok-push.ensures.items, c.apply-answer.ensures.answer, c.apply-answer.ensures.after, c.in_ok-reserve.ensures.map, c.in_ok-share.ensures, c.deref-in-loop-id.ensures) (answered_more _ _ _ item _ due)

-- nothing is left
pub returns : goal.returns
returns c =
    let none = drop_all c.loop-id.id-index c.args.requests.now (omega arith) in
    sym (append-nil _) ∙ subst (λ (rest : List (RequestId × Command)). c.loop-id.list.items ++ with_answers rest (answers_from c.loop-id.store.map rest) ≡ with_answers c.args.requests.now (answers c.args.requests.now)) none c.loop-id.invariant
