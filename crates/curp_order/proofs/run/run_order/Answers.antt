use Rattle.std.proofs.Common.{◌≡◌, ◌+◌, List, ◌∷◌, ◌++◌, drop, refl, sym, ap, subst, ◌∙◌, append-nil, arith}
use Rattle.std.proofs.lemmas.List.{drop_more, drop_all}
use Rattle.curp_cmd.specs.declared.command.Command.{Command}
use Rattle.curp_cmd.specs.declared.command.RequestId.{RequestId}
use Rattle.curp_order.specs.Order.{answers, answers_from}
use Rattle.curp_order.proofs.Laws.{answers_step}
use Rattle.curp_order.proofs.run.run_order.Goals as goal

pub loop-command-init : goal.loop-command-init
loop-command-init c = rw (c.new-given.ensures.items, c.new-store.ensures) refl

-- the next request is the first of the rest
pub loop-command-preserved : goal.loop-command-preserved
loop-command-preserved c =
    let xs = c.args.requests.now in
    let i = c.loop-command.command-index in
    let item = c.loop-command-item.result in
    let next : drop i xs ≡ item ∷ drop (i + 1) xs = drop_more xs i item (omega arith) ∙ ap (λ (x : RequestId × Command). x ∷ drop (i + 1) xs) (sym c.loop-command-item.is) in
    let due : c.loop-command.given.items ++ answers_from c.loop-command.store.map (item ∷ drop (i + 1) xs) ≡ answers xs =
    subst (λ (rest : List (RequestId × Command)). c.loop-command.given.items ++ answers_from c.loop-command.store.map rest ≡ answers xs) next c.loop-command.invariant in
    rw (c.in_ok-push.ensures.items, c.apply.ensures.answer, c.apply.ensures.after, c.in_ok-reserve.ensures.map) (answers_step _ _ _ item _ due)

-- nothing is left
pub returns : goal.returns
returns c =
    let none = drop_all c.loop-command.command-index c.args.requests.now (omega arith) in
    sym (append-nil _) ∙ subst (λ (rest : List (RequestId × Command)). c.loop-command.given.items ++ answers_from c.loop-command.store.map rest ≡ answers c.args.requests.now) none c.loop-command.invariant
