use Rattle.std.proofs.Common.{◌≡◌, ◌+◌, List, ◌∷◌, ◌++◌, drop, refl, sym, subst, ◌∙◌, append-nil, arith}
use Rattle.std.proofs.lemmas.List.{drop_all}
use Rattle.curp_base.proofs.Lists.{drop_at}
use Rattle.curp_order.proofs.Laws.{answers_step}
use Rattle.curp_order.specs.Order.{Asked, answers, answers_from}
use Rattle.curp_check.proofs.order.answers_in.Goals as goal

pub loop-at-init : goal.loop-at-init
loop-at-init c = rw (c.new-given.ensures.items, c.new-store.ensures) refl

-- the next request is the first of the rest
pub loop-at-preserved : goal.loop-at-preserved
loop-at-preserved c =
    let xs = c.args.order.now in
    let i = c.loop-at.at in
    let x = c.asked-command.result in
    let due : c.loop-at.given.items ++ answers_from c.loop-at.store.map (x ∷ drop (i + 1) xs) ≡ answers xs =
    subst (λ (rest : List Asked). c.loop-at.given.items ++ answers_from c.loop-at.store.map rest ≡ answers xs) (drop_at xs i x c.asked-command.ensures) c.loop-at.invariant in
    rw (c.in_ok-extend_from_slice.ensures.items, c.apply.ensures.answer, c.apply.ensures.after, c.in_ok-reserve.ensures.map) (answers_step _ _ _ x _ due)

-- nothing is left
pub returns : goal.returns
returns c =
    let none = drop_all c.loop-at.at c.args.order.now (omega (arith, c.loop-at-test.false, c.len-at-end.ensures)) in
    sym (append-nil _) ∙ subst (λ (rest : List Asked). c.loop-at.given.items ++ answers_from c.loop-at.store.map rest ≡ answers c.args.order.now) none c.loop-at.invariant
