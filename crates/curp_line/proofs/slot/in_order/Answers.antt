use Rattle.std.proofs.Common.{◌≡◌, ℕ, ◌≤◌, List, [], ◌++◌, length, map, drop, ap, sym, ◌∙◌, rules}
use Rattle.std.proofs.lemmas.List.{append-nil, drop_all}
use Rattle.std.proofs.lemmas.List.Sorted.{IsNonDecreasingBy-from_sort_by_key, answers_always}
use Rattle.curp_cmd.specs.declared.command.Command.{Command}
use Rattle.curp_cmd.specs.declared.command.Command.TheVariants.{Get}
use Rattle.curp_cmd.specs.declared.command.RequestId.{RequestId}
use Rattle.curp_line.specs.Slots.{asked}
use Rattle.curp_line.specs.declared.slot.ShownMark.{ShownMark}
use Rattle.curp_line.proofs.Runs.{bounded_after, runs_of_sorted, runs_same, stable_run}
use Rattle.curp_line.proofs.slot.in_order.Goals as goal

told_all : (order : List (RequestId × Command)) (marks : List ShownMark) (n : ℕ) → length marks ≤ n → order ++ map asked (drop n marks) ≡ map asked marks → order ≡ map asked marks
told_all order marks n l h = sym (append-nil order) ∙ sym (ap (λ ms. order ++ map asked ms) (drop_all n marks l)) ∙ h

-- one that stands behind so many adoptions
behind : ℕ → ShownMark
behind k = record { cuts_before = k; id = record { client = 0; seq = 0 }; command = Get [] }

pub returns : goal.returns
unfolding behind
returns c = λ cuts within.
    let key = λ (s : ShownMark). s.cuts_before in
    let xs = c.args.shown.items in
    let ys = c.sort_by_key.new.self.items in
    let told : c.loop-mark.order.items ≡ map asked ys = told_all c.loop-mark.order.items c.deref-mark-items.result.now c.loop-mark.mark-index c.loop-mark-test.false c.loop-mark.invariant ∙ ap (map asked) c.deref-mark-items.ensures.value in
    let up = IsNonDecreasingBy-from_sort_by_key key ys c.in_ok-sort_by_key.ensures.sorted (λ a r f called. search rules) in
    let stable = c.sort_by_key.ensures.stable key (answers_always _ _ _ (λ f a r f' called. search rules)) in
    told ∙ ap (map asked)
    (sym (runs_of_sorted key 0 cuts ys up (bounded_after key cuts xs ys c.sort_by_key.ensures.permutation within))
    ∙ runs_same key 0 cuts xs ys (λ k. stable_run key xs ys (behind k) stable))
