use Rattle.std.proofs.Common.{◌≡◌, ◌∙◌, ℕ, nat_le, nat_lt, not, rules, tests, arith}
use Rattle.std.specs.List.{filter}
use Rattle.std.proofs.lemmas.Bool.Decides.{nat_tests}
use Rattle.std.proofs.lemmas.Fn.{filter_same}
use Rattle.std.proofs.lemmas.List.Elements.{filter_agree}
use Rattle.curp_cmd.specs.declared.command.RequestId.{RequestId}
use Rattle.curp_tail.proofs.Waits.{all_that_stay, left_is, queue_left, remains_of, stays}
use Rattle.curp_tail.proofs.queue.Queue.leave.Goals as goal

later : (m n : ℕ) → nat_lt n m ≡ not (nat_le m n)
later m n = grind (arith, nat_tests)

order_is : (c : goal.After-retain-2) → c.retain.new.self.items ≡ filter (remains_of c.self.inside.waits.items c.args.synced) c.self.inside.order.items
order_is c = filter_same _ (remains_of c.self.inside.waits.items c.args.synced) _ (λ x b f' k. search (rules, tests)) _ _ c.retain.ensures.filtered

waits_are : (c : goal.After-retain-2) → c.retain-2.new.self.items ≡ all_that_stay c.args.synced c.self.inside.waits.items
waits_are c =
    filter_same _ (λ (w : RequestId × ℕ). nat_lt c.args.synced w.1) _ (λ x b f' k. search (rules, tests)) _ _ c.retain-2.ensures.filtered
    ∙ filter_agree (λ (w : RequestId × ℕ). nat_lt c.args.synced w.1) (λ (w : RequestId × ℕ). stays c.args.synced w.1) (λ w. later w.1 c.args.synced) c.self.inside.waits.items

pub invariant_of-self : goal.invariant_of-self
invariant_of-self c = rw (order_is c, waits_are c) (queue_left c.self.inside.order.items c.self.inside.waits.items c.self.invariant c.args.synced)

pub returns-clause-waiting : goal.returns-clause-waiting
returns-clause-waiting c = rw (← c.self.view_is, order_is c, waits_are c) (left_is c.self.inside.order.items c.self.inside.waits.items c.self.invariant c.args.synced)
