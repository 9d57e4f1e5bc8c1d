use Rattle.std.proofs.Common.{◌≡◌, ◌∙◌, ◌<◌, [], length, map, slice_index_or, subst, sym, ap, arith}
use Rattle.curp_base.specs.Words.{IsPrefix}
use lib.ListN.{length-map}
use Rattle.curp_ruled.specs.Rule.{AreDelivered, of}
use Rattle.curp_ruled.specs.Ends.{Posted}
use Rattle.crossbeam_channel.specs.Claims.{view}
use Rattle.curp_ruled.specs.declared.rule.Hand.{Hand}
use Rattle.curp_ruled.proofs.Keeps.{learns}
use Rattle.curp_ruled.proofs.closing.close.Goals as goal

pub learn_as-requires-clause-rule : goal.learn_as-requires-clause-rule
learn_as-requires-clause-rule c = learns _ _ (ap (λ (v : Hand). v.takes) c.leave_all.ensures.left ∙ c.take.invariant.2)

pub invariant_of-result : goal.invariant_of-result
invariant_of-result c = subst AreDelivered (sym c.learn_as.ensures.channel.2) c.learn_as.ensures.rule.1

pub returns-clause-prefix : goal.returns-clause-prefix
returns-clause-prefix c k lt =
    let posts = c.args.posts.items in
    let same : view c.learn_as.new.pass ≡ view c.leave_all.new.pass = c.learn_as.ensures.channel.2 in
    let left : (view c.leave_all.new.pass).left ≡ map (λ (p : Posted). p.sent) posts = ap (λ (h : Hand). h.left) c.leave_all.ensures.left in
    let long : k < length (view c.learn_as.new.pass).left = omega (arith, ap (λ (h : Hand). length h.left) same, ap length left, length-map posts (λ (p : Posted). p.sent), c.requires.count, lt) in
    (subst AreDelivered (sym same) c.learn_as.ensures.rule.1).0 k long
