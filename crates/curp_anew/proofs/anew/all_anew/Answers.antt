use Rattle.std.proofs.Common.{rules, ◌≡◌, ◌<◌, ◌+◌, ◌^◌, ltb, [], length, min, zip, get_or, refl, ap, subst, sym, ◌∙◌, arith}
use Rattle.std.proofs.lemmas.Bool.Decides.{nat_tests}
use Rattle.std.proofs.lemmas.Iterator.{YieldsList-from_zip}
use Rattle.std.proofs.lemmas.Iterator.Adapters.{YieldsList-from_vec}
use Rattle.std.proofs.lemmas.Iterator.Consumers.{YieldsList-at, YieldsList-end, YieldsList-turn}
use Rattle.std.proofs.lemmas.List.{length_push, take_all}
use Rattle.std.proofs.lemmas.Slice.Zip.{length-zip}
use Rattle.curp_base.specs.Words.{At}
use Rattle.curp_anew.specs.Opening.{HaveJournals, all_handed_out}
use Rattle.curp_anew.proofs.Handed.{handed_next, handed_whole}
use Rattle.curp_anew.proofs.Pairs.{pair_at}
use Rattle.curp_anew.proofs.Scans.{anew_next, none_so_far}
use Rattle.curp_anew.proofs.anew.all_anew.Goals as goal

pub loop-node-init : goal.loop-node-init
loop-node-init g c = record {
  place_is = refl;
  same = λ all. c.in_ok-logs.ensures.items ∙ sym (handed_whole c.args.there [] (omega arith));
  so_far = rw c.in_ok-logs.ensures.items (none_so_far c.args.kind c.args.there c.args.nodes.items);
}

pub overflow_cast-number : goal.overflow_cast-number
overflow_cast-number g c =
    let nodes = c.args.nodes.items in
    let taken = c.args.taken.items in
    let long : c.into_iter.result.rest.len ≡ length nodes = search rules in
    let long_too : c.zip-node-items.result.b.rest.len ≡ length taken = search rules in
    let road = YieldsList-at c.into_iter-node-iterator.ensures.into_iter_gives
    (YieldsList-from_zip (YieldsList-at c.zip-node-items.ensures.first (YieldsList-from_vec nodes c.into_iter.ensures.rest long))
    (YieldsList-from_vec taken c.zip-node-items.ensures.second.0 long_too)) in
    let turn = YieldsList-turn road c.loop-node.yielded c.loop-node.node-iterator c.loop-node.yielded_by c.next.result c.next.new.self (c.in-Some.node, c.in-Some.kept) c.in-Some.is c.next.ensures.steps in
    let here = pair_at nodes taken (length c.loop-node.yielded) c.in-Some.node c.in-Some.kept turn.0 turn.1 in
    omega (arith, here.0, c.loop-node.invariant.place_is, c.requires)

pub overflow_add-number : goal.overflow_add-number
overflow_add-number g c =
    let nodes = c.args.nodes.items in
    let taken = c.args.taken.items in
    let long : c.into_iter.result.rest.len ≡ length nodes = search rules in
    let long_too : c.zip-node-items.result.b.rest.len ≡ length taken = search rules in
    let road = YieldsList-at c.into_iter-node-iterator.ensures.into_iter_gives
    (YieldsList-from_zip (YieldsList-at c.zip-node-items.ensures.first (YieldsList-from_vec nodes c.into_iter.ensures.rest long))
    (YieldsList-from_vec taken c.zip-node-items.ensures.second.0 long_too)) in
    let turn = YieldsList-turn road c.loop-node.yielded c.loop-node.node-iterator c.loop-node.yielded_by c.next.result c.next.new.self (c.in-Some.node, c.in-Some.kept) c.in-Some.is c.next.ensures.steps in
    let here = pair_at nodes taken (length c.loop-node.yielded) c.in-Some.node c.in-Some.kept turn.0 turn.1 in
    omega (arith, here.0, c.loop-node.invariant.place_is, c.requires)

pub overflow_add-place : goal.overflow_add-place
overflow_add-place g c =
    let nodes = c.args.nodes.items in
    let taken = c.args.taken.items in
    let long : c.into_iter.result.rest.len ≡ length nodes = search rules in
    let long_too : c.zip-node-items.result.b.rest.len ≡ length taken = search rules in
    let road = YieldsList-at c.into_iter-node-iterator.ensures.into_iter_gives
    (YieldsList-from_zip (YieldsList-at c.zip-node-items.ensures.first (YieldsList-from_vec nodes c.into_iter.ensures.rest long))
    (YieldsList-from_vec taken c.zip-node-items.ensures.second.0 long_too)) in
    let turn = YieldsList-turn road c.loop-node.yielded c.loop-node.node-iterator c.loop-node.yielded_by c.next.result c.next.new.self (c.in-Some.node, c.in-Some.kept) c.in-Some.is c.next.ensures.steps in
    let here = pair_at nodes taken (length c.loop-node.yielded) c.in-Some.node c.in-Some.kept turn.0 turn.1 in
    omega (arith, here.0, c.loop-node.invariant.place_is, c.requires)

pub loop-node-preserved : goal.loop-node-preserved
loop-node-preserved g c =
    let nodes = c.args.nodes.items in
    let taken = c.args.taken.items in
    let long : c.into_iter.result.rest.len ≡ length nodes = search rules in
    let long_too : c.zip-node-items.result.b.rest.len ≡ length taken = search rules in
    let road = YieldsList-at c.into_iter-node-iterator.ensures.into_iter_gives
    (YieldsList-from_zip (YieldsList-at c.zip-node-items.ensures.first (YieldsList-from_vec nodes c.into_iter.ensures.rest long))
    (YieldsList-from_vec taken c.zip-node-items.ensures.second.0 long_too)) in
    let turn = YieldsList-turn road c.loop-node.yielded c.loop-node.node-iterator c.loop-node.yielded_by c.next.result c.next.new.self (c.in-Some.node, c.in-Some.kept) c.in-Some.is c.next.ensures.steps in
    let here = pair_at nodes taken (length c.loop-node.yielded) c.in-Some.node c.in-Some.kept turn.0 turn.1 in
    let place = c.loop-node.place in
    let node = c.in-Some.node in
    let kept = c.in-Some.kept in
    let so_far = c.loop-node.invariant in
    let at_node : At nodes place node = subst (λ n. At nodes n node) (sym so_far.place_is) here.1 in
    let at_kept : At taken place kept = subst (λ n. At taken n kept) (sym so_far.place_is) here.2 in
    record {
      place_is = omega (arith, length_push c.loop-node.yielded (node, kept), so_far.place_is);
      same = λ all.
          handed_next c.args.there place taken kept (ltb place c.args.there) c.loop-node.logs.items c.add_anew.new.logs.items
          at_kept (λ yes. grind (arith, nat_tests, yes)) (λ no. grind (arith, nat_tests, no)) (c.in_ok-add_anew.ensures.whole (all.each place node kept at_node at_kept)) (so_far.same all);
      so_far = anew_next c.args.kind c.args.there place nodes node (ltb place c.args.there) c.loop-node.logs.items c.add_anew.new.logs.items
          at_node (λ past. grind (arith, nat_tests, past)) (λ fresh. grind (arith, nat_tests, fresh)) (c.in_ok-add_anew.ensures.added c.if-not-branch.false) so_far.so_far;
    }

pub returns-then-not-branch-clause-same : goal.returns-then-not-branch-clause-same
returns-then-not-branch-clause-same g c = λ all.
    let nodes = c.args.nodes.items in
    let taken = c.args.taken.items in
    let long : c.into_iter.result.rest.len ≡ length nodes = search rules in
    let long_too : c.zip-node-items.result.b.rest.len ≡ length taken = search rules in
    let road = YieldsList-at c.into_iter-node-iterator.ensures.into_iter_gives
    (YieldsList-from_zip (YieldsList-at c.zip-node-items.ensures.first (YieldsList-from_vec nodes c.into_iter.ensures.rest long))
    (YieldsList-from_vec taken c.zip-node-items.ensures.second.0 long_too)) in
    let turn = YieldsList-turn road c.loop-node.yielded c.loop-node.node-iterator c.loop-node.yielded_by c.next.result c.next.new.self (c.in-Some.node, c.in-Some.kept) c.in-Some.is c.next.ensures.steps in
    let here = pair_at nodes taken (length c.loop-node.yielded) c.in-Some.node c.in-Some.kept turn.0 turn.1 in
    let place = c.loop-node.place in
    let same = sym c.loop-node.invariant.place_is in
    let at_node : At nodes place c.in-Some.node = subst (λ n. At nodes n c.in-Some.node) same here.1 in
    let at_kept : At taken place c.in-Some.kept = subst (λ n. At taken n c.in-Some.kept) same here.2 in
    cc (c.in_ok-add_anew.ensures.same (all.each place c.in-Some.node c.in-Some.kept at_node at_kept), c.if-not-branch.true)

pub returns-clause-anew : goal.returns-clause-anew
returns-clause-anew g c =
    let nodes = c.args.nodes.items in
    let taken = c.args.taken.items in
    let long : c.into_iter.result.rest.len ≡ length nodes = search rules in
    let long_too : c.zip-node-items.result.b.rest.len ≡ length taken = search rules in
    let road = YieldsList-at c.into_iter-node-iterator.ensures.into_iter_gives
    (YieldsList-from_zip (YieldsList-at c.zip-node-items.ensures.first (YieldsList-from_vec nodes c.into_iter.ensures.rest long))
    (YieldsList-from_vec taken c.zip-node-items.ensures.second.0 long_too)) in
    let end = YieldsList-end road c.loop-node.yielded c.loop-node.node-iterator c.loop-node.yielded_by c.next.result c.next.new.self c.in-None.is c.next.ensures.steps in
    let many : length c.loop-node.yielded ≡ length nodes = omega (arith, end.1, length-zip nodes taken, c.if-len.false) in
    let so_far = c.loop-node.invariant.so_far in
    record {
      each = so_far.each;
      rise = so_far.rise;
      whole = subst (λ n. HaveJournals (min n c.args.there) c.loop-node.logs.items) (c.loop-node.invariant.place_is ∙ many) so_far.whole;
    }

pub returns-clause-same : goal.returns-clause-same
returns-clause-same g c = λ all.
    let nodes = c.args.nodes.items in
    let taken = c.args.taken.items in
    let long : c.into_iter.result.rest.len ≡ length nodes = search rules in
    let long_too : c.zip-node-items.result.b.rest.len ≡ length taken = search rules in
    let road = YieldsList-at c.into_iter-node-iterator.ensures.into_iter_gives
    (YieldsList-from_zip (YieldsList-at c.zip-node-items.ensures.first (YieldsList-from_vec nodes c.into_iter.ensures.rest long))
    (YieldsList-from_vec taken c.zip-node-items.ensures.second.0 long_too)) in
    let end = YieldsList-end road c.loop-node.yielded c.loop-node.node-iterator c.loop-node.yielded_by c.next.result c.next.new.self c.in-None.is c.next.ensures.steps in
    let many : length c.loop-node.yielded ≡ length nodes = omega (arith, end.1, length-zip nodes taken, c.if-len.false) in
    let done = c.loop-node.invariant.same all in
    done ∙ ap (all_handed_out c.args.there) (take_all c.loop-node.place taken (omega (arith, all.many, c.loop-node.invariant.place_is, many)))
