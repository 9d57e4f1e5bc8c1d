use Rattle.std.proofs.Common.{◌≡◌, ◌+◌, ◌∷◌, length, ap, arith}
use Rattle.std.specs.Vec.Iter.{into_iter_items}
use Rattle.curp_master_log.proofs.Suspected.{room_for_one, spare_for_one, treats_more}
use Rattle.curp_master_log.proofs.suspects.treat_each.Goals as goal

pub treat-requires : goal.treat-requires
treat-requires c =
    let at = c.loop-suspect in
    let x = c.in-Some.suspect in
    let first : into_iter_items at.suspect-iterator ≡ x ∷ into_iter_items c.next.new.self = c.in-Some.ensures.steps.0 in
    let rest = into_iter_items at.suspect-iterator in
    let more = into_iter_items c.next.new.self in
    record {
      room = room_for_one c.args.master_log.now at.master_log c.args.queue.now.waiting at.queue c.args.suspects.items rest more x at.invariant.treats first;
      spare = spare_for_one c.args.master_log.now at.master_log c.args.queue.now.waiting at.queue c.args.suspects.items rest more x at.invariant.treats first;
    }

pub loop-suspect-preserved : goal.loop-suspect-preserved
loop-suspect-preserved c =
    let at = c.loop-suspect in
    let x = c.in-Some.suspect in
    let first : into_iter_items at.suspect-iterator ≡ x ∷ into_iter_items c.next.new.self = c.in-Some.ensures.steps.0 in
    record {
      treats =
          treats_more c.args.master_log.now at.master_log c.args.queue.now.waiting at.queue c.args.suspects.items (into_iter_items at.suspect-iterator) (into_iter_items c.next.new.self) x
          at.invariant.treats first c.treat.new.master_log c.treat.new.queue c.treat.ensures.treated c.treat.ensures.spare;
      left = let was = at.invariant.left in let gone = c.in-Some.ensures.steps.1 in let short = ap length first in omega arith;
    }
