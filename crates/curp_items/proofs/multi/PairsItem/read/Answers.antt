use Rattle.std.proofs.Common.{◌+◌, ◌∙◌, arith}
use Rattle.std.proofs.lemmas.List.{length-set}
use Rattle.std.proofs.lemmas.Grind.{take-set_at}
use Rattle.curp_items.specs.Format.{◌▸◌}
use Rattle.curp_items.specs.Items.{key_beside, value}
use Rattle.curp_items.proofs.Distinct.{distinct-push}
use Rattle.curp_items.proofs.More.{more_read}
use Rattle.curp_items.proofs.multi.PairsItem.read.Goals as goal

pub loop-at-preserved : goal.loop-at-preserved
loop-at-preserved c =
    let held = c.loop-at.invariant in
    let pair = c.in_ok-pairs.field-0 in
    let prefix = take-set_at c.loop-at.pairs c.loop-at.at (c.loop-at.at + 1) pair (omega arith) (omega (arith, held.room, c.in_ok-count.ensures.most)) in
    record {
      read = rw prefix (more_read (λ before. key_beside before ▸ value) _ c.in_ok-count.count c.loop-at.at c.loop-at.reader _ held.read pair c.pair_beside-in-loop-at.new.reader c.loop-at-test.true c.in_ok-pairs.ensures.reads);
      room = length-set c.loop-at.pairs c.loop-at.at pair ∙ held.room;
      distinct = rw prefix (distinct-push _ pair held.distinct c.in_ok-pairs.ensures.beside);
    }
