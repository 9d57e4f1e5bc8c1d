use Rattle.std.proofs.Common.{◌≡◌, ◌+◌, ◌∙◌, ◌++◌, List, length, cond, Some, ap, sym, arith}
use Rattle.curp_tail.specs.declared.tail.Moved.{Moved}
use Rattle.curp_tail.specs.declared.tail.TailEntry.{TailEntry}
use Rattle.curp_tail.specs.Tail.{touched_of}
use Rattle.curp_tail.specs.Kept.{last_with, moved_of, names, ranges_in}
use Rattle.curp_tail.proofs.Kept.{last_push, one_longer, ranges_push}
use Rattle.curp_tail.proofs.Tails.{added_more}
use Rattle.curp_tail.proofs.tail.keep_all.Goals as goal

abbrev added_of : goal.After-keep → TailEntry
added_of c = record { index = c.args.index + c.loop-at.at; touched = touched_of c.index-entries-at.result }

pub loop-at-preserved : goal.loop-at-preserved
loop-at-preserved c =
    let e = added_of c in
    let more : length c.keep.new.kept.items ≡ length c.loop-at.kept.items + 1 = ap (λ (es : List TailEntry). length es) c.keep.ensures.items ∙ one_longer c.loop-at.kept.items e in
    record {
      added =
          c.keep.ensures.items
          ∙ added_more c.args.kept.now.items c.loop-at.kept.items c.args.index c.args.entries.now c.loop-at.at c.index-entries-at.result c.loop-at-test.true c.index-entries-at.is c.loop-at.invariant.added;
      lasts = λ hash.
          c.keep.ensures.lasts hash
          ∙ ap (cond (names hash e.touched) (Some e.index)) (c.loop-at.invariant.lasts hash)
          ∙ sym (last_push hash c.loop-at.kept.items e)
          ∙ ap (λ (es : List TailEntry). last_with hash es) (sym c.keep.ensures.items);
      ranges_are =
          c.keep.ensures.ranges
          ∙ ap (λ (ms : List Moved). ms ++ moved_of e.index e.touched) c.loop-at.invariant.ranges_are
          ∙ sym (ranges_push c.loop-at.kept.items e)
          ∙ ap (λ (es : List TailEntry). ranges_in es) (sym c.keep.ensures.items);
      kept_room = omega (arith, more, c.keep.ensures.kept_capacity, c.loop-at.invariant.kept_room);
      ranges_room = omega (arith, c.keep.ensures.ranges_spare, c.loop-at.invariant.ranges_room);
      lasts_room = omega (arith, c.keep.ensures.lasts_spare, c.loop-at.invariant.lasts_room);
      kept_capacity = c.keep.ensures.kept_capacity ∙ c.loop-at.invariant.kept_capacity;
      ranges_spare = omega (arith, c.keep.ensures.ranges_spare, c.loop-at.invariant.ranges_spare);
      lasts_spare = omega (arith, c.keep.ensures.lasts_spare, c.loop-at.invariant.lasts_spare);
    }
