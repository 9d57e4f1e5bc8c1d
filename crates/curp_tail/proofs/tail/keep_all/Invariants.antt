use Rattle.std.proofs.Common.{◌≡◌, ◌+◌, ◌-◌, ◌*◌, ◌≤◌, ◌++◌, length, take, nat_eq}
use Rattle.std.specs.HashMap.{get, spare}
use Rattle.std.specs.VecDeque.{deque_capacity}
use Rattle.curp_tail.specs.Tail.{tail_from}
use Rattle.curp_tail.specs.Kept.{LastsAre, ranges_in}
use Rattle.curp_tail.proofs.tail.keep_all.Given as goal

-- the entries so far are kept, and there is room for the others
abbrev pub invariant-loop-at : goal.invariant-loop-at
invariant-loop-at l = record {
  added : l.kept.items ≡ l.initial.kept.items ++ tail_from l.index (take l.at l.entries);
  lasts : LastsAre (get nat_eq l.lasts) l.kept.items;
  ranges_are : l.ranges.items ≡ ranges_in l.kept.items;
  kept_room : length l.kept.items + (length l.entries - l.at) ≤ deque_capacity l.kept;
  ranges_room : length l.entries - l.at ≤ l.ranges.spare;
  lasts_room : 4 * (length l.entries - l.at) ≤ spare l.lasts;
  kept_capacity : deque_capacity l.kept ≡ deque_capacity l.initial.kept;
  ranges_spare : l.initial.ranges.spare ≤ l.ranges.spare + l.at;
  lasts_spare : spare l.initial.lasts ≤ spare l.lasts + 4 * l.at;
}
