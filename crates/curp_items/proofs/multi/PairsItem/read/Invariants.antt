use Rattle.std.proofs.Common.{◌≡◌, ◌-◌, false, length, take}
use Rattle.curp_cmd.specs.Pairs.{names_twice}
use Rattle.curp_items.specs.Format.{read_more, ◌▸◌}
use Rattle.curp_items.specs.Items.{key_beside, multi_pairs, value}
use Rattle.curp_items.proofs.multi.PairsItem.read.Given as goal

-- what is left gives what reading all gives, and no key so far stands twice
abbrev pub invariant-loop-at : goal.invariant-loop-at
invariant-loop-at l = record {
  read : read_more (λ before. key_beside before ▸ value) (take l.at l.pairs) (l.count - l.at) l.reader ≡ multi_pairs.read l.fn.reader;
  room : length l.pairs ≡ 4;
  distinct : names_twice (take l.at l.pairs) ≡ false;
}
