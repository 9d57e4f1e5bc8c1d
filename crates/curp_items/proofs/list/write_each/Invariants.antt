use Rattle.std.proofs.Common.{◌≡◌, ◌++◌, take}
use Rattle.std.specs.List.{flat_map}
use Rattle.curp_base.specs.Words.{Each}
use Rattle.curp_items.specs.Calls.{Written}
use Rattle.curp_items.proofs.list.write_each.Given as goal

-- the items so far are written
abbrev pub invariant-loop-item : goal.invariant-loop-item
invariant-loop-item g l = record {
  written : l.out ≡ record { prefix = l.fn.out.prefix; text = l.fn.out.text ++ flat_map g.T.Item.format.of (take l.item-index l.items) };
  fits : Each g.T.Item.format.Fits (take l.item-index l.items);
}
