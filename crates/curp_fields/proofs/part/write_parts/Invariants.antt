use Rattle.std.proofs.Common.{◌≡◌, ◌++◌, length, take}
use Rattle.std.specs.List.{flat_map}
use Rattle.curp_base.specs.Words.{Each}
use Rattle.curp_items.specs.Items.{u32}
use Rattle.curp_fields.proofs.part.write_parts.Given as goal

-- the count and the parts so far are written
abbrev pub invariant-loop-part : goal.invariant-loop-part
invariant-loop-part g l = record {
  written : l.out ≡ record { prefix = l.fn.out.prefix; text = l.fn.out.text ++ (u32.of (length l.parts) ++ flat_map g.T.Part.format.of (take l.part-index l.parts)) };
  counted : u32.Fits (length l.parts);
  fits : Each g.T.Part.format.Fits (take l.part-index l.parts);
}
