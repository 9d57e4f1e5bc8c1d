use Rattle.std.proofs.Common.{◌≡◌, ◌-◌}
use Rattle.curp_items.specs.Format.{list_of, read_more}
use Rattle.curp_items.specs.Items.{u32}
use Rattle.curp_fields.proofs.part.read_parts.Given as goal

-- reading what is left gives what reading all gives
abbrev pub invariant-loop : goal.invariant-loop
invariant-loop g l =
    let format = g.T.Part.format in
    read_more (λ before. format) l.parts.items (l.count - l.counter) l.reader ≡ (list_of u32 format).read l.fn.reader
