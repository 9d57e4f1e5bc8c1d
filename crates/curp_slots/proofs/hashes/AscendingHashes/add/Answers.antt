use Rattle.std.proofs.Common.{◌≡◌, ◌<◌, ◌∙◌, Some, None, length, rules}
use Rattle.curp_slots.specs.Slots.{gap}
use Rattle.curp_slots.proofs.Gaps.{no_gap, put_in_gap, shifted}
use Rattle.curp_slots.proofs.hashes.AscendingHashes.add.Goals as goal

pub returns-in-Some-clause-items : goal.returns-in-Some-clause-items
returns-in-Some-clause-items c =
    let is : gap c.args.self.now c.args.hash ≡ Some c.in-Some.at = cc (c.gap.ensures.value, c.in-Some.is, c.as_slice.ensures) in
    let room : c.self.inside.len < length c.self.inside.held = search rules in
    rw c.copy_within.ensures.after
    (shifted c.self.inside.held c.self.inside.len c.in-Some.at c.args.hash (search rules) room ∙ rw c.self.view_is (put_in_gap c.args.self.now c.args.hash c.in-Some.at is))

pub returns-in_default-clause-items : goal.returns-in_default-clause-items
returns-in_default-clause-items c =
    let is : gap c.args.self.now c.args.hash ≡ None = cc (c.gap.ensures.value, c.in_default.is, c.as_slice.ensures) in
    no_gap c.args.self.now c.args.hash is
