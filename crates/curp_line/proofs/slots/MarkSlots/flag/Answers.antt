use Rattle.std.proofs.Common.{◌≡◌, length, map, take, drop, ◌++◌, ap, ◌∙◌, arith}
use Rattle.std.proofs.lemmas.List.{length-map}
use Rattle.curp_line.specs.Slots.{flagged_slot}
use Rattle.curp_line.proofs.Kept.{flags_keep_links, written}
use Rattle.curp_line.proofs.Links.{linked_map}
use Rattle.curp_line.proofs.slots.MarkSlots.flag.Goals as goal

flagged_in_place : (c : goal.After-self-1) → take c.self.inside.list.len (c.flag_marks.new.slots ++ drop (length c.flag_marks.new.slots) c.self.inside.list.items) ≡ map (flagged_slot c.args.completed.now) c.self.inside.list.items
flagged_in_place c =
    let new : c.flag_marks.new.slots ≡ map (flagged_slot c.args.completed.now) c.self.inside.list.items = c.flag_marks.ensures ∙ ap (map (flagged_slot c.args.completed.now)) c.deref_mut.ensures.value in
    let long : length c.flag_marks.new.slots ≡ length c.self.inside.list.items = ap length new ∙ length-map c.self.inside.list.items (flagged_slot c.args.completed.now) in
    written c.self.inside.list.len c.flag_marks.new.slots c.self.inside.list.items (omega (arith, long, c.deref_mut.ensures.len, ap length c.deref_mut.ensures.value)) ∙ new

pub invariant_of-self : goal.invariant_of-self
invariant_of-self c = rw (flagged_in_place c) (linked_map _ _ (flagged_slot c.args.completed.now) (flags_keep_links c.args.completed.now) c.self.inside.list.items c.self.invariant)

pub returns-clause-slots : goal.returns-clause-slots
returns-clause-slots c = flagged_in_place c ∙ ap (λ l. map (flagged_slot c.args.completed.now) l.slots) c.self.view_is
