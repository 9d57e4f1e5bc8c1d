use Rattle.std.proofs.Common.{◌≡◌, ◌-◌, ◌++◌, ◌∙◌, List, drop, length, ap, sym, arith}
use Rattle.std.proofs.Math.Seq.{drop-append_seam}
use Rattle.std.proofs.lemmas.List.{length-drop}
use Rattle.curp_cmd.specs.declared.entry.Entry.{Entry}
use Rattle.curp_entries.specs.EntryList.{EntryList}
use Rattle.curp_entries.proofs.entries.PackedEntries.reserve.Goals as goal

pub returns-clause-no_more : goal.returns-clause-no_more
returns-clause-no_more c =
    let tail = c.self.inside.tail.items in
    let old = c.args.self.now in
    -- what isn't packed after packing wasn't before
    let packed : length c.self.inside.prefix ≡ c.pack.new.self.packed = ap (λ (l : EntryList). l.packed) c.self.view_is in
    let entries : c.self.inside.prefix ++ tail ≡ old.entries = ap (λ (l : EntryList). l.entries) c.self.view_is ∙ c.pack.ensures.entries in
    let left : tail ≡ drop (length c.self.inside.prefix) old.entries =
    sym (drop-append_seam c.self.inside.prefix tail) ∙ ap (drop (length c.self.inside.prefix)) entries in
    let few : length tail ≡ length old.entries - length c.self.inside.prefix = ap length left ∙ length-drop (length c.self.inside.prefix) old.entries in
    let unpacked : length (drop old.packed old.entries) ≡ length old.entries - old.packed = length-drop old.packed old.entries in
    let spare = ap (λ (l : EntryList). l.spare) c.self.view_is in
    let same : length (c.self.inside.prefix ++ c.make_room.new.items.items) ≡ length (c.self.inside.prefix ++ tail) =
    ap (λ (l : List Entry). length (c.self.inside.prefix ++ l)) c.make_room.ensures.items in
    let long : length c.make_room.new.items.items ≡ length tail = ap length c.make_room.ensures.items in
    omega (arith, packed, few, unpacked, spare, same, long, c.pack.ensures.packed, c.pack.ensures.no_more, c.make_room.ensures.no_more)
