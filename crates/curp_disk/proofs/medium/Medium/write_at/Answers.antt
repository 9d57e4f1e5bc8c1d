use Rattle.std.proofs.Common.{◌≡◌, ◌≤◌, ◌++◌, ◌∷◌, [], length, take, ◌∙◌, sym, ap, arith, length-append}
use Rattle.curp_disk.specs.Disk.{over}
use Rattle.curp_disk.specs.Calls.{seen_through, kept_through, seen_of}
use Rattle.curp_disk.specs.declared.medium.Call.TheVariants.{Write}
use Rattle.curp_disk.proofs.Playing.{written_seen, written_kept, not_much}
use Rattle.curp_disk.proofs.medium.Medium.write_at.Goals as goal

pub invariant_of-self-2 : goal.invariant_of-self-2
invariant_of-self-2 c =
    let m = c.self.invariant in
    let first = c.self.inside.first.items in
    let calls = c.self.inside.calls.items in
    let seen = c.self.inside.seen.items in
    let at = c.args.at in
    let bytes = c.args.bytes.now in
    let copy = c.new-copy.result in
    let same : copy ≡ bytes = c.new-copy.ensures ∙ c.in_ok-from_slice.ensures.items in
    let le : at ≤ length seen = omega (arith, c.requires, ap (λ p. length (seen_of p)) c.self.view_is, ap length m.seen_is) in
    let more : c.push_reserved.new.self.items ≡ calls ++ Write at copy ∷ [] = c.push_reserved.ensures.items ∙ ap (λ l. l ++ Write at copy ∷ []) c.reserve.ensures.items in
    let now : c.write_over.new.to.items ≡ over seen at bytes = c.write_over.ensures.items ∙ ap (λ l. over l at bytes) c.make_room.ensures.seen in
    let first_same : c.make_room.new.first.items ≡ first = c.make_room.ensures.first in
    let synced = c.self.inside.synced in
    record {
      seen_is = written_seen first seen c.write_over.new.to.items calls c.push_reserved.new.self.items at bytes copy le same m.seen_is more now
          ∙ ap (λ f. seen_through f c.push_reserved.new.self.items) (sym first_same);
      kept_is = ap (λ f. kept_through f f c.push_reserved.new.self.items) first_same
          ∙ written_kept first calls c.push_reserved.new.self.items at synced copy m.within m.kept_is more
          ∙ ap (λ f. seen_through f (take synced c.push_reserved.new.self.items)) (sym first_same);
      within = omega (arith, m.within, ap length more, length-append calls (Write at copy ∷ []));
      room = omega (arith, ap length now, not_much seen at bytes le, c.in_ok-make_room.ensures.first_room);
    }
