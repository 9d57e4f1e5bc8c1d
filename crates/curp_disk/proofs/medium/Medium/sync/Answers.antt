use Rattle.std.proofs.Common.{◌≡◌, ◌++◌, ◌∷◌, [], length, ◌∙◌, sym, ap, arith}
use Rattle.curp_disk.specs.Calls.{seen_through}
use Rattle.curp_disk.specs.declared.medium.Call.TheVariants.{Sync}
use Rattle.curp_disk.proofs.Playing.{seen_more, synced_kept}
use Rattle.curp_disk.proofs.medium.Medium.sync.Goals as goal

pub invariant_of-self-2 : goal.invariant_of-self-2
invariant_of-self-2 c =
    let m = c.self.invariant in
    let first = c.self.inside.first.items in
    let calls = c.self.inside.calls.items in
    let more = c.push_reserved.ensures.items ∙ ap (λ l. l ++ Sync ∷ []) c.reserve.ensures.items in
    let whole : length c.as_slice.result.now ≡ length c.push_reserved.new.self.items = ap length c.as_slice.ensures.value in
    record {
      seen_is = m.seen_is ∙ sym (ap (seen_through first) more ∙ seen_more calls first Sync);
      kept_is = synced_kept first calls c.push_reserved.new.self.items (length c.as_slice.result.now) more whole;
      within = omega (arith, whole);
      room = m.room;
    }
