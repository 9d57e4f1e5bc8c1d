use Rattle.std.proofs.Common.{◌≡◌, ◌-◌, List, length, map, subst, take, arith}
use Rattle.curp_order.specs.declared.Event.{Event}
use Rattle.curp_check.proofs.Encoded.{newest_forgotten}
use Rattle.curp_check.specs.Packed.{event_packed}
use Rattle.curp_check.proofs.events.PackedEvents.forget_newest.Goals as goal

pub returns : goal.returns
returns c =
    let bytes = c.self.inside.bytes.items in
    let packed = c.self.inside.packed.items in
    let count : c.saturating_sub-others.result ≡ length packed - 1 = omega (arith, c.saturating_sub-others.ensures, c.len.ensures) in
    subst (λ (events : List Event). map (event_packed bytes) c.truncate.new.self.items ≡ take (length events - 1) events) c.self.view_is
    (newest_forgotten bytes packed c.truncate.new.self.items c.saturating_sub-others.result count c.truncate.ensures.items)
