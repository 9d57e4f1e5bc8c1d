use Rattle.curp_check.proofs.Encoded.{completion_packed, invocation_packed}
use Rattle.curp_check.proofs.events.pack_event.Goals as goal

pub returns-in_ok-pack-in-Invoke-clause-ok : goal.returns-in_ok-pack-in-Invoke-clause-ok
returns-in_ok-pack-in-Invoke-clause-ok c =
    let packed = c.in_ok-pack-in-Invoke in
    rw c.in-Invoke.is (invocation_packed c.args.bytes.now.items c.pack.new.bytes.items packed.field-0 c.in-Invoke.id c.in-Invoke.command packed.ensures.place packed.ensures.ok packed.ensures.fits)

pub returns-in_ok-pack-in-Complete-clause-ok : goal.returns-in_ok-pack-in-Complete-clause-ok
returns-in_ok-pack-in-Complete-clause-ok c =
    let packed = c.in_ok-pack-in-Complete in
    rw c.in-Complete.is (completion_packed c.args.bytes.now.items c.pack-in-Complete.new.bytes.items packed.field-0 c.in-Complete.id c.in-Complete.answer packed.ensures.place packed.ensures.ok packed.ensures.fits)
