use Rattle.std.proofs.Common.{◌+◌, length, ap, refl, arith}
use Rattle.curp_disk.specs.Calls.{seen_after}
use Rattle.curp_disk.proofs.Playing.{made_more, prefix_shorter}
use Rattle.curp_disk.proofs.medium.make_again.Goals as goal

pub make_one-requires : goal.make_one-requires
make_one-requires c =
    let l = c.loop-call in
    let call = c.call-item.result in
    omega (
      arith,
      ap length (made_more c.args.calls.now c.args.first.now.items l.first.items (seen_after l.first.items call) l.call-index call c.loop-call-test.true c.call-item.is l.invariant.made refl),
      prefix_shorter (l.call-index + 1) c.args.calls.now c.args.first.now.items,
      c.requires.short,
      c.requires.room,
      l.invariant.capacity,
    )

pub loop-call-preserved : goal.loop-call-preserved
loop-call-preserved c =
    let l = c.loop-call in
    let call = c.call-item.result in
    record {
      made = made_more c.args.calls.now c.args.first.now.items l.first.items c.make_one.new.first.items l.call-index call c.loop-call-test.true c.call-item.is l.invariant.made c.make_one.ensures.items;
      capacity = omega (arith, l.invariant.capacity, c.make_one.ensures.capacity);
    }
