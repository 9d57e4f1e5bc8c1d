use Rattle.std.proofs.Common.{◌≡◌, ◌+◌, ◌*◌, ◌/◌, ◌<◌, length, arith}
use Rattle.curp_items.specs.Encoding.{encoding}
use Rattle.curp_entries.proofs.Packs.{after_first, begins_first, first_at}
use Rattle.curp_entries.proofs.prefix.Prefix.from.Goals as goal

pub returns-in_err-encoded-clause-none : goal.returns-in_err-encoded-clause-none
returns-in_err-encoded-clause-none c =
    let k = 64 * (c.args.index / 64) + c.loop.counter in
    let within : k < length c.args.self.now = omega (arith, c.if-index-len.false, c.len.ensures.value, c.loop-test.true) in
    let f = first_at c.args.self.now k c.loop.rest.now c.from_run-rest.ensures.encoded within c.loop.invariant.rest in
    let no = c.in_err-encoded.ensures.only f.entry (length (encoding f.entry)) (begins_first c.args.self.now k c.loop.rest.now f) in
    absurd cc

pub loop-preserved : goal.loop-preserved
loop-preserved c =
    let k = 64 * (c.args.index / 64) + c.loop.counter in
    let within : k < length c.args.self.now = omega (arith, c.if-index-len.false, c.len.ensures.value, c.loop-test.true) in
    let f = first_at c.args.self.now k c.loop.rest.now c.from_run-rest.ensures.encoded within c.loop.invariant.rest in
    let read = c.in_ok-encoded.ensures.only f.entry (length (encoding f.entry)) (begins_first c.args.self.now k c.loop.rest.now f) in
    let long : c.in_ok-encoded.field-0 ≡ length (encoding f.entry) = cc in
    record {
      rest = after_first c.args.self.now k _ _ c.loop.rest.now c.past-rest.result.now f long c.past-rest.ensures (omega arith);
      upto = omega (arith, c.loop-test.true);
    }
