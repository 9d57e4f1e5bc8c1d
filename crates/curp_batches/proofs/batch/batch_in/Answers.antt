use Rattle.std.proofs.Common.{◌≡◌, ◌+◌, ◌-◌, ◌<◌, length, arith}
use Rattle.curp_batches.proofs.Checksums.{checked_so, too_short, unchecked_so}
use Rattle.curp_batches.proofs.batch.batch_in.Goals as goal

pub returns-then-bytes-lt-CHECKSUM_LENGTH : goal.returns-then-bytes-lt-CHECKSUM_LENGTH
returns-then-bytes-lt-CHECKSUM_LENGTH c = too_short c.args.bytes.now c.if-bytes-lt-CHECKSUM_LENGTH.true

pub returns-then-is_checksum_of : goal.returns-then-is_checksum_of
returns-then-is_checksum_of c =
    let bytes = c.args.bytes.now in
    let n = length bytes - 8 in
    checked_so (λ batch. batch.items) bytes n c.arrivals_in.result (omega (arith, c.if-bytes-lt-CHECKSUM_LENGTH.false)) (c.is_checksum_of.ensures.yes c.if-is_checksum_of.true) c.arrivals_in.ensures

pub returns-else-is_checksum_of : goal.returns-else-is_checksum_of
returns-else-is_checksum_of c =
    let bytes = c.args.bytes.now in
    let n = length bytes - 8 in
    unchecked_so bytes n (omega (arith, c.if-bytes-lt-CHECKSUM_LENGTH.false)) (c.is_checksum_of.ensures.no c.if-is_checksum_of.false)
