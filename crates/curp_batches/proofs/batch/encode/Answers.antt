use Rattle.std.proofs.Common.{◌≡◌, ◌++◌, ◌∙◌, ap}
use Rattle.curp_batches.specs.Batches.{checksum_of}
use Rattle.curp_batches.proofs.Checksums.{checked}
use Rattle.curp_batches.proofs.batch.encode.Goals as goal

pub returns-clause-encoding : goal.returns-clause-encoding
returns-clause-encoding c =
    let content = c.in_ok-bytes.bytes.items in
    let sum = c.checksum_of-checksum.ensures ∙ ap checksum_of c.deref.ensures.value in
    checked c.args.batch.now content c.extend_from_slice.new.self.items c.in_ok-bytes.ensures.encoding (c.in_ok-extend_from_slice.ensures.items ∙ ap (λ l. content ++ l) sum)
