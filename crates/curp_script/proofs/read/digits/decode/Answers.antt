use Rattle.std.proofs.Common.{rules, arith, length, slice_index, refl}
use Rattle.curp_script.specs.Digits.{byte_of, bytes_of}
use Rattle.curp_script.proofs.Twos.{full, keeps}
use Rattle.curp_script.proofs.read.digits.decode.Goals as goal

pub returns-then-len-buffer-clause-bytes : goal.returns-then-len-buffer-clause-bytes
returns-then-len-buffer-clause-bytes c =
    let digits = c.pairs.digits.now in
    full byte_of (bytes_of c.args.text.now) digits (slice_index digits 0) (slice_index digits 1) 0 0 c.pairs.buffer c.pairs.len (length c.args.buffer.now)
    c.pairs.invariant.left c.in-len2-up.len_at_least refl refl (omega arith) c.pairs.invariant.size

pub pairs-preserved : goal.pairs-preserved
pairs-preserved c = record {
  within = search rules;
  size = search rules;
  left =
      let digits = c.pairs.digits.now in
      keeps byte_of (bytes_of c.args.text.now) digits (slice_index digits 0) (slice_index digits 1) 0 0 c.pairs.buffer c.pairs.len c.in_ok-buffer.field-0
      c.pairs.invariant.left c.in-len2-up.len_at_least refl refl (search rules) (omega arith);
}
