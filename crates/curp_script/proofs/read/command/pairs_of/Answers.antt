use Rattle.std.proofs.Common.{rules, arith, length}
use Rattle.curp_script.specs.Digits.{by_twos}
use Rattle.curp_script.specs.Values.{value_pair}
use Rattle.curp_script.proofs.Twos.{before_all, full, keeps}
use Rattle.curp_script.proofs.read.command.pairs_of.Goals as goal

pub pairs-init : goal.pairs-init
pairs-init c = record { within = search rules; size = search rules; left = before_all _ }

pub returns-then-count-buffer-clause-pairs : goal.returns-then-count-buffer-clause-pairs
returns-then-count-buffer-clause-pairs c =
    full value_pair (by_twos value_pair c.args.parts.now) c.pairs.rest.now c.key-item.result c.value-item.result c.key-item.result c.value-item.result
    c.pairs.buffer c.pairs.count (length c.args.buffer.now) c.pairs.invariant.left c.in-len2-up.len_at_least c.key-item.is c.value-item.is
    (omega arith) c.pairs.invariant.size

pub pairs-preserved : goal.pairs-preserved
pairs-preserved c = record {
  within = search rules;
  size = search rules;
  left =
      keeps value_pair (by_twos value_pair c.args.parts.now) c.pairs.rest.now c.key-item.result c.value-item.result c.key-item.result c.value-item.result
      c.pairs.buffer c.pairs.count c.in_ok-buffer.field-0 c.pairs.invariant.left c.in-len2-up.len_at_least c.key-item.is c.value-item.is
      (search rules) (omega arith);
}
