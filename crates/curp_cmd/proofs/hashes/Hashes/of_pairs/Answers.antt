use Rattle.std.proofs.Common.{◌<◌, length, length-set, ◌∙◌, arith}
use Rattle.curp_cmd.proofs.Hashed.{hashed_more}
use Rattle.curp_cmd.proofs.hashes.Hashes.of_pairs.Goals as goal

pub loop-at-preserved : goal.loop-at-preserved
loop-at-preserved c =
    let room : c.loop-at.at < length c.loop-at.held = omega arith in
    record {
      so_far = rw c.key_hash.ensures (hashed_more c.args.pairs.now c.loop-at.held c.loop-at.at c.index-pairs-at.result c.loop-at-test.true room c.loop-at.invariant.so_far);
      size = length-set c.loop-at.held c.loop-at.at c.key_hash.result ∙ c.loop-at.invariant.size;
    }
