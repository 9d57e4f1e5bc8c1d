use Rattle.std.proofs.Common.{◌∙◌, nat_eq}
use Rattle.std.specs.HashMap.{get}
use Rattle.curp_tail.proofs.Kept.{forgotten_more}
use Rattle.curp_tail.proofs.tail.forget_all.Goals as goal

pub loop-hash-preserved : goal.loop-hash-preserved
loop-hash-preserved c =
    λ hash. c.forget_one.ensures hash ∙ forgotten_more c.args.hashes.now c.loop-hash.hash-index hash c.args.index (get nat_eq c.loop-hash.lasts hash) (get nat_eq c.args.lasts.now hash) 0 c.loop-hash-test.true (c.loop-hash.invariant hash)
