use Rattle.std.proofs.Common.{◌∙◌, rules, arith}
use Rattle.curp_script.proofs.Hashes.{hash_of-decoded}
use Rattle.curp_script.proofs.read.words.hash_of.Goals as goal

pub returns : goal.returns
returns c =
    c.then_some.ensures
    ∙ rw c.from_be_bytes.ensures (hash_of-decoded c.args.text.now c.decode.new.buffer c.in_ok-len.len (omega arith) c.in_ok-len.ensures.within (search rules))
