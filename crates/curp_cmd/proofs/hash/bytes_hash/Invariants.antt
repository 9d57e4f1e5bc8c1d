use Rattle.std.proofs.Common.{◌≡◌, drop}
use Rattle.curp_cmd.specs.Hash.{hash_of, hashed_from}
use Rattle.curp_cmd.proofs.hash.bytes_hash.Given as goal

-- the bytes that are left make it the hash of all
abbrev pub invariant-loop-byte : goal.invariant-loop-byte
invariant-loop-byte l = hashed_from l.hash (drop l.byte-index l.bytes) ≡ hash_of l.bytes
