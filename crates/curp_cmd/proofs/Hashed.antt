-- The hash of one more pair's key.
use Rattle.std.proofs.Common.{◌≡◌, ℕ, ◌+◌, ◌<◌, List, length, take, set, get_or}
use Rattle.std.proofs.lemmas.List.{map-append, take_more, take_more_set}
use Rattle.curp_cmd.specs.Pairs.{Pair}
use Rattle.curp_cmd.specs.Hash.{hash_of, hashes_of}
use Rattle.curp_cmd.specs.declared.command.Command.TheVariants.{Multi}

pub hashed_more : (pairs : List Pair) (held : List ℕ) (at : ℕ) (d : Pair) → at < length pairs → at < length held → take at held ≡ hashes_of (Multi (take at pairs))
    → take (at + 1) (set held at (hash_of (get_or pairs at d).0)) ≡ hashes_of (Multi (take (at + 1) pairs))
hashed_more pairs held at d in_pairs in_held so_far =
    rw (take_more_set held at (hash_of (get_or pairs at d).0) in_held, take_more pairs at d in_pairs, so_far) (simp map-append)
