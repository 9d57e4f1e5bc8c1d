-- The hashes of keys, and which commands have one in common (CURP's commutativity; by hashes, this project's own).
use Rattle.std.specs.Prelude.{ℕ, ◌*◌, ◌%◌, ◌^◌, ◌==◌, Bool, bit_xor, List, [], ◌∷◌, map, fold}
use Rattle.std.specs.BTreeSet.{insert_key}
use Rattle.std.specs.List.{list_any}
use Rattle.std.specs.Ordering.{nat_cmp}
use Rattle.curp_cmd.specs.Store.{keys_of}
use Rattle.curp_cmd.specs.declared.command.Command.{Command}

-- where FNV-1a begins, with 64 bits
abbrev pub offset_basis : ℕ
offset_basis = 14695981039346656037

-- what FNV-1a multiplies by, with 64 bits
abbrev pub prime : ℕ
prime = 1099511628211

-- the hash behind the bytes, where it is h in front of them
abbrev pub hashed_from : ℕ → List ℕ → ℕ
hashed_from h [] = h
hashed_from h (byte ∷ bytes) = hashed_from ((bit_xor h byte * prime) % 2 ^ 64) bytes

-- FNV-1a with 64 bits
unfoldable pub hash_of : List ℕ → ℕ
hash_of bytes = hashed_from offset_basis bytes

-- the hashes of the keys that a command names
abbrev pub hashes_of : Command → List ℕ
hashes_of command = map hash_of (keys_of command)

-- a key of the command has this hash
abbrev pub touches : Command → ℕ → Bool
touches command h = list_any (λ x. x == h) (hashes_of command)

-- a hash of the one is a hash of the other
abbrev pub conflicts : Command → Command → Bool
conflicts a b = list_any (touches b) (hashes_of a)

-- numbers in ascending order, each once
abbrev pub ascending : List ℕ → List ℕ
ascending numbers = fold (insert_key nat_cmp) [] numbers

-- the hashes of the keys that a command names, in ascending order, each once
abbrev pub hashes : Command → List ℕ
hashes command = ascending (hashes_of command)
