-- The store: a finite map from keys to values, and what a command does to it and answers.
use Rattle.std.specs.Prelude.{◌≤◌, ℕ, ◌+◌, ◌-◌, ◌^◌, ◌==◌, nat_le, Bool, true, false, not, if◌then◌else◌, List, [], ◌∷◌, ◌++◌, length, map as each, Option, Some, None, unwrap_or, refl}
use Rattle.std.specs.Coded.{Coded, code_by, coded×, coded_list, coded_ℕ}
use Rattle.std.specs.Int.{w64, from_be_bytes, to_be_bytes}
use Rattle.std.specs.Option.{option_eq}
use Rattle.std.specs.Ordering.{nat_cmp}
use Rattle.std.specs.Str.{bytes_eq}
use Rattle.std.specs.Cmp.Lexicographic.{slice_cmp}
use Rattle.std.specs.FinMap.{FinMap}
use Rattle.std.specs.FinMap as map
use Rattle.curp_cmd.specs.Pairs.{Pair}
use Rattle.curp_cmd.specs.declared.command.Command.{Command}
use Rattle.curp_cmd.specs.declared.command.Command.TheVariants.{Get, Put, Delete, Incr, Append, CondPut, Multi}
use Rattle.curp_cmd.specs.declared.command.Answer.{Answer}
use Rattle.curp_cmd.specs.declared.command.Answer.TheVariants.{Done, Removed, Number, Length, Swapped, NotNumber, Overflow, TooLong, Found}

-- keys and values are lists of bytes
abbrev pub Contents : Type 0
Contents = FinMap (slice_cmp nat_cmp) (List ℕ)

abbrev pub nothing : Contents
nothing = map.empty

-- the keys that a command names
abbrev pub keys_of : Command → List (List ℕ)
keys_of (Get key) = key ∷ []
keys_of (Put key value) = key ∷ []
keys_of (Delete key) = key ∷ []
keys_of (Incr key) = key ∷ []
keys_of (Append key more) = key ∷ []
keys_of (CondPut key expected value) = key ∷ []
keys_of (Multi pairs) = each (λ p. p.0) pairs

-- the command names one to four keys, as each value of its type does: no multi-put is empty
pub record NamesKey (c : Command) : Type 0 where
  pub some : 1 ≤ length (keys_of c)
  pub few : length (keys_of c) ≤ 4

-- every command but Get may change the store
abbrev pub is_update : Command → Bool
is_update (Get key) = false
is_update (Put key value) = true
is_update (Delete key) = true
is_update (Incr key) = true
is_update (Append key more) = true
is_update (CondPut key expected value) = true
is_update (Multi pairs) = true

-- the answers to a command that could not be done as it stood
abbrev pub is_undone : Answer → Bool
is_undone Done = false
is_undone (Removed was) = false
is_undone (Number n) = false
is_undone (Length n) = false
is_undone (Swapped did) = not did
is_undone NotNumber = true
is_undone Overflow = true
is_undone TooLong = true
is_undone (Found value) = false

-- what a command answers, and the store after it
pub record Applied : Type 0 where
  pub answer : Answer
  pub after : Contents

-- Get: the value of the key, if it has one
abbrev pub read : Contents → List ℕ → Applied
read s key = record { answer = Found (map.get s key); after = s }

-- Put: the key has the value
abbrev pub written : Contents → List ℕ → List ℕ → Applied
written s key value = record { answer = Done; after = map.insert s key value }

-- Delete: the key has no value, and the answer says whether it had one
abbrev pub deleted : Contents → List ℕ → Applied
deleted s key = record { answer = Removed (map.contains_key s key); after = map.remove s key }

-- eight bytes are a number, the highest first
abbrev pub number_in : List ℕ → Option ℕ
number_in bytes = if length bytes == 8 then Some (from_be_bytes w64 bytes) else None

-- the number that a key has; an absent key counts as 0
abbrev pub number_of : Option (List ℕ) → Option ℕ
number_of None = Some 0
number_of (Some bytes) = number_in bytes

-- Incr, where the key has this number, or no number
abbrev pub next_number : Contents → List ℕ → Option ℕ → Applied
next_number s key None = record { answer = NotNumber; after = s }
next_number s key (Some n) =
    if n == 2 ^ 64 - 1
    then record { answer = Overflow; after = s }
    else record { answer = Number (n + 1); after = map.insert s key (to_be_bytes w64 (n + 1)) }

-- Incr: the key has the next number
abbrev pub incremented : Contents → List ℕ → Applied
incremented s key = next_number s key (number_of (map.get s key))

-- Append, where these would be the bytes of the key
abbrev pub lengthened : Contents → List ℕ → List ℕ → Applied
lengthened s key bytes =
    if nat_le (length bytes) 128
    then record { answer = Length (length bytes); after = map.insert s key bytes }
    else record { answer = TooLong; after = s }

-- Append: the bytes stand behind those that the key has; an absent key counts as empty
abbrev pub appended : Contents → List ℕ → List ℕ → Applied
appended s key more = lengthened s key (unwrap_or (map.get s key) [] ++ more)

-- CondPut: the key has the value, if it has the expected one or is absent as expected
abbrev pub swapped : Contents → List ℕ → Option (List ℕ) → List ℕ → Applied
swapped s key expected value =
    if option_eq bytes_eq (map.get s key) expected
    then record { answer = Swapped true; after = map.insert s key value }
    else record { answer = Swapped false; after = s }

-- each key has its value
abbrev pub with_pairs : Contents → List Pair → Contents
with_pairs s [] = s
with_pairs s (p ∷ ps) = with_pairs (map.insert s p.0 p.1) ps

-- Multi: each key has its value
abbrev pub written_all : Contents → List Pair → Applied
written_all s pairs = record { answer = Done; after = with_pairs s pairs }

unfoldable pub applied : Contents → Command → Applied
applied s (Get key) = read s key
applied s (Put key value) = written s key value
applied s (Delete key) = deleted s key
applied s (Incr key) = incremented s key
applied s (Append key more) = appended s key more
applied s (CondPut key expected value) = swapped s key expected value
applied s (Multi pairs) = written_all s pairs

-- a store in memory: its contents, and for how many more keys it has room
pub record Storage : Type 0 where
  pub map : Contents
  pub spare : ℕ

abbrev pub storage_code : Coded Storage
storage_code =
    code_by (Contents × ℕ) (coded× (map.code (coded_list coded_ℕ) (coded_list coded_ℕ)) coded_ℕ) (λ s. (s.map, s.spare)) (λ p. record { map = p.0; spare = p.1 }) (λ _. refl)
