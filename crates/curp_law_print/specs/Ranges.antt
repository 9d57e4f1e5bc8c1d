-- The ranges of a step's values: what the types of a step hold it to.
use Rattle.std.specs.Prelude.{◌≡◌, ℕ, ◌<◌, ◌≤◌, ◌^◌, false, List, length, Option, Some, None, ⊤}
use Rattle.curp_base.specs.Words.{AreBytes, Each}
use Rattle.curp_cmd.specs.Pairs.{Pair, names_twice}
use Rattle.curp_cmd.specs.declared.command.Command.{Command}
use Rattle.curp_cmd.specs.declared.command.Command.TheVariants.{Get, Put, Delete, Incr, Append, CondPut, Multi}
use Rattle.curp_msg.specs.declared.script.Step.{Step}
use Rattle.curp_msg.specs.declared.script.Step.TheVariants.{Invoke, Deliver, Retry, Fetch, Sync, Collect, Recover, Replace, Migrate, Nudge, Expire, Stop}

-- 1 to 32 bytes
pub record IsKey (key : List ℕ) : Type 0 where
  pub least : 1 ≤ length key
  pub most : length key ≤ 32
  pub range : AreBytes key

-- 0 to 128 bytes
pub record IsValue (value : List ℕ) : Type 0 where
  pub most : length value ≤ 128
  pub range : AreBytes value

-- the value that a key is expected to have, where it is one
abbrev pub IsExpected : Option (List ℕ) → Type 0
IsExpected None = ⊤
IsExpected (Some value) = IsValue value

-- a key and its value
abbrev pub IsPair : Pair → Type 0
IsPair p = IsKey p.0 × IsValue p.1

-- 1 to 4 pairs, no key twice
pub record ArePairs (pairs : List Pair) : Type 0 where
  pub least : 1 ≤ length pairs
  pub most : length pairs ≤ 4
  pub distinct : names_twice pairs ≡ false
  pub each : Each IsPair pairs

-- each key and value of a command has as many bytes as it may have
abbrev pub CommandInRange : Command → Type 0
CommandInRange (Get key) = IsKey key
CommandInRange (Put key value) = IsPair (key, value)
CommandInRange (Delete key) = IsKey key
CommandInRange (Incr key) = IsKey key
CommandInRange (Append key more) = IsPair (key, more)
CommandInRange (CondPut key expected value) = IsPair (key, value) × IsExpected expected
CommandInRange (Multi pairs) = ArePairs pairs

-- a number of 32 bits
abbrev pub IsIndex : ℕ → Type 0
IsIndex n = n < 2 ^ 32

-- a number of 64 bits
abbrev pub IsLong : ℕ → Type 0
IsLong n = n < 2 ^ 64

-- each number of a step, and its command, is in the range that its type gives it
abbrev pub StepInRange : Step → Type 0
StepInRange (Invoke client command) = IsIndex client × CommandInRange command
StepInRange (Deliver message) = IsLong message
StepInRange (Retry client seq) = IsIndex client × IsIndex seq
StepInRange (Fetch client) = IsIndex client
StepInRange (Sync master) = IsIndex master
StepInRange (Collect master) = IsIndex master
StepInRange (Recover part backup witness) = IsIndex part × IsIndex backup × IsIndex witness
StepInRange (Replace keeper part place) = IsIndex part × IsIndex place
StepInRange (Migrate lo hi to) = IsLong lo × IsLong hi × IsIndex to
StepInRange Nudge = ⊤
StepInRange (Expire client) = IsIndex client
StepInRange (Stop id) = IsIndex id.number
