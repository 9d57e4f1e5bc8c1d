-- What stands first among bytes of which more may come.
use Rattle.std.specs.Prelude.{◌≡◌, ℕ, ◌-◌, ◌<◌, ◌≤◌, List, length, take}
use Rattle.curp_resp.specs.Feeds.{read_first}
use Rattle.curp_resp.specs.Input.{BreaksOff, NoneStandsFirst}
use Rattle.curp_resp.specs.Kept.{KeptArguments}
use Rattle.curp_resp.specs.KeptMeaning.{meaning_of_kept}
use Rattle.curp_resp.specs.Language.{IsViablePrefix, IsRequest}
use Rattle.curp_resp.specs.Meaning.{meaning}
use Rattle.curp_resp.specs.Read.{Read, Inside, Gives, Refuses}
use Rattle.curp_resp.specs.declared.asked.Asked.{Asked}
use Rattle.curp_resp.specs.declared.first.FirstRequest.{FirstRequest}
use Rattle.curp_resp.specs.declared.first.FirstRequest.TheVariants as first

-- ---- as the bytes are read one by one

-- what bytes begin with that come to this
abbrev pub first_by : List ℕ → Read KeptArguments → FirstRequest
first_by bytes (Inside frame kept) = first.Part
first_by bytes (Gives kept rest) = first.Whole (meaning_of_kept kept) (length bytes - length rest)
first_by bytes (Refuses rest) = first.Broken

abbrev pub first_in : List ℕ → FirstRequest
first_in bytes = first_by bytes (read_first bytes)

-- ---- in the words of the grammar

-- the first bytes, so many, are a request of this meaning
pub record BeginsWithRequest (bytes : List ℕ) (asked : Asked) (len : ℕ) : Type 0 where
  pub arguments : List (List ℕ)
  pub within : len ≤ length bytes
  pub request : IsRequest (take len bytes) arguments
  pub meant : asked ≡ meaning arguments

-- some request begins with the bytes, and none stands first among them
pub record IsInside (bytes : List ℕ) : Type 0 where
  pub prefix : IsViablePrefix bytes
  pub none : NoneStandsFirst bytes

-- no spelling of a request allows the byte at some place
pub record IsBroken (bytes : List ℕ) : Type 0 where
  pub place : ℕ
  pub within : place < length bytes
  pub broken : BreaksOff bytes place

abbrev pub IsFirst : List ℕ → FirstRequest → Type 0
IsFirst bytes (first.Whole asked len) = BeginsWithRequest bytes asked len
IsFirst bytes first.Part = IsInside bytes
IsFirst bytes first.Broken = IsBroken bytes
