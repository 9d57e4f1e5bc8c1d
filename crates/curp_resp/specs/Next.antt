-- The next request of an input.
use Rattle.std.specs.Prelude.{◌≡◌, ℕ, List, [], ◌++◌, length, drop, Option, Some, None}
use Rattle.curp_resp.specs.Input.{BreaksOff, NoneStandsFirst, place_behind}
use Rattle.curp_resp.specs.Language.{IsRequest, IsViablePrefix}
use Rattle.curp_resp.specs.Meaning.{meaning}
use Rattle.curp_resp.specs.declared.asked.Asked.{Asked}
use Rattle.curp_resp.specs.declared.requests.NextRequest.{NextRequest}
use Rattle.curp_resp.specs.declared.requests.NextRequest.TheVariants as next

-- the bytes read ahead, how many bytes were passed over before them, and the answer that repeats
pub record RequestsRead : Type 0 where
  pub ahead : List ℕ
  pub passed : ℕ
  pub failed : Option NextRequest

-- before the first call
abbrev pub nothing_read : RequestsRead
nothing_read = record { ahead = []; passed = 0; failed = None }

-- the request that stands first was given by its meaning, and the rest is left
pub record GivesRequest (bytes : List ℕ) (passed : ℕ) (given : Asked) (rest : List ℕ) (passed_then : ℕ) : Type 0 where
  pub spelled : List ℕ
  pub arguments : List (List ℕ)
  pub request : IsRequest spelled arguments
  pub left : spelled ++ rest ≡ bytes
  pub meant : given ≡ meaning arguments
  pub counted : passed_then ≡ place_behind passed (length spelled)

-- a prefix of a request is lost, and no whole request was in it
pub record LosesPrefix (bytes rest : List ℕ) : Type 0 where
  pub lost : List ℕ
  pub prefix : IsViablePrefix lost
  pub none : NoneStandsFirst lost
  pub left : lost ++ rest ≡ bytes

-- the bytes break off at the place that is told, counted from the first byte of the whole input
pub record RefusesBytes (bytes : List ℕ) (passed at : ℕ) (rest : List ℕ) : Type 0 where
  pub place : ℕ
  pub broken : BreaksOff bytes place
  pub told : at ≡ place_behind passed place
  pub left : rest ≡ drop place bytes

-- What an answer says of the bytes that were due, where so many were passed over before them, and of those that are
-- left then.
abbrev pub IsNextRequest : List ℕ → ℕ → NextRequest → List ℕ → ℕ → Type 0
IsNextRequest bytes passed (next.Asked given) rest passed_then = GivesRequest bytes passed given rest passed_then
IsNextRequest bytes passed next.End rest passed_then = (bytes ≡ []) × (rest ≡ []) × (passed_then ≡ passed)
IsNextRequest bytes passed next.ReadFault rest passed_then = LosesPrefix bytes rest
IsNextRequest bytes passed (next.BadRequest at) rest passed_then = RefusesBytes bytes passed at rest

-- what every later call answers after this answer, if it repeats
abbrev pub repeated : NextRequest → Option NextRequest
repeated (next.Asked given) = None
repeated next.End = None
repeated next.ReadFault = Some next.ReadFault
repeated (next.BadRequest at) = Some (next.BadRequest at)

-- the bytes break off at this place of the whole input, where so many were passed over before them
abbrev pub BreaksOffAt : List ℕ → ℕ → ℕ → Type 0
BreaksOffAt bytes passed at = (place : ℕ) × BreaksOff bytes place × (at ≡ place_behind passed place)
