-- The parcels of an input, one behind the other.
use Rattle.std.specs.Prelude.{◌≡◌, ◌≢◌, ℕ, ◌+◌, ◌-◌, ◌^◌, ◌<◌, ◌≤◌, min, List, [], ◌++◌, length, Option, Some, None, ⊤}
use Rattle.std.specs.Int.{to_be_bytes, w32}
use Rattle.curp_journal.specs.declared.arrived.Arrived.{Arrived}
use Rattle.curp_parcels.specs.Parcels.{IsEncoding, behind_length, incoming, parcel_limit}
use Rattle.curp_parcels.specs.declared.framing.First.{First}
use Rattle.curp_parcels.specs.declared.framing.First.TheVariants as first
use Rattle.curp_parcels.specs.declared.parcels.NextParcel.{NextParcel}
use Rattle.curp_parcels.specs.declared.parcels.NextParcel.TheVariants as next

-- so many bytes behind a place; a `u64` that stands at its type's end stands still
abbrev pub place_behind : ℕ → ℕ → ℕ
place_behind place count = min (place + count) (2 ^ 64 - 1)

-- ---- what stands first

-- so many bytes behind their length, and the rest behind these
pub record StandsFirst (bytes content rest : List ℕ) : Type 0 where
  pub is : bytes ≡ behind_length content ++ rest
  pub short : length content ≤ parcel_limit

-- a length that no parcel has, so that nothing behind it can be found
pub record StandsTooLong (bytes : List ℕ) : Type 0 where
  pub count : ℕ
  pub rest : List ℕ
  pub is : bytes ≡ to_be_bytes w32 count ++ rest
  pub long : parcel_limit < count
  pub small : count < 2 ^ 32

-- neither: more bytes are to come
pub record StandsNot (bytes : List ℕ) : Type 0 where
  pub none : (content rest : List ℕ) → StandsFirst bytes content rest → ⊥
  pub no_length : StandsTooLong bytes → ⊥

-- what a look at the length tells
abbrev pub FindsFirst : List ℕ → First → Type 0
FindsFirst bytes (first.Whole count) = (content : List ℕ) × (rest : List ℕ) × StandsFirst bytes content rest × (count ≡ length content)
FindsFirst bytes first.TooLong = StandsTooLong bytes
FindsFirst bytes first.Part = StandsNot bytes × (length bytes < parcel_limit + 4)

-- ---- the next parcel

-- the bytes read ahead, and how many were passed over before them
pub record ParcelsRead : Type 0 where
  pub ahead : List ℕ
  pub passed : ℕ

-- before the first call
abbrev pub nothing_read : ParcelsRead
nothing_read = record { ahead = []; passed = 0 }

-- what came stands first as a parcel, and the rest is left
pub record GivesParcel (bytes : List ℕ) (passed : ℕ) (arrived : Arrived) (rest : List ℕ) (passed_then : ℕ) : Type 0 where
  pub content : List ℕ
  pub first : StandsFirst bytes content rest
  pub encoding : IsEncoding incoming arrived content
  pub counted : passed_then ≡ place_behind passed (4 + length content)

-- so many bytes as a length says stand first, and they are nothing that may come; the rest is left
pub record SkipsParcel (bytes : List ℕ) (passed : ℕ) (rest : List ℕ) (passed_then : ℕ) : Type 0 where
  pub content : List ℕ
  pub first : StandsFirst bytes content rest
  pub none : (arrived : Arrived) → IsEncoding incoming arrived content → ⊥
  pub counted : passed_then ≡ place_behind passed (4 + length content)

-- all is left
pub record LeavesAll (bytes : List ℕ) (passed : ℕ) (rest : List ℕ) (passed_then : ℕ) : Type 0 where
  pub left : rest ≡ bytes
  pub counted : passed_then ≡ passed

-- What an answer says of the bytes that were due, where so many were passed over before them, and of those that are left
-- then. A place is that of the first byte of a length.
abbrev pub IsNextParcel : List ℕ → ℕ → NextParcel → List ℕ → ℕ → Type 0
IsNextParcel bytes passed (next.Arrived arrived) rest passed_then = GivesParcel bytes passed arrived rest passed_then
IsNextParcel bytes passed (next.NoParcel at) rest passed_then = (at ≡ passed) × SkipsParcel bytes passed rest passed_then
IsNextParcel bytes passed next.End rest passed_then = (bytes ≡ []) × LeavesAll bytes passed rest passed_then
IsNextParcel bytes passed (next.Inside at) rest passed_then =
    (bytes ≢ []) × StandsNot bytes × (at ≡ passed) × LeavesAll bytes passed rest passed_then
IsNextParcel bytes passed (next.TooLong at) rest passed_then =
    StandsTooLong bytes × (at ≡ passed) × LeavesAll bytes passed rest passed_then
IsNextParcel bytes passed next.ReadFault rest passed_then = LeavesAll bytes passed rest passed_then
IsNextParcel bytes passed next.NoMemory rest passed_then = LeavesAll bytes passed rest passed_then

-- the same of the bytes read ahead alone, and of any that are left behind them; there is none only where none stands there
abbrev pub IsReady : ParcelsRead → Option NextParcel → ParcelsRead → Type 0
IsReady old None new = (new ≡ old) × StandsNot old.ahead × (length old.ahead < parcel_limit + 4)
IsReady old (Some answer) new = (left : List ℕ) → IsNextParcel (old.ahead ++ left) old.passed answer (new.ahead ++ left) new.passed

-- where no more bytes are to come
abbrev pub IsAtEnd : ParcelsRead → NextParcel → Type 0
IsAtEnd p (next.Arrived arrived) = ⊥
IsAtEnd p (next.NoParcel at) = ⊥
IsAtEnd p next.End = p.ahead ≡ []
IsAtEnd p (next.Inside at) = (p.ahead ≢ []) × (at ≡ p.passed)
IsAtEnd p (next.TooLong at) = ⊥
IsAtEnd p next.ReadFault = ⊥
IsAtEnd p next.NoMemory = ⊥

-- what bytes that were read ahead can answer
abbrev pub OfBytes : NextParcel → Type 0
OfBytes (next.Arrived arrived) = ⊤
OfBytes (next.NoParcel at) = ⊤
OfBytes next.End = ⊥
OfBytes (next.Inside at) = ⊥
OfBytes (next.TooLong at) = ⊤
OfBytes next.ReadFault = ⊥
OfBytes next.NoMemory = ⊤
