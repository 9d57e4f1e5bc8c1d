-- What sources and sinks do to the bytes that they mean, and to their counts of faults.
use Rattle.std.specs.Prelude.{◌≡◌, ℕ, ◌+◌, ◌-◌, ◌^◌, ◌<◌, ◌≤◌, ◌==◌, min, Bool, true, ◌&&◌, List, [], ◌++◌, length, take, ⊤}
use Rattle.curp_base.specs.Words.{IsPrefix}
use Rattle.curp_io.specs.declared.source.Taken.{Taken}
use Rattle.curp_io.specs.declared.source.Taken.TheVariants as taken
use Rattle.curp_io.specs.declared.sink.Put.{Put}
use Rattle.curp_io.specs.declared.sink.Put.TheVariants as put
use Rattle.curp_io.specs.declared.sink.Flushed.{Flushed}
use Rattle.curp_io.specs.declared.sink.Flushed.TheVariants as flush
use Rattle.curp_io.specs.declared.write.Written.{Written}
use Rattle.curp_io.specs.declared.write.Written.TheVariants as written

-- the number after n; a `u64` that stands at its type's end stands still
abbrev pub one_more : ℕ → ℕ
one_more n = min (n + 1) (2 ^ 64 - 1)

-- a count of faults rose: it is greater than before, or it stands at its type's end
abbrev pub Rose : ℕ → ℕ → Type 0
Rose old new = one_more old ≤ new

-- a count of faults is what it was before
abbrev pub SameCount : ℕ → ℕ → Type 0
SameCount old new = new ≡ old

-- the count of bytes taken is within the buffer
abbrev pub FitsBuffer : Taken → List ℕ → Type 0
FitsBuffer (taken.Bytes n) buffer = n ≤ length buffer
FitsBuffer taken.Failed buffer = ⊤

-- The bytes taken come from the prefix of those that were left, and the rest is left. No byte for a buffer with room
-- means that none was left. A failure leaves all.
abbrev pub Takes : List ℕ → List ℕ → Taken → List ℕ → Type 0
Takes old new (taken.Bytes n) buffer = (old ≡ take n buffer ++ new) × (n ≡ 0 → 0 < length buffer → old ≡ [])
Takes old new taken.Failed buffer = new ≡ old

-- the count of bytes put is within the piece, and at least 1 of a piece that isn't empty
abbrev pub MovesOn : Put → List ℕ → Type 0
MovesOn (put.Took n) piece = (n ≤ length piece) × (0 < length piece → 0 < n)
MovesOn put.Failed piece = ⊤
MovesOn put.NoMemory piece = ⊤

-- the prefix of the piece that was put stands after what was held; a refusal puts nothing
abbrev pub Puts : List ℕ → List ℕ → Put → List ℕ → Type 0
Puts old new (put.Took n) piece = new ≡ old ++ take n piece
Puts old new put.Failed piece = new ≡ old
Puts old new put.NoMemory piece = new ≡ old

-- whether all bytes were passed on, after a put: a byte that is taken waits for the next flush
abbrev pub flushed_after_put : Bool → Put → Bool
flushed_after_put flushed (put.Took n) = flushed && n == 0
flushed_after_put flushed put.Failed = flushed
flushed_after_put flushed put.NoMemory = flushed

-- the same after a flush
abbrev pub flushed_after_flush : Bool → Flushed → Bool
flushed_after_flush flushed flush.Done = true
flushed_after_flush flushed flush.Failed = flushed

-- some prefix of the piece stands after what was held
pub record HoldsPart (old new piece : List ℕ) : Type 0 where
  pub part : List ℕ
  pub prefix : IsPrefix part piece
  pub added : new ≡ old ++ part

-- the whole piece stands after what was held; after a refusal, a prefix of it
abbrev pub Writes : List ℕ → List ℕ → Written → List ℕ → Type 0
Writes old new written.Whole piece = new ≡ old ++ piece
Writes old new written.WriteFault piece = HoldsPart old new piece
Writes old new written.NoMemory piece = HoldsPart old new piece
