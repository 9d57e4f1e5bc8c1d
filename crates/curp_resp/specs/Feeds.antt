-- What the next byte does to a request, and what the bytes read ahead come to.
use Rattle.std.specs.Prelude.{◌≡◌, ℕ, List, [], ◌++◌, length}
use Rattle.curp_io.specs.declared.source.Taken.{Taken}
use Rattle.curp_io.specs.declared.source.Taken.TheVariants as taken
use Rattle.curp_resp.specs.Ahead.{Ahead}
use Rattle.curp_resp.specs.Frames.{fresh_frame}
use Rattle.curp_resp.specs.Input.{place_behind}
use Rattle.curp_resp.specs.Kept.{KeptArguments, kept_by, nothing_kept}
use Rattle.curp_resp.specs.Read.{Read, Inside, Gives, Refuses, read_by}
use Rattle.curp_resp.specs.declared.frame.Step.{Step}
use Rattle.curp_resp.specs.declared.frame.Step.TheVariants as step
use Rattle.curp_resp.specs.declared.reading.Progress.{Progress}
use Rattle.curp_resp.specs.declared.reading.Progress.TheVariants as progress
use Rattle.curp_resp.specs.declared.reading.Reading.{Reading}

-- the answer to a byte, and the reading behind it
abbrev pub TakesByte : Step → ℕ → KeptArguments → Progress → Reading → Type 0
TakesByte (step.On frame effect) byte kept answer new =
    (answer ≡ progress.More) × (new ≡ record { frame = frame; arguments = kept_by effect byte kept })
TakesByte (step.Whole effect) byte kept answer new =
    (answer ≡ progress.Whole) × (new.arguments ≡ kept_by effect byte kept)
TakesByte step.Refused byte kept answer new = answer ≡ progress.Refused

-- what these bytes come to behind those that were read
abbrev pub read_on : List ℕ → Reading → Read KeptArguments
read_on bytes reading = read_by kept_by bytes reading.frame reading.arguments

-- what these bytes come to from the beginning of a request
abbrev pub read_first : List ℕ → Read KeptArguments
read_first bytes = read_by kept_by bytes fresh_frame nothing_kept

-- the answer to the bytes read ahead, the reading behind it, and those that are still ahead
abbrev pub Feeds : Read KeptArguments → Progress → Reading → List ℕ → Type 0
Feeds (Inside frame kept) answer new rest =
    (answer ≡ progress.More) × (new ≡ record { frame = frame; arguments = kept }) × (rest ≡ [])
Feeds (Gives kept others) answer new rest = (answer ≡ progress.Whole) × (new.arguments ≡ kept) × (rest ≡ others)
Feeds (Refuses others) answer new rest = (answer ≡ progress.Refused) × (rest ≡ others)

-- so many bytes are ahead, or none where the source failed
abbrev pub Fills : Taken → List ℕ → Type 0
Fills (taken.Bytes count) bytes = length bytes ≡ count
Fills taken.Failed bytes = bytes ≡ []

-- bytes of the prefix were passed over, and counted
pub record Passes (old new : Ahead) (prefix : List ℕ) : Type 0 where
  pub prefix_is : prefix ++ new.bytes ≡ old.bytes
  pub counted : new.passed ≡ place_behind old.passed (length prefix)
