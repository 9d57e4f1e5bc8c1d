-- What `check` writes, and how it ends.
use Rattle.std.specs.Prelude.{◌≡◌, ◌≢◌, ◌⊎◌, ℕ, ◌+◌, ◌++◌, nat_lt, if◌then◌else◌, codes, Bool, true, false, List, [], Result, Ok, Err}
use Rattle.std.specs.Fmt.{decimal}
use Rattle.curp_io.specs.Streams.{HoldsPart, Rose}
use Rattle.curp_io.specs.Text.{Progress, lines_of}
use Rattle.curp_check.specs.Claim.{ClaimText, Claimed, claim_from, claim_in, claim_limit, read_on, with_read}
use Rattle.curp_check.specs.Verdict.{IsFirstBroken, number_of}
use Rattle.curp_order.specs.Order.{IsOrder}
use Rattle.curp_check.specs.declared.verdict.Clause.{Clause}
use Rattle.curp_check.specs.declared.verdict.Verdict.{Verdict}
use Rattle.curp_check.specs.declared.verdict.Verdict.TheVariants as verdict
use Rattle.curp_script.specs.declared.error.LineError.{LineError}
use Rattle.curp_script.specs.declared.event.EventLine.{EventLine}
use Rattle.curp_script.specs.Script.{Ending, Whole, Bad, TooLong, TooMany}
use Rattle.curp_runner.specs.Status.{is_cut_short}
use Rattle.curp_runner.specs.declared.status.Status.{Status}
use Rattle.curp_runner.specs.declared.status.Status.TheVariants as status

-- ---- how it ends

-- the status is the verdict on a claim
abbrev pub IsVerdictOn : Claimed → Status → Type 0
IsVerdictOn claim status.Ok = IsOrder claim.events claim.order
IsVerdictOn claim (status.No clause) = IsFirstBroken claim.events claim.order clause
IsVerdictOn claim _ = ⊥

-- a claim that is read to its end has a verdict; else the first line that is refused, is too long or is one too many
-- decides
abbrev pub EndsBy : Ending → Claimed → Status → Type 0
EndsBy Whole claim s = IsVerdictOn claim s
EndsBy (Bad line reason) claim s = s ≡ status.BadLine line reason
EndsBy (TooLong line) claim s = s ≡ status.LineTooLong line
EndsBy TooMany claim s = s ≡ status.TooManyLines

-- so `check` ends for bytes, unless it is cut short
abbrev pub EndsAs : List ℕ → Status → Type 0
EndsAs bytes s = EndsBy (claim_in bytes).ending (claim_in bytes).claim s

-- bytes are a claim, read to its end, and that clause is the first that fails
pub record IsBrokenClaim (bytes : List ℕ) (clause : Clause) : Type 0 where
  pub whole : (claim_in bytes).ending ≡ Whole
  pub broken : IsFirstBroken (claim_in bytes).claim.events (claim_in bytes).claim.order clause

-- it is a verdict
abbrev pub is_verdict : Status → Bool
is_verdict status.Ok = true
is_verdict (status.No clause) = true
is_verdict _ = false

-- with no fault of its input and its output, it ends with a verdict, or out of memory
abbrev pub EndsJudged : Status → (read_before read_after written_before written_after : ℕ) → Type 0
EndsJudged s read_before read_after written_before written_after =
    (Rose read_before read_after → ⊥) → (Rose written_before written_after → ⊥) → (is_verdict s ≡ true) ⊎ (s ≡ status.NoMemory)

-- ---- what it writes

-- a verdict with a line feed; nothing else is written
abbrev pub verdict_text : Status → List ℕ
verdict_text status.Ok = codes "yes\n"
verdict_text (status.No clause) = codes "no " ++ decimal (number_of clause) ++ codes "\n"
verdict_text _ = []

-- the status of a verdict
abbrev pub status_of_verdict : Verdict → Status
status_of_verdict verdict.Yes = status.Ok
status_of_verdict (verdict.No clause) = status.No clause

-- a prefix of a verdict was written, that of the claim that the bytes are
pub record IsVerdictPrefix (bytes old new : List ℕ) : Type 0 where
  pub verdict : Status
  pub of_claim : EndsAs bytes verdict
  pub part : HoldsPart old new (verdict_text verdict)

-- nothing was written, or such a prefix
abbrev pub IsJudgedPrefix : List ℕ → List ℕ → List ℕ → Type 0
IsJudgedPrefix bytes old new = (new ≡ old) ⊎ IsVerdictPrefix bytes old new

-- ---- a claim that is read line by line

-- the claim that the bytes not read yet are, behind what is claimed so far
abbrev pub claim_due : Progress → Claimed → List ℕ → ClaimText
claim_due lines claim left = claim_from (lines.number + 1) claim (lines_of (lines.ahead ++ left))

-- behind so many lines: what comes of a line that was read so, which may be one too many
abbrev pub after_line : ℕ → Claimed → (Claimed → ClaimText) → Result EventLine LineError → ClaimText
after_line count claim rest line =
    if nat_lt claim_limit (count + 1) then record { claim = claim; ending = TooMany }
    else read_on (count + 1) claim rest (with_read claim line)

-- a claim ends here with that status, unless the run is cut short
abbrev pub StopsAt : ClaimText → Status → Type 0
StopsAt text stop = is_cut_short stop ≡ false → (text.ending ≢ Whole) × EndsBy text.ending text.claim stop

-- what was due of a claim before a line was read, or none was left, and is due after that
abbrev pub GivesLineOf : ClaimText → Result Bool Status → Claimed → ClaimText → Type 0
GivesLineOf text (Ok true) claim rest = text ≡ rest
GivesLineOf text (Ok false) claim rest = text ≡ record { claim = claim; ending = Whole }
GivesLineOf text (Err stop) claim rest = StopsAt text stop
