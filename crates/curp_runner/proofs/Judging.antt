-- A claim that is read line by line, and the verdict on it.
use Rattle.std.proofs.Common.{◌≡◌, ◌≢◌, ◌<◌, ◌≤◌, ◌+◌, ◌^◌, ◌++◌, ◌∙◌, ℕ, List, [], ◌∷◌, length, Bool, true, false, nat_lt, Result, Ok, Err, IsErr, IsErrAnd, refl, arith}
use Rattle.std.proofs.lemmas.Bool.Decides.{nat_tests}
use Rattle.curp_io.proofs.Text.{lines_of_first}
use Rattle.curp_io.specs.Streams.{one_more}
use Rattle.curp_io.specs.Text.{GivesLine, Progress, RefusesLine, line_of, lines_of}
use Rattle.curp_check.specs.Claim.{ClaimText, Claimed, claim_from, claim_limit, with_read}
use Rattle.curp_runner.specs.declared.status.Status.{Status}
use Rattle.curp_runner.specs.declared.status.Status.TheVariants as status
use Rattle.curp_runner.proofs.Scripts.{not_whole_long}
use Rattle.curp_runner.specs.Check.{GivesLineOf, StopsAt, after_line, claim_due}
use Rattle.curp_script.specs.Events.{event_in}
use Rattle.curp_base.specs.Limits.{line_limit}
use Rattle.curp_script.specs.Script.{Whole}
use Rattle.curp_script.specs.declared.error.LineError.{LineError}
use Rattle.curp_script.specs.declared.event.EventLine.{EventLine}

-- ---- a line

-- a line that fits is read
line_comes : (count : ℕ) (claim : Claimed) (line : List ℕ) (lines : List (List ℕ)) → length line ≤ line_limit
    → claim_from (count + 1) claim (line ∷ lines) ≡ after_line count claim (λ more. claim_from ((count + 1) + 1) more lines) (event_in line)
line_comes count claim line lines short =
    let fits : nat_lt line_limit (length line) ≡ false = grind (arith, nat_tests) in rw fits refl

line_adds : (count : ℕ) (claim more : Claimed) (rest : Claimed → ClaimText) (r : Result EventLine LineError) → count < claim_limit
    → with_read claim r ≡ Ok more → after_line count claim rest r ≡ rest more
line_adds count claim more rest r few is =
    let fits : nat_lt claim_limit (count + 1) ≡ false = grind (arith, nat_tests) in rw (fits, is) refl

-- what is due after a line that was added
pub line_due : (old new : Progress) (count : ℕ) (left line left' : List ℕ) (claim more : Claimed) → old.number ≡ count → new.number ≡ one_more old.number
    → count < claim_limit → GivesLine (old.ahead ++ left) line (new.ahead ++ left') → with_read claim (event_in line) ≡ Ok more
    → claim_due old claim left ≡ claim_due new more left'
line_due old new count left line left' claim more at next few given is =
    let was : old.number + 1 ≡ count + 1 = omega (arith, at) in
    let now : new.number + 1 ≡ (count + 1) + 1 = omega (arith, next, at, few) in
    rw (was, now, lines_of_first (old.ahead ++ left) given.more, ← given.first, ← given.left)
    (line_comes count claim line (lines_of (new.ahead ++ left')) given.short
    ∙ line_adds count claim more (λ c. claim_from ((count + 1) + 1) c (lines_of (new.ahead ++ left'))) (event_in line) few is)

-- a line at which the claim stops
pub stop_due : (lines : Progress) (count : ℕ) (left line left' : List ℕ) (claim : Claimed) (stop : Status) → lines.number ≡ count
    → GivesLine (lines.ahead ++ left) line left' → ((rest : Claimed → ClaimText) → StopsAt (after_line count claim rest (event_in line)) stop)
    → StopsAt (claim_due lines claim left) stop
stop_due lines count left line left' claim stop at given stops =
    let was : lines.number + 1 ≡ count + 1 = omega (arith, at) in
    rw (was, lines_of_first (lines.ahead ++ left) given.more, ← given.first, ← given.left, line_comes count claim line (lines_of left') given.short) (stops _)

nothing_short : (bytes : List ℕ) → line_limit < length (line_of bytes) → bytes ≢ []
nothing_short [] long e = omega (arith, long)
nothing_short (b ∷ bs) long e = absurd cc

-- a line that is too long
pub long_due : (lines : Progress) (count : ℕ) (left rest : List ℕ) (at : ℕ) (claim : Claimed) → lines.number ≡ count → count + 1 < 2 ^ 64
    → RefusesLine lines.number (lines.ahead ++ left) rest at → StopsAt (claim_due lines claim left) (status.LineTooLong at)
long_due lines count left rest at claim is fits refused =
    let same : at ≡ lines.number + 1 = omega (arith, refused.numbered, is, fits) in
    let bytes = lines.ahead ++ left in
    let long : nat_lt line_limit (length (line_of bytes)) ≡ true = grind (arith, nat_tests, refused.long) in
    rw (lines_of_first bytes (nothing_short bytes refused.long), long, same) (λ whole. (not_whole_long (lines.number + 1), refl))

-- nothing is left
pub end_due : (lines : Progress) (left : List ℕ) (claim : Claimed) → lines.ahead ++ left ≡ [] → claim_due lines claim left ≡ record { claim = claim; ending = Whole }
end_due lines left claim none = rw none refl

-- a stop is passed on
pub stop_passed : (text rest : ClaimText) (claim : Claimed) (stop : Status) (r : Result Bool Status) → StopsAt text stop
    → IsErr r → IsErrAnd r (λ e. e ≡ stop) → GivesLineOf text r claim rest
stop_passed text rest claim stop (Ok _) stops failed same = absurd cc
stop_passed text rest claim stop (Err e) stops failed same = rw same stops
