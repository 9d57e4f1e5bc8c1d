-- A script, line by line, whatever its lines say.
use Rattle.std.proofs.Common.{◌≡◌, ◌≢◌, ℕ, ◌+◌, ◌-◌, ◌<◌, ◌≤◌, ◌^◌, nat_lt, true, false, List, [], ◌∷◌, ◌++◌, length, Option, Some, Result, Ok, Err, IfOk, IfErr, IsErr, IsErrAnd, refl, arith}
use Rattle.std.proofs.lemmas.Bool.Decides.{nat_tests}
use Rattle.std.proofs.lemmas.Result.{IfOk-weaker}
use Rattle.curp_io.specs.Streams.{one_more}
use Rattle.curp_io.specs.Text.{Progress, line_of, lines_of, nothing_read, GivesLine, RefusesLine}
use Rattle.curp_io.proofs.Text.{lines_of_first}
use Rattle.curp_msg.specs.declared.script.Header.{Header}
use Rattle.curp_script.specs.Grammar.{header_in}
use Rattle.curp_script.specs.declared.error.LineError.{LineError}
use Rattle.curp_script.specs.Script.{Bad, TooLong, TooMany, Whole}
use Rattle.curp_base.specs.Limits.{line_limit}
use Rattle.curp_msg.specs.Limits.{step_limit}
use Rattle.curp_runner.specs.declared.status.Status.{Status}
use Rattle.curp_runner.specs.declared.status.Status.TheVariants as status
use Rattle.curp_runner.specs.Reading.{GivesSaid, HasNoHeader, IsNoHeader, Said, StopsAs, due, said_behind, said_in, script_by, with_line}

-- ---- what isn't read to its end

pub not_whole_long : (line : ℕ) → TooLong line ≢ Whole
not_whole_long line e = cc

pub not_whole_bad : (line : ℕ) (reason : LineError) → Bad line reason ≢ Whole
not_whole_bad line reason e = cc

pub not_whole_many : TooMany ≢ Whole
not_whole_many e = cc

-- ---- lines

-- the first line, where it isn't too long
short_line : {A : Type 0} (meaning : List ℕ → Result A LineError) (n : ℕ) (line : List ℕ) (lines : List (List ℕ)) → length line ≤ line_limit
    → said_in meaning n (line ∷ lines) ≡ with_line n (meaning line) (said_in meaning (n + 1) lines)
short_line meaning n line lines short =
    let fits : nat_lt line_limit (length line) ≡ false = grind (arith, nat_tests) in rw fits refl

-- a line that is read gives what it says
stands_by_line : {A : Type 0} (meaning : List ℕ → Result A LineError) (n : ℕ) (line : List ℕ) (lines : List (List ℕ)) (s : A) → length line ≤ line_limit
    → meaning line ≡ Ok s → n ≤ step_limit
    → GivesSaid (said_in meaning (n + 1) (line ∷ lines)) (Ok (Some s)) (said_in meaning ((n + 1) + 1) lines)
stands_by_line meaning n line lines s short is few =
    let fits : nat_lt step_limit ((n + 1) - 1) ≡ false = grind (arith, nat_tests) in
    rw (short_line meaning (n + 1) line lines short, is, fits) refl

nothing_short : (bytes : List ℕ) → line_limit < length (line_of bytes) → bytes ≢ []
nothing_short [] long e = omega arith
nothing_short (b ∷ bs) long e = absurd cc

-- a line that is too long ends the script
stops_long : {A : Type 0} (meaning : List ℕ → Result A LineError) (n : ℕ) (bytes rest : List ℕ) (at : ℕ) → n + 1 < 2 ^ 64 → RefusesLine n bytes rest at
    → StopsAs (said_in meaning (n + 1) (lines_of bytes)) (status.LineTooLong at)
stops_long meaning n bytes rest at fits refused =
    let same : at ≡ n + 1 = omega (arith, refused.numbered) in
    let long : nat_lt line_limit (length (line_of bytes)) ≡ true = grind (arith, nat_tests, refused.long) in
    rw (lines_of_first bytes (nothing_short bytes refused.long), long, same) (λ whole. (refl, refl))

-- ---- the header

-- the first line is the header
header_opens : {A : Type 0} (meaning : List ℕ → Result A LineError) (bytes line rest : List ℕ) (h : Header) → GivesLine bytes line rest → header_in line ≡ Ok h
    → script_by meaning (lines_of bytes) ≡ record { header = Some h; body = said_in meaning 2 (lines_of rest) }
header_opens meaning bytes line rest h given is =
    let fits : nat_lt line_limit (length line) ≡ false = grind (arith, nat_tests, given.short) in
    rw (lines_of_first bytes given.more, ← given.first, ← given.left, fits, is) refl

nothing_behind_it : {A : Type 0} (r : Result Header LineError) (more : Said A) (stop : Status) → IsNoHeader r stop → HasNoHeader (said_behind r more) stop
nothing_behind_it (Err reason) more stop none = λ whole. (refl, none whole)
nothing_behind_it (Ok header) more stop none = λ whole. absurd (none whole)

no_header_given : {A : Type 0} (meaning : List ℕ → Result A LineError) (bytes line rest : List ℕ) (stop : Status) → GivesLine bytes line rest
    → IsNoHeader (header_in line) stop → HasNoHeader (script_by meaning (lines_of bytes)) stop
no_header_given meaning bytes line rest stop given none =
    let fits : nat_lt line_limit (length line) ≡ false = grind (arith, nat_tests, given.short) in
    rw (lines_of_first bytes given.more, ← given.first, ← given.left, fits) (nothing_behind_it (header_in line) (said_in meaning 2 (lines_of rest)) stop none)

-- a first line that is too long is no header
pub long_is_no_header : {A : Type 0} (meaning : List ℕ → Result A LineError) (bytes rest : List ℕ) (at : ℕ) → RefusesLine 0 bytes rest at
    → HasNoHeader (script_by meaning (lines_of bytes)) (status.LineTooLong at)
long_is_no_header meaning bytes rest at refused =
    let first : at ≡ 1 = omega (arith, refused.numbered) in
    let long : nat_lt line_limit (length (line_of bytes)) ≡ true = grind (arith, nat_tests, refused.long) in
    rw (lines_of_first bytes (nothing_short bytes refused.long), long, first) (λ whole. (refl, refl))

-- ---- what a reader gives

-- a header opens the script, and its lines are due
pub header_given : {A : Type 0} (meaning : List ℕ → Result A LineError) (lines : Progress) (left line rest : List ℕ) (number : ℕ) (r : Result Header Status)
    → lines ≡ nothing_read → GivesLine (lines.ahead ++ left) line rest → number ≡ one_more lines.number
    → IfOk r (λ h. header_in line ≡ Ok h)
    → IfOk r (λ h. script_by meaning (lines_of left) ≡ record { header = Some h; body = said_in meaning (number + 1) (lines_of rest) })
header_given meaning lines left line rest number r l given counted read =
    IfOk-weaker r _ _ (λ h is. rw (counted, l) (header_opens meaning left line rest h (rw l at given) is)) read

-- a line that is no header is the end of the script
pub none_given : {A : Type 0} (meaning : List ℕ → Result A LineError) (lines : Progress) (left line rest : List ℕ) (r : Result Header Status) → lines ≡ nothing_read
    → GivesLine (lines.ahead ++ left) line rest → IfErr r (IsNoHeader (header_in line))
    → IfErr r (HasNoHeader (script_by meaning (lines_of left)))
none_given meaning lines left line rest (Ok h) l given none = tt
none_given meaning lines left line rest (Err stop) l given none = no_header_given meaning left line rest stop (rw l at given) none

-- what a line says was due
pub line_given : {A : Type 0} (meaning : List ℕ → Result A LineError) (old new : Progress) (n : ℕ) (left line left' : List ℕ) (s : A)
    → old.number ≡ n → new.number ≡ one_more old.number → n ≤ step_limit
    → GivesLine (old.ahead ++ left) line (new.ahead ++ left') → meaning line ≡ Ok s
    → GivesSaid (due meaning old left) (Ok (Some s)) (due meaning new left')
line_given meaning old new n left line left' s at next few given is =
    let was : old.number + 1 ≡ n + 1 = omega arith in
    let now : new.number + 1 ≡ (n + 1) + 1 = omega (arith, next) in
    rw (was, now, lines_of_first (old.ahead ++ left) given.more, ← given.first, ← given.left)
    (stands_by_line meaning n line (lines_of (new.ahead ++ left')) s given.short is few)

-- a line at which the script stops was due
pub stop_given : {A : Type 0} (meaning : List ℕ → Result A LineError) (lines : Progress) (n : ℕ) (left line left' : List ℕ) (stop : Status)
    → lines.number ≡ n → GivesLine (lines.ahead ++ left) line left'
    → ((more : Said A) → StopsAs (with_line (n + 1) (meaning line) more) stop)
    → StopsAs (due meaning lines left) stop
stop_given meaning lines n left line left' stop at given stops =
    let was : lines.number + 1 ≡ n + 1 = omega arith in
    rw (
      was,
      lines_of_first (lines.ahead ++ left) given.more,
      ← given.first,
      ← given.left,
      short_line meaning (n + 1) line (lines_of left') given.short,
    ) (stops _)

-- a stop is passed on
pub stop_passed : {A : Type 0} (body rest : Said A) (stop : Status) (r : Result (Option A) Status) → StopsAs body stop
    → IsErr r → IsErrAnd r (λ e. e ≡ stop) → GivesSaid body r rest
stop_passed body rest stop (Ok _) stops failed same = absurd cc
stop_passed body rest stop (Err e) stops failed same = rw same stops

-- a line that is too long was due
pub stops_long_at : {A : Type 0} (meaning : List ℕ → Result A LineError) (lines : Progress) (n : ℕ) (left rest : List ℕ) (at : ℕ) → lines.number ≡ n → n + 1 < 2 ^ 64
    → RefusesLine lines.number (lines.ahead ++ left) rest at → StopsAs (due meaning lines left) (status.LineTooLong at)
stops_long_at meaning lines n left rest at is fits refused =
    stops_long meaning lines.number (lines.ahead ++ left) rest at (omega arith) refused

pub nothing_behind : (xs ys : List ℕ) → xs ++ ys ≡ [] → ys ≡ []
nothing_behind [] ys e = e
nothing_behind (x ∷ xs) ys e = absurd cc
