-- A history and the order that is claimed for it, line by line.
use Rattle.std.specs.Prelude.{◌≡◌, ℕ, ◌+◌, ◌&&◌, nat_lt, if◌then◌else◌, Bool, true, false, not, List, [], ◌∷◌, ◌++◌, length, Result, Ok, Err}
use Rattle.std.specs.List.{list_any}
use Rattle.curp_io.specs.Text.{lines_of}
use Rattle.curp_cmd.specs.RequestId.{same_id}
use Rattle.curp_cmd.specs.declared.command.RequestId.{RequestId}
use Rattle.curp_order.specs.Order.{IsOrder, Asked}
use Rattle.curp_order.specs.declared.Event as order
use Rattle.curp_order.specs.declared.Event.TheVariants.{Invoke, Complete}
use Rattle.curp_script.specs.declared.error.FieldName.TheVariants as field
use Rattle.curp_script.specs.declared.error.LineError.{LineError}
use Rattle.curp_script.specs.declared.error.LineError.TheVariants.{BadField}
use Rattle.curp_script.specs.declared.event.EventLine.{EventLine}
use Rattle.curp_script.specs.declared.event.EventLine.TheVariants.{Event, Place}
use Rattle.curp_script.specs.Events.{event_in}
use Rattle.curp_base.specs.Limits.{line_limit}
use Rattle.curp_script.specs.Script.{Ending, Whole, Bad, TooLong, TooMany}

-- how many lines a claim may have
abbrev pub claim_limit : ℕ
claim_limit = 400000

-- a history, and the order that is claimed for it
pub record Claimed : Type 0 where
  pub events : List order.Event
  pub order : List Asked

-- nothing happened, and nothing is claimed
abbrev pub nothing_claimed : Claimed
nothing_claimed = record { events = []; order = [] }

-- ---- which event may come next

-- the event invokes the request
abbrev pub invokes : RequestId → order.Event → Bool
invokes id (Invoke other command) = same_id id other
invokes id (Complete other answer) = false

-- the event completes the request
abbrev pub completes : RequestId → order.Event → Bool
completes id (Invoke other command) = false
completes id (Complete other answer) = same_id id other

-- a request is invoked once, and completes once, after it was invoked
abbrev pub may_follow : List order.Event → order.Event → Bool
may_follow events (Invoke id command) = not (list_any (invokes id) events)
may_follow events (Complete id answer) = list_any (invokes id) events && not (list_any (completes id) events)

-- ---- lines

-- the order has begun
abbrev pub is_begun : List Asked → Bool
is_begun [] = false
is_begun (x ∷ order) = true

-- an event comes before the order, and where the events with it are a history
abbrev pub with_event : Claimed → order.Event → Result Claimed LineError
with_event claim e =
    if is_begun claim.order then Err (BadField field.Ev)
    else if may_follow claim.events e then Ok (record claim { events = claim.events ++ e ∷ [] })
    else Err (BadField field.Id)

-- what is claimed with a line more, or why the line is refused
abbrev pub with_line : Claimed → EventLine → Result Claimed LineError
with_line claim (Event e) = with_event claim e
with_line claim (Place id command) = Ok (record claim { order = claim.order ++ (id, command) ∷ [] })

-- the same of a line that may be none
abbrev pub with_read : Claimed → Result EventLine LineError → Result Claimed LineError
with_read claim (Err reason) = Err reason
with_read claim (Ok line) = with_line claim line

-- ---- a whole input

-- what is claimed, and how the input ends behind that: it is read to its end, or up to the first line that is refused, is
-- too long, or is one too many
pub record ClaimText : Type 0 where
  pub claim : Claimed
  pub ending : Ending

-- behind line number n, which was read so: the rest, or nothing where the line is refused
abbrev pub read_on : ℕ → Claimed → (Claimed → ClaimText) → Result Claimed LineError → ClaimText
read_on n claim rest (Err reason) = record { claim = claim; ending = Bad n reason }
read_on n claim rest (Ok more) = rest more

-- the claim that lines are, from line number n on, behind what is claimed so far
abbrev pub claim_from : ℕ → Claimed → List (List ℕ) → ClaimText
claim_from n claim [] = record { claim = claim; ending = Whole }
claim_from n claim (line ∷ lines) =
    if nat_lt line_limit (length line) then record { claim = claim; ending = TooLong n }
    else if nat_lt claim_limit n then record { claim = claim; ending = TooMany }
    else read_on n claim (λ more. claim_from (n + 1) more lines) (with_read claim (event_in line))

-- the claim that bytes are
abbrev pub claim_in : List ℕ → ClaimText
claim_in bytes = claim_from 1 nothing_claimed (lines_of bytes)

-- bytes are a claim, read to its end, and the order is one of the history
pub record IsClaimOfOrder (bytes : List ℕ) : Type 0 where
  pub whole : (claim_in bytes).ending ≡ Whole
  pub is_order : IsOrder (claim_in bytes).claim.events (claim_in bytes).claim.order
