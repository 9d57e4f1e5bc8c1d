-- One input that comes to a durable node alone.
use Rattle.std.specs.Prelude.{ℕ, ◌^◌, nat_lt, if◌then◌else◌, [], None}
use Rattle.curp_journal.specs.Given.{given}
use Rattle.curp_journal.specs.Journal.{next_stamp}
use Rattle.curp_journal.specs.declared.arrived.Arrived.{Arrived}
use Rattle.curp_msg.specs.Moved.{Moved, done_of}
use Rattle.curp_msg.specs.declared.machine.Done.{Done}
use Rattle.curp_msg.specs.Input.{Input}
use Rattle.curp_durable.specs.Standing.{Standing}
use Rattle.curp_durable.specs.declared.stand.Answered.{Answered}
use Rattle.curp_durable.specs.declared.stand.Answered.TheVariants as answered

-- an input is refused by this number
abbrev pub refusal : ℕ → Done
refusal number = record { refused = number; sent = []; invoked = None; completed = None }

-- what the node does: what its machine does, or a refusal by 255 where no stamp is left
abbrev pub done_by : {N : Type 0} → (N → Input → Moved N) → Standing N → Arrived → Done
done_by machine s a = if nat_lt (next_stamp s.last a) (2 ^ 64) then done_of (machine s.node (given a)) else refusal 255

-- what an answer says of it
abbrev pub done_in : Answered → Done
done_in (answered.Made step item) = item.done
done_in (answered.Refused number) = refusal number
