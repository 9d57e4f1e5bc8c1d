-- The marks, and the order that the world shows (this project's own). No log gives this order: a replay may turn it round.
use Rattle.std.specs.Prelude.{ℕ, ◌+◌, ◌==◌, ◌&&◌, ◌||◌, nat_le, nat_lt, if◌then◌else◌, Bool, true, false, not, List, [], ◌∷◌, ◌++◌, map, length, Option, Some, None}
use Rattle.std.specs.List.{filter, list_any}
use Rattle.curp_cmd.specs.Node.{same_node}
use Rattle.curp_cmd.specs.RequestId.{same_id}
use Rattle.curp_cmd.specs.declared.command.Command.{Command}
use Rattle.curp_cmd.specs.declared.command.Command.TheVariants.{Get}
use Rattle.curp_cmd.specs.declared.command.Request.{Request}
use Rattle.curp_cmd.specs.declared.command.RequestId.{RequestId}
use Rattle.curp_msg.specs.declared.machine.Completed.{Completed}
use Rattle.curp_msg.specs.declared.machine.Capture.{Capture}
use Rattle.curp_cmd.specs.declared.node.NodeId.{NodeId}

-- An update at its index in a log; a read at its capture with the log's length; a read that was answered at once, at its
-- capture; the adoption of that number in its partition, from 1, with the length of the log that was recovered
pub data Place : Type 0 where
  Executed : (index : ℕ) → Place
  Looked : (capture length : ℕ) → Place
  Quick : (capture : ℕ) → Place
  Cut : (number length : ℕ) → Place

-- by the master that pushed or captured it; opening masters share an epoch, so that the epoch alone doesn't name it
pub record Mark : Type 0 where
  pub master : NodeId
  pub part : ℕ
  pub epoch : ℕ
  pub place : Place
  pub id : RequestId
  pub command : Command
  pub completed : Bool

-- the mark of an op
abbrev pub executed : NodeId → ℕ → ℕ → ℕ → RequestId → Command → Mark
executed master part epoch index id command =
    record { master = master; part = part; epoch = epoch; place = Executed index; id = id; command = command; completed = false }

-- the mark of a capture
abbrev pub looked : NodeId → ℕ → ℕ → ℕ → ℕ → RequestId → Command → Mark
looked master part epoch capture length id command =
    record { master = master; part = part; epoch = epoch; place = Looked capture length; id = id; command = command; completed = false }

-- the mark of a read that was answered at once
abbrev pub quick : NodeId → ℕ → ℕ → ℕ → RequestId → Command → Mark
quick master part epoch capture id command =
    record { master = master; part = part; epoch = epoch; place = Quick capture; id = id; command = command; completed = false }

-- the mark of an adoption, which is of no request
abbrev pub cut_mark : NodeId → ℕ → ℕ → ℕ → ℕ → Mark
cut_mark master part epoch number length =
    record { master = master; part = part; epoch = epoch; place = Cut number length; id = record { client = 0; seq = 0 }; command = Get []; completed = false }

-- ---- completions

-- it is the mark of an op
abbrev pub is_update_mark : Place → Bool
is_update_mark (Executed index) = true
is_update_mark (Looked capture length) = false
is_update_mark (Quick capture) = false
is_update_mark (Cut number length) = false

-- it is the mark of the capture of that number
abbrev pub is_capture : ℕ → Place → Bool
is_capture number (Executed index) = false
is_capture number (Looked capture length) = capture == number
is_capture number (Quick capture) = capture == number
is_capture number (Cut which length) = false

-- the mark that a completion flags: the update's, or that of the read whose value completed it
abbrev pub is_flagged : Completed → Option Capture → Mark → Bool
is_flagged c None m = same_id m.id c.id && is_update_mark m.place
is_flagged c (Some by) m = same_id m.id c.id && same_node m.master by.master && (m.epoch == by.epoch) && is_capture by.number m.place

-- a completion flags its mark
abbrev pub flagged : Completed → List Mark → List Mark
flagged c marks = map (λ m. if is_flagged c c.by m then record m { completed = true } else m) marks

-- ---- adoptions

-- it stands at or past the cut; a capture, where its length is past the cut
abbrev pub is_past : ℕ → Place → Bool
is_past cut (Executed index) = nat_le cut index
is_past cut (Looked capture length) = nat_lt cut length
is_past cut (Quick capture) = false
is_past cut (Cut number length) = false

-- the partition's mark goes at an adoption
abbrev pub is_dropped : ℕ → ℕ → Mark → Bool
is_dropped part cut m = (m.part == part) && not m.completed && is_past cut m.place

-- some mark of the request is flagged
abbrev pub has_completed : List Mark → RequestId → Bool
has_completed marks id = list_any (λ m. m.completed && same_id m.id id) marks

-- a mark for each replayed request that isn't completed, at its index in the new log
abbrev pub replayed_marks : NodeId → ℕ → ℕ → ℕ → List Request → List Mark → List Mark
replayed_marks master part epoch index [] marks = marks
replayed_marks master part epoch index (r ∷ rs) marks =
    replayed_marks master part epoch (index + 1) rs
    (if has_completed marks r.id then marks else marks ++ executed master part epoch index r.id r.command ∷ [])

-- it is the mark of an adoption
abbrev pub is_cut : Place → Bool
is_cut (Executed index) = false
is_cut (Looked capture length) = false
is_cut (Quick capture) = false
is_cut (Cut number length) = true

-- an adoption's mark, which is never flagged
abbrev pub is_open_cut : Mark → Bool
is_open_cut m = is_cut m.place && not m.completed

-- it is a quick mark
abbrev pub is_quick : Place → Bool
is_quick (Executed index) = false
is_quick (Looked capture length) = false
is_quick (Quick capture) = true
is_quick (Cut number length) = false

-- it came to the end of the marks, whatever it is
abbrev pub in_turn : Place → Bool
in_turn (Executed index) = true
in_turn (Looked capture length) = true
in_turn (Quick capture) = false
in_turn (Cut number length) = false

-- it is flagged, or came to the end of the marks
abbrev pub is_timed : Mark → Bool
is_timed m = m.completed || in_turn m.place

-- it is that of an adoption of the partition
abbrev pub cuts_part : ℕ → Mark → Bool
cuts_part part m = is_cut m.place && (m.part == part)

-- how often the partition was adopted
abbrev pub adoptions : ℕ → List Mark → ℕ
adoptions part marks = length (filter (cuts_part part) marks)

-- what isn't completed and didn't reach the recovered log goes; then come the mark of the adoption, and behind it what was
-- replayed
abbrev pub adopted : NodeId → ℕ → ℕ → ℕ → List Request → List Mark → List Mark
adopted master part epoch cut replayed marks =
    replayed_marks master part epoch cut replayed
    (filter (λ m. not (is_dropped part cut m)) marks ++ cut_mark master part epoch (adoptions part marks + 1) cut ∷ [])

-- how often it was adopted up to an epoch
abbrev pub adoptions_to : ℕ → ℕ → List Mark → ℕ
adoptions_to part epoch marks = length (filter (λ m. cuts_part part m && nat_le m.epoch epoch) marks)

-- it is the mark of the adoption of that number
abbrev pub is_number : ℕ → Place → Bool
is_number number (Executed index) = false
is_number number (Looked capture length) = false
is_number number (Quick capture) = false
is_number number (Cut which length) = which == number

-- it is that of the partition's adoption of that number
abbrev pub cuts_at : ℕ → ℕ → Mark → Bool
cuts_at part number m = cuts_part part m && is_number number m.place

-- a mark comes directly before that of an adoption, or to the end where there is none
abbrev pub put_at : ℕ → ℕ → Mark → List Mark → List Mark
put_at part number new [] = new ∷ []
put_at part number new (m ∷ ms) = if cuts_at part number m then new ∷ m ∷ ms else m ∷ put_at part number new ms

-- A read that was answered at once is marked before the first adoption of its partition behind that of its master, which is
-- where one thread would have answered it so: a late one by a superseded master too. Where its master is adopted that is the end.
abbrev pub with_quick : Mark → List Mark → List Mark
with_quick m marks = put_at m.part (adoptions_to m.part m.epoch marks + 1) m marks

-- ---- the order

-- the order shows it
abbrev pub is_shown : Mark → Bool
is_shown m = m.completed || is_update_mark m.place

-- the marks of updates, and of each completed read the flagged mark
abbrev pub shown : List Mark → List (RequestId × Command)
shown marks = map (λ m. (m.id, m.command)) (filter is_shown marks)
