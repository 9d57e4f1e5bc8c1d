use Rattle.std.proofs.Common.{◌≡◌, take}
use Rattle.curp_slots.specs.Collection.{suspected_of, what_remains}
use Rattle.curp_slots.specs.Register.{held_by}
use Rattle.curp_slots.proofs.register.suspects_at.Given as goal

-- the suspects so far
abbrev pub invariant-loop-id : goal.invariant-loop-id
invariant-loop-id l = l.suspects.items ≡ suspected_of (what_remains l.listed (held_by l.kept (take l.id-index l.index)))
