use Rattle.std.proofs.Common.{◌≡◌, take}
use Rattle.curp_slots.specs.Hashed.{least_places}
use Rattle.curp_slots.proofs.register.places_by_hash.Given as goal

-- the places so far are sorted
abbrev pub invariant-loop-at : goal.invariant-loop-at
invariant-loop-at l = l.sorted.entries ≡ least_places l.kept (take l.at-index l.index)
