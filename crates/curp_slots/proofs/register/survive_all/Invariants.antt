use Rattle.std.proofs.Common.{◌≡◌, ◌++◌, map, take, drop, vec_capacity}
use Rattle.curp_model.specs.Witness.{survives}
use Rattle.curp_slots.proofs.register.survive_all.Given as goal

-- the requests so far are done, and the others are as they were
abbrev pub invariant-loop-at : goal.invariant-loop-at
invariant-loop-at l = record {
  so_far : l.kept.items ≡ map survives (take l.at l.initial.kept.items) ++ drop l.at l.initial.kept.items;
  room : vec_capacity l.kept ≡ vec_capacity l.initial.kept;
}
