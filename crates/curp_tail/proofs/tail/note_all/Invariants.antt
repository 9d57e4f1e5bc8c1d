use Rattle.std.proofs.Common.{◌≡◌, ◌+◌, ◌≤◌, ◌==◌, ℕ, nat_eq, cond, take, Some}
use Rattle.std.specs.HashMap.{get, spare}
use Rattle.std.specs.List.{list_any}
use Rattle.curp_tail.proofs.tail.note_all.Given as goal

-- the hashes so far are noted
abbrev pub invariant-loop-at : goal.invariant-loop-at
invariant-loop-at l = record {
  so_far : (hash : ℕ) → get nat_eq l.lasts hash ≡ cond (list_any (λ h. h == hash) (take l.at l.hashes)) (Some l.index) (get nat_eq l.initial.lasts hash);
  room : spare l.initial.lasts ≤ spare l.lasts + l.at;
}
