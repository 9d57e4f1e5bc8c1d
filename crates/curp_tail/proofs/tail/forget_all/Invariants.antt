use Rattle.std.proofs.Common.{◌≡◌, ◌==◌, ℕ, nat_eq, take}
use Rattle.std.specs.HashMap.{get}
use Rattle.std.specs.List.{list_any}
use Rattle.curp_tail.specs.Kept.{without_last}
use Rattle.curp_tail.proofs.tail.forget_all.Given as goal

-- the hashes so far are done
abbrev pub invariant-loop-hash : goal.invariant-loop-hash
invariant-loop-hash l = (hash : ℕ) → get nat_eq l.lasts hash ≡ without_last (list_any (λ h. h == hash) (take l.hash-index l.hashes)) l.index (get nat_eq l.initial.lasts hash)
