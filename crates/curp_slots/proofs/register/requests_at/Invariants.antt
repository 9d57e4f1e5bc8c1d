use Rattle.std.proofs.Common.{◌≡◌, ◌<◌, ◌++◌, ℕ, length, map}
use Rattle.std.specs.BTreeMap.{values}
use Rattle.curp_base.specs.Words.{Each}
use Rattle.curp_slots.specs.Hashed.{request_at}
use Rattle.curp_slots.proofs.register.requests_at.Given as goal

-- the requests so far, and those that are left
abbrev pub invariant-loop-at : goal.invariant-loop-at
invariant-loop-at l = record {
  so_far : l.requests.items ++ map (request_at l.kept) l.at-iterator ≡ map (request_at l.kept) (values l.places);
  within : Each (λ (at : ℕ). at < length l.kept) l.at-iterator;
}
