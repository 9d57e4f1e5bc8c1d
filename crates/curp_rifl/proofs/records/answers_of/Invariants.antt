use Rattle.std.proofs.Common.{◌≡◌, map, take}
use Rattle.curp_rifl.specs.Records.{Record}
use Rattle.curp_rifl.proofs.records.answers_of.Given as goal

-- the answers so far
abbrev pub invariant-loop-id : goal.invariant-loop-id
invariant-loop-id l = l.answers.items ≡ map (λ (e : Record). (e.0, e.1.answer)) (take l.id-index l.records)
