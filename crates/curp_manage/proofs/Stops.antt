-- A disk that is armed within some calls doesn't make them all.
use Rattle.std.proofs.Common.{◌≡◌, ℕ, ◌-◌, ◌≤◌, nat_lt, false, List, [], ◌∷◌, length, Some, sym, ap, ◌∙◌, arith}
use Rattle.std.proofs.lemmas.Bool.{cond-false, ltb-false}
use Rattle.curp_disk.specs.InMemory.{StopParts, StopRan, one_less, stops}
use Rattle.curp_disk.specs.declared.disk.Did.{Did}
use Rattle.curp_disk.specs.declared.disk.Did.TheVariants as did
use Rattle.curp_disk.specs.declared.medium.Call.{Call}
use Rattle.curp_disk.specs.declared.medium.Call.TheVariants as call
use Rattle.curp_durable.specs.Running.{AllMade, RanCall}
use Rattle.curp_durable.specs.Stopping.{StopSynced, StopWrote}

as_stop : (old new : StopParts) (c : Call) (answer : Did) → RanCall StopWrote StopSynced old c answer new → StopRan old c answer new
as_stop old new (call.Write at bytes) answer ran = ran
as_stop old new call.Sync answer ran = ran

pub not_all : (calls : List Call) (old new : StopParts) (k : ℕ) → old.armed ≡ Some k → 1 ≤ k → k ≤ length calls
    → AllMade StopWrote StopSynced calls old new → ⊥
not_all [] old new k armed first last ran = omega arith
not_all (c ∷ calls) old new k armed first last ran =
    let mid = ran.1 in
    let r = as_stop old mid c (did.Done ran.0) ran.2 in
    let stop : nat_lt k 2 ≡ false = ap stops (sym armed) ∙ r.0.0 in
    let two : 2 ≤ k = ltb-false k 2 stop in
    let armed_next : mid.armed ≡ Some (k - 1) = r.1 ∙ ap one_less armed ∙ cond-false (nat_lt k 2) (Some k) (Some (k - 1)) stop in
    not_all calls mid new (k - 1) armed_next (omega (arith, two)) (omega arith) ran.3
