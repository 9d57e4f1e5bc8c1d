-- The bounds of a serving master, by the facts that every script keeps.
use Rattle.std.proofs.Common.{◌≤◌, ℕ, Bool, true, false, cond, List, [], ◌∷◌, length, map, arith}
use Rattle.curp_base.specs.Words.{Each}
use Rattle.curp_cmd.specs.Node.{same_node}
use Rattle.curp_cmd.specs.declared.node.NodeId.{NodeId}
use Rattle.curp_facts.specs.Nodes.{AcknowledgedOk, ServingOk}
use Rattle.curp_model.specs.Master.{Acknowledged, MasterState, from_backup, least}
use Rattle.curp_model.specs.World.{World}
use Rattle.curp_law_served.specs.Grounds.{Bounded}

-- what it knows of a backup is within its log and its rounds
pub record Within (m : MasterState) (a : Acknowledged) : Type 0 where
  pub length : a.length ≤ length m.log
  pub round : a.round ≤ m.round

from_within : (w : World) (m : MasterState) (acks : List Acknowledged) → Each (AcknowledgedOk w m) acks → (b : NodeId)
    → Within m (from_backup acks b)
from_within w m [] all b = record { length = omega arith; round = omega arith }
from_within w m (a ∷ rest) all b = by (same_node a.backup b) (from_within w m rest all.1 b)
  where
    by : (t : Bool) → Within m (from_backup rest b) → Within m (cond t a (from_backup rest b))
    by true r = record { length = all.0.within; round = all.0.begun }
    by false r = r

least_low : (f : NodeId → ℕ) (bs : List NodeId) (top : ℕ) → ((b : NodeId) → f b ≤ top) → least (map f bs) ≤ top
least_low f [] top low = omega arith
least_low f (b ∷ []) top low = low b
least_low f (b ∷ k ∷ rest) top low = omega (arith, low b)

pub bounded : (w : World) (node : NodeId) (m : MasterState) → ServingOk w node m → 1 ≤ length m.backups → Bounded m
bounded w node m ok some = record {
  some = some;
  within = least_low (λ b. (from_backup m.acknowledged b).length) m.backups (length m.log) (λ b. (from_within w m m.acknowledged ok.acknowledged b).length);
  begun = λ b. (from_within w m m.acknowledged ok.acknowledged b).round;
}
