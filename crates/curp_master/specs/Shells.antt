-- A master without its log, before it serves.
use Rattle.std.specs.Prelude.{ℕ, List}
use Rattle.curp_cmd.specs.declared.node.NodeId.{NodeId}

-- which master of which partition it is, and its lists
pub record Shell : Type 0 where
  pub number : ℕ
  pub part : ℕ
  pub epoch : ℕ
  pub version : ℕ
  pub backups : List NodeId
  pub witnesses : List NodeId
