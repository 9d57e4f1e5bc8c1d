-- Nodes of one kind (this project's own).
use Rattle.std.specs.Prelude.{◌≡◌, ℕ, ◌+◌, List, [], ◌++◌, map}
use Rattle.curp_base.specs.Words.{At, Each}
use Rattle.curp_model.specs.Master.{beginning}
use Rattle.curp_model.specs.Ranges.{opening_range}
use Rattle.curp_model.specs.Recovery.{MasterStage, Serving}
use Rattle.curp_model.specs.Witness.{WitnessState, fresh_witness}
use Rattle.curp_msg.specs.Moved.{Node}
use Rattle.curp_msg.specs.declared.config.PartConfig.{PartConfig}

-- nodes of one kind stand in the order of their numbers, from 1
abbrev pub HasNumbers : {S : Type 0} → List (Node S) → Type 0
HasNumbers {S} nodes = (k : ℕ) (x : Node S) → At nodes k x → x.number ≡ k + 1

-- the states of nodes
abbrev pub states : {S : Type 0} → List (Node S) → List S
states nodes = map (λ x. x.state) nodes

-- the master of one of so many partitions, by its entry, before anything was asked
abbrev pub begins : ℕ → PartConfig → MasterStage
begins parts c =
    Serving (beginning c.part 1 1 c.backups c.witnesses (opening_range parts c.part).lo (opening_range parts c.part).hi [] 0)

-- witnesses that are made ahead: they are fresh, and numbered behind those that are there
pub record IsAhead (witnesses ahead : List (Node WitnessState)) (sets ways : ℕ) : Type 0 where
  pub numbered : HasNumbers (witnesses ++ ahead)
  pub fresh : Each (λ (x : Node WitnessState). x.state ≡ fresh_witness sets ways) ahead
