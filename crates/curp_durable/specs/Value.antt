-- A durable node as its callers see it.
use Rattle.std.specs.Prelude.{ℕ, Bool}
use Rattle.curp_durable.specs.Standing.{Standing}

-- its disk, where the node stands, the place of the last commit byte, how many bytes the journal may have, and whether it may be
-- used no more
pub record DurableParts (N D : Type 0) : Type 0 where
  pub disk : D
  pub stand : Standing N
  pub commit : ℕ
  pub size_limit : ℕ
  pub spent : Bool

-- where a node stood, and the place of the last commit byte then
pub record CheckpointParts (N : Type 0) : Type 0 where
  pub stand : Standing N
  pub commit : ℕ

-- where it stands now
abbrev pub checkpoint_of : {N D : Type 0} → DurableParts N D → CheckpointParts N
checkpoint_of d = record { stand = d.stand; commit = d.commit }
