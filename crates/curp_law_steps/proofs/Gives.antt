-- What other crates may cite of the proofs of this one; `src/lib.rt` and `src/trip.rt` have its laws.

-- ---- steps

-- a step is made exactly where the messages are light enough and nothing refuses it
pub use Rattle.curp_law_steps.proofs.Results.{done}
-- the result of a step is the one that its causes give
pub use Rattle.curp_law_steps.proofs.Results.{result}
-- a step leaves all nodes that are there as they were, but for the one to which its deed gives something
pub use Rattle.curp_law_steps.proofs.Moving.{only_moves}
-- all nodes that are there, but for the one that gets something, have the states that they had
pub use Rattle.curp_law_steps.proofs.Moving.{OnlyMoves}
-- the deed gives that node nothing
pub use Rattle.curp_law_steps.proofs.Moving.{Spares}
-- a step that is no stop leaves what is stopped as it was
pub use Rattle.curp_law_steps.proofs.Moving.{stops_only_by_stop}
-- a deed that is made with a result has that result
pub use Rattle.curp_law_steps.proofs.Moving.{its_result}
-- ---- clients, and the opening

-- a message keeps a property of a client, where a configuration that it carries may be taken
pub use Rattle.curp_law_steps.proofs.Inputs.{heard_keeps}
-- an order keeps a property of a client, where a request may be sent for the first time
pub use Rattle.curp_law_steps.proofs.Inputs.{ordered_keeps}
-- each hash lies in the range of some partition at the opening
pub use Rattle.curp_law_steps.proofs.OpeningOwners.{opening_owner}
