-- What other crates may cite of the proofs of this one; `src/lib.rt` has its laws.

-- steps that are legal as lists are a run of the journals
pub use Rattle.curp_law_weave.proofs.Weaving.{legal_runs}
-- ---- how nodes begin

-- a client of the header's world begins so
pub use Rattle.curp_law_weave.proofs.Openings.{client_opens}
-- so does the manager
pub use Rattle.curp_law_weave.proofs.Openings.{manager_opens}
-- so does a master of the header's world
pub use Rattle.curp_law_weave.proofs.Openings.{master_opens}
-- so does a backup of it
pub use Rattle.curp_law_weave.proofs.Openings.{backup_opens}
-- so does a witness of it
pub use Rattle.curp_law_weave.proofs.Openings.{witness_opens}
-- a master that isn't there at first comes fresh
pub use Rattle.curp_law_weave.proofs.Openings.{master_comes}
-- so does a backup
pub use Rattle.curp_law_weave.proofs.Openings.{backup_comes}
-- so does a witness
pub use Rattle.curp_law_weave.proofs.Openings.{witness_comes}
-- ---- journals of one kind of node

-- a journal of a client is one of the machine of all kinds
pub use Rattle.curp_law_weave.proofs.ByKind.{client_journal}
-- so is the manager's
pub use Rattle.curp_law_weave.proofs.ByKind.{manager_journal}
-- so is a master's
pub use Rattle.curp_law_weave.proofs.ByKind.{master_journal}
-- so is a backup's
pub use Rattle.curp_law_weave.proofs.ByKind.{backup_journal}
-- so is a witness's
pub use Rattle.curp_law_weave.proofs.ByKind.{witness_journal}
-- ---- what a run shows of its journals

-- the steps order a node what its journal was ordered
pub use Rattle.curp_law_weave.proofs.Shown.{orders_are}
-- they have the invocations of a client's journal
pub use Rattle.curp_law_weave.proofs.Shown.{invocations_are}
-- they have the recoveries of the manager's journal
pub use Rattle.curp_law_weave.proofs.Shown.{recoveries_are}
-- the recoveries among a journal's orders are those of its items
pub use Rattle.curp_law_weave.proofs.Shown.{items_recover}
-- what completed in a journal completes in the run
pub use Rattle.curp_law_weave.proofs.Shown.{completed_are}
-- only nodes stop whose journals have a last stop
pub use Rattle.curp_law_weave.proofs.Shown.{stopped_are}
