-- What other crates may cite of the proofs of this one; `src/lib.rt` and `src/line.rt` have its laws.

-- what clients saw is a history, in every run
pub use Rattle.curp_law_linear.proofs.Laws.{history_all}
-- the order is an order of the history, in every run
pub use Rattle.curp_law_linear.proofs.Laws.{order_all}
-- a list stands in itself
pub use Rattle.curp_law_linear.proofs.Growing.{stands_self}
