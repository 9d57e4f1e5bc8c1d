-- What other crates may cite of the proofs of this one; `src/lib.rt` and `src/quiet.rt` have its laws.

-- a list with one item more is longer by one
pub use Rattle.curp_law_served.proofs.Turns.{length_push}
