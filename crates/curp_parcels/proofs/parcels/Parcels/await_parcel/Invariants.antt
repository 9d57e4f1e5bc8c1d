-- No parcel stands among the bytes that were ahead before the source was asked, and no byte was passed over.
use Rattle.std.proofs.Common.{◌≡◌, ◌+◌, ◌-◌, ℕ, List, length, true}
use Rattle.curp_io.specs.Streams.{SameCount}
use Rattle.curp_parcels.specs.Parcels.{parcel_limit}
use Rattle.curp_parcels.specs.Reading.{StandsFirst}
use Rattle.curp_parcels.proofs.Reading.{Still}
use Rattle.curp_parcels.proofs.parcels.Parcels.await_parcel.Given as goal

abbrev pub invariant-fills : goal.invariant-fills
invariant-fills g l = record {
  still : Still (g.S.Source.tells l.fn.source ≡ true) l.fn.self l.self (g.S.Source.left l.fn.source) (g.S.Source.left l.source);
  waits : (content rest : List ℕ) → StandsFirst l.fn.self.ahead content rest → (l.source ≡ l.fn.source) × (l.self ≡ l.fn.self);
  tells : g.S.Source.tells l.fn.source ≡ true → g.S.Source.tells l.source ≡ true;
  same_count : SameCount (g.S.Source.faults l.fn.source) (g.S.Source.faults l.source);
}

abbrev pub decreases-fills : goal.decreases-fills
decreases-fills g l = parcel_limit + 4 - length l.self.ahead
