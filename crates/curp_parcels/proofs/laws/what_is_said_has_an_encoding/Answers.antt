use Rattle.curp_parcels.proofs.Formats.{parcel_had}
use Rattle.curp_parcels.proofs.laws.what_is_said_has_an_encoding.Goals as goal

pub returns : goal.returns
returns c = parcel_had
