use Rattle.curp_parcels.specs.Parcels.{incoming}
use Rattle.curp_parcels.proofs.Formats.{incoming_is}
use Rattle.curp_parcels.proofs.Lengths.{no_parcel_begins}
use Rattle.curp_parcels.proofs.laws.no_arrival_begins_another.Goals as goal

pub returns : goal.returns
returns c = no_parcel_begins incoming incoming_is
