use Rattle.curp_parcels.specs.Outgoing.{outgoing}
use Rattle.curp_parcels.proofs.Formats.{outgoing_is}
use Rattle.curp_parcels.proofs.Lengths.{no_parcel_begins}
use Rattle.curp_parcels.proofs.laws.no_saying_begins_another.Goals as goal

pub returns : goal.returns
returns c = no_parcel_begins outgoing outgoing_is
