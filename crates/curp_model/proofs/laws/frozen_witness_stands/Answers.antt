use Rattle.curp_model.proofs.Witnesses.{stands, freezes, keeps}
use Rattle.curp_model.proofs.laws.frozen_witness_stands.Goals as goal

pub returns : goal.returns
returns c = record { stands = stands; freezes = freezes; keeps = keeps }
