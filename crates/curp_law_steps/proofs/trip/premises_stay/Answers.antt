use Rattle.curp_law_steps.proofs.Apart.{given_apart, opening_apart, owner_apart}
use Rattle.curp_law_steps.proofs.Numbers.{given_used}
use Rattle.curp_law_steps.proofs.trip.premises_stay.Goals as goal

pub returns : goal.returns
returns c = record {
  numbers_at_first = λ fast protocol config. tt;
  numbers_stay = given_used;
  apart_at_first = opening_apart;
  apart_stay = given_apart;
  owner_apart = owner_apart;
}
