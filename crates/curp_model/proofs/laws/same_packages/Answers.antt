use Rattle.curp_model.proofs.Packages.{package_eq-Decides}
use Rattle.curp_model.proofs.laws.same_packages.Goals as goal

pub returns : goal.returns
returns c = package_eq-Decides
