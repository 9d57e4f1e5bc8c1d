use Rattle.curp_nodes.specs.Refusals.{master_obeys}
use Rattle.curp_nodes.proofs.master.MasterNodeCore.on_order.Goals as goal

pub returns-clause-refused : goal.returns-clause-refused
returns-clause-refused c = λ some. absurd (some (master_obeys c.args.self.now c.args.order.now))
