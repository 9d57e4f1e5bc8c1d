use Rattle.curp_title.proofs.Titles.{one_title}
use Rattle.curp_title.proofs.laws.a_title_has_one_node_and_header.Goals as goal

pub returns : goal.returns
returns c = one_title
