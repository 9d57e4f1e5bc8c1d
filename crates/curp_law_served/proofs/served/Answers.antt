use Rattle.curp_base.proofs.Lists.{Each-weaker}
use Rattle.curp_law_served.specs.Served.{StopsMaster, after, begun}
use Rattle.curp_law_served.proofs.Followed.{IsServedStep, stops_master}
use Rattle.curp_law_served.proofs.Laws.{all_served, command_served, command_shown, run_of, served_order, served_push}
use Rattle.curp_law_served.proofs.served.Goals as goal

pub returns : goal.returns
returns h = record {
  steps = λ f every commands are. let all = all_served f are.some are.few every commands are.keys in (run_of f are.some are.few (after f every commands) all.its, all.is);
  stops = λ f every commands are. Each-weaker IsServedStep StopsMaster stops_master (after f every commands).steps (all_served f are.some are.few every commands are.keys).its;
  history = λ f every commands are free. ((all_served f are.some are.few every commands are.keys).rested free).history;
  order = λ f every commands are free. served_order f are.some are.few every commands are.keys free;
  pushes = λ f every commands command free. served_push every commands command (begun f) free;
  completes = λ f every commands command are key free still. (command_served f are.some are.few every commands are.keys command key free).0 still;
  answers = λ f every commands command are key free a is. (command_served f are.some are.few every commands are.keys command key free).1 a is;
  keeps = λ f every commands command are key free. (command_shown f are.some are.few every commands are.keys command key free).0;
  shows = λ f every commands command are key free a is. (command_shown f are.some are.few every commands are.keys command key free).1 a is;
}
