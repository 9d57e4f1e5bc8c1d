use Rattle.std.proofs.Common.{refl}
use Rattle.curp_cmd.specs.Node.{client_node, master_node}
use Rattle.curp_msg.specs.Input as input
use Rattle.curp_msg.specs.declared.machine.Local.TheVariants as local
use Rattle.curp_msg.specs.declared.script.Step.TheVariants as steps
use Rattle.curp_model.specs.World.{step}
use Rattle.curp_law_served.proofs.QuietLaws.{delivers_on, none_left}
use Rattle.curp_law_served.proofs.Starts.{collect_calm, fetch_calm, gave, invoke_calm, sync_calm}
use Rattle.curp_law_served.proofs.quiet.quiet_worlds_complete.Goals as goal

pub returns : goal.returns
returns h = record {
  delivers = λ w done x at made c q m cl calm grounds. delivers_on w done x at made c q m cl calm grounds;
  invokes = λ w done command low made c q m cl calm empty config numbers owns.
      invoke_calm w (step w (steps.Invoke 1 command)).world done low c q m cl calm command empty config numbers owns (gave w (steps.Invoke 1 command) (client_node 1) (input.Local (local.Invoke command)) refl made);
  syncs = λ w done low c q m cl calm grounds made. sync_calm w (step w (steps.Sync q)).world done low c q m cl calm grounds (gave w (steps.Sync q) (master_node q) (input.Local local.Sync) refl made);
  collects = λ w done low c q m cl calm grounds made. collect_calm w (step w (steps.Collect q)).world done low c q m cl calm grounds (gave w (steps.Collect q) (master_node q) (input.Local local.Collect) refl made);
  fetches = λ w done low c q m cl calm made. fetch_calm w (step w (steps.Fetch 1)).world done low c q m cl calm (gave w (steps.Fetch 1) (client_node 1) (input.Local local.Fetch) refl made);
  at_end = λ w c q m cl calm some. none_left w c q m cl calm some;
}
