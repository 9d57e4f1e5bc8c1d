-- An example is played by computing its text.
use Rattle.std.proofs.Common.{◌≡◌, ◌∙◌}
use Rattle.std.specs.Fmt.{digits}
use Rattle.curp_cmd.specs.Hash.{hash_of}
use Rattle.curp_cmd.specs.Store.{applied}
use Rattle.curp_msg.specs.Weight.{weight_of}
use Rattle.curp_report.specs.Text.{step_text, order_text}
use Rattle.curp_model.specs.Backup.{append, fence, on_backup}
use Rattle.curp_model.specs.Client.{invoke, retry, on_client, client_ordered}
use Rattle.curp_model.specs.Log.{after_entry}
use Rattle.curp_model.specs.Manager.{recover, replace, on_recovered, on_prepared, migrate, on_taken, on_given, expire, nudge, on_manager, manager_ordered}
use Rattle.curp_model.specs.Master.{on_update, on_read, settle, on_appended, on_collected, on_serving, serving_ordered}
use Rattle.curp_model.specs.Recovery.{on_recover, on_master, master_ordered}
use Rattle.curp_model.specs.Table.{check, merge}
use Rattle.curp_model.specs.Witness.{hold, gc, on_witness}
use Rattle.curp_model.specs.World.{opening, weight, step}
use Rattle.curp_rows.specs.Example.{Example, Plays}
use Rattle.curp_rows.proofs.ListedWorld.{listed_text, same_text}

-- what a run computes with is open where this is
unfoldable pub everything : Unit {0}
unfolding digits applied hash_of weight_of step_text order_text hold gc on_witness append fence on_backup check merge after_entry on_update on_read settle on_appended on_collected on_serving serving_ordered on_recover on_master master_ordered invoke retry on_client client_ordered recover replace on_recovered on_prepared migrate on_taken on_given expire nudge on_manager manager_ordered opening weight step
everything = tt

pub by_computing : (e : Example) → listed_text e.header e.steps ≡ e.text → Plays e
by_computing e computes = same_text e.header e.steps ∙ computes
