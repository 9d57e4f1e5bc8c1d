use Rattle.std.proofs.Common.{List, ℕ, refl, sym, subst}
use Rattle.curp_disk.specs.Calls.{seen_of}
use Rattle.curp_durable.proofs.Settling.{some_commit}
use Rattle.curp_durable.specs.Journal.{HoldsUpTo, IsSettled}
use Rattle.curp_durable.specs.Stopping.{StopLeaves, stop_seen}
use Rattle.curp_manage.proofs.Headers.{title_is}
use Rattle.curp_manage.proofs.Left.{of_memory}
use Rattle.curp_model.specs.Manager.{ManagerState, opening_manager}
use Rattle.curp_model.specs.World.{shape_of}
use Rattle.curp_config.specs.Machine.{manager_machine}
use Rattle.curp_manage.proofs.managing.open_again.Goals as goal

-- the journal is there, so nothing but memory can be wanting
pub only_memory-requires : goal.only_memory-requires
only_memory-requires c =
    let journal = c.requires.journal in
    let seen = seen_of c.args.disk.played in
    let is = title_is c.args.header.now c.manager.result c.title_of-title.result c.title_of-title.ensures c.manager.ensures in
    let holds = some_commit seen c.title_of-title.result journal.0 journal.1 (subst (λ (t : List ℕ). HoldsUpTo seen t journal.0 journal.1) (sym is) journal.2) in
    of_memory c.in-Err.failed.error (c.in-Err.ensures.journal_err journal.0 refl holds) (c.in-Err.ensures.sound_err c.requires.disarmed).0

pub returns-in-Ok : goal.returns-in-Ok
returns-in-Ok c = λ inputs commit journal.
    let h = c.args.header.now in
    let d = c.in-Ok.manager in
    let seen = seen_of c.args.disk.played in
    let title = c.title_of-title.result in
    let is = title_is h c.manager.result title c.title_of-title.ensures c.manager.ensures in
    let at = subst (λ (t : List ℕ). HoldsUpTo seen t inputs commit) (sym is) journal in
    let settled = c.in-Ok.ensures.journal inputs refl (some_commit seen title inputs commit at) in
    let of_node = subst (λ (n : ManagerState). IsSettled manager_machine stop_seen StopLeaves d.disk d.stand d.commit title n inputs) c.in_ok-node.ensures settled in
    record {
      fresh = c.in-Ok.ensures.fresh;
      limit = c.in-Ok.ensures.limit;
      keeps = subst (λ (t : List ℕ). IsSettled manager_machine stop_seen StopLeaves d.disk d.stand d.commit t (opening_manager (shape_of h)) inputs) is of_node;
      commit_is = c.in-Ok.ensures.commit inputs commit refl at;
      disarmed = c.in-Ok.ensures.sound c.requires.disarmed;
    }
