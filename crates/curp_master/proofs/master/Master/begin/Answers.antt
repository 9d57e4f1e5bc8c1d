use Rattle.std.proofs.Common.{◌≡◌, List, [], length, ap, ◌∙◌}
use Rattle.curp_model.specs.Master.{Acknowledged, Open}
use Rattle.curp_master_log.specs.MasterLog.{KeptLog, kept_log_of}
use Rattle.curp_rounds.specs.Backups.{all_at, all_set, stored_by_all}
use Rattle.curp_rounds.proofs.Acks.{set_at}
use Rattle.curp_master.proofs.KeptUp.{from_start}
use Rattle.curp_master.proofs.master.Master.begin.Goals as goal

pub returns-clause-state : goal.returns-clause-state
returns-clause-state c =
    let its = c.shell.view_is in
    let round = c.args.round in
    let kept : c.new.result.kept ≡ kept_log_of c.args.log c.least_length-synced.result [] = c.new.ensures in
    let long : c.len-settled.result ≡ length c.args.log.entries = c.len-settled.ensures.value in
    let all : c.set_all.new.self ≡ all_at c.args.shell.backups (length c.args.log.entries) round =
    c.set_all.ensures
    ∙ ap (λ (xs : List Acknowledged). all_set xs c.len-settled.result round) c.shell.invariant
    ∙ set_at c.shell.inside.backups.items c.len-settled.result round
    ∙ (λ i. all_at (its i).backups (long i) round)
    in
    λ i. record {
      part = (its i).part;
      epoch = (its i).epoch;
      version = (its i).version;
      backups = (its i).backups;
      witnesses = (its i).witnesses;
      lo = (kept i).lo;
      hi = (kept i).hi;
      log = (kept i).entries;
      acknowledged = all i;
      settled = long i;
      round = round;
      captures = c.new-2.ensures.waiting i;
      captured = c.new-2.ensures.count i;
      held = c.new-3.ensures i;
      free = (kept i).free;
      queue = c.new-4.ensures.waiting i;
      phase = Open;
    }

pub invariant_of-result : goal.invariant_of-result
invariant_of-result c =
    from_start
    (ap (λ (j : KeptLog). j.synced) c.new.ensures ∙ c.least_length-synced.ensures ∙ (λ i. stored_by_all (c.so_far.ensures i) (c.deref.ensures.value i)))
    c.new-2.ensures.last
