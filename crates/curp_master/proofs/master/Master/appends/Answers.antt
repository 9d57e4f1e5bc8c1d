use Rattle.std.proofs.Common.{◌≡◌, ◌∙◌, ◌≤◌, ◌∷◌, ◌++◌, List, [], ap, drop, map, take, slice_index_or, rules}
use Rattle.curp_cmd.specs.declared.node.NodeId.{NodeId}
use Rattle.curp_cmd.specs.declared.node.NodeKind.TheVariants.{Manager}
use Rattle.curp_model.specs.Master.{append_to, from_backup}
use Rattle.curp_rounds.specs.Backups.{stored_by_all}
use Rattle.curp_rounds.specs.Phases.{phase_of}
use Rattle.curp_rounds.proofs.Acks.{least_below}
use Rattle.curp_master.specs.Rounds.{at_round, in_phase}
use Rattle.curp_msg.specs.declared.message.Message.{Message}
use Rattle.curp_master.proofs.Suffixes.{lacks, map_more}
use Rattle.curp_master.proofs.master.Master.appends.Goals as goal

pub append_to-requires : goal.append_to-requires
append_to-requires c =
    let stored : c.least_length-stored.result ≡ stored_by_all c.args.self.now.state.acknowledged c.deref-backup-items.result.now = search rules in
    rw stored (least_below c.args.self.now.state.acknowledged c.deref-backup-items.result.now c.loop-backup.backup-index _ c.loop-backup-test.true)

pub loop-backup-preserved : goal.loop-backup-preserved
loop-backup-preserved c =
    let m = c.args.self.now in
    let b : NodeId = slice_index_or c.deref-backup-items.result.now c.loop-backup.backup-index (record { kind = Manager; number = 0 }) in
    let stored : c.least_length-stored.result ≡ stored_by_all m.state.acknowledged c.deref-backup-items.result.now = search rules in
    let below : c.least_length-stored.result ≤ (from_backup m.state.acknowledged b).length =
    rw stored (least_below m.state.acknowledged c.deref-backup-items.result.now c.loop-backup.backup-index _ c.loop-backup-test.true) in
    let lacking : c.in_ok-lacking.lacking.items ≡ drop c.least_length-stored.result (m.state.log ++ c.args.more.now) = search rules in
    let sends = append_to m.number (at_round (in_phase m (phase_of c.args.phase.now)).state c.args.round c.args.more.now) in
    let one : c.in_ok-append_to.field-0 ≡ sends b =
    search (lacks m.number m.state c.args.round c.least_length-stored.result c.args.more.now c.in_ok-lacking.lacking.items b lacking below, rules) in
    c.in_ok-push.ensures.items
    ∙ ap (λ (ms : List Message). ms ++ c.in_ok-append_to.field-0 ∷ []) c.loop-backup.invariant
    ∙ ap (λ (message : Message). map sends (take c.loop-backup.backup-index c.deref-backup-items.result.now) ++ message ∷ []) one
    ∙ map_more sends c.deref-backup-items.result.now c.loop-backup.backup-index _ c.loop-backup-test.true
