use Rattle.std.proofs.Common.{◌&&◌, ◌∙◌, nat_le, sym}
use Rattle.curp_rounds.proofs.Acks.{all_more}
use Rattle.curp_rounds.proofs.heard.Heard.reach_of_all.Goals as goal

pub loop-backup-preserved : goal.loop-backup-preserved
loop-backup-preserved c = λ long round.
    all_more c.args.self.now c.args.backups.now c.loop-backup.backup-index _ long round c.loop-backup-test.true
    ∙ (λ i. c.loop-backup.invariant long round i && (nat_le long (sym c.reach_of.ensures.long i) && nat_le round (sym c.reach_of.ensures.round i)))
    ∙ sym (c.least_reach.ensures long round)
