use Rattle.curp_sent.proofs.BatchLaws.{firsts_from_rise}
use Rattle.curp_sent.proofs.sent.SentMessages.place_of.Goals as goal

-- the first numbers of batches that aren't empty rise
pub batch_of-requires : goal.batch_of-requires
batch_of-requires c = rw (c.deref.ensures.value, c.self.invariant.firsts_are) (firsts_from_rise 1 _ c.self.invariant.none_empty)
