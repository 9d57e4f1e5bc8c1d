use Rattle.std.proofs.Common.{arith, ◌≡◌, ◌<◌, length, get_or, [], ◌∙◌}
use Rattle.std.proofs.lemmas.List.{get_or_default}
use Rattle.curp_sent.specs.Batches.{IsBatchOf, IsGapAt, firsts_from}
use Rattle.curp_base.proofs.Lists.{lent_item}
use Rattle.curp_sent.proofs.BatchLaws.{firsts_from_rise, length-firsts_from, numbered_in_batch, numbered_below}
use Rattle.curp_sent.proofs.sent.SentMessages.get_at.Goals as goal

-- the first numbers of batches that aren't empty rise
pub batch_at-requires : goal.batch_at-requires
batch_at-requires c = rw (c.deref.ensures.value, c.self.invariant.firsts_are) (firsts_from_rise 1 _ c.self.invariant.none_empty)

pub returns-in_err-index : goal.returns-in_err-index
returns-in_err-index c =
    let gap : IsGapAt (firsts_from 1 c.self.inside.batches.items) c.args.place.now 0 = rw (c.deref.ensures.value, c.self.invariant.firsts_are) at c.in_err-index.ensures.none in
    rw (c.from_residual.ensures, ← c.self.view_is) (numbered_below _ c.args.place.now gap)

-- there are as many first numbers as batches
pub index-requires-2 : goal.index-requires-2
index-requires-2 c =
    let is : IsBatchOf (firsts_from 1 c.self.inside.batches.items) c.args.place.now c.in_ok-index.index = rw (c.deref.ensures.value, c.self.invariant.firsts_are) at c.in_ok-index.ensures.some in
    omega (arith, is.in_range, length-firsts_from 1 c.self.inside.batches.items)

pub returns : goal.returns
returns c =
    let lists = c.self.inside.batches.items in
    let index = c.in_ok-index.index in
    let is : IsBatchOf (firsts_from 1 lists) c.place.inside.number index = rw (c.deref.ensures.value, c.self.invariant.firsts_are, ← c.place.view_is) at c.in_ok-index.ensures.some in
    let within : index < length lists = omega (arith, is.in_range, length-firsts_from 1 lists) in
    let first : c.index.result.now ≡ get_or (firsts_from 1 lists) index 0 = c.index.ensures ∙ rw c.self.invariant.firsts_are (get_or_default (firsts_from 1 lists) index _ 0 is.in_range) in
    let batch : c.as_slice.result.now ≡ get_or lists index [] = c.as_slice.ensures ∙ c.index-2.ensures ∙ get_or_default lists index _ [] within in
    lent_item _ _ c.get.result c.get.ensures.lookup ∙ rw (batch, first, ← c.self.view_is, ← c.place.view_is) (numbered_in_batch lists c.place.inside.number index is)
