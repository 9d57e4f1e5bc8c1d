use Rattle.std.proofs.Common.{arith, ◌≡◌, ◌<◌, length, get_or, [], ap, ◌∙◌}
use Rattle.std.proofs.lemmas.List.{get_or_default}
use Rattle.curp_sent.specs.Batches.{NumberStandsAt, IsGapAt, firsts_from}
use Rattle.curp_sent.proofs.BatchLaws.{firsts_from_rise, length-firsts_from, batch_below, sent_at-stands, sent_at-gap}
use Rattle.curp_sent.proofs.sent.SentMessages.step_at.Goals as goal

-- the first numbers of batches that aren't empty rise
pub search-requires : goal.search-requires
search-requires c = rw (c.deref.ensures.value, c.self.invariant.firsts_are) (firsts_from_rise 1 _ c.self.invariant.none_empty)

-- there are as many first numbers as batches
pub index-requires : goal.index-requires
index-requires c =
    let stands : NumberStandsAt (firsts_from 1 c.self.inside.batches.items) c.args.first c.in-Ok.index = rw (c.deref.ensures.value, c.self.invariant.firsts_are) at c.in-Ok.ensures.found in
    omega (arith, stands.in_range, length-firsts_from 1 c.self.inside.batches.items)

pub returns-in-Ok-clause-messages : goal.returns-in-Ok-clause-messages
returns-in-Ok-clause-messages c =
    let lists = c.self.inside.batches.items in
    let stands : NumberStandsAt (firsts_from 1 lists) c.args.first c.in-Ok.index = rw (c.deref.ensures.value, c.self.invariant.firsts_are) at c.in-Ok.ensures.found in
    let within : c.in-Ok.index < length lists = omega (arith, stands.in_range, length-firsts_from 1 lists) in
    c.as_slice.ensures ∙ c.index.ensures ∙ get_or_default lists c.in-Ok.index _ [] within ∙ rw (← c.self.view_is) (sent_at-stands 1 lists c.args.first c.in-Ok.index c.self.invariant.none_empty stands)

pub returns-in-Ok-clause-fits : goal.returns-in-Ok-clause-fits
returns-in-Ok-clause-fits c =
    let lists = c.self.inside.batches.items in
    let index = c.in-Ok.index in
    let stands : NumberStandsAt (firsts_from 1 lists) c.args.first index = rw (c.deref.ensures.value, c.self.invariant.firsts_are) at c.in-Ok.ensures.found in
    let within : index < length lists = omega (arith, stands.in_range, length-firsts_from 1 lists) in
    let batch : c.as_slice.result.now ≡ get_or lists index [] = c.as_slice.ensures ∙ c.index.ensures ∙ get_or_default lists index _ [] within in
    omega (arith, stands.is, ap length batch, batch_below 1 lists index within, c.self.invariant.next_is, c.self.invariant.fits)

pub returns-in-Err-clause-messages : goal.returns-in-Err-clause-messages
returns-in-Err-clause-messages c =
    let gap : IsGapAt (firsts_from 1 c.self.inside.batches.items) c.args.first c.in-Err.field-0 = rw (c.deref.ensures.value, c.self.invariant.firsts_are) at c.in-Err.ensures.absent in
    rw (← c.self.view_is) (sent_at-gap _ c.args.first c.in-Err.field-0 gap)
