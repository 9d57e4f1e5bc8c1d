use Rattle.std.proofs.Common.{refl, rules}
use Rattle.curp_items.proofs.Ascends.{pairs_on}
use Rattle.curp_items.proofs.More.{begins, goes_on, stops, next_pair, pair_read, key_faults, value_faults}
use Rattle.curp_items.proofs.ascending.read_pairs.Goals as goal

pub loop-init : goal.loop-init
loop-init g c =
    rw c.new-pairs.ensures.items (record {
      partway = begins (next_pair g.K.Item.format g.K.Ascending.above g.V.Item.format) (λ p. p.0) _ c.in_ok-count.count c.read.new.reader (rw c.in_ok-count.ensures refl);
      ascend = tt;
    })

pub loop-preserved : goal.loop-preserved
loop-preserved g c =
    let p = c.loop.invariant.partway in
    let next = pair_read g.K.Item.format g.K.Ascending.above g.V.Item.format c.loop.pairs.items c.loop.last c.loop.reader p.last_is c.in_ok-key.key c.in_ok-value.value c.read_key.new.reader c.read-in-loop.new.reader c.in_ok-key.ensures.reads c.in_ok-value.ensures in
    rw c.in_ok-push.ensures.items (record {
      partway = goes_on (next_pair g.K.Item.format g.K.Ascending.above g.V.Item.format) (λ p. p.0) _ c.loop.pairs.items c.loop.last c.in_ok-count.count c.loop.counter c.loop.reader p (c.in_ok-key.key, c.in_ok-value.value) c.read-in-loop.new.reader c.loop-test.true next;
      ascend = pairs_on g.K.Ord.cmp g.met.K.Ord.total c.loop.pairs.items c.loop.last c.in_ok-key.key c.in_ok-value.value c.loop.invariant.ascend p.last_is c.in_ok-key.ensures.above;
    })

pub returns-in_err-key : goal.returns-in_err-key
returns-in_err-key g c =
    let p = c.loop.invariant.partway in
    let next = key_faults g.K.Item.format g.K.Ascending.above g.V.Item.format c.loop.pairs.items c.loop.last c.loop.reader p.last_is c.in_err-key.field-0.0.place c.in_err-key.ensures.reads in
    let all = stops (next_pair g.K.Item.format g.K.Ascending.above g.V.Item.format) (λ p. p.0) _ c.loop.pairs.items c.loop.last c.in_ok-count.count c.loop.counter c.loop.reader p c.in_err-key.field-0.0.place c.loop-test.true next in
    search rules

pub returns-in_err-value : goal.returns-in_err-value
returns-in_err-value g c =
    let p = c.loop.invariant.partway in
    let next = value_faults g.K.Item.format g.K.Ascending.above g.V.Item.format c.loop.pairs.items c.loop.last c.loop.reader p.last_is c.in_ok-key.key c.read_key.new.reader c.in_err-value.field-0.0.place c.in_ok-key.ensures.reads c.in_err-value.ensures in
    let all = stops (next_pair g.K.Item.format g.K.Ascending.above g.V.Item.format) (λ p. p.0) _ c.loop.pairs.items c.loop.last c.in_ok-count.count c.loop.counter c.loop.reader p c.in_err-value.field-0.0.place c.loop-test.true next in
    search rules
