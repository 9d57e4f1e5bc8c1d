use Rattle.std.proofs.Common.{[], refl, rules}
use Rattle.curp_items.proofs.More.{begins, goes_on, stops, ends, next_pair, pair_read, key_faults, value_faults}
use Rattle.curp_items.proofs.ascending.skip_pairs.Goals as goal

pub loop-init : goal.loop-init
loop-init g c = ([], begins (next_pair g.K.Item.format g.K.Ascending.above g.V.Item.format) (λ p. p.0) _ c.in_ok-end.end c.read.new.reader (rw c.in_ok-end.ensures refl))

pub loop-preserved : goal.loop-preserved
loop-preserved g c =
    let p = c.loop.invariant.1 in
    let next = pair_read g.K.Item.format g.K.Ascending.above g.V.Item.format c.loop.invariant.0 c.loop.last c.loop.reader p.last_is c.in_ok-key.key c.in_ok-read.field-0 c.read_key.new.reader c.read-in-loop.new.reader c.in_ok-key.ensures.reads c.in_ok-read.ensures in
    (_, goes_on (next_pair g.K.Item.format g.K.Ascending.above g.V.Item.format) (λ p. p.0) _ c.loop.invariant.0 c.loop.last c.in_ok-end.end c.loop.counter c.loop.reader p (c.in_ok-key.key, c.in_ok-read.field-0) c.read-in-loop.new.reader c.loop-test.true next)

pub returns-in_err-key : goal.returns-in_err-key
returns-in_err-key g c =
    let p = c.loop.invariant.1 in
    let next = key_faults g.K.Item.format g.K.Ascending.above g.V.Item.format c.loop.invariant.0 c.loop.last c.loop.reader p.last_is c.in_err-key.field-0.0.place c.in_err-key.ensures.reads in
    let all = stops (next_pair g.K.Item.format g.K.Ascending.above g.V.Item.format) (λ p. p.0) _ c.loop.invariant.0 c.loop.last c.in_ok-end.end c.loop.counter c.loop.reader p c.in_err-key.field-0.0.place c.loop-test.true next in
    search rules

pub returns-in_err-read : goal.returns-in_err-read
returns-in_err-read g c =
    let p = c.loop.invariant.1 in
    let next = value_faults g.K.Item.format g.K.Ascending.above g.V.Item.format c.loop.invariant.0 c.loop.last c.loop.reader p.last_is c.in_ok-key.key c.read_key.new.reader c.in_err-read.field-0.0.place c.in_ok-key.ensures.reads c.in_err-read.ensures in
    let all = stops (next_pair g.K.Item.format g.K.Ascending.above g.V.Item.format) (λ p. p.0) _ c.loop.invariant.0 c.loop.last c.in_ok-end.end c.loop.counter c.loop.reader p c.in_err-read.field-0.0.place c.loop-test.true next in
    search rules

pub returns : goal.returns
returns g c = (c.loop.invariant.0, ends (next_pair g.K.Item.format g.K.Ascending.above g.V.Item.format) (λ p. p.0) _ c.loop.invariant.0 c.loop.last c.in_ok-end.end c.loop.counter c.loop.reader c.loop.invariant.1 c.loop-test.false)
