use Rattle.std.proofs.Common.{[], refl, rules}
use Rattle.curp_items.proofs.More.{begins, goes_on, key_next, next_key, stops, ends}
use Rattle.curp_items.proofs.ascending.skip_keys.Goals as goal

pub loop-init : goal.loop-init
loop-init g c = ([], begins (next_key g.K.Item.format g.K.Ascending.above) (λ k. k) _ c.in_ok-end.end c.read.new.reader (rw c.in_ok-end.ensures refl))

pub loop-preserved : goal.loop-preserved
loop-preserved g c =
    let p = c.loop.invariant.1 in
    let next = key_next g.K.Item.format g.K.Ascending.above c.loop.invariant.0 c.loop.last c.loop.reader _ p.last_is c.in_ok-read_key.ensures.reads in
    (_, goes_on (next_key g.K.Item.format g.K.Ascending.above) (λ k. k) _ c.loop.invariant.0 c.loop.last c.in_ok-end.end c.loop.counter c.loop.reader p c.in_ok-read_key.field-0 c.read_key.new.reader c.loop-test.true next)

pub returns-in_err-read_key : goal.returns-in_err-read_key
returns-in_err-read_key g c =
    let p = c.loop.invariant.1 in
    let next = key_next g.K.Item.format g.K.Ascending.above c.loop.invariant.0 c.loop.last c.loop.reader _ p.last_is c.in_err-read_key.ensures.reads in
    let all = stops (next_key g.K.Item.format g.K.Ascending.above) (λ k. k) _ c.loop.invariant.0 c.loop.last c.in_ok-end.end c.loop.counter c.loop.reader p c.in_err-read_key.field-0.0.place c.loop-test.true next in
    search rules

pub returns : goal.returns
returns g c = (c.loop.invariant.0, ends (next_key g.K.Item.format g.K.Ascending.above) (λ k. k) _ c.loop.invariant.0 c.loop.last c.in_ok-end.end c.loop.counter c.loop.reader c.loop.invariant.1 c.loop-test.false)
