use Rattle.std.proofs.Common.{◌∙◌, refl, rules}
use Rattle.curp_items.proofs.Ascends.{keys_on}
use Rattle.curp_items.proofs.More.{begins, goes_on, key_next, next_key, same_last, stops}
use Rattle.curp_base.specs.Words.{last_of}
use Rattle.curp_items.proofs.ascending.read_keys.Goals as goal

pub loop-init : goal.loop-init
loop-init g c =
    rw c.new-keys.ensures.items (record {
      partway = begins (next_key g.K.Item.format g.K.Ascending.above) (λ k. k) _ c.in_ok-count.count c.read.new.reader (rw c.in_ok-count.ensures refl);
      ascend = tt;
    })

pub loop-preserved : goal.loop-preserved
loop-preserved g c =
    let p = c.loop.invariant.partway in
    let next = key_next g.K.Item.format g.K.Ascending.above c.loop.keys.items c.loop.last c.loop.reader _ p.last_is c.in_ok-key.ensures.reads in
    rw c.in_ok-push.ensures.items (record {
      partway = goes_on (next_key g.K.Item.format g.K.Ascending.above) (λ k. k) _ c.loop.keys.items c.loop.last c.in_ok-count.count c.loop.counter c.loop.reader p c.in_ok-key.key c.read_key.new.reader c.loop-test.true next;
      ascend = keys_on g.K.Ord.cmp g.met.K.Ord.total c.loop.keys.items c.loop.last c.in_ok-key.key c.loop.invariant.ascend (p.last_is ∙ same_last (last_of c.loop.keys.items)) c.in_ok-key.ensures.above;
    })

pub returns-in_err-key : goal.returns-in_err-key
returns-in_err-key g c =
    let p = c.loop.invariant.partway in
    let next = key_next g.K.Item.format g.K.Ascending.above c.loop.keys.items c.loop.last c.loop.reader _ p.last_is c.in_err-key.ensures.reads in
    let all = stops (next_key g.K.Item.format g.K.Ascending.above) (λ k. k) _ c.loop.keys.items c.loop.last c.in_ok-count.count c.loop.counter c.loop.reader p c.in_err-key.field-0.0.place c.loop-test.true next in
    search rules
