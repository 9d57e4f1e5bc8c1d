use Rattle.std.proofs.Common.{◌-◌, refl, sym, ap, ◌∙◌, arith}
use Rattle.std.specs.Ordering.{is_ge}
use Rattle.curp_base.proofs.Rising.{rises_on, falls_on, ascend_from_rises, keyed, length-keyed, test_at}
use Rattle.curp_base.proofs.ascending.keys_ascend.Goals as goal

pub loop-at-preserved : goal.loop-at-preserved
loop-at-preserved g c =
    let keys = c.args.keys.now in
    let at = c.loop-at.at in
    let before = c.index-keys-at.result in
    let here = c.index-keys-at-in-loop-at.result in
    let compared = g.K.Ord.cmp before here in
    rises_on g.K.Ord.cmp g.met.K.Ord.total (keyed keys) at (before, tt {0}) (here, tt {0}) (omega arith) (omega (arith, length-keyed keys)) c.loop-at.invariant
    (test_at g.K.Ord.cmp keys (at - 1) at before here c.index-keys-at.is c.index-keys-at-in-loop-at.is ∙ sym (ap is_ge {y = compared} c.cmp.ensures) ∙ sym c.is_ge.ensures ∙ c.if-is_ge.false)

pub returns-then-is_ge : goal.returns-then-is_ge
returns-then-is_ge g c =
    let keys = c.args.keys.now in
    let at = c.loop-at.at in
    let before = c.index-keys-at.result in
    let here = c.index-keys-at-in-loop-at.result in
    let compared = g.K.Ord.cmp before here in (
      λ no. absurd cc,
      λ s. absurd (falls_on g.K.Ord.cmp g.met.K.Ord.total (keyed keys) at (before, tt {0}) (here, tt {0}) (omega arith) (omega (arith, length-keyed keys))
          (test_at g.K.Ord.cmp keys (at - 1) at before here c.index-keys-at.is c.index-keys-at-in-loop-at.is ∙ sym (ap is_ge {y = compared} c.cmp.ensures) ∙ sym c.is_ge.ensures ∙ c.if-is_ge.true) s),
    )

pub returns : goal.returns
returns g c =
    let keys = c.args.keys.now in
    (λ yes. ascend_from_rises g.K.Ord.cmp g.met.K.Ord.total (keyed keys) (λ k d l. c.loop-at.invariant k d (omega (arith, length-keyed keys))), λ s. refl)
