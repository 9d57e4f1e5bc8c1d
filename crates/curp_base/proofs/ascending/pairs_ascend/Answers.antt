use Rattle.std.proofs.Common.{refl, sym, ap, ◌∙◌, arith}
use Rattle.std.specs.Ordering.{is_ge}
use Rattle.curp_base.proofs.Rising.{rises_on, falls_on, ascend_from_rises}
use Rattle.curp_base.proofs.ascending.pairs_ascend.Goals as goal

pub loop-at-preserved : goal.loop-at-preserved
loop-at-preserved g c =
    rises_on g.K.Ord.cmp g.met.K.Ord.total c.args.pairs.now c.loop-at.at c.index-pairs-at.result c.index-pairs-at-in-loop-at.result (omega arith) (omega arith) c.loop-at.invariant
    (sym (ap is_ge c.cmp.ensures) ∙ sym c.is_ge.ensures ∙ c.if-is_ge.false)

pub returns-then-is_ge : goal.returns-then-is_ge
returns-then-is_ge g c = (
  λ no. absurd cc,
  λ s. absurd (falls_on g.K.Ord.cmp g.met.K.Ord.total c.args.pairs.now c.loop-at.at c.index-pairs-at.result c.index-pairs-at-in-loop-at.result (omega arith) (omega arith)
      (sym (ap is_ge c.cmp.ensures) ∙ sym c.is_ge.ensures ∙ c.if-is_ge.true) s),
)

pub returns : goal.returns
returns g c = (λ yes. ascend_from_rises g.K.Ord.cmp g.met.K.Ord.total c.args.pairs.now (λ k d l. c.loop-at.invariant k d (omega arith)), λ s. refl)
