use Rattle.std.proofs.Common.{refl, arith}
use Rattle.curp_base.proofs.Lists.{at_within}
use Rattle.curp_journal.specs.declared.item.Item.{Item}
use Rattle.curp_journal.specs.Own.{IsOwn}
use Rattle.curp_anew.proofs.Scans.{scan_more}
use Rattle.curp_anew.proofs.own.all_own.Goals as goal

pub loop-item-preserved : goal.loop-item-preserved
loop-item-preserved c =
    scan_more (λ (item : Item). IsOwn c.args.id item.input) c.args.items.now c.loop-item.item-index c.item-item.result c.loop-item-test.true c.item-item.is
    (c.is_own.ensures.0 c.if-not-is_own.false) c.loop-item.invariant

pub returns : goal.returns
returns c = (λ _ t item at. c.loop-item.invariant t item (omega (arith, at_within c.args.items.now t item at, c.loop-item-test.false)) at, λ _. refl)
