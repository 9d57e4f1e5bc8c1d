use Rattle.std.proofs.Common.{◌∙◌, List, drop, ap, sym, subst}
use Rattle.std.proofs.lemmas.List.{drop-drop}
use Rattle.curp_tail.specs.declared.tail.TailEntry.{TailEntry}
use Rattle.curp_tail.specs.Tail.{IndexesRise}
use Rattle.curp_tail.proofs.Kept.{rises_without}
use Rattle.curp_tail.proofs.tail.forget_prefix.Goals as goal

pub loop-preserved : goal.loop-preserved
loop-preserved c = record {
  left = c.forget_first.ensures.items ∙ ap (λ (es : List TailEntry). drop 1 es) c.loop.invariant.left ∙ drop-drop 1 c.loop.counter c.args.entries.now.items;
  rise = subst IndexesRise (sym c.forget_first.ensures.items) (rises_without c.loop.entries.items c.loop.invariant.rise);
  lasts = c.forget_first.ensures.lasts;
}
