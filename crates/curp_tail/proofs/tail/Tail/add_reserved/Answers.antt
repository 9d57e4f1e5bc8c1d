use Rattle.std.proofs.Common.{◌≡◌, ◌+◌, ◌<◌, List, length, length-append, sym, subst, ap, ◌∙◌, arith}
use Rattle.curp_base.specs.Words.{Each}
use Rattle.curp_tail.specs.declared.tail.TailEntry.{TailEntry}
use Rattle.curp_tail.specs.Kept.{TailContent}
use Rattle.curp_tail.proofs.Tails.{rise_added, tail_length}
use Rattle.curp_tail.proofs.tail.Tail.add_reserved.Goals as goal

pub invariant_of-self : goal.invariant_of-self
invariant_of-self c =
    let below = subst (λ (k : TailContent). Each (λ (e : TailEntry). e.index < c.args.index) k.entries) (sym c.self.view_is) c.requires.below in
    record {
      rise = rw c.keep_all.ensures.items (rise_added c.self.inside.entries.items c.args.index _ c.self.invariant.rise below);
      lasts = c.keep_all.ensures.lasts;
      ranges_are = c.keep_all.ensures.ranges;
    }

pub returns-clause-spare : goal.returns-clause-spare
returns-clause-spare c =
    let more : length c.keep_all.new.kept.items ≡ length c.self.inside.entries.items + length c.args.entries.now =
    ap (λ (es : List TailEntry). length es) c.keep_all.ensures.items ∙ length-append c.self.inside.entries.items _ ∙ ap (λ n. length c.self.inside.entries.items + n) (tail_length c.args.index c.args.entries.now)
    in
    rw (← c.self.view_is)
    (omega (arith, more, c.keep_all.ensures.kept_capacity, c.keep_all.ensures.ranges_spare, c.keep_all.ensures.lasts_spare))
