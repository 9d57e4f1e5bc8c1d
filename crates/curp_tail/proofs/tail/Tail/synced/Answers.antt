use Rattle.std.proofs.Common.{◌≡◌, ◌∙◌, List, nat_le, ap, sym, subst, rules, tests}
use Rattle.std.specs.List.{filter}
use Rattle.std.proofs.lemmas.Fn.{filter_same}
use Rattle.std.proofs.lemmas.List.Sorted.{IsPartitionPoint-from_clause}
use Rattle.curp_tail.specs.declared.tail.Moved.{Moved}
use Rattle.curp_tail.specs.declared.tail.TailEntry.{TailEntry}
use Rattle.curp_tail.specs.Tail.{IndexesRise}
use Rattle.curp_tail.specs.Kept.{ranges_in}
use Rattle.curp_tail.proofs.Kept.{ranges_left, rises_from}
use Rattle.curp_tail.proofs.Tails.{is_below, parted, not_below}
use Rattle.curp_tail.proofs.tail.Tail.synced.Goals as goal

left_is : (c : goal.After-retain) → c.forget_prefix.new.entries.items ≡ filter (λ (e : TailEntry). nat_le c.args.length e.index) c.self.inside.entries.items
left_is c =
    let point = IsPartitionPoint-from_clause (is_below c.args.length) c.self.inside.entries.items c.partition_point-forgotten.result c.partition_point-forgotten.ensures.partitioned
    (parted c.self.inside.entries.items c.args.length c.self.invariant.rise) (λ a r f called. search rules) in
    c.forget_prefix.ensures.items ∙ not_below c.self.inside.entries.items c.args.length c.partition_point-forgotten.result point

ranges_are : (c : goal.After-retain) → c.retain.new.self.items ≡ ranges_in c.forget_prefix.new.entries.items
ranges_are c =
    filter_same _ (λ (m : Moved). nat_le c.args.length m.index) _ (λ x b f' k. search (rules, tests)) _ _ c.retain.ensures.filtered
    ∙ ap (λ (ms : List Moved). filter (λ (m : Moved). nat_le c.args.length m.index) ms) c.self.invariant.ranges_are
    ∙ ranges_left c.args.length c.self.inside.entries.items
    ∙ ap (λ (es : List TailEntry). ranges_in es) (sym (left_is c))

pub invariant_of-self : goal.invariant_of-self
invariant_of-self c = record {
  rise = subst IndexesRise (sym c.forget_prefix.ensures.items) (rises_from c.self.inside.entries.items c.partition_point-forgotten.result c.self.invariant.rise);
  lasts = c.forget_prefix.ensures.lasts;
  ranges_are = ranges_are c;
}

pub returns : goal.returns
returns c = rw (← c.self.view_is) (left_is c)
