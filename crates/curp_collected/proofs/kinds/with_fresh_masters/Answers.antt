use Rattle.std.proofs.Common.{rules, ◌≡◌, ◌∷◌, ◌++◌, [], sym, refl, subst}
use Rattle.curp_cmd.specs.declared.node.NodeKind.TheVariants as kinds
use Rattle.curp_model.specs.Recovery.{Fresh}
use Rattle.curp_model.specs.World.{opening}
use Rattle.curp_collected.specs.Files.{HasNoneAbove, IsNextNumber}
use Rattle.curp_journal.specs.declared.origin.Origin.TheVariants as origin
use Rattle.curp_collected.proofs.Begun.{SoFar, begin_end, begin_next}
use Rattle.curp_collected.proofs.Openings.{opened}
use Rattle.curp_collected.proofs.kinds.with_fresh_masters.Goals as goal

pub numbers-init : goal.numbers-init
numbers-init c =
    let h = c.args.files.now.header in
    opened c.args.files.now c.requires.files kinds.Master (opening h).masters Fresh c.args.there c.args.begun.items refl c.requires.there c.requires.begun

pub numbers-preserved : goal.numbers-preserved
numbers-preserved c =
    let h = c.args.files.now.header in
    let there = (opening h).masters in
    let files = c.args.files.now.each.items in
    let begun = c.numbers.begun.items in
    let number = c.in-Some.number in
    let node = c.fresh-node.result in
    let next : IsNextNumber files kinds.Master c.numbers.last number =
    subst (λ l. IsNextNumber l kinds.Master c.numbers.last number) c.deref.ensures.value c.in-Some.ensures in
    let made : c.push.new.self.items ≡ begun ++ record { id = record { kind = kinds.Master; number = number }; origin = origin.Fresh; node = node } ∷ [] = search rules in
    subst (λ l. SoFar kinds.Master there Fresh files number l) (sym made)
    (begin_next kinds.Master there Fresh files c.numbers.last begun c.numbers.invariant number node next c.fresh-node.ensures.number c.fresh-node.ensures.state)

pub returns-in-None : goal.returns-in-None
returns-in-None c =
    let h = c.args.files.now.header in
    let none = subst (λ l. HasNoneAbove l kinds.Master c.numbers.last) c.deref.ensures.value c.in-None.ensures in
    begin_end kinds.Master (opening h).masters Fresh c.args.files.now.each.items c.numbers.last c.numbers.begun.items c.numbers.invariant none
