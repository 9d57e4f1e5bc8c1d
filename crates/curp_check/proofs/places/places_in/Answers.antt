use Rattle.std.proofs.Common.{is_some, Option, Some, None, true, false, ℕ, ◌≡◌, ◌∙◌, refl, sym}
use Rattle.std.specs.BTreeMap.{get}
use Rattle.curp_cmd.specs.RequestId.{id_cmp}
use Rattle.curp_order.specs.Order.{Asked}
use Rattle.curp_check.proofs.Finding.{found_twice, one_place}
use Rattle.curp_check.proofs.places.places_in.Goals as goal

some_there : (o : Option ℕ) → is_some o ≡ true → (k : ℕ) × (o ≡ Some k)
some_there None is = absurd cc
some_there (Some k) is = (k, refl)

none_there : (o : Option ℕ) → is_some o ≡ false → o ≡ None
none_there None is = refl
none_there (Some k) is = absurd cc

pub loop-at-preserved : goal.loop-at-preserved
loop-at-preserved c =
    let x : Asked = (c.id.result, c.id.ensures.0) in
    one_place c.loop-at.at (get id_cmp c.loop-at.places) (get id_cmp c.insert.new.self) c.args.order.now x
    c.id.ensures.1
    (sym c.in_ok-insert.ensures.old ∙ none_there c.in_ok-insert.field-0 (sym c.is_some.ensures ∙ c.if-is_some.false))
    c.in_ok-insert.ensures.updates.0 c.loop-at.invariant

pub returns-then-is_some-clause-twice : goal.returns-then-is_some-clause-twice
returns-then-is_some-clause-twice c =
    let x : Asked = (c.id.result, c.id.ensures.0) in
    let there = some_there c.in_ok-insert.field-0 (sym c.is_some.ensures ∙ c.if-is_some.true) in
    λ _. found_twice c.loop-at.at there.0 (get id_cmp c.loop-at.places) c.args.order.now x
    c.id.ensures.1
    (sym c.in_ok-insert.ensures.old ∙ there.1) c.loop-at.invariant
