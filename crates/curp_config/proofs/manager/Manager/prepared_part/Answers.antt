use Rattle.std.proofs.Common.{◌≡◌, ◌<◌, List, Option, Some, length, get_or, ap, sym, ◌∙◌, arith}
use Rattle.std.specs.Option.{option_map}
use Rattle.curp_base.specs.Words.{numbered}
use Rattle.curp_msg.specs.declared.config.PartConfig.{PartConfig}
use Rattle.curp_model.specs.Manager.{ManagerState, NewLists, lists_in_work}
use Rattle.curp_config.specs.Parts.{prepared_part}
use Rattle.curp_config.specs.Work.{in_work}
use Rattle.curp_config.proofs.Steps.{found_at, none_more}
use Rattle.curp_config.proofs.manager.Manager.prepared_part.Goals as goal

pub returns-in-Some-clause-part : goal.returns-in-Some-clause-part
returns-in-Some-clause-part c =
    let g = c.args.self.now in
    let x = c.part-item.result in
    let k = c.loop-part.part-index in
    let same : c.as_slice-part-items.result.now ≡ g.config.parts = c.as_slice-part-items.ensures ∙ ap (λ (m : ManagerState). m.config.parts) c.self.view_is in
    let here : x ≡ get_or g.config.parts k x = c.part-item.is ∙ ap (λ (xs : List PartConfig). get_or xs k x) same in
    let within : k < length g.config.parts = omega (arith, ap length same, c.loop-part-test.true) in
    let found = found_at (λ (p : PartConfig). lists_in_work c.args.version p (numbered g.doing p.part)) g.config.parts k x (in_work x c.in-Some.lists.now) within here c.loop-part.invariant (sym (c.in-Some.ensures x)) in
    ap Some c.in_ok-with_lists.ensures ∙ sym (ap (λ (o : Option NewLists). option_map prepared_part o) found)

pub loop-part-preserved : goal.loop-part-preserved
loop-part-preserved c =
    let g = c.args.self.now in
    let x = c.part-item.result in
    let k = c.loop-part.part-index in
    let same : c.as_slice-part-items.result.now ≡ g.config.parts = c.as_slice-part-items.ensures ∙ ap (λ (m : ManagerState). m.config.parts) c.self.view_is in
    let here : x ≡ get_or g.config.parts k x = c.part-item.is ∙ ap (λ (xs : List PartConfig). get_or xs k x) same in
    let within : k < length g.config.parts = omega (arith, ap length same, c.loop-part-test.true) in
    none_more (λ (p : PartConfig). lists_in_work c.args.version p (numbered g.doing p.part)) g.config.parts k x within here c.loop-part.invariant (sym (c.in_default.ensures x))
