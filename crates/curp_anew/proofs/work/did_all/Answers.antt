use Rattle.std.proofs.Common.{rules, ◌≡◌, ◌+◌, ◌<◌, List, length, map, refl, ap, sym, ◌∙◌, subst, arith, Vec, Global}
use Rattle.std.proofs.lemmas.List.{length-map}
use Rattle.std.proofs.lemmas.Option.{slice_get_read}
use Rattle.curp_base.specs.Words.{At}
use Rattle.curp_base.proofs.Lists.{Each-at, at_map, at_within}
use Rattle.curp_cmd.specs.declared.command.Command.{Command}
use Rattle.curp_cmd.specs.declared.node.NodeId.{NodeId}
use Rattle.curp_journal.specs.declared.item.Item.{Item}
use Rattle.curp_journal.specs.Work.{DidWork}
use Rattle.curp_anew.proofs.Scans.{did_more}
use Rattle.curp_anew.proofs.work.did_all.Goals as goal
use Rattle.curp_anew.proofs.work.did_all.Goals.{then-id-index-via-then-id-index, then-id-index-via-else-id-index+then-not-did_work}

pub loop-index-preserved : goal.loop-index-preserved
loop-index-preserved c =
    let clients = c.args.clients.now in
    let work = c.args.work.now in
    let index = c.loop-index.index in
    let client = c.index-clients-index.result in
    let list = c.index-work-index.result in
    let at_client : At clients index client = slice_get_read clients (length clients) index client refl c.loop-index-test.true c.index-clients-index.is in
    let same : length clients ≡ length work = search rules in
    let at_list : At work index list = slice_get_read work (length work) index list refl (omega (arith, same, c.loop-index-test.true)) c.index-work-index.is in
    let did : DidWork (index + 1) list.items client.items =
    subst (λ (items : List Item). DidWork (index + 1) list.items items) c.journal.ensures.items
    (subst (λ (commands : List Command). DidWork (index + 1) commands c.journal.result.now) c.as_slice.ensures.value
    (c.did_work.ensures.did c.if-not-did_work.false)) in
    let number : client.id.number ≡ index + 1 = search rules in
    did_more (map (λ (list : Vec Command Global). list.items) work) clients index client list.items at_client
    (at_map (λ (list : Vec Command Global). list.items) work index list at_list) number did c.loop-index.invariant

pub returns-clause-did : goal.returns-clause-did
returns-clause-did c = λ _. record {
  count = c.if-clients-work.false ∙ sym (length-map c.args.work.now (λ (list : Vec Command Global). list.items));
  each = λ k log commands at there.
      c.loop-index.invariant k log commands (omega (arith, at_within c.args.clients.now k log at, c.loop-index-test.false)) at there;
}

pub returns-then-id-index-clause-all : goal.returns-then-id-index-clause-all
returns-then-id-index-clause-all c = λ few all.
    let clients = c.args.clients.now in
    let work = c.args.work.now in
    let index = c.loop-index.index in
    let client = c.index-clients-index.result in
    let list = c.index-work-index.result in
    let at_client : At clients index client = slice_get_read clients (length clients) index client refl c.loop-index-test.true c.index-clients-index.is in
    let same : length clients ≡ length work = search rules in
    let at_list : At work index list = slice_get_read work (length work) index list refl (omega (arith, same, c.loop-index-test.true)) c.index-work-index.is in
    let did = all.each index client list.items at_client (at_map (λ (list : Vec Command Global). list.items) work index list at_list) in
    elim c.then-id-index.branch [
      | then-id-index-via-then-id-index w ↦ absurd (w.if-id-index.true (ap (λ (id : NodeId). id.number) c.id.ensures ∙ did.0))
      | then-id-index-via-else-id-index+then-not-did_work w ↦
          let short = subst (λ (commands : List Command). length commands < 4294967296) (sym w.as_slice.ensures.value) (Each-at (λ (list : Vec Command Global). length list.items < 4294967296) work few index list at_list) in
          let worked = subst (λ (commands : List Command). DidWork (index + 1) commands w.journal.result.now) (sym w.as_slice.ensures.value)
          (subst (λ (items : List Item). DidWork (index + 1) list.items items) (sym w.journal.ensures.items) did.1) in
          absurd (cc (w.did_work.ensures.all short worked, w.if-not-did_work.true))
    ]
