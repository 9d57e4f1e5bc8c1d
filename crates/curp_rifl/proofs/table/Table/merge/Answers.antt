use Rattle.std.proofs.Common.{◌≡◌, ◌∙◌, fold}
use Rattle.std.specs.BTreeSet.{insert_key}
use Rattle.std.specs.List.{filter}
use Rattle.std.specs.Ordering.{nat_cmp}
use Rattle.curp_model.specs.Table.{Table, is_of_use, of_use}
use Rattle.curp_rifl.specs.Clients.{clients_alone, firsts_of, gone_of}
use Rattle.curp_rifl.specs.Records.{Record, with_firsts, with_records}
use Rattle.curp_rifl.proofs.Changes.{merged}
use Rattle.curp_rifl.proofs.table.Table.merge.Goals as goal

pub returns-clause-table : goal.returns-clause-table
returns-clause-table c =
    let before : Table = record { records = c.self.inside.records.items; firsts = firsts_of c.self.inside.clients.items; gone = gone_of c.self.inside.clients.items } in
    let records : c.add_records.new.records.items ≡ with_records c.args.index before.records c.args.part.now.records = rw (← c.as_slice.ensures.value) c.add_records.ensures.items in
    let firsts : firsts_of c.mark_all_gone.new.clients.items ≡ with_firsts before.firsts c.args.part.now.firsts = c.mark_all_gone.ensures.firsts ∙ rw (← c.as_slice-2.ensures.value) c.raise_firsts.ensures.firsts in
    let gone : gone_of c.mark_all_gone.new.clients.items ≡ fold (insert_key nat_cmp) before.gone c.args.part.now.gone =
    rw (← c.raise_firsts.ensures.gone, ← c.as_slice-3.ensures.value) c.mark_all_gone.ensures.gone in
    let kept : c.keep_of_use.new.records.items
    ≡ filter (λ (e : Record). is_of_use (clients_alone c.mark_all_gone.new.clients.items) e.0) c.add_records.new.records.items =
    c.keep_of_use.ensures.items in
    rw (← c.self.view_is)
    ((λ i. record { records = kept i; firsts = firsts_of c.mark_all_gone.new.clients.items; gone = gone_of c.mark_all_gone.new.clients.items })
    ∙ (λ i. of_use (record { records = records i; firsts = firsts i; gone = gone i }))
    ∙ merged before c.args.part.now c.args.index)
