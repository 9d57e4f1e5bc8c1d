use Rattle.std.proofs.Common.{◌≡◌, ◌∙◌, ap, subst, sym, not}
use Rattle.std.specs.List.{filter}
use Rattle.curp_model.specs.Table.{Table, check, note, is_below}
use Rattle.curp_model.specs.declared.Check.TheVariants.{New}
use Rattle.curp_rifl.proofs.Changes.{noted}
use Rattle.curp_rifl.specs.Clients.{firsts_of, gone_of}
use Rattle.curp_rifl.specs.Records.{Record}
use Rattle.curp_rifl.specs.Stored.{StoredTable}
use Rattle.curp_rifl.proofs.table.Table.finish.Goals as goal

pub returns-clause-table : goal.returns-clause-table
returns-clause-table c =
    let before : Table = record { records = c.self.inside.records.items; firsts = firsts_of c.self.inside.clients.items; gone = gone_of c.self.inside.clients.items } in
    let new : check before c.args.id ≡ New = subst (λ (s : StoredTable). check s.table c.args.id ≡ New) (sym c.self.view_is) c.requires.new in
    let done : c.put_once.new.self.items ≡ (note before c.args.id c.args.answer c.args.index).records =
    c.put_once.ensures.items ∙ noted before c.args.id c.new.result c.args.answer c.args.index c.new.ensures.answer c.new.ensures.index new in
    rw (← c.self.view_is)
    (λ i. record {
      records = (c.drop_below.ensures.items ∙ ap (filter (λ (e : Record). not (is_below c.args.id.client c.args.first e.0))) done) i;
      firsts = c.raise_first.ensures.firsts i;
      gone = c.raise_first.ensures.gone i;
    })
