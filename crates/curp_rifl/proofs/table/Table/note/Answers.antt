use Rattle.std.proofs.Common.{◌≡◌, ◌∙◌, List, ap, subst, sym}
use Rattle.curp_model.specs.Table.{Table, check}
use Rattle.curp_model.specs.declared.Check.TheVariants.{New}
use Rattle.curp_rifl.proofs.Changes.{noted}
use Rattle.curp_rifl.specs.Clients.{firsts_of, gone_of}
use Rattle.curp_rifl.specs.Records.{Record}
use Rattle.curp_rifl.specs.Stored.{StoredTable}
use Rattle.curp_rifl.proofs.table.Table.note.Goals as goal

pub returns-clause-table : goal.returns-clause-table
returns-clause-table c =
    let before : Table = record { records = c.self.inside.records.items; firsts = firsts_of c.self.inside.clients.items; gone = gone_of c.self.inside.clients.items } in
    let new : check before c.args.id ≡ New = subst (λ (s : StoredTable). check s.table c.args.id ≡ New) (sym c.self.view_is) c.requires.new in
    rw (← c.self.view_is)
    (ap (λ (rs : List Record). record before { records = rs })
    (c.put_once.ensures.items ∙ noted before c.args.id c.new.result c.args.answer c.args.index c.new.ensures.answer c.new.ensures.index new))
