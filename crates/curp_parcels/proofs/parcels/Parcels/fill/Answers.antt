use Rattle.std.proofs.Common.{ℕ, List, ◌++◌, ◌∙◌, ap}
use Rattle.curp_parcels.specs.Reading.{ParcelsRead}
use Rattle.curp_parcels.proofs.Buffers.{due_behind}
use Rattle.curp_parcels.proofs.parcels.Parcels.fill.Goals as goal

pub returns-clause-bytes : goal.returns-clause-bytes
returns-clause-bytes g c = λ told.
    due_behind c.read_behind.result c.self.inside.buffer.items c.read_behind.new.buffer.items (g.S.Source.left c.args.source.now) (g.S.Source.left c.read_behind.new.source) c.self.inside.start c.self.invariant.0 c.read_behind.ensures.adds (c.read_behind.ensures.bytes told)
    ∙ ap (λ (l : List ℕ). l ++ g.S.Source.left c.args.source.now) (ap (λ (p : ParcelsRead). p.ahead) (c.self.view_is ∙ c.tidy.ensures))
