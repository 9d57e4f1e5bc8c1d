-- Where journals hold each message that came, there is no mismatch.
use Rattle.std.proofs.Common.{◌≡◌, ℕ, zero, suc, ◌∙◌, List, subst, Option, Some}
use Rattle.curp_base.specs.Words.{At, numbered}
use Rattle.curp_cmd.specs.declared.node.NodeId.{NodeId}
use Rattle.curp_journal.specs.declared.arrived.Named.{Named}
use Rattle.curp_journal.specs.declared.item.Item.{Item}
use Rattle.curp_journal.specs.Turns.{Journal}
use Rattle.curp_merge.specs.Held.{AllHeld, IsHeld, IsMismatch, kept_at}

at_number : (items : List Item) (step : ℕ) (item : Item) → numbered items step ≡ Some item → (t : ℕ) × At items t item
at_number items zero item h = absurd cc
at_number items (suc t) item h = (t, h)

pub no_mismatch : (journals : List Journal) (node : NodeId) (step : ℕ) (got : Named) (kept : Option Named) → AllHeld journals → IsMismatch journals node step got kept → ⊥
no_mismatch journals node step got kept held m =
    let at = at_number m.journal.items step m.item m.taken in
    let its : kept_at journals got ≡ Some got = subst (IsHeld journals) m.came (held m.place m.journal at.0 m.item m.stands at.1) in
    m.differs (m.kept_is ∙ its)
