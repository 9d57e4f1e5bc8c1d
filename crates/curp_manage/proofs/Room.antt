-- A journal takes each input of a line: it has an encoding, and there is room for it.
use Rattle.std.proofs.Common.{inl, inr, ◌<◌, Option, [], ◌∷◌, arith}
use Rattle.curp_disk.specs.InMemory.{StopParts}
use Rattle.curp_durable.proofs.Pieces.{record-length}
use Rattle.curp_durable.specs.Answering.{HaveNoEncoding, end_of}
use Rattle.curp_durable.specs.Value.{DurableParts}
use Rattle.curp_journal.specs.declared.arrived.Arrived.{Arrived}
use Rattle.curp_manage.specs.Kept.{IsManaged, IsSmallInput}
use Rattle.curp_manage.specs.declared.managing.Crash.{Crash}
use Rattle.curp_model.specs.Manager.{ManagerState}
use Rattle.curp_msg.specs.Limits.{step_limit}
use Rattle.curp_msg.specs.declared.script.Header.{Header}

pub encoded : (a : Arrived) → IsSmallInput a → HaveNoEncoding (a ∷ []) → ⊥
encoded a small (inl none) = none (small.fits, tt)
encoded a small (inr long) = omega (arith, long, small.short, record-length (a ∷ []))

-- the record of a further input ends within the limit
pub has_room : (h : Header) (d : DurableParts ManagerState StopParts) (crash : Option Crash) (a : Arrived) → IsManaged h d crash → IsSmallInput a → d.stand.count < step_limit
    → d.size_limit < end_of d.commit (a ∷ []) → ⊥
has_room h d crash a managed small few full = omega (arith, managed.short, managed.limit, small.short, few, full)
