-- What contracts see of the marks, of the slots, of the adoptions and of their epochs, for how many more there is room, and for
-- how many in the list or map that has the most of it.
use Rattle.std.specs.Prelude.{ℕ, List}
use Rattle.curp_model.specs.Marks.{Mark}
use Rattle.curp_line.specs.declared.cuts.Cut.{Cut}
use Rattle.curp_line.specs.declared.epochs.CutEpoch.{CutEpoch}
use Rattle.curp_line.specs.declared.slot.MarkSlot.{MarkSlot}

-- beside the marks, how many slots or adoptions are held, whichever are more: a mark that is dropped keeps its slot
pub record Marking : Type 0 where
  pub marks : List Mark
  pub held : ℕ
  pub spare : ℕ
  pub most : ℕ

pub record Slotted : Type 0 where
  pub slots : List MarkSlot
  pub spare : ℕ
  pub most : ℕ

pub record Adoptions : Type 0 where
  pub cuts : List Cut
  pub spare : ℕ
  pub most : ℕ

pub record Epochs : Type 0 where
  pub epochs : List CutEpoch
  pub spare : ℕ
  pub most : ℕ
