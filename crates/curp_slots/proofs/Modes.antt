-- What a witness that was started does by its mode.
use Rattle.std.proofs.Common.{◌≡◌, ℕ, ◌==◌, ◌&&◌, Bool, true, false, not, Some, refl}
use Rattle.curp_model.specs.Witness.{is_live, turned_away}
use Rattle.curp_msg.specs.declared.answer.Reason.TheVariants as reason
use Rattle.curp_slots.specs.Modes.{started_mode}

-- it turns away strangers first
pub stranger_away : (frozen : Bool) (own : ℕ) → turned_away (started_mode frozen) (Some own) ≡ Some (reason.Stranger own)
stranger_away true own = refl
stranger_away false own = refl

-- it is live at its epoch, unless it is frozen
pub live_is : (frozen : Bool) (own epoch : ℕ) → is_live (started_mode frozen) (Some own) epoch ≡ (not frozen && (own == epoch))
live_is true own epoch = refl
live_is false own epoch = refl
