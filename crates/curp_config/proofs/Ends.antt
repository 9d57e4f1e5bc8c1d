-- Inputs by which no number comes to its end, and those by which one would.
use Rattle.std.proofs.Common.{◌≡◌, true, false, refl}
use Rattle.curp_base.proofs.Ends.{never_rises}
use Rattle.curp_base.specs.Words.{rises_past}
use Rattle.curp_model.specs.Manager.{ManagerState, Next, counter_ends, last_number, unless_numbers_end}
use Rattle.curp_msg.specs.Moved.{Moved, quiet}

-- numbers that stay don't end
stays : (n after : Next) → after ≡ n → counter_ends n after ≡ false
stays n after same =
    rw same (rw (
      never_rises last_number n.epoch n.epoch refl,
      never_rises last_number n.version n.version refl,
      never_rises last_number n.master n.master refl,
      never_rises last_number n.backup n.backup refl,
      never_rises last_number n.witness n.witness refl,
      never_rises last_number n.migration n.migration refl,
    ) refl)

-- the next numbers rise, and none ends
pub goes_on : (g : ManagerState) (r : Moved ManagerState) → counter_ends g.next r.state.next ≡ false → r.state.config.serial ≡ g.config.serial → unless_numbers_end g r ≡ r
goes_on g r some same = rw (some, never_rises last_number g.config.serial r.state.config.serial same) refl

-- one of the next numbers would end
pub counter_stops : (g : ManagerState) (r : Moved ManagerState) → counter_ends g.next r.state.next ≡ true → unless_numbers_end g r ≡ quiet g
counter_stops g r ends = rw ends refl

-- neither the next numbers nor the serial change
pub stands : (g : ManagerState) (r : Moved ManagerState) → r.state.next ≡ g.next → r.state.config.serial ≡ g.config.serial → unless_numbers_end g r ≡ r
stands g r next same = goes_on g r (stays g.next r.state.next next) same

-- the serial rises, and doesn't end
pub serial_goes_on : (g : ManagerState) (r : Moved ManagerState) → r.state.next ≡ g.next → rises_past last_number g.config.serial r.state.config.serial ≡ false → unless_numbers_end g r ≡ r
serial_goes_on g r next some = rw (stays g.next r.state.next next, some) refl

-- the serial would end
pub serial_stops : (g : ManagerState) (r : Moved ManagerState) → r.state.next ≡ g.next → rises_past last_number g.config.serial r.state.config.serial ≡ true → unless_numbers_end g r ≡ quiet g
serial_stops g r next ends = rw (stays g.next r.state.next next, ends) refl

-- what a serial that rises comes to
pub ruleset serial_rises = (serial_goes_on, serial_stops)
