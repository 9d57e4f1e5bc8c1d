-- The digits that are read, and those behind them.
use Rattle.std.proofs.Common.{◌≡◌, ◌≤◌, drop}
use Rattle.curp_resp.specs.Integer.{spell_up_to}
use Rattle.curp_resp.proofs.integer.spell_up_to.Given as goal

abbrev pub invariant-digits : goal.invariant-digits
invariant-digits l = (spell_up_to l.most l.value (drop l.at l.digits) ≡ spell_up_to l.most 0 l.digits) × (l.value ≤ l.most)
