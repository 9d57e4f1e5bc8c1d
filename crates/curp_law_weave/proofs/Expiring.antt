-- The manager takes the order that declares a client gone only of a client of the header.
use Rattle.std.proofs.Common.{◌≡◌, ◌≤◌, ◌&&◌, ℕ, nat_lt, Bool, true, false, not, refl, ap, arith}
use Rattle.std.specs.Prelude.{nat_le, Ok}
use Rattle.std.proofs.lemmas.Bool.{and_parts}
use Rattle.std.proofs.lemmas.Bool.Decides.{nat_tests}
use Rattle.curp_base.specs.Cases.{◌>>=◌, refuse_if}
use Rattle.curp_base.proofs.Ends.{never_rises}
use Rattle.curp_msg.specs.Moved.{Moved, refuses, unless_refused}
use Rattle.curp_msg.specs.Input as input
use Rattle.curp_msg.specs.declared.machine.Local.TheVariants as local
use Rattle.curp_model.specs.Manager.{ManagerState, expire, expires, last_number, manager_input, manager_ordered, unless_numbers_end}
use Rattle.curp_model.proofs.Managers.{counters_stay}

refusal_stands : (g : ManagerState) (number : ℕ) → unless_numbers_end g (refuses g number) ≡ refuses g number
refusal_stands g number = rw (counters_stay g.next, never_rises last_number g.config.serial g.config.serial refl) refl

pub expired_client : (g : ManagerState) (n : ℕ) → (manager_input g (input.Local (local.Expire n))).refused ≡ 0 → (1 ≤ n) × (n ≤ g.shape.clients)
unfolding manager_ordered expire
expired_client g n taken = go (nat_lt 0 n && nat_le n g.shape.clients) refl taken
  where
    go : (b : Bool) → (nat_lt 0 n && nat_le n g.shape.clients) ≡ b → (unless_numbers_end g (unless_refused g (expires g) (refuse_if (not b) 1 >>= λ _. Ok n))).refused ≡ 0 → (1 ≤ n) × (n ≤ g.shape.clients)
    go true e t = let p = and_parts (nat_lt 0 n) (nat_le n g.shape.clients) e in (grind (arith, nat_tests, p.0), grind (arith, nat_tests, p.1))
    go false e t = let r = ap (λ (m : Moved ManagerState). m.refused) (refusal_stands g 1) in absurd (omega (arith, r, t))
