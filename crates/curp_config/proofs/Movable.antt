-- A range that may move.
use Rattle.std.proofs.Common.{◌≡◌, ◌≤◌, ℕ, ◌+◌, nat_le, true, false, [], ◌∷◌, Option, Some, None, Ok, refl, ap, arith}
use Rattle.std.specs.Prelude.{is_some}
use Rattle.std.proofs.Math.Bridge.{le_prop}
use Rattle.std.proofs.lemmas.Bool.Decides.{nat_tests}
use Rattle.curp_msg.specs.declared.config.PartConfig.{PartConfig}
use Rattle.curp_model.specs.Manager as model
use Rattle.curp_model.specs.Ranges.{Range, range_of, range_or_all}
use Rattle.curp_changes.proofs.Opened.{one_range}
use Rattle.curp_model.proofs.OpeningRanges.{range_lo, range_hi}

there : (lo hi : ℕ) → nat_le lo hi ≡ true → is_some (range_of lo hi) ≡ true
there lo hi t = grind (arith, nat_tests)

range_is : (o : Option Range) (r : Range) → is_some o ≡ true → (range_or_all o).lo ≡ r.lo → (range_or_all o).hi ≡ r.hi → o ≡ Some r
range_is None r some lo hi = absurd cc
range_is (Some x) r some lo hi = ap Some (one_range x r lo hi)

-- the range from lo to hi
range_there : (lo hi : ℕ) (ordered : lo ≤ hi) → range_of lo hi ≡ Some (record { lo = lo; hi = hi; ordered = ordered })
range_there lo hi ordered =
    let t : nat_le lo hi ≡ true = grind (arith, nat_tests) in
    range_is (range_of lo hi) (record { lo = lo; hi = hi; ordered = ordered }) (there lo hi t) (range_lo lo hi t) (range_hi lo hi t)

-- no rule refuses the move
pub move_there : (g : model.ManagerState) (lo hi to : ℕ) (ordered : lo ≤ hi) (owner target : PartConfig)
    → model.part_at g to ≡ Some target → model.owns_range lo hi target ≡ false → model.owner_of_range g lo hi ≡ Some owner → g.moving ≡ None
    → model.move_for g lo hi to ≡ Ok (record { range = record { lo = lo; hi = hi; ordered = ordered }; owner = owner; target = target })
move_there g lo hi to ordered owner target its not_its owns still = rw (range_there lo hi ordered, its, not_its, owns, still) refl

module _ (g : model.ManagerState) (lo hi : ℕ) (ordered rise : lo ≤ hi) (number : ℕ) (owner target : PartConfig) (is : number ≡ g.next.migration) where
  -- the migration is in work, under the next number
  pub move_made : (was : model.ManagerState) (n : model.Next) → was ≡ g → n ≡ record g.next { migration = g.next.migration + 1 }
      → record was { moving = Some (record { number = number; range = record { lo = lo; hi = hi; ordered = rise }; source = owner.part; target = target.part; moved = None }); next = n }
      ≡ (model.migrates g (record { range = record { lo = lo; hi = hi; ordered = ordered }; owner = owner; target = target })).state
  move_made was n same after = λ i. record (same i) {
    moving = Some (record { number = is i; range = record { lo = lo; hi = hi; ordered = le_prop rise ordered i }; source = owner.part; target = target.part; moved = None });
    next = after i;
  }

  -- the owner's master is told
  pub move_says : model.take_message owner number (record { lo = lo; hi = hi; ordered = rise }) ∷ []
      ≡ (model.migrates g (record { range = record { lo = lo; hi = hi; ordered = ordered }; owner = owner; target = target })).messages
  move_says = λ i. model.take_message owner (is i) (record { lo = lo; hi = hi; ordered = le_prop rise ordered i }) ∷ []
