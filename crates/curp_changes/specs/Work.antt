-- What is being done with a partition, and the next numbers.
use Rattle.std.specs.Prelude.{◌≡◌, ℕ, ◌+◌, true, false, Option, MatchOption}
use Rattle.curp_model.specs.Manager as model
use Rattle.curp_changes.specs.declared.work.Doing.{Doing}
use Rattle.curp_changes.specs.declared.work.Doing.TheVariants.{Steady, Replacing, Recovering}

-- what is being done with a partition
abbrev pub doing_of : Doing → model.Doing
doing_of Steady = model.Steady
doing_of (Replacing r) = model.Replacing r.kind r.fresh r.version r.backups r.witnesses
doing_of (Recovering a) = model.Recovering a.master a.order

-- the next numbers, unless one of the counters would rise past its end
abbrev pub AreNext : (before after : model.Next) → Option model.Next → Type 0
AreNext before after given =
    MatchOption given (model.counter_ends before after ≡ true) (λ n. (n ≡ after) × (model.counter_ends before after ≡ false))

-- the numbers after a recovery was ordered, where a partition has so many backups
abbrev pub after_recover : model.Next → ℕ → model.Next
after_recover n f = record n {
  epoch = n.epoch + 1;
  version = n.version + 1;
  master = n.master + 1;
  backup = n.backup + f;
  witness = n.witness + f;
}

-- the numbers after a migration was ordered
abbrev pub after_migrate : model.Next → model.Next
after_migrate n = record n { migration = n.migration + 1 }
