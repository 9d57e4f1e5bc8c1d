-- The migrations of a log: the numbers of its takes and of its gives, and what the state says of the last of each.
use Rattle.std.specs.Prelude.{◌≡◌, ◌≤◌, ◌<◌, ℕ, List, Option, Some, None}
use Rattle.curp_base.specs.Words.{At}
use Rattle.curp_cmd.specs.declared.entry.Entry.{Entry}
use Rattle.curp_cmd.specs.declared.entry.Entry.TheVariants.{Op, Take, Give, Expire}
use Rattle.curp_cmd.specs.declared.migration.Package.{Package}
use Rattle.curp_model.specs.Log.{LastGive, LastTake}

-- the number of the migration that an entry takes out
abbrev pub take_number : Entry → Option ℕ
take_number (Op r acknowledged) = None
take_number (Take migration taken) = Some migration
take_number (Give migration given) = None
take_number (Expire client) = None

-- the number of the migration that an entry gives
abbrev pub give_number : Entry → Option ℕ
give_number (Op r acknowledged) = None
give_number (Take migration taken) = None
give_number (Give migration given) = Some migration
give_number (Expire client) = None

-- the numbers strictly rise along the log
abbrev pub NumbersAscend : (Entry → Option ℕ) → List Entry → Type 0
NumbersAscend number log = (i j m n : ℕ) (d e : Entry) → i < j → At log i d → At log j e → number d ≡ Some m → number e ≡ Some n → m < n

-- what the state says of the last take: it stands, and there is none behind it
abbrev pub TakenIs : List Entry → Option LastTake → Type 0
TakenIs log None = (k migration : ℕ) (p : Package) → At log k (Take migration p) → ⊥
TakenIs log (Some last) = At log last.index (Take last.migration last.taken) × ((k migration : ℕ) (p : Package) → At log k (Take migration p) → k ≤ last.index)

-- what it says of the last give
abbrev pub GivenIs : List Entry → Option LastGive → Type 0
GivenIs log None = (k migration : ℕ) (p : Package) → At log k (Give migration p) → ⊥
GivenIs log (Some last) = ((p : Package) × At log last.index (Give last.migration p)) × ((k migration : ℕ) (p : Package) → At log k (Give migration p) → k ≤ last.index)

-- no entry takes or gives
abbrev pub MovesNothing : List Entry → Type 0
MovesNothing es = (k : ℕ) (e : Entry) → At es k e → (take_number e ≡ None) × (give_number e ≡ None)
