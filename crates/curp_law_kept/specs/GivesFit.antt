-- Which gives fit in a log.
use Rattle.std.specs.Prelude.{◌≡◌, ℕ, ◌+◌, true, false, List, [], ◌∷◌, ⊤}
use Rattle.std.specs.Cmp.Lexicographic.{slice_cmp}
use Rattle.std.specs.Ordering.{nat_cmp}
use Rattle.curp_base.specs.Words.{At, Each, KeysAscend}
use Rattle.curp_cmd.specs.Hash.{hash_of}
use Rattle.curp_cmd.specs.Pairs.{Pair}
use Rattle.curp_cmd.specs.declared.entry.Entry.{Entry}
use Rattle.curp_cmd.specs.declared.entry.Entry.TheVariants.{Op, Take, Give, Expire}
use Rattle.curp_cmd.specs.declared.migration.Package.{Package}
use Rattle.curp_range.specs.Spans.{is_in, is_owned}
use Rattle.curp_model.specs.Log.{LogState, after_entry}

-- the keys of the pairs ascend, each once
abbrev pub PairsAscend : List Pair → Type 0
PairsAscend pairs = KeysAscend (slice_cmp nat_cmp) pairs

-- the hash of each pair's key lies in the range
abbrev pub PairsWithin : ℕ → ℕ → List Pair → Type 0
PairsWithin lo hi pairs = Each (λ (p : Pair). is_in lo hi (hash_of p.0) ≡ true) pairs

-- a give fits where its pairs ascend and lie in its range, and nothing of the range is owned
pub record GiveFits (s : LogState) (p : Package) : Type 0 where
  pub ascend : PairsAscend p.pairs
  pub within : PairsWithin p.lo p.hi p.pairs
  pub away : (h : ℕ) → is_in p.lo p.hi h ≡ true → is_owned s.owned h ≡ false

-- each give of the entries that stand from an index on fits at its place
abbrev pub GivesFit : LogState → ℕ → List Entry → Type 0
GivesFit s index [] = ⊤
GivesFit s index (Op r acknowledged ∷ es) = GivesFit (after_entry s index (Op r acknowledged)) (index + 1) es
GivesFit s index (Take migration taken ∷ es) = GivesFit (after_entry s index (Take migration taken)) (index + 1) es
GivesFit s index (Give migration given ∷ es) = GiveFits s given × GivesFit (after_entry s index (Give migration given)) (index + 1) es
GivesFit s index (Expire client ∷ es) = GivesFit (after_entry s index (Expire client)) (index + 1) es

-- the pairs of each give lie in its range
abbrev pub GivesWithin : List Entry → Type 0
GivesWithin es = (k migration : ℕ) (p : Package) → At es k (Give migration p) → PairsWithin p.lo p.hi p.pairs
