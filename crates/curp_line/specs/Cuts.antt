-- The adoptions, and how one is found by its number, and how many there are up to an epoch.
use Rattle.std.specs.Prelude.{◌≡◌, ℕ, zero, suc, ◌+◌, ◌<◌, ◌≤◌, ◌==◌, nat_le, ◌&&◌, if◌then◌else◌, Bool, List, [], ◌∷◌, map, length, Option, Some, None, option_map, unwrap_or, ⊤}
use Rattle.std.specs.Map.{lookup}
use Rattle.std.specs.List.{filter}
use Rattle.curp_base.specs.Words.{Each}
use Rattle.curp_model.specs.Marks.{Mark, cut_mark}
use Rattle.curp_line.specs.declared.cuts.Cut.{Cut}
use Rattle.curp_line.specs.declared.epochs.CutEpoch.{CutEpoch}

-- its mark
abbrev pub mark_of : Cut → Mark
mark_of c = cut_mark c.term.master c.term.part c.term.epoch (c.earlier + 1) c.length

-- how many pass a test
abbrev pub how_many : {A : Type 0} → (A → Bool) → List A → ℕ
how_many p xs = length (filter p xs)

-- ---- tests of adoptions

-- it is one of the partition
abbrev pub is_cut_of : ℕ → Cut → Bool
is_cut_of part c = c.term.part == part

-- it is one of the partition, up to an epoch
abbrev pub is_cut_to : ℕ → ℕ → Cut → Bool
is_cut_to part epoch c = (c.term.part == part) && nat_le c.term.epoch epoch

-- it is the one of the partition behind so many
abbrev pub is_cut_at : ℕ → ℕ → Cut → Bool
is_cut_at part earlier c = (c.term.part == part) && (c.earlier == earlier)

-- ---- epochs

abbrev pub part_of : CutEpoch → ℕ
part_of e = e.part

-- ---- tests of epochs

abbrev pub is_epoch_of : ℕ → CutEpoch → Bool
is_epoch_of part e = e.part == part

abbrev pub is_epoch_to : ℕ → ℕ → CutEpoch → Bool
is_epoch_to part epoch e = (e.part == part) && nat_le e.epoch epoch

-- ---- those of one partition

abbrev pub epochs_of : ℕ → List CutEpoch → List CutEpoch
epochs_of part epochs = filter (is_epoch_of part) epochs

-- each is no higher than those behind it
abbrev pub EpochsAscend : List CutEpoch → Type 0
EpochsAscend [] = ⊤
EpochsAscend (e ∷ es) = Each (λ f. e.epoch ≤ f.epoch) es × EpochsAscend es

-- the place of what passes a test behind so many others that do
abbrev pub nth_place : {A : Type 0} → (A → Bool) → List A → ℕ → Option ℕ
nth_place p [] n = None
nth_place p (x ∷ xs) zero = if p x then Some 0 else option_map suc (nth_place p xs zero)
nth_place p (x ∷ xs) (suc n) = option_map suc (nth_place p xs (if p x then n else suc n))

-- the place of the partition's epoch behind so many others of its own
abbrev pub epoch_place : ℕ → ℕ → List CutEpoch → Option ℕ
epoch_place part rank epochs = nth_place (λ other. other == part) (map part_of epochs) rank

-- each is found by its rank
abbrev pub ArePlaced : List ((ℕ × ℕ) × ℕ) → List CutEpoch → Type 0
ArePlaced places epochs = (part rank : ℕ) → lookup (λ key. (part == key.0) && (rank == key.1)) places ≡ epoch_place part rank epochs

-- it is known how many each partition has, each is found by its rank, and those of a partition ascend
pub record AreRanked (count : ℕ → Option ℕ) (places : List ((ℕ × ℕ) × ℕ)) (epochs : List CutEpoch) : Type 0 where
  pub counted : (part : ℕ) → unwrap_or (count part) 0 ≡ how_many (is_epoch_of part) epochs
  pub placed : ArePlaced places epochs
  pub ascend : (part : ℕ) → EpochsAscend (epochs_of part epochs)

-- ---- how they are found

abbrev pub epoch_of : Cut → CutEpoch
epoch_of c = record { part = c.term.part; epoch = c.term.epoch }

-- the first place of what passes a test
abbrev pub first_place : {A : Type 0} → (A → Bool) → List A → Option ℕ
first_place p [] = None
first_place p (x ∷ xs) = if p x then Some 0 else option_map suc (first_place p xs)

-- each is found by its number, which is behind those of its partition before it, and its epoch is among the epochs
pub record AreFound (epochs : List CutEpoch) (cuts : List Cut) : Type 0 where
  pub placed : (part earlier : ℕ) → epoch_place part earlier epochs ≡ first_place (is_cut_at part earlier) cuts
  pub numbered : (part : ℕ) → Each (λ c. c.term.part ≡ part → c.earlier < how_many (is_cut_of part) cuts) cuts
  pub counted : (test : CutEpoch → Bool) → how_many test epochs ≡ how_many test (map epoch_of cuts)
