-- What a crash leaves while bytes are written, and while a record is written behind a commit byte and the commit byte is opened.
use Rattle.std.specs.Prelude.{◌≡◌, ◌⊎◌, ℕ, ◌+◌, ◌≤◌, List, ◌∷◌, ◌++◌, length, take, drop}
use Rattle.curp_disk.specs.Disk.{LeavesOnly, Narrows, Torn}

-- what a crash left before, torn in so many bytes from a place on
abbrev pub TornFrom : (at n : ℕ) → (List ℕ → Type 0) → List ℕ → Type 0
TornFrom at n outcomes c = (d : List ℕ) × outcomes d × Torn at n d c

-- a crash leaves no more bytes than so many
abbrev pub LeavesAtMost : ℕ → (List ℕ → Type 0) → Type 0
LeavesAtMost most outcomes = (c : List ℕ) → outcomes c → length c ≤ most

-- all up to the commit byte stands as before, whatever stands behind it
abbrev pub IsShut : List ℕ → ℕ → List ℕ → Type 0
IsShut old commit c = take (commit + 1) c ≡ take (commit + 1) old

-- all before the commit byte stands as before, and the record behind it; the commit byte is any byte
pub record IsStaged (old : List ℕ) (commit : ℕ) (piece c : List ℕ) : Type 0 where
  pub prefix : take commit c ≡ take commit old
  pub any : ℕ
  pub tail : List ℕ
  pub back : drop commit c ≡ any ∷ (piece ++ tail)

-- one or the other
abbrev pub ShutOrStaged : List ℕ → ℕ → List ℕ → List ℕ → Type 0
ShutOrStaged old commit piece c = IsShut old commit c ⊎ IsStaged old commit piece c

-- The disk was only read and synced: it reads as before, and a crash at any moment since left what it might have left
pub record Quiet {D : Type 0} (seen : D → List ℕ) (may_leave : D → List ℕ → Type 0) (moment : D → ℕ) (left_since : D → ℕ → List ℕ → Type 0) (old new : D) : Type 0 where
  pub same : seen new ≡ seen old
  pub narrows : Narrows (may_leave old) (may_leave new)
  pub any_moment : LeavesOnly moment left_since old new (may_leave old)
