-- A disk as the list of its writes and syncs.
use Rattle.std.specs.Prelude.{◌≡◌, ℕ, ◌≤◌, min, List, [], ◌∷◌, ◌++◌, length, take}
use Rattle.curp_disk.specs.Disk.{Torn, over}
use Rattle.curp_disk.specs.declared.medium.Call.{Call}
use Rattle.curp_disk.specs.declared.medium.Call.TheVariants.{Write, Sync}

-- what a disk was at first, all of it kept, and its writes and syncs since, in their order
pub record Played : Type 0 where
  pub first : List ℕ
  pub calls : List Call

-- the same list with one call more
abbrev pub more : Played → Call → Played
more p call = record { first = p.first; calls = p.calls ++ call ∷ [] }

-- what a disk that read as `seen` reads as after a call
abbrev pub seen_after : List ℕ → Call → List ℕ
seen_after seen (Write at bytes) = over seen (min at (length seen)) bytes
seen_after seen Sync = seen

-- what a crash after a call may leave, where it might have left what has P before
abbrev pub LeftAfter : List ℕ → (List ℕ → Type 0) → Call → List ℕ → Type 0
LeftAfter seen P (Write at bytes) c = (d : List ℕ) × P d × Torn (min at (length seen)) (length bytes) d c
LeftAfter seen P Sync c = c ≡ seen

-- what a disk reads as after calls
abbrev pub seen_through : List ℕ → List Call → List ℕ
seen_through seen [] = seen
seen_through seen (call ∷ calls) = seen_through (seen_after seen call) calls

-- what a crash after calls may leave
abbrev pub LeftThrough : List ℕ → (List ℕ → Type 0) → List Call → List ℕ → Type 0
LeftThrough seen P [] c = P c
LeftThrough seen P (call ∷ calls) c = LeftThrough (seen_after seen call) (LeftAfter seen P call) calls c

-- what is on a disk after calls of which every unsynced write is lost, where `kept` was at first
abbrev pub kept_after : List ℕ → List ℕ → Call → List ℕ
kept_after seen kept (Write at bytes) = kept
kept_after seen kept Sync = seen

abbrev pub kept_through : List ℕ → List ℕ → List Call → List ℕ
kept_through seen kept [] = kept
kept_through seen kept (call ∷ calls) = kept_through (seen_after seen call) (kept_after seen kept call) calls

-- what the disk reads as
abbrev pub seen_of : Played → List ℕ
seen_of p = seen_through p.first p.calls

-- what the last sync kept
abbrev pub kept_of : Played → List ℕ
kept_of p = kept_through p.first p.first p.calls

-- what a crash now may leave
abbrev pub LeftNow : Played → List ℕ → Type 0
LeftNow p c = LeftThrough p.first (λ d. d ≡ p.first) p.calls c

-- what a crash after some of the calls, from the t-th on, may have left
abbrev pub LeftSince : Played → ℕ → List ℕ → Type 0
LeftSince p t c = (k : ℕ) × (t ≤ k) × (k ≤ length p.calls) × LeftThrough p.first (λ d. d ≡ p.first) (take k p.calls) c
