-- The end of a log: what its entries touch, with their places.
use Rattle.std.specs.Prelude.{ℕ, ◌+◌, ◌<◌, ◌==◌, Bool, false, List, [], ◌∷◌, drop}
use Rattle.std.specs.List.{AllPairs, list_any}
use Rattle.curp_cmd.specs.Hash.{hashes_of}
use Rattle.curp_cmd.specs.declared.entry.Entry.{Entry}
use Rattle.curp_cmd.specs.declared.entry.Entry.TheVariants.{Op, Take, Give, Expire}
use Rattle.curp_range.specs.Spans.{is_in}
use Rattle.curp_tail.specs.declared.tail.TailEntry.{TailEntry}
use Rattle.curp_tail.specs.declared.touched.Touched.{Touched}
use Rattle.curp_tail.specs.declared.touched.Touched.TheVariants.{Hashes, Range, Nothing}

-- what an entry touches: an Op the hashes of its command, a Take and a Give their whole range
abbrev pub touched_of : Entry → Touched
touched_of (Op request acknowledged) = Hashes (hashes_of request.command)
touched_of (Take migration taken) = Range taken.lo taken.hi
touched_of (Give migration given) = Range given.lo given.hi
touched_of (Expire client) = Nothing

-- whether the hash is touched
abbrev pub touches : Touched → ℕ → Bool
touches (Hashes hashes) hash = list_any (λ h. h == hash) hashes
touches (Range lo hi) hash = is_in lo hi hash
touches Nothing hash = false

-- what is kept of entries that stand from an index on
abbrev pub tail_from : ℕ → List Entry → List TailEntry
tail_from index [] = []
tail_from index (e ∷ es) = record { index = index; touched = touched_of e } ∷ tail_from (index + 1) es

-- what is kept of a log of which so many entries are synced
abbrev pub tail_of : List Entry → ℕ → List TailEntry
tail_of log synced = tail_from synced (drop synced log)

-- some entry that is kept touches the hash
abbrev pub is_dirty : List TailEntry → ℕ → Bool
is_dirty tail hash = list_any (λ (e : TailEntry). touches e.touched hash) tail

-- each entry stands below the next ones
abbrev pub IndexesRise : List TailEntry → Type 0
IndexesRise tail = AllPairs (λ (d : TailEntry) (e : TailEntry). d.index < e.index) tail
