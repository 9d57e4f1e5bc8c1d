-- Entries that are kept as their encodings, one behind the other (this project's own).
use Rattle.std.specs.Prelude.{◌≡◌, ℕ, zero, suc, ◌*◌, ◌<◌, ◌≤◌, List, [], ◌∷◌, length, take, get_or, Result, Ok, Err}
use Rattle.std.specs.List.{flat_map}
use Rattle.curp_base.specs.Words.{Each}
use Rattle.curp_cmd.specs.declared.entry.Entry.{Entry}
use Rattle.curp_items.specs.Format.{Input}
use Rattle.curp_items.specs.Items.{entry}
use Rattle.curp_items.specs.Encoding.{HasEncoding, IsEntry, encoding}

-- how many entries are packed at once
abbrev pub run : ℕ
run = 64

-- their encodings, one behind the other
abbrev pub encodings : List Entry → List ℕ
encodings entries = flat_map encoding entries

-- so many entries, read one behind the other
abbrev pub with_more : (Input → List Entry) → Result (Entry × Input) ℕ → List Entry
with_more more (Ok read) = read.0 ∷ more read.1
with_more more (Err place) = []

unfoldable pub unpacked : ℕ → Input → List Entry
unpacked zero at = []
unpacked (suc count) at = with_more (unpacked count) (entry.read at)

-- The bytes are the encodings of these entries, a multiple of 64, and the places are those where each 64th of them begins
pub record ArePacked (entries : List Entry) (places bytes : List ℕ) : Type 0 where
  pub encoded : Each IsEntry entries
  pub bytes_are : bytes ≡ encodings entries
  pub count : length entries ≡ run * length places
  pub places_are : (i : ℕ) → i < length places → get_or places i 0 ≡ length (encodings (take (run * i) entries))

-- What a list has packed: so many of its oldest entries, a multiple of 64, and their encodings
pub record IsPackedPart (entries : List Entry) (count : ℕ) (bytes : List ℕ) : Type 0 where
  pub runs : ℕ
  pub multiple : count ≡ run * runs
  pub within : count ≤ length entries
  pub encoded : Each IsEntry (take count entries)
  pub bytes_are : bytes ≡ encodings (take count entries)

-- A tail is short: it has fewer than 128 entries, or one of its first 64 has no encoding
abbrev pub IsShortTail : List Entry → Type 0
IsShortTail tail = 2 * run ≤ length tail → Each HasEncoding (take run tail) → ⊥
