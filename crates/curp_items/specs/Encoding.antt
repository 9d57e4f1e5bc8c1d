-- Entries as bytes: which have an encoding, which it is, and which stands at the prefix of bytes.
use Rattle.std.specs.Prelude.{◌≡◌, ℕ, ◌<◌, ◌≤◌, ◌^◌, List, length, take, Option, Some, None, Result, Ok, Err, ⊤}
use Rattle.std.specs.Ordering.{nat_cmp}
use Rattle.curp_base.specs.Words.{Ascend, KeysAscend}
use Rattle.curp_cmd.specs.declared.command.Request.{Request}
use Rattle.curp_cmd.specs.declared.entry.Entry.{Entry}
use Rattle.curp_cmd.specs.declared.entry.Entry.TheVariants.{Op, Take, Give, Expire}
use Rattle.curp_cmd.specs.declared.migration.Package.{Package}
use Rattle.curp_cmd.specs.declared.migration.TablePart.{TablePart}
use Rattle.curp_items.specs.Format.{Input}
use Rattle.curp_items.specs.Items.{entry}

-- Each list is short enough for its count, which has 32 bits. Clients ascend in each value of the type, so this is asked only
-- where they do
pub record HasTableEncoding (t : TablePart) : Type 0 where
  pub records : length t.records < 2 ^ 32
  pub firsts : KeysAscend nat_cmp t.firsts → length t.firsts < 2 ^ 32
  pub gone : Ascend nat_cmp t.gone → length t.gone < 2 ^ 32

pub record HasPackageEncoding (p : Package) : Type 0 where
  pub pairs : length p.pairs < 2 ^ 32
  pub table : HasTableEncoding p.table

-- which entries have an encoding: all but those with a package of which a list is too long for its count
abbrev pub HasEncoding : Entry → Type 0
HasEncoding (Op request acknowledge) = ⊤
HasEncoding (Take migration taken) = HasPackageEncoding taken
HasEncoding (Give migration given) = HasPackageEncoding given
HasEncoding (Expire client) = ⊤

-- An entry that has an encoding, whose numbers, keys and values are in their ranges and whose lists ascend, as those of
-- each value of the type
abbrev pub IsEntry : Entry → Type 0
IsEntry e = entry.Fits e

-- its encoding
abbrev pub encoding : Entry → List ℕ
encoding e = entry.of e

-- the bytes begin with the entry's encoding, which has this length
pub record BeginsWithEntry (bytes : List ℕ) (e : Entry) (len : ℕ) : Type 0 where
  pub fits : IsEntry e
  pub within : len ≤ length bytes
  pub is : take len bytes ≡ encoding e

-- the bytes, from the first one on
abbrev pub start_of : List ℕ → Input
start_of bytes = record { place = 0; rest = bytes }

-- where an entry is read, the first item that isn't whole or may not stand there is at this place
abbrev pub FaultsAt : List ℕ → ℕ → Type 0
FaultsAt bytes place = entry.read (start_of bytes) ≡ Err place

-- the request of an entry that was read, if it has one
abbrev pub request_of : Entry → Option Request
request_of (Op request acknowledge) = Some request
request_of (Take migration taken) = None
request_of (Give migration given) = None
request_of (Expire client) = None

abbrev pub request_in : Result (Entry × Input) ℕ → Option Request
request_in (Ok x) = request_of x.0
request_in (Err place) = None
