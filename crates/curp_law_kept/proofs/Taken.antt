-- What a take carries away: the values that its log has made on the hash, and all requests that its log knew.
use Rattle.std.proofs.Common.{◌≡◌, ◌≤◌, ◌&&◌, not, ℕ, ◌+◌, true, List, [], ◌∷◌, ◌++◌, length, take, drop, ap, ◌∙◌}
use Rattle.curp_base.specs.Words.{At}
use Rattle.curp_cmd.specs.declared.entry.Entry.{Entry}
use Rattle.curp_cmd.specs.declared.entry.Entry.TheVariants.{Take, Give}
use Rattle.curp_cmd.specs.declared.migration.Package.{Package}
use Rattle.curp_range.specs.Spans.{is_in, is_owned}
use Rattle.curp_model.specs.Log.{LogState, IsLog, after_entry, meaning}
use Rattle.curp_model.proofs.Logs.{meaning_append}
use Rattle.curp_law_kept.specs.Hashes.{NoGive}
use Rattle.curp_law_kept.proofs.Ranges.{owned_without}

-- ---- a take

taken_entry : (s : LogState) (n number : ℕ) (k : Package) (h : ℕ) → is_owned (after_entry s n (Take number k)).owned h ≡ (is_owned s.owned h && not (is_in k.lo k.hi h))
unfolding after_entry
taken_entry s n number k h = owned_without s.owned k.lo k.hi h

-- what is owned behind it is what was owned, without its range
pub owned_taken : (lo hi : ℕ) (prefix : List Entry) (number : ℕ) (k : Package) (h : ℕ) → is_owned (meaning lo hi (prefix ++ Take number k ∷ [])).owned h ≡ (is_owned (meaning lo hi prefix).owned h && not (is_in k.lo k.hi h))
owned_taken lo hi prefix number k h = ap (λ (s : LogState). is_owned s.owned h) (meaning_append lo hi prefix (Take number k ∷ [])) ∙ taken_entry (meaning lo hi prefix) (length prefix) number k h

-- a take of the hash stands in the log, with no give on the hash behind it
module _ (lo hi : ℕ) (log : List Entry) (h j number : ℕ) (k : Package) (ordered : lo ≤ hi) (fits : IsLog lo hi log)
    (stands : At log j (Take number k)) (covers : is_in k.lo k.hi h ≡ true) (quiet : NoGive h (drop (j + 1) log)) where
  abbrev prefix : List Entry
  prefix = take j log
