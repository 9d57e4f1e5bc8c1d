-- The stores together have what one thread has.
use Rattle.std.proofs.Common.{◌≡◌, ℕ, List, [], ◌∷◌, Some, true, refl, ap, sym, ◌∙◌, append-nil}
use Rattle.std.specs.Cmp.Lexicographic.{slice_cmp}
use Rattle.std.specs.FinMap.Entries.{find}
use Rattle.std.specs.Ordering.{nat_cmp}
use Rattle.std.specs.FinMap as store
use Rattle.curp_base.specs.Words.{numbered}
use Rattle.curp_range.specs.Spans.{is_in}
use Rattle.curp_cmd.specs.Hash.{hash_of}
use Rattle.curp_cmd.specs.Store.{Contents, nothing}
use Rattle.curp_cmd.specs.declared.entry.Entry.TheVariants.{Take}
use Rattle.curp_cmd.specs.declared.migration.Package.{Package}
use Rattle.curp_order.specs.Order.{store_after}
use Rattle.curp_model.specs.Manager.{Migration}
use Rattle.curp_model.specs.Marks.{shown}
use Rattle.curp_law_linear.specs.Hashes.{Part, owns, state_of}
use Rattle.curp_law_linear.specs.Line.{LineState, LineOk}
use Rattle.curp_law_linear.specs.Moves.{IsOnItsWay}
use Rattle.curp_law_linear.proofs.Carried.{carried_value}
use Rattle.curp_law_linear.proofs.Given.{LogsOk, Pure}
use Rattle.curp_law_linear.proofs.OwnedValues.{owned_value}
use Rattle.curp_law_linear.proofs.Shown.{shown_store}
use Rattle.curp_law_kept.specs.Hashes.{updates}

-- the store of one thread over all that the order shows
abbrev pub shown_contents : LineState → Contents
shown_contents s = store_after nothing (shown s.marks)

module _ (pure : Pure) (s : LineState) (logs : LogsOk s.parts) (ok : LineOk s) where
  as_updates : shown_contents s ≡ store_after nothing (updates s.marks)
  as_updates = shown_store nothing s.marks (λ m n. ok.order.kinds n.0 m n.1)

  -- of a hash that is owned it has what the owner's store has
  pub owned_store : (n : ℕ) (p : Part) → numbered s.parts n ≡ Some p → (key : List ℕ) → owns p (hash_of key) ≡ true → store.get (shown_contents s) key ≡ store.get (state_of p).store key
  owned_store n p here key own =
      ap (λ (c : Contents). store.get c key) as_updates ∙ owned_value s ok.order ok.owned n p here pure (logs.values n p here p.log [] (append-nil p.log)) key own

  -- and of one that is on its way it has what the package has
  pub carried_store : (m : Migration) → s.moving ≡ Some m → (carried : Package) → (way : IsOnItsWay s.parts m carried) → (key : List ℕ) → is_in m.range.lo m.range.hi (hash_of key) ≡ true
      → store.get (shown_contents s) key ≡ find (slice_cmp nat_cmp) key carried.pairs
  carried_store m in_work carried way key inside =
      ap (λ (c : Contents). store.get c key) as_updates ∙ pure.value_local key (updates s.marks)
      ∙ carried_value s ok.order m in_work carried way (hash_of key) inside (logs.values m.source way.source way.its_source way.before (Take m.number carried ∷ way.after) (sym way.taken)) key refl
