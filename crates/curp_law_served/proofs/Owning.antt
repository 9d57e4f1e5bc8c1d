-- A master of one partition, in whose log stand ops alone, owns every hash.
use Rattle.std.proofs.Common.{◌≡◌, ◌<◌, ◌*◌, ◌%◌, ◌^◌, ◌-◌, ℕ, true, false, List, [], ◌∷◌, map, fold, refl, sym, ◌∙◌, subst, arith}
use Rattle.std.specs.Prelude.{bit_xor}
use Rattle.std.specs.BTreeSet.{insert_key}
use Rattle.std.specs.Ordering.{nat_cmp}
use Rattle.std.proofs.Math.Nat.{mod-lt}
use Rattle.std.proofs.lemmas.Bool.{and_from, le-leb, or_left}
use Rattle.curp_base.specs.Words.{At, Each}
use Rattle.curp_cmd.specs.Hash.{hash_of, hashed_from, hashes, offset_basis, prime}
use Rattle.curp_cmd.specs.Store.{keys_of}
use Rattle.curp_cmd.specs.declared.command.Command.{Command}
use Rattle.curp_cmd.specs.declared.entry.Entry.{Entry}
use Rattle.curp_law_kept.proofs.Gives.{each_inserted}
use Rattle.curp_model.specs.Log.{log_opening, IsOp}
use Rattle.curp_model.specs.Master.{MasterState, state_of}
use Rattle.curp_model.specs.Ranges.{owns_all}
use Rattle.curp_range.specs.Spans.{Span, is_owned}
use Rattle.curp_law_served.proofs.Welcomes.{all_ops}

abbrev IsHash : ℕ → Type 0
IsHash h = h < 2 ^ 64

hashed_low : (bytes : List ℕ) (h : ℕ) → IsHash h → IsHash (hashed_from h bytes)
hashed_low [] h low = low
hashed_low (b ∷ bytes) h low = hashed_low bytes ((bit_xor h b * prime) % 2 ^ 64) (mod-lt (bit_xor h b * prime) (omega arith))

hash_low : (key : List ℕ) → IsHash (hash_of key)
unfolding hash_of
hash_low key = hashed_low key offset_basis (omega arith)

hashes_low : (keys : List (List ℕ)) (sorted : List ℕ) → Each IsHash sorted
    → Each IsHash (fold (insert_key nat_cmp) sorted (map hash_of keys))
hashes_low [] sorted all = all
hashes_low (k ∷ ks) sorted all = hashes_low ks (insert_key nat_cmp sorted (hash_of k)) (each_inserted IsHash (hash_of k) (hash_low k) sorted all)

-- each hash is in the whole range
whole_has : (h : ℕ) → IsHash h → is_owned ((0, 2 ^ 64 - 1) ∷ []) h ≡ true
whole_has h low = or_left _ false (and_from _ _ (le-leb 0 h (omega arith)) (le-leb h (2 ^ 64 - 1) (omega (arith, low))))

each_whole : (hs : List ℕ) → Each IsHash hs → owns_all ((0, 2 ^ 64 - 1) ∷ []) hs ≡ true
each_whole [] all = refl
each_whole (h ∷ hs) all = and_from _ _ (whole_has h all.0) (each_whole hs all.1)

-- the whole range has the hashes of every command
pub whole_owns : (command : Command) → owns_all ((0, 2 ^ 64 - 1) ∷ []) (hashes command) ≡ true
whole_owns command = each_whole (hashes command) (hashes_low (keys_of command) [] tt)

pub owns_each : (m : MasterState) → m.lo ≡ 0 → m.hi ≡ 2 ^ 64 - 1
    → ((index : ℕ) (e : Entry) → At m.log index e → IsOp e) → (command : Command)
    → owns_all (state_of m).owned (hashes command) ≡ true
owns_each m lo hi ops command =
    let owned : (state_of m).owned ≡ (m.lo, m.hi) ∷ [] = (all_ops m.log (log_opening m.lo m.hi) 0 ops).0 in
    let whole : (state_of m).owned ≡ (0, 2 ^ 64 - 1) ∷ [] = owned ∙ λ i. (lo i, hi i) ∷ [] in
    subst (λ (spans : List Span). owns_all spans (hashes command) ≡ true) (sym whole) (whole_owns command)
