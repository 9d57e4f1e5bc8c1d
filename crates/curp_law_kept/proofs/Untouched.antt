-- Entries that don't touch a hash: who owns it, the values at it, and the answers there.
use Rattle.std.proofs.Common.{◌≡◌, ◌≤◌, ◌&&◌, ◌||◌, not, ℕ, suc, ◌+◌, Bool, true, false, cond, List, [], ◌∷◌, ◌++◌, length, Some, None, refl, ap, sym, ◌∙◌}
use Rattle.std.specs.FinMap as map
use Rattle.curp_cmd.specs.Hash.{hash_of, hashes, touches}
use Rattle.curp_cmd.specs.Store.{applied}
use Rattle.curp_cmd.specs.declared.command.Command.{Command}
use Rattle.curp_cmd.specs.declared.entry.Entry.{Entry}
use Rattle.curp_cmd.specs.declared.entry.Entry.TheVariants.{Op, Take, Give, Expire}
use Rattle.curp_cmd.specs.declared.migration.Package.{Package}
use Rattle.curp_range.specs.Spans.{is_owned}
use Rattle.curp_model.specs.Log.{LogState, log_opening, after_entry, after_entries, answer_after, entry_touches, meaning}
use Rattle.curp_model.specs.Ranges.{owns_all}
use Rattle.curp_model.proofs.Logs.{meaning_append}
use Rattle.curp_law_kept.proofs.Ranges.{Ordered, ordered_with_range, ordered_without, owned_with_range, owned_without, owns_from_touched, owns_touched}
use Rattle.curp_law_kept.proofs.Stores.{get_with_others, get_without_keys}
use Rattle.curp_law_kept.proofs.Values.{answer_alike, value_stays}
use Rattle.curp_law_kept.specs.Standing.{Untouched}
use Rattle.curp_law_kept.specs.GivesFit.{GivesWithin, PairsWithin}

pub ordered_entry : (s : LogState) (k : ℕ) (e : Entry) → Ordered s.owned → Ordered (after_entry s k e).owned
unfolding after_entry
ordered_entry s k (Op r acknowledged) o = o
ordered_entry s k (Take migration p) o = ordered_without s.owned p.lo p.hi o
ordered_entry s k (Give migration p) o = ordered_with_range s.owned p.lo p.hi o p.ordered
ordered_entry s k (Expire client) o = o

-- entries keep the order of each span
pub ordered_entries : (es : List Entry) (s : LogState) (k : ℕ) → Ordered s.owned → Ordered (after_entries s k es).owned
ordered_entries [] s k o = o
ordered_entries (e ∷ es) s k o = ordered_entries es (after_entry s k e) (k + 1) (ordered_entry s k e o)

-- so no span of a log ends before it begins
pub log_ordered : (lo hi : ℕ) (log : List Entry) → lo ≤ hi → Ordered (meaning lo hi log).owned
log_ordered lo hi log l = ordered_entries log (log_opening lo hi) 0 (l, tt)

owned_entry : (s : LogState) (k h : ℕ) (e : Entry) → Ordered s.owned → entry_touches e h ≡ false → is_owned (after_entry s k e).owned h ≡ is_owned s.owned h
unfolding after_entry
owned_entry s k h (Op r acknowledged) o out = refl
owned_entry s k h (Take migration p) o out = owned_without s.owned p.lo p.hi h ∙ ap (λ (b : Bool). is_owned s.owned h && not b) out ∙ and_true (is_owned s.owned h)
  where
    and_true : (b : Bool) → (b && true) ≡ b
    and_true true = refl
    and_true false = refl
owned_entry s k h (Give migration p) o out = owned_with_range s.owned p.lo p.hi h o p.ordered ∙ ap (λ (b : Bool). is_owned s.owned h || b) out ∙ or_none (is_owned s.owned h)
  where
    or_none : (b : Bool) → (b || false) ≡ b
    or_none true = refl
    or_none false = refl
owned_entry s k h (Expire client) o out = refl

-- whether a hash is owned stays where nothing touches it
pub owned_untouched : (h : ℕ) (es : List Entry) (s : LogState) (k : ℕ) → Ordered s.owned → Untouched h es → is_owned (after_entries s k es).owned h ≡ is_owned s.owned h
owned_untouched h [] s k o out = refl
owned_untouched h (e ∷ es) s k o out =
    owned_untouched h es (after_entry s k e) (k + 1) (ordered_entry s k e o) (λ i x at. out (suc i) x at) ∙ owned_entry s k h e o (out 0 e refl)

value_entry : (s : LogState) (k : ℕ) (q : List ℕ) (e : Entry) → ((migration : ℕ) (p : Package) → e ≡ Give migration p → PairsWithin p.lo p.hi p.pairs) → entry_touches e (hash_of q) ≡ false
    → map.get (after_entry s k e).store q ≡ map.get s.store q
unfolding after_entry
value_entry s k q (Op r acknowledged) gives out = value_stays r.command s.store q out
value_entry s k q (Take migration p) gives out = get_without_keys s.store p.lo p.hi q ∙ ap (λ (b : Bool). cond b None (map.get s.store q)) out
value_entry s k q (Give migration p) gives out = get_with_others p.lo p.hi p.pairs s.store q (gives migration p refl) out
value_entry s k q (Expire client) gives out = refl

-- the value of a key stays where nothing touches its hash
pub value_untouched : (q : List ℕ) (es : List Entry) (s : LogState) (k : ℕ) → GivesWithin es → Untouched (hash_of q) es → map.get (after_entries s k es).store q ≡ map.get s.store q
value_untouched q [] s k gives out = refl
value_untouched q (e ∷ es) s k gives out =
    value_untouched q es (after_entry s k e) (k + 1) (λ i. gives (suc i)) (λ i x at. out (suc i) x at)
    ∙ value_entry s k q e (λ migration p is. gives 0 migration p (ap (λ (x : Entry). Some x) is)) (out 0 e refl)

-- the answer to a command stays where nothing touches its hashes
pub answer_untouched : (lo hi : ℕ) (log more : List Entry) (c : Command) → GivesWithin more → ((h : ℕ) → touches c h ≡ true → Untouched h more) → answer_after lo hi (log ++ more) c ≡ answer_after lo hi log c
answer_untouched lo hi log more c gives out =
    ap (λ (s : LogState). (applied s.store c).answer) (meaning_append lo hi log more)
    ∙ answer_alike c (after_entries (meaning lo hi log) (length log) more).store (meaning lo hi log).store
    (λ q t. value_untouched q more (meaning lo hi log) (length log) gives (out (hash_of q) t))

-- and so does whether its hashes are owned
pub owns_untouched : (lo hi : ℕ) (log more : List Entry) (c : Command) → lo ≤ hi → ((h : ℕ) → touches c h ≡ true → Untouched h more)
    → owns_all (meaning lo hi (log ++ more)).owned (hashes c) ≡ true → owns_all (meaning lo hi log).owned (hashes c) ≡ true
owns_untouched lo hi log more c l out owns = owns_from_touched (meaning lo hi log).owned c (λ h t.
    sym (ap (λ (s : LogState). is_owned s.owned h) (meaning_append lo hi log more) ∙ owned_untouched h more (meaning lo hi log) (length log) (log_ordered lo hi log l) (out h t))
    ∙ owns_touched (meaning lo hi (log ++ more)).owned c owns h t)
