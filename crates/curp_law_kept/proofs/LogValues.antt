-- What a log has at a key: nothing where its hash isn't owned, and else what came with the last give and the ops behind it make.
use Rattle.std.proofs.Common.{◌≡◌, ◌≤◌, inl, inr, ℕ, ◌+◌, ◌&&◌, ◌||◌, not, Bool, true, false, cond, if◌then◌else◌, List, [], ◌∷◌, ◌++◌, Option, Some, None, refl, ap, sym, ◌∙◌, subst}
use Rattle.std.specs.Cmp.Lexicographic.{slice_cmp}
use Rattle.std.specs.FinMap as map
use Rattle.std.specs.FinMap.Entries.{find}
use Rattle.std.specs.Ordering.{nat_cmp}
use Rattle.std.proofs.lemmas.Bool.{and_parts, cases_Bool}
use Rattle.curp_cmd.specs.Hash.{hash_of, touches}
use Rattle.curp_cmd.specs.Store.{Contents, applied, nothing, with_pairs}
use Rattle.curp_cmd.specs.declared.command.Request.{Request}
use Rattle.curp_cmd.specs.declared.entry.Entry.{Entry}
use Rattle.curp_cmd.specs.declared.entry.Entry.TheVariants.{Op, Take, Give, Expire}
use Rattle.curp_cmd.specs.declared.migration.Package.{Package}
use Rattle.curp_order.specs.Order.{store_after, Asked}
use Rattle.curp_range.specs.Spans.{is_in, is_owned}
use Rattle.curp_model.specs.Log.{LogState, IsLog, all_fit, fits_at, is_new, log_opening, after_entry, after_entries, meaning, without_keys}
use Rattle.curp_model.specs.Ranges.{owns_all}
use Rattle.curp_cmd.specs.Hash.{hashes}
use Rattle.curp_model.specs.Table.{check}
use Rattle.curp_law_kept.specs.GivesFit.{GiveFits, GivesFit}
use Rattle.curp_law_kept.specs.Hashes.{behind, behind_from, came, came_from, value}
use Rattle.curp_law_kept.proofs.GivesFit.{gives_fit_prefix}
use Rattle.curp_law_kept.proofs.Logs.{prefix_of_log}
use Rattle.curp_law_kept.proofs.Ranges.{Ordered, ordered_with_range, ordered_without, owned_with_range, owned_without, owns_touched}
use Rattle.curp_law_kept.proofs.Stores.{get_with_others, get_with_pairs, get_without_keys, over}
use Rattle.curp_law_kept.proofs.Values.{store_append, value_stays, value_step}

-- at the key's hash: its value comes from what was brought and the requests that were kept, and it has none where the hash isn't owned
pub record IsTraced (q : List ℕ) (b : Option (List ℕ)) (kept : List Asked) (s : LogState) : Type 0 where
  pub ordered : Ordered s.owned
  pub value : is_owned s.owned (hash_of q) ≡ true → (base : Contents) → map.get base q ≡ b → map.get s.store q ≡ map.get (store_after base kept) q
  pub none : is_owned s.owned (hash_of q) ≡ false → map.get s.store q ≡ None

-- an op touches no hash that its log does not own
pub untouched : (s : LogState) (r : Request) (h : ℕ) → owns_all s.owned (hashes r.command) ≡ true → is_owned s.owned h ≡ false → touches r.command h ≡ false
untouched s r h owns away = elim (cases_Bool (touches r.command h)) [
  | inl y ↦ absurd (cc (away, owns_touched s.owned r.command owns h y))
  | inr n ↦ n
]

traced_op : (q : List ℕ) (b : Option (List ℕ)) (kept : List Asked) (s : LogState) (k : ℕ) (r : Request) (acknowledged : ℕ) → owns_all s.owned (hashes r.command) ≡ true → IsTraced q b kept s
    → IsTraced q b (if touches r.command (hash_of q) then kept ++ (r.id, r.command) ∷ [] else kept) (after_entry s k (Op r acknowledged))
unfolding after_entry
traced_op q b kept s k r acknowledged owns t = record {
  ordered = t.ordered;
  value = λ owned base e. go (touches r.command (hash_of q)) refl base (t.value owned base e);
  none = λ away. value_stays r.command s.store q (untouched s r (hash_of q) owns away) ∙ t.none away;
}
  where
    go : (c : Bool) → touches r.command (hash_of q) ≡ c → (base : Contents) → map.get s.store q ≡ map.get (store_after base kept) q
        → map.get (applied s.store r.command).after q ≡ map.get (store_after base (cond c (kept ++ (r.id, r.command) ∷ []) kept)) q
    go true y base same = value_step r.command s.store (store_after base kept) q same ∙ ap (λ (u : Contents). map.get u q) (sym (store_append base kept ((r.id, r.command) ∷ [])))
    go false n base same = value_stays r.command s.store q n ∙ same

traced_take : (q : List ℕ) (b : Option (List ℕ)) (kept : List Asked) (s : LogState) (k migration : ℕ) (p : Package) → IsTraced q b kept s → IsTraced q b kept (after_entry s k (Take migration p))
unfolding after_entry
traced_take q b kept s k migration p t = record {
  ordered = ordered_without s.owned p.lo p.hi t.ordered;
  value = λ owned base e. go (is_in p.lo p.hi (hash_of q)) (is_owned s.owned (hash_of q)) refl refl (sym (owned_without s.owned p.lo p.hi (hash_of q)) ∙ owned) base (λ o. t.value o base e);
  none = λ away. lost (is_in p.lo p.hi (hash_of q)) (is_owned s.owned (hash_of q)) refl refl (sym (owned_without s.owned p.lo p.hi (hash_of q)) ∙ away);
}
  where
    go : (c d : Bool) → is_in p.lo p.hi (hash_of q) ≡ c → is_owned s.owned (hash_of q) ≡ d → (is_owned s.owned (hash_of q) && not (is_in p.lo p.hi (hash_of q))) ≡ true → (base : Contents)
        → (is_owned s.owned (hash_of q) ≡ true → map.get s.store q ≡ map.get (store_after base kept) q) → map.get (without_keys s.store p.lo p.hi) q ≡ map.get (store_after base kept) q
    go c d e f owned base same =
        let parts = and_parts (is_owned s.owned (hash_of q)) (not (is_in p.lo p.hi (hash_of q))) owned in
        get_without_keys s.store p.lo p.hi q ∙ out c e parts.1 ∙ same parts.0
      where
        out : (c : Bool) → is_in p.lo p.hi (hash_of q) ≡ c → not (is_in p.lo p.hi (hash_of q)) ≡ true → cond (is_in p.lo p.hi (hash_of q)) None (map.get s.store q) ≡ map.get s.store q
        out true e n = absurd (cc (n, ap not e))
        out false e n = ap (λ (b : Bool). cond b None (map.get s.store q)) e

    lost : (c d : Bool) → is_in p.lo p.hi (hash_of q) ≡ c → is_owned s.owned (hash_of q) ≡ d → (is_owned s.owned (hash_of q) && not (is_in p.lo p.hi (hash_of q))) ≡ false
        → map.get (without_keys s.store p.lo p.hi) q ≡ None
    lost true d e f away = get_without_keys s.store p.lo p.hi q ∙ ap (λ (b : Bool). cond b None (map.get s.store q)) e
    lost false true e f away = absurd (cc (away, ap not e, f))
    lost false false e f away = get_without_keys s.store p.lo p.hi q ∙ ap (λ (b : Bool). cond b None (map.get s.store q)) e ∙ t.none f

traced_give : (q : List ℕ) (b : Option (List ℕ)) (kept : List Asked) (s : LogState) (k migration : ℕ) (p : Package) → GiveFits s p → IsTraced q b kept s
    → IsTraced q (if is_in p.lo p.hi (hash_of q) then find (slice_cmp nat_cmp) q p.pairs else b) (if is_in p.lo p.hi (hash_of q) then [] else kept) (after_entry s k (Give migration p))
unfolding after_entry
traced_give q b kept s k migration p fits t = record {
  ordered = ordered_with_range s.owned p.lo p.hi t.ordered p.ordered;
  value = λ owned base e. go (is_in p.lo p.hi (hash_of q)) refl (sym (owned_with_range s.owned p.lo p.hi (hash_of q) t.ordered p.ordered) ∙ owned) base e;
  none = λ away. lost (is_in p.lo p.hi (hash_of q)) (is_owned s.owned (hash_of q)) refl refl (sym (owned_with_range s.owned p.lo p.hi (hash_of q) t.ordered p.ordered) ∙ away);
}
  where
    over_none : (o : Option (List ℕ)) → over o None ≡ o
    over_none None = refl
    over_none (Some v) = refl

    or_false : (a b : Bool) → (a || b) ≡ true → b ≡ false → a ≡ true
    or_false true b e f = refl
    or_false false b e f = absurd (cc (e, f))

    go : (c : Bool) → is_in p.lo p.hi (hash_of q) ≡ c → (is_owned s.owned (hash_of q) || is_in p.lo p.hi (hash_of q)) ≡ true → (base : Contents) → map.get base q ≡ cond c (find (slice_cmp nat_cmp) q p.pairs) b
        → map.get (with_pairs s.store p.pairs) q ≡ map.get (store_after base (cond c [] kept)) q
    go true y owned base e =
        get_with_pairs p.pairs s.store q fits.ascend ∙ ap (over (find (slice_cmp nat_cmp) q p.pairs)) (t.none (fits.away (hash_of q) y)) ∙ over_none (find (slice_cmp nat_cmp) q p.pairs) ∙ sym e
    go false n owned base e = get_with_others p.lo p.hi p.pairs s.store q fits.within n ∙ t.value (or_false _ _ owned n) base e

    lost : (c d : Bool) → is_in p.lo p.hi (hash_of q) ≡ c → is_owned s.owned (hash_of q) ≡ d → (is_owned s.owned (hash_of q) || is_in p.lo p.hi (hash_of q)) ≡ false → map.get (with_pairs s.store p.pairs) q ≡ None
    lost true true e f away = absurd (cc (e, f, away))
    lost true false e f away = absurd (cc (e, f, away))
    lost false true e f away = absurd (cc (e, f, away))
    lost false false e f away = get_with_others p.lo p.hi p.pairs s.store q fits.within e ∙ t.none f

traced_expire : (q : List ℕ) (b : Option (List ℕ)) (kept : List Asked) (s : LogState) (k client : ℕ) → IsTraced q b kept s → IsTraced q b kept (after_entry s k (Expire client))
unfolding after_entry
traced_expire q b kept s k client t = record { ordered = t.ordered; value = t.value; none = t.none }

-- the trace goes on with the entries
pub traced_entries : (q : List ℕ) (es : List Entry) (b : Option (List ℕ)) (kept : List Asked) (s : LogState) (k : ℕ) → all_fit s k es ≡ true → GivesFit s k es → IsTraced q b kept s
    → IsTraced q (came_from (hash_of q) q b es) (behind_from (hash_of q) kept es) (after_entries s k es)
traced_entries q [] b kept s k fits gives t = t
traced_entries q (Op r acknowledged ∷ es) b kept s k fits gives t =
    let parts = and_parts (fits_at s (Op r acknowledged)) _ fits in
    let here = and_parts (is_new (check s.table r.id)) (owns_all s.owned (hashes r.command)) parts.0 in
    traced_entries q es b (if touches r.command (hash_of q) then kept ++ (r.id, r.command) ∷ [] else kept) (after_entry s k (Op r acknowledged)) (k + 1) parts.1 gives (traced_op q b kept s k r acknowledged here.1 t)
traced_entries q (Take migration p ∷ es) b kept s k fits gives t =
    traced_entries q es b kept (after_entry s k (Take migration p)) (k + 1) (and_parts (fits_at s (Take migration p)) _ fits).1 gives (traced_take q b kept s k migration p t)
traced_entries q (Give migration p ∷ es) b kept s k fits gives t =
    traced_entries q es (if is_in p.lo p.hi (hash_of q) then find (slice_cmp nat_cmp) q p.pairs else b) (if is_in p.lo p.hi (hash_of q) then [] else kept) (after_entry s k (Give migration p)) (k + 1)
    (and_parts (fits_at s (Give migration p)) _ fits).1 gives.1 (traced_give q b kept s k migration p gives.0 t)
traced_entries q (Expire client ∷ es) b kept s k fits gives t =
    traced_entries q es b kept (after_entry s k (Expire client)) (k + 1) (and_parts (fits_at s (Expire client)) _ fits).1 gives (traced_expire q b kept s k client t)

traced_opening : (q : List ℕ) (lo hi : ℕ) → lo ≤ hi → IsTraced q None [] (log_opening lo hi)
traced_opening q lo hi l = record {
  ordered = (l, tt);
  value = λ owned base e. map.get-empty (slice_cmp nat_cmp) q ∙ sym e;
  none = λ away. map.get-empty (slice_cmp nat_cmp) q;
}

-- the trace of a whole log
pub log_traced : (lo hi : ℕ) (log : List Entry) → lo ≤ hi → IsLog lo hi log → GivesFit (log_opening lo hi) 0 log → (q : List ℕ) → IsTraced q (came (hash_of q) q log) (behind (hash_of q) log) (meaning lo hi log)
log_traced lo hi log l fits gives q = traced_entries q log None [] (log_opening lo hi) 0 fits gives (traced_opening q lo hi l)

-- the value of a log at a key whose hash is owned: what came with the last give that covers it, and the ops behind it
pub log_value : (lo hi : ℕ) (log : List Entry) → lo ≤ hi → IsLog lo hi log → GivesFit (log_opening lo hi) 0 log → (h : ℕ) → is_owned (meaning lo hi log).owned h ≡ true → (key : List ℕ) → hash_of key ≡ h
    → (past : List Asked) → ((other : List ℕ) → hash_of other ≡ h → value other past ≡ came h other log) → map.get (meaning lo hi log).store key ≡ value key (past ++ behind h log)
log_value lo hi log l fits gives h owned key is past values =
    let begins : value key past ≡ came (hash_of key) key log = values key is ∙ ap (λ (g : ℕ). came g key log) (sym is) in
    (log_traced lo hi log l fits gives key).value (ap (is_owned (meaning lo hi log).owned) is ∙ owned) (store_after nothing past) begins
    ∙ ap (λ (g : ℕ). map.get (store_after (store_after nothing past) (behind g log)) key) is
    ∙ ap (λ (s : Contents). map.get s key) (sym (store_append nothing past (behind h log)))

-- and so at each of its beginnings
pub log_value_prefix : (lo hi : ℕ) (log : List Entry) → lo ≤ hi → IsLog lo hi log → GivesFit (log_opening lo hi) 0 log → (prefix back : List Entry) → prefix ++ back ≡ log
    → (h : ℕ) → is_owned (meaning lo hi prefix).owned h ≡ true → (key : List ℕ) → hash_of key ≡ h
    → (past : List Asked) → ((other : List ℕ) → hash_of other ≡ h → value other past ≡ came h other prefix) → map.get (meaning lo hi prefix).store key ≡ value key (past ++ behind h prefix)
log_value_prefix lo hi log l fits gives prefix back is =
    log_value lo hi prefix l (prefix_of_log lo hi prefix back (subst (IsLog lo hi) (sym is) fits)) (gives_fit_prefix prefix back (log_opening lo hi) 0 (subst (GivesFit (log_opening lo hi) 0) (sym is) gives))
