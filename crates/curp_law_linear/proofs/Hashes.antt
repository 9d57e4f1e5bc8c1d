-- The order and the logs at one hash, as they grow at their ends.
use Rattle.std.proofs.Common.{◌≡◌, ◌==◌, ◌||◌, ◌&&◌, ◌⊎◌, ℕ, suc, inl, inr, Bool, true, false, not, cond, List, [], ◌∷◌, ◌++◌, map, Option, Some, None, refl, ap, sym, ◌∙◌, append-nil}
use Rattle.std.specs.List.{filter, list_any}
use Rattle.std.proofs.lemmas.Bool.{eq-eqb, or_left}
use Rattle.std.proofs.lemmas.List.{map-append}
use Rattle.std.proofs.lemmas.List.Elements.{filter-append}
use Rattle.std.proofs.lemmas.List.Folds.{list_any-append}
use Rattle.curp_base.specs.Words.{At, numbered}
use Rattle.curp_range.specs.Spans.{is_in}
use Rattle.curp_cmd.specs.Hash.{hash_of, touches}
use Rattle.curp_cmd.specs.Store.{keys_of}
use Rattle.curp_cmd.specs.declared.command.Command.{Command}
use Rattle.curp_cmd.specs.declared.command.Request.{Request}
use Rattle.curp_cmd.specs.declared.entry.Entry.{Entry}
use Rattle.curp_cmd.specs.declared.entry.Entry.TheVariants.{Expire, Give, Op, Take}
use Rattle.curp_model.specs.Log.{LogState, after_entry, meaning}
use Rattle.curp_model.specs.Manager.{Migration}
use Rattle.curp_model.specs.Marks.{Cut, Executed, Looked, Mark, Place, Quick, in_turn, is_cut, is_update_mark}
use Rattle.curp_model.proofs.Logs.{meaning_append}
use Rattle.curp_law_kept.specs.Hashes.{In, asked, behind, behind_from, came, on, updates}
use Rattle.curp_order.specs.Order.{Asked}
use Rattle.curp_law_linear.specs.Hashes.{Part, given_on, has_take, is_take, onward}
use Rattle.curp_law_linear.proofs.Lists.{in_cases, in_cons, in_none, or_none}
use Rattle.curp_base.proofs.Numbered.{filter_at}
use Rattle.curp_base.proofs.Lists.{at_mapped}
use Rattle.curp_law_kept.proofs.Gives.{behind_from_append, came_from_append}

pub on_none : (h : ℕ) (x : Asked) → touches x.1 h ≡ false → on h (x ∷ []) ≡ []
on_none h x t = ap (λ (b : Bool). cond b (x ∷ []) []) t

-- the updates of more marks
pub updates_append : (xs ys : List Mark) → updates (xs ++ ys) ≡ updates xs ++ updates ys
updates_append xs ys = ap (map asked) (filter-append (λ (m : Mark). is_update_mark m.place) xs ys) ∙ map-append asked _ _

-- the mark of an update of the order
pub update_mark : (marks : List Mark) (k : ℕ) (x : Asked) → At (updates marks) k x → (m : Mark) × (j : ℕ) × At marks j m × (is_update_mark m.place ≡ true) × (asked m ≡ x)
update_mark marks k x h =
    let m = at_mapped asked (filter (λ (m : Mark). is_update_mark m.place) marks) k x h in
    let f = filter_at (λ (m : Mark). is_update_mark m.place) marks k m.0 m.1 in
    (m.0, f.0, f.1, f.2, m.2)

-- an update's mark has an index
pub update_place : (p : Place) → is_update_mark p ≡ true → (i : ℕ) × (p ≡ Executed i)
update_place (Executed i) e = (i, refl)
update_place (Looked c l) e = absurd cc
update_place (Quick c) e = absurd cc
update_place (Cut n l) e = absurd cc

-- and is no adoption's
pub update_no_cut : (p : Place) (b : Bool) → is_update_mark p ≡ true → (is_cut p && b) ≡ false
update_no_cut (Executed i) b e = refl
update_no_cut (Looked c l) b e = absurd cc
update_no_cut (Quick c) b e = absurd cc
update_no_cut (Cut n l) b e = absurd cc

-- nor is a flagged one open
pub flagged_no_cut : (a b : Bool) → b ≡ true → (a && not b) ≡ false
flagged_no_cut true true e = refl
flagged_no_cut false b e = refl
flagged_no_cut true false e = absurd cc

-- an update's mark came to the end
pub update_timed : (p : Place) (b : Bool) → is_update_mark p ≡ true → (b || in_turn p) ≡ true
update_timed p true e = refl
update_timed (Executed i) false e = refl
update_timed (Looked c l) false e = absurd cc
update_timed (Quick c) false e = absurd cc
update_timed (Cut n l) false e = absurd cc

-- what isn't open is a request's, where it came to the end or is flagged
pub timed_no_cut : (p : Place) (b : Bool) → (b || in_turn p) ≡ true → (is_cut p && not b) ≡ false
timed_no_cut (Executed i) b e = refl
timed_no_cut (Looked c l) b e = refl
timed_no_cut (Quick c) b e = refl
timed_no_cut (Cut n l) true e = refl
timed_no_cut (Cut n l) false e = absurd cc

-- what stands behind is an op of the log
pub record OpIn (x : Asked) (es : List Entry) : Type 0 where
  pub place : ℕ
  pub request : Request
  pub acknowledged : ℕ
  pub stands : At es place (Op request acknowledged)
  pub is : (request.id, request.command) ≡ x

op_tail : (x : Asked) (e : Entry) (es : List Entry) → OpIn x es → OpIn x (e ∷ es)
op_tail x e es o = record { place = suc o.place; request = o.request; acknowledged = o.acknowledged; stands = o.stands; is = o.is }

later : (x : Asked) (kept : List Asked) (e : Entry) (es : List Entry) → In x kept ⊎ OpIn x es → In x kept ⊎ OpIn x (e ∷ es)
later x kept e es c = elim c [ inl old ↦ inl old | inr o ↦ inr (op_tail x e es o) ]

-- what stands behind the last give is an op of the log
pub behind_in : (h : ℕ) (kept : List Asked) (es : List Entry) (x : Asked) → In x (behind_from h kept es) → In x kept ⊎ OpIn x es
behind_in h kept [] x m = inl m
behind_in h kept (Op r acknowledged ∷ es) x m = go (touches r.command h) m (behind_in h (kept ++ (r.id, r.command) ∷ []) es x) (behind_in h kept es x)
  where
    go : (b : Bool) → In x (behind_from h (cond b (kept ++ (r.id, r.command) ∷ []) kept) es)
        → (In x (behind_from h (kept ++ (r.id, r.command) ∷ []) es) → In x (kept ++ (r.id, r.command) ∷ []) ⊎ OpIn x es) → (In x (behind_from h kept es) → In x kept ⊎ OpIn x es)
        → In x kept ⊎ OpIn x (Op r acknowledged ∷ es)
    go true m f g = elim (f m) [
      | inl old ↦ elim (in_cases kept ((r.id, r.command) ∷ []) x old) [
        | inl older ↦ inl older
        | inr own ↦ elim (in_cons x (r.id, r.command) [] own) [
          | inl same ↦ inr (record { place = 0; request = r; acknowledged = acknowledged; stands = refl; is = same })
          | inr none ↦ in_none x _ none
        ]
      ]
      | inr o ↦ inr (op_tail x _ es o)
    ]
    go false m f g = later x kept _ es (g m)
behind_in h kept (Take migration taken ∷ es) x m = later x kept _ es (behind_in h kept es x m)
behind_in h kept (Give migration given ∷ es) x m = go (is_in given.lo given.hi h) m (behind_in h [] es x) (behind_in h kept es x)
  where
    go : (b : Bool) → In x (behind_from h (cond b [] kept) es) → (In x (behind_from h [] es) → In x [] ⊎ OpIn x es) → (In x (behind_from h kept es) → In x kept ⊎ OpIn x es) → In x kept ⊎ OpIn x (Give migration given ∷ es)
    go true m f g = elim (f m) [ inl none ↦ in_none x _ none | inr o ↦ inr (op_tail x _ es o) ]
    go false m f g = later x kept _ es (g m)
behind_in h kept (Expire client ∷ es) x m = later x kept _ es (behind_in h kept es x m)

-- ---- the entry at the end

-- one more op
pub behind_op : (h : ℕ) (log : List Entry) (r : Request) (a : ℕ) → behind h (log ++ Op r a ∷ []) ≡ behind h log ++ on h ((r.id, r.command) ∷ [])
behind_op h log r a = behind_from_append h [] log (Op r a ∷ []) ∙ go (touches r.command h)
  where
    go : (b : Bool) → cond b (behind h log ++ (r.id, r.command) ∷ []) (behind h log) ≡ behind h log ++ cond b ((r.id, r.command) ∷ []) []
    go true = refl
    go false = sym (append-nil (behind h log))

-- one more op brings nothing
pub came_op : (h : ℕ) (key : List ℕ) (log : List Entry) (r : Request) (a : ℕ) → came h key (log ++ Op r a ∷ []) ≡ came h key log
came_op h key log r a = came_from_append h key None log (Op r a ∷ [])

-- one more entry that doesn't pass
pub any_push : (p : Entry → Bool) (log : List Entry) (e : Entry) → p e ≡ false → list_any p (log ++ e ∷ []) ≡ list_any p log
any_push p log e none = list_any-append p log (e ∷ []) ∙ ap (λ (b : Bool). list_any p log || (b || false)) none ∙ or_none (list_any p log)

-- one more entry that is no take
pub has_take_push : (moving : Option Migration) (h : ℕ) (log : List Entry) (e : Entry) → ((number : ℕ) → is_take number e ≡ false) → has_take moving h (log ++ e ∷ []) ≡ has_take moving h log
has_take_push None h log e none = refl
has_take_push (Some m) h log e none = ap (λ (b : Bool). is_in m.range.lo m.range.hi h && b) (any_push (is_take m.number) log e (none m.number))

-- an op changes nothing of what is owned
pub owned_op : (lo hi : ℕ) (log : List Entry) (r : Request) (a : ℕ) → (meaning lo hi (log ++ Op r a ∷ [])).owned ≡ (meaning lo hi log).owned
unfolding after_entry
owned_op lo hi log r a = ap (λ (s : LogState). s.owned) (meaning_append lo hi log (Op r a ∷ []))

-- nor does an expiry
pub owned_expire : (lo hi : ℕ) (log : List Entry) (client : ℕ) → (meaning lo hi (log ++ Expire client ∷ [])).owned ≡ (meaning lo hi log).owned
unfolding after_entry
owned_expire lo hi log client = ap (λ (s : LogState). s.owned) (meaning_append lo hi log (Expire client ∷ []))

-- where no take is out, nothing went on elsewhere
pub no_onward : (moving : Option Migration) (parts : List Part) (log : List Entry) (h : ℕ) → has_take moving h log ≡ false → onward moving parts log h ≡ []
no_onward None parts log h none = refl
no_onward (Some m) parts log h none = ap (λ (b : Bool). cond b (given_on h m.number (numbered parts m.target)) []) none

-- ---- keys

-- a command touches the hash of each of its keys
pub key_touches : (c : Command) (key : List ℕ) → In key (keys_of c) → touches c (hash_of key) ≡ true
key_touches c key m = go (keys_of c) m
  where
    go : (keys : List (List ℕ)) → In key keys → list_any (λ x. x == hash_of key) (map hash_of keys) ≡ true
    go [] m = absurd (cc (m.1))
    go (k ∷ keys) m = elim (in_cons key k keys m) [
      | inl same ↦ own (ap hash_of same)
      | inr later ↦ rest (hash_of k == hash_of key) (go keys later)
    ]
      where
        own : hash_of k ≡ hash_of key → ((hash_of k == hash_of key) || list_any (λ x. x == hash_of key) (map hash_of keys)) ≡ true
        own e = or_left _ _ (eq-eqb _ _ e)

        rest : (b : Bool) → list_any (λ x. x == hash_of key) (map hash_of keys) ≡ true → (b || list_any (λ x. x == hash_of key) (map hash_of keys)) ≡ true
        rest true e = refl
        rest false e = e
