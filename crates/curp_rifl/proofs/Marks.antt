-- What a change of one client makes of first numbers and of the clients that are gone.
use Rattle.std.proofs.Common.{◌≡◌, ℕ, zero, suc, ◌≤◌, ◌==◌, nat_lt, Bool, true, false, cond, List, [], ◌∷◌, map, max, Option, Some, None, is_some, unwrap_or, refl, ap, sym, subst, ◌∙◌, arith}
use Rattle.std.specs.BTreeSet.{insert_key}
use Rattle.std.specs.FinMap.Entries.{by_order, find, put}
use Rattle.std.specs.List.{filter, list_any}
use Rattle.std.specs.Ordering.{eq_by_cmp, nat_cmp, match_ordering}
use Rattle.std.specs.declared.cmp.Ordering.{Ordering}
use Rattle.std.specs.declared.cmp.Ordering.TheVariants.{Less, Equal, Greater}
use Rattle.std.proofs.lemmas.Bool.Decides.{nat_tests}
use Rattle.curp_base.specs.Words.{Ascend, KeysAscend}
use Rattle.curp_base.proofs.Rising.{keyed}
use Rattle.curp_model.specs.Table.{raise_first}
use Rattle.curp_rifl.specs.declared.clients.ClientMark.{ClientMark}
use Rattle.curp_rifl.specs.declared.clients.Presence.TheVariants.{Gone}
use Rattle.curp_rifl.specs.Clients.{Client, firsts_of, gone_of, has_first, has_left, mark_in}
use Rattle.curp_rifl.proofs.Picked.{picked, pick, ascend_picked_values, find_picked, put_picked, put_unseen}

abbrev left_of : ClientMark → Bool
left_of m = has_left m.presence

abbrev first_of_mark : ClientMark → ℕ
first_of_mark m = m.first

abbrev nothing_of : ClientMark → Unit {0}
nothing_of m = tt {0}

-- ---- keys alone

keyed_insert : (keys : List ℕ) (key : ℕ) → keyed (insert_key nat_cmp keys key) ≡ put nat_cmp key (tt {0}) (keyed keys)
keyed_insert [] key = refl
keyed_insert (x ∷ keys) key = go (nat_cmp key x) (keyed_insert keys key)
  where
    go : (r : Ordering) → keyed (insert_key nat_cmp keys key) ≡ put nat_cmp key (tt {0}) (keyed keys)
        → keyed (match_ordering r (key ∷ x ∷ keys) (x ∷ keys) (x ∷ insert_key nat_cmp keys key))
        ≡ by_order r ((key, tt {0}) ∷ (x, tt {0}) ∷ keyed keys) ((x, tt {0}) ∷ keyed keys) ((x, tt {0}) ∷ put nat_cmp key (tt {0}) (keyed keys))
    go Less ih = refl
    go Equal ih = refl
    go Greater ih = ap (λ (es : List (ℕ × Unit {0})). (x, tt {0}) ∷ es) ih

keys_of_keyed : (keys : List ℕ) → map (λ (e : ℕ × Unit {0}). e.0) (keyed keys) ≡ keys
keys_of_keyed [] = refl
keys_of_keyed (x ∷ keys) = ap (λ (ys : List ℕ). x ∷ ys) (keys_of_keyed keys)

same_keys : (xs ys : List ℕ) → keyed xs ≡ keyed ys → xs ≡ ys
same_keys xs ys e = sym (keys_of_keyed xs) ∙ ap (map (λ (e : ℕ × Unit {0}). e.0)) e ∙ keys_of_keyed ys

any_keyed : (keys : List ℕ) (key : ℕ) → list_any (λ c. c == key) keys ≡ is_some (find nat_cmp key (keyed keys))
any_keyed [] key = refl
any_keyed (x ∷ keys) key = go (eq_by_cmp nat_cmp key x) refl (any_keyed keys key)
  where
    go : (b : Bool) → eq_by_cmp nat_cmp key x ≡ b → list_any (λ c. c == key) keys ≡ is_some (find nat_cmp key (keyed keys))
        → list_any (λ c. c == key) (x ∷ keys) ≡ is_some (find nat_cmp key (keyed (x ∷ keys)))
    go true e ih = let same : (x == key) ≡ true = grind (arith, nat_tests) in rw (same, e) refl
    go false e ih = let apart : (x == key) ≡ false = grind (arith, nat_tests) in rw (apart, e) ih

gone_keyed : (es : List Client) → keyed (gone_of es) ≡ picked left_of nothing_of es
gone_keyed es = go (filter (λ (e : Client). has_left e.1.presence) es)
  where
    go : (es : List Client) → keyed (map (λ (e : Client). e.0) es) ≡ map (λ (e : Client). (e.0, tt {0})) es
    go [] = refl
    go (e ∷ es) = ap (λ (xs : List (ℕ × Unit {0})). (e.0, tt {0}) ∷ xs) (go es)

-- ---- both lists ascend

pub ascend_firsts : (es : List Client) → KeysAscend nat_cmp es → KeysAscend nat_cmp (firsts_of es)
ascend_firsts es s = ascend_picked_values has_first first_of_mark es s

pub ascend_gone : (es : List Client) → KeysAscend nat_cmp es → Ascend nat_cmp (gone_of es)
ascend_gone es s = subst (λ (xs : List (ℕ × Unit {0})). KeysAscend nat_cmp xs) (sym (gone_keyed es)) (ascend_picked_values left_of nothing_of es s)

-- ---- what is kept of a client

above_zero : (n : ℕ) → nat_lt 0 (suc n) ≡ true
above_zero n = grind (arith, nat_tests)

numbered_first : (n : ℕ) → unwrap_or (cond (nat_lt 0 n) (Some n) None) 0 ≡ n
numbered_first zero = refl
numbered_first (suc n) = rw (above_zero n) refl

first_in : (o : Option ClientMark) → (mark_in o).first ≡ unwrap_or (pick has_first first_of_mark o) 0
first_in None = refl
first_in (Some m) = sym (numbered_first m.first)

left_in : (o : Option ClientMark) → has_left (mark_in o).presence ≡ is_some (pick left_of nothing_of o)
left_in None = refl
left_in (Some m) = go (has_left m.presence)
  where
    go : (b : Bool) → b ≡ is_some (cond b (Some (tt {0})) None)
    go true = refl
    go false = refl

same_first : (o : Option ClientMark) → pick has_first first_of_mark (Some (record { first = (mark_in o).first; presence = Gone })) ≡ pick has_first first_of_mark o
same_first None = refl
same_first (Some m) = refl

same_left : (first : ℕ) (o : Option ClientMark) → pick left_of nothing_of (Some (record { first = first; presence = (mark_in o).presence })) ≡ pick left_of nothing_of o
same_left first None = refl
same_left first (Some m) = refl

module _ (es : List Client) (s : KeysAscend nat_cmp es) (client : ℕ) where
  pub marked_first : (mark_in (find nat_cmp client es)).first ≡ unwrap_or (find nat_cmp client (firsts_of es)) 0
  marked_first = first_in (find nat_cmp client es) ∙ ap (λ (o : Option ℕ). unwrap_or o 0) (sym (find_picked has_first first_of_mark client es s))

  pub marked_gone : has_left (mark_in (find nat_cmp client es)).presence ≡ list_any (λ c. c == client) (gone_of es)
  marked_gone =
      left_in (find nat_cmp client es)
      ∙ ap is_some (sym (find_picked left_of nothing_of client es s))
      ∙ ap (λ (xs : List (ℕ × Unit {0})). is_some (find nat_cmp client xs)) (sym (gone_keyed es))
      ∙ sym (any_keyed (gone_of es) client)

  -- ---- what changes of it

  abbrev mark : ClientMark
  mark = mark_in (find nat_cmp client es)

  pub raised : (first : ℕ) → 1 ≤ first → firsts_of (put nat_cmp client (record { first = max first mark.first; presence = mark.presence }) es) ≡ raise_first (firsts_of es) client first
  raised zero some = absurd (omega arith)
  raised (suc n) some =
      let passes : nat_lt 0 (max (suc n) mark.first) ≡ true = grind (arith, nat_tests) in
      put_picked has_first first_of_mark client (record { first = max (suc n) mark.first; presence = mark.presence }) es passes s
      ∙ ap (λ (x : ℕ). put nat_cmp client (max (suc n) x) (firsts_of es)) marked_first

  pub raised_gone : (first : ℕ) → gone_of (put nat_cmp client (record { first = first; presence = mark.presence }) es) ≡ gone_of es
  raised_gone first = same_keys _ _
      (gone_keyed (put nat_cmp client (record { first = first; presence = mark.presence }) es)
      ∙ put_unseen left_of nothing_of client (record { first = first; presence = mark.presence }) es (same_left first (find nat_cmp client es)) s
      ∙ sym (gone_keyed es))

  abbrev gone : ClientMark
  gone = record { first = mark.first; presence = Gone }

  pub left_gone : gone_of (put nat_cmp client gone es) ≡ insert_key nat_cmp (gone_of es) client
  left_gone = same_keys _ _
      (gone_keyed (put nat_cmp client gone es)
      ∙ put_picked left_of nothing_of client gone es refl s
      ∙ ap (put nat_cmp client (tt {0})) (sym (gone_keyed es))
      ∙ sym (keyed_insert (gone_of es) client))

  pub left_firsts : firsts_of (put nat_cmp client gone es) ≡ firsts_of es
  left_firsts = put_unseen has_first first_of_mark client gone es (same_first (find nat_cmp client es)) s
