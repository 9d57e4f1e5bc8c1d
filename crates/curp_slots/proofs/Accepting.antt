-- A request comes to be held: the slots that it takes, and what they tell then.
use Rattle.std.proofs.Common.{◌≡◌, ◌≢◌, ◌⊎◌, inl, inr, ℕ, zero, suc, ◌+◌, ◌*◌, ◌%◌, ◌==◌, ◌||◌, ◌<◌, ◌≤◌, Bool, true, false, cond, List, [], ◌∷◌, ◌++◌, length, map, get_or, set, Option, Some, None, refl, ap, sym, ◌∙◌, subst, arith, length-append, length-set}
use Rattle.std.specs.FinMap.Entries.{by_order}
use Rattle.std.specs.List.{filter, list_any, sum}
use Rattle.std.specs.declared.cmp.Ordering.{Ordering}
use Rattle.std.specs.declared.cmp.Ordering.TheVariants.{Less, Equal, Greater}
use Rattle.std.proofs.Math.Nat.{mod-lt, suc-mul}
use Rattle.std.proofs.lemmas.Bool.Decides.{nat_tests}
use Rattle.std.proofs.Math.Seq.{map-set_same}
use Rattle.std.proofs.lemmas.List.{append-nil, length-map, map-append, map-set}
use Rattle.std.proofs.lemmas.List.Elements.{filter-append}
use Rattle.std.proofs.lemmas.List.Sums.{sum_by-cons}
use Rattle.curp_base.specs.Words.{Each}
use Rattle.curp_cmd.specs.Hash.{touches, hashes}
use Rattle.curp_cmd.proofs.Ids.{same_id-self}
use Rattle.curp_cmd.specs.RequestId.{id_cmp, same_id}
use Rattle.curp_cmd.specs.declared.command.Request.{Request}
use Rattle.curp_cmd.specs.declared.command.RequestId.{RequestId}
use Rattle.curp_model.specs.Witness.{in_set, placed, HeldRequest}
use Rattle.curp_model.proofs.Tables.{ids_same}
use Rattle.curp_slots.specs.Hashed.{requests_of}
use Rattle.curp_slots.specs.Holding.{chosen_of, ids_with, slots_of, used_by}
use Rattle.curp_slots.specs.Register.{is_held}
use Rattle.curp_slots.specs.Slots.{owner, owner_in, set_of, with_slot, with_slot_in, with_slots}
use Rattle.curp_slots.specs.declared.set.Slot.{Slot}
use Rattle.curp_slots.proofs.Taken.{in_set_cases, slots_in_set}

-- ---- one slot

abbrev pub either : {A : Type 0} → Option A → Option A → Option A
either None b = b
either (Some a) b = Some a

either_again : {A : Type 0} (a b c : Option A) → either (either a b) c ≡ either a (either b c)
either_again None b c = refl
either_again (Some a) b c = refl

either_none : {A : Type 0} (a : Option A) → either a None ≡ a
either_none None = refl
either_none (Some a) = refl

abbrev pub if_some : {A : Type 0} → Bool → A → Option A
if_some b x = cond b (Some x) None

owner_pushed : (ss : List Slot) (s : Slot) (h : ℕ) → owner_in (ss ++ s ∷ []) h ≡ either (owner_in ss h) (if_some (s.hash == h) s.id)
owner_pushed [] s h = refl
owner_pushed (t ∷ ss) s h = go (t.hash == h) (owner_pushed ss s h)
  where
    go : (b : Bool) → owner_in (ss ++ s ∷ []) h ≡ either (owner_in ss h) (if_some (s.hash == h) s.id)
        → cond b (Some t.id) (owner_in (ss ++ s ∷ []) h) ≡ either (cond b (Some t.id) (owner_in ss h)) (if_some (s.hash == h) s.id)
    go true rest = refl
    go false rest = rest

size_kept : (sets : List (List Slot)) (k : ℕ) (id : RequestId) → length (with_slot sets k id) ≡ length sets
size_kept sets k id = length-set sets (k % length sets) (set_of sets k ++ record { hash = k; id = id } ∷ [])

unequal : (a b : ℕ) → a ≢ b → (a == b) ≡ false
unequal a b apart = grind (arith, nat_tests)

owner_of_one : (sets : List (List Slot)) (k h : ℕ) (id : RequestId) → 1 ≤ length sets → owner (with_slot sets k id) h ≡ either (owner sets h) (if_some (k == h) id)
owner_of_one sets k h id some =
    let slot : Slot = record { hash = k; id = id } in
    ap (λ (n : ℕ). owner_in (get_or (with_slot sets k id) (h % n) []) h) (size_kept sets k id)
    ∙ elim (slots_in_set sets (k % length sets) (h % length sets) slot (mod-lt k some)) [
      | inl e ↦ ap (λ (ss : List Slot). owner_in ss h) e.1 ∙ owner_pushed (set_of sets h) slot h
      | inr e ↦
          ap (λ (ss : List Slot). owner_in ss h) e.1 ∙ sym (either_none (owner sets h))
          ∙ ap (λ (b : Bool). either (owner sets h) (if_some b id)) (sym (unequal k h (λ same. e.0 (ap (λ (n : ℕ). n % length sets) same))))
    ]

-- ---- a slot for each hash

pub sizes_kept : (sets : List (List Slot)) (hs : List ℕ) (id : RequestId) → length (with_slots sets hs id) ≡ length sets
sizes_kept sets [] id = refl
sizes_kept sets (h ∷ hs) id = sizes_kept (with_slot sets h id) hs id ∙ size_kept sets h id

pub owner_of_all : (sets : List (List Slot)) (hs : List ℕ) (h : ℕ) (id : RequestId) → 1 ≤ length sets → owner (with_slots sets hs id) h ≡ either (owner sets h) (if_some (list_any (λ x. x == h) hs) id)
owner_of_all sets [] h id some = sym (either_none (owner sets h))
owner_of_all sets (k ∷ hs) h id some =
    owner_of_all (with_slot sets k id) hs h id (subst (λ (n : ℕ). 1 ≤ n) (sym (size_kept sets k id)) some)
    ∙ ap (λ (o : Option RequestId). either o (if_some (list_any (λ x. x == h) hs) id)) (owner_of_one sets k h id some)
    ∙ either_again (owner sets h) (if_some (k == h) id) (if_some (list_any (λ x. x == h) hs) id)
    ∙ ap (either (owner sets h)) (go (k == h) (list_any (λ x. x == h) hs))
  where
    go : (a b : Bool) → either (if_some a id) (if_some b id) ≡ if_some (a || b) id
    go true b = refl
    go false b = refl

pub taken_in_set : (sets : List (List Slot)) (hs : List ℕ) (id : RequestId) (s : ℕ) → 1 ≤ length sets → length (get_or (with_slots sets hs id) s []) ≡ length (get_or sets s []) + in_set (length sets) s hs
taken_in_set sets [] id s some = omega arith
taken_in_set sets (h ∷ hs) id s some =
    taken_in_set (with_slot sets h id) hs id s (subst (λ (n : ℕ). 1 ≤ n) (sym (size_kept sets h id)) some)
    ∙ ap (λ (n : ℕ). length (get_or (with_slot sets h id) s []) + in_set n s hs) (size_kept sets h id)
    ∙ go (in_set_cases (length sets) s h hs) (slots_in_set sets (h % length sets) s (record { hash = h; id = id }) (mod-lt h some))
  where
    slot : Slot
    slot = record { hash = h; id = id }

    go : ((h % length sets ≡ s) × (in_set (length sets) s (h ∷ hs) ≡ in_set (length sets) s hs + 1)) ⊎ ((h % length sets ≢ s) × (in_set (length sets) s (h ∷ hs) ≡ in_set (length sets) s hs))
        → ((h % length sets ≡ s) × (get_or (with_slot sets h id) s [] ≡ get_or sets s [] ++ record { hash = h; id = id } ∷ [])) ⊎ ((h % length sets ≢ s) × (get_or (with_slot sets h id) s [] ≡ get_or sets s []))
        → length (get_or (with_slot sets h id) s []) + in_set (length sets) s hs ≡ length (get_or sets s []) + in_set (length sets) s (h ∷ hs)
    go (inl a) (inl b) = let size = ap (λ (ss : List Slot). length ss) b.1 ∙ length-append (get_or sets s []) (record { hash = h; id = id } ∷ []) in omega (arith, a.1, size)
    go (inl a) (inr b) = absurd (b.0 a.0)
    go (inr a) (inl b) = absurd (a.0 b.0)
    go (inr a) (inr b) = let size = ap (λ (ss : List Slot). length ss) b.1 in omega (arith, a.1, size)

-- ---- how many slots are taken in all

abbrev pub total : List (List Slot) → ℕ
total sets = sum (map (λ ss. length ss) sets)

total_cons : (ss : List Slot) (sets : List (List Slot)) → total (ss ∷ sets) ≡ length ss + total sets
total_cons ss sets = sum_by-cons (λ (n : ℕ). n) (length ss) (map (λ ss. length ss) sets)

total_set : (sets : List (List Slot)) (k : ℕ) (s : Slot) → k < length sets → total (with_slot_in sets k s) ≡ total sets + 1
total_set [] k s l = absurd (omega arith)
total_set (ss ∷ sets) zero s l =
    let size = length-append ss (s ∷ []) in
    let before = total_cons ss sets in
    let after = total_cons (ss ++ s ∷ []) sets in
    omega (arith, size, before, after)
total_set (ss ∷ sets) (suc k) s l =
    let rest = total_set sets k s (omega arith) in
    let before = total_cons ss sets in
    let after = total_cons ss (with_slot_in sets k s) in
    omega (arith, rest, before, after)

pub total_taken : (sets : List (List Slot)) (hs : List ℕ) (id : RequestId) → 1 ≤ length sets → total (with_slots sets hs id) ≡ total sets + length hs
total_taken sets [] id some = omega arith
total_taken sets (h ∷ hs) id some =
    let rest = total_taken (with_slot sets h id) hs id (subst (λ (n : ℕ). 1 ≤ n) (sym (size_kept sets h id)) some) in
    let one = total_set sets (h % length sets) (record { hash = h; id = id }) (mod-lt h some) in
    omega (arith, rest, one)

pub total_most : (sets : List (List Slot)) (ways : ℕ) → ((s : ℕ) → s < length sets → length (get_or sets s []) ≤ ways) → total sets ≤ length sets * ways
total_most [] ways most = omega arith
total_most (ss ∷ sets) ways most =
    let first = most 0 (omega arith) in
    let rest = total_most sets ways (λ s l. most (suc s) (omega arith)) in
    let sum = total_cons ss sets in
    let product = suc-mul (length sets) ways in
    omega (arith, first, rest, sum, product)

-- ---- a request in its place among others

pub record IsPut (r : Request) (requests all : List Request) : Type 0 where
  pub prefix : List Request
  pub back : List Request
  pub before : prefix ++ back ≡ requests
  pub after : prefix ++ r ∷ back ≡ all

abbrev pub Absent : HeldRequest → List HeldRequest → Type 0
Absent x held = Each (λ (y : HeldRequest). id_cmp x.request.id y.request.id ≢ Equal) held

pub absent_each : (x : HeldRequest) (held : List HeldRequest) → is_held x.request.id held ≡ false → Absent x held
absent_each x [] none = tt
absent_each x (y ∷ held) none = go (same_id x.request.id y.request.id) refl none (absent_each x held)
  where
    go : (b : Bool) → same_id x.request.id y.request.id ≡ b → (b || is_held x.request.id held) ≡ false → (is_held x.request.id held ≡ false → Absent x held) → Absent x (y ∷ held)
    go true e none rest = absurd cc
    go false e none rest = (
      (λ tied.
          let same : x.request.id ≡ y.request.id = ids_same x.request.id y.request.id tied in
          let own : same_id x.request.id y.request.id ≡ true = subst (λ (z : RequestId). same_id x.request.id z ≡ true) same (same_id-self x.request.id) in
          let wrong : false ≡ true = sym e ∙ own in
          absurd cc),
      rest none,
    )

pub put_among : (x : HeldRequest) (held : List HeldRequest) → Absent x held → IsPut x.request (requests_of held) (requests_of (placed x held))
put_among x [] a = record { prefix = []; back = []; before = refl; after = refl }
put_among x (y ∷ held) a =
    let p = go (id_cmp x.request.id y.request.id) a.0 (put_among x held a.1) in
    record { prefix = p.0; back = p.1; before = p.2; after = p.3 }
  where
    go : (r : Ordering) → r ≢ Equal → IsPut x.request (requests_of held) (requests_of (placed x held))
        → (prefix : List Request) × (back : List Request) × (prefix ++ back ≡ requests_of (y ∷ held)) × (prefix ++ x.request ∷ back ≡ requests_of (by_order r (x ∷ y ∷ held) (x ∷ held) (y ∷ placed x held)))
    go Less other rest = ([], requests_of (y ∷ held), refl, refl)
    go Equal other rest = absurd (other refl)
    go Greater other rest = (y.request ∷ rest.prefix, rest.back, ap (λ (rs : List Request). y.request ∷ rs) rest.before, ap (λ (rs : List Request). y.request ∷ rs) rest.after)

-- it is so among the chosen ones, if it is chosen
pub put_chosen : (c : RequestId → Bool) (r : Request) (rs all : List Request) → IsPut r rs all → c r.id ≡ true → IsPut r (chosen_of c rs) (chosen_of c all)
put_chosen c r rs all p is = record {
  prefix = chosen_of c p.prefix;
  back = chosen_of c p.back;
  before = sym (filter-append (λ (r : Request). c r.id) p.prefix p.back) ∙ ap (chosen_of c) p.before;
  after = ap (λ (b : Bool). chosen_of c p.prefix ++ cond b (r ∷ chosen_of c p.back) (chosen_of c p.back)) (sym is) ∙ sym (filter-append (λ (r : Request). c r.id) p.prefix (r ∷ p.back)) ∙ ap (chosen_of c) p.after;
}

-- else the chosen ones are as they were
pub put_unchosen : (c : RequestId → Bool) (r : Request) (rs all : List Request) → IsPut r rs all → c r.id ≡ false → chosen_of c all ≡ chosen_of c rs
put_unchosen c r rs all p is =
    sym (ap (chosen_of c) p.after) ∙ filter-append (λ (r : Request). c r.id) p.prefix (r ∷ p.back)
    ∙ ap (λ (b : Bool). chosen_of c p.prefix ++ cond b (r ∷ chosen_of c p.back) (chosen_of c p.back)) is
    ∙ sym (filter-append (λ (r : Request). c r.id) p.prefix p.back) ∙ ap (chosen_of c) p.before

-- ---- what is told of the requests then

ids_among : (h : ℕ) (rs ss : List Request) (r : Request) → ids_with h (rs ++ r ∷ ss) ≡ ids_with h rs ++ cond (touches r.command h) (r.id ∷ ids_with h ss) (ids_with h ss)
ids_among h [] ss r = go (touches r.command h)
  where
    go : (b : Bool) → map (λ r. r.id) (cond b (r ∷ filter (λ r. touches r.command h) ss) (filter (λ r. touches r.command h) ss)) ≡ cond b (r.id ∷ ids_with h ss) (ids_with h ss)
    go true = refl
    go false = refl
ids_among h (q ∷ rs) ss r = go (touches q.command h) (ids_among h rs ss r)
  where
    go : (b : Bool) → ids_with h (rs ++ r ∷ ss) ≡ ids_with h rs ++ cond (touches r.command h) (r.id ∷ ids_with h ss) (ids_with h ss)
        → map (λ r. r.id) (cond b (q ∷ filter (λ r. touches r.command h) (rs ++ r ∷ ss)) (filter (λ r. touches r.command h) (rs ++ r ∷ ss)))
        ≡ map (λ r. r.id) (cond b (q ∷ filter (λ r. touches r.command h) rs) (filter (λ r. touches r.command h) rs)) ++ cond (touches r.command h) (r.id ∷ ids_with h ss) (ids_with h ss)
    go true rest = ap (λ (ids : List RequestId). q.id ∷ ids) rest
    go false rest = rest

ids_appended : (h : ℕ) (rs ss : List Request) → ids_with h (rs ++ ss) ≡ ids_with h rs ++ ids_with h ss
ids_appended h rs ss = ap (map (λ (r : Request). r.id)) (filter-append (λ (r : Request). touches r.command h) rs ss) ∙ map-append (λ (r : Request). r.id) (filter (λ (r : Request). touches r.command h) rs) (filter (λ (r : Request). touches r.command h) ss)

both_empty : {A : Type 0} (xs ys : List A) (x : A) → xs ++ ys ≡ [] → xs ++ x ∷ ys ≡ x ∷ []
both_empty [] ys x e = ap (λ (zs : List _). x ∷ zs) e
both_empty (y ∷ xs) ys x e = absurd cc

-- it has the hash, which nothing had; or it hasn't, and those are the same that had it
pub ids_put : (h : ℕ) (r : Request) (rs all : List Request) → IsPut r rs all → (b : Bool) → touches r.command h ≡ b → (b ≡ true → ids_with h rs ≡ []) → ids_with h all ≡ cond b (r.id ∷ []) (ids_with h rs)
ids_put h r rs all p true e none =
    let empty : ids_with h p.prefix ++ ids_with h p.back ≡ [] = sym (ids_appended h p.prefix p.back) ∙ ap (ids_with h) p.before ∙ none refl in
    sym (ap (ids_with h) p.after)
    ∙ ids_among h p.prefix p.back r
    ∙ ap (λ (b : Bool). ids_with h p.prefix ++ cond b (r.id ∷ ids_with h p.back) (ids_with h p.back)) e
    ∙ both_empty (ids_with h p.prefix) (ids_with h p.back) r.id empty
ids_put h r rs all p false e none =
    sym (ap (ids_with h) p.after)
    ∙ ids_among h p.prefix p.back r
    ∙ ap (λ (b : Bool). ids_with h p.prefix ++ cond b (r.id ∷ ids_with h p.back) (ids_with h p.back)) e
    ∙ sym (ids_appended h p.prefix p.back)
    ∙ ap (ids_with h) p.before

-- which of the ids with a hash are chosen
pub ids_chosen : (c : RequestId → Bool) (h : ℕ) (rs : List Request) → ids_with h rs ≡ [] → ids_with h (chosen_of c rs) ≡ []
ids_chosen c h [] none = refl
ids_chosen c h (r ∷ rs) none = go (touches r.command h) (c r.id) refl none (ids_chosen c h rs)
  where
    go : (b d : Bool) → touches r.command h ≡ b → map (λ (r : Request). r.id) (cond b (r ∷ filter (λ r. touches r.command h) rs) (filter (λ r. touches r.command h) rs)) ≡ [] → (ids_with h rs ≡ [] → ids_with h (chosen_of c rs) ≡ [])
        → ids_with h (cond d (r ∷ chosen_of c rs) (chosen_of c rs)) ≡ []
    go true d e none rest = absurd cc
    go false true e none rest = rw e (rest none)
    go false false e none rest = rest none

used_cons : (n s : ℕ) (r : Request) (rs : List Request) → used_by n (r ∷ rs) s ≡ in_set n s (hashes r.command) + used_by n rs s
used_cons n s r rs = sum_by-cons (λ (m : ℕ). m) (in_set n s (hashes r.command)) (map (λ r. in_set n s (hashes r.command)) rs)

used_among : (n s : ℕ) (rs ss : List Request) (r : Request) → used_by n (rs ++ r ∷ ss) s ≡ used_by n (rs ++ ss) s + in_set n s (hashes r.command)
used_among n s [] ss r = let one = used_cons n s r ss in omega (arith, one)
used_among n s (q ∷ rs) ss r =
    let rest = used_among n s rs ss r in
    let before = used_cons n s q (rs ++ ss) in
    let after = used_cons n s q (rs ++ r ∷ ss) in
    omega (arith, rest, before, after)

pub used_put : (n s : ℕ) (r : Request) (rs all : List Request) → IsPut r rs all → used_by n all s ≡ used_by n rs s + in_set n s (hashes r.command)
used_put n s r rs all p =
    sym (ap (λ (rs : List Request). used_by n rs s) p.after) ∙ used_among n s p.prefix p.back r
    ∙ ap (λ (rs : List Request). used_by n rs s + in_set n s (hashes r.command)) p.before

pub length_put : (r : Request) (rs all : List Request) → IsPut r rs all → length all ≡ length rs + 1
length_put r rs all p =
    let every = sym (ap (λ (rs : List Request). length rs) p.after) ∙ length-append p.prefix (r ∷ p.back) in
    let before = sym (ap (λ (rs : List Request). length rs) p.before) ∙ length-append p.prefix p.back in
    omega (arith, every, before)

-- ---- the slots of the chosen ones

pub slots_push : (c : RequestId → Bool) (ss : List Slot) (s : Slot) → slots_of c (ss ++ s ∷ []) ≡ slots_of c ss ++ cond (c s.id) (s ∷ []) []
slots_push c ss s = filter-append (λ (s : Slot). c s.id) ss (s ∷ [])

slots_at : (c : RequestId → Bool) (sets : List (List Slot)) (k : ℕ) → get_or (map (slots_of c) sets) k [] ≡ slots_of c (get_or sets k [])
slots_at c [] zero = refl
slots_at c [] (suc k) = refl
slots_at c (ss ∷ sets) zero = refl
slots_at c (ss ∷ sets) (suc k) = slots_at c sets k

module _ (c : RequestId → Bool) (id : RequestId) where
  one_chosen : (sets : List (List Slot)) (h : ℕ) → c id ≡ true → map (slots_of c) (with_slot sets h id) ≡ with_slot (map (slots_of c) sets) h id
  one_chosen sets h is =
      let size : length (map (slots_of c) sets) ≡ length sets = length-map sets (slots_of c) in
      map-set (slots_of c) sets (h % length sets) (set_of sets h ++ record { hash = h; id = id } ∷ [])
      ∙ ap (λ (ss : List Slot). set (map (slots_of c) sets) (h % length sets) ss)
      (slots_push c (set_of sets h) (record { hash = h; id = id })
      ∙ λ i. sym (slots_at c sets (h % length sets)) i ++ cond (is i) (record { hash = h; id = id } ∷ []) [])
      ∙ ap (λ (n : ℕ). with_slot_in (map (slots_of c) sets) (h % n) (record { hash = h; id = id })) (sym size)

  pub all_chosen : (sets : List (List Slot)) (hs : List ℕ) → c id ≡ true → map (slots_of c) (with_slots sets hs id) ≡ with_slots (map (slots_of c) sets) hs id
  all_chosen sets [] is = refl
  all_chosen sets (h ∷ hs) is = all_chosen (with_slot sets h id) hs is ∙ ap (λ (ss : List (List Slot)). with_slots ss hs id) (one_chosen sets h is)

  one_unchosen : (sets : List (List Slot)) (h : ℕ) → c id ≡ false → map (slots_of c) (with_slot sets h id) ≡ map (slots_of c) sets
  one_unchosen sets h is =
      map-set_same (slots_of c) sets (h % length sets) (set_of sets h ++ record { hash = h; id = id } ∷ []) []
      (slots_push c (set_of sets h) (record { hash = h; id = id }) ∙ ap (λ (b : Bool). slots_of c (set_of sets h) ++ cond b (record { hash = h; id = id } ∷ []) []) is ∙ append-nil (slots_of c (set_of sets h)))

  pub none_chosen : (sets : List (List Slot)) (hs : List ℕ) → c id ≡ false → map (slots_of c) (with_slots sets hs id) ≡ map (slots_of c) sets
  none_chosen sets [] is = refl
  none_chosen sets (h ∷ hs) is = none_chosen (with_slot sets h id) hs is ∙ one_unchosen sets h is
