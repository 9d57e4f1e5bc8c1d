-- Requests that have a hash: which of them is the first, and which are marked.
use Rattle.std.proofs.Common.{◌≡◌, ℕ, ◌==◌, ◌&&◌, ◌||◌, Bool, true, false, cond, nat_le, List, [], ◌∷◌, map, Option, Some, None, refl, ap, sym, ◌∙◌, subst}
use Rattle.std.specs.List.{filter, list_any}
use Rattle.std.specs.Option.{option_to_list}
use Rattle.std.specs.declared.cmp.Ordering.TheVariants.{Less}
use Rattle.std.proofs.lemmas.Bool.{cond_both}
use Rattle.std.proofs.lemmas.Cmp.{tied_itself}
use Rattle.std.proofs.lemmas.Simd.{map-map}
use Rattle.curp_base.specs.Words.{Each, first_of}
use Rattle.curp_cmd.specs.Hash.{conflicts, hashes_of, touches, hashes}
use Rattle.curp_cmd.proofs.Ascendings.{any_ascending}
use Rattle.curp_cmd.proofs.Ids.{same_id-self}
use Rattle.curp_cmd.specs.RequestId.{id_cmp, same_id}
use Rattle.curp_cmd.specs.declared.command.Command.{Command}
use Rattle.curp_cmd.specs.declared.command.Request.{Request}
use Rattle.curp_cmd.specs.declared.command.RequestId.{RequestId}
use Rattle.curp_model.specs.Witness.{WitnessState, conflict, suspect, HeldRequest}
use Rattle.curp_model.proofs.Clashes.{common_flips}
use Rattle.curp_model.proofs.Tables.{ids_total, greater_back, less_not_same}
use Rattle.curp_slots.specs.Hashed.{requests_of}
use Rattle.curp_slots.specs.Holding.{ids_with, with_owner_marked, with_owners_marked}
use Rattle.curp_slots.specs.Register.{IdsAscend, marked, marked_at}
use Rattle.curp_slots.specs.Slots.{least_owner, lesser, owner}
use Rattle.curp_slots.specs.declared.set.Slot.{Slot}
use Rattle.curp_slots.proofs.Registers.{less_not_same_back, marked_request}
use Rattle.curp_base.proofs.Lists.{map_alike}

-- ---- a common hash, from either side

-- a command conflicts with another if it has one of the other's hashes
pub conflicts_touch : (a b : Command) → conflicts a b ≡ list_any (touches a) (hashes b)
conflicts_touch a b = common_flips (hashes_of a) (hashes_of b) ∙ sym (any_ascending (touches a) (hashes_of b))

pub touches_among : (a : Command) (h : ℕ) → touches a h ≡ list_any (λ x. x == h) (hashes a)
touches_among a h = sym (any_ascending (λ (x : ℕ). x == h) (hashes_of a))

-- ---- the least of those that pass one of two tests

abbrev first_id : (HeldRequest → Bool) → List HeldRequest → Option RequestId
first_id p held = first_of (map (λ x. x.request.id) (filter p held))

abbrev Below : HeldRequest → List HeldRequest → Type 0
Below x xs = Each (λ (y : HeldRequest). id_cmp x.request.id y.request.id ≡ Less) xs

first_above : (q : HeldRequest → Bool) (x : HeldRequest) (xs : List HeldRequest) → Below x xs → lesser id_cmp (Some x.request.id) (first_id q xs) ≡ Some x.request.id
first_above q x [] below = refl
first_above q x (y ∷ xs) below = go (q y) (first_above q x xs below.1)
  where
    go : (b : Bool) → lesser id_cmp (Some x.request.id) (first_id q xs) ≡ Some x.request.id
        → lesser id_cmp (Some x.request.id) (first_of (map (λ x. x.request.id) (cond b (y ∷ filter q xs) (filter q xs)))) ≡ Some x.request.id
    go true rest = rw below.0 refl
    go false rest = rest

first_above_back : (q : HeldRequest → Bool) (x : HeldRequest) (xs : List HeldRequest) → Below x xs → lesser id_cmp (first_id q xs) (Some x.request.id) ≡ Some x.request.id
first_above_back q x [] below = refl
first_above_back q x (y ∷ xs) below = go (q y) (first_above_back q x xs below.1)
  where
    go : (b : Bool) → lesser id_cmp (first_id q xs) (Some x.request.id) ≡ Some x.request.id
        → lesser id_cmp (first_of (map (λ x. x.request.id) (cond b (y ∷ filter q xs) (filter q xs)))) (Some x.request.id) ≡ Some x.request.id
    go true rest = rw (greater_back x.request.id y.request.id below.0) refl
    go false rest = rest

first_or : (p q : HeldRequest → Bool) (xs : List HeldRequest) → IdsAscend xs → first_id (λ x. p x || q x) xs ≡ lesser id_cmp (first_id p xs) (first_id q xs)
first_or p q [] s = refl
first_or p q (x ∷ xs) s = go (p x) (q x) (first_or p q xs s.1)
  where
    go : (a b : Bool) → first_id (λ x. p x || q x) xs ≡ lesser id_cmp (first_id p xs) (first_id q xs)
        → first_of (map (λ x. x.request.id) (cond (a || b) (x ∷ filter (λ x. p x || q x) xs) (filter (λ x. p x || q x) xs)))
        ≡ lesser id_cmp (first_of (map (λ x. x.request.id) (cond a (x ∷ filter p xs) (filter p xs)))) (first_of (map (λ x. x.request.id) (cond b (x ∷ filter q xs) (filter q xs))))
    go true true rest = rw (tied_itself ids_total x.request.id) refl
    go true false rest = sym (first_above q x xs s.0)
    go false true rest = sym (first_above_back p x xs s.0)
    go false false rest = rest

first_alike : (p q : HeldRequest → Bool) → ((x : HeldRequest) → p x ≡ q x) → (xs : List HeldRequest) → first_id p xs ≡ first_id q xs
first_alike p q same xs = λ i. first_of (map (λ x. x.request.id) (filter (λ x. same x i) xs))

-- the requests with a hash, as held or by themselves
first_with : (h : ℕ) (held : List HeldRequest) → first_id (λ x. touches x.request.command h) held ≡ first_of (ids_with h (requests_of held))
first_with h [] = refl
first_with h (x ∷ held) = go (touches x.request.command h) (first_with h held)
  where
    go : (b : Bool) → first_id (λ x. touches x.request.command h) held ≡ first_of (ids_with h (requests_of held))
        → first_of (map (λ x. x.request.id) (cond b (x ∷ filter (λ x. touches x.request.command h) held) (filter (λ x. touches x.request.command h) held)))
        ≡ first_of (map (λ r. r.id) (cond b (x.request ∷ filter (λ r. touches r.command h) (requests_of held)) (filter (λ r. touches r.command h) (requests_of held))))
    go true rest = refl
    go false rest = rest

only_one : {A : Type 0} (o : Option A) → first_of (option_to_list o) ≡ o
only_one None = refl
only_one (Some x) = refl

abbrev pub Owns : List (List Slot) → List HeldRequest → Type 0
Owns sets held = (hash : ℕ) → ids_with hash (requests_of held) ≡ option_to_list (owner sets hash)

none_pass : (held : List HeldRequest) → first_id (λ x. false) held ≡ None
none_pass [] = refl
none_pass (x ∷ held) = none_pass held

first_least : (sets : List (List Slot)) (held : List HeldRequest) (hs : List ℕ) → IdsAscend held → Owns sets held → first_id (λ x. list_any (touches x.request.command) hs) held ≡ least_owner sets hs
first_least sets held [] s owns = none_pass held
first_least sets held (h ∷ hs) s owns =
    first_or (λ (x : HeldRequest). touches x.request.command h) (λ (x : HeldRequest). list_any (touches x.request.command) hs) held s
    ∙ λ i. lesser id_cmp ((first_with h held ∙ ap first_of (owns h) ∙ only_one (owner sets h)) i) (first_least sets held hs s owns i)

-- the least that conflicts has a slot of one of the hashes
pub conflict_least : (sets : List (List Slot)) (w : WitnessState) (r : Request) → IdsAscend w.held → Owns sets w.held → conflict w r ≡ least_owner sets (hashes r.command)
conflict_least sets w r s owns =
    first_alike (λ (x : HeldRequest). conflicts x.request.command r.command) (λ (x : HeldRequest). list_any (touches x.request.command) (hashes r.command)) (λ x. conflicts_touch x.request.command r.command) w.held
    ∙ first_least sets w.held (hashes r.command) s owns

-- ---- those that have a slot are marked

abbrev marked_by : ℕ → HeldRequest → HeldRequest
marked_by h x = cond (touches x.request.command h) (marked x) x

abbrev marked_by_any : List ℕ → HeldRequest → HeldRequest
marked_by_any hs x = cond (list_any (touches x.request.command) hs) (marked x) x

none_has : (h : ℕ) (held : List HeldRequest) → ids_with h (requests_of held) ≡ [] → map (marked_by h) held ≡ held
none_has h [] none = refl
none_has h (x ∷ held) none = go (touches x.request.command h) none (none_has h held)
  where
    go : (b : Bool) → map (λ r. r.id) (cond b (x.request ∷ filter (λ r. touches r.command h) (requests_of held)) (filter (λ r. touches r.command h) (requests_of held))) ≡ []
        → (ids_with h (requests_of held) ≡ [] → map (marked_by h) held ≡ held) → cond b (marked x) x ∷ map (marked_by h) held ≡ x ∷ held
    go true none rest = absurd cc
    go false none rest = ap (λ ys. x ∷ ys) (rest none)

none_after : (id : RequestId) (held : List HeldRequest) → Each (λ (y : HeldRequest). id_cmp id y.request.id ≡ Less) held → map (marked_at id) held ≡ held
none_after id [] below = refl
none_after id (x ∷ held) below = rw (less_not_same id x.request.id below.0) (ap (λ ys. x ∷ ys) (none_after id held below.1))

before_owner : (h : ℕ) (x : HeldRequest) (id : RequestId) (held : List HeldRequest) → Below x held → ids_with h (requests_of held) ≡ id ∷ [] → id_cmp x.request.id id ≡ Less
before_owner h x id [] below one = absurd cc
before_owner h x id (y ∷ held) below one = go (touches y.request.command h) one (before_owner h x id held below.1)
  where
    go : (b : Bool) → map (λ r. r.id) (cond b (y.request ∷ filter (λ r. touches r.command h) (requests_of held)) (filter (λ r. touches r.command h) (requests_of held))) ≡ id ∷ []
        → (ids_with h (requests_of held) ≡ id ∷ [] → id_cmp x.request.id id ≡ Less) → id_cmp x.request.id id ≡ Less
    go true one rest = let same : y.request.id ≡ id = cc in subst (λ (z : RequestId). id_cmp x.request.id z ≡ Less) same below.0
    go false one rest = rest one

one_marked : (h : ℕ) (id : RequestId) (held : List HeldRequest) → IdsAscend held → ids_with h (requests_of held) ≡ id ∷ [] → map (marked_at id) held ≡ map (marked_by h) held
one_marked h id [] s one = refl
one_marked h id (x ∷ held) s one = go (touches x.request.command h) one (one_marked h id held s.1)
  where
    go : (b : Bool) → map (λ r. r.id) (cond b (x.request ∷ filter (λ r. touches r.command h) (requests_of held)) (filter (λ r. touches r.command h) (requests_of held))) ≡ id ∷ []
        → (ids_with h (requests_of held) ≡ id ∷ [] → map (marked_at id) held ≡ map (marked_by h) held) → marked_at id x ∷ map (marked_at id) held ≡ cond b (marked x) x ∷ map (marked_by h) held
    go true one rest =
        let same : x.request.id ≡ id = cc in
        let none : ids_with h (requests_of held) ≡ [] = cc in
        let below : Each (λ (y : HeldRequest). id_cmp id y.request.id ≡ Less) held = subst (λ (z : RequestId). Each (λ (y : HeldRequest). id_cmp z y.request.id ≡ Less) held) same s.0 in
        let test : same_id id x.request.id ≡ true = subst (λ (z : RequestId). same_id z x.request.id ≡ true) same (same_id-self x.request.id) in
        rw test (ap (λ ys. marked x ∷ ys) (none_after id held below ∙ sym (none_has h held none)))
    go false one rest =
        let test : same_id id x.request.id ≡ false = less_not_same_back x.request.id id (before_owner h x id held s.0 one) in
        rw test (ap (λ ys. x ∷ ys) (rest one))

owner_marked : (h : ℕ) (o : Option RequestId) (held : List HeldRequest) → IdsAscend held → ids_with h (requests_of held) ≡ option_to_list o → with_owner_marked o held ≡ map (marked_by h) held
owner_marked h None held s is = sym (none_has h held is)
owner_marked h (Some id) held s is = one_marked h id held s is

-- ---- what keeps the requests keeps what is told of them

abbrev Keeps : (HeldRequest → HeldRequest) → Type 0
Keeps f = (x : HeldRequest) → (f x).request ≡ x.request

pub requests_kept : (f : HeldRequest → HeldRequest) → Keeps f → (held : List HeldRequest) → requests_of (map f held) ≡ requests_of held
requests_kept f keeps [] = refl
requests_kept f keeps (x ∷ held) = λ i. keeps x i ∷ requests_kept f keeps held i

pub ascend_kept : (f : HeldRequest → HeldRequest) → Keeps f → (held : List HeldRequest) → IdsAscend held → IdsAscend (map f held)
ascend_kept f keeps [] s = tt
ascend_kept f keeps (x ∷ held) s = (first held s.0, ascend_kept f keeps held s.1)
  where
    first : (ys : List HeldRequest) → Below x ys → Below (f x) (map f ys)
    first [] below = tt
    first (y ∷ ys) below = (rw (keeps x, keeps y) below.0, first ys below.1)

owns_kept : (sets : List (List Slot)) (f : HeldRequest → HeldRequest) → Keeps f → (held : List HeldRequest) → Owns sets held → Owns sets (map f held)
owns_kept sets f keeps held owns h = ap (ids_with h) (requests_kept f keeps held) ∙ owns h

by_keeps : (h : ℕ) → Keeps (marked_by h)
by_keeps h x = cond_both (touches x.request.command h) _ _ (λ (y : HeldRequest). y.request ≡ x.request) (λ y. marked_request x) (λ n. refl)

twice_marked : (x : HeldRequest) → marked (marked x) ≡ marked x
twice_marked x = go (nat_le 3 x.survived) refl
  where
    go : (b : Bool) → nat_le 3 x.survived ≡ b → marked (cond b (record x { suspected = true }) x) ≡ cond b (record x { suspected = true }) x
    go true e = rw e refl
    go false e = rw e refl

then_any : (h : ℕ) (hs : List ℕ) (x : HeldRequest) → marked_by_any hs (marked_by h x) ≡ marked_by_any (h ∷ hs) x
then_any h hs x = go (touches x.request.command h)
  where
    again : (b : Bool) → cond b (marked (marked x)) (marked x) ≡ marked x
    again true = twice_marked x
    again false = refl

    go : (b : Bool) → marked_by_any hs (cond b (marked x) x) ≡ cond (b || list_any (touches x.request.command) hs) (marked x) x
    go true = ap (λ (q : Request). cond (list_any (touches q.command) hs) (marked (marked x)) (marked x)) (marked_request x) ∙ again (list_any (touches x.request.command) hs)
    go false = refl

none_marked_by : (held : List HeldRequest) → held ≡ map (marked_by_any []) held
none_marked_by [] = refl
none_marked_by (x ∷ held) = ap (λ ys. x ∷ ys) (none_marked_by held)

owners_marked : (sets : List (List Slot)) (hs : List ℕ) (held : List HeldRequest) → IdsAscend held → Owns sets held → with_owners_marked sets hs held ≡ map (marked_by_any hs) held
owners_marked sets [] held s owns = none_marked_by held
owners_marked sets (h ∷ hs) held s owns =
    ap (with_owners_marked sets hs) (owner_marked h (owner sets h) held s (owns h))
    ∙ owners_marked sets hs (map (marked_by h) held) (ascend_kept (marked_by h) (by_keeps h) held s) (owns_kept sets (marked_by h) (by_keeps h) held owns)
    ∙ map-map (marked_by_any hs) (marked_by h) held
    ∙ map_alike (λ (x : HeldRequest). marked_by_any hs (marked_by h x)) (marked_by_any (h ∷ hs)) (then_any h hs) held

suspected_alike : (r : Request) (x : HeldRequest) → marked_by_any (hashes r.command) x ≡ suspect r x
suspected_alike r x = rw (← conflicts_touch x.request.command r.command) (go (conflicts x.request.command r.command) (nat_le 3 x.survived))
  where
    go : (a b : Bool) → cond a (cond b (record x { suspected = true }) x) x ≡ cond (a && b) (record x { suspected = true }) x
    go true b = refl
    go false b = refl

-- what conflicts is suspected through its slots
pub suspects_marked : (sets : List (List Slot)) (r : Request) (held : List HeldRequest) → IdsAscend held → Owns sets held → with_owners_marked sets (hashes r.command) held ≡ map (suspect r) held
suspects_marked sets r held s owns =
    owners_marked sets (hashes r.command) held s owns ∙ map_alike (marked_by_any (hashes r.command)) (suspect r) (suspected_alike r) held

pub suspect_keeps : (r : Request) → Keeps (suspect r)
suspect_keeps r x = cond_both (conflicts x.request.command r.command && nat_le 3 x.survived) _ _ (λ (y : HeldRequest). y.request ≡ x.request) (λ y. refl) (λ n. refl)
