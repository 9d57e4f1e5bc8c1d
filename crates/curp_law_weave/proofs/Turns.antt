-- The items and the stops among turns.
use Rattle.std.proofs.Common.{◌≡◌, ℕ, if◌then◌else◌, Bool, true, false, List, [], ◌∷◌, ◌++◌, length, take, map, refl, ap}
use Rattle.std.specs.Prelude.{⊤}
use Rattle.curp_base.specs.Words.{At}
use Rattle.curp_journal.specs.declared.item.Item.{Item}
use Rattle.curp_journal.specs.Turns.{Did, Quits, Turn}

-- ---- the items among turns

abbrev pub items_in : List Turn → List Item
items_in [] = []
items_in (Did item ∷ ts) = item ∷ items_in ts
items_in (Quits stamp ∷ ts) = items_in ts

pub items_in-did : (ts : List Turn) (item : Item) → items_in (ts ++ Did item ∷ []) ≡ items_in ts ++ item ∷ []
items_in-did [] item = refl
items_in-did (Did i ∷ ts) item = ap (λ is. i ∷ is) (items_in-did ts item)
items_in-did (Quits stamp ∷ ts) item = items_in-did ts item

pub items_in-quits : (ts : List Turn) (stamp : ℕ) → items_in (ts ++ Quits stamp ∷ []) ≡ items_in ts
items_in-quits [] stamp = refl
items_in-quits (Did i ∷ ts) stamp = ap (λ is. i ∷ is) (items_in-quits ts stamp)
items_in-quits (Quits other ∷ ts) stamp = items_in-quits ts stamp

-- there is a stop among them
abbrev pub HasQuit : List Turn → Type 0
HasQuit [] = ⊥
HasQuit (Did item ∷ ts) = HasQuit ts
HasQuit (Quits stamp ∷ ts) = ⊤

pub quit_more : (xs ys : List Turn) → HasQuit xs → HasQuit (xs ++ ys)
quit_more [] ys h = absurd h
quit_more (Did item ∷ xs) ys h = quit_more xs ys h
quit_more (Quits stamp ∷ xs) ys h = tt

pub quit_now : (xs : List Turn) (stamp : ℕ) → HasQuit (xs ++ Quits stamp ∷ [])
quit_now [] stamp = tt
quit_now (Did item ∷ xs) stamp = quit_now xs stamp
quit_now (Quits other ∷ xs) stamp = tt

-- ---- a turn of a journal

-- the end of a journal, with its last stamp
abbrev pub ending : ℕ → Bool → List Turn
ending last ended = if ended then Quits last ∷ [] else []

no_rest : {A : Type 0} (xs : List A) (y : A) (ys : List A) → xs ++ y ∷ ys ≡ [] → ⊥
no_rest [] y ys e = absurd cc
no_rest (x ∷ xs) y ys e = absurd cc

-- nothing comes after a stop
pub none_after : (xs : List Turn) (t : Turn) (ys : List Turn) (items : List Item) (last : ℕ) (ended : Bool) → xs ++ t ∷ ys ≡ map Did items ++ ending last ended → HasQuit xs → ⊥
none_after [] t ys items last ended e h = absurd h
none_after (Quits stamp ∷ xs) t ys [] last true e h = no_rest xs t ys cc
none_after (Quits stamp ∷ xs) t ys [] last false e h = absurd cc
none_after (Quits stamp ∷ xs) t ys (i ∷ items) last ended e h = absurd cc
none_after (Did item ∷ xs) t ys [] last true e h = absurd cc
none_after (Did item ∷ xs) t ys [] last false e h = absurd cc
none_after (Did item ∷ xs) t ys (i ∷ items) last ended e h = none_after xs t ys items last ended (cc) h

-- an item that comes after some turns stands in the journal behind their items
pub item_next : (xs : List Turn) (item : Item) (ys : List Turn) (items : List Item) (last : ℕ) (ended : Bool) → xs ++ Did item ∷ ys ≡ map Did items ++ ending last ended
    → At items (length (items_in xs)) item × (take (length (items_in xs)) items ≡ items_in xs)
item_next [] item ys [] last true e = absurd cc
item_next [] item ys [] last false e = absurd cc
item_next [] item ys (i ∷ items) last ended e = (cc, refl)
item_next (Quits stamp ∷ xs) item ys [] last true e = absurd (no_rest xs (Did item) ys cc)
item_next (Quits stamp ∷ xs) item ys [] last false e = absurd cc
item_next (Quits stamp ∷ xs) item ys (i ∷ items) last ended e = absurd cc
item_next (Did first ∷ xs) item ys [] last true e = absurd cc
item_next (Did first ∷ xs) item ys [] last false e = absurd cc
item_next (Did first ∷ xs) item ys (i ∷ items) last ended e =
    let r = item_next xs item ys items last ended cc in
    let same : i ≡ first = cc in
    (r.0, cc (same, r.1))
