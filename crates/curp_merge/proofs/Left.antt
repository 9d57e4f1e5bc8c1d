-- What the turns weigh that are left, and how many they are.
use Rattle.std.proofs.Common.{◌≡◌, ℕ, zero, suc, ◌+◌, ◌<◌, ◌≤◌, List, [], ◌∷◌, ◌++◌, length, map, set, drop, replicate, refl, arith, length-append}
use Rattle.std.specs.List.{sum, sum_by}
use Rattle.std.proofs.lemmas.List.Sums.{sum-map, sum_by-cons}
use Rattle.curp_base.specs.Words.{At}
use Rattle.curp_base.proofs.Lists.{drop_at}
use Rattle.curp_msg.specs.Weight.{weight_of}
use Rattle.curp_msg.specs.declared.message.Message.{Message}
use Rattle.curp_journal.specs.Turns.{Journal, Turn, turns_of}
use Rattle.curp_merge.specs.Weaving.{sum_left, turns_left}

pub length-push : {A : Type 0} (xs : List A) (x : A) → length (xs ++ x ∷ []) ≡ length xs + 1
length-push xs x = length-append xs (x ∷ [])

-- one turn more is taken
pub left_after : (measure : Turn → ℕ) (journals : List Journal) (rows : List (List ℕ)) (k : ℕ) (j : Journal) (row : List ℕ) (turn : Turn) (next : ℕ)
    → At journals k j → At rows k row → At (turns_of j) (length row) turn
    → sum_left measure journals rows ≡ measure turn + sum_left measure journals (set rows k (row ++ next ∷ []))
left_after measure [] rows k j row turn next stands its_row at = absurd cc
left_after measure (first ∷ journals) [] k j row turn next stands its_row at = absurd cc
left_after measure (first ∷ journals) (top ∷ rows) zero j row turn next stands its_row at =
    let e : first ≡ j = cc in
    let f : top ≡ row = cc in
    let here : sum_by measure (drop (length top) (turns_of first)) ≡ measure turn + sum_by measure (drop (length (row ++ next ∷ [])) (turns_of first)) =
    rw (e, f, length-push row next, drop_at (turns_of j) (length row) turn at) (sum_by-cons measure turn (drop (length row + 1) (turns_of j))) in
    omega (arith, here)
left_after measure (first ∷ journals) (top ∷ rows) (suc k) j row turn next stands its_row at =
    let rest = left_after measure journals rows k j row turn next stands its_row at in
    omega (arith, rest)

pub fewer_left : (journals : List Journal) (rows : List (List ℕ)) (k : ℕ) (j : Journal) (row : List ℕ) (turn : Turn) (next : ℕ)
    → At journals k j → At rows k row → At (turns_of j) (length row) turn → turns_left journals (set rows k (row ++ next ∷ [])) < turns_left journals rows
fewer_left journals rows k j row turn next stands its_row at = let e = left_after (λ t. 1) journals rows k j row turn next stands its_row at in omega (arith, e)

-- ---- before any turn

sum-cons : (n : ℕ) (ns : List ℕ) → sum (n ∷ ns) ≡ n + sum ns
sum-cons n ns = sum_by-cons (λ x. x) n ns

pub all_left : (measure : Turn → ℕ) (journals : List Journal) → sum_left measure journals (replicate (length journals) []) ≡ sum (map (λ (j : Journal). sum (map measure (turns_of j))) journals)
all_left measure [] = refl
all_left measure (j ∷ journals) =
    let here : sum (map measure (turns_of j)) ≡ sum_by measure (turns_of j) = sum-map measure (turns_of j) in
    let rest = all_left measure journals in
    let both = sum-cons (sum (map measure (turns_of j))) (map (λ (i : Journal). sum (map measure (turns_of i))) journals) in
    omega (arith, here, rest, both)

-- ---- a message weighs something

weighs : (m : Message) → 1 ≤ weight_of m
unfolding weight_of
weighs m = omega arith

pub all_weigh : (ms : List Message) → length ms ≤ sum (map weight_of ms)
all_weigh [] = omega arith
all_weigh (m ∷ ms) = let first = weighs m in let rest = all_weigh ms in let both = sum-cons (weight_of m) (map weight_of ms) in omega (arith, first, rest, both)
