-- A sum over the turns that were merged is the sum over the journals.
use Rattle.std.proofs.Common.{◌≡◌, ◌≢◌, ℕ, zero, suc, ◌+◌, Bool, true, false, if◌then◌else◌, List, [], ◌∷◌, ◌++◌, length, map, refl, ap, sym, ◌∙◌, subst, arith}
use Rattle.std.specs.List.{sum}
use Rattle.std.proofs.lemmas.List.{map-append}
use Rattle.std.proofs.lemmas.List.Sums.{sum_by-append, sum_by-cons}
use Rattle.curp_base.specs.Words.{At, Each}
use Rattle.curp_cmd.specs.declared.node.NodeId.{NodeId}
use Rattle.curp_journal.specs.Journal.{last_stamp}
use Rattle.curp_journal.specs.declared.item.Item.{Item}
use Rattle.curp_msg.specs.declared.script.Step.{Step}
use Rattle.curp_msg.specs.Weight.{weight_of}
use Rattle.curp_journal.specs.Legal.{LegalFrom}
use Rattle.curp_journal.specs.Turns.{AreApart, AreTurns, Did, IsKnown, Journal, Placed, Quits, Turn, of, said, sent_by, turns_of}
use Rattle.curp_journal.proofs.Turns.{of_first}
use Rattle.curp_cmd.proofs.Nodes.{other_node}
use Rattle.curp_merge.specs.Merging.{Merged, turn_count, turn_weight, weight_sent}

-- ---- sums of a function

pub sum-cons : {A : Type 0} (f : A → ℕ) (x : A) (xs : List A) → sum (map f (x ∷ xs)) ≡ f x + sum (map f xs)
sum-cons f x xs = sum_by-cons (λ n. n) (f x) (map f xs)

pub sum-append : {A : Type 0} (f : A → ℕ) (xs ys : List A) → sum (map f (xs ++ ys)) ≡ sum (map f xs) + sum (map f ys)
sum-append f xs ys = ap sum (map-append f xs ys) ∙ sum_by-append (λ n. n) (map f xs) (map f ys)

pub sum-ones : {A : Type 0} (xs : List A) → sum (map (λ x. 1) xs) ≡ length xs
sum-ones [] = refl
sum-ones (x ∷ xs) = sum-cons (λ x. 1) x xs ∙ omega (arith, sum-ones xs)

-- two sums of the same
sum_same : {A : Type 0} (g h : A → ℕ) (xs : List A) → ((k : ℕ) (x : A) → At xs k x → g x ≡ h x) → sum (map g xs) ≡ sum (map h xs)
sum_same g h [] same = refl
sum_same g h (x ∷ xs) same =
    sum-cons g x xs ∙ (omega (arith, same zero x refl, sum_same g h xs (λ k y at. same (suc k) y at)) ∙ sym (sum-cons h x xs))

-- two sums that differ at one place
sum_more : {A : Type 0} (g h : A → ℕ) (more : ℕ) (xs : List A) (place : ℕ) (y : A) → At xs place y → g y ≡ more + h y
    → ((k : ℕ) (x : A) → k ≢ place → At xs k x → g x ≡ h x) → sum (map g xs) ≡ more + sum (map h xs)
sum_more g h more [] place y at here there = absurd cc
sum_more {A} g h more (x ∷ xs) zero y at here there =
    let same : y ≡ x = cc in
    let first : g x ≡ more + h x = subst (λ (z : A). g z ≡ more + h z) same here in
    sum-cons g x xs ∙ (omega (arith, first, sum_same g h xs (λ k z a. there (suc k) z (omega arith) a), sum-cons h x xs))
sum_more g h more (x ∷ xs) (suc place) y at here there =
    sum-cons g x xs ∙ (omega (arith, there zero x (omega arith) refl, sum_more g h more xs place y at here (λ k z ne a. there (suc k) z (omega arith) a), sum-cons h x xs))

-- ---- sums over turns

of_other : (node : NodeId) (p : Placed) (ps : List Placed) → p.node ≢ node → of node (p ∷ ps) ≡ of node ps
of_other node p ps ne = rw (other_node p.node node ne) refl

module _ (f : Turn → ℕ) where
  abbrev pub placed_sum : List Placed → ℕ
  placed_sum placed = sum (map (λ (p : Placed). f p.turn) placed)

  abbrev of_sum : List Placed → Journal → ℕ
  of_sum placed j = sum (map f (of j.id placed))

  none : (js : List Journal) → sum (map (of_sum []) js) ≡ 0
  none [] = refl
  none (j ∷ js) = sum-cons (of_sum []) j js ∙ omega (arith, none js)

  one_first : (p : Placed) (ps : List Placed) (j : Journal) → j.id ≡ p.node → of_sum (p ∷ ps) j ≡ f p.turn + of_sum ps j
  one_first p ps j e =
      subst (λ (node : NodeId). sum (map f (of node (p ∷ ps))) ≡ f p.turn + sum (map f (of node ps))) (sym e)
      (ap (λ ts. sum (map f ts)) (of_first p ps) ∙ sum-cons f p.turn (of p.node ps))

  -- each turn belongs to one journal
  by_node : (journals : List Journal) (placed : List Placed) → AreApart journals → Each (λ p. IsKnown journals p.node) placed
      → placed_sum placed ≡ sum (map (of_sum placed) journals)
  by_node journals [] apart known = sym (none journals)
  by_node journals (p ∷ ps) apart known =
      let mine = known.0 in
      let others : (k : ℕ) (j : Journal) → k ≢ mine.place → At journals k j → of_sum (p ∷ ps) j ≡ of_sum ps j =
      λ k j ne at. ap (λ ts. sum (map f ts)) (of_other j.id p ps (λ same. ne (apart k mine.place j mine.journal at mine.stands (sym same ∙ sym mine.its_name)))) in
      sum-cons (λ (q : Placed). f q.turn) p ps
      ∙ (ap (λ n. f p.turn + n) (by_node journals ps apart known.1)
      ∙ sym (sum_more (of_sum (p ∷ ps)) (of_sum ps) (f p.turn) journals mine.place mine.journal mine.stands (one_first p ps mine.journal mine.its_name) others))

  pub sum_of_turns : (journals : List Journal) (placed : List Placed) → AreApart journals → AreTurns journals placed
      → sum (map (λ (p : Placed). f p.turn) placed) ≡ sum (map (λ (j : Journal). sum (map f (turns_of j))) journals)
  sum_of_turns journals placed apart turns =
      by_node journals placed apart turns.known
      ∙ sum_same (of_sum placed) (λ (j : Journal). sum (map f (turns_of j))) journals (λ k j at. ap (λ ts. sum (map f ts)) (turns.whole k j at))

-- ---- how many there are, and what they weigh

pub count_of_turns : (journals : List Journal) (placed : List Placed) → AreApart journals → AreTurns journals placed → length placed ≡ turn_count journals
count_of_turns journals placed apart turns =
    sym (sum-ones placed)
    ∙ (sum_of_turns (λ t. 1) journals placed apart turns
    ∙ sum_same (λ (j : Journal). sum (map (λ t. 1) (turns_of j))) (λ (j : Journal). length (turns_of j)) journals (λ k j at. sum-ones (turns_of j)))

said_weight : (placed : List Placed) → sum (map weight_of (said placed)) ≡ sum (map (λ (p : Placed). turn_weight p.turn) placed)
said_weight [] = refl
said_weight (p ∷ ps) =
    sum-append weight_of (sent_by p.turn) (said ps)
    ∙ (ap (λ n. turn_weight p.turn + n) (said_weight ps)
    ∙ sym (sum-cons (λ (q : Placed). turn_weight q.turn) p ps))

pub weight_of_turns : (journals : List Journal) (placed : List Placed) → AreApart journals → AreTurns journals placed
    → sum (map weight_of (said placed)) ≡ weight_sent journals
weight_of_turns journals placed apart turns = said_weight placed ∙ sum_of_turns turn_weight journals placed apart turns

-- a last stop sends nothing
weight_of_stop : (stamp : ℕ) (ended : Bool) → sum (map turn_weight (if ended then Quits stamp ∷ [] else [])) ≡ 0
weight_of_stop stamp true = refl
weight_of_stop stamp false = refl

weight_of_items : (items : List Item) → sum (map turn_weight (map Did items)) ≡ sum (map (λ (item : Item). sum (map weight_of item.done.sent)) items)
weight_of_items [] = refl
weight_of_items (item ∷ items) =
    sum-cons turn_weight (Did item) (map Did items)
    ∙ (ap (λ n. sum (map weight_of item.done.sent) + n) (weight_of_items items)
    ∙ sym (sum-cons (λ (i : Item). sum (map weight_of i.done.sent)) item items))

pub weight_of_journal : (j : Journal) → sum (map turn_weight (turns_of j)) ≡ sum (map (λ (item : Item). sum (map weight_of item.done.sent)) j.items)
weight_of_journal j =
    sum-append turn_weight (map Did j.items) (if j.ended then Quits (last_stamp 0 j.items) ∷ [] else [])
    ∙ omega (arith, weight_of_stop (last_stamp 0 j.items) j.ended, weight_of_items j.items)

-- there are as many legal steps as turns
pub legal_length : (before : List Placed) (ss : List Step) (placed : List Placed) → LegalFrom before ss placed → length ss ≡ length placed
legal_length before [] [] legal = refl
legal_length before (s ∷ ss) (p ∷ ps) legal = ap suc (legal_length (before ++ p ∷ []) ss ps legal.1)
legal_length before [] (p ∷ ps) legal = absurd legal
legal_length before (s ∷ ss) [] legal = absurd legal

pub merged_length : (journals : List Journal) (ss : List Step) → AreApart journals → Merged journals ss → length ss ≡ turn_count journals
merged_length journals ss apart merged = legal_length [] ss merged.placed merged.is.legal ∙ count_of_turns journals merged.placed apart merged.is.turns
