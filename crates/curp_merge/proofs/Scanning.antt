-- The scan for the turn that is due.
use Rattle.std.proofs.Common.{◌≡◌, inl, inr, ℕ, ◌+◌, ◌<◌, ◌≤◌, true, false, List, length, get_or, slice_get, Option, Some, None, option_map, refl, ap, sym, subst, arith}
use Rattle.std.proofs.lemmas.Bool.{cases_eq, cases_lt}
use Rattle.std.proofs.lemmas.Bool.Decides.{nat_tests}
use Rattle.std.proofs.lemmas.Option.{slice_get_read}
use Rattle.curp_base.specs.Words.{At}
use Rattle.curp_base.proofs.Lists.{at_same, at_some, at_within}
use Rattle.curp_journal.specs.Turns.{Journal, Turn, turn_stamp, turns_of}
use Rattle.curp_merge.specs.Weaving.{BestSoFar, ComesFirst, IsBest, IsDue, NoneComesBefore, NoTurnLeft, is_less, next_stamp}

-- an element that was read of a list
pub read_at : {A : Type 0} (xs : List A) (i : ℕ) (x : A) → i < length xs → x ≡ get_or xs i x → At xs i x
read_at xs i x within is = slice_get_read xs (length xs) i x refl within is

-- what is read twice is the same
pub read_again : {A : Type 0} (xs : List A) (i : ℕ) (x y : A) → i < length xs → x ≡ get_or xs i x → y ≡ get_or xs i y → y ≡ x
read_again xs i x y within is again = at_same xs i y x (read_at xs i y within again) (read_at xs i x within is)

-- ---- what the test of one journal says

pub has_next : (j : Journal) (taken stamp : ℕ) → Some stamp ≡ next_stamp j taken → (turn : Turn) × At (turns_of j) taken turn × (stamp ≡ turn_stamp turn)
has_next j taken stamp is = go (slice_get (turns_of j) taken) refl is
  where
    go : (o : Option Turn) → slice_get (turns_of j) taken ≡ o → Some stamp ≡ option_map turn_stamp o → (turn : Turn) × At (turns_of j) taken turn × (stamp ≡ turn_stamp turn)
    go None e is = absurd cc
    go (Some turn) e is = (turn, e, cc)

pub has_none : (j : Journal) (taken : ℕ) → None ≡ next_stamp j taken → length (turns_of j) ≤ taken
has_none j taken is =
    elim (cases_lt taken (length (turns_of j))) [
      | inl less ↦
          let turn = at_some (turns_of j) taken less in
          let some : next_stamp j taken ≡ Some (turn_stamp turn.0) = ap (option_map turn_stamp) turn.1 in
          absurd cc
      | inr past ↦ past
    ]

-- ---- one journal more

module _ (journals : List Journal) (rows : List (List ℕ)) (n : ℕ) (j : Journal) (row : List ℕ) (stands : At journals n j) (its_row : At rows n row) where
  none_more : length (turns_of j) ≤ length row → NoTurnLeft journals rows n → NoTurnLeft journals rows (n + 1)
  none_more past none i other r below at at_r =
      elim (cases_eq i n) [
        | inl same ↦
            let e : other ≡ j = at_same journals n other j (subst (λ k. At journals k other) same at) stands in
            let f : r ≡ row = at_same rows n r row (subst (λ k. At rows k r) same at_r) its_row in
            rw (e, f) past
        | inr ne ↦ none i other r (omega (arith, below, ne)) at at_r
      ]

  first_more : (place stamp : ℕ) → ((turn : Turn) → At (turns_of j) (length row) turn → ComesFirst stamp place (turn_stamp turn) n)
      → NoneComesBefore journals rows n place stamp → NoneComesBefore journals rows (n + 1) place stamp
  first_more place stamp here first i other r turn below at at_r at_turn =
      elim (cases_eq i n) [
        | inl same ↦
            let e : other ≡ j = at_same journals n other j (subst (λ k. At journals k other) same at) stands in
            let f : r ≡ row = at_same rows n r row (subst (λ k. At rows k r) same at_r) its_row in
            let at_here : At (turns_of j) (length row) turn = subst (λ (y : List ℕ). At (turns_of j) (length y) turn) f (subst (λ (y : Journal). At (turns_of y) (length r) turn) e at_turn) in
            rw same (here turn at_here)
        | inr ne ↦ first i other r turn (omega (arith, below, ne)) at at_r at_turn
      ]

  -- it has no next turn
  pub best_skipped : (best : Option (ℕ × ℕ)) → length (turns_of j) ≤ length row → BestSoFar journals rows n best → BestSoFar journals rows (n + 1) best
  best_skipped None past so_far = none_more past so_far
  best_skipped (Some best) past so_far =
      let is : IsBest journals rows n best.0 best.1 = so_far in
      record {
        turn = is.turn;
        next = is.next;
        among = omega (arith, is.among);
        stamp_is = is.stamp_is;
        first = first_more best.0 best.1 (λ turn at. absurd (omega (arith, at_within (turns_of j) (length row) turn at, past))) is.first;
      }

  module _ (turn : Turn) (its_turn : At (turns_of j) (length row) turn) where
    same_stamp : (other : Turn) → At (turns_of j) (length row) other → turn_stamp other ≡ turn_stamp turn
    same_stamp other at = ap turn_stamp (at_same (turns_of j) (length row) other turn at its_turn)

    -- its next turn isn't better
    pub best_kept : (best : Option (ℕ × ℕ)) → is_less best (turn_stamp turn) ≡ false → BestSoFar journals rows n best → BestSoFar journals rows (n + 1) best
    best_kept None test so_far = absurd cc
    best_kept (Some best) test so_far =
        let is : IsBest journals rows n best.0 best.1 = so_far in
        let most : best.1 ≤ turn_stamp turn = grind (arith, nat_tests) in
        record {
          turn = is.turn;
          next = is.next;
          among = omega (arith, is.among);
          stamp_is = is.stamp_is;
          first = first_more best.0 best.1 (λ other at. not_below best.0 best.1 (turn_stamp other) is.among (omega (arith, same_stamp other at, most))) is.first;
        }
      where
        not_below : (place stamp other : ℕ) → place < n → stamp ≤ other → ComesFirst stamp place other n
        not_below place stamp other among most =
            elim (cases_lt stamp other) [
              | inl less ↦ inl less
              | inr more ↦ inr (omega (arith, most, more), omega (arith, among))
            ]

    before_new : (best : Option (ℕ × ℕ)) → is_less best (turn_stamp turn) ≡ true → BestSoFar journals rows n best → NoneComesBefore journals rows n n (turn_stamp turn)
    before_new None test so_far i other r next below at at_r at_next = absurd (omega (arith, so_far i other r below at at_r, at_within (turns_of other) (length r) next at_next))
    before_new (Some best) test so_far i other r next below at at_r at_next =
        let is : IsBest journals rows n best.0 best.1 = so_far in
        let less : turn_stamp turn < best.1 = grind (arith, nat_tests) in
        elim (is.first i other r next below at at_r at_next) [
          | inl before ↦ inl (omega (arith, less, before))
          | inr level ↦ inl (omega (arith, less, level.0))
        ]

    -- its next turn is better
    pub best_new : (best : Option (ℕ × ℕ)) → is_less best (turn_stamp turn) ≡ true → BestSoFar journals rows n best
        → BestSoFar journals rows (n + 1) (Some (n, turn_stamp turn))
    best_new best test so_far = record {
      turn = turn;
      next = record { journal = j; row = row; stands = stands; its_row = its_row; its_turn = its_turn };
      among = omega arith;
      stamp_is = refl;
      first = first_more n (turn_stamp turn) (λ other at. inr (sym (same_stamp other at), omega arith)) (before_new best test so_far);
    }

-- ---- at the end

pub best_is_due : (journals : List Journal) (rows : List (List ℕ)) (n place stamp : ℕ) → n ≡ length journals → BestSoFar journals rows n (Some (place, stamp)) → IsDue journals rows place
best_is_due journals rows n place stamp all best = record { stamp = stamp; is = subst (λ (k : ℕ). IsBest journals rows k place stamp) all best }
