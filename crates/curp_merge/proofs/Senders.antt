-- Where a message stands that a node took.
use Rattle.std.proofs.Common.{◌≡◌, inl, inr, ℕ, zero, suc, ◌+◌, ◌-◌, ◌<◌, ◌≤◌, ◌^◌, nat_lt, cond, Bool, true, false, List, [], ◌∷◌, length, get_or, slice_get, Option, Some, None, option_and_then, refl, ap, sym, ◌∙◌, subst, arith}
use Rattle.std.specs.List.{find, position, position_or_len}
use Rattle.std.proofs.lemmas.Bool.{cases_eq, cases_lt}
use Rattle.std.proofs.lemmas.Bool.Decides.{nat_tests}
use Rattle.std.proofs.lemmas.List.Folds.{find_at}
use Rattle.std.proofs.lemmas.Option.{get_or_from_slice_get, slice_get_past, slice_get_read}
use Rattle.curp_base.specs.Words.{At, numbered}
use Rattle.curp_base.proofs.Lists.{at_same, at_some, at_within}
use Rattle.curp_base.proofs.Numbered.{place, at_place}
use Rattle.curp_cmd.specs.Node.{same_node}
use Rattle.curp_cmd.proofs.Nodes.{same_node-true}
use Rattle.curp_msg.specs.declared.message.Message.{Message}
use Rattle.curp_msg.specs.declared.script.Step.{Step}
use Rattle.curp_journal.specs.Given.{stamp_of}
use Rattle.curp_journal.specs.declared.arrived.Arrived.{Arrived}
use Rattle.curp_journal.specs.declared.arrived.Arrived.TheVariants as arrived
use Rattle.curp_journal.specs.declared.arrived.Named.{Named}
use Rattle.curp_journal.specs.declared.item.Item.{Item}
use Rattle.curp_journal.proofs.Replays.{stamp_above}
use Rattle.curp_journal.specs.Turns.{AreApart, Did, Journal, turn_stamp, turns_of}
use Rattle.curp_merge.specs.Held.{AllHeld, IsHeld, held_by, journal_of, kept_at}
use Rattle.curp_merge.specs.Merging.{AreJournals}
use Rattle.curp_merge.specs.Weaving.{NoneComesBefore, IsNumberBy, IsNumberOf, NamedWasSent, SentBefore, Woven}
use Rattle.curp_merge.proofs.Stamps.{turn_of_item, turns_rise}

-- ---- searches

found : {A : Type 0} (p : A → Bool) (xs : List A) (x : A) → find p xs ≡ Some x → (k : ℕ) × At xs k x × (p x ≡ true)
found p [] x is = absurd cc
found {A} p (y ∷ xs) x is = go (p y) refl (found p xs x)
  where
    go : (b : Bool) → p y ≡ b → (find p xs ≡ Some x → (k : ℕ) × At xs k x × (p x ≡ true)) → (k : ℕ) × At (y ∷ xs) k x × (p x ≡ true)
    go true e rest = let some : Some y ≡ Some x = ap (λ b. cond b (Some y) (find p xs)) (sym e) ∙ is in let same : y ≡ x = cc in (0, some, subst (λ (z : A). p z ≡ true) same e)
    go false e rest = let r = rest (ap (λ b. cond b (Some y) (find p xs)) (sym e) ∙ is) in (suc r.0, r.1, r.2)

found_none : {A : Type 0} (p : A → Bool) (xs : List A) → find p xs ≡ None → (k : ℕ) (x : A) → At xs k x → p x ≡ true → ⊥
found_none p [] none k x at test = absurd cc
found_none p (y ∷ xs) none zero x at test =
    let same : y ≡ x = cc in
    let e : p y ≡ true = ap p same ∙ test in
    let some : Some y ≡ None = ap (λ b. cond b (Some y) (find p xs)) (sym e) ∙ none in
    absurd cc
found_none p (y ∷ xs) none (suc k) x at test = go (p y) refl (found_none p xs)
  where
    go : (b : Bool) → p y ≡ b → (find p xs ≡ None → (j : ℕ) (z : _) → At xs j z → p z ≡ true → ⊥) → ⊥
    go true e rest = let some : Some y ≡ None = ap (λ b. cond b (Some y) (find p xs)) (sym e) ∙ none in absurd cc
    go false e rest = rest (ap (λ b. cond b (Some y) (find p xs)) (sym e) ∙ none) k x at test

-- what stands at the place that was found passes
pub position_some : {A : Type 0} (p : A → Bool) (xs : List A) (at : ℕ) → Some at ≡ position p xs → (x : A) × At xs at x × (p x ≡ true)
position_some p xs at is = go (nat_lt (position_or_len p xs) (length xs)) refl is
  where
    go : (b : Bool) → nat_lt (position_or_len p xs) (length xs) ≡ b → Some at ≡ cond b (Some (position_or_len p xs)) None → (x : _) × At xs at x × (p x ≡ true)
    go true l e =
        let same : at ≡ position_or_len p xs = cc in
        let x = at_some xs (position_or_len p xs) (grind (arith, nat_tests)) in
        let f = found p xs x.0 (find_at p xs ∙ x.1) in
        (x.0, ap (slice_get xs) same ∙ x.1, f.2)
    go false l e = absurd cc

-- where no place was found, nothing passes
pub position_none : {A : Type 0} (p : A → Bool) (xs : List A) → None ≡ position p xs → (k : ℕ) (x : A) → At xs k x → p x ≡ true → ⊥
position_none p xs is k x at test = go (nat_lt (position_or_len p xs) (length xs)) refl is
  where
    go : (b : Bool) → nat_lt (position_or_len p xs) (length xs) ≡ b → None ≡ cond b (Some (position_or_len p xs)) None → ⊥
    go true l e = absurd cc
    go false l e = found_none p xs (find_at p xs ∙ slice_get_past xs (position_or_len p xs) (grind (arith, nat_tests))) k x at test

-- ---- the item that sent what a journal holds

and_then_some : {A B : Type 0} (f : A → Option B) (o : Option A) (y : B) → option_and_then f o ≡ Some y → (x : A) × (o ≡ Some x) × (f x ≡ Some y)
and_then_some f None y is = absurd cc
and_then_some f (Some x) y is = (x, refl, is)

record IsKept (journals : List Journal) (named : Named) : Type 0 where
  pub k : ℕ
  pub journal : Journal
  pub t : ℕ
  pub item : Item
  pub i : ℕ
  pub stands : At journals k journal
  pub its_name : journal.id ≡ named.from
  pub taken : At journal.items t item
  pub sent : At item.done.sent i named.message
  pub step_is : named.step ≡ t + 1
  pub place_is : named.place ≡ i + 1
  pub stamp_is : item.stamp ≡ named.stamp

kept : (journals : List Journal) (named : Named) → kept_at journals named ≡ Some named → IsKept journals named
kept journals named is =
    let j = and_then_some (λ (j : Journal). option_and_then (held_by named.from named.step named.place) (numbered j.items named.step)) (journal_of journals named.from) named is in
    let at = found (λ (x : Journal). same_node x.id named.from) journals j.0 j.1 in
    let item = and_then_some (held_by named.from named.step named.place) (numbered j.0.items named.step) named j.2 in
    let t = place j.0.items named.step item.0 item.1 in
    let m = and_then_some (λ (x : Message). Some (record { from = named.from; step = named.step; place = named.place; stamp = item.0.stamp; message = x })) (numbered item.0.done.sent named.place) named item.2 in
    let i = place item.0.done.sent named.place m.0 m.1 in
    let same : record { from = named.from; step = named.step; place = named.place; stamp = item.0.stamp; message = m.0 } ≡ named = cc in
    record {
      k = at.0;
      journal = j.0;
      t = t.0;
      item = item.0;
      i = i.0;
      stands = at.1;
      its_name = same_node-true j.0.id named.from at.2;
      taken = t.2;
      sent = subst (λ (x : Message). At item.0.done.sent i.0 x) (ap (λ (n : Named). n.message) same) i.2;
      step_is = t.1;
      place_is = i.1;
      stamp_is = ap (λ (n : Named). n.stamp) same;
    }

-- ---- what is due was sent before

module _ (journals : List Journal) (rows : List (List ℕ)) (ss : List Step) (next : ℕ) (are : AreJournals journals) (woven : Woven journals rows ss next) (lengths : length rows ≡ length journals) where
  -- an item with a lesser stamp than the due one was taken
  taken_before : (k stamp : ℕ) (first : NoneComesBefore journals rows (length journals) k stamp) (i : ℕ) (j : Journal) (row : List ℕ) (t : ℕ) (item : Item)
      → At journals i j → At rows i row → At j.items t item → item.stamp < stamp → t < length row
  taken_before k stamp first i j row t item stands its_row at less =
      elim (cases_lt t (length row)) [
        | inl below ↦ below
        | inr more ↦
            let at_t = turn_of_item j t item at in
            let within : length row < length (turns_of j) = omega (arith, more, at_within (turns_of j) t (Did item) at_t) in
            let due = at_some (turns_of j) (length row) within in
            let comes = first i j row due.0 (at_within journals i j stands) stands its_row due.1 in
            let not_below : stamp ≤ turn_stamp due.0 = elim comes [ inl before ↦ omega (arith, before) | inr level ↦ omega (arith, level.0) ] in
            elim (cases_eq (length row) t) [
              | inl same ↦
                  let e : due.0 ≡ Did item = at_same (turns_of j) t due.0 (Did item) (subst (λ (n : ℕ). At (turns_of j) n due.0) same due.1) at_t in
                  let s : turn_stamp due.0 ≡ item.stamp = ap turn_stamp e in
                  absurd (omega (arith, s, not_below, less))
              | inr other ↦
                  let rise = turns_rise j (length row) t due.0 (Did item) (are.stamped i j stands) due.1 at_t (omega (arith, more, other)) in
                  absurd (omega (arith, rise, not_below, less))
            ]
      ]

  pub was_sent : AllHeld journals → next < 2 ^ 64 → (k : ℕ) (j : Journal) (row : List ℕ) (item : Item)
      → At journals k j → At rows k row → At j.items (length row) item → NoneComesBefore journals rows (length journals) k item.stamp → SentBefore journals rows item.input
  was_sent held fits k j row item stands its_row at first = go item.input refl
    where
      go : (input : Arrived) → item.input ≡ input → SentBefore journals rows input
      go (arrived.Local order stamp) e = tt
      go (arrived.Message named) e =
          let is : kept_at journals named ≡ Some named = subst (λ (a : Arrived). IsHeld journals a) e (held k j (length row) item stands at) in
          let s : IsKept journals named = kept journals named is in
          let its = at_some rows s.k (omega (arith, lengths, at_within journals s.k s.journal s.stands)) in
          let less : named.stamp < item.stamp = subst (λ (a : Arrived). stamp_of a < item.stamp) e (stamp_above 0 j.items (length row) item (are.stamped k j stands) at).0 in
          let below = taken_before k item.stamp first s.k s.journal its.0 s.t s.item s.stands its.1 s.taken (omega (arith, s.stamp_is, less)) in
          let before = at_some its.0 s.t below in
          let number = woven.numbers s.k s.journal its.0 s.t before.0 (Did s.item) s.i named.message s.stands its.1 before.1 (turn_of_item s.journal s.t s.item s.taken) s.sent in
          record {
            place = s.k;
            journal = s.journal;
            row = its.0;
            t = s.t;
            before = before.0;
            item = s.item;
            i = s.i;
            stands = s.stands;
            its_name = s.its_name;
            its_row = its.1;
            counted = before.1;
            taken = s.taken;
            sent = s.sent;
            step_is = s.step_is;
            place_is = s.place_is;
            fits = omega (arith, s.place_is, woven.next_is, fits, at_within _ (before.0 + s.i) named.message number);
          }

-- ---- the number of what was sent

module _ (journals : List Journal) (rows : List (List ℕ)) (named : Named) (from : ℕ) (s : NamedWasSent journals rows named) (apart : AreApart journals)
    (is : Some from ≡ position (λ (j : Journal). same_node j.id named.from) journals) where
  sender_place : from ≡ s.place
  sender_place =
      let f = position_some (λ (j : Journal). same_node j.id named.from) journals from is in
      apart from s.place f.0 s.journal f.1 s.stands (same_node-true f.0.id named.from f.2 ∙ sym s.its_name)

  -- the sender's journal has a row
  pub stands_at : from < length rows
  stands_at = omega (arith, sender_place, at_within rows s.place s.row s.its_row)

  -- what code reads of the sender's row is the number that counts
  module _ (row befores : List ℕ) (read : row ≡ get_or rows from row) (same : befores ≡ row) where
    counted_at : At befores (named.step - 1) s.before
    counted_at =
        let at : At rows from row = slice_get_read rows (length rows) from row refl stands_at read in
        let e : s.row ≡ row = at_same rows s.place s.row row s.its_row (subst (λ (n : ℕ). At rows n row) sender_place at) in
        let t : s.t ≡ named.step - 1 = omega (arith, s.step_is) in
        subst (λ (n : ℕ). At befores n s.before) t (rw same (subst (λ (r : List ℕ). At r s.t s.before) e s.counted))

    pub step_below : named.step - 1 < length befores
    step_below = at_within befores (named.step - 1) s.before counted_at

    pub before_is : get_or befores (named.step - 1) 0 ≡ s.before
    before_is = get_or_from_slice_get befores (named.step - 1) s.before 0 counted_at

pub number_is : (journals : List Journal) (rows : List (List ℕ)) (named : Named) (s : NamedWasSent journals rows named) → IsNumberOf journals rows named.message (s.before + named.place)
number_is journals rows named s sent numbers =
    at_place sent (s.before + s.i) (s.before + named.place) named.message (omega (arith, s.place_is))
    (numbers s.place s.journal s.row s.t s.before (Did s.item) s.i named.message s.stands s.its_row s.counted (turn_of_item s.journal s.t s.item s.taken) s.sent)

-- the rows give the message of that name no other number
pub only_number : (journals : List Journal) (rows : List (List ℕ)) (named : Named) (s : NamedWasSent journals rows named) → AreApart journals → IsNumberBy journals rows named (s.before + named.place)
only_number journals rows named s apart k j row t before stands its_row counted its_name step_is =
    let same : k ≡ s.place = apart k s.place j s.journal stands s.stands (its_name ∙ sym s.its_name) in
    let e : row ≡ s.row = at_same rows s.place row s.row (subst (λ (n : ℕ). At rows n row) same its_row) s.its_row in
    let u : t ≡ s.t = omega (arith, step_is, s.step_is) in
    let b : before ≡ s.before = at_same s.row s.t before s.before (subst (λ (n : ℕ). At s.row n before) u (subst (λ (r : List ℕ). At r t before) e counted)) s.counted in
    omega (arith, b)
