-- A journal of inputs that a node took one by one.
use Rattle.std.specs.Prelude.{◌≡◌, ◌≢◌, ◌⊎◌, ℕ, ◌+◌, ◌<◌, ◌≤◌, ◌^◌, nat_lt, Bool, true, false, List, [], ◌∷◌, ◌++◌, length, take, drop, Option, refl}
use Rattle.std.proofs.Common.{inl, inr, sym, ◌∙◌, ap, subst, arith, cond}
use Rattle.std.proofs.lemmas.Bool.{cases_eq, ltb-true}
use Rattle.std.proofs.lemmas.List.{length_push}
use Rattle.curp_base.specs.Words.{At, Each}
use Rattle.curp_base.proofs.Lists.{Each-append, at_push_cases, drop_at}
use Rattle.curp_cmd.specs.declared.node.NodeId.{NodeId}
use Rattle.curp_msg.specs.Moved.{Moved}
use Rattle.curp_msg.specs.Input.{Input}
use Rattle.curp_journal.specs.Given.{given}
use Rattle.curp_journal.specs.Journal as journal
use Rattle.curp_journal.specs.Journal.{NodeJournal, last_stamp, next_stamp}
use Rattle.curp_journal.specs.declared.arrived.Arrived.{Arrived}
use Rattle.curp_journal.specs.declared.item.Item.{Item}
use Rattle.curp_durable.specs.Standing.{Standing, after, begun, number_of}
use Rattle.curp_journal.specs.Own.{IsOwn}
use Rattle.curp_anew.specs.Opening.{AllOwn}
use Rattle.curp_read_journal.specs.Items.{items_of, log_of}
use Rattle.curp_read_journal.proofs.Following.{log_follows, turn}
use Rattle.curp_seat.specs.Making.{item_of, with_item}
use Rattle.curp_collected.specs.Causes.{StopsAt, StopsBy}
use Rattle.curp_collected.specs.Taking.{IsRefusedBy, IsTakenOf, NoneWanted, is_past}
use Rattle.curp_collected.specs.declared.error.CollectError.{CollectError}
use Rattle.curp_collected.specs.declared.error.CollectError.TheVariants as error

module _ {N : Type 0} (machine : N → Input → Moved N) (until : Option ℕ) (id : NodeId) (node : N) where
  -- the journal of so many inputs, of which each was taken
  pub record SoFar (inputs : List Arrived) (log : NodeJournal N) : Type 0 where
    pub log_is : log ≡ log_of machine id node inputs
    pub many : length log.items ≡ length inputs
    pub wanted : Each (λ (item : Item). is_past until item.stamp ≡ false) log.items
    pub own : AllOwn id log.items

  own_push : (items : List Item) (item : Item) → AllOwn id items → IsOwn id item.input → AllOwn id (items ++ item ∷ [])
  own_push items item own its t x at = elim (at_push_cases items item t x at) [
    | inl old ↦ own t x old
    | inr new ↦ subst (λ (y : Item). IsOwn id y.input) new.1 its
  ]

  -- one more
  pub taken_next : (inputs : List Arrived) (input : Arrived) (old new : NodeJournal N) → SoFar inputs old
      → is_past until (next_stamp (last_stamp 0 old.items) input) ≡ false → new ≡ with_item machine old input → IsOwn old.id input → (IsRefusedBy machine old input → ⊥)
      → SoFar (inputs ++ input ∷ []) new
  taken_next inputs input old new so_far wanted is own none = record {
    log_is = turn machine node id inputs input old new 0 so_far.log_is (λ past. absurd (none (inl past))) (λ fits. zero_is fits) (λ e. is) (λ other. absurd (other refl));
    many = ap (λ (l : NodeJournal N). length l.items) is ∙ length_push old.items item ∙ ap (λ n. n + 1) so_far.many ∙ sym (length_push inputs input);
    wanted = subst (λ (l : NodeJournal N). Each (λ (x : Item). is_past until x.stamp ≡ false) l.items) (sym is) (Each-append (λ (x : Item). is_past until x.stamp ≡ false) old.items (item ∷ []) so_far.wanted (wanted, tt));
    own = subst (λ (l : NodeJournal N). AllOwn id l.items) (sym is) (own_push old.items item so_far.own (subst (λ name. IsOwn name input) (ap (λ (l : NodeJournal N). l.id) so_far.log_is) own));
  }
    where
      item : Item
      item = item_of machine old input

      zero_is : next_stamp (last_stamp 0 old.items) input < 2 ^ 64 → 0 ≡ (machine (journal.after machine old.opening old.items) (given input)).refused
      zero_is fits = elim (cases_eq (machine (journal.after machine old.opening old.items) (given input)).refused 0) [
        | inl zero ↦ sym zero
        | inr other ↦ absurd (none (inr other))
      ]

  -- no more is wanted
  pub taken_so : (inputs : List Arrived) (done : List Arrived) (log : NodeJournal N) → SoFar done log → done ≡ take (length done) inputs
      → NoneWanted until (last_stamp 0 log.items) (drop (length done) inputs) → IsTakenOf machine until id node inputs log
  taken_so inputs done log so_far are rest = record {
    its_name = ap (λ (l : NodeJournal N). l.id) so_far.log_is;
    begins = ap (λ (l : NodeJournal N). l.opening) so_far.log_is;
    goes_on = ap (λ (l : NodeJournal N). l.ended) so_far.log_is;
    taken = record {
      made = ap (λ (l : NodeJournal N). l.items) so_far.log_is ∙ ap (items_of machine (begun node)) (are ∙ ap (λ n. take n inputs) (sym so_far.many));
      wanted = so_far.wanted;
      rest = subst (λ n. NoneWanted until (last_stamp 0 log.items) (drop n inputs)) (sym so_far.many) rest;
    };
    own = so_far.own;
  }

  -- the next isn't wanted
  pub past_rest : (inputs : List Arrived) (k last : ℕ) (input : Arrived) → At inputs k input → is_past until (next_stamp last input) ≡ true → NoneWanted until last (drop k inputs)
  past_rest inputs k last input at past = subst (NoneWanted until last) (sym (drop_at inputs k input at)) past

  -- ---- why one isn't taken

  refused_so : (s : Standing N) (a : Arrived) → (2 ^ 64 ≤ next_stamp s.last a) ⊎ ((machine s.node (given a)).refused ≢ 0) → number_of machine s a ≢ 0
  refused_so s a why zero = by_test (nat_lt (next_stamp s.last a) (2 ^ 64)) refl zero
    where
      by_test : (test : Bool) → nat_lt (next_stamp s.last a) (2 ^ 64) ≡ test → cond test (machine s.node (given a)).refused 255 ≡ 0 → ⊥
      by_test true e z = elim why [
        | inl past ↦ absurd (omega (arith, ltb-true (next_stamp s.last a) (2 ^ 64) e, past))
        | inr other ↦ other z
      ]
      by_test false e z = absurd (omega (arith, z))

  refused_number : (done : List Arrived) (log : NodeJournal N) (input : Arrived) → log ≡ log_of machine id node done → IsRefusedBy machine log input → number_of machine (after machine (begun node) done) input ≢ 0
  refused_number done log input is refused =
      let f = log_follows machine node done in
      let same : IsRefusedBy machine (log_of machine id node done) input = subst (λ (l : NodeJournal N). IsRefusedBy machine l input) is refused in
      refused_so (after machine (begun node) done) input
      (subst (λ last. (2 ^ 64 ≤ next_stamp last input) ⊎ ((machine (after machine (begun node) done).node (given input)).refused ≢ 0)) (sym f.last_is)
      (subst (λ n. (2 ^ 64 ≤ next_stamp (last_stamp 0 (items_of machine (begun node) done)) input) ⊎ ((machine n (given input)).refused ≢ 0)) (sym f.node_is) same))

  pub stops_at : (inputs done : List Arrived) (log : NodeJournal N) (input : Arrived) (file : ℕ) (why : CollectError) → SoFar done log → At inputs (length done) input → done ≡ take (length done) inputs
      → StopsBy machine log input file why → StopsAt machine id node inputs file why
  stops_at inputs done log input file error.NoFile so_far at are stops = stops
  stops_at inputs done log input file (error.NotAJournal k) so_far at are stops = stops
  stops_at inputs done log input file (error.OtherHeader k) so_far at are stops = stops
  stops_at inputs done log input file (error.NoSuchNode k) so_far at are stops = stops
  stops_at inputs done log input file (error.Twice k) so_far at are stops = stops
  stops_at inputs done log input file (error.Damaged k place) so_far at are stops = stops
  stops_at inputs done log input file (error.OrderFirst k) so_far at are stops = stops
  stops_at inputs done log input file (error.Foreign k number) so_far at are stops = (
    stops.0,
    record {
      place = length done;
      input = input;
      stands = at;
      number_is = stops.1 ∙ ap (λ n. n + 1) so_far.many;
      foreign = λ own. stops.2 (subst (λ name. IsOwn name input) (sym (ap (λ (l : NodeJournal N). l.id) so_far.log_is)) own);
    },
  )
  stops_at inputs done log input file (error.Refused k number) so_far at are stops = (
    stops.0,
    record {
      place = length done;
      input = input;
      stands = at;
      number_is = stops.1 ∙ ap (λ n. n + 1) so_far.many;
      refused = subst (λ (l : List Arrived). number_of machine (after machine (begun node) l) input ≢ 0) are (refused_number done log input so_far.log_is stops.2);
    },
  )
