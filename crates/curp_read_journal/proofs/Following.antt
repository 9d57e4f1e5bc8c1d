-- A journal follows the inputs of its node.
use Rattle.std.specs.Prelude.{◌≡◌, ◌≢◌, ℕ, ◌+◌, ◌<◌, ◌≤◌, ◌^◌, ◌==◌, nat_lt, Bool, true, false, List, [], ◌∷◌, ◌++◌, refl}
use Rattle.std.proofs.Common.{inl, inr, sym, ◌∙◌, ap, subst, append_assoc, cond}
use Rattle.std.proofs.lemmas.List.{append-nil}
use Rattle.std.proofs.lemmas.Bool.{cases_eq, eq-eqb, ltb-false, ltb-true, ne_eqb}
use Rattle.curp_cmd.specs.declared.node.NodeId.{NodeId}
use Rattle.curp_durable.proofs.Standings.{after-push, answers-push}
use Rattle.curp_durable.specs.Standing.{Standing, after, answer_of, answers_of, begun, moved_by, number_of, stepped}
use Rattle.curp_durable.specs.declared.stand.Answered.{Answered}
use Rattle.curp_durable.specs.declared.stand.Answered.TheVariants as answered
use Rattle.curp_journal.specs.Given.{given}
use Rattle.curp_journal.specs.Journal as journal
use Rattle.curp_journal.specs.Journal.{NodeJournal, last_stamp, made, next_stamp}
use Rattle.curp_journal.specs.declared.arrived.Arrived.{Arrived}
use Rattle.curp_journal.specs.declared.item.Item.{Item}
use Rattle.curp_journal.proofs.Replays.{after-snoc, last_stamp-snoc}
use Rattle.curp_msg.specs.Moved.{Moved}
use Rattle.curp_msg.specs.Input.{Input}
use Rattle.curp_read_journal.specs.Items.{item_in, items_in, items_of, log_of}

pub items-push : (answers : List Answered) (a : Answered) → items_in (answers ++ a ∷ []) ≡ items_in answers ++ item_in a
items-push [] a = append-nil (item_in a)
items-push (b ∷ answers) a = ap (λ (l : List Item). item_in b ++ l) (items-push answers a) ∙ sym (append_assoc (item_in b) (items_in answers) (item_in a))

module _ {N : Type 0} (machine : N → Input → Moved N) (node : N) where
  -- the items lead where the inputs lead
  pub record Follows (items : List Item) (s : Standing N) : Type 0 where
    pub node_is : s.node ≡ journal.after machine node items
    pub last_is : s.last ≡ last_stamp 0 items

  abbrev made_of : Standing N → Arrived → Item
  made_of s a = made machine s.node s.last a

  grown : (items : List Item) (s : Standing N) (a : Arrived) → Follows items s → Follows (items ++ made_of s a ∷ []) (moved_by machine s a)
  grown items s a f = record {
    node_is = ap (λ (n : N). (machine n (given a)).state) f.node_is ∙ sym (after-snoc machine node items (made_of s a));
    last_is = sym (last_stamp-snoc 0 items (made_of s a));
  }

  -- what one input does, by whether it is taken
  one : (taken : Bool) (items : List Item) (s : Standing N) (a : Arrived) → Follows items s
      → Follows (items ++ item_in (cond taken (answered.Made (s.count + 1) (made_of s a)) (answered.Refused (number_of machine s a)))) (cond taken (moved_by machine s a) s)
  one true items s a f = grown items s a f
  one false items s a f = record { node_is = f.node_is ∙ ap (journal.after machine node) (sym (append-nil items)); last_is = f.last_is ∙ ap (last_stamp 0) (sym (append-nil items)) }

  pub follows : (inputs : List Arrived) (items : List Item) (s : Standing N) → Follows items s → Follows (items ++ items_of machine s inputs) (after machine s inputs)
  follows [] items s f = record { node_is = f.node_is ∙ ap (journal.after machine node) (sym (append-nil items)); last_is = f.last_is ∙ ap (last_stamp 0) (sym (append-nil items)) }
  follows (a ∷ inputs) items s f =
      let next = follows inputs (items ++ item_in (answer_of machine s a)) (stepped machine s a) (one (number_of machine s a == 0) items s a f) in
      let same : (items ++ item_in (answer_of machine s a)) ++ items_of machine (stepped machine s a) inputs ≡ items ++ items_of machine s (a ∷ inputs) = append_assoc items (item_in (answer_of machine s a)) (items_of machine (stepped machine s a) inputs) in
      record { node_is = next.node_is ∙ ap (journal.after machine node) same; last_is = next.last_is ∙ ap (last_stamp 0) same }

  -- a journal of some inputs follows them
  pub log_follows : (inputs : List Arrived) → Follows (items_of machine (begun node) inputs) (after machine (begun node) inputs)
  log_follows inputs = follows inputs [] (begun node) (record { node_is = refl; last_is = refl })

  -- ---- one step of a journal, as the code tells it

  -- the number that a step answers is that by which the input is refused
  number_from : (test : Bool) (n refused : ℕ) → (test ≡ true → n ≡ refused) → (test ≡ false → n ≡ 255) → n ≡ cond test refused 255
  number_from true n refused below above = below refl
  number_from false n refused below above = above refl

  number_is : (s : Standing N) (a : Arrived) (n : ℕ) → (2 ^ 64 ≤ next_stamp s.last a → n ≡ 255) → (next_stamp s.last a < 2 ^ 64 → n ≡ (machine s.node (given a)).refused) → n ≡ number_of machine s a
  number_is s a n full answer =
      number_from (nat_lt (next_stamp s.last a) (2 ^ 64)) n (machine s.node (given a)).refused (λ e. answer (ltb-true (next_stamp s.last a) (2 ^ 64) e)) (λ e. full (ltb-false (next_stamp s.last a) (2 ^ 64) e))

  item_there : (test : Bool) (a b : Answered) → test ≡ true → item_in (cond test a b) ≡ item_in a
  item_there true a b is = refl
  item_there false a b is = absurd cc

  item_not : (test : Bool) (a b : Answered) → test ≡ false → item_in (cond test a b) ≡ item_in b
  item_not true a b is = absurd cc
  item_not false a b is = refl

  module _ (id : NodeId) (xs : List Arrived) (x : Arrived) where
    abbrev log : NodeJournal N
    log = log_of machine id node xs

    abbrev state : Standing N
    state = after machine (begun node) xs

    abbrev item : Item
    item = made machine (journal.after machine node log.items) (last_stamp 0 log.items) x

    item_is : made_of state x ≡ item
    item_is =
        let f = log_follows xs in
        ap (λ (m : N). made machine m state.last x) f.node_is ∙ ap (λ (last : ℕ). made machine (journal.after machine node log.items) last x) f.last_is

    number_there : (n : ℕ) → (2 ^ 64 ≤ next_stamp (last_stamp 0 log.items) x → n ≡ 255) → (next_stamp (last_stamp 0 log.items) x < 2 ^ 64 → n ≡ (machine (journal.after machine node log.items) (given x)).refused) → n ≡ number_of machine state x
    number_there n full answer =
        let f = log_follows xs in
        number_is state x n (subst (λ (last : ℕ). 2 ^ 64 ≤ next_stamp last x → n ≡ 255) (sym f.last_is) full)
        (subst (λ (last : ℕ). next_stamp last x < 2 ^ 64 → n ≡ (machine state.node (given x)).refused) (sym f.last_is)
        (subst (λ (m : N). next_stamp (last_stamp 0 log.items) x < 2 ^ 64 → n ≡ (machine m (given x)).refused) (sym f.node_is) answer))

    all_items : items_of machine (begun node) (xs ++ x ∷ []) ≡ log.items ++ item_in (answer_of machine state x)
    all_items = ap items_in (answers-push machine xs x (begun node)) ∙ items-push (answers_of machine (begun node) xs) (answer_of machine state x)

    abbrev with_items : List Item → NodeJournal N
    with_items items = record { id = id; opening = node; items = items; ended = false }

    taken : number_of machine state x ≡ 0 → record log { items = log.items ++ item ∷ [] } ≡ log_of machine id node (xs ++ x ∷ [])
    taken zero =
        let there = item_there (number_of machine state x == 0) (answered.Made (state.count + 1) (made_of state x)) (answered.Refused (number_of machine state x)) (eq-eqb (number_of machine state x) 0 zero) in
        ap with_items (ap (λ (i : Item). log.items ++ i ∷ []) (sym item_is) ∙ ap (λ (l : List Item). log.items ++ l) (sym there) ∙ sym all_items)

    left : number_of machine state x ≢ 0 → log ≡ log_of machine id node (xs ++ x ∷ [])
    left other =
        let none = item_not (number_of machine state x == 0) (answered.Made (state.count + 1) (made_of state x)) (answered.Refused (number_of machine state x)) (ne_eqb (number_of machine state x) 0 other) in
        ap with_items (sym (append-nil log.items) ∙ ap (λ (l : List Item). log.items ++ l) (sym none) ∙ sym all_items)

    stepped_to : (n : ℕ) (new : NodeJournal N) → n ≡ number_of machine state x → (n ≡ 0 → new ≡ record log { items = log.items ++ item ∷ [] }) → (n ≢ 0 → new ≡ log) → new ≡ log_of machine id node (xs ++ x ∷ [])
    stepped_to n new is added refused = elim (cases_eq n 0) [
      | inl zero ↦ added zero ∙ taken (sym is ∙ zero)
      | inr other ↦ refused other ∙ left (λ e. other (is ∙ e))
    ]

  -- one step more
  pub turn : (id : NodeId) (xs : List Arrived) (x : Arrived) (old new : NodeJournal N) (n : ℕ) → old ≡ log_of machine id node xs
      → (2 ^ 64 ≤ next_stamp (last_stamp 0 old.items) x → n ≡ 255) → (next_stamp (last_stamp 0 old.items) x < 2 ^ 64 → n ≡ (machine (journal.after machine old.opening old.items) (given x)).refused)
      → (n ≡ 0 → new ≡ record old { items = old.items ++ made machine (journal.after machine old.opening old.items) (last_stamp 0 old.items) x ∷ [] }) → (n ≢ 0 → new ≡ old)
      → new ≡ log_of machine id node (xs ++ x ∷ [])
  turn id xs x old new n is full answer added refused =
      let all = subst (λ (o : NodeJournal N). (2 ^ 64 ≤ next_stamp (last_stamp 0 o.items) x → n ≡ 255)
      × (next_stamp (last_stamp 0 o.items) x < 2 ^ 64 → n ≡ (machine (journal.after machine o.opening o.items) (given x)).refused)
      × (n ≡ 0 → new ≡ record o { items = o.items ++ made machine (journal.after machine o.opening o.items) (last_stamp 0 o.items) x ∷ [] })
      × (n ≢ 0 → new ≡ o)) is (full, answer, added, refused) in
      stepped_to id xs x n new (number_there id xs x n all.0 all.1) all.2 all.3
