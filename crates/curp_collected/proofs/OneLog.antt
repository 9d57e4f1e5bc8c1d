-- The journal of one node, by whether it has a file and how it begins.
use Rattle.std.specs.Prelude.{◌≡◌, ◌≢◌, ℕ, ◌+◌, ◌≤◌, ◌==◌, Bool, true, false, List, [], ◌∷◌, ◌++◌, length, drop, take, refl}
use Rattle.std.proofs.Common.{inl, inr, sym, ap, subst, arith, cond, length-append}
use Rattle.std.proofs.lemmas.List.{length-take}
use Rattle.curp_cmd.specs.declared.node.NodeId.{NodeId}
use Rattle.curp_msg.specs.Moved.{Moved}
use Rattle.curp_msg.specs.Input.{Input}
use Rattle.curp_journal.specs.Journal.{NodeJournal, last_stamp, made}
use Rattle.curp_journal.specs.Own.{IsArrivedMessage}
use Rattle.curp_journal.specs.declared.arrived.Arrived.{Arrived}
use Rattle.curp_journal.specs.declared.arrived.Arrived.TheVariants as arrived
use Rattle.curp_journal.specs.declared.item.Item.{Item}
use Rattle.curp_durable.specs.Standing.{Standing, answer_of, begun, number_of, stepped}
use Rattle.curp_durable.specs.declared.stand.Answered.TheVariants as answered
use Rattle.curp_anew.specs.Opening.{AllOwn}
use Rattle.curp_law_weave.specs.Run.{TakesFirst}
use Rattle.curp_read_journal.specs.Items.{item_in, items_of}
use Rattle.curp_collected.specs.Causes.{IsOrderedIn}
use Rattle.curp_collected.specs.Files.{AreOfHeader, HasNoFile, IsJournalAt, contents_of}
use Rattle.curp_collected.specs.Kinds.{HasLog}
use Rattle.curp_collected.specs.Taking.{AreTaken, HasNone, IsReplayOf, NoneWanted, StartsWithOrder}
use Rattle.curp_collected.specs.declared.beginning.Beginning.{Beginning}
use Rattle.curp_journal.specs.declared.origin.Origin.TheVariants.{Opening, Fresh}
use Rattle.curp_collected.specs.declared.files.Files.{Files}
use Rattle.curp_collected.proofs.Finding.{has_none, one_file, title_of_journal}

-- ---- the first input of a node that takes all

module _ {N : Type 0} (machine : N → Input → Moved N) where
  one_at_most : (taken : Bool) (step number : ℕ) (item : Item) → length (item_in (cond taken (answered.Made step item) (answered.Refused number))) ≤ 1
  one_at_most true step number item = omega arith
  one_at_most false step number item = omega arith

  -- inputs make no more items than there are
  short : (s : Standing N) (xs : List Arrived) → length (items_of machine s xs) ≤ length xs
  short s [] = omega arith
  short s (a ∷ xs) =
      let first = one_at_most (number_of machine s a == 0) (s.count + 1) (number_of machine s a) (made machine s.node s.last a) in
      omega (arith, first, short (stepped machine s a) xs, length-append (item_in (answer_of machine s a)) (items_of machine (stepped machine s a) xs))

  -- where each makes one, the first makes the first
  first_input : (s : Standing N) (a : Arrived) (xs : List Arrived) (item : Item) (items : List Item) → item ∷ items ≡ items_of machine s (a ∷ xs) → length items ≡ length xs → item.input ≡ a
  first_input s a xs item items is many = by_test (number_of machine s a == 0) (stepped machine s a) is
    where
      by_test : (taken : Bool) (next : Standing N) → item ∷ items ≡ item_in (cond taken (answered.Made (s.count + 1) (made machine s.node s.last a)) (answered.Refused (number_of machine s a))) ++ items_of machine next xs → item.input ≡ a
      by_test true next e = let same : item ≡ made machine s.node s.last a = cc in ap (λ (i : Item). i.input) same
      by_test false next e = absurd (omega (arith, ap length e, short next xs, many))

  pub starts_with_order : (node : N) (inputs : List Arrived) (items : List Item) → items ≡ items_of machine (begun node) (take (length items) inputs) → length items ≢ 0 → (TakesFirst items → ⊥) → StartsWithOrder inputs
  starts_with_order node inputs [] is some first = absurd (some refl)
  starts_with_order node [] (item ∷ items) is some first = absurd (omega (arith, ap length is))
  starts_with_order node (a ∷ inputs) (item ∷ items) is some first = by_input a (sym same)
    where
      many : length items ≡ length (take (length items) inputs)
      many =
          let long = ap length is in
          omega (arith, long, short (begun node) (take (length (item ∷ items)) (a ∷ inputs)), length-take (length items) inputs)

      same : item.input ≡ a
      same = first_input (begun node) a (take (length items) inputs) item items is many

      by_input : (x : Arrived) → x ≡ item.input → StartsWithOrder (x ∷ inputs)
      by_input (arrived.Local order stamp) e = record { order = order; stamp = stamp; first = refl }
      by_input (arrived.Message named) e = absurd (first (record { item = item; first = refl; message = subst IsArrivedMessage e tt }))

-- ---- one journal

module _ {N : Type 0} (machine : N → Input → Moved N) (files : Files) (are : AreOfHeader files) (b : Beginning N) where
  abbrev contents : List (List ℕ)
  contents = contents_of files.each.items

  -- an opening node without a file
  pub log_of_none : (log : NodeJournal N) → HasNoFile files.each.items b.id → b.origin ≡ Opening → log ≡ record { id = b.id; opening = b.node; items = []; ended = false }
      → HasLog machine contents files.until files.header b (log ∷ [])
  log_of_none log none opened is = inr (
    log,
    refl,
    record {
      its_name = ap (λ (l : NodeJournal N). l.id) is;
      begins = ap (λ (l : NodeJournal N). l.opening) is;
      its = record {
        goes_on = ap (λ (l : NodeJournal N). l.ended) is;
        its_items = inr (subst (λ (l : NodeJournal N). HasNone contents files.header l.id) (sym is) (has_none files are b.id none), ap (λ (l : NodeJournal N). l.items) is);
      };
      own = subst (λ (l : NodeJournal N). AllOwn l.id l.items) (sym is) (λ t item at. absurd cc);
      first = λ fresh. absurd cc;
    },
  )

  -- a fresh node without a file
  pub no_log : HasNoFile files.each.items b.id → b.origin ≡ Fresh → HasLog machine contents files.until files.header b []
  no_log none fresh = inl (refl, fresh, λ file has. absurd (has_none files are b.id none file has))

  module _ (file : ℕ) (log : NodeJournal N) (is : IsReplayOf machine contents files.until files.header file b.id b.node log) where
    -- a node with a file
    pub log_of_file : (b.origin ≡ Fresh → TakesFirst log.items) → HasLog machine contents files.until files.header b (log ∷ [])
    log_of_file first = inr (
      log,
      refl,
      record {
        its_name = is.taken.its_name;
        begins = is.taken.begins;
        its = record {
          goes_on = is.taken.goes_on;
          its_items = inl (record {
            file = file;
            inputs = is.inputs;
            stands = subst (λ (id : NodeId). IsJournalAt contents file files.header id is.inputs) (sym is.taken.its_name) is.stands;
            taken = subst (λ (n : N). AreTaken machine files.until n is.inputs log.items) (sym is.taken.begins) is.taken.taken;
          });
        };
        own = subst (λ (id : NodeId). AllOwn id log.items) (sym is.taken.its_name) is.taken.own;
        first = first;
      },
    )

    -- a fresh node to which nothing came
    pub nothing_came : b.origin ≡ Fresh → log.items ≡ [] → HasLog machine contents files.until files.header b []
    nothing_came fresh none = inl (
      refl,
      fresh,
      λ other has.
          let same : file ≡ other = one_file files are b.id file other (title_of_journal contents file files.header b.id is.inputs is.stands) has in (
            is.inputs,
            subst (λ k. IsJournalAt contents k files.header b.id is.inputs) same is.stands,
            subst (λ (items : List Item). NoneWanted files.until (last_stamp 0 items) (drop (length items) is.inputs)) none is.taken.taken.rest,
          ),
    )

    -- a fresh node that took an order first
    pub ordered_first : b.origin ≡ Fresh → length log.items ≢ 0 → (TakesFirst log.items → ⊥) → IsOrderedIn contents files.header b file
    ordered_first fresh some first = record {
      inputs = is.inputs;
      stands = is.stands;
      fresh = fresh;
      order = starts_with_order machine b.node is.inputs log.items is.taken.taken.made some first;
    }
