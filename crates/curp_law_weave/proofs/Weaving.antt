-- Steps that are legal as lists are a run: each node is in the state that its turns so far lead to.
use Rattle.std.proofs.Common.{◌≡◌, ◌≢◌, ◌⊎◌, inl, inr, ℕ, ◌+◌, ◌≤◌, ◌||◌, ltb, min, Bool, true, false, List, [], ◌∷◌, ◌++◌, length, map, Option, Some, None, is_some, refl, ap, sym, ◌∙◌, subst, arith, append_assoc, append-nil}
use Rattle.std.specs.Prelude.{◌^◌, ◌-◌, option_map}
use Rattle.std.proofs.lemmas.List.{map-append}
use Rattle.std.proofs.lemmas.List.Sums.{fold-append}
use Rattle.std.specs.List.{fold, list_any, sum}
use Rattle.std.proofs.lemmas.Bool.Decides.{nat_tests}
use Rattle.curp_base.specs.Words.{At, Each, first_of, numbered}
use Rattle.curp_base.proofs.Lists.{Each-at}
use Rattle.curp_base.proofs.Numbered.{place, numbered_some}
use Rattle.curp_cmd.specs.Node.{client_node, manager_node, same_node}
use Rattle.curp_cmd.specs.declared.node.NodeId.{NodeId}
use Rattle.curp_cmd.specs.declared.node.NodeKind.{NodeKind}
use Rattle.curp_cmd.specs.declared.node.NodeKind.TheVariants as kind
use Rattle.curp_cmd.proofs.Nodes.{same_node-true, either_node}
use Rattle.curp_msg.specs.Moved.{done_of}
use Rattle.curp_msg.specs.Weight.{weight_of}
use Rattle.curp_msg.specs.declared.machine.Done.{Done}
use Rattle.curp_msg.specs.Input.{Input}
use Rattle.curp_msg.specs.Input as input
use Rattle.curp_msg.specs.declared.machine.Local.TheVariants as local
use Rattle.curp_msg.specs.declared.message.Message.{Message}
use Rattle.curp_msg.specs.declared.outcome.StepResult.TheVariants as result
use Rattle.curp_msg.specs.declared.script.Header.{Header}
use Rattle.curp_msg.specs.declared.script.Step.{Step}
use Rattle.curp_msg.specs.declared.script.Step.TheVariants as steps
use Rattle.curp_model.specs.Client.{ClientState}
use Rattle.curp_model.specs.Manager.{manager_input}
use Rattle.curp_model.specs.Named.{IsNode, IsNodeOf}
use Rattle.curp_model.specs.World.{Gives, Stepped, Stops, World, deed_by, deed_of, delivery, effect, has_node, is_stopped, is_there, kept, messages, moves, opening, result_of, step, weight}
use Rattle.curp_msg.specs.Limits.{weight_limit}
use Rattle.curp_msg.specs.Script.{IsHeader}
use Rattle.curp_facts.specs.Fits.{IsBetweenNodes}
use Rattle.curp_law_kept.proofs.Gives.{only_sent_to_nodes, opening_names, opening_nodes, Both, step_goes}
use Rattle.curp_journal.specs.Given.{given}
use Rattle.curp_journal.specs.Journal.{IsJournal, after, last_stamp}
use Rattle.curp_journal.specs.Own.{IsArrivedMessage}
use Rattle.curp_journal.specs.declared.arrived.Arrived.{Arrived}
use Rattle.curp_journal.specs.declared.arrived.Arrived.TheVariants as arrived
use Rattle.curp_journal.specs.declared.item.Item.{Item}
use Rattle.curp_journal.proofs.Replays.{after-snoc, done_at}
use Rattle.curp_law_weave.specs.NodeStates.{ABackup, AClient, AManager, AMaster, AWitness, NodeState, fresh_state, machine_of, opening_of, state_by, state_of}
use Rattle.curp_journal.specs.Legal.{LegalFrom, deed_for}
use Rattle.curp_journal.specs.Turns.{Did, IsKnown, Journal, Placed, Quits, Turn, of, said, turns_of}
use Rattle.curp_journal.proofs.Turns.{of-append, of_first, of_here, of_there, said-append, said-snoc}
use Rattle.curp_law_weave.specs.Run.{IsJournalOf, IsMade, Legal, RunOf, Runs, TakesFirst}
use Rattle.curp_law_weave.proofs.Expiring.{expired_client}
use Rattle.curp_law_weave.proofs.Moves.{Moves, gives_done, manager_there, move_says, moved, stop_done, stop_is, stop_world}
use Rattle.curp_law_weave.proofs.Turns.{HasQuit, ending, item_next, items_in, items_in-did, items_in-quits, none_after, quit_more, quit_now}

-- ---- names

cases_option : {A : Type 0} (o : Option A) → (o ≡ None) ⊎ ((x : A) × (o ≡ Some x))
cases_option None = inl refl
cases_option (Some x) = inr (x, refl)

some_same : {A : Type 0} (o : Option A) (x y : A) → o ≡ Some x → o ≡ Some y → x ≡ y
some_same o x y a b = cc

none_some : {A : Type 0} (o : Option A) (x : A) → o ≡ None → o ≡ Some x → ⊥
none_some o x a b = cc

-- ---- which nodes are there

-- a node with a state
abbrev pub There : World → NodeId → Type 0
There w k = (x : NodeState) × (state_of w k ≡ Some x)

module _ (w : World) where
  there_by : (a : NodeKind) (n : ℕ) → IsNodeOf w a n → (x : NodeState) × (state_by w a n ≡ Some x)
  there_by kind.Manager n is = (AManager w.manager, rw is refl)
  there_by kind.Client n is = let c = numbered_some w.clients n is.0 is.1 in (AClient c.0, rw c.1 refl)
  there_by kind.Master n is = let c = numbered_some w.masters n is.0 is.1 in (AMaster c.0, rw c.1 refl)
  there_by kind.Backup n is = let c = numbered_some w.backups n is.0 is.1 in (ABackup c.0, rw c.1 refl)
  there_by kind.Witness n is = let c = numbered_some w.witnesses n is.0 is.1 in (AWitness c.0, rw c.1 refl)

  is_some_of : {A B : Type 0} (wrap : A → B) (o : Option A) (x : B) → option_map wrap o ≡ Some x → is_some o ≡ true
  is_some_of wrap None x e = absurd cc
  is_some_of wrap (Some y) x e = refl

  has_by : (a : NodeKind) (n : ℕ) (x : NodeState) → state_by w a n ≡ Some x → is_there w a n ≡ true
  has_by kind.Manager n x at = let g = manager_there w n x at in rw g.0 refl
  has_by kind.Client n x at = is_some_of AClient (numbered w.clients n) x at
  has_by kind.Master n x at = is_some_of AMaster (numbered w.masters n) x at
  has_by kind.Backup n x at = is_some_of ABackup (numbered w.backups n) x at
  has_by kind.Witness n x at = is_some_of AWitness (numbered w.witnesses n) x at

  has : (k : NodeId) (x : NodeState) → state_of w k ≡ Some x → has_node w k ≡ true
  has k x at = has_by k.kind k.number x at

  -- what gives a message delivers it
  module _ (k : NodeId) (m : Message) where
    was_sent : (number : ℕ) (o : Option Message) → numbered (messages w) number ≡ o → delivery o ≡ Gives k (input.Message m) → (numbered (messages w) number ≡ Some m) × (m.to ≡ k)
    was_sent number None is e = absurd cc
    was_sent number (Some n) is e =
        let same : n ≡ m = cc in
        let to : n.to ≡ k = cc in
        (is ∙ ap (λ x. Some x) same, ap (λ (x : Message). x.to) (sym same) ∙ to)

    delivers : (t : Step) → deed_of w t ≡ Gives k (input.Message m) → (number : ℕ) × (numbered (messages w) number ≡ Some m) × (m.to ≡ k)
    delivers (steps.Deliver number) e = let r = was_sent number (numbered (messages w) number) refl e in (number, r.0, r.1)
    delivers t e = absurd cc

    addressee_there : Both w → (t : Step) → deed_of w t ≡ Gives k (input.Message m) → There w k
    addressee_there both t e =
        let d = delivers t e in
        let p = place (messages w) d.0 m d.1 in
        let between : IsBetweenNodes w m = Each-at (IsBetweenNodes w) (messages w) (only_sent_to_nodes w both.nodes) p.0 m p.2 in
        let is : IsNode w k = subst (IsNode w) d.2 between.addressee in
        there_by k.kind k.number is

  message_there : Both w → (k : NodeId) (a : Arrived) (t : Step) → IsArrivedMessage a → deed_of w t ≡ Gives k (given a) → There w k
  message_there both k (arrived.Local order stamp) t is e = absurd is
  message_there both k (arrived.Message named) t is e = addressee_there k named.message both t e

  -- the client that is declared gone is there
  expired_there : Both w → (t : Step) (k : NodeId) (g : Input) → deed_of w t ≡ Gives k g → (moves w k g).refused ≡ 0 → (n : ℕ) → t ≡ steps.Expire n → has_node w (client_node n) ≡ true
  expired_there both t k g deed taken n is =
      let e : Gives manager_node (input.Local (local.Expire n)) ≡ Gives k g = ap (deed_of w) (sym is) ∙ deed in
      let to : k ≡ manager_node = cc in
      let what : g ≡ input.Local (local.Expire n) = cc in
      let free : (manager_input w.manager (input.Local (local.Expire n))).refused ≡ 0 = subst (λ (i : Input). (moves w manager_node i).refused ≡ 0) what (subst (λ (j : NodeId). (moves w j g).refused ≡ 0) to taken) in
      let range = expired_client w.manager n free in
      let c = numbered_some w.clients n range.0 (omega (arith, range.1, both.names.numbers.clients)) in
      ap (λ (o : Option ClientState). is_some o) c.1

-- ---- how it goes on

-- each node that is there is in the state that its turns lead to, one that isn't there had none, and what was sent and who stopped
-- are what the turns say
pub record Woven (h : Header) (w : World) (before : List Placed) : Type 0 where
  pub both : Both w
  pub sets : w.sets ≡ h.sets
  pub ways : w.ways ≡ h.ways
  pub stays : (k : NodeId) → There (opening h) k → There w k
  pub nodes_are : (k : NodeId) (x : NodeState) → state_of w k ≡ Some x → x ≡ after (machine_of k) (opening_of h k) (items_in (of k before))
  pub none_are : (k : NodeId) → state_of w k ≡ None → of k before ≡ []
  pub messages_are : messages w ≡ said before
  pub stopped_are : (k : NodeId) → is_stopped w k ≡ true → HasQuit (of k before)

module _ (h : Header) where
  begins_as : (k : NodeId) (x : NodeState) → state_of (opening h) k ≡ Some x → x ≡ opening_of h k
  begins_as k x at = rw at refl

  begins_fresh : (k : NodeId) → state_of (opening h) k ≡ None → opening_of h k ≡ fresh_state h k.kind
  begins_fresh k none = rw none refl

  opening_sets : (opening h).sets ≡ h.sets
  unfolding opening
  opening_sets = refl

  opening_ways : (opening h).ways ≡ h.ways
  unfolding opening
  opening_ways = refl

  opening_says : messages (opening h) ≡ []
  unfolding opening
  opening_says = refl

  opening_runs : (k : NodeId) → is_stopped (opening h) k ≡ false
  unfolding opening
  opening_runs k = refl

  opened : IsHeader h → Woven h (opening h) []
  opened is = record {
    both = record { names = opening_names h is; nodes = opening_nodes h is };
    sets = opening_sets;
    ways = opening_ways;
    stays = λ k there. there;
    nodes_are = begins_as;
    none_are = λ k none. refl;
    messages_are = opening_says;
    stopped_are = λ k e. let f = opening_runs k in absurd (cc (e, f));
  }

  -- ---- an item

  module _ (w : World) (before : List Placed) (woven : Woven h w before) (s : Step) (k : NodeId) where
    module _ (item : Item) (x : NodeState) (deed : deed_of w s ≡ Gives k (given item.input)) (made : result_of w s ≡ result.Done) (at : state_of w k ≡ Some x) (done : item.done ≡ done_of (machine_of k x (given item.input))) where
      abbrev pub p : Placed
      p = record { node = k; turn = Did item }

      abbrev pub v : World
      v = (step w s).world

      m : Moves h w k (machine_of k x (given item.input)) (step w s)
      m = moved h w s k (given item.input) x woven.sets woven.ways deed made at

      still : (j : NodeId) → There w j → There v j
      still j t = elim (either_node j k) [
        | inl same ↦ subst (There v) (sym same) ((machine_of k x (given item.input)).state, m.here)
        | inr other ↦ (t.0, m.there j other t.0 t.1)
      ]

      here_is : (y : NodeState) → state_of v k ≡ Some y → y ≡ after (machine_of k) (opening_of h k) (items_in (of k (before ++ p ∷ [])))
      here_is y now =
          let here : y ≡ (machine_of k x (given item.input)).state = some_same (state_of v k) y (machine_of k x (given item.input)).state now m.here in
          let was : x ≡ after (machine_of k) (opening_of h k) (items_in (of k before)) = woven.nodes_are k x at in
          let more : items_in (of k (before ++ p ∷ [])) ≡ items_in (of k before) ++ item ∷ [] = ap items_in (of_here before p) ∙ items_in-did (of k before) item in
          here ∙ (ap (λ z. (machine_of k z (given item.input)).state) was ∙ (sym (after-snoc (machine_of k) (opening_of h k) (items_in (of k before)) item) ∙ ap (after (machine_of k) (opening_of h k)) (sym more)))

      new_is : (j : NodeId) (y : NodeState) → state_of w j ≡ None → state_of v j ≡ Some y → y ≡ after (machine_of j) (opening_of h j) []
      new_is j y none now = m.fresh j y none now ∙ sym (begins_fresh j (elim (cases_option (state_of (opening h) j)) [
        | inl never ↦ never
        | inr some ↦ let t = woven.stays j some in absurd (none_some (state_of w j) t.0 none t.1)
      ]))

      there_is : (j : NodeId) (y : NodeState) → j ≢ k → state_of v j ≡ Some y → y ≡ after (machine_of j) (opening_of h j) (items_in (of j (before ++ p ∷ [])))
      there_is j y other now =
          let same : of j (before ++ p ∷ []) ≡ of j before = of_there j before p (λ e. other (sym e)) in
          rw same (elim (cases_option (state_of w j)) [
            | inl none ↦ rw (woven.none_are j none) (new_is j y none now)
            | inr some ↦ let z = m.there j other some.0 some.1 in let e : y ≡ some.0 = some_same (state_of v j) y some.0 now z in e ∙ woven.nodes_are j some.0 some.1
          ])

      pub woven_did : Woven h v (before ++ p ∷ [])
      woven_did = record {
        both = (step_goes w woven.both s).both;
        sets = m.shape.sets ∙ woven.sets;
        ways = m.shape.ways ∙ woven.ways;
        stays = λ j t. still j (woven.stays j t);
        nodes_are = λ j y now. elim (either_node j k) [
          | inl same ↦ rw same (here_is y (subst (λ (i : NodeId). state_of v i ≡ Some y) same now))
          | inr other ↦ there_is j y other now
        ];
        none_are = λ j none. elim (cases_option (state_of w j)) [
          | inl never ↦ elim (either_node j k) [
            | inl same ↦ absurd (none_some (state_of w k) x (subst (λ (i : NodeId). state_of w i ≡ None) same never) at)
            | inr other ↦ of_there j before p (λ e. other (sym e)) ∙ woven.none_are j never
          ]
          | inr some ↦ let t = still j some in absurd (none_some (state_of v j) t.0 none t.1)
        ];
        messages_are = m.sent ∙ (ap (λ ms. ms ++ (machine_of k x (given item.input)).messages) woven.messages_are ∙ (ap (λ (d : Done). said before ++ d.sent) (sym done) ∙ sym (said-snoc before p)));
        stopped_are = λ j e. rw (of-append j before (p ∷ [])) (quit_more (of j before) (of j (p ∷ [])) (woven.stopped_are j (subst (λ (nodes : List NodeId). list_any (same_node j) nodes ≡ true) m.stopped e)));
      }

      pub did : IsMade w s p
      did = record {
        deed = deed;
        made = m.made;
        sent = m.sent ∙ ap (λ (d : Done). messages w ++ d.sent) (sym done);
        completed = m.completed ∙ ap (λ (d : Done). d.completed) (sym done);
      }

  -- ---- a stop

  rests_by : (w : World) (k : NodeId) (a : NodeKind) (n : ℕ) → state_by (kept w [] (effect w (Stops k))).world a n ≡ state_by w a n
  rests_by w k kind.Client n = refl
  rests_by w k kind.Manager n = refl
  rests_by w k kind.Master n = refl
  rests_by w k kind.Backup n = refl
  rests_by w k kind.Witness n = refl

  -- after a stop
  record Rests (w : World) (k : NodeId) (v : Stepped) : Type 0 where
    its_result : v.outcome.result ≡ result.Done
    completed : v.outcome.completed ≡ None
    sent : messages v.world ≡ messages w
    stopped : v.world.stopped ≡ w.stopped ++ k ∷ []
    nodes : (j : NodeId) → state_of v.world j ≡ state_of w j
    sets : v.world.sets ≡ w.sets
    ways : v.world.ways ≡ w.ways

  rests : (w : World) (k : NodeId) → result_of w (steps.Stop k) ≡ result.Done → Rests w k (step w (steps.Stop k))
  rests w k made = stop_world w (steps.Stop k) k (Rests w k) made (record {
    its_result = refl;
    completed = refl;
    sent = refl;
    stopped = refl;
    nodes = λ j. rests_by w k j.kind j.number;
    sets = refl;
    ways = refl;
  })

  stopped_cases : (k j : NodeId) (nodes : List NodeId) → list_any (same_node j) (nodes ++ k ∷ []) ≡ true → (list_any (same_node j) nodes ≡ true) ⊎ (j ≡ k)
  stopped_cases k j [] e = go (same_node j k) refl e
    where
      go : (b : Bool) → same_node j k ≡ b → (b || false) ≡ true → (false ≡ true) ⊎ (j ≡ k)
      go true is h = inr (same_node-true j k is)
      go false is h = inl h
  stopped_cases k j (n ∷ nodes) e = go (same_node j n) (stopped_cases k j nodes) e
    where
      go : (b : Bool) → (list_any (same_node j) (nodes ++ k ∷ []) ≡ true → (list_any (same_node j) nodes ≡ true) ⊎ (j ≡ k)) → (b || list_any (same_node j) (nodes ++ k ∷ [])) ≡ true
          → ((b || list_any (same_node j) nodes) ≡ true) ⊎ (j ≡ k)
      go true rest h = inl refl
      go false rest h = rest h

  module _ (w : World) (before : List Placed) (woven : Woven h w before) (k : NodeId) (stamp : ℕ) (x : NodeState) (at : state_of w k ≡ Some x) (made : result_of w (steps.Stop k) ≡ result.Done) where
    abbrev pub stop : Placed
    stop = record { node = k; turn = Quits stamp }

    r : Rests w k (step w (steps.Stop k))
    r = rests w k made

    same_items : (j : NodeId) → items_in (of j (before ++ stop ∷ [])) ≡ items_in (of j before)
    same_items j = elim (either_node j k) [
      | inl same ↦ rw same (ap items_in (of_here before stop) ∙ items_in-quits (of k before) stamp)
      | inr other ↦ ap items_in (of_there j before stop (λ e. other (sym e)))
    ]

    now_stopped : (j : NodeId) → (is_stopped w j ≡ true) ⊎ (j ≡ k) → HasQuit (of j (before ++ stop ∷ []))
    now_stopped j (inl was) = rw (of-append j before (stop ∷ [])) (quit_more (of j before) (of j (stop ∷ [])) (woven.stopped_are j was))
    now_stopped j (inr same) = rw same (subst HasQuit (sym (of_here before stop)) (quit_now (of k before) stamp))

    pub woven_quits : Woven h (step w (steps.Stop k)).world (before ++ stop ∷ [])
    woven_quits = record {
      both = (step_goes w woven.both (steps.Stop k)).both;
      sets = r.sets ∙ woven.sets;
      ways = r.ways ∙ woven.ways;
      stays = λ j t. let z = woven.stays j t in (z.0, r.nodes j ∙ z.1);
      nodes_are = λ j y now. rw (same_items j) (woven.nodes_are j y (sym (r.nodes j) ∙ now));
      none_are = λ j none. elim (either_node j k) [
        | inl same ↦ absurd (none_some (state_of w k) x (subst (λ (i : NodeId). state_of w i ≡ None) same (sym (r.nodes j) ∙ none)) at)
        | inr other ↦ of_there j before stop (λ e. other (sym e)) ∙ woven.none_are j (sym (r.nodes j) ∙ none)
      ];
      messages_are = r.sent ∙ (woven.messages_are ∙ sym (said-snoc before stop ∙ append-nil (said before)));
      stopped_are = λ j e. now_stopped j (stopped_cases k j w.stopped (subst (λ (nodes : List NodeId). list_any (same_node j) nodes ≡ true) r.stopped e));
    }

    pub quits : IsMade w (steps.Stop k) stop
    quits = record { deed = refl; made = r.its_result; sent = r.sent ∙ sym (append-nil (messages w)); completed = r.completed }

-- ---- weight

fold_above : (a : ℕ) (xs : List ℕ) → a ≤ fold ◌+◌ a xs
fold_above a [] = omega arith
fold_above a (x ∷ xs) = let r = fold_above (a + x) xs in omega (arith, r)

sum_prefix : (xs ys : List Message) → sum (map weight_of xs) ≤ sum (map weight_of (xs ++ ys))
sum_prefix xs ys =
    let s : sum (map weight_of (xs ++ ys)) ≡ fold ◌+◌ (sum (map weight_of xs)) (map weight_of ys) = ap sum (map-append weight_of xs ys) ∙ fold-append ◌+◌ 0 (map weight_of xs) (map weight_of ys) in
    let a = fold_above (sum (map weight_of xs)) (map weight_of ys) in
    omega (arith, s, a)

light_world : (w : World) (sent : List Message) → messages w ≡ sent → sum (map weight_of sent) ≤ weight_limit → ltb weight_limit (weight w) ≡ false
unfolding weight
light_world w sent is low =
    let m : min (sum (map weight_of (messages w))) (2 ^ 64 - 1) ≤ sum (map weight_of sent) = rw is (omega arith) in
    grind (arith, nat_tests, m, low)

-- ---- one turn

first_same : (items : List Item) (item first : Item) (last : ℕ) (ended : Bool) (rest : List Turn) → Did item ∷ rest ≡ map Did items ++ ending last ended → first_of items ≡ Some first → first ≡ item
first_same [] item first last true rest e is = absurd cc
first_same [] item first last false rest e is = absurd cc
first_same (i ∷ items) item first last ended rest e is = let a : i ≡ first = cc in let b : item ≡ i = cc in sym a ∙ sym b

module _ (h : Header) (w : World) (before : List Placed) (woven : Woven h w before) (s : Step) (k : NodeId) where
  runs_on : (t : Turn) (rest : List Turn) (items : List Item) (last : ℕ) (ended : Bool) → of k before ++ t ∷ rest ≡ map Did items ++ ending last ended → is_stopped w k ≡ false
  runs_on t rest items last ended turns = go (is_stopped w k) refl
    where
      go : (b : Bool) → is_stopped w k ≡ b → b ≡ false
      go true e = absurd (none_after (of k before) t rest items last ended turns (woven.stopped_are k e))
      go false e = refl

  was_there : state_of w k ≡ None → state_of (opening h) k ≢ None → ⊥
  was_there none there = elim (cases_option (state_of (opening h) k)) [
    | inl never ↦ there never
    | inr some ↦ let z = woven.stays k some in none_some (state_of w k) z.0 none z.1
  ]

  item_there : (item : Item) (rest : List Turn) (items : List Item) (last : ℕ) (ended : Bool) → deed_of w s ≡ Gives k (given item.input) → of k before ++ Did item ∷ rest ≡ map Did items ++ ending last ended
      → (state_of (opening h) k ≢ None) ⊎ TakesFirst items → There w k
  item_there item rest items last ended deed turns begins = elim (cases_option (state_of w k)) [
    | inr there ↦ there
    | inl none ↦ elim begins [
      | inl opening ↦ absurd (was_there none opening)
      | inr takes ↦
          let turns_are : Did item ∷ rest ≡ map Did items ++ ending last ended = subst (λ (ts : List Turn). ts ++ Did item ∷ rest ≡ map Did items ++ ending last ended) (woven.none_are k none) turns in
          let same : takes.item ≡ item = first_same items item takes.item last ended rest turns_are takes.first in
          message_there w woven.both k item.input s (subst (λ (i : Item). IsArrivedMessage i.input) same takes.message) deed
    ]
  ]

  pub one_item : (item : Item) (rest : List Turn) (items : List Item) (last : ℕ) (ended : Bool) → deed_of w s ≡ Gives k (given item.input) → of k before ++ Did item ∷ rest ≡ map Did items ++ ending last ended
      → (state_of (opening h) k ≢ None) ⊎ TakesFirst items → IsJournal (machine_of k) (opening_of h k) items → ltb weight_limit (weight w) ≡ false
      → IsMade w s (record { node = k; turn = Did item }) × Woven h (step w s).world (before ++ record { node = k; turn = Did item } ∷ [])
  one_item item rest items last ended deed turns begins journal light =
      let there : There w k = item_there item rest items last ended deed turns begins in
      let x : NodeState = there.0 in
      let place = item_next (of k before) item rest items last ended turns in
      let was : x ≡ after (machine_of k) (opening_of h k) (items_in (of k before)) = woven.nodes_are k x there.1 in
      let done : item.done ≡ done_of (machine_of k x (given item.input)) =
      done_at (machine_of k) (opening_of h k) 0 items (length (items_in (of k before))) item journal.items_are place.0
      ∙ (ap (λ is. done_of (machine_of k (after (machine_of k) (opening_of h k) is) (given item.input))) place.1 ∙ ap (λ z. done_of (machine_of k z (given item.input))) (sym was)) in
      let taken : (machine_of k x (given item.input)).refused ≡ 0 =
      ap (λ (d : Done). d.refused) (sym done) ∙ Each-at (λ (i : Item). i.done.refused ≡ 0) items journal.none_refused (length (items_in (of k before))) item place.0 in
      let free : (moves w k (given item.input)).refused ≡ 0 = (move_says w k (given item.input) x there.1).refused ∙ taken in
      let made : result_of w s ≡ result.Done = gives_done w s k (given item.input) deed (has w k x there.1) (expired_there w woven.both s k (given item.input) deed free) (runs_on (Did item) rest items last ended turns) light free in
      (did h w before woven s k item x deed made there.1 done, woven_did h w before woven s k item x deed made there.1 done)

  stop_there : (stamp : ℕ) (rest : List Turn) (items : List Item) (last : ℕ) (ended : Bool) → of k before ++ Quits stamp ∷ rest ≡ map Did items ++ ending last ended → (state_of (opening h) k ≢ None) ⊎ TakesFirst items → There w k
  stop_there stamp rest items last ended turns begins = elim (cases_option (state_of w k)) [
    | inr there ↦ there
    | inl none ↦ elim begins [
      | inl opening ↦ absurd (was_there none opening)
      | inr takes ↦ absurd (no_stop_first items takes.item ended rest (subst (λ (ts : List Turn). ts ++ Quits stamp ∷ rest ≡ map Did items ++ ending last ended) (woven.none_are k none) turns) takes.first)
    ]
  ]
    where
      no_stop_first : (is : List Item) (first : Item) (b : Bool) (ts : List Turn) → Quits stamp ∷ ts ≡ map Did is ++ ending last b → first_of is ≡ Some first → ⊥
      no_stop_first [] first b ts e f = absurd cc
      no_stop_first (i ∷ is) first b ts e f = absurd cc

  pub one_stop : (stamp : ℕ) (rest : List Turn) (items : List Item) (last : ℕ) (ended : Bool) → deed_of w s ≡ Stops k → of k before ++ Quits stamp ∷ rest ≡ map Did items ++ ending last ended
      → (state_of (opening h) k ≢ None) ⊎ TakesFirst items → same_node k manager_node ≡ false
      → IsMade w s (record { node = k; turn = Quits stamp }) × Woven h (step w s).world (before ++ record { node = k; turn = Quits stamp } ∷ [])
  one_stop stamp rest items last ended deed turns begins other =
      let there : There w k = stop_there stamp rest items last ended turns begins in
      let made : result_of w (steps.Stop k) ≡ result.Done = stop_done w (steps.Stop k) k (has w k there.0 there.1) (runs_on (Quits stamp) rest items last ended turns) other in
      subst (λ (t : Step). IsMade w t (record { node = k; turn = Quits stamp }) × Woven h (step w t).world (before ++ record { node = k; turn = Quits stamp } ∷ [])) (sym (stop_is w s k s deed))
      (quits h w before woven k stamp there.0 there.1 made, woven_quits h w before woven k stamp there.0 there.1 made)

-- a journal with a stop isn't the manager's
not_manager : (k : NodeId) (stamp : ℕ) (before rest : List Turn) (items : List Item) (last : ℕ) (ended : Bool) → before ++ Quits stamp ∷ rest ≡ map Did items ++ ending last ended → (k ≡ manager_node → ended ≡ false) → same_node k manager_node ≡ false
not_manager k stamp before rest items last ended turns stops = go (same_node k manager_node) refl
  where
    no_stop : (ts : List Turn) (is : List Item) → ts ++ Quits stamp ∷ rest ≡ map Did is ++ [] → ⊥
    no_stop [] [] e = absurd cc
    no_stop [] (i ∷ is) e = absurd cc
    no_stop (t ∷ ts) [] e = absurd cc
    no_stop (t ∷ ts) (i ∷ is) e = no_stop ts is (cc)

    go : (b : Bool) → same_node k manager_node ≡ b → b ≡ false
    go true e =
        let none : ended ≡ false = stops (same_node-true k manager_node e) in
        absurd (no_stop before items (subst (λ (b : Bool). before ++ Quits stamp ∷ rest ≡ map Did items ++ ending last b) none turns))
    go false e = refl

-- ---- all turns

module _ (journals : List Journal) (h : Header) (are : (i : ℕ) (j : Journal) → At journals i j → IsJournalOf h j) where
  one : (w : World) (before : List Placed) (s : Step) (k : NodeId) (turn : Turn) (rest : List Turn) (j : Journal) → Woven h w before → IsJournalOf h j → j.id ≡ k
      → deed_of w s ≡ deed_for (record { node = k; turn = turn }) → of k before ++ turn ∷ rest ≡ turns_of j → ltb weight_limit (weight w) ≡ false
      → IsMade w s (record { node = k; turn = turn }) × Woven h (step w s).world (before ++ record { node = k; turn = turn } ∷ [])
  one w before s k (Did item) rest j woven is name deed turns light =
      one_item h w before woven s k item rest j.items (last_stamp 0 j.items) j.ended deed turns
      (subst (λ (n : NodeId). (state_of (opening h) n ≢ None) ⊎ TakesFirst j.items) name is.begins)
      (subst (λ (n : NodeId). IsJournal (machine_of n) (opening_of h n) j.items) name is.replay) light
  one w before s k (Quits stamp) rest j woven is name deed turns light =
      one_stop h w before woven s k stamp rest j.items (last_stamp 0 j.items) j.ended deed turns
      (subst (λ (n : NodeId). (state_of (opening h) n ≢ None) ⊎ TakesFirst j.items) name is.begins)
      (not_manager k stamp (of k before) rest j.items (last_stamp 0 j.items) j.ended turns (λ e. is.stops (name ∙ e)))

  weave : (ss : List Step) (before ps : List Placed) (w : World) → Woven h w before → LegalFrom before ss ps → Each (λ (p : Placed). IsKnown journals p.node) ps
      → ((i : ℕ) (j : Journal) → At journals i j → of j.id (before ++ ps) ≡ turns_of j) → sum (map weight_of (said (before ++ ps))) ≤ weight_limit → Runs w ss ps
  weave [] before [] w woven legal known whole light = tt
  weave [] before (p ∷ ps) w woven legal known whole light = absurd legal
  weave (s ∷ ss) before [] w woven legal known whole light = absurd legal
  weave (s ∷ ss) before (p ∷ ps) w woven legal known whole light =
      let j : Journal = known.0.journal in
      let all : of p.node (before ++ p ∷ ps) ≡ turns_of j = subst (λ (n : NodeId). of n (before ++ p ∷ ps) ≡ turns_of j) known.0.its_name (whole known.0.place j known.0.stands) in
      let turns : of p.node before ++ p.turn ∷ of p.node ps ≡ turns_of j = sym (of-append p.node before (p ∷ ps) ∙ ap (λ ts. of p.node before ++ ts) (of_first p ps)) ∙ all in
      let deed : deed_of w s ≡ deed_for p = ap (λ ms. deed_by ms s) woven.messages_are ∙ legal.0 in
      let prefix = sum_prefix (said before) (said (p ∷ ps)) in
      let low : sum (map weight_of (said before)) ≤ weight_limit = omega (arith, prefix, subst (λ (ms : List Message). sum (map weight_of ms) ≤ weight_limit) (said-append before (p ∷ ps)) light) in
      let first = one w before s p.node p.turn (of p.node ps) j woven (are known.0.place j known.0.stands) known.0.its_name deed turns (light_world w (said before) woven.messages_are low) in
      let same : (before ++ p ∷ []) ++ ps ≡ before ++ p ∷ ps = append_assoc before (p ∷ []) ps in (
        first.0,
        weave ss (before ++ p ∷ []) ps (step w s).world first.1 legal.1 known.1
            (λ i k at. ap (of k.id) same ∙ whole i k at)
            (subst (λ (qs : List Placed). sum (map weight_of (said qs)) ≤ weight_limit) (sym same) light),
      )

pub legal_runs : (journals : List Journal) (h : Header) (ss : List Step) (placed : List Placed) → Legal journals h ss placed → RunOf journals h ss placed
legal_runs journals h ss placed l = record {
  apart = l.apart;
  turns = l.turns;
  runs = weave journals h l.journals_are ss [] placed (opening h) (opened h l.header) l.legal l.turns.known l.turns.whole l.light;
}
