-- What a run shows of what its journals hold.
use Rattle.std.proofs.Common.{◌≡◌, ℕ, zero, suc, ◌+◌, if◌then◌else◌, Bool, true, false, List, [], ◌∷◌, ◌++◌, length, map, Option, Some, None, refl, ap, sym, ◌∙◌, subst, arith}
use Rattle.std.specs.Prelude.{option_to_list}
use Rattle.curp_base.specs.Words.{At, Each, numbered}
use Rattle.curp_base.proofs.Lists.{Each-at, at_append, at_append_right, at_map}
use Rattle.curp_cmd.specs.Node.{client_node, manager_node, same_node}
use Rattle.curp_cmd.specs.declared.command.RequestId.{RequestId}
use Rattle.curp_cmd.specs.declared.node.NodeId.{NodeId}
use Rattle.curp_cmd.proofs.Nodes.{same_node-self}
use Rattle.curp_msg.specs.declared.machine.Completed.{Completed}
use Rattle.curp_msg.specs.Input as input
use Rattle.curp_msg.specs.declared.machine.Local.{Local}
use Rattle.curp_msg.specs.declared.machine.Local.TheVariants as local
use Rattle.curp_msg.specs.declared.message.Message.{Message}
use Rattle.curp_msg.specs.declared.script.Header.{Header}
use Rattle.curp_msg.specs.declared.script.Step.{Step}
use Rattle.curp_msg.specs.declared.script.Step.TheVariants as steps
use Rattle.curp_model.specs.World.{Gives, World, deed_of, delivery, messages, opening, order_in, order_of, step}
use Rattle.curp_journal.specs.Given.{given}
use Rattle.curp_journal.specs.Journal.{last_stamp}
use Rattle.curp_journal.specs.declared.arrived.Arrived.{Arrived}
use Rattle.curp_journal.specs.declared.arrived.Arrived.TheVariants as arrived
use Rattle.curp_journal.specs.declared.item.Item.{Item}
use Rattle.curp_journal.specs.Legal.{deed_for}
use Rattle.curp_journal.specs.Turns.{Did, IsKnown, Journal, Placed, Quits, Turn, completed_by, of, turns_of}
use Rattle.curp_journal.specs.Work.{IsCompletedIn, commands_among, invocations, invoked_by, invoked_in, ordered, orders_to, recoveries, recoveries_among, recoveries_in, recovery_by}
use Rattle.curp_law_weave.specs.Run.{HasEnded, IsCompletedBy, RunOf, Runs, StopsEnded, completions, ordered_by, ordered_in}

-- ---- orders

abbrev turn_order : Turn → List Local
turn_order (Did item) = ordered_by item.input
turn_order (Quits stamp) = []

abbrev orders_in : List Turn → List Local
orders_in [] = []
orders_in (t ∷ ts) = turn_order t ++ orders_in ts

abbrev no_orders : List Local
no_orders = []

chosen : (b : Bool) → (if b then no_orders else no_orders) ≡ no_orders
chosen true = refl
chosen false = refl

-- which messages were sent makes no difference to the orders
none_delivered : (m : Option Message) → order_in (delivery m) ≡ None
none_delivered None = refl
none_delivered (Some m) = refl

same_orders : (w : World) (s : Step) → order_of s ≡ order_in (deed_of w s)
same_orders w (steps.Invoke n command) = refl
same_orders w (steps.Deliver number) = none_delivered (numbered [] number) ∙ sym (none_delivered (numbered (messages w) number))
same_orders w (steps.Retry n seq) = refl
same_orders w (steps.Fetch n) = refl
same_orders w (steps.Sync n) = refl
same_orders w (steps.Collect n) = refl
same_orders w (steps.Recover part backup witness) = refl
same_orders w (steps.Replace keeper part place) = refl
same_orders w (steps.Migrate lo hi to) = refl
same_orders w steps.Nudge = refl
same_orders w (steps.Expire n) = refl
same_orders w (steps.Stop id) = refl

-- what a turn's step orders
turn_orders : (node at : NodeId) (turn : Turn) → ordered node (order_in (deed_for (record { node = at; turn = turn }))) ≡ (if same_node at node then turn_order turn else [])
turn_orders node at (Did item) = by item.input
  where
    by : (a : Arrived) → ordered node (order_in (Gives at (given a))) ≡ (if same_node at node then ordered_by a else [])
    by (arrived.Local order stamp) = refl
    by (arrived.Message named) = sym (chosen (same_node at node))
turn_orders node at (Quits stamp) = sym (chosen (same_node at node))

-- the orders of steps to a node are those of its turns
runs_order : (node : NodeId) (w : World) (ss : List Step) (ps : List Placed) → Runs w ss ps → orders_to node ss ≡ orders_in (of node ps)
runs_order node w [] [] runs = refl
runs_order node w [] (p ∷ ps) runs = absurd runs
runs_order node w (s ∷ ss) [] runs = absurd runs
runs_order node w (s ∷ ss) (p ∷ ps) runs =
    let first : ordered node (order_of s) ≡ (if same_node p.node node then turn_order p.turn else []) =
    ap (ordered node) (same_orders w s ∙ ap order_in runs.0.deed) ∙ turn_orders node p.node p.turn in
    let rest = runs_order node (step w s).world ss ps runs.1 in
    cc (first, rest, go (same_node p.node node) p.turn (of node ps))
  where
    go : (b : Bool) (t : Turn) (ts : List Turn) → (if b then turn_order t else []) ++ orders_in ts ≡ orders_in (if b then t ∷ ts else ts)
    go true t ts = refl
    go false t ts = refl

-- ---- the orders of a journal

orders_of_turns : (items : List Item) (last : ℕ) (ended : Bool) → orders_in (map Did items ++ (if ended then Quits last ∷ [] else [])) ≡ ordered_in items
orders_of_turns [] last true = refl
orders_of_turns [] last false = refl
orders_of_turns (item ∷ items) last ended = ap (λ os. ordered_by item.input ++ os) (orders_of_turns items last ended)

commands-append : (xs ys : List Local) → commands_among (xs ++ ys) ≡ commands_among xs ++ commands_among ys
commands-append [] ys = refl
commands-append (local.Invoke command ∷ xs) ys = ap (λ cs. command ∷ cs) (commands-append xs ys)
commands-append (local.Retry seq ∷ xs) ys = commands-append xs ys
commands-append (local.Fetch ∷ xs) ys = commands-append xs ys
commands-append (local.Sync ∷ xs) ys = commands-append xs ys
commands-append (local.Collect ∷ xs) ys = commands-append xs ys
commands-append (local.Recover part backup witness ∷ xs) ys = commands-append xs ys
commands-append (local.Replace keeper part place ∷ xs) ys = commands-append xs ys
commands-append (local.Migrate lo hi to ∷ xs) ys = commands-append xs ys
commands-append (local.Nudge ∷ xs) ys = commands-append xs ys
commands-append (local.Expire client ∷ xs) ys = commands-append xs ys

one_invoked : (a : Arrived) → commands_among (ordered_by a) ≡ invoked_by a
one_invoked (arrived.Local (local.Invoke command) stamp) = refl
one_invoked (arrived.Local (local.Retry seq) stamp) = refl
one_invoked (arrived.Local local.Fetch stamp) = refl
one_invoked (arrived.Local local.Sync stamp) = refl
one_invoked (arrived.Local local.Collect stamp) = refl
one_invoked (arrived.Local (local.Recover part backup witness) stamp) = refl
one_invoked (arrived.Local (local.Replace keeper part place) stamp) = refl
one_invoked (arrived.Local (local.Migrate lo hi to) stamp) = refl
one_invoked (arrived.Local local.Nudge stamp) = refl
one_invoked (arrived.Local (local.Expire client) stamp) = refl
one_invoked (arrived.Message named) = refl

items_invoked : (items : List Item) → commands_among (ordered_in items) ≡ invoked_in items
items_invoked [] = refl
items_invoked (item ∷ items) = commands-append (ordered_by item.input) (ordered_in items) ∙ cc (one_invoked item.input, items_invoked items)

recoveries-after : (a : Arrived) (os : List Local) → recoveries_among (ordered_by a ++ os) ≡ recovery_by a + recoveries_among os
recoveries-after (arrived.Local (local.Invoke command) stamp) os = omega arith
recoveries-after (arrived.Local (local.Retry seq) stamp) os = omega arith
recoveries-after (arrived.Local local.Fetch stamp) os = omega arith
recoveries-after (arrived.Local local.Sync stamp) os = omega arith
recoveries-after (arrived.Local local.Collect stamp) os = omega arith
recoveries-after (arrived.Local (local.Recover part backup witness) stamp) os = omega arith
recoveries-after (arrived.Local (local.Replace keeper part place) stamp) os = omega arith
recoveries-after (arrived.Local (local.Migrate lo hi to) stamp) os = omega arith
recoveries-after (arrived.Local local.Nudge stamp) os = omega arith
recoveries-after (arrived.Local (local.Expire client) stamp) os = omega arith
recoveries-after (arrived.Message named) os = omega arith

pub items_recover : (items : List Item) → recoveries_among (ordered_in items) ≡ recoveries_in items
items_recover [] = refl
items_recover (item ∷ items) = recoveries-after item.input (ordered_in items) ∙ ap (λ n. recovery_by item.input + n) (items_recover items)

-- ---- turns

-- a turn of a node stands among all turns
turn_placed : (node : NodeId) (ps : List Placed) (t : ℕ) (turn : Turn) → At (of node ps) t turn → (u : ℕ) × ((p : Placed) × (At ps u p × (p.turn ≡ turn)))
turn_placed node [] t turn at = absurd cc
turn_placed node (p ∷ ps) t turn at = go (λ k here. let r = turn_placed node ps k turn here in (suc r.0, r.1)) (same_node p.node node) t at
  where
    go : ((k : ℕ) → At (of node ps) k turn → (u : ℕ) × ((q : Placed) × (At (p ∷ ps) u q × (q.turn ≡ turn))))
        → (b : Bool) (k : ℕ) → At (if b then p.turn ∷ of node ps else of node ps) k turn → (u : ℕ) × ((q : Placed) × (At (p ∷ ps) u q × (q.turn ≡ turn)))
    go later true zero here = (0, (p, (refl, cc)))
    go later true (suc k) here = later k here
    go later false k here = later k here

-- and a turn that stands there is one of its node
placed_turn : (ps : List Placed) (u : ℕ) (p : Placed) → At ps u p → (t : ℕ) × At (of p.node ps) t p.turn
placed_turn [] u p at = absurd cc
placed_turn (q ∷ ps) zero p at = let same : q ≡ p = cc in subst (λ (x : Placed). (t : ℕ) × At (of x.node (q ∷ ps)) t x.turn) same (0, own)
  where
    own : At (of q.node (q ∷ ps)) 0 q.turn
    own = rw (same_node-self q.node) refl
placed_turn (q ∷ ps) (suc u) p at = let r = placed_turn ps u p at in go (same_node q.node p.node) r.0 r.1
  where
    go : (b : Bool) (t : ℕ) → At (of p.node ps) t p.turn → (k : ℕ) × At (if b then q.turn ∷ of p.node ps else of p.node ps) k p.turn
    go true t here = (suc t, here)
    go false t here = (t, here)

-- ---- completions

runs_complete : (w : World) (ss : List Step) (ps : List Placed) (u : ℕ) (p : Placed) (c : Completed) → Runs w ss ps → At ps u p → completed_by p.turn ≡ Some c
    → (k : ℕ) × At (completions w ss) k c
runs_complete w ss [] u p c runs at is = absurd cc
runs_complete w [] (q ∷ ps) u p c runs at is = absurd runs
runs_complete w (s ∷ ss) (q ∷ ps) zero p c runs at is =
    let same : q ≡ p = cc in
    let out : (step w s).outcome.completed ≡ Some c = runs.0.completed ∙ (ap (λ (x : Placed). completed_by x.turn) same ∙ is) in
    (0, rw out refl)
runs_complete w (s ∷ ss) (q ∷ ps) (suc u) p c runs at is =
    let r = runs_complete (step w s).world ss ps u p c runs.1 at is in
    (length (option_to_list (step w s).outcome.completed) + r.0, at_append_right (option_to_list (step w s).outcome.completed) (completions (step w s).world ss) r.0 _ c refl r.1)

-- ---- stops

-- no turn of items is a stop
no_quit : (items : List Item) (t stamp : ℕ) → At (map Did items ++ []) t (Quits stamp) → ⊥
no_quit [] t stamp at = absurd cc
no_quit (item ∷ items) zero stamp at = absurd cc
no_quit (item ∷ items) (suc t) stamp at = no_quit items t stamp at

-- nor one of a journal that hasn't ended
quit_ended : (items : List Item) (ended : Bool) (t stamp : ℕ) → At (map Did items ++ (if ended then Quits (last_stamp 0 items) ∷ [] else [])) t (Quits stamp) → ended ≡ true
quit_ended items true t stamp at = refl
quit_ended items false t stamp at = absurd (no_quit items t stamp at)

by_deed : (journals : List Journal) (w : World) (s : Step) (at : NodeId) (turn : Turn) → deed_of w s ≡ deed_for (record { node = at; turn = turn })
    → ((stamp : ℕ) → turn ≡ Quits stamp → HasEnded journals at) → StopsEnded journals s
by_deed journals w (steps.Stop id) at (Did item) deed ended = absurd cc
by_deed journals w (steps.Stop id) at (Quits stamp) deed ended =
    let same : at ≡ id = cc in
    subst (λ (node : NodeId). HasEnded journals node) same (ended stamp refl)
by_deed journals w (steps.Invoke n command) at turn deed ended = tt
by_deed journals w (steps.Deliver number) at turn deed ended = tt
by_deed journals w (steps.Retry n seq) at turn deed ended = tt
by_deed journals w (steps.Fetch n) at turn deed ended = tt
by_deed journals w (steps.Sync n) at turn deed ended = tt
by_deed journals w (steps.Collect n) at turn deed ended = tt
by_deed journals w (steps.Recover part backup witness) at turn deed ended = tt
by_deed journals w (steps.Replace keeper part place) at turn deed ended = tt
by_deed journals w (steps.Migrate lo hi to) at turn deed ended = tt
by_deed journals w steps.Nudge at turn deed ended = tt
by_deed journals w (steps.Expire n) at turn deed ended = tt

stop_ended : (journals : List Journal) (w : World) (ss : List Step) (ps : List Placed) → Runs w ss ps
    → ((u : ℕ) (p : Placed) → At ps u p → (stamp : ℕ) → p.turn ≡ Quits stamp → HasEnded journals p.node) → Each (StopsEnded journals) ss
stop_ended journals w [] [] runs ended = tt
stop_ended journals w [] (p ∷ ps) runs ended = absurd runs
stop_ended journals w (s ∷ ss) [] runs ended = absurd runs
stop_ended journals w (s ∷ ss) (p ∷ ps) runs ended =
    (by_deed journals w s p.node p.turn runs.0.deed (ended 0 p refl), stop_ended journals (step w s).world ss ps runs.1 (λ u q at. ended (suc u) q at))

-- ---- the whole

module _ (journals : List Journal) (h : Header) (ss : List Step) (placed : List Placed) (run : RunOf journals h ss placed) where
  -- the steps order a node what its journal was ordered
  pub orders_are : (k : ℕ) (j : Journal) → At journals k j → orders_to j.id ss ≡ ordered_in j.items
  orders_are k j at = runs_order j.id (opening h) ss placed run.runs ∙ (ap orders_in (run.turns.whole k j at) ∙ orders_of_turns j.items (last_stamp 0 j.items) j.ended)

  pub invocations_are : (k n : ℕ) (j : Journal) → At journals k j → j.id ≡ client_node n → invocations n ss ≡ invoked_in j.items
  invocations_are k n j at name = ap (λ (node : NodeId). commands_among (orders_to node ss)) (sym name) ∙ (ap commands_among (orders_are k j at) ∙ items_invoked j.items)

  pub recoveries_are : (k : ℕ) (j : Journal) → At journals k j → j.id ≡ manager_node → recoveries ss ≡ recoveries_in j.items
  recoveries_are k j at name = ap (λ (node : NodeId). recoveries_among (orders_to node ss)) (sym name) ∙ (ap recoveries_among (orders_are k j at) ∙ items_recover j.items)

  pub completed_are : (k : ℕ) (j : Journal) (id : RequestId) → At journals k j → IsCompletedIn j.items id → IsCompletedBy h ss id
  completed_are k j id at is =
      let turn : At (turns_of j) is.place (Did is.item) = at_append (map Did j.items) _ is.place (Did is.item) (at_map Did j.items is.place is.item is.stands) in
      let p = turn_placed j.id placed is.place (Did is.item) (subst (λ (ts : List Turn). At ts is.place (Did is.item)) (sym (run.turns.whole k j at)) turn) in
      let c = runs_complete (opening h) ss placed p.0 p.1.0 is.completed run.runs p.1.1.0 (ap completed_by p.1.1.1 ∙ is.is) in
      record { place = c.0; completed = is.completed; stands = c.1; its_id = is.its_id }

  pub stopped_are : Each (StopsEnded journals) ss
  stopped_are = stop_ended journals (opening h) ss placed run.runs ended
    where
      ended : (u : ℕ) (p : Placed) → At placed u p → (stamp : ℕ) → p.turn ≡ Quits stamp → HasEnded journals p.node
      ended u p at stamp quits =
          let known = Each-at (λ (q : Placed). IsKnown journals q.node) placed run.turns.known u p at in
          let j : Journal = known.journal in
          let t = placed_turn placed u p at in
          let whole : of p.node placed ≡ turns_of j = ap (λ (node : NodeId). of node placed) (sym known.its_name) ∙ run.turns.whole known.place j known.stands in
          let here : At (turns_of j) t.0 (Quits stamp) = subst (λ (x : Turn). At (turns_of j) t.0 x) quits (subst (λ (ts : List Turn). At ts t.0 p.turn) whole t.1) in
          record { place = known.place; journal = j; stands = known.stands; its_name = known.its_name; ended = quit_ended j.items j.ended t.0 stamp here }
