-- What is kept of a step is the step of the definition.
use Rattle.std.proofs.Common.{◌≡◌, ◌≢◌, nat_le, ◌==◌, ℕ, ◌+◌, ◌-◌, ◌^◌, Bool, true, false, if◌then◌else◌, List, [], ◌∷◌, ◌++◌, length, Option, Some, None, is_some, Result, Ok, Err, append-nil, arith, refl, ap, sym, ◌∙◌, subst}
use Rattle.std.proofs.lemmas.Bool.Decides.{nat_tests}
use Rattle.std.specs.Option.{ok_or, option_map}
use Rattle.std.specs.declared.alloc.AllocError.{AllocError}
use Rattle.curp_base.specs.Cases.{◌>>=◌, refuse_if}
use Rattle.curp_base.specs.Words.{all_of, numbered}
use Rattle.curp_cmd.specs.declared.command.Command.{Command}
use Rattle.curp_cmd.specs.declared.command.Request.{Request}
use Rattle.curp_cmd.specs.declared.command.RequestId.{RequestId}
use Rattle.curp_cmd.specs.declared.node.NodeId.{NodeId}
use Rattle.curp_cmd.specs.declared.node.NodeKind.{NodeKind}
use Rattle.curp_cmd.specs.declared.node.NodeKind.TheVariants as kind
use Rattle.curp_model.specs.Client.{ClientState, client_ordered, invoke, most_pending, next_request, owner_of, sends_first}
use Rattle.curp_model.specs.Marks.{Mark}
use Rattle.curp_model.specs.World.{Gives, Stepped, World, completion, events_of, has_node, invocation_of, kept, moves, refused, steps_by, taker_of, with_batch, with_completion}
use Rattle.curp_msg.specs.Input.{Input}
use Rattle.curp_msg.specs.Input as input
use Rattle.curp_msg.specs.Moved.{Makes, Moved, quiet, unless_refused, within}
use Rattle.curp_msg.specs.declared.config.PartConfig.{PartConfig}
use Rattle.curp_msg.specs.declared.machine.Done.{Done}
use Rattle.curp_msg.specs.declared.machine.Local.{Local}
use Rattle.curp_msg.specs.declared.machine.Local.TheVariants as local
use Rattle.curp_msg.specs.declared.message.Message.{Message}
use Rattle.curp_msg.specs.declared.outcome.Outcome.{Outcome}
use Rattle.curp_msg.specs.declared.outcome.StepResult.{StepResult}
use Rattle.curp_msg.specs.declared.outcome.StepResult.TheVariants as result
use Rattle.curp_order.specs.Recorded.{invocation}
use Rattle.curp_order.specs.declared.Event.{Event}
use Rattle.curp_line.specs.Due.{marks_by, told_op}
use Rattle.curp_cluster.specs.Given.{MakesStep, barrier, goes, hands, invoked_by}
use Rattle.curp_cluster.specs.Marked.{MarkedNodes, Takes, left_by, seen, with_marked}
use Rattle.curp_cluster.specs.Marks.{due_marks}
use Rattle.curp_cluster.specs.Nodes.{NodeStates, nodes_of}
use Rattle.curp_cluster.proofs.Marking.{moved_as}
use Rattle.curp_cluster.proofs.Stepping.{passed}

-- ---- nodes with their marks

-- a move that isn't refused leaves what it leaves
left_taken : (old : MarkedNodes) (m : Moved World) → m.refused ≡ 0
    → left_by old m ≡ record { nodes = nodes_of m.state; marks = with_completion m.completed m.state.marks }
left_taken old m none = rw none refl

-- and one that is refused nothing
left_refused : (old : MarkedNodes) (m : Moved World) → m.refused ≢ 0 → left_by old m ≡ old
left_refused old m some = let other : (m.refused == 0) ≡ false = grind (arith, nat_tests) in rw other refl

-- nodes that moved, what was due of it marked, and what completed flagged
pub takes : (w : World) (old : MarkedNodes) (to : NodeId) (given : Input) (nodes : NodeStates) (done : Done) (added marks : List Mark)
    → Makes nodes done (within nodes_of (moves (with_marked w old) to given)) → done.refused ≡ 0
    → added ≡ marks_by (due_marks old.nodes to given) to nodes.masters old.marks → marks ≡ with_completion done.completed added
    → Takes {E = AllocError} old (record { nodes = nodes; marks = marks }) (Ok done) (moves (with_marked w old) to given)
takes w old to given nodes done added marks makes taken adds flags =
    let v : World = with_marked w old in
    let m : Moved World = moves v to given in
    let marked : added ≡ m.state.marks =
    adds
    ∙ ap (λ (n : NodeStates). marks_by (due_marks old.nodes to given) to n.masters old.marks) makes.0
    ∙ sym (ap (λ (x : World). x.marks) (moved_as v to.number given to.kind)) in
    let flagged : marks ≡ with_completion m.completed m.state.marks =
    flags ∙ (λ i. with_completion (makes.1 i).completed (marked i)) in (
      (λ i. record { nodes = makes.0 i; marks = flagged i }) ∙ sym (left_taken old m (sym (ap (λ (d : Done). d.refused) makes.1) ∙ taken)),
      makes.1,
    )

-- what a node refused
pub takes_none : (w : World) (old : MarkedNodes) (to : NodeId) (given : Input) (nodes : NodeStates) (done : Done) (marks : List Mark)
    → Makes nodes done (within nodes_of (moves (with_marked w old) to given)) → done.refused ≢ 0
    → nodes ≡ old.nodes → marks ≡ old.marks
    → Takes {E = AllocError} old (record { nodes = nodes; marks = marks }) (Ok done) (moves (with_marked w old) to given)
takes_none w old to given nodes done marks makes some same_nodes same_marks =
    let m : Moved World = moves (with_marked w old) to given in
    let refuses : m.refused ≢ 0 = λ none. some (ap (λ (d : Done). d.refused) makes.1 ∙ none) in (
      (λ i. record { nodes = same_nodes i; marks = same_marks i }) ∙ sym (left_refused old m refuses),
      makes.1,
    )

-- ---- what goes into the history before anything completes

-- an order to invoke that isn't refused invokes the next request
invokes_next : (n : ℕ) (c : ClientState) (command : Command) → (invoke n c command).refused ≡ 0 → (invoke n c command).invoked ≡ Some (next_request n c command)
unfolding invoke
invokes_next n c command = go (nat_le most_pending (length c.pending)) (nat_le (2 ^ 32 - 1) c.last) (owner_of c.config command)
  where
    act : PartConfig → Moved ClientState
    act = sends_first n c (next_request n c command)

    go : (many last : Bool) (o : Option PartConfig) → let m = unless_refused c act (refuse_if many 1 >>= (λ _. refuse_if last 2 >>= (λ _. ok_or o 3))) in
        m.refused ≡ 0 → m.invoked ≡ Some (next_request n c command)
    go true last o taken = absurd (omega (arith, taken))
    go false true o taken = absurd (omega (arith, taken))
    go false false None taken = absurd (omega (arith, taken))
    go false false (Some p) taken = refl

-- the request of a client that has invoked it
invoked : (w : World) (n : ℕ) (command : Command) (o : Option ClientState) → numbered w.clients n ≡ o → is_some o ≡ true
    → (moves w (record { kind = kind.Client; number = n }) (input.Local (local.Invoke command))).refused ≡ 0
    → invocation (option_map told_op (moves w (record { kind = kind.Client; number = n }) (input.Local (local.Invoke command))).invoked)
    ≡ invocation_of (record { kind = kind.Client; number = n }) o (input.Local (local.Invoke command))
unfolding client_ordered
invoked w n command None here there = absurd cc
invoked w n command (Some c) here there =
    rw here (λ taken. ap (λ (r : Option Request). invocation (option_map told_op r)) (invokes_next n c command taken))

-- what an order to a node has invoked is the event of it
order_events : (w : World) (to : NodeId) (order : Local) → to.kind ≡ taker_of order → has_node w to ≡ true
    → (moves w to (input.Local order)).refused ≡ 0
    → invocation (invoked_by order (moves w to (input.Local order)).invoked) ≡ events_of w (Gives to (input.Local order))
order_events w to order is = go order (numbered w.clients to.number) refl is
  where
    go : (order : Local) (o : Option ClientState) → numbered w.clients to.number ≡ o → to.kind ≡ taker_of order → has_node w to ≡ true
        → (moves w to (input.Local order)).refused ≡ 0
        → invocation (invoked_by order (moves w to (input.Local order)).invoked) ≡ invocation_of to o (input.Local order)
    go (local.Invoke command) o here is there taken =
        subst (λ (k : NodeKind). let node : NodeId = record { kind = k; number = to.number } in
        has_node w node ≡ true → (moves w node (input.Local (local.Invoke command))).refused ≡ 0
        → invocation (option_map told_op (moves w node (input.Local (local.Invoke command))).invoked)
        ≡ invocation_of to o (input.Local (local.Invoke command))) (sym is)
        (λ there taken. invoked w to.number command o here (ap (λ (x : Option ClientState). is_some x) (sym here) ∙ there) taken) there taken
    go order None here is there taken = refl
    go order (Some c) here is there taken = refl

message_events : (to : NodeId) (o : Option ClientState) (m : Message) → [] ≡ invocation_of to o (input.Message m)
message_events to None m = refl
message_events to (Some c) m = refl

-- ---- a world that is seen

-- a step that isn't made
pub nothing_done : (w : World) (s : Stepped) (o : Outcome) (why : StepResult) → s ≡ refused w why → o ≡ (refused w why).outcome
    → (w ≡ s.world) × (o ≡ s.outcome)
nothing_done w s o why is told = (sym (ap (λ (x : Stepped). x.world) is), told ∙ sym (ap (λ (x : Stepped). x.outcome) is))

-- one that stops a node
pub node_stopped : (m : MarkedNodes) (stopped stopped' : List NodeId) (sent : List (List Message)) (history : List Event) (w : World) (node : NodeId) (s : Stepped)
    → seen m stopped sent history ≡ w → s ≡ kept w [] (quiet (record w { stopped = w.stopped ++ node ∷ [] })) → stopped' ≡ stopped ++ node ∷ []
    → (seen m stopped' sent history ≡ s.world) × ((refused (seen m stopped' sent history) result.Done).outcome ≡ s.outcome)
node_stopped m stopped stopped' sent history w node s view is more =
    let as_it_was : history ≡ (history ++ []) ++ [] = sym (append-nil (history ++ []) ∙ append-nil history) in
    let now : s ≡ kept (seen m stopped sent history) [] (quiet (seen m (stopped ++ node ∷ []) sent history)) =
    is ∙ ap (λ (v : World). kept v [] (quiet (record v { stopped = v.stopped ++ node ∷ [] }))) (sym view) in (
      rw more (ap (λ (events : List Event). seen m (stopped ++ node ∷ []) sent events) as_it_was) ∙ sym (ap (λ (x : Stepped). x.world) now),
      sym (ap (λ (x : Stepped). x.outcome) now),
    )

-- ---- a node gets something

taken_refused : (n : ℕ) → n ≢ 0 → (if n == 0 then result.Done else result.Refused n) ≡ result.Refused n
taken_refused n some = let other : (n == 0) ≡ false = grind (arith, nat_tests) in rw other refl

module _ (old new : MarkedNodes) (stopped : List NodeId) (sent : List (List Message)) (history : List Event) (to : NodeId) (given : Input) (done : Done) where
  abbrev was : World
  was = seen old stopped sent history

  abbrev moved : Moved World
  moved = moves was to given

  module _ (took : Takes {E = AllocError} old new (Ok done) moved) (passes : barrier was to ≡ None) where
    -- by what the node answers
    answered : hands was to given ≡ steps_by was (Gives to given) (goes None done.refused)
    answered =
        ap (λ (o : Option StepResult). steps_by was (Gives to given) (goes o moved.refused)) passes
        ∙ ap (λ (n : ℕ). steps_by was (Gives to given) (goes None n)) (sym (ap (λ (d : Done). d.refused) took.1))

    refused_by : done.refused ≢ 0 → hands was to given ≡ refused was (result.Refused done.refused)
    refused_by some = answered ∙ ap (steps_by was (Gives to given)) (taken_refused done.refused some)

    -- what a node did on an input is kept
    done_at : (sent' : List (List Message)) (history' : List Event) (event : Option (RequestId × Command)) (o : Outcome)
        → done.refused ≡ 0 → invocation event ≡ events_of was (Gives to given)
        → sent' ≡ with_batch sent done.sent → history' ≡ (history ++ invocation event) ++ completion done.completed
        → o ≡ record { result = result.Done; first = length (all_of sent) + 1; sent = length done.sent; completed = done.completed }
        → (seen new stopped sent' history' ≡ (hands was to given).world) × (o ≡ (hands was to given).outcome)
    done_at sent' history' event o taken invokes sends records outcome =
        let m : Moved World = moved in
        let whole : hands was to given ≡ kept was (events_of was (Gives to given)) m =
        answered ∙ ap (λ (n : ℕ). steps_by was (Gives to given) (goes None n)) taken in
        let marked : new ≡ record { nodes = nodes_of m.state; marks = with_completion m.completed m.state.marks } =
        took.0 ∙ left_taken old m (sym (ap (λ (d : Done). d.refused) took.1) ∙ taken) in
        let stays : stopped ≡ m.state.stopped = sym (ap (λ (v : World). v.stopped) (moved_as was to.number given to.kind)) in
        let sends' : sent' ≡ with_batch sent m.messages = sends ∙ ap (λ (d : Done). with_batch sent d.sent) took.1 in
        let records' : history' ≡ (history ++ events_of was (Gives to given)) ++ completion m.completed =
        records ∙ (λ i. (history ++ invokes i) ++ completion (took.1 i).completed) in
        let world : seen new stopped sent' history' ≡ (kept was (events_of was (Gives to given)) m).world =
        λ i. seen (marked i) (stays i) (sends' i) (records' i) in (
          world ∙ sym (ap (λ (x : Stepped). x.world) whole),
          outcome ∙ ap (λ (d : Done). record { result = result.Done; first = length (all_of sent) + 1; sent = length d.sent; completed = d.completed }) took.1
              ∙ sym (ap (λ (x : Stepped). x.outcome) whole),
        )

-- what a node did on an order, behind what it invoked
pub order_kept : (old new : MarkedNodes) (stopped : List NodeId) (sent sent' : List (List Message)) (history history' : List Event) (w : World)
    (to : NodeId) (order : Local) (done : Done) (event : Option (RequestId × Command)) (o : Outcome)
    → ((v : World) → Takes {E = AllocError} old new (Ok done) (moves (with_marked v old) to (input.Local order)))
    → seen old stopped sent history ≡ w → barrier w to ≡ None → to.kind ≡ taker_of order → done.refused ≡ 0
    → event ≡ invoked_by order done.invoked
    → sent' ≡ with_batch sent done.sent → history' ≡ (history ++ invocation event) ++ completion done.completed
    → o ≡ record { result = result.Done; first = length (all_of sent) + 1; sent = length done.sent; completed = done.completed }
    → (seen new stopped sent' history' ≡ (hands w to (input.Local order)).world) × (o ≡ (hands w to (input.Local order)).outcome)
order_kept old new stopped sent sent' history history' w to order done event o takes view passes is taken asks sends records outcome =
    subst (λ (v : World). barrier v to ≡ None → (seen new stopped sent' history' ≡ (hands v to (input.Local order)).world) × (o ≡ (hands v to (input.Local order)).outcome)) view
    (λ passes.
    let was : World = seen old stopped sent history in
    let took = takes was in
    let none : (moves was to (input.Local order)).refused ≡ 0 = sym (ap (λ (d : Done). d.refused) took.1) ∙ taken in
    let invokes : invocation event ≡ events_of was (Gives to (input.Local order)) =
    ap invocation (asks ∙ ap (λ (d : Done). invoked_by order d.invoked) took.1)
    ∙ order_events was to order is (passed was to passes) none in
    done_at old new stopped sent history to (input.Local order) done took passes sent' history' event o taken invokes sends records outcome)
    passes

-- what a node did on a message
pub message_kept : (old new : MarkedNodes) (stopped : List NodeId) (sent sent' : List (List Message)) (history history' : List Event) (w : World)
    (to : NodeId) (m : Message) (done : Done) (o : Outcome)
    → ((v : World) → Takes {E = AllocError} old new (Ok done) (moves (with_marked v old) to (input.Message m)))
    → seen old stopped sent history ≡ w → barrier w to ≡ None → done.refused ≡ 0
    → sent' ≡ with_batch sent done.sent → history' ≡ (history ++ []) ++ completion done.completed
    → o ≡ record { result = result.Done; first = length (all_of sent) + 1; sent = length done.sent; completed = done.completed }
    → (seen new stopped sent' history' ≡ (hands w to (input.Message m)).world) × (o ≡ (hands w to (input.Message m)).outcome)
message_kept old new stopped sent sent' history history' w to m done o takes view passes taken sends records outcome =
    subst (λ (v : World). barrier v to ≡ None → (seen new stopped sent' history' ≡ (hands v to (input.Message m)).world) × (o ≡ (hands v to (input.Message m)).outcome)) view
    (λ passes.
    let was : World = seen old stopped sent history in
    done_at old new stopped sent history to (input.Message m) done (takes was) passes sent' history' None o taken
    (message_events to (numbered was.clients to.number) m) sends records outcome)
    passes

-- what a node refused
pub nothing_kept : (old new : MarkedNodes) (stopped : List NodeId) (sent sent' : List (List Message)) (history history' : List Event) (w : World)
    (to : NodeId) (given : Input) (done : Done)
    → ((v : World) → Takes {E = AllocError} old new (Ok done) (moves (with_marked v old) to given))
    → seen old stopped sent history ≡ w → barrier w to ≡ None → done.refused ≢ 0 → sent' ≡ sent → history' ≡ history
    → (seen new stopped sent' history' ≡ w) × (hands w to given ≡ refused w (result.Refused done.refused))
nothing_kept old new stopped sent sent' history history' w to given done takes view passes some same_sent same_history =
    let took = takes (seen old stopped sent history) in
    let refuses : (moves (seen old stopped sent history) to given).refused ≢ 0 = λ none. some (ap (λ (d : Done). d.refused) took.1 ∙ none) in
    let same : new ≡ old = took.0 ∙ left_refused old (moves (seen old stopped sent history) to given) refuses in (
      (λ i. seen (same i) stopped (same_sent i) (same_history i)) ∙ view,
      subst (λ (v : World). barrier v to ≡ None → hands v to given ≡ refused v (result.Refused done.refused)) view
          (λ passes. refused_by old new stopped sent history to given done took passes some) passes,
    )

-- the same world, by what it is made of
pub seen_same : (old new : MarkedNodes) (stopped : List NodeId) (sent sent' : List (List Message)) (history history' : List Event) (w : World)
    → new ≡ old → sent' ≡ sent → history' ≡ history → seen old stopped sent history ≡ w → seen new stopped sent' history' ≡ w
seen_same old new stopped sent sent' history history' w m s e view = rw (m, s, e) view

-- ---- answers of calls

-- by an error, all is as it was
pub as_before : {E : Type 0} (r : Result Outcome E) (e : E) (w v : World) (s : Stepped) → r ≡ Err e → v ≡ w → MakesStep w v r s
as_before r e w v s is same = subst (λ (x : Result Outcome _). MakesStep w v x s) (sym is) same

-- nor has it for nodes with their marks
pub takes_err : {E : Type 0} (r : Result Done E) (e : E) (old new : MarkedNodes) (m : Moved World) → r ≡ Err e → new ≡ old → Takes old new r m
takes_err r e old new m is same = subst (λ (x : Result Done _). Takes old new x m) (sym is) same
