-- A step, by what it gives a node or by the node that it stops.
use Rattle.std.proofs.Common.{◌≡◌, ◌==◌, ◌&&◌, ◌||◌, if◌then◌else◌, nat_lt, ℕ, Bool, true, false, not, List, [], ◌∷◌, ◌++◌, Option, Some, None, is_some, refl, ap, sym, ◌∙◌, subst}
use Rattle.std.specs.Prelude.{⊤}
use Rattle.std.specs.List.{list_all, list_any}
use Rattle.std.specs.Option.{option_map}
use Rattle.curp_base.specs.Cases.{first_case, only_if}
use Rattle.curp_base.specs.Words.{numbered}
use Rattle.curp_cmd.specs.Node.{client_node, manager_node, master_node, same_node}
use Rattle.curp_cmd.specs.declared.node.NodeId.{NodeId}
use Rattle.curp_model.specs.World.{Deed, Gives, World, delivery, effect, has_node, is_stopped, is_too_much, kept, messages, moves, order_in, order_of, refused, step, steps_by, subject, taker_of, weight}
use Rattle.curp_msg.specs.Input.{Input}
use Rattle.curp_msg.specs.Input as input
use Rattle.curp_msg.specs.Limits.{weight_limit}
use Rattle.curp_msg.specs.Moved.{quiet}
use Rattle.curp_msg.specs.declared.machine.Local.{Local}
use Rattle.curp_msg.specs.declared.machine.Local.TheVariants as local
use Rattle.curp_msg.specs.declared.message.Message.{Message}
use Rattle.curp_msg.specs.declared.outcome.StepResult.{StepResult}
use Rattle.curp_msg.specs.declared.outcome.StepResult.TheVariants.{Done, Full, Gone, Manager, NoMessage, NoNode, Refused}
use Rattle.curp_msg.specs.declared.script.Step.{Step}
use Rattle.curp_msg.specs.declared.script.Step.TheVariants as steps
use Rattle.curp_cluster.specs.Given.{barrier, expires_nobody, goes, hands}

-- ---- the result of what gives a node something

-- the causes of a step's result, told from the first on that may hold of a gift
causes_of : World → (lost : Bool) (named : List NodeId) (deed : Deed) → StepResult
causes_of w lost named deed = first_case (
    only_if lost NoMessage
    ∷ only_if (not (list_all (has_node w) named)) NoNode
    ∷ only_if false Manager
    ∷ only_if (list_any (is_stopped w) (subject deed)) Gone
    ∷ only_if (is_too_much w deed) (Full (weight w))
    ∷ only_if (not ((effect w deed).refused == 0)) (Refused (effect w deed).refused)
    ∷ []) Done

taken : (zero_is : Bool) (number : ℕ) → first_case (only_if (not zero_is) (Refused number) ∷ []) Done ≡ (if zero_is then Done else Refused number)
taken true number = refl
taken false number = refl

-- they are those of the barrier, and then of the node
as_goes : (w : World) (deed : Deed) (there stopped much : Bool)
    → first_case (
    only_if false NoMessage
    ∷ only_if (not (there && true)) NoNode
    ∷ only_if false Manager
    ∷ only_if (stopped || false) Gone
    ∷ only_if much (Full (weight w))
    ∷ only_if (not ((effect w deed).refused == 0)) (Refused (effect w deed).refused)
    ∷ []) Done
    ≡ goes (first_case (only_if (not there) (Some NoNode) ∷ only_if stopped (Some Gone) ∷ only_if much (Some (Full (weight w))) ∷ []) None) (effect w deed).refused
as_goes w deed false stopped much = refl
as_goes w deed true true much = refl
as_goes w deed true false true = refl
as_goes w deed true false false = taken ((effect w deed).refused == 0) (effect w deed).refused

-- ---- each step that gives a node something

not-true : (b : Bool) → not b ≡ true → b ≡ false
not-true false is = refl
not-true true is = absurd cc

not-false : (b : Bool) → not b ≡ false → b ≡ true
not-false true is = refl
not-false false is = absurd cc

handed : (w : World) (to : NodeId) (given : Input)
    → steps_by w (Gives to given) (causes_of w false (to ∷ []) (Gives to given)) ≡ hands w to given
unfolding causes_of
handed w to given =
    ap (steps_by w (Gives to given)) (as_goes w (Gives to given) (has_node w to) (is_stopped w to) (nat_lt weight_limit (weight w)))

-- a step is the order that it gives, to a node of the kind that the order is for
abbrev pub IsOrdered : World → Step → Option (NodeId × Local) → Type 0
IsOrdered w s None = ⊤
IsOrdered w s (Some o) = (step w s ≡ hands w o.0 (input.Local o.1)) × (o.0.kind ≡ taker_of o.1)

-- a delivery gives no order, whatever was sent
no_order : (w : World) (s : Step) (o : Option Message) → IsOrdered w s (order_in (delivery o))
no_order w s None = tt
no_order w s (Some m) = tt

pub orders : (w : World) (s : Step) → expires_nobody w s ≡ false → IsOrdered w s (order_of s)
unfolding step causes_of
orders w (steps.Invoke n command) there = (handed w (client_node n) (input.Local (local.Invoke command)), refl)
orders w (steps.Retry n seq) there = (handed w (client_node n) (input.Local (local.Retry seq)), refl)
orders w (steps.Fetch n) there = (handed w (client_node n) (input.Local local.Fetch), refl)
orders w (steps.Sync n) there = (handed w (master_node n) (input.Local local.Sync), refl)
orders w (steps.Collect n) there = (handed w (master_node n) (input.Local local.Collect), refl)
orders w (steps.Recover part backup witness) there = (handed w manager_node (input.Local (local.Recover part backup witness)), refl)
orders w (steps.Replace keeper part place) there = (handed w manager_node (input.Local (local.Replace keeper part place)), refl)
orders w (steps.Migrate lo hi to) there = (handed w manager_node (input.Local (local.Migrate lo hi to)), refl)
orders w steps.Nudge there = (handed w manager_node (input.Local local.Nudge), refl)
orders w (steps.Expire n) there = (rw (not-false (has_node w (client_node n)) there) (handed w manager_node (input.Local (local.Expire n))), refl)
orders w (steps.Deliver number) there = no_order w (steps.Deliver number) (numbered [] number)
orders w (steps.Stop node) there = tt

-- where the client that it declares gone isn't there
pub names_nobody : (w : World) (s : Step) → expires_nobody w s ≡ true → step w s ≡ refused w NoNode
unfolding step
names_nobody w (steps.Expire n) gone = rw (not-true (has_node w (client_node n)) gone) refl
names_nobody w (steps.Invoke n command) gone = absurd cc
names_nobody w (steps.Retry n seq) gone = absurd cc
names_nobody w (steps.Fetch n) gone = absurd cc
names_nobody w (steps.Sync n) gone = absurd cc
names_nobody w (steps.Collect n) gone = absurd cc
names_nobody w (steps.Recover part backup witness) gone = absurd cc
names_nobody w (steps.Replace keeper part place) gone = absurd cc
names_nobody w (steps.Migrate lo hi to) gone = absurd cc
names_nobody w steps.Nudge gone = absurd cc
names_nobody w (steps.Deliver number) gone = absurd cc
names_nobody w (steps.Stop node) gone = absurd cc

delivered : (w : World) (o : Option Message) (m : Message) (to : NodeId) → o ≡ Some m → m.to ≡ to
    → steps_by w (delivery o) (causes_of w (not (is_some o)) (subject (delivery o)) (delivery o)) ≡ hands w to (input.Message m)
delivered w o m to found addressee = rw (found, ← addressee) (handed w m.to (input.Message m))

pub delivers : (w : World) (number : ℕ) (to : NodeId) (m : Message) → numbered (messages w) number ≡ Some m → m.to ≡ to
    → step w (steps.Deliver number) ≡ hands w to (input.Message m)
unfolding step causes_of
delivers w number to m found addressee = delivered w (numbered (messages w) number) m to found addressee

-- where no message of that number was sent
pub loses : (w : World) (number : ℕ) → numbered (messages w) number ≡ None → step w (steps.Deliver number) ≡ refused w NoMessage
unfolding step
loses w number none = rw none refl

-- the addressee of a message that was sent
pub addressed : (o : Option Message) (m : Message) (to : NodeId) → option_map (λ (m : Message). m.to) o ≡ Some to → o ≡ Some m → m.to ≡ to
addressed o m to is found =
    let same : Some m.to ≡ Some to = sym (ap (option_map (λ (m : Message). m.to)) found) ∙ is in
    cc

pub no_message : (xs : Option Message) → option_map (λ (m : Message). m.to) xs ≡ None → xs ≡ None
no_message None is = refl
no_message (Some m) is = absurd cc

-- ---- barriers

passed_by : (w : World) (there stopped much : Bool)
    → first_case (only_if (not there) (Some NoNode) ∷ only_if stopped (Some Gone) ∷ only_if much (Some (Full (weight w))) ∷ []) None ≡ None → there ≡ true
passed_by w true stopped much is = refl
passed_by w false stopped much is = absurd cc

-- a node that gets something is there
pub passed : (w : World) (to : NodeId) → barrier w to ≡ None → has_node w to ≡ true
passed w to is = passed_by w (has_node w to) (is_stopped w to) (nat_lt weight_limit (weight w)) is

barred_by : (w : World) (to : NodeId) (given : Input) (why : StepResult) (there stopped much : Bool)
    → first_case (only_if (not there) (Some NoNode) ∷ only_if stopped (Some Gone) ∷ only_if much (Some (Full (weight w))) ∷ []) None ≡ Some why
    → steps_by w (Gives to given) why ≡ refused w why
barred_by w to given why false stopped much is = let same : NoNode ≡ why = cc in subst (λ (r : StepResult). steps_by w (Gives to given) r ≡ refused w r) same refl
barred_by w to given why true true much is = let same : Gone ≡ why = cc in subst (λ (r : StepResult). steps_by w (Gives to given) r ≡ refused w r) same refl
barred_by w to given why true false true is = let same : Full (weight w) ≡ why = cc in subst (λ (r : StepResult). steps_by w (Gives to given) r ≡ refused w r) same refl
barred_by w to given why true false false is = absurd cc

-- a node that is barred gets nothing
pub barred : (w : World) (to : NodeId) (given : Input) (why : StepResult) → barrier w to ≡ Some why → hands w to given ≡ refused w why
barred w to given why is =
    ap (λ (o : Option StepResult). steps_by w (Gives to given) (goes o (moves w to given).refused)) is
    ∙ barred_by w to given why (has_node w to) (is_stopped w to) (nat_lt weight_limit (weight w)) is

-- nor where it is the addressee of a message
pub kept_from : (w : World) (number : ℕ) (to : NodeId) (why : StepResult)
    → option_map (λ (m : Message). m.to) (numbered (messages w) number) ≡ Some to → barrier w to ≡ Some why
    → step w (steps.Deliver number) ≡ refused w why
kept_from w number to why is bars = go (numbered (messages w) number) refl is
  where
    go : (o : Option Message) → numbered (messages w) number ≡ o → option_map (λ (m : Message). m.to) o ≡ Some to → step w (steps.Deliver number) ≡ refused w why
    go None found is = absurd cc
    go (Some m) found is = delivers w number to m found (addressed (Some m) m to is refl) ∙ barred w to (input.Message m) why bars

-- ---- stops

-- what stops nothing, since the node isn't there
pub stops_nobody : (w : World) (node : NodeId) → has_node w node ≡ false → step w (steps.Stop node) ≡ refused w NoNode
unfolding step
stops_nobody w node there = rw there refl

-- the manager, which isn't stopped
pub stops_the_manager : (w : World) (node : NodeId) → has_node w node ≡ true → same_node node manager_node ≡ true
    → step w (steps.Stop node) ≡ refused w Manager
unfolding step
stops_the_manager w node there is = rw (there, is) refl

-- a node that is stopped already
pub stops_again : (w : World) (node : NodeId) → has_node w node ≡ true → same_node node manager_node ≡ false → is_stopped w node ≡ true
    → step w (steps.Stop node) ≡ refused w Gone
unfolding step
stops_again w node there other stopped = rw (there, other, stopped) refl

-- any other node
pub stops_now : (w : World) (node : NodeId) → has_node w node ≡ true → same_node node manager_node ≡ false → is_stopped w node ≡ false
    → step w (steps.Stop node) ≡ kept w [] (quiet (record w { stopped = w.stopped ++ node ∷ [] }))
unfolding step
stops_now w node there other runs = rw (there, other, runs) refl
