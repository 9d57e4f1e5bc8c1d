-- A recovering master that isn't adopted.
use Rattle.std.proofs.Common.{◌≡◌, ℕ, false, Result, Ok, Err, refl, ap, sym, subst, true≢false}
use Rattle.std.proofs.lemmas.Bool.{cond_both}
use Rattle.std.specs.declared.alloc.AllocError.{AllocError}
use Rattle.curp_cmd.specs.Store.{is_update}
use Rattle.curp_cmd.specs.declared.command.Request.{Request}
use Rattle.curp_cmd.specs.declared.node.NodeId.{NodeId}
use Rattle.curp_model.specs.Recovery.{MasterStage, Recovering, RecoveryPhase, RecoveryState, Asking, Storing, Waiting, on_master, serves, turns_read_away}
use Rattle.curp_msg.specs.Moved.{Moved, Moves, Node, numbered_move, quiet, within}
use Rattle.curp_msg.specs.declared.body.Body.{Body}
use Rattle.curp_msg.specs.declared.body.Body.TheVariants as body
use Rattle.curp_msg.specs.declared.machine.Done.{Done}
use Rattle.curp_msg.specs.Input as input
use Rattle.curp_msg.specs.declared.message.Message.{Message}
use Rattle.curp_recover.specs.Heard.{is_serving, recovery_in, unadopted}
use Rattle.curp_nodes.specs.Machines.{master_machine}

not_served : (s : RecoveryState) (p : RecoveryPhase) → is_serving (serves s p) ≡ false
    → quiet (serves s p) ≡ within Recovering (within (recovery_in s) (quiet (serves s p)))
not_served s (Asking log requests) unserved = refl
not_served s (Storing r) unserved = refl
not_served s (Waiting r) unserved = absurd (true≢false unserved)

turned_within : (n : ℕ) (s : RecoveryState) (r : Request)
    → turns_read_away n (Recovering s) r ≡ within Recovering (within (recovery_in s) (turns_read_away n (Recovering s) r))
turned_within n s r =
    cond_both (is_update r.command) _ _ (λ (m : Moved MasterStage). m ≡ within Recovering (within (recovery_in s) m)) (λ y. refl) (λ no. refl)

-- its recovery goes on
goes_on : (n : ℕ) (s : RecoveryState) (from : NodeId) (b : Body) → is_serving (on_master n (Recovering s) from b).state ≡ false
    → on_master n (Recovering s) from b ≡ within Recovering (unadopted n s from b)
unfolding on_master
goes_on n s from (body.Adopted a) unserved = not_served s s.phase unserved
goes_on n s from (body.Read ask) unserved = turned_within n s ask.request
goes_on n s from (body.Glance ask) unserved = turned_within n s ask.request
goes_on n s from _ unserved = refl

-- a node with its recovery inside
abbrev pub recovering : Node RecoveryState → Node MasterStage
recovering r = record { number = r.number; state = Recovering r.state }

moves_within : (n : ℕ) (old new : Node RecoveryState) (told : Result Done AllocError) (r : Moved RecoveryState)
    → Moves old new told (numbered_move n r) → Moves (recovering old) (recovering new) told (numbered_move n (within Recovering r))
moves_within n old new (Ok done) r moves = (ap recovering moves.0, moves.1)
moves_within n old new (Err no_memory) r moves = ap recovering moves

-- by a message that isn't its adoption it does what its recovery does
pub recovering_moves : (old new : Node RecoveryState) (told : Result Done AllocError) (m : Message)
    → is_serving (on_master old.number (Recovering old.state) m.from m.body).state ≡ false
    → Moves old new told (numbered_move old.number (unadopted old.number old.state m.from m.body))
    → Moves (recovering old) (recovering new) told (master_machine (recovering old) (input.Message m))
unfolding master_machine
recovering_moves old new told m unserved moves =
    let n = old.number in
    subst (λ (r : Moved MasterStage). Moves (recovering old) (recovering new) told (numbered_move n r))
    (sym (goes_on n old.state m.from m.body unserved))
    (moves_within n old new told (unadopted n old.state m.from m.body) moves)
