-- Each command that is invoked names a key, after a step too.
use Rattle.std.proofs.Common.{◌≡◌, inl, inr, ℕ, List, [], ◌++◌, refl, sym, subst, Option, Some, None}
use Rattle.curp_base.specs.Words.{At}
use Rattle.curp_base.proofs.Lists.{at_append_cases, at_one}
use Rattle.curp_cmd.specs.Node.{client_node}
use Rattle.curp_cmd.specs.declared.command.Answer.{Answer}
use Rattle.curp_cmd.specs.declared.command.Command.{Command}
use Rattle.curp_cmd.specs.declared.command.RequestId.{RequestId}
use Rattle.curp_msg.specs.declared.machine.Completed.{Completed}
use Rattle.curp_msg.specs.Input.{Input}
use Rattle.curp_msg.specs.Input as input
use Rattle.curp_msg.specs.declared.machine.Local.TheVariants as local
use Rattle.curp_order.specs.declared.Event.{Event}
use Rattle.curp_order.specs.declared.Event.TheVariants.{Complete, Invoke}
use Rattle.curp_model.specs.Backup.{backup_input}
use Rattle.curp_model.specs.Client.{ClientState, client_input}
use Rattle.curp_model.specs.Manager.{manager_input}
use Rattle.curp_model.specs.Recovery.{master_input}
use Rattle.curp_model.specs.Witness.{witness_input}
use Rattle.curp_model.specs.World.{World, completion, invocation_of}
use Rattle.curp_cmd.specs.Store.{NamesKey}
use Rattle.curp_law_kept.proofs.Gives.{ByBackup, ByClient, ByManager, ByMaster, ByWitness, InvokesKey, Rests, StepCase, Stays}

-- each command that is invoked in these events names a key
abbrev pub CommandsName : List Event → Type 0
CommandsName events = (i : ℕ) (id : RequestId) (command : Command) → At events i (Invoke id command) → NamesKey command

none_name : CommandsName []
none_name i id command at = absurd cc

both_name : (xs ys : List Event) → CommandsName xs → CommandsName ys → CommandsName (xs ++ ys)
both_name xs ys old new i id command at = elim (at_append_cases xs ys i (Invoke id command) at) [ inl h ↦ old i id command h | inr h ↦ new h.0 id command h.2 ]

completion_names : (o : Option Completed) → CommandsName (completion o)
completion_names None i id command at = absurd cc
completion_names (Some d) i id command at = absurd (apart (at_one (Complete d.id d.answer) i (Invoke id command) at).1)
  where
    apart : {x y : RequestId} {a : Answer} {d : Command} → Complete x a ≡ Invoke y d → ⊥
    apart e = cc

invocation_names : (n : ℕ) (c : ClientState) (given : Input) → InvokesKey given → CommandsName (invocation_of (client_node n) (Some c) given)
invocation_names n c (input.Local (local.Invoke command)) key i id d at = subst NamesKey (same (at_one _ i (Invoke id d) at).1) key
  where
    same : {x y : RequestId} {a b : Command} → Invoke x a ≡ Invoke y b → a ≡ b
    same e = cc
invocation_names n c (input.Local _) key i id d at = none_name i id d at
invocation_names n c (input.Message m) key i id d at = none_name i id d at

module _ (history : List Event) (old : CommandsName history) where
  grown_names : (events : List Event) (o : Option Completed) → CommandsName events → CommandsName ((history ++ events) ++ completion o)
  grown_names events o new = both_name (history ++ events) (completion o) (both_name history events old new) (completion_names o)

  idle_names : (events : List Event) (o : Option Completed) → events ≡ [] → CommandsName ((history ++ events) ++ completion o)
  idle_names events o none = grown_names events o (subst CommandsName (sym none) none_name)

-- whatever a step does
pub commands_step : {w v : World} → StepCase w v → CommandsName w.history → CommandsName v.history
commands_step {w} {v} step old = go step
  where
    Names : World → Type 0
    Names u = CommandsName u.history

    go : StepCase w v → Names v
    go (Stays is) = subst Names (sym is) old
    go (Rests r) = subst Names (sym r.is) (idle_names w.history old [] None refl)
    go (ByClient n given c here for made key is) = subst Names (sym is) (grown_names w.history old (invocation_of (client_node n) (Some c) given) (client_input n c given).completed (invocation_names n c given key))
    go (ByBackup n given b here for events none is) = subst Names (sym is) (idle_names w.history old events (backup_input n b given).completed none)
    go (ByWitness n given x here for events none is) = subst Names (sym is) (idle_names w.history old events (witness_input n x given).completed none)
    go (ByMaster n given m here for events none is) = subst Names (sym is) (idle_names w.history old events (master_input n m given).completed none)
    go (ByManager given for events none is) = subst Names (sym is) (idle_names w.history old events (manager_input w.manager given).completed none)
