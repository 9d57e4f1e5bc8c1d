-- A step that is made can be printed: it stops no manager, and no node that isn't there.
use Rattle.std.proofs.Common.{◌≡◌, ◌↔◌, ℕ, zero, suc, not, false, List, [], ◌∷◌, sym, ◌∙◌, arith}
use Rattle.std.specs.List.{list_all}
use Rattle.curp_base.specs.Words.{Each}
use Rattle.curp_cmd.specs.Node.{manager_node, same_node}
use Rattle.curp_cmd.specs.declared.node.NodeKind.{NodeKind}
use Rattle.curp_cmd.specs.declared.node.NodeKind.TheVariants as kind
use Rattle.curp_msg.specs.declared.outcome.StepResult.TheVariants.{Done}
use Rattle.curp_msg.specs.declared.script.Step.{Step}
use Rattle.curp_msg.specs.declared.script.Step.TheVariants.{Collect, Deliver, Expire, Fetch, Invoke, Migrate, Nudge, Recover, Replace, Retry, Stop, Sync}
use Rattle.curp_model.specs.World.{World, has_node, step}
use Rattle.curp_script.specs.Printed.{NamesNode}
use Rattle.curp_journal.specs.Turns.{Placed}
use Rattle.curp_law_steps.proofs.Gives.{done, result}
use Rattle.curp_law_weave.specs.Run.{Runs}

-- a node that is there and isn't the manager has a number from 1 on
named_well : (w : World) (own : NodeKind) (n : ℕ) → not (list_all (has_node w) (record { kind = own; number = n } ∷ [])) ≡ false
    → same_node (record { kind = own; number = n }) manager_node ≡ false → (n ≡ 0) ↔ (own ≡ kind.Manager)
named_well w kind.Manager zero there other = absurd cc
named_well w kind.Manager (suc n) there other = absurd cc
named_well w kind.Client zero there other = absurd cc
named_well w kind.Client (suc n) there other = (λ e. absurd (omega (arith, e)), λ e. absurd cc)
named_well w kind.Master zero there other = absurd cc
named_well w kind.Master (suc n) there other = (λ e. absurd (omega (arith, e)), λ e. absurd cc)
named_well w kind.Backup zero there other = absurd cc
named_well w kind.Backup (suc n) there other = (λ e. absurd (omega (arith, e)), λ e. absurd cc)
named_well w kind.Witness zero there other = absurd cc
named_well w kind.Witness (suc n) there other = (λ e. absurd (omega (arith, e)), λ e. absurd cc)

-- a step that is made
made_prints : (w : World) (s : Step) → (step w s).outcome.result ≡ Done → NamesNode s
made_prints w (Stop id) made =
    let spares = ((done w (Stop id)).0 (sym (result w (Stop id)) ∙ made)).0.running.spares in
    named_well w id.kind id.number spares.there.named spares.other
made_prints w (Invoke client command) made = tt
made_prints w (Deliver number) made = tt
made_prints w (Retry client seq) made = tt
made_prints w (Fetch client) made = tt
made_prints w (Sync master) made = tt
made_prints w (Collect master) made = tt
made_prints w (Recover part backup witness) made = tt
made_prints w (Replace keeper part place) made = tt
made_prints w (Migrate lo hi to) made = tt
made_prints w Nudge made = tt
made_prints w (Expire client) made = tt

-- each step of a run
pub run_prints : (w : World) (ss : List Step) (ps : List Placed) → Runs w ss ps → Each NamesNode ss
run_prints w [] [] runs = tt
run_prints w [] (p ∷ ps) runs = absurd runs
run_prints w (s ∷ ss) [] runs = absurd runs
run_prints w (s ∷ ss) (p ∷ ps) runs = (made_prints w s runs.0.made, run_prints (step w s).world ss ps runs.1)
