use Rattle.std.proofs.Common.{◌≡◌, ℕ, List, Some, None, refl, ap, ◌∙◌}
use Rattle.curp_cmd.specs.declared.entry.Entry.{Entry}
use Rattle.curp_master.specs.Shells.{Shell}
use Rattle.curp_model.specs.Master.{beginning}
use Rattle.curp_model.specs.Recovery.{MasterStage, Recovering, RecoveryPhase, RecoveryState, Serving, Asking, Storing, Waiting, serves}
use Rattle.curp_recover.specs.Answers.{finished_log, round_in}
use Rattle.curp_nodes.proofs.stage.adopted.Goals as goal

-- with its log it serves
served : (s : RecoveryState) (p : RecoveryPhase) (log : List Entry) (round : ℕ) → Some log ≡ finished_log p → round ≡ round_in p
    → Serving (beginning s.order.part s.order.epoch s.order.version s.order.backups s.order.witnesses s.order.lo s.order.hi log round) ≡ serves s p
served s (Asking logged requests) log round its began = absurd cc
served s (Storing r) log round its began = absurd cc
served s (Waiting r) log round its began =
    let same : log ≡ r.log = cc in
    λ i. Serving (beginning s.order.part s.order.epoch s.order.version s.order.backups s.order.witnesses s.order.lo s.order.hi (same i) (began i))

-- without one it doesn't
unserved : (s : RecoveryState) (p : RecoveryPhase) → None ≡ finished_log p → Recovering s ≡ serves s p
unserved s (Asking logged requests) its = refl
unserved s (Storing r) its = refl
unserved s (Waiting r) its = absurd cc

pub returns-in-Ok : goal.returns-in-Ok
returns-in-Ok c =
    let s : RecoveryState = c.args.recovery.state in
    let its = c.requires in
    let log = c.in-Ok.log in
    let number = c.begin.ensures.number ∙ ap (λ (shell : Shell). shell.number) its in
    let state =
    c.begin.ensures.state
    ∙ (λ i. beginning (its i).part (its i).epoch (its i).version (its i).backups (its i).witnesses (c.in-Ok.ensures.lo i) (c.in-Ok.ensures.hi i) log.entries c.round-round.result)
    in
    let stage = ap Serving state ∙ served s s.phase log.entries c.round-round.result c.in-Ok.ensures.log c.round-round.ensures in
    λ i. record { number = number i; state = stage i }

pub returns-in-Err : goal.returns-in-Err
returns-in-Err c =
    let s : RecoveryState = c.args.recovery.state in
    let same = c.in-Err.ensures.back in
    (λ i. record { number = (same i).number; state = Recovering (same i).state })
    ∙ ap (λ (stage : MasterStage). record { number = c.args.recovery.number; state = stage }) (unserved s s.phase c.in-Err.ensures.log)
