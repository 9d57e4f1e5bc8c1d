-- What comes while it asks.
use Rattle.std.proofs.Common.{◌≡◌, ℕ, true, List, Option, Some, None, refl, sym, ◌∙◌, ap}
use Rattle.curp_cmd.proofs.Nodes.{same_node-self}
use Rattle.curp_cmd.specs.declared.command.Request.{Request}
use Rattle.curp_cmd.specs.declared.entry.Entry.{Entry}
use Rattle.curp_model.specs.Log.{is_log}
use Rattle.curp_model.specs.Recovery.{Asking, RecoveryState, both_there, log_comes, requests_come}
use Rattle.curp_msg.specs.Moved.{Makes, Moved, done_of, numbered_move}
use Rattle.curp_msg.specs.declared.body.Recover.{Recover}
use Rattle.curp_msg.specs.declared.machine.Done.{Done}
use Rattle.curp_recover.specs.Stage.{phase_of}
use Rattle.curp_recover.specs.declared.stage.RecoveryStage.{RecoveryStage}

-- the requests behind the log
pub requests_there : (n : ℕ) (s : RecoveryState) (entries : List Entry) (requests : List Request) → s.phase ≡ Asking (Some entries) None
    → requests_come n s s.order.witness requests s.phase ≡ both_there n s.order (Some entries) (Some requests)
requests_there n s entries requests asks = ap (requests_come n s s.order.witness requests) asks ∙ rw (same_node-self s.order.witness) refl

-- the log
pub log_there : (n : ℕ) (s : RecoveryState) (entries : List Entry) (requests : Option (List Request)) → s.phase ≡ Asking None requests → is_log s.order.lo s.order.hi entries ≡ true
    → log_comes n s s.order.backup entries s.phase ≡ both_there n s.order (Some entries) requests
log_there n s entries requests asks log = ap (log_comes n s s.order.backup entries) asks ∙ rw (same_node-self s.order.backup, log) refl

-- the stage that was made, and what is sent, are those of the move
pub makes_both : (n number : ℕ) (s : RecoveryState) (order : Recover) (stage : RecoveryStage) (done : Done) (log : Option (List Entry)) (requests : Option (List Request)) (m : Moved RecoveryState) → number ≡ n → order ≡ s.order
    → record { order = order; phase = phase_of stage } ≡ (both_there number order log requests).state → done ≡ done_of (both_there number order log requests) → m ≡ both_there n s.order log requests
    → Makes (record { number = number; state = record { order = order; phase = phase_of stage } }) done (numbered_move n m)
makes_both n number s order stage done log requests m numbered ordered state sent is =
    let same : both_there number order log requests ≡ m = (λ i. both_there (numbered i) (ordered i) log requests) ∙ sym is in (
      λ i. record { number = numbered i; state = (state ∙ ap (λ (x : Moved RecoveryState). x.state) same) i },
      sent ∙ ap (λ (x : Moved RecoveryState). done_of x) same,
    )
