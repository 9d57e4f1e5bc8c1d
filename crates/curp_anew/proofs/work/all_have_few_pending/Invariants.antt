use Rattle.std.proofs.Common.{◌↔◌, drop}
use Rattle.curp_base.specs.Words.{Each}
use Rattle.curp_anew.specs.Work.{FewPending}
use Rattle.curp_anew.proofs.work.all_have_few_pending.Given as goal

-- all have just where those that are left have
abbrev pub invariant-loop-client : goal.invariant-loop-client
invariant-loop-client l = Each (λ log. FewPending log.items) (drop l.client-index l.clients) ↔ Each (λ log. FewPending log.items) l.clients
