use Rattle.std.proofs.Common.{◌≡◌, map, ℕ, Vec, Global}
use Rattle.curp_base.specs.Words.{numbers_from}
use Rattle.curp_cmd.specs.declared.command.Command.{Command}
use Rattle.curp_gen.specs.Commands.{workload_of}
use Rattle.curp_run.proofs.live.steps.work_of.Given as goal

-- the work of so many clients
abbrev pub invariant-loop-before : goal.invariant-loop-before
invariant-loop-before l =
    map (λ (list : Vec Command Global). list.items) l.work.items
    ≡ map (λ (n : ℕ). workload_of l.plan.number n l.plan.commands) (numbers_from 1 l.before)
