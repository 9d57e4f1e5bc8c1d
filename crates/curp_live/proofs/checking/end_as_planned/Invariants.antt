use Rattle.std.proofs.Common.{◌↔◌, drop}
use Rattle.curp_base.specs.Words.{Each}
use Rattle.curp_live.specs.Live.{EndsAsPlanned}
use Rattle.curp_live.proofs.checking.end_as_planned.Given as goal

-- all end as planned just where those that are left do
abbrev pub invariant-loop-kept : goal.invariant-loop-kept
invariant-loop-kept g l = Each (EndsAsPlanned l.plan) (drop l.kept-index l.kepts) ↔ Each (EndsAsPlanned l.plan) l.kepts
