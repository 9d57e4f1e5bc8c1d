use Rattle.std.proofs.Common.{◌≡◌, ◌++◌, map, take}
use Rattle.curp_base.specs.Words.{Each}
use Rattle.curp_gather.specs.Journals.{journal_of}
use Rattle.curp_gather.specs.Replays.{IsMadeAnew}
use Rattle.curp_gather.proofs.strands.add_strands.Given as goal

-- so many are added
abbrev pub invariant-loop-kept : goal.invariant-loop-kept
invariant-loop-kept g l = record {
  strands : l.strands.items ≡ l.fn.strands.items ++ map journal_of (take l.kept-index l.kepts);
  replayed : Each (IsMadeAnew g.N.Core.machine) (take l.kept-index l.kepts);
}
