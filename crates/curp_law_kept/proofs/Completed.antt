-- The first numbers of a log's table, of clients that have completed all below them.
use Rattle.std.proofs.Common.{◌≡◌, ℕ, List}
use Rattle.curp_base.specs.Words.{Each}
use Rattle.curp_base.proofs.Lists.{Each-weaker}
use Rattle.curp_cmd.specs.declared.command.RequestId.{RequestId}
use Rattle.curp_cmd.specs.declared.entry.Entry.{Entry}
use Rattle.curp_cmd.specs.declared.entry.Entry.TheVariants.{Op, Take, Give, Expire}
use Rattle.curp_model.specs.declared.Check.TheVariants.{Stale}
use Rattle.curp_model.specs.Log.{meaning}
use Rattle.curp_model.specs.Table.{check}
use Rattle.curp_model.specs.World.{World}
use Rattle.curp_facts.specs.Entries.{EntryOk, LogOk}
use Rattle.curp_facts.specs.Kept.{AllCompletedBelow, HasCompletedBelow}
use Rattle.curp_law_kept.proofs.Firsts.{EntryLines, lines_of_log, stale_line}

-- each first number in the table of a log is one below which its client has completed all
pub log_firsts : (w : World) (part lo hi : ℕ) (log : List Entry) → LogOk w part log → Each (AllCompletedBelow w) (meaning lo hi log).table.firsts
log_firsts w part lo hi log ok = lines_of_log (HasCompletedBelow w) lo hi log (Each-weaker (EntryOk w part) (EntryLines (HasCompletedBelow w)) lines log ok.entries)
  where
    lines : (e : Entry) → EntryOk w part e → EntryLines (HasCompletedBelow w) e
    lines (Op r acknowledged) is = is.2
    lines (Take migration taken) is = tt
    lines (Give migration given) is = is.1
    lines (Expire client) is = tt

-- and so is the number by which a request is stale
pub stale_completed : (w : World) (part lo hi : ℕ) (log : List Entry) → LogOk w part log → (id : RequestId) (first : ℕ) → check (meaning lo hi log).table id ≡ Stale first → HasCompletedBelow w id.client first
stale_completed w part lo hi log ok id first is = stale_line (HasCompletedBelow w) (meaning lo hi log).table id first (log_firsts w part lo hi log ok) is
