-- Last stops of what is handed out.
use Rattle.std.proofs.Common.{◌*◌, sym, subst}
use Rattle.curp_base.specs.Words.{Each}
use Rattle.curp_msg.specs.declared.script.Header.{Header}
use Rattle.curp_gather.specs.declared.journals.Journals.{Journals}
use Rattle.curp_words.specs.declared.task.LivePlan.{LivePlan}
use Rattle.curp_anew.proofs.Handed.{each_handed}
use Rattle.curp_live.specs.Live.{AllEndAsPlanned, EndsAsPlanned}
use Rattle.curp_live.specs.Taken.{AreHandedOut}

-- those that are handed out end as planned where those that were taken do
pub ends_handed : (plan : LivePlan) (h : Header) (taken journals : Journals) → AreHandedOut h taken journals → AllEndAsPlanned plan taken → AllEndAsPlanned plan journals
ends_handed plan h taken journals are ends = record {
  clients = subst (λ logs. Each (EndsAsPlanned plan) logs) (sym are.clients) ends.clients;
  masters = subst (λ logs. Each (EndsAsPlanned plan) logs) (sym are.masters) (each_handed (EndsAsPlanned plan) h.parts taken.masters.items ends.masters);
  backups = subst (λ logs. Each (EndsAsPlanned plan) logs) (sym are.backups) (each_handed (EndsAsPlanned plan) (h.parts * h.f) taken.backups.items ends.backups);
  witnesses = subst (λ logs. Each (EndsAsPlanned plan) logs) (sym are.witnesses) (each_handed (EndsAsPlanned plan) (h.parts * h.f) taken.witnesses.items ends.witnesses);
}
