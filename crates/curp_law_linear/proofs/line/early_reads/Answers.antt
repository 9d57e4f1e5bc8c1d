use Rattle.curp_law_linear.proofs.Discharged.{pure, second}
use Rattle.curp_law_linear.proofs.QuickBegins.{cut_early_begins, late_early_whole}
use Rattle.curp_law_linear.proofs.QuickLaws.{cut_early_stays}
use Rattle.curp_law_linear.proofs.line.early_reads.Goals as goal

pub returns : goal.returns
returns c = record {
  begins = λ s o id command. cut_early_begins s o id command;
  lasts = λ s m fits logs ok part number id command inv c. cut_early_stays pure second s m fits logs ok part number id command inv c;
  late = λ s o fits within ok c. late_early_whole pure s o fits ok within c;
}
