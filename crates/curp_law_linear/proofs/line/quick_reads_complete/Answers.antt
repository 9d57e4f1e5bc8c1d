use Rattle.curp_law_linear.proofs.QuickBegins.{flag_fits}
use Rattle.curp_law_linear.proofs.QuickRuns.{adopted_read, late_read}
use Rattle.curp_law_linear.proofs.line.quick_reads_complete.Goals as goal

pub returns : goal.returns
returns c = record {
  adopted = λ s o fits logs ok ms all. adopted_read s o fits logs ok ms all;
  late = λ s o fits logs ok first all l part number inv late within later next rest. late_read s o fits logs ok first all l part number inv late within later next rest;
  fits = λ s by part id a q only waits. flag_fits s by part id a q only waits;
}
