use Rattle.curp_law_linear.proofs.Discharged.{pure, second}
use Rattle.curp_law_linear.proofs.QuickBegins.{late_is_low, late_reads_whole, quick_early, quick_low}
use Rattle.curp_law_linear.proofs.QuickLaws.{early_stays, low_stays, quick_stays}
use Rattle.curp_law_linear.proofs.line.quick_marks_give.Goals as goal

pub returns : goal.returns
returns c = record {
  begins = λ s o fits logs ok. record { early = quick_early pure second s o fits logs ok; low = λ long quiet. quick_low pure second s o fits logs ok long quiet };
  late = λ s o fits within ok. record { gives = late_reads_whole pure s o fits ok within; low = late_is_low pure s o fits ok };
  lasts = λ s m fits logs ok. record { gives = λ by part id a g. quick_stays pure second s m fits logs ok by part id a g; early = λ by part id a g. early_stays pure second s m fits logs ok by part id a g };
  low = λ s m fits logs ok by part long id g. low_stays pure second s m fits logs ok by part long id g;
}
