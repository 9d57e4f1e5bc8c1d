use Rattle.curp_law_linear.proofs.QuickBegins.{late_at_end, late_by_number, late_place}
use Rattle.curp_law_linear.proofs.line.adoptions_have_marks.Goals as goal

pub returns : goal.returns
returns c = record {
  there = λ s ok part number one last. record { at = late_place s ok part number one last; same = λ q. late_by_number s ok part number q (late_place s ok part number one last) };
  next = λ s ok part number past q. late_at_end s ok part number q past;
}
