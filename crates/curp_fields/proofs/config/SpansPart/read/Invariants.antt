use Rattle.std.proofs.Common.{◌≡◌, ◌-◌}
use Rattle.curp_base.specs.Words.{last_of}
use Rattle.curp_items.specs.Format.{read_more}
use Rattle.curp_range.specs.Spans.{SpansAscend}
use Rattle.curp_fields.specs.Fields.{IsLeast, least_after, span_from, spans}
use Rattle.curp_fields.proofs.config.SpansPart.read.Given as goal

-- what is left gives what reading all gives, and the spans so far ascend to the last one
abbrev pub invariant-loop : goal.invariant-loop
invariant-loop l = record {
  read : read_more (λ before. span_from (least_after (last_of before))) l.ranges.spans (l.count - l.counter) l.reader ≡ spans.read l.fn.reader;
  least : IsLeast l.least (least_after (last_of l.ranges.spans));
  ascend : SpansAscend l.ranges.spans;
}
