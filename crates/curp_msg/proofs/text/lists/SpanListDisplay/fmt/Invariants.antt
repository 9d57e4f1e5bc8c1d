use Rattle.std.proofs.Common.{take, codes, ◌++◌}
use Rattle.std.specs.List.{flat_map}
use Rattle.std.specs.Fmt.{HasWritten, IsPlainFormatter}
use Rattle.curp_msg.specs.Text.{span_text}
use Rattle.curp_msg.proofs.text.lists.SpanListDisplay.fmt.Given as goal

-- of the spans behind the first one those so far are written
abbrev pub invariant-loop-span : goal.invariant-loop-span
invariant-loop-span g l =
    IsPlainFormatter l.initial.f → HasWritten g.W.Write.write_str_gives l.initial.f (flat_map (λ span. codes "+" ++ span_text span) (take l.span-index l.others)) l.f
