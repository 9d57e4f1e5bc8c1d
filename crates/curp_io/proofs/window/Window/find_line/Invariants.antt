-- No line feed was found so far, and no byte was lost.
use Rattle.std.proofs.Common.{length, take, ◌-◌, ◌≡◌, ◌≤◌, ◌++◌, [], true}
use Rattle.curp_io.specs.Streams.{SameCount}
use Rattle.curp_io.specs.Text.{line_of}
use Rattle.curp_io.proofs.window.Window.find_line.Given as goal

abbrev pub invariant-fill : goal.invariant-fill
invariant-fill g l = record {
  within : l.searched ≤ length l.self.ahead;
  none_before : line_of (take l.searched l.self.ahead) ≡ take l.searched l.self.ahead;
  bytes : g.S.Source.tells l.fn.source ≡ true → l.self.ahead ++ g.S.Source.left l.source ≡ l.fn.self.ahead ++ g.S.Source.left l.fn.source;
  line : l.fn.self.line ≡ [] → l.self.line ≡ [];
  tells : g.S.Source.tells l.fn.source ≡ true → g.S.Source.tells l.source ≡ true;
  same_count : SameCount (g.S.Source.faults l.fn.source) (g.S.Source.faults l.source);
}

abbrev pub decreases-fill : goal.decreases-fill
decreases-fill g l = 65537 - length l.self.ahead
