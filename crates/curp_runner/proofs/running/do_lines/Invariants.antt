use Rattle.std.proofs.Common.{◌≡◌, ◌≤◌, ◌+◌, ◌-◌, ◌++◌, true}
use Rattle.curp_io.specs.Streams.{SameCount}
use Rattle.curp_msg.specs.Limits.{step_limit}
use Rattle.curp_runner.specs.Reading.{IsBehind, due}
use Rattle.curp_runner.specs.Run.{after, text_due}
use Rattle.curp_runner.proofs.Prefixes.{Told}
use Rattle.curp_runner.proofs.SoFar.{SoFar}
use Rattle.curp_runner.proofs.running.do_lines.Given as goal

-- what was read, done and written so far, and what is due of the script
abbrev pub invariant-lines : goal.invariant-lines
invariant-lines g l =
    let meaning = g.P.Line.ScriptLine.meaning in
    let rules = g.P.Player.rules in
    let all = due meaning l.fn.script (g.S.Source.left l.fn.source) in
    let rest = due meaning l.script (g.S.Source.left l.source) in
    record {
      counted : (1 ≤ l.number) × (l.number ≤ step_limit + 1);
      behind : IsBehind l.script l.number;
      fits : g.P.Player.Fits l.number l.player;
      source_tells : g.S.Source.tells l.fn.source ≡ true → g.S.Source.tells l.source ≡ true;
      sink_tells : g.K.Sink.tells l.fn.sink ≡ true → g.K.Sink.tells l.sink ≡ true;
      source_faults : SameCount (g.S.Source.faults l.fn.source) (g.S.Source.faults l.source);
      sink_faults : SameCount (g.K.Sink.faults l.fn.sink) (g.K.Sink.faults l.sink);
      ending : g.S.Source.tells l.fn.source ≡ true → rest.ending ≡ all.ending;
      leads : g.S.Source.tells l.fn.source ≡ true → after rules l.player rest.lines ≡ after rules l.fn.player all.lines;
      written : g.S.Source.tells l.fn.source ≡ true → g.K.Sink.tells l.fn.sink ≡ true
          → SoFar (text_due rules 1 l.fn.player all) (g.K.Sink.held l.fn.sink) (g.K.Sink.held l.sink)
          (text_due rules l.number l.player rest);
      told : g.S.Source.tells l.fn.source ≡ true → g.K.Sink.tells l.fn.sink ≡ true
          → Told meaning rules (l.fn.script.ahead ++ g.S.Source.left l.fn.source) (l.script.ahead ++ g.S.Source.left l.source) l.number
          l.fn.player l.player (g.K.Sink.held l.fn.sink) (g.K.Sink.held l.sink);
    }

abbrev pub decreases-lines : goal.decreases-lines
decreases-lines g l = step_limit + 2 - l.number
