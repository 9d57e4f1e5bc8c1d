use Rattle.std.proofs.Common.{rules, ◌≡◌, ◌≤◌, ◌+◌, ◌∙◌, ◌++◌, [], List, ℕ, OnOk, Ok, refl, ap, sym, subst, append-nil, append_assoc, arith}
use Rattle.curp_msg.specs.Limits.{step_limit}
use Rattle.curp_runner.specs.Reading.{Said, due}
use Rattle.curp_runner.specs.Run.{after, text_due}
use Rattle.curp_runner.specs.Status.{status_of}
use Rattle.curp_runner.proofs.Endings.{written_whole}
use Rattle.curp_runner.proofs.Prefixes.{told_more, told_nothing, told_so_far}
use Rattle.curp_runner.proofs.Pieces.{goes_further, still_prefix, written_so_far}
use Rattle.curp_runner.proofs.Runs.{after_stays, always, ended_well, ending_stays, next_text, none_left}
use Rattle.curp_runner.proofs.SoFar.{SoFar}
use Rattle.curp_runner.proofs.running.do_lines.Goals as goal

pub lines-init : goal.lines-init
lines-init g c = record {
  counted = search rules;
  behind = c.requires.behind;
  fits = c.requires.fits;
  source_tells = λ told. told;
  sink_tells = λ told. told;
  source_faults = search rules;
  sink_faults = search rules;
  ending = λ told. refl;
  leads = λ told. refl;
  written = λ told writes. record { done = []; is = sym (append-nil (g.K.Sink.held c.args.sink.now)); goes_on = refl };
  told = λ told writes.
      told_nothing g.P.Line.ScriptLine.meaning g.P.Player.rules (c.args.script.now.ahead ++ g.S.Source.left c.args.source.now) c.args.player (g.K.Sink.held c.args.sink.now);
}

pub lines-preserved : goal.lines-preserved
lines-preserved g c =
    let meaning = g.P.Line.ScriptLine.meaning in
    let play = g.P.Player.rules in
    let body = due meaning c.lines.script (g.S.Source.left c.lines.source) in
    let rest = due meaning c.read_line.new.self (g.S.Source.left c.read_line.new.source) in
    let l = c.in-Some.line in
    let few : c.lines.number ≤ step_limit = rw c.in-Some.is at c.in_ok-line.ensures.counted in
    record {
      counted = (omega arith, omega (arith, few));
      behind = rw c.in-Some.is at c.in_ok-line.ensures.goes_on;
      fits = c.in_ok-player.ensures.fits;
      source_tells = λ told. c.read_line.ensures.source_tells (c.lines.invariant.source_tells told);
      sink_tells = λ told. c.do_line.ensures.puts.tells (c.read_line.ensures.sink_tells (c.lines.invariant.sink_tells told));
      source_faults = search rules;
      sink_faults = search rules;
      ending = λ told.
          ending_stays body rest l (rw c.in-Some.is at c.in_ok-line.ensures.due (c.lines.invariant.source_tells told))
          ∙ c.lines.invariant.ending told;
      leads = λ told.
          after_stays play c.lines.player c.in_ok-player.player l body rest
          (rw c.in-Some.is at c.in_ok-line.ensures.due (c.lines.invariant.source_tells told)) c.in_ok-player.ensures.next
          ∙ c.lines.invariant.leads told;
      written = λ told writes.
          let text = text_due play 1 c.args.player (due meaning c.args.script.now (g.S.Source.left c.args.source.now)) in
          let old = g.K.Sink.held c.args.sink.now in
          let now = g.K.Sink.held c.read_line.new.sink in
          let new = g.K.Sink.held c.do_line.new.sink in
          let so_far = written_so_far text old _ now _ (c.read_line.ensures.held (c.lines.invariant.sink_tells writes)) (c.lines.invariant.written told writes) in
          let piece = play.text c.lines.number c.lines.player l in
          let left = text_due play (c.lines.number + 1) c.in_ok-player.player rest in
          let given = rw c.in-Some.is at c.in_ok-line.ensures.due (c.lines.invariant.source_tells told) in
          let next = next_text play c.lines.number c.lines.player c.in_ok-player.player l body rest given c.in_ok-player.ensures.next in
          let due_text = subst (λ d. SoFar text old now d) next so_far in
          goes_further text old now new piece left due_text (c.in_ok-player.ensures.puts.whole (c.read_line.ensures.sink_tells (c.lines.invariant.sink_tells writes)));
      told = λ told writes.
          let line = rw c.in-Some.is at c.in_ok-line.ensures.line (c.lines.invariant.source_tells told) in
          told_more meaning play _ _ _ line.line c.lines.number c.args.player c.lines.player c.in_ok-player.player _ _ _ l
          (told_so_far meaning play _ _ _ _ _ _ _ _ (c.read_line.ensures.held (c.lines.invariant.sink_tells writes)) (c.lines.invariant.told told writes)) line.given line.is few
          c.in_ok-player.ensures.next (c.in_ok-player.ensures.puts.whole (c.read_line.ensures.sink_tells (c.lines.invariant.sink_tells writes)));
    }

pub returns-in_err-player-clause-prefix : goal.returns-in_err-player-clause-prefix
returns-in_err-player-clause-prefix g c = λ told writes.
    let meaning = g.P.Line.ScriptLine.meaning in
    let play = g.P.Player.rules in
    let body = due meaning c.lines.script (g.S.Source.left c.lines.source) in
    let rest = due meaning c.read_line.new.self (g.S.Source.left c.read_line.new.source) in
    let l = c.in-Some.line in
    let w = play.next c.lines.player l in
    let text = text_due play 1 c.args.player (due meaning c.args.script.now (g.S.Source.left c.args.source.now)) in
    let old = g.K.Sink.held c.args.sink.now in
    let now = g.K.Sink.held c.read_line.new.sink in
    let so_far = written_so_far text old _ now _ (c.read_line.ensures.held (c.lines.invariant.sink_tells writes)) (c.lines.invariant.written told writes) in
    let piece = play.text c.lines.number c.lines.player l in
    let left = text_due play (c.lines.number + 1) w rest in
    let given = rw c.in-Some.is at c.in_ok-line.ensures.due (c.lines.invariant.source_tells told) in
    let next = next_text play c.lines.number c.lines.player w l body rest given refl in
    let due_text = subst (λ d. SoFar text old now d) next so_far in
    still_prefix text old now (g.K.Sink.held c.do_line.new.sink) piece left due_text (c.do_line.ensures.puts.prefix (c.read_line.ensures.sink_tells (c.lines.invariant.sink_tells writes)))

pub returns-clause-ends : goal.returns-clause-ends
returns-clause-ends g c = λ told cut.
    let none = none_left c.in_ok-line.field-0 c.in_default.not-Some in
    let given = rw none at c.in_ok-line.ensures.due (c.lines.invariant.source_tells told) in
    ended_well c.write_end.result c.write_end.ensures.puts.writing cut
    ∙ ap status_of (sym (ap (λ (b : Said _). b.ending) given) ∙ c.lines.invariant.ending told)

pub returns-clause-end : goal.returns-clause-end
returns-clause-end g c = λ told.
    let none = none_left c.in_ok-line.field-0 c.in_default.not-Some in
    always _ c.write_end.result (c.read_line.ensures.end (c.lines.invariant.source_tells told) (c.in_ok-line.was ∙ ap Ok none))

pub returns-clause-prefix : goal.returns-clause-prefix
returns-clause-prefix g c = λ told writes.
    let play = g.P.Player.rules in
    let text = text_due play 1 c.args.player (due g.P.Line.ScriptLine.meaning c.args.script.now (g.S.Source.left c.args.source.now)) in
    let old = g.K.Sink.held c.args.sink.now in
    let now = g.K.Sink.held c.read_line.new.sink in
    let so_far = written_so_far text old _ now _ (c.read_line.ensures.held (c.lines.invariant.sink_tells writes)) (c.lines.invariant.written told writes) in
    let last = play.closing c.lines.player in
    let none = none_left c.in_ok-line.field-0 c.in_default.not-Some in
    let given = rw none at c.in_ok-line.ensures.due (c.lines.invariant.source_tells told) in
    let left : SoFar text old now (last ++ []) =
    subst (λ d. SoFar text old now d) (ap (λ (b : Said _). text_due play c.lines.number c.lines.player b) given ∙ sym (append-nil last)) so_far in
    still_prefix text old now (g.K.Sink.held c.write_end.new.sink) last [] left (c.write_end.ensures.puts.prefix (c.read_line.ensures.sink_tells (c.lines.invariant.sink_tells writes)))

pub returns-clause-wrote : goal.returns-clause-wrote
returns-clause-wrote g c = λ told writes whole.
    let play = g.P.Player.rules in
    let text = text_due play 1 c.args.player (due g.P.Line.ScriptLine.meaning c.args.script.now (g.S.Source.left c.args.source.now)) in
    let old = g.K.Sink.held c.args.sink.now in
    let now = g.K.Sink.held c.read_line.new.sink in
    let so_far = written_so_far text old _ now _ (c.read_line.ensures.held (c.lines.invariant.sink_tells writes)) (c.lines.invariant.written told writes) in
    let last = play.closing c.lines.player in
    let none = none_left c.in_ok-line.field-0 c.in_default.not-Some in
    let given = rw none at c.in_ok-line.ensures.due (c.lines.invariant.source_tells told) in
    let s : SoFar text old now last =
    subst (λ d. SoFar text old now d) (ap (λ (b : Said _). text_due play c.lines.number c.lines.player b) given) so_far in
    let wrote : g.K.Sink.held c.write_end.new.sink ≡ now ++ last =
    written_whole c.write_end.result c.write_end.ensures.puts.writing whole (c.write_end.ensures.puts.whole (c.read_line.ensures.sink_tells (c.lines.invariant.sink_tells writes))) in
    wrote ∙ ap (λ (l : List ℕ). l ++ last) s.is ∙ append_assoc old s.done last ∙ ap (λ (l : List ℕ). old ++ l) s.goes_on

pub returns-clause-holds : goal.returns-clause-holds
returns-clause-holds g c = λ told.
    let play = g.P.Player.rules in
    let none = none_left c.in_ok-line.field-0 c.in_default.not-Some in
    let given = rw none at c.in_ok-line.ensures.due (c.lines.invariant.source_tells told) in
    subst (λ w. OnOk c.write_end.result (g.P.Player.Holds w))
    (sym (ap (λ (b : Said _). after play c.lines.player b.lines) given) ∙ c.lines.invariant.leads told) c.write_end.ensures.holds
