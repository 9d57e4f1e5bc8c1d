use Rattle.std.proofs.Common.{◌≡◌, ◌∙◌, ◌++◌, List, ℕ, Some, ap, sym, subst}
use Rattle.curp_io.specs.Streams.{HoldsPart, Rose}
use Rattle.curp_io.specs.Text.{lines_of}
use Rattle.curp_runner.specs.Reading.{HoldsRead, SaidScript, due, script_by}
use Rattle.curp_runner.specs.Run.{after, line_texts_by, line_texts_in, text_by, text_due}
use Rattle.curp_runner.specs.Status.{is_cut_short, status_of}
use Rattle.curp_runner.proofs.Endings.{same_stop}
use Rattle.curp_runner.proofs.Pieces.{nothing}
use Rattle.curp_runner.proofs.Prefixes.{before_header, header_before, told_so}
use Rattle.curp_runner.proofs.Runs.{on_ok_so, refused_ends, refused_wrote, whole_by}
use Rattle.curp_runner.proofs.running.run.Goals as goal

-- ---- without a header

pub returns-in_err-header-clause-ends : goal.returns-in_err-header-clause-ends
returns-in_err-header-clause-ends g c = λ told cut.
    let bytes = g.S.Source.left c.args.source.now in
    refused_ends (script_by g.P.Line.ScriptLine.meaning (lines_of bytes)) (g.P.Player.ending bytes) c.in_err-header.field-0.0 _ (g.met.P.Player.says.ending_is bytes)
    c.from_residual-in_err-header.ensures.0 c.from_residual-in_err-header.ensures.1 (c.in_err-header.ensures.refused told) cut

pub returns-in_err-header-clause-wrote : goal.returns-in_err-header-clause-wrote
returns-in_err-header-clause-wrote g c = λ told. record {
  whole = λ writes cut.
      let bytes = g.S.Source.left c.args.source.now in
      refused_wrote g.P.Player.rules (script_by g.P.Line.ScriptLine.meaning (lines_of bytes)) (g.K.Sink.held c.args.sink.now) (g.P.Player.script_text bytes) c.in_err-header.field-0.0 _ (g.met.P.Player.says.text_is bytes)
      c.from_residual-in_err-header.ensures.0 c.from_residual-in_err-header.ensures.1 (c.in_err-header.ensures.refused told) cut;
  prefix = λ writes. nothing (g.K.Sink.held c.args.sink.now) _;
}

pub returns-in_err-header-clause-at_fault : goal.returns-in_err-header-clause-at_fault
returns-in_err-header-clause-at_fault g c = λ tells writes failed.
    let less = c.read_header.ensures.fault tells (same_stop _ _ _ _ c.in_err-header.was c.from_residual-in_err-header.ensures.1 failed) in
    told_so _ g.P.Player.line_texts _ _ _ _ g.met.P.Player.says.line_texts_are
    (before_header g.P.Line.ScriptLine.meaning g.P.Player.rules _ _ _ (g.K.Sink.held c.args.sink.now) less.all less.less)

-- ---- behind a header

pub returns-clause-ends : goal.returns-clause-ends
returns-clause-ends g c = λ told cut.
    let bytes = g.S.Source.left c.args.source.now in
    c.do_lines.ensures.ends (c.read_header.ensures.tells told) cut
    ∙ ap status_of (sym (ap (λ (s : SaidScript _). s.body.ending) (c.in_ok-header.ensures.opened told)) ∙ sym (g.met.P.Player.says.ending_is bytes))

pub returns-clause-wrote : goal.returns-clause-wrote
returns-clause-wrote g c = λ told.
    let play = g.P.Player.rules in
    let bytes = g.S.Source.left c.args.source.now in
    let body = due g.P.Line.ScriptLine.meaning c.read_header.new.self (g.S.Source.left c.read_header.new.source) in
    let same : text_due play 1 c.in_ok-player.player body ≡ g.P.Player.script_text bytes =
    ap (λ w. text_due play 1 w body) c.in_ok-player.ensures.opening ∙ sym (ap (text_by play) (c.in_ok-header.ensures.opened told)) ∙ sym (g.met.P.Player.says.text_is bytes) in
    record {
      whole = λ writes cut.
          c.do_lines.ensures.wrote (c.read_header.ensures.tells told) writes cut ∙ ap (λ (t : List ℕ). g.K.Sink.held c.args.sink.now ++ t) same;
      prefix = λ writes.
          subst (λ (t : List ℕ). HoldsPart (g.K.Sink.held c.args.sink.now) (g.K.Sink.held c.do_lines.new.sink) t) same
          (c.do_lines.ensures.prefix (c.read_header.ensures.tells told) writes);
    }

pub returns-clause-at_fault : goal.returns-clause-at_fault
returns-clause-at_fault g c = λ told writes failed.
    let meaning = g.P.Line.ScriptLine.meaning in
    let play = g.P.Player.rules in
    let bytes = g.S.Source.left c.args.source.now in
    let rest = c.read_header.new.self.ahead ++ g.S.Source.left c.read_header.new.source in
    let left = g.S.Source.left c.do_lines.new.source in
    let old = g.K.Sink.held c.args.sink.now in
    let now = g.K.Sink.held c.do_lines.new.sink in
    let line = c.in_ok-header.ensures.line told in
    let read = c.do_lines.ensures.at_fault (c.read_header.ensures.tells told) writes failed in
    let opened = subst (λ w. HoldsRead (line_texts_in meaning play w) rest left old now) c.in_ok-player.ensures.opening read in
    told_so (λ taken. line_texts_by play (script_by meaning (lines_of taken))) g.P.Player.line_texts bytes left old now g.met.P.Player.says.line_texts_are
    (header_before meaning play bytes line.line rest left c.in_ok-header.header old now line.given line.is opened)

pub returns-clause-stands : goal.returns-clause-stands
returns-clause-stands g c = λ told.
    let play = g.P.Player.rules in
    let bytes = g.S.Source.left c.args.source.now in
    let header = c.in_ok-header.header in
    let body = due g.P.Line.ScriptLine.meaning c.read_header.new.self (g.S.Source.left c.read_header.new.source) in
    on_ok_so c.do_lines.result (c.do_lines.ensures.holds (c.read_header.ensures.tells told)) (λ ok holds.
    let whole = whole_by body.ending (sym ok ∙ c.do_lines.ensures.ends (c.read_header.ensures.tells told) (ap is_cut_short ok)) in
    g.met.P.Player.says.stands_by bytes header body.lines
    (c.in_ok-header.ensures.opened told ∙ ap (λ e. record { header = Some header; body = record { lines = body.lines; ending = e } }) whole)
    (subst (λ w. g.P.Player.Holds (after play w body.lines)) c.in_ok-player.ensures.opening holds))

pub returns-clause-read_fault : goal.returns-clause-read_fault
returns-clause-read_fault g c =
    let none = c.read_header.ensures.read_fault.stands (λ e. absurd (cc (c.in_ok-header.was, e))) in
    record {
      rose = λ is. subst (λ (n : ℕ). Rose n (g.S.Source.faults c.do_lines.new.source)) none (c.do_lines.ensures.read_fault.rose is);
      stands = λ other. c.do_lines.ensures.read_fault.stands other ∙ none;
    }
