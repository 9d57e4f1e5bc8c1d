use Rattle.std.proofs.Common.{◌≡◌, ◌≤◌, ◌+◌, ◌-◌, ◌++◌, List, ℕ, None, true, false}
use Rattle.curp_io.specs.Streams.{SameCount}
use Rattle.curp_resp.specs.Input.{Decomposes}
use Rattle.curp_session.specs.Answering.{HasAnswered, IsSession, aim_of}
use Rattle.curp_session.specs.Session.{most_requests}
use Rattle.curp_session.proofs.session.answer_begun.Given as goal

-- where the session stands, whatever requests the input is
abbrev pub invariant-answers : goal.invariant-answers
invariant-answers g l = record {
  few : l.count ≤ most_requests;
  going : l.served.is_spent ≡ false;
  reading : l.requests.failed ≡ None;
  f : l.served.f ≡ l.fn.plan.f;
  every : l.served.every ≡ l.fn.plan.every;
  source_tells : g.S.Source.tells l.fn.source ≡ true → g.S.Source.tells l.source ≡ true;
  source_faults : SameCount (g.S.Source.faults l.fn.source) (g.S.Source.faults l.source);
  sink_tells : g.K.Sink.tells l.fn.sink ≡ true → g.K.Sink.tells l.sink ≡ true;
  sink_faults : SameCount (g.K.Sink.faults l.fn.sink) (g.K.Sink.faults l.sink);
  stands : (requests : List (List (List ℕ))) (rest : List ℕ) → g.S.Source.tells l.fn.source ≡ true
      → Decomposes requests (g.S.Source.left l.fn.source) rest
      → IsSession (aim_of l.fn.plan requests rest (g.S.Source.left l.fn.source) (g.K.Sink.held l.fn.sink)) (g.K.Sink.tells l.fn.sink)
      (g.K.Sink.held l.sink) l.served.state l.count (l.requests.ahead ++ g.S.Source.left l.source) l.requests.passed;
  answered : g.S.Source.tells l.fn.source ≡ true → g.K.Sink.tells l.fn.sink ≡ true
      → HasAnswered l.fn.plan (g.S.Source.left l.fn.source) (g.K.Sink.held l.fn.sink) (g.K.Sink.held l.sink) l.served.state l.count
      (l.requests.ahead ++ g.S.Source.left l.source);
}

abbrev pub decreases-answers : goal.decreases-answers
decreases-answers g l = most_requests + 1 - l.count
