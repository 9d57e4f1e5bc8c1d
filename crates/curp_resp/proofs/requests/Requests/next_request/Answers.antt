use Rattle.std.proofs.Common.{◌≡◌, true, ◌++◌, sym, subst}
use Rattle.curp_resp.specs.Input.{StandsFirst}
use Rattle.curp_resp.specs.Next.{IsNextRequest}
use Rattle.curp_resp.proofs.Exactly.{asked_due, bad_due, bad_where}
use Rattle.curp_resp.proofs.requests.Requests.next_request.Given as given
use Rattle.curp_resp.proofs.requests.Requests.next_request.Goals as goal
use Rattle.curp_resp.proofs.requests.Requests.next_request.Goals.{After-find_request-answer}

-- what was found, of the bytes as contracts see them
found : (g : given.Over) (c : After-find_request-answer g) → g.S.Source.tells c.args.source.now ≡ true
    → IsNextRequest (c.args.self.now.ahead ++ g.S.Source.left c.args.source.now) c.args.self.now.passed c.find_request-answer.result
    (c.find_request-answer.new.window.bytes ++ g.S.Source.left c.find_request-answer.new.source) c.find_request-answer.new.window.passed
found g c told =
    subst (λ p. IsNextRequest (p.ahead ++ g.S.Source.left c.args.source.now) p.passed c.find_request-answer.result
    (c.find_request-answer.new.window.bytes ++ g.S.Source.left c.find_request-answer.new.source) c.find_request-answer.new.window.passed)
    c.self.view_is (c.find_request-answer.ensures.bytes told)

pub returns-clause-asked : goal.returns-clause-asked
returns-clause-asked g c = λ told none sure.
    asked_due (c.args.self.now.ahead ++ g.S.Source.left c.args.source.now) c.args.self.now.passed c.find_request-answer.result
    (c.find_request-answer.new.window.bytes ++ g.S.Source.left c.find_request-answer.new.source) c.find_request-answer.new.window.passed
    (found g (goal.at.returns-clause-asked g c).After-find_request-answer told) sure

pub returns-clause-bad_request : goal.returns-clause-bad_request
returns-clause-bad_request g c = λ told none sure at.
    let is = found g (goal.at.returns-clause-bad_request g c).After-find_request-answer told in (
      bad_where (c.args.self.now.ahead ++ g.S.Source.left c.args.source.now) c.args.self.now.passed c.find_request-answer.result
          (c.find_request-answer.new.window.bytes ++ g.S.Source.left c.find_request-answer.new.source) c.find_request-answer.new.window.passed at is,
      bad_due (c.args.self.now.ahead ++ g.S.Source.left c.args.source.now) c.args.self.now.passed c.find_request-answer.result
          (c.find_request-answer.new.window.bytes ++ g.S.Source.left c.find_request-answer.new.source) c.find_request-answer.new.window.passed at is sure,
    )

pub returns-clause-waits : goal.returns-clause-waits
returns-clause-waits g c = λ arguments rest stands.
    c.find_request-answer.ensures.waits arguments rest (subst (λ p. StandsFirst p.ahead arguments rest) (sym c.self.view_is) stands)

pub returns-clause-ready : goal.returns-clause-ready
returns-clause-ready g c = λ arguments rest first going.
    c.find_request-answer.ensures.ready arguments rest (subst (λ p. StandsFirst p.ahead arguments rest) (sym c.self.view_is) first)
