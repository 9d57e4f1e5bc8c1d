use Rattle.std.proofs.Common.{map, ap, sym, ◌∙◌}
use Rattle.curp_law_served.specs.Served.{Served, header_of}
use Rattle.curp_model.specs.World.{World, world}
use Rattle.curp_resp.specs.Meaning.{meaning}
use Rattle.curp_session.specs.Session.{commands_in}
use Rattle.curp_session.proofs.OneThread.{Serves, session_goes_on, session_shows}
use Rattle.curp_session.proofs.laws.sessions_are_of_one_thread.Goals as goal

serves : (c : goal.After-served) → Serves
serves c = record {
  pushes = c.served.ensures.pushes;
  completes = c.served.ensures.completes;
  answers = c.served.ensures.answers;
  steps = c.served.ensures.steps;
  history = c.served.ensures.history;
  keeps = c.served.ensures.keeps;
  shows = c.served.ensures.shows;
}

pub returns-clause-prefix : goal.returns-clause-prefix
returns-clause-prefix c = λ plan requests fits. (session_goes_on plan requests fits (serves c)).prefix

pub returns-clause-to_the_end : goal.returns-clause-to_the_end
returns-clause-to_the_end c = λ plan requests fits free. (session_goes_on plan requests fits (serves c)).all free

pub returns-clause-shows : goal.returns-clause-shows
returns-clause-shows c = λ plan requests fits. session_shows plan requests fits (serves c)

pub returns-clause-completes : goal.returns-clause-completes
returns-clause-completes c = λ plan requests fits free.
    let all = (session_goes_on plan requests fits (serves c)).served free in
    let commands = commands_in (map meaning requests) in
    let still = ap (λ (s : Served). s.stopped) (sym all.is) ∙ all.free in
    ap (λ (s : Served). (world (header_of plan.f) s.steps).history) all.is
    ∙ ap (λ (w : World). w.history) (c.served.ensures.steps plan.f plan.every commands all.are).1
    ∙ c.served.ensures.history plan.f plan.every commands all.are still
