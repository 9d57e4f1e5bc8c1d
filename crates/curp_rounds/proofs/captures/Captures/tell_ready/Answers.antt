use Rattle.std.proofs.Common.{◌≡◌, ◌++◌, ◌∙◌, List, map, take, OnOk, ap, sym, subst}
use Rattle.std.specs.List.{filter}
use Rattle.std.proofs.lemmas.List.Elements.{filter_agree}
use Rattle.curp_model.specs.Master.{Captured, all_have}
use Rattle.curp_msg.specs.declared.message.Message.{Message}
use Rattle.curp_rounds.specs.Backups.{is_within}
use Rattle.curp_rounds.specs.Captures.{Captures, value_at}
use Rattle.curp_rounds.proofs.captures.Captures.tell_ready.Goals as goal

pub returns : goal.returns
returns c =
    let first : take c.count_ready-ready.result c.self.inside.waiting.items ≡ filter (λ (x : Captured). all_have c.args.heard.now c.args.backups.now x.length x.round) c.args.self.now.waiting =
    ap (λ (s : Captures). take c.count_ready-ready.result s.waiting) c.self.view_is
    ∙ c.count_ready-ready.ensures.ready
    ∙ filter_agree (λ (x : Captured). is_within c.reach_of_all.result x.length x.round) (λ (x : Captured). all_have c.args.heard.now c.args.backups.now x.length x.round)
    (λ x. sym (c.reach_of_all.ensures x.length x.round)) c.args.self.now.waiting
    in
    subst (λ (sent : List Message). OnOk c.tell_prefix.result (c.tell_prefix.new.sent.items ≡ sent))
    (ap (λ (ready : List Captured). c.args.sent.now.items ++ map (value_at c.args.number c.args.epoch) ready) first)
    c.tell_prefix.ensures
