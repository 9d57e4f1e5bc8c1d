use Rattle.std.proofs.Common.{◌≡◌, ◌∙◌, ◌++◌, ℕ, List, nat_lt, flat_map, map, ap}
use Rattle.std.specs.List.{filter}
use Rattle.curp_cmd.specs.declared.entry.Entry.{Entry}
use Rattle.curp_model.specs.Master.{Captured, MasterState, all_have, between, moved_entry, synced_replies}
use Rattle.curp_msg.specs.Moved.{Node}
use Rattle.curp_rounds.specs.Captures.{value_at}
use Rattle.curp_master.specs.Settling.{listing}
use Rattle.curp_master.proofs.Settled.{said}
use Rattle.curp_master.proofs.master.Master.settled.Goals as goal

pub returns : goal.returns
returns c =
    let m : MasterState = c.args.self.now.state in
    let synced = c.least_length-synced.result in
    let due : c.below.result.now ≡ filter (λ index. nat_lt index synced) m.held =
    c.below.ensures ∙ ap (λ (node : Node MasterState). filter (λ index. nat_lt index synced) node.state.held) c.self.view_is
    in
    let values =
    c.in_ok-tell_ready.ensures
    ∙ ap (λ (node : Node MasterState). c.in_ok-sent.sent.items ++ map (value_at node.number node.state.epoch) (filter (λ (x : Captured). all_have c.args.heard.now c.args.backups.now x.length x.round) node.state.captures)) c.self.view_is
    in
    let entries = c.deref.ensures.value ∙ c.in_ok-moved.ensures ∙ ap (between c.self.inside.settled synced) c.log.ensures.entries in
    let moved =
    c.in_ok-tell_moved.ensures
    ∙ ap (λ (es : List Entry). c.tell_ready.new.sent.items ++ flat_map (moved_entry c.self.inside.number) es) entries
    ∙ ap (λ (node : Node MasterState). c.tell_ready.new.sent.items ++ flat_map (moved_entry node.number) (between node.state.settled synced node.state.log)) c.self.view_is
    in
    said c.args.self.now.number (listing m c.args.heard.now c.args.backups.now c.args.version) synced
    c.in_ok-sent.sent.items c.tell_ready.new.sent.items c.tell_moved.new.sent.items
    c.least_length-synced.ensures
    (c.in_ok-sent.ensures ∙ ap (λ (xs : List ℕ). synced_replies c.args.self.now.number (record m { version = c.args.version }) xs) due)
    values moved
