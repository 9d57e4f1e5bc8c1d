use Rattle.std.proofs.Common.{sym, ◌∙◌}
use Rattle.curp_io.proofs.Buffer.{finds_feed, too_long, finds_last}
use Rattle.curp_io.proofs.window.Window.find_line.Goals as goal

pub returns-in-Some-clause-bytes : goal.returns-in-Some-clause-bytes
returns-in-Some-clause-bytes g c = λ told. finds_feed _ _ _ _ c.in-Some.ensures.place (c.fill.invariant.bytes told)

pub returns-then-searched-eq-ROOM-clause-bytes : goal.returns-then-searched-eq-ROOM-clause-bytes
returns-then-searched-eq-ROOM-clause-bytes g c = λ told.
    let all = c.fill.invariant.bytes told in
    (too_long c.fill.self.ahead (g.S.Source.left c.fill.source) _ c.in_default.ensures.place (sym c.len-searched.ensures.len ∙ c.if-searched-eq-ROOM.true) all, all)

pub returns-in-Bytes-eq0-2-clause-bytes : goal.returns-in-Bytes-eq0-2-clause-bytes
returns-in-Bytes-eq0-2-clause-bytes g c = λ told.
    let tells = c.fill.invariant.tells told in
    let adds = rw c.in-Bytes-eq0.field-0-test at c.in-Bytes-eq0.ensures.adds in
    finds_last c.fill.self.ahead c.fill-in-fill.new.self.ahead (g.S.Source.left c.fill-in-fill.new.source) _ c.len-searched.result adds c.in_default.ensures.place c.len-searched.ensures.len c.if-searched-eq0.false (c.in-Bytes-eq0.ensures.end tells (cc c.in-Bytes-eq0.field-0-test)) (c.in-Bytes-eq0.ensures.bytes tells ∙ c.fill.invariant.bytes told)
