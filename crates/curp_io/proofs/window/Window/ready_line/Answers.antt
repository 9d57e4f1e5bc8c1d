use Rattle.curp_io.proofs.Buffer.{feed_within, feed_finds, no_feed_place}
use Rattle.curp_io.proofs.window.Window.ready_line.Goals as goal

pub returns-clause-within : goal.returns-clause-within
returns-clause-within c = feed_within c.line_feed.result c.args.self.now.ahead c.line_feed.ensures.place c.line_feed.ensures.room

pub returns-clause-bytes : goal.returns-clause-bytes
returns-clause-bytes c = λ left. feed_finds c.line_feed.result c.args.self.now.ahead left c.line_feed.ensures.place

pub returns-clause-no_feed : goal.returns-clause-no_feed
returns-clause-no_feed c = no_feed_place c.line_feed.result c.args.self.now.ahead c.line_feed.ensures.place
