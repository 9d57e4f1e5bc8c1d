use Rattle.std.proofs.Common.{◌≡◌, ℕ, List, length, ap, sym, ◌∙◌, subst}
use Rattle.curp_io.specs.declared.source.Taken.TheVariants as taken
use Rattle.curp_resp.specs.Feeds.{Feeds, read_on}
use Rattle.curp_resp.specs.Input.{StandsFirst}
use Rattle.curp_resp.specs.declared.reading.Progress.TheVariants as progress
use Rattle.curp_resp.proofs.Inwards.{Inwards, ends_fresh, ends_inside, gives_request, inwards_filled, inwards_more, loses_prefix, lower_more, no_bytes, no_more_ahead, refuses_bytes, untouched}
use Rattle.curp_resp.proofs.Prefixes.{some_ahead}
use Rattle.curp_resp.proofs.requests.find_request.Given as given
use Rattle.curp_resp.proofs.requests.find_request.Goals as goal
use Rattle.curp_resp.proofs.requests.find_request.Goals.{After-fill}

-- where the reading stands once bytes are ahead
stands : (g : given.Over) (c : After-fill g) → Inwards (g.S.Source.tells c.args.source.now) c.args.window.now c.fill.new.self (g.S.Source.left c.args.source.now) (g.S.Source.left c.fill.new.source) c.pieces.reading
stands g c =
    inwards_filled (g.S.Source.tells c.args.source.now) c.args.window.now c.pieces.window c.fill.new.self (g.S.Source.left c.args.source.now) (g.S.Source.left c.pieces.source) (g.S.Source.left c.fill.new.source) c.pieces.reading
    c.pieces.invariant.stands c.fill.ensures.passed (λ told. c.fill.ensures.bytes (c.pieces.invariant.tells told))

-- nothing was read, where a whole request was ahead at first
waits : (g : given.Over) (c : After-fill g) (arguments : List (List ℕ)) (rest : List ℕ) → StandsFirst c.args.window.now.bytes arguments rest → c.fill.new.source ≡ c.args.source.now
waits g c arguments rest first =
    let at = c.pieces.invariant.waits arguments rest first in
    (untouched c.args.window.now c.pieces.window c.fill.new.self c.args.source.now c.pieces.source c.fill.new.source arguments rest first at.0 at.1 c.fill.ensures.same).1

pub returns-in-Failed-clause-bytes : goal.returns-in-Failed-clause-bytes
returns-in-Failed-clause-bytes g c = λ told. loses_prefix (g.S.Source.tells c.args.source.now) c.args.window.now c.fill.new.self (g.S.Source.left c.args.source.now) (g.S.Source.left c.fill.new.source) c.pieces.reading (stands g (goal.at.returns-in-Failed-clause-bytes g c).After-fill) told

pub returns-in-Failed-clause-waits : goal.returns-in-Failed-clause-waits
returns-in-Failed-clause-waits g c = waits g (goal.at.returns-in-Failed-clause-waits g c).After-fill

pub returns-in-Bytes-eq0-clause-bytes : goal.returns-in-Bytes-eq0-clause-bytes
returns-in-Bytes-eq0-clause-bytes g c = λ told.
    let none = no_bytes c.fill.new.self.bytes (c.in-Bytes-eq0.ensures.len ∙ c.in-Bytes-eq0.field-0-test) in
    let ended = c.fill.ensures.end (c.pieces.invariant.tells told) (c.in-Bytes-eq0.is ∙ ap (λ n. taken.Bytes n) c.in-Bytes-eq0.field-0-test) in
    ends_fresh (g.S.Source.tells c.args.source.now) c.args.window.now c.fill.new.self (g.S.Source.left c.args.source.now) (g.S.Source.left c.fill.new.source) c.pieces.reading (stands g (goal.at.returns-in-Bytes-eq0-clause-bytes g c).After-fill) c.requires told none ended (sym c.is_fresh.ensures ∙ c.if-is_fresh.true)

pub returns-in-Bytes-eq0-clause-waits : goal.returns-in-Bytes-eq0-clause-waits
returns-in-Bytes-eq0-clause-waits g c = waits g (goal.at.returns-in-Bytes-eq0-clause-waits g c).After-fill

pub returns-in-Bytes-eq0-2-clause-bytes : goal.returns-in-Bytes-eq0-2-clause-bytes
returns-in-Bytes-eq0-2-clause-bytes g c = λ told.
    let none = no_bytes c.fill.new.self.bytes (c.in-Bytes-eq0.ensures.len ∙ c.in-Bytes-eq0.field-0-test) in
    let ended = c.fill.ensures.end (c.pieces.invariant.tells told) (c.in-Bytes-eq0.is ∙ ap (λ n. taken.Bytes n) c.in-Bytes-eq0.field-0-test) in
    rw c.bad_request.ensures (ends_inside (g.S.Source.tells c.args.source.now) c.args.window.now c.fill.new.self (g.S.Source.left c.args.source.now) (g.S.Source.left c.fill.new.source) c.pieces.reading (stands g (goal.at.returns-in-Bytes-eq0-2-clause-bytes g c).After-fill) told none ended (sym c.is_fresh.ensures ∙ c.if-is_fresh.false))

pub returns-in-Bytes-eq0-2-clause-waits : goal.returns-in-Bytes-eq0-2-clause-waits
returns-in-Bytes-eq0-2-clause-waits g c = waits g (goal.at.returns-in-Bytes-eq0-2-clause-waits g c).After-fill

pub pieces-smaller : goal.pieces-smaller
pieces-smaller g c =
    lower_more (g.S.Source.tells c.args.source.now) c.args.window.now c.fill.new.self c.feed.new.window (g.S.Source.left c.args.source.now) (g.S.Source.left c.fill.new.source) c.pieces.reading c.feed.new.reading (stands g (goal.at.pieces-smaller g c).After-fill) c.feed.ensures.passes.0 c.feed.ensures.passes.1 (λ none. c.in-Bytes.field-0-test.1 (sym c.in-Bytes.ensures.len ∙ ap length none)) c.in-More.ensures.read

pub pieces-preserved : goal.pieces-preserved
pieces-preserved g c = record {
  stands = inwards_more (g.S.Source.tells c.args.source.now) c.args.window.now c.fill.new.self c.feed.new.window (g.S.Source.left c.args.source.now) (g.S.Source.left c.fill.new.source) c.pieces.reading c.feed.new.reading (stands g (goal.at.pieces-preserved g c).After-fill) c.feed.ensures.passes.0 c.feed.ensures.passes.1 c.in-More.ensures.read;
  waits = λ arguments rest first.
      let at = c.pieces.invariant.waits arguments rest first in
      let same = untouched c.args.window.now c.pieces.window c.fill.new.self c.args.source.now c.pieces.source c.fill.new.source arguments rest first at.0 at.1 c.fill.ensures.same in
      let fed = subst (λ r. Feeds (read_on c.fill.new.self.bytes r) progress.More c.feed.new.reading c.feed.new.window.bytes) at.2 c.in-More.ensures.read in
      absurd (no_more_ahead c.fill.new.self.bytes arguments rest c.feed.new.reading c.feed.new.window.bytes (subst (λ w. StandsFirst w.bytes arguments rest) (sym same.0) first) fed);
  tells = λ told. c.fill.ensures.tells (c.pieces.invariant.tells told);
  same_count = c.in-Bytes.ensures.read_fault.stands (λ e. absurd cc) ∙ c.pieces.invariant.same_count;
}

pub returns-in-Whole-clause-bytes : goal.returns-in-Whole-clause-bytes
returns-in-Whole-clause-bytes g c = λ told. rw c.meaning.ensures (gives_request (g.S.Source.tells c.args.source.now) c.args.window.now c.fill.new.self c.feed.new.window (g.S.Source.left c.args.source.now) (g.S.Source.left c.fill.new.source) c.pieces.reading c.feed.new.reading (stands g (goal.at.returns-in-Whole-clause-bytes g c).After-fill) c.feed.ensures.passes.0 c.feed.ensures.passes.1 told c.in-Whole.ensures.read)

pub returns-in-Whole-clause-waits : goal.returns-in-Whole-clause-waits
returns-in-Whole-clause-waits g c = waits g (goal.at.returns-in-Whole-clause-waits g c).After-fill

pub returns-in-Refused-clause-bytes : goal.returns-in-Refused-clause-bytes
returns-in-Refused-clause-bytes g c = λ told. rw c.bad_request-in-Refused.ensures (refuses_bytes (g.S.Source.tells c.args.source.now) c.args.window.now c.fill.new.self c.feed.new.window (g.S.Source.left c.args.source.now) (g.S.Source.left c.fill.new.source) c.pieces.reading c.feed.new.reading (stands g (goal.at.returns-in-Refused-clause-bytes g c).After-fill) c.feed.ensures.passes.0 c.feed.ensures.passes.1 told c.in-Refused.ensures.read)

pub returns-in-Refused-clause-waits : goal.returns-in-Refused-clause-waits
returns-in-Refused-clause-waits g c = waits g (goal.at.returns-in-Refused-clause-waits g c).After-fill

-- a whole request was ahead, so the source wasn't asked
pub returns-in-Failed-clause-ready : goal.returns-in-Failed-clause-ready
returns-in-Failed-clause-ready g c = λ arguments rest first failed.
    let at = c.pieces.invariant.waits arguments rest first in
    let same = untouched c.args.window.now c.pieces.window c.fill.new.self c.args.source.now c.pieces.source c.fill.new.source arguments rest first at.0 at.1 c.fill.ensures.same in
    some_ahead c.args.window.now.bytes arguments rest first (ap (λ w. w.bytes) (sym same.0) ∙ c.in-Failed.ensures.len)
