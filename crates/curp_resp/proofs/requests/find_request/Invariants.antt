-- Where the reading stands before more bytes are ahead.
use Rattle.std.proofs.Common.{◌≡◌, ℕ, List, true}
use Rattle.curp_io.specs.Streams.{SameCount}
use Rattle.curp_resp.specs.Frames.{rest_most}
use Rattle.curp_resp.specs.Input.{StandsFirst}
use Rattle.curp_resp.proofs.Inwards.{Inwards, fresh_reading}
use Rattle.curp_resp.proofs.requests.find_request.Given as goal

abbrev pub invariant-pieces : goal.invariant-pieces
invariant-pieces g l = record {
  stands : Inwards (g.S.Source.tells l.fn.source) l.fn.window l.window (g.S.Source.left l.fn.source) (g.S.Source.left l.source) l.reading;
  waits : (arguments : List (List ℕ)) (rest : List ℕ) → StandsFirst l.fn.window.bytes arguments rest
      → (l.source ≡ l.fn.source) × (l.window ≡ l.fn.window) × (l.reading ≡ fresh_reading);
  tells : g.S.Source.tells l.fn.source ≡ true → g.S.Source.tells l.source ≡ true;
  same_count : SameCount (g.S.Source.faults l.fn.source) (g.S.Source.faults l.source);
}

abbrev pub decreases-pieces : goal.decreases-pieces
decreases-pieces g l = rest_most l.reading.frame
