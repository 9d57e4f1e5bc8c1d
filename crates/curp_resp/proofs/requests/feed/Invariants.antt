-- What the bytes come to that are still ahead, and those that were passed over.
use Rattle.std.proofs.Common.{◌≡◌, ℕ, List, length}
use Rattle.curp_resp.specs.Feeds.{Passes, read_on}
use Rattle.curp_resp.proofs.requests.feed.Given as goal

abbrev pub invariant-bytes : goal.invariant-bytes
invariant-bytes l = record {
  read : read_on l.fn.window.bytes l.fn.reading ≡ read_on l.window.bytes l.reading;
  passes : (prefix : List ℕ) × Passes l.fn.window l.window prefix;
}

abbrev pub decreases-bytes : goal.decreases-bytes
decreases-bytes l = length l.window.bytes
