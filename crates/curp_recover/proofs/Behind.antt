-- What is replayed stands behind the log.
use Rattle.std.proofs.Common.{◌≡◌, ℕ, Bool, true, false, if◌then◌else◌, List, [], ◌∷◌, ◌++◌, length, drop, sym, ap, ◌∙◌, append_assoc}
use Rattle.std.proofs.Math.Seq.{drop-append_seam}
use Rattle.std.proofs.lemmas.List.{append-nil}
use Rattle.curp_cmd.specs.declared.command.Request.{Request}
use Rattle.curp_cmd.specs.declared.entry.Entry.{Entry}
use Rattle.curp_cmd.specs.declared.entry.Entry.TheVariants.{Op}
use Rattle.curp_model.specs.Log.{meaning}
use Rattle.curp_model.specs.Recovery.{replay, replays}

-- entries of which a log is the prefix
record Extends (log whole : List Entry) : Type 0 where
  more : List Entry
  is : whole ≡ log ++ more

extends : (lo hi : ℕ) (rs : List Request) (log : List Entry) → Extends log (replay lo hi log rs)
extends lo hi [] log = record { more = []; is = sym (append-nil log) }
extends lo hi (r ∷ rs) log = go (replays (meaning lo hi log) r) (λ es. extends lo hi rs es)
  where
    go : (b : Bool) → ((es : List Entry) → Extends es (replay lo hi es rs)) → Extends log (if b then replay lo hi (log ++ Op r 0 ∷ []) rs else replay lo hi log rs)
    go true rest =
        let e = rest (log ++ Op r 0 ∷ []) in
        record { more = Op r 0 ∷ e.more; is = e.is ∙ append_assoc log (Op r 0 ∷ []) e.more }
    go false rest = rest log

pub replayed_behind : (lo hi : ℕ) (log : List Entry) (rs : List Request) → log ++ drop (length log) (replay lo hi log rs) ≡ replay lo hi log rs
replayed_behind lo hi log rs =
    let e = extends lo hi rs log in
    ap (λ (whole : List Entry). log ++ drop (length log) whole) e.is ∙ ap (λ (more : List Entry). log ++ more) (drop-append_seam log e.more) ∙ sym e.is
