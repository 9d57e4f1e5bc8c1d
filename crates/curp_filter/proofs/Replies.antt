-- What the answers to a batch are, and what is left of it where there are none.
use Rattle.std.specs.Prelude.{◌≡◌, ℕ, ◌≤◌, true, false, List, [], ◌++◌, refl}
use Rattle.std.proofs.Common.{inl, inr, sym}
use Rattle.std.proofs.lemmas.List.{append-nil}
use Rattle.curp_durable.specs.Standing.{after, taken}
use Rattle.curp_durable.specs.Value.{DurableParts}
use Rattle.curp_io.specs.Streams.{HoldsPart, SameCount}
use Rattle.curp_journal.specs.declared.arrived.Arrived.{Arrived}
use Rattle.curp_msg.specs.Moved.{Moved}
use Rattle.curp_msg.specs.Input.{Input}
use Rattle.curp_filter.specs.Coming.{arrivals_of}
use Rattle.curp_filter.specs.Keeping.{DiskKind, Keeps, Outlasts}
use Rattle.curp_filter.specs.Saying.{text_of}
use Rattle.curp_filter.specs.Turning.{EndsAnswering, EndsSaying, MovesBy, Outlet, SameBut, Unanswered, Wrote}
use Rattle.curp_filter.specs.declared.came.Came.{Came}
use Rattle.curp_filter.specs.declared.end.FilterEnd.{FilterEnd}
use Rattle.curp_filter.specs.declared.end.FilterEnd.TheVariants as end

pub wrote_text : (text : List ℕ) (old new : Outlet) → (old.tells ≡ true → new.held ≡ old.held ++ text) → (old.tells ≡ true → new.tells ≡ true) → SameCount old.faults new.faults → new.flushed ≡ true → Wrote text old new
wrote_text text old new holds tells same flushed = record { holds = holds; tells = tells; same_faults = same; passed_on = λ before. flushed }

module _ {N D : Type 0} (machine : N → Input → Moved N) (disk : DiskKind D) where
  pub moves_batch : (only_now : (d : D) (c : List ℕ) → disk.left_since d (disk.moment d) c → disk.may_leave d c) (inputs : List Arrived) (old new : DurableParts N D)
      → new.stand ≡ after machine old.stand inputs → Keeps machine disk (taken machine old.stand inputs) old new
      → Outlasts machine disk (taken machine old.stand inputs) old new
      → new.spent ≡ false → new.size_limit ≡ old.size_limit → disk.faults old.disk ≤ disk.faults new.disk → MovesBy machine disk inputs old new
  moves_batch only_now inputs old new state keeps outlasts fresh limit faults =
      record { stand_is = state; keeps = keeps; outlasts = outlasts; goes_on = λ before. fresh; same_limit = limit; disk_faults = faults }

  -- nothing was written
  pub unanswered_silent : (cames : List Came) (number : ℕ) (old new : DurableParts N D) (sink : Outlet) (it : FilterEnd) → Outlasts machine disk (taken machine old.stand (arrivals_of cames)) old new
      → disk.faults old.disk ≤ disk.faults new.disk → Unanswered machine disk cames number old new sink sink it
  unanswered_silent cames number old new sink it outlasts faults = record {
    part = λ told. record { part = []; prefix = record { rest = text_of machine old.stand number cames; is = refl }; added = sym (append-nil sink.held) };
    kept = inl refl;
    outlasts = outlasts;
    tells = λ told. told;
    faults = λ other. refl;
    disk_faults = faults;
  }

  -- the journal has what is said
  pub unanswered_part : (cames : List Came) (number : ℕ) (old new : DurableParts N D) (before behind : Outlet) (it : FilterEnd) → MovesBy machine disk (arrivals_of cames) old new
      → (before.tells ≡ true → HoldsPart before.held behind.held (text_of machine old.stand number cames)) → (before.tells ≡ true → behind.tells ≡ true) → SameBut end.WriteFault it before.faults behind.faults
      → Unanswered machine disk cames number old new before behind it
  unanswered_part cames number old new before behind it moved part tells faults =
      record { part = part; kept = inr moved; outlasts = moved.outlasts; tells = tells; faults = faults; disk_faults = moved.disk_faults }

  pub ends_silent : (it : FilterEnd) (cames : List Came) (old new : DurableParts N D) (sink : Outlet) → EndsSaying disk.faults (arrivals_of cames) old new it → EndsAnswering disk cames old new sink sink it
  ends_silent end.End cames old new sink h = absurd h
  ends_silent (end.Inside at) cames old new sink h = absurd h
  ends_silent (end.TooLong at) cames old new sink h = absurd h
  ends_silent end.TooManyInputs cames old new sink h = absurd h
  ends_silent end.ReadFault cames old new sink h = absurd h
  ends_silent end.WriteFault cames old new sink h = absurd h
  ends_silent (end.NotKept why) cames old new sink h = (h, refl)
  ends_silent end.NoMemory cames old new sink h = tt
