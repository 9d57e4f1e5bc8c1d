-- What is kept on a disk that stops while a batch is to be kept.
use Rattle.std.specs.Prelude.{◌≡◌, ℕ, zero, suc, ◌+◌, ◌-◌, ◌<◌, ◌≤◌, min, nat_lt, Bool, true, false, List, [], ◌∷◌, ◌++◌, length, take, Some, refl}
use Rattle.std.proofs.Common.{inl, inr, sym, ◌∙◌, ap, subst, arith, append_assoc}
use Rattle.std.proofs.lemmas.Bool.{cond-false, ltb-true, ltb-false}
use Rattle.std.proofs.lemmas.List.{append-nil}
use Rattle.curp_base.specs.Words.{all_of}
use Rattle.curp_disk.specs.Calls.{LeftNow, Played, kept_after, kept_of, kept_through, seen_after, seen_of, seen_through}
use Rattle.curp_disk.specs.Disk.{Only, over}
use Rattle.curp_disk.specs.InMemory.{StopParts, StopRan, crashed, one_less, stops}
use Rattle.curp_disk.specs.Moments.{length-over}
use Rattle.curp_disk.specs.declared.disk.Did.{Did}
use Rattle.curp_disk.specs.declared.disk.Did.TheVariants as did
use Rattle.curp_disk.specs.declared.medium.Call.{Call}
use Rattle.curp_disk.specs.declared.medium.Call.TheVariants as call
use Rattle.curp_disk.proofs.Playing.{kept_now}
use Rattle.curp_journal.specs.declared.arrived.Arrived.{Arrived}
use Rattle.curp_msg.specs.Moved.{Moved}
use Rattle.curp_msg.specs.Input.{Input}
use Rattle.curp_durable.specs.Answering.{record_of}
use Rattle.curp_durable.specs.Journal.{Batch, HasEncoding, HoldsUpTo, IsSettled, ReadsJournal, framed, records}
use Rattle.curp_durable.specs.Opening.{LedTo, Walked}
use Rattle.curp_durable.specs.Running.{MadeUntil, RanCall, appending}
use Rattle.curp_durable.specs.Standing.{Standing, after, begun}
use Rattle.curp_durable.specs.Stopping.{IsStopped, StopLeaves, StopSynced, StopWrote, kept_commit, kept_inputs, stop_seen}
use Rattle.curp_durable.proofs.Commits.{prefix_kept}
use Rattle.curp_durable.proofs.Reading.{done, commit_within, records-grown, shut_reads}
use Rattle.curp_durable.proofs.Standings.{all-push}

-- ---- which calls were made

-- with these calls behind the others
abbrev with : Played → List Call → Played
with p calls = record { first = p.first; calls = p.calls ++ calls }

-- with none behind them
with_none : (p : Played) → with p [] ≡ p
with_none p = ap (λ (l : List Call). let q : Played = record { first = p.first; calls = l } in q) (append-nil p.calls)

as_stop : (old new : StopParts) (c : Call) (answer : Did) → RanCall StopWrote StopSynced old c answer new → StopRan old c answer new
as_stop old new (call.Write at bytes) answer ran = ran
as_stop old new call.Sync answer ran = ran

-- a disk armed at a call made the calls before it
made_before : (calls : List Call) (old new : StopParts) (k : ℕ) → old.armed ≡ Some k → 1 ≤ k → MadeUntil StopWrote StopSynced did.Failed calls old new → new.played ≡ with old.played (take (k - 1) calls)
made_before [] old new k armed first ran = absurd ran
made_before (c ∷ calls) old new k armed first (inl failed) =
    let r = as_stop old new c did.Failed failed in
    let stop : nat_lt k 2 ≡ true = ap stops (sym armed) ∙ r.0.0 in
    let one : k - 1 ≡ 0 = omega (arith, ltb-true k 2 stop) in
    r.0.1 ∙ sym (with_none old.played) ∙ ap (λ (n : ℕ). with old.played (take n (c ∷ calls))) (sym one)
made_before (c ∷ calls) old new k armed first (inr more) =
    let mid = more.1 in
    let r = as_stop old mid c (did.Done more.0) more.2 in
    let stop : nat_lt k 2 ≡ false = ap stops (sym armed) ∙ r.0.0 in
    let two : 2 ≤ k = ltb-false k 2 stop in
    let armed_next : mid.armed ≡ Some (k - 1) = r.1 ∙ ap one_less armed ∙ cond-false (nat_lt k 2) (Some k) (Some (k - 1)) stop in
    let rest = made_before calls mid new (k - 1) armed_next (omega (arith, two)) more.3 in
    let next : suc (k - 1 - 1) ≡ k - 1 = omega (arith, two) in
    rest ∙ ap (λ (p : Played). with p (take (k - 1 - 1) calls)) r.0.1
    ∙ ap (λ (l : List Call). let q : Played = record { first = old.played.first; calls = l } in q) (append_assoc old.played.calls (c ∷ []) (take (k - 1 - 1) calls))
    ∙ ap (λ (n : ℕ). with old.played (take n (c ∷ calls))) next

-- ---- what these leave

seen_behind : (first second : List Call) (seen : List ℕ) → seen_through seen (first ++ second) ≡ seen_through (seen_through seen first) second
seen_behind [] second seen = refl
seen_behind (c ∷ first) second seen = seen_behind first second (seen_after seen c)

kept_behind : (first second : List Call) (seen kept : List ℕ) → kept_through seen kept (first ++ second) ≡ kept_through (seen_through seen first) (kept_through seen kept first) second
kept_behind [] second seen kept = refl
kept_behind (c ∷ first) second seen kept = kept_behind first second (seen_after seen c) (kept_after seen kept c)

module _ (p : Played) (commit : ℕ) (title : List ℕ) (inputs : List Arrived) (batches : List Batch) (a : Arrived) (more : List Arrived) (all : all_of batches ≡ inputs) (reads : ReadsJournal (seen_of p) title batches commit) (durable : Only (seen_of p) (LeftNow p)) (has : HasEncoding (a ∷ more)) where
  abbrev now : List ℕ
  now = seen_of p

  abbrev b : List Arrived
  b = a ∷ more

  abbrev piece : List ℕ
  piece = record_of b

  abbrev behind : List ℕ
  behind = over now (commit + 1) piece

  abbrev first_calls : ℕ → Played
  first_calls n = with p (take n (appending commit piece))

  within : commit < length now
  within = commit_within now title batches commit reads

  place : min (commit + 1) (length now) ≡ commit + 1
  place = omega (arith, within)

  place_of_commit : min commit (length behind) ≡ commit
  place_of_commit = omega (arith, within, length-over now (commit + 1) piece (omega (arith, within)))

  -- what was kept before
  was_kept : kept_of p ≡ now
  was_kept = durable (kept_of p) (kept_now p)

  written : over now (min (commit + 1) (length now)) piece ≡ behind
  written = ap (λ (n : ℕ). over now n piece) place

  -- a journal of these inputs, in which all stands that stood before
  abbrev Holds : List ℕ → List Arrived → ℕ → Type 0
  Holds c kept end = HoldsUpTo c title kept end × Walked c title commit batches

  holds_so : (c : List ℕ) → ReadsJournal c title batches commit → Holds c inputs commit
  holds_so c r = (record { batches = batches; all = all; reads = r }, record { byte = r.byte; rest = r.rest; is = r.is; place = r.place; encoded = r.encoded })

  holds_before : (c : List ℕ) → c ≡ now → Holds c inputs commit
  holds_before c is = holds_so c (subst (λ (l : List ℕ). ReadsJournal l title batches commit) (sym is) reads)

  holds_shut : (c : List ℕ) → c ≡ behind → Holds c inputs commit
  holds_shut c is =
      holds_so c (subst (λ (l : List ℕ). ReadsJournal l title batches commit) (sym is) (shut_reads now title batches commit reads behind (prefix_kept now commit piece within)))

  holds_open : (c : List ℕ) → c ≡ over behind commit (1 ∷ []) → Holds c (inputs ++ b) (commit + length piece)
  holds_open c is =
      let r = done now title batches commit reads b has c is in (
        record { batches = batches ++ b ∷ []; all = all-push batches b ∙ ap (λ (l : List Arrived). l ++ b) all; reads = r },
        record {
          byte = 1;
          rest = framed b ++ r.byte ∷ r.rest;
          is = r.is ∙ ap (λ (l : List ℕ). l ++ r.byte ∷ r.rest) (records-grown title batches b) ∙ append_assoc (title ++ records batches) (1 ∷ framed b) (r.byte ∷ r.rest);
          place = reads.place;
          encoded = reads.encoded;
        },
      )

  opened : over (over now (min (commit + 1) (length now)) piece) (min commit (length (over now (min (commit + 1) (length now)) piece))) (1 ∷ []) ≡ over behind commit (1 ∷ [])
  opened = ap (λ (l : List ℕ). over l (min commit (length l)) (1 ∷ [])) written ∙ ap (λ (n : ℕ). over behind n (1 ∷ [])) place_of_commit

  left_at : (k : ℕ) → 1 ≤ k → k ≤ 4 → (unsynced : Bool) → Holds (seen_of (crashed unsynced (first_calls (k - 1)))) (kept_inputs inputs b k unsynced) (kept_commit commit b k unsynced)
  left_at zero first last unsynced = absurd (omega (arith, first))
  left_at (suc zero) first last true = holds_before (seen_of (first_calls 0)) (seen_behind p.calls [] p.first)
  left_at (suc zero) first last false = holds_before (kept_of (first_calls 0)) (kept_behind p.calls [] p.first p.first ∙ was_kept)
  left_at (suc (suc zero)) first last true = holds_shut (seen_of (first_calls 1)) (seen_behind p.calls (take 1 (appending commit piece)) p.first ∙ written)
  left_at (suc (suc zero)) first last false = holds_before (kept_of (first_calls 1)) (kept_behind p.calls (take 1 (appending commit piece)) p.first p.first ∙ was_kept)
  left_at (suc (suc (suc zero))) first last true = holds_shut (seen_of (first_calls 2)) (seen_behind p.calls (take 2 (appending commit piece)) p.first ∙ written)
  left_at (suc (suc (suc zero))) first last false = holds_shut (kept_of (first_calls 2)) (kept_behind p.calls (take 2 (appending commit piece)) p.first p.first ∙ written)
  left_at (suc (suc (suc (suc zero)))) first last true = holds_open (seen_of (first_calls 3)) (seen_behind p.calls (take 3 (appending commit piece)) p.first ∙ opened)
  left_at (suc (suc (suc (suc zero)))) first last false = holds_shut (kept_of (first_calls 3)) (kept_behind p.calls (take 3 (appending commit piece)) p.first p.first ∙ written)
  left_at (suc (suc (suc (suc (suc k))))) first last unsynced = absurd (omega (arith, last))

-- what is left of a journal whose disk stopped
module _ {N : Type 0} (machine : N → Input → Moved N) (old new : StopParts) (stand : Standing N) (commit k : ℕ) (title : List ℕ) (opening : N) (inputs : List Arrived) where
  left : (b : List Arrived) (unsynced : Bool) (s : IsSettled machine stop_seen StopLeaves old stand commit title opening inputs) → IsStopped old new commit k b
      → HoldsUpTo (seen_of (crashed unsynced new.played)) title (kept_inputs inputs b k unsynced) (kept_commit commit b k unsynced) × Walked (seen_of (crashed unsynced new.played)) title commit s.batches
  left [] unsynced s stopped = absurd stopped.ran
  left (a ∷ more) unsynced s stopped =
      let made = made_before (appending commit (record_of (a ∷ more))) old new k stopped.armed stopped.first stopped.ran in
      subst (λ (p : Played). HoldsUpTo (seen_of (crashed unsynced p)) title (kept_inputs inputs (a ∷ more) k unsynced) (kept_commit commit (a ∷ more) k unsynced) × Walked (seen_of (crashed unsynced p)) title commit s.batches) (sym made)
      (left_at old.played commit title inputs s.batches a more s.all s.reads s.durable stopped.encodes k stopped.first stopped.last unsynced)

  pub stopped_holds : (b : List Arrived) (unsynced : Bool) → IsSettled machine stop_seen StopLeaves old stand commit title opening inputs → IsStopped old new commit k b → HoldsUpTo (seen_of (crashed unsynced new.played)) title (kept_inputs inputs b k unsynced) (kept_commit commit b k unsynced)
  stopped_holds b unsynced s stopped = (left b unsynced s stopped).0

  pub stopped_leaves : (b : List Arrived) (unsynced : Bool) → IsSettled machine stop_seen StopLeaves old stand commit title opening inputs → IsStopped old new commit k b → LedTo machine (seen_of (crashed unsynced new.played)) title opening (record { stand = stand; commit = commit })
  stopped_leaves b unsynced s stopped = record {
    batches = s.batches;
    walked = (left b unsynced s stopped).1;
    stand_is = s.stand_is ∙ ap (after machine (begun opening)) (sym s.all);
  }
