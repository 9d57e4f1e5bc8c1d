-- What an append does to a journal that is settled.
use Rattle.std.specs.Prelude.{◌≡◌, ℕ, ◌+◌, ◌≤◌, List, [], ◌∷◌, ◌++◌, length, refl}
use Rattle.std.proofs.Common.{inl, inr, sym, ◌∙◌, ap, subst, arith}
use Rattle.std.proofs.lemmas.List.{append-nil, drop_all}
use Rattle.curp_base.specs.Words.{all_of}
use Rattle.curp_disk.specs.Disk.{LeavesOnly, Only, over}
use Rattle.curp_journal.specs.declared.arrived.Arrived.{Arrived}
use Rattle.curp_msg.specs.Moved.{Moved}
use Rattle.curp_msg.specs.Input.{Input}
use Rattle.curp_durable.specs.Appending.{ShutOrStaged}
use Rattle.curp_durable.specs.Journal.{HasEncoding, HasSettled, HoldsJournal, HoldsUpTo, IsBeforeOrAfter, IsSettled, ReadsJournal, framed}
use Rattle.curp_durable.specs.Opening.{IsOpened}
use Rattle.curp_durable.specs.Standing.{Standing, after, begun, taken}
use Rattle.curp_durable.proofs.Going.{weaker}
use Rattle.curp_durable.proofs.Reading.{left, done}
use Rattle.curp_durable.proofs.Standings.{after-append, after_taken, all-push}
use Rattle.curp_durable.proofs.Unique.{opened_so}

module _ {N D : Type 0} (machine : N → Input → Moved N) (seen : D → List ℕ) (may_leave : D → List ℕ → Type 0) (moment : D → ℕ) (left_since : D → ℕ → List ℕ → Type 0) (only_now : (d : D) (c : List ℕ) → left_since d (moment d) c → may_leave d c) where
  -- a crash in an append leaves the journal with the batch or without
  pub appended : (old new : D) (stand : Standing N) (commit : ℕ) (title : List ℕ) (opening : N) (inputs b : List Arrived) (piece : List ℕ) → IsSettled machine seen may_leave old stand commit title opening inputs → HasEncoding b → piece ≡ framed b ++ 0 ∷ []
      → LeavesOnly moment left_since old new (ShutOrStaged (seen old) commit piece) → LeavesOnly moment left_since old new (IsBeforeOrAfter title inputs b)
  appended old new stand commit title opening inputs b piece s has is run =
      weaker seen may_leave moment left_since only_now old new (ShutOrStaged (seen old) commit piece) (IsBeforeOrAfter title inputs b)
      (λ c may. elim (left (seen old) title s.batches commit s.reads b has c (subst (λ (p : List ℕ). ShutOrStaged (seen old) commit p c) is may)) [
        | inl without ↦ inl (record { batches = s.batches; commit = commit; all = s.all; reads = without })
        | inr with_it ↦ inr (record {
          batches = s.batches ++ b ∷ [];
          commit = commit + length (framed b ++ 0 ∷ []);
          all = all-push s.batches b ∙ ap (λ (l : List Arrived). l ++ b) s.all;
          reads = with_it;
        })
      ]) run

  -- after an append the journal has the batch
  pub grown_to : (old new : D) (stand next : Standing N) (commit behind : ℕ) (title : List ℕ) (opening : N) (inputs b : List Arrived) (piece : List ℕ) → IsSettled machine seen may_leave old stand commit title opening inputs → HasEncoding b → piece ≡ framed b ++ 0 ∷ []
      → seen new ≡ over (over (seen old) (commit + 1) piece) commit (1 ∷ []) → Only (seen new) (may_leave new) → next ≡ after machine stand b → behind ≡ commit + length piece → IsSettled machine seen may_leave new next behind title opening (inputs ++ b)
  grown_to old new stand next commit behind title opening inputs b piece s has is now only next_is behind_is =
      let written : seen new ≡ over (over (seen old) (commit + 1) (framed b ++ 0 ∷ [])) commit (1 ∷ []) = now ∙ ap (λ (p : List ℕ). over (over (seen old) (commit + 1) p) commit (1 ∷ [])) is in
      let there : commit + length (framed b ++ 0 ∷ []) ≡ behind = ap (λ (p : List ℕ). commit + length p) (sym is) ∙ sym behind_is in
      record {
        batches = s.batches ++ b ∷ [];
        all = all-push s.batches b ∙ ap (λ (l : List Arrived). l ++ b) s.all;
        reads = subst (ReadsJournal (seen new) title (s.batches ++ b ∷ [])) there (done (seen old) title s.batches commit s.reads b has (seen new) written);
        stand_is = next_is ∙ ap (λ (t : Standing N). after machine t b) s.stand_is ∙ sym (after-append machine inputs b (begun opening));
        durable = only;
      }

  -- nothing was taken
  pub stays : (disk : D) (stand next : Standing N) (commit : ℕ) (title : List ℕ) (opening : N) (inputs b : List Arrived) → IsSettled machine seen may_leave disk stand commit title opening inputs → b ≡ [] → next ≡ after machine stand b → IsSettled machine seen may_leave disk next commit title opening (inputs ++ b)
  stays disk stand next commit title opening inputs b s none is =
      let same : next ≡ stand = is ∙ ap (after machine stand) none in
      let all : inputs ++ b ≡ inputs = ap (λ (l : List Arrived). inputs ++ l) none ∙ append-nil inputs in
      record { batches = s.batches; all = s.all ∙ sym all; reads = s.reads; stand_is = same ∙ s.stand_is ∙ ap (after machine (begun opening)) (sym all); durable = s.durable }

  -- where none of a batch was taken
  pub taken_none : (disk : D) (stand next : Standing N) (commit : ℕ) (title : List ℕ) (opening : N) (so_far inputs : List Arrived) → IsSettled machine seen may_leave disk stand commit title opening so_far → taken machine stand inputs ≡ [] → next ≡ after machine stand inputs
      → IsSettled machine seen may_leave disk next commit title opening (so_far ++ taken machine stand inputs)
  taken_none disk stand next commit title opening so_far inputs s none is =
      stays disk stand next commit title opening so_far (taken machine stand inputs) s none (is ∙ sym (after_taken machine inputs stand))

  -- where some were, and are kept
  pub taken_kept : (old new : D) (stand next : Standing N) (commit behind : ℕ) (title : List ℕ) (opening : N) (so_far inputs : List Arrived) (piece : List ℕ) → IsSettled machine seen may_leave old stand commit title opening so_far → HasEncoding (taken machine stand inputs) → piece ≡ framed (taken machine stand inputs) ++ 0 ∷ []
      → seen new ≡ over (over (seen old) (commit + 1) piece) commit (1 ∷ []) → Only (seen new) (may_leave new) → next ≡ after machine stand inputs → behind ≡ commit + length piece
      → IsSettled machine seen may_leave new next behind title opening (so_far ++ taken machine stand inputs)
  taken_kept old new stand next commit behind title opening so_far inputs piece s has is now only next_is behind_is =
      grown_to old new stand next commit behind title opening so_far (taken machine stand inputs) piece s has is now only (next_is ∙ sym (after_taken machine inputs stand)) behind_is

  -- the journal that is there was opened
  pub opened_settled : (content : List ℕ) (disk : D) (stand : Standing N) (commit : ℕ) (title : List ℕ) (opening : N) (inputs : List Arrived) → seen disk ≡ content → IsOpened machine content title opening commit stand → Only (seen disk) (may_leave disk) → HoldsJournal content title inputs → IsSettled machine seen may_leave disk stand commit title opening inputs
  opened_settled content disk stand commit title opening inputs same o only h =
      let all = opened_so content title machine opening commit stand inputs o h in
      record { batches = o.batches; all = all; reads = subst (λ (l : List ℕ). ReadsJournal l title o.batches commit) (sym same) o.reads; stand_is = o.stand_is ∙ ap (after machine (begun opening)) all; durable = only }

  -- of some inputs
  pub has_settled : (content : List ℕ) (disk : D) (stand : Standing N) (commit : ℕ) (title : List ℕ) (opening : N) → seen disk ≡ content → IsOpened machine content title opening commit stand → Only (seen disk) (may_leave disk) → HasSettled machine seen may_leave disk stand commit
  has_settled content disk stand commit title opening same o only =
      let holds : HoldsJournal content title (all_of o.batches) = record { batches = o.batches; commit = commit; all = refl; reads = o.reads } in
      (title, opening, all_of o.batches, opened_settled content disk stand commit title opening (all_of o.batches) same o only holds)

-- a journal with no input was written on a disk that had no more bytes
pub fresh : (before now_there : List ℕ) (bytes title : List ℕ) → length before ≤ length bytes → bytes ≡ title ++ 0 ∷ [] → now_there ≡ over before 0 bytes → HoldsUpTo now_there title [] (length title)
fresh before now_there bytes title short is now =
    let all : over before 0 bytes ≡ bytes = ap (λ (l : List ℕ). bytes ++ l) (drop_all (0 + length bytes) before (omega (arith, short))) ∙ append-nil bytes in
    record {
      batches = [];
      all = refl;
      reads = record {
        byte = 0;
        rest = [];
        is = now ∙ all ∙ is ∙ ap (λ (l : List ℕ). l ++ 0 ∷ []) (sym (append-nil title));
        place = ap length (append-nil title);
        shut = omega arith;
        encoded = tt;
      };
    }

-- a journal whose last commit byte stands somewhere
pub some_commit : (content title : List ℕ) (inputs : List Arrived) (commit : ℕ) → HoldsUpTo content title inputs commit → HoldsJournal content title inputs
some_commit content title inputs commit h = record { batches = h.batches; commit = commit; all = h.all; reads = h.reads }
