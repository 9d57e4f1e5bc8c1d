-- What a log's table has a record of stands in the log, at its index and with its answer.
use Rattle.std.proofs.Common.{◌≡◌, ◌⊎◌, inl, inr, ◌<◌, ◌==◌, nat_lt, not, ℕ, List, [], ◌∷◌, ◌++◌, length, take, Option, Some, None, ap, sym, ◌∙◌, subst, arith, append_assoc, append-nil}
use Rattle.std.specs.FinMap.Entries.{find}
use Rattle.std.proofs.Math.Seq.{take-append_seam}
use Rattle.std.proofs.lemmas.Bool.{cond_both}
use Rattle.curp_base.specs.Words.{IsPrefix}
use Rattle.curp_base.proofs.Lists.{at_push, at_within, prefix_at, prefix_push}
use Rattle.curp_cmd.specs.RequestId.{id_cmp}
use Rattle.curp_cmd.specs.Store.{applied}
use Rattle.curp_cmd.specs.declared.command.Answer.{Answer}
use Rattle.curp_cmd.specs.declared.command.Request.{Request}
use Rattle.curp_cmd.specs.declared.command.RequestId.{RequestId}
use Rattle.curp_cmd.specs.declared.entry.Entry.{Entry}
use Rattle.curp_cmd.specs.declared.entry.Entry.TheVariants.{Op, Take, Give, Expire}
use Rattle.curp_cmd.specs.declared.migration.Package.{Package}
use Rattle.curp_model.specs.declared.Check.{Check}
use Rattle.curp_model.specs.declared.Check.TheVariants.{Known}
use Rattle.curp_facts.specs.Facts.{IsAmong}
use Rattle.curp_model.specs.Log.{LogState, after_entry, answer_after, meaning}
use Rattle.curp_model.specs.Table.{Noted, Table, check, first_number, is_below, is_gone, known, note}
use Rattle.curp_model.proofs.Logs.{meaning_append}
use Rattle.curp_facts.specs.Reach.{StandsAt, Tells}
use Rattle.curp_law_kept.specs.Standing.{StandsHere}
use Rattle.curp_law_kept.proofs.Logs.{take_grows}
use Rattle.curp_law_kept.proofs.Records.{found_among, recorded}

-- each record stands in the log
abbrev pub IsNoted : ℕ → ℕ → List Entry → Type 0
IsNoted lo hi log = (id : RequestId) (n : Noted) → find id_cmp id (meaning lo hi log).table.records ≡ Some n → StandsHere lo hi log n.index id n.answer

-- each record stands in the log
pub noted : (lo hi : ℕ) (log : List Entry) → IsNoted lo hi log
noted lo hi log id n found = recorded lo hi log id n (found_among id (meaning lo hi log).table.records n found)

known_found : (a : Answer) (index : ℕ) (o : Option Noted) → known o ≡ Known a index → o ≡ Some (record { answer = a; index = index })
known_found a index None e = absurd cc
known_found a index (Some n) e =
    let x : n.answer ≡ a = cc in
    let i : n.index ≡ index = cc in
    λ j. Some (record { answer = x j; index = i j })

check_known : (t : Table) (id : RequestId) (a : Answer) (index : ℕ) → check t id ≡ Known a index → find id_cmp id t.records ≡ Some (record { answer = a; index = index })
unfolding check
check_known t id a index =
    cond_both (is_gone t id.client) _ _ (λ (c : Check). c ≡ Known a index → find id_cmp id t.records ≡ Some (record { answer = a; index = index })) (λ g e. absurd cc)
    (λ g. cond_both (nat_lt id.seq (first_number t id.client)) _ _ (λ (c : Check). c ≡ Known a index → find id_cmp id t.records ≡ Some (record { answer = a; index = index })) (λ l e. absurd cc)
    (λ l. known_found a index (find id_cmp id t.records)))

-- what the check knows stands in the log
pub known_stands : (lo hi : ℕ) (log : List Entry) (id : RequestId) (a : Answer) (index : ℕ) → check (meaning lo hi log).table id ≡ Known a index → StandsHere lo hi log index id a
known_stands lo hi log id a index e = noted lo hi log id (record { answer = a; index = index }) (check_known (meaning lo hi log).table id a index e)
