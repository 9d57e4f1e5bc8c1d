-- What stands in a log, at an index.
use Rattle.std.proofs.Common.{◌≡◌, ◌⊎◌, inl, inr, ◌<◌, ◌==◌, nat_lt, not, ℕ, List, [], ◌∷◌, ◌++◌, length, take, Option, Some, None, ap, sym, ◌∙◌, subst, arith, append_assoc, append-nil}
use Rattle.std.specs.FinMap.Entries.{find}
use Rattle.std.proofs.Math.Seq.{take-append_seam}
use Rattle.std.proofs.lemmas.Bool.{cond_both}
use Rattle.curp_base.specs.Words.{IsPrefix}
use Rattle.curp_base.proofs.Lists.{at_push, at_within, prefix_at, prefix_push}
use Rattle.curp_cmd.specs.RequestId.{id_cmp}
use Rattle.curp_cmd.specs.Store.{applied}
use Rattle.curp_cmd.specs.declared.command.Answer.{Answer}
use Rattle.curp_cmd.specs.declared.command.Request.{Request}
use Rattle.curp_cmd.specs.declared.command.RequestId.{RequestId}
use Rattle.curp_cmd.specs.declared.entry.Entry.{Entry}
use Rattle.curp_cmd.specs.declared.entry.Entry.TheVariants.{Op, Take, Give, Expire}
use Rattle.curp_cmd.specs.declared.migration.Package.{Package}
use Rattle.curp_model.specs.declared.Check.{Check}
use Rattle.curp_model.specs.declared.Check.TheVariants.{Known}
use Rattle.curp_facts.specs.Facts.{IsAmong}
use Rattle.curp_model.specs.Log.{LogState, after_entry, answer_after, meaning}
use Rattle.curp_model.specs.Table.{Noted, Table, check, first_number, is_below, is_gone, known, note}
use Rattle.curp_model.proofs.Logs.{meaning_append}
use Rattle.curp_facts.specs.Reach.{StandsAt, Tells}
use Rattle.curp_law_kept.specs.Standing.{StandsHere}
use Rattle.curp_law_kept.proofs.Logs.{take_grows}

-- what an entry tells comes from the entries before it
pub tells_alike : (lo hi : ℕ) (xs ys : List Entry) (index : ℕ) (id : RequestId) (a : Answer) (e : Entry) → take index ys ≡ take index xs → Tells lo hi xs index id a e → Tells lo hi ys index id a e
tells_alike lo hi xs ys index id a (Op r acknowledged) same t = (t.0, ap (λ (before : List Entry). answer_after lo hi before r.command) same ∙ t.1)
tells_alike lo hi xs ys index id a (Take migration taken) same t = absurd t
tells_alike lo hi xs ys index id a (Give migration brought) same t = t
tells_alike lo hi xs ys index id a (Expire client) same t = absurd t

-- what stands in a log stands in a longer one
pub stands_longer : (lo hi : ℕ) (xs ys : List Entry) (index : ℕ) (id : RequestId) (a : Answer) → IsPrefix xs ys → StandsHere lo hi xs index id a → StandsHere lo hi ys index id a
stands_longer lo hi xs ys index id a p s =
    let within : index < length xs = at_within xs index s.entry s.stands in
    record { entry = s.entry; stands = prefix_at p index s.entry s.stands; tells = tells_alike lo hi xs ys index id a s.entry (take_grows index p (omega arith)) s.tells }

-- where it stands, at its index, and the other way round
pub stands_here : (lo hi : ℕ) (log : List Entry) (id : RequestId) (a : Answer) → (s : StandsAt lo hi log id a) → StandsHere lo hi log s.index id a
stands_here lo hi log id a s = record { entry = s.entry; stands = s.stands; tells = s.tells }

-- what stands at an index stands
abbrev pub stands_at : (lo hi : ℕ) (log : List Entry) (index : ℕ) (id : RequestId) (a : Answer) → StandsHere lo hi log index id a → StandsAt lo hi log id a
stands_at lo hi log index id a s = record { index = index; entry = s.entry; stands = s.stands; tells = s.tells }
