-- What isn't new stays so.
use Rattle.std.proofs.Common.{◌≡◌, ℕ, not, nat_le, nat_lt, Bool, true, false, cond, List, ◌++◌, length, ap, sym, ◌∙◌, subst, arith}
use Rattle.std.specs.Bool.{⊤}
use Rattle.std.specs.FinMap.Entries.{find}
use Rattle.std.proofs.lemmas.Bool.{and_parts, not-true}
use Rattle.std.proofs.lemmas.Bool.Decides.{nat_tests}
use Rattle.curp_cmd.specs.RequestId.{id_cmp}
use Rattle.curp_cmd.specs.declared.command.RequestId.{RequestId}
use Rattle.curp_cmd.specs.declared.entry.Entry.{Entry}
use Rattle.curp_model.specs.Log.{LogState, meaning}
use Rattle.curp_model.specs.Table.{Noted, Table, check, first_number, is_gone, known}
use Rattle.curp_model.specs.declared.Check.TheVariants.{Expired, New, Stale}
use Rattle.curp_model.proofs.Logs.{meaning_append, seen_entries}
use Rattle.curp_model.proofs.Tables.{Has, not_new}
use Rattle.curp_law_kept.specs.Hashes.{NotNew}
use Rattle.curp_law_kept.proofs.Gives.{some_any}

abbrev Any : Noted → Type 0
Any n = ⊤

has_any : (t : Table) (id : RequestId) → (check t id ≡ New → ⊥) → Has t id Any
unfolding check
has_any t id old k =
    let parts = and_parts (not (is_gone t id.client)) (nat_le (first_number t id.client) id.seq) k in
    let g : is_gone t id.client ≡ false = not-true _ parts.0 in
    let low : nat_le (first_number t id.client) id.seq ≡ true = parts.1 in
    let l : nat_lt id.seq (first_number t id.client) ≡ false = grind (arith, nat_tests) in
    let e : check t id ≡ known (find id_cmp id t.records) =
    ap (λ (b : Bool). cond b Expired (cond (nat_lt id.seq (first_number t id.client)) (Stale (first_number t id.client)) (known (find id_cmp id t.records)))) g
    ∙ ap (λ (b : Bool). cond b (Stale (first_number t id.client)) (known (find id_cmp id t.records))) l in
    some_any (find id_cmp id t.records) (λ n. old (e ∙ n))

-- what a log knows it knows behind more entries
pub stays_known : (lo hi : ℕ) (prefix back : List Entry) (id : RequestId) → NotNew lo hi prefix id → NotNew lo hi (prefix ++ back) id
stays_known lo hi prefix back id old new =
    let seen : Has (meaning lo hi (prefix ++ back)).table id Any =
    subst (λ (s : LogState). Has s.table id Any) (sym (meaning_append lo hi prefix back)) (seen_entries id back (meaning lo hi prefix) (length prefix) (has_any (meaning lo hi prefix).table id old)) in
    not_new (meaning lo hi (prefix ++ back)).table id Any seen new
