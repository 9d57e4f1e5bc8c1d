-- What the calls make of the lists, as the definitions have it.
use Rattle.std.proofs.Common.{◌≡◌, ℕ, cond, List, [], ◌∷◌, map, fold, Option, Some, None, is_some, refl, ap, sym, ◌∙◌}
use Rattle.std.specs.BTreeSet.{insert_key}
use Rattle.std.specs.FinMap.Entries.{find, put}
use Rattle.std.specs.Ordering.{nat_cmp}
use Rattle.curp_base.specs.Places.{put_once}
use Rattle.curp_base.specs.Words.{KeysAscend}
use Rattle.curp_base.proofs.Values.{ascend_values}
use Rattle.curp_cmd.specs.RequestId.{id_cmp}
use Rattle.curp_cmd.specs.declared.command.Answer.{Answer}
use Rattle.curp_cmd.specs.declared.command.RequestId.{RequestId}
use Rattle.curp_cmd.specs.declared.migration.TablePart.{TablePart}
use Rattle.curp_model.proofs.Tables.{by_check}
use Rattle.curp_model.specs.declared.Check.{Check}
use Rattle.curp_model.specs.declared.Check.TheVariants.{New}
use Rattle.curp_model.specs.Table.{Noted, Table, check, known, merge, note, note_once, of_use, raise_first}
use Rattle.curp_rifl.specs.Records.{Record, with_firsts, with_records}

none_of : (o : Option Noted) → known o ≡ New → o ≡ None
none_of None e = refl
none_of (Some n) e = absurd cc

-- a request that is new has no record
pub new_is_absent : (t : Table) (id : RequestId) → check t id ≡ New → find id_cmp id t.records ≡ None
new_is_absent t id =
    by_check t id (λ (c : Check). c ≡ New → find id_cmp id t.records ≡ None) (λ e. absurd cc) (λ first e. absurd cc) (λ k e. none_of (find id_cmp id t.records) e)

-- so its record comes to those that are there
pub noted : (t : Table) (id : RequestId) (n : Noted) (a : Answer) (index : ℕ) → n.answer ≡ a → n.index ≡ index → check t id ≡ New → put_once id_cmp id n t.records ≡ (note t id a index).records
noted t id n a index its_answer its_index new =
    ap (λ (o : Option Noted). cond (is_some o) t.records (put id_cmp id n t.records)) (new_is_absent t id new)
    ∙ λ i. put id_cmp id (record { answer = its_answer i; index = its_index i }) t.records

-- ---- what a migration brings

once_is : (index : ℕ) (t : Table) (id : RequestId) (a : Answer) (o : Option Noted)
    → note_once index o t id a ≡ record t { records = cond (is_some o) t.records (put id_cmp id (record { answer = a; index = index }) t.records) }
once_is index t id a (Some n) = refl
once_is index t id a None = refl

all_noted : (index : ℕ) (es : List (RequestId × Answer)) (t : Table)
    → fold (λ (u : Table) (e : RequestId × Answer). note_once index (find id_cmp e.0 u.records) u e.0 e.1) t es ≡ record t { records = with_records index t.records es }
all_noted index [] t = refl
all_noted index (e ∷ es) t =
    ap (λ (v : Table). fold (λ (u : Table) (f : RequestId × Answer). note_once index (find id_cmp f.0 u.records) u f.0 f.1) v es) (once_is index t e.0 e.1 (find id_cmp e.0 t.records))
    ∙ all_noted index es (record t { records = put_once id_cmp e.0 (record { answer = e.1; index = index }) t.records })

pub merged : (t : Table) (part : TablePart) (index : ℕ)
    → of_use (record { records = with_records index t.records part.records; firsts = with_firsts t.firsts part.firsts; gone = fold (insert_key nat_cmp) t.gone part.gone }) ≡ merge t part index
unfolding merge
merged t part index =
    ap (λ (u : Table). of_use (record { records = u.records; firsts = fold (λ (firsts : List (ℕ × ℕ)) (e : ℕ × ℕ). raise_first firsts e.0 e.1) u.firsts part.firsts; gone = fold (insert_key nat_cmp) u.gone part.gone }))
    (sym (all_noted index part.records t))

-- ---- what a migration takes along

pub ascend_answers : (es : List Record) → KeysAscend id_cmp es → KeysAscend id_cmp (map (λ (e : Record). (e.0, e.1.answer)) es)
ascend_answers es s = ascend_values id_cmp (λ (n : Noted). n.answer) es s
