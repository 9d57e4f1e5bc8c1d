-- JSON over a line's text, and the data that it is read as.
use Rattle.std.proofs.Common.{◌≡◌, ℕ, ◌&&◌, List, [], ◌∷◌, Bool, true, false, cond, is_some, unwrap_or, if◌then◌else◌, bytes_eq, Option, Some, None, option_map, option_and_then, Ordering, Less, Equal, Greater, nat_cmp, is_eq, Bor, IsUtf8, refl, sym, ap, ◌∙◌, true≢false}
use Rattle.std.proofs.lemmas.Slice.Eq.{bytes_eq-Decides}
use Rattle.std.proofs.lemmas.Map.Text.{is_eq-slice_cmp}
use Rattle.std.specs.declared.alloc.Global.{Global}
use Rattle.std.specs.Cmp.Lexicographic.{slice_cmp}
use Rattle.std.specs.List.{list_all}
use Rattle.std.specs.Ordering.{match_ordering}
use Rattle.std.specs.Str.{is_utf8}
use Rattle.std.proofs.lemmas.Str.{IsUtf8-from_is_utf8, is_utf8-from_IsUtf8}
use Rattle.json.specs.Lex.{tokens}
use Rattle.json.specs.Json as json
use Rattle.json.specs.Value.{value_view, members_view}
use Rattle.json.specs.declared.value.Value.{Value}
use Rattle.json.specs.Find as find
use Rattle.serde_json.specs.Data.{Num, Data, number, array, object, Items, item, Members, no_members, member, put}
use Rattle.serde_json.specs.Read.{number_of, of_json, of_items, of_members, max_depth, read}
use Rattle.serde_json.specs.Find.{get, get_member, as_null, as_object}
use Rattle.serde_json.proofs.Views.{get_member-put, get_member-put_other}
use Rattle.curp_script.specs.declared.error.FieldName.{FieldName}
use Rattle.curp_script.specs.Grammar.{is_one_of, has_only, only_object, object_in}
use Rattle.curp_script.specs.Values.{unread, data_of, items_data, members_data, is_readable, are_items_readable, are_members_readable}

-- ---- what is read is the data, where all of it can be read

abbrev pub if_so : {A : Type 0} → Bool → A → Option A
if_so b x = if b then Some x else None

number_read : (n : Option Num) → option_map number n ≡ if_so (is_some n) (number (unwrap_or n unread))
number_read None = refl
number_read (Some n) = refl

under : {A B : Type 0} (f : A → B) (b : Bool) (x : A) → option_map f (if_so b x) ≡ if_so b (f x)
under f true x = refl
under f false x = refl

item_read : (a b : Bool) (d : Data) (ds : Items) → option_and_then (λ d. option_map (item d) (if_so b ds)) (if_so a d) ≡ if_so (a && b) (item d ds)
item_read true true d ds = refl
item_read true false d ds = refl
item_read false b d ds = refl

behind : {A B : Type 0} (a b : Bool) (x : A) (f : A → Option B) (y : B) → f x ≡ if_so b y → option_and_then f (if_so a x) ≡ if_so (a && b) y
behind true b x f y is = is
behind false b x f y is = refl

mutual
  pub of_json-data_of : (j : json.Json) → of_json j ≡ if_so (is_readable j) (data_of j)
  of_json-data_of json.null = refl
  of_json-data_of (json.boolean b) = refl
  of_json-data_of (json.number s) = number_read (number_of s)
  of_json-data_of (json.string s) = refl
  of_json-data_of (json.array js) = ap (option_map array) (of_items-items_data js) ∙ under array (are_items_readable js) (items_data js)
  of_json-data_of (json.object ms) = ap (option_map object) (of_members-members_data ms no_members) ∙ under object (are_members_readable ms) (members_data ms no_members)

  of_items-items_data : (js : json.Items) → of_items js ≡ if_so (are_items_readable js) (items_data js)
  of_items-items_data json.no_items = refl
  of_items-items_data (json.item j js) = rw (of_json-data_of j, of_items-items_data js) (item_read (is_readable j) (are_items_readable js) (data_of j) (items_data js))

  of_members-members_data : (ms : json.Members) (found : Members) → of_members ms found ≡ if_so (are_members_readable ms) (members_data ms found)
  of_members-members_data json.no_members found = refl
  of_members-members_data (json.member k j ms) found =
      ap (option_and_then (λ d. of_members ms (put k d found))) (of_json-data_of j)
      ∙ behind (is_readable j) (are_members_readable ms) (data_of j) (λ d. of_members ms (put k d found)) _ (of_members-members_data ms (put k (data_of j) found))

-- ---- the value of a name

-- the first of two, or else the second
abbrev pub or_else : Option Data → Option Data → Option Data
or_else None other = other
or_else (Some d) other = Some d

or_else-later : (k name : List ℕ) (j : json.Json) (ms : json.Members) (found : Members) (same : Bool) → bytes_eq k name ≡ same
    → or_else (option_map data_of (find.get_member name ms)) (get_member name (put k (data_of j) found))
    ≡ or_else (option_map data_of (find.later_or (find.get_member name ms) (cond same (Some j) None))) (get_member name found)
or_else-later k name j ms found same is = by (find.get_member name ms) same is
  where
    by : (later : Option json.Json) (same : Bool) → bytes_eq k name ≡ same
        → or_else (option_map data_of later) (get_member name (put k (data_of j) found)) ≡ or_else (option_map data_of (find.later_or later (cond same (Some j) None))) (get_member name found)
    by (Some l) same is = refl
    by None true is = rw ((bytes_eq-Decides k name).0 is) (get_member-put name (data_of j) found)
    by None false is = get_member-put_other name k (data_of j) found (λ e. true≢false (sym ((bytes_eq-Decides k name).1 (sym e)) ∙ is))

-- the last value of the name counts
get_member-members_data : (name : List ℕ) (ms : json.Members) (found : Members) → get_member name (members_data ms found) ≡ or_else (option_map data_of (find.get_member name ms)) (get_member name found)
get_member-members_data name json.no_members found = refl
get_member-members_data name (json.member k j ms) found = get_member-members_data name ms (put k (data_of j) found) ∙ or_else-later k name j ms found (bytes_eq k name) refl

or_none : (o : Option Data) → or_else o None ≡ o
or_none None = refl
or_none (Some d) = refl

pub get-data_of : (name : List ℕ) (j : json.Json) → option_map data_of (find.get name j) ≡ get name (data_of j)
get-data_of name json.null = refl
get-data_of name (json.boolean b) = refl
get-data_of name (json.number s) = refl
get-data_of name (json.string s) = refl
get-data_of name (json.array js) = refl
get-data_of name (json.object ms) = sym (get_member-members_data name ms no_members ∙ or_none _)

pub is_null-data_of : (j : json.Json) → find.is_null j ≡ is_some (as_null (data_of j))
is_null-data_of json.null = refl
is_null-data_of (json.boolean b) = refl
is_null-data_of (json.number s) = refl
is_null-data_of (json.string s) = refl
is_null-data_of (json.array js) = refl
is_null-data_of (json.object ms) = refl

-- ---- names

and_twice : (a b : Bool) → (a && (a && b)) ≡ (a && b)
and_twice true b = refl
and_twice false b = refl

and_swap : (a b c : Bool) → (b && (a && c)) ≡ (a && (b && c))
and_swap true b c = refl
and_swap false true c = refl
and_swap false false c = refl

has_only-put_at : (o : Ordering) (names : List FieldName) (k l : List ℕ) (d e : Data) (ms : Members) → slice_cmp nat_cmp k l ≡ o → has_only names (put k d ms) ≡ (is_one_of names k && has_only names ms)
    → has_only names (match_ordering o (member k d (member l e ms)) (member l d ms) (member l e (put k d ms))) ≡ (is_one_of names k && has_only names (member l e ms))
has_only-put_at Less names k l d e ms is later = refl
has_only-put_at Equal names k l d e ms is later =
    let same : k ≡ l = (bytes_eq-Decides k l).0 (sym (is_eq-slice_cmp k l) ∙ ap is_eq is) in
    rw same (sym (and_twice (is_one_of names l) (has_only names ms)))
has_only-put_at Greater names k l d e ms is later = rw later (and_swap (is_one_of names k) (is_one_of names l) (has_only names ms))

has_only-put : (names : List FieldName) (k : List ℕ) (d : Data) (ms : Members) → has_only names (put k d ms) ≡ (is_one_of names k && has_only names ms)
has_only-put names k d no_members = refl
has_only-put names k d (member l e ms) = has_only-put_at _ names k l d e ms refl (has_only-put names k d ms)

and_next : (a b c : Bool) → (a && (b && c)) ≡ ((b && a) && c)
and_next true true c = refl
and_next true false c = refl
and_next false true c = refl
and_next false false c = refl

pub has_only-members_data : (names : List FieldName) (ms : List (Bor (List ℕ) × Value Global)) (found : Members)
    → (list_all (λ m. is_one_of names m.0.now) ms && has_only names found) ≡ has_only names (members_data (members_view ms) found)
has_only-members_data names [] found = refl
has_only-members_data names (m ∷ ms) found =
    sym (and_next (list_all (λ m. is_one_of names m.0.now) ms) (is_one_of names m.0.now) (has_only names found))
    ∙ ap (λ b. list_all (λ m. is_one_of names m.0.now) ms && b) (sym (has_only-put names m.0.now (data_of (value_view m.1)) found))
    ∙ has_only-members_data names ms (put m.0.now (data_of (value_view m.1)) found)

-- ---- lines

-- the JSON that a text is
abbrev pub whole : List ℕ → Option json.Json
whole text = option_and_then (λ p. json.if_last p.0 p.1) (json.value max_depth (tokens text))

object_read : (o : Option json.Json) (j : json.Json) → o ≡ Some j
    → option_and_then only_object (option_and_then of_json o) ≡ if_so (is_some (as_object (data_of j)) && is_readable j) (data_of j)
object_read o j is = rw (is, of_json-data_of j) (split (is_some (as_object (data_of j))) (is_readable j) refl)
  where
    split : (object readable : Bool) → is_some (as_object (data_of j)) ≡ object → option_and_then only_object (if_so readable (data_of j)) ≡ if_so (object && readable) (data_of j)
    split true true is = rw is refl
    split true false is = refl
    split false true is = rw is refl
    split false false is = refl

pub object_in-text : (line : List ℕ) (j : json.Json) → IsUtf8 line → whole line ≡ Some j → object_in line ≡ if_so (is_some (as_object (data_of j)) && is_readable j) (data_of j)
object_in-text line j utf8 is = rw (is_utf8-from_IsUtf8 line utf8) (object_read (whole line) j is)

pub object_in-no_text : (line : List ℕ) → (IsUtf8 line → ⊥) → object_in line ≡ None
object_in-no_text line none = go (is_utf8 line) refl
  where
    go : (b : Bool) → is_utf8 line ≡ b → option_and_then only_object (if b then read line else None) ≡ None
    go true is = absurd (none (IsUtf8-from_is_utf8 line is))
    go false is = refl
