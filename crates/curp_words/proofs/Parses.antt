-- What clap makes of the words of a command line with one word and options: by its matches or its faults they ask for the
-- task that the definition gives.
use Rattle.std.proofs.Common.{◌≡◌, ◌≢◌, ◌∙◌, ◌&&◌, ◌||◌, ◌++◌, ℕ, Bool, cond, true, false, not, refl, sym, ap, ap₂, List, [], ◌∷◌, map, Option, Some, None, Result, Err, inl, inr, codes, true≢false, fold, subst, IfOk, IfErr, ok_or}
use Rattle.std.specs.Prelude.{find, option_and_then, option_map, slice_get}
use Rattle.std.specs.List.{list_all, list_any}
use Rattle.std.specs.Borrow.{Bor}
use Rattle.std.specs.Str.{bytes_eq}
use Rattle.std.proofs.lemmas.Slice.Eq.{bytes_eq-Decides}
use Rattle.clap.proofs.FaultLemmas.{leaf_fault}
use Rattle.clap.specs.Faults.{built_fault, check_fault, default_fault, defaults_fault, fault_of, given_default_fault, is_simple_and_free, settle_fault, walk_fault}
use Rattle.clap.specs.Kinds.{or_else}
use Rattle.clap.specs.Walk.{Held, Row, Rule, Text, Walk, arg_by_id, arg_by_index, arg_by_long, finished, first_of, has_row, more_values, nothing_held, rows_after, rows_of, settled, texts, walk, walk_from, walked, with_default}
use Rattle.clap.specs.Matches.{first_value, found_of}
use Rattle.clap.specs.declared.builder.value_parser.Reading.TheVariants.{AsWritten}
use Rattle.clap.specs.declared.parser.matches.ArgMatches.{ArgMatches}
use Rattle.clap.specs.declared.parser.matches.Found.{Found}
use Rattle.clap.specs.declared.parser.matches.ValueSource.TheVariants.{DefaultValue}
use Rattle.clap.proofs.WalkLemmas.{both, first_value-rows}
use Rattle.clap.specs.Simple.{App, argument_words, built, matches_of, names_of}
use Rattle.curp_base.specs.declared.failed.Failed.{Failed}
use Rattle.curp_base.specs.declared.failed.Failed.TheVariants as failed
use Rattle.curp_words.specs.Command.{IsRefused, ParserTakes, app_with}
use Rattle.curp_words.specs.Words.{GivenOptions, Options, given_from, if_once, is_among, is_given, is_once, is_text, is_well_formed, task_with, value_of}
use Rattle.curp_words.specs.declared.task.Task.{Task}
use Rattle.curp_words.specs.declared.task.Usage.{Usage}
use Rattle.curp_words.proofs.Walks.{Ends, Knows, all_agree, at_none, bare_built, by_test, flag_built, has_row_for, kinds_from, or_else_none, row_for, rows_for, rows_from, then_none, valued_built, with_rules}

-- ---- the rules

-- the rules of the parser of one word with these options, as building leaves them
abbrev pub rules_of : Options → List Rule
rules_of options = bare_built ∷ (map valued_built options.valued ++ map flag_built options.flags)

-- no option is named as the word is, and the parser builds and checks as one word with options does
pub record IsWord (options : Options) : Type 0 where
  pub valued : is_among options.valued (codes "command") ≡ false
  pub flags : is_among options.flags (codes "command") ≡ false
  pub is_built : built (app_with options) ≡ record { top = with_rules (rules_of options); subs = [] }
  pub all_words : (words : List Text) → argument_words (app_with options) words ≡ words
  pub is_free : is_simple_and_free (app_with options) ≡ true
  pub no_check : (rows : List Row) → check_fault (with_rules (rules_of options)) rows false ≡ []

same_text : (a b : Text) → bytes_eq a b ≡ true → a ≡ b
same_text a b = (bytes_eq-Decides a b).0

other_swap : (a b : Text) → bytes_eq a b ≡ false → bytes_eq b a ≡ false
other_swap a b other = by_test (bytes_eq b a)
    (λ same. absurd (true≢false (sym ((bytes_eq-Decides a b).1 (sym (same_text b a same))) ∙ other))) (λ e. e)

-- a name among others that is not the first of them, and one that none of them is
later : (n name : Text) (names : List Text) → bytes_eq n name ≡ false → is_among (n ∷ names) name ≡ true → is_among names name ≡ true
later n name names other e = sym (ap (λ b. b || is_among names name) other) ∙ e

none_later : (n name : Text) (names : List Text) → bytes_eq n name ≡ false → is_among (n ∷ names) name ≡ false → is_among names name ≡ false
none_later n name names other e = sym (ap (λ b. b || is_among names name) other) ∙ e

not_first : {P : Type 0} (n name : Text) (names : List Text) → bytes_eq n name ≡ true → is_among (n ∷ names) name ≡ false → P
not_first n name names same e = absurd (true≢false (sym (ap (λ b. b || is_among names name) same) ∙ e))

long_in : (names : List Text) (rest : List Rule) (name : Text) → is_among names name ≡ true
    → arg_by_long (map valued_built names ++ rest) name ≡ Some (valued_built name)
long_in [] rest name e = absurd (true≢false (sym e))
long_in (n ∷ names) rest name e = by_test (bytes_eq n name)
    (λ same. rw same (ap (λ (text : Text). Some (valued_built text)) (same_text n name same)))
    (λ other. rw other (long_in names rest name (later n name names other e)))

long_past : (names : List Text) (rest : List Rule) (name : Text) → is_among names name ≡ false
    → arg_by_long (map valued_built names ++ rest) name ≡ arg_by_long rest name
long_past [] rest name e = refl
long_past (n ∷ names) rest name e = by_test (bytes_eq n name)
    (λ same. not_first n name names same e)
    (λ other. rw other (long_past names rest name (none_later n name names other e)))

id_in : (names : List Text) (rest : List Rule) (name : Text) → is_among names name ≡ true
    → arg_by_id (map valued_built names ++ rest) name ≡ Some (valued_built name)
id_in [] rest name e = absurd (true≢false (sym e))
id_in (n ∷ names) rest name e = by_test (bytes_eq n name)
    (λ same. rw same (ap (λ (text : Text). Some (valued_built text)) (same_text n name same)))
    (λ other. rw other (id_in names rest name (later n name names other e)))

flag_in : (names : List Text) (name : Text) → is_among names name ≡ true → arg_by_long (map flag_built names) name ≡ Some (flag_built name)
flag_in [] name e = absurd (true≢false (sym e))
flag_in (n ∷ names) name e = by_test (bytes_eq n name)
    (λ same. rw same (ap (λ (text : Text). Some (flag_built text)) (same_text n name same)))
    (λ other. rw other (flag_in names name (later n name names other e)))

no_flag : (names : List Text) (name : Text) → is_among names name ≡ false → arg_by_long (map flag_built names) name ≡ None
no_flag [] name e = refl
no_flag (n ∷ names) name e = by_test (bytes_eq n name)
    (λ same. not_first n name names same e)
    (λ other. rw other (no_flag names name (none_later n name names other e)))

-- one rule alone has a place, and it is the first
placed_past : (place : ℕ) (valued flags : List Text) → arg_by_index (map valued_built valued ++ map flag_built flags) place ≡ None
placed_past place [] [] = refl
placed_past place [] (n ∷ names) = placed_past place [] names
placed_past place (n ∷ names) flags = placed_past place names flags

-- a name that none of these has
apart : (names : List Text) (name other : Text) → is_among names other ≡ false → is_among names name ≡ true → bytes_eq name other ≡ false
apart names name other none e = by_test (bytes_eq name other)
    (λ same. absurd (true≢false (sym e ∙ ap (is_among names) (same_text name other same) ∙ none))) (λ no_. no_)

knows : (options : Options) → IsWord options → Knows (rules_of options) options
knows options word = record {
  valued = λ name known. long_in options.valued (map flag_built options.flags) name known;
  flags = λ name other flag. long_past options.valued (map flag_built options.flags) name other ∙ flag_in options.flags name flag;
  others = λ name other none. long_past options.valued (map flag_built options.flags) name other ∙ no_flag options.flags name none;
  waiting = λ name known. by_id name known;
  command = refl;
  first = refl;
  second = placed_past 2 options.valued options.flags;
  valued_apart = λ name. valued_apart name;
  flags_apart = λ name. apart options.flags name (codes "command") word.flags;
}
  where
    valued_apart : (name : Text) → is_among options.valued name ≡ true → bytes_eq name (codes "command") ≡ false
    valued_apart name = apart options.valued name (codes "command") word.valued

    by_id : (name : Text) → is_among options.valued name ≡ true → arg_by_id (rules_of options) name ≡ Some (valued_built name)
    by_id name known = rw (other_swap name (codes "command") (valued_apart name known)) (id_in options.valued (map flag_built options.flags) name known)

-- ---- no default fails

or_true : (a : Bool) → (a || true) ≡ true
or_true true = refl
or_true false = refl

cond_same : {X : Type 0} (b : Bool) (x : X) → cond b x x ≡ x
cond_same true x = refl
cond_same false x = refl

valued_defaults_fault : (names : List Text) (rest : List Rule) → ((rows : List Row) → defaults_fault rows rest ≡ []) → (rows : List Row)
    → defaults_fault rows (map valued_built names ++ rest) ≡ []
unfolding defaults_fault
valued_defaults_fault [] rest none rows = none rows
valued_defaults_fault (n ∷ names) rest none rows =
    let here : default_fault rows (valued_built n) ≡ [] = ap (λ b. cond b [] (given_default_fault (valued_built n) [])) (or_true (has_row n rows)) in
    then_none _ _ here (valued_defaults_fault names rest none (with_default rows (valued_built n)))

flag_defaults_fault : (names : List Text) (rows : List Row) → defaults_fault rows (map flag_built names) ≡ []
unfolding defaults_fault
flag_defaults_fault [] rows = refl
flag_defaults_fault (n ∷ names) rows =
    then_none _ _ (cond_same (has_row n rows || false) []) (flag_defaults_fault names (with_default rows (flag_built n)))

bare_default_fault : (rows : List Row) (rest : List Rule) → ((rows : List Row) → defaults_fault rows rest ≡ []) → defaults_fault rows (bare_built ∷ rest) ≡ []
unfolding defaults_fault
bare_default_fault rows rest none =
    then_none _ _ (ap (λ b. cond b [] (given_default_fault bare_built [])) (or_true (has_row (codes "command") rows))) (none (with_default rows bare_built))

no_defaults_fault : (options : Options) (rows : List Row) → defaults_fault rows (rules_of options) ≡ []
no_defaults_fault options rows =
    bare_default_fault rows _ (valued_defaults_fault options.valued (map flag_built options.flags) (flag_defaults_fault options.flags))

-- ---- the rows at the end

-- the rows with the default of each flag that wasn't used
abbrev ended : List Text → List Row → List Row
ended flags rows = fold with_default rows (map flag_built flags)

valued_defaults : (names : List Text) (rest : List Rule) (rows : List Row) → fold with_default rows (map valued_built names ++ rest) ≡ fold with_default rows rest
valued_defaults [] rest rows = refl
valued_defaults (n ∷ names) rest rows =
    ap (λ (now : List Row). fold with_default now (map valued_built names ++ rest)) (cond_same (has_row n rows) rows) ∙ valued_defaults names rest rows

finished_is : (options : Options) (h : Held) → finished (rules_of options) h ≡ ended options.flags (settled (rules_of options) h).rows
finished_is options h =
    let rows : List Row = (settled (rules_of options) h).rows in
    ap (λ (now : List Row). fold with_default now (map valued_built options.valued ++ map flag_built options.flags)) (cond_same (has_row (codes "command") rows) rows)
    ∙ valued_defaults options.valued (map flag_built options.flags) rows

find_none : {X : Type 0} (p : X → Bool) (xs : List X) → list_any p xs ≡ false → find p xs ≡ None
find_none p [] e = refl
find_none p (x ∷ xs) e = by_test (p x)
    (λ yes_. absurd (true≢false (sym (ap (λ b. b || list_any p xs) yes_) ∙ e)))
    (λ no_. rw no_ (find_none p xs (sym (ap (λ b. b || list_any p xs) no_) ∙ e)))

find_push-miss : {X : Type 0} (p : X → Bool) (xs : List X) (x : X) → p x ≡ false → find p (xs ++ x ∷ []) ≡ find p xs
find_push-miss p [] x miss = rw miss refl
find_push-miss p (y ∷ ys) x miss = ap (λ rest. cond (p y) (Some y) rest) (find_push-miss p ys x miss)

find_push-hit : {X : Type 0} (p : X → Bool) (xs : List X) (x : X) → list_any p xs ≡ false → p x ≡ true → find p (xs ++ x ∷ []) ≡ Some x
find_push-hit p [] x none hit = rw hit refl
find_push-hit p (y ∷ ys) x none hit = by_test (p y)
    (λ yes_. absurd (true≢false (sym (ap (λ b. b || list_any p ys) yes_) ∙ none)))
    (λ no_. rw no_ (find_push-hit p ys x (sym (ap (λ b. b || list_any p ys) no_) ∙ none) hit))

-- the row of what is given once
find_row_for : (id : Text) (given : GivenOptions) → is_once given ≡ true
    → find (λ r. bytes_eq r.id id) (rows_for given) ≡ option_map row_for (find (λ value. bytes_eq value.0 id) given)
find_row_for id [] once = refl
find_row_for id (value ∷ given) once =
    let parts = both (not (is_given value.0 given)) (is_once given) once in
    by_test (bytes_eq value.0 id)
    (λ same. rw same (find_push-hit (λ r. bytes_eq r.id id) (rows_for given) (row_for value)
    (has_row_for id given ∙ ap (λ text. is_given text given) (sym (same_text value.0 id same)) ∙ not_given (is_given value.0 given) parts.0) same))
    (λ other. rw other (find_push-miss (λ r. bytes_eq r.id id) (rows_for given) (row_for value) other ∙ find_row_for id given parts.1))
  where
    not_given : (b : Bool) → not b ≡ true → b ≡ false
    not_given true e = sym e
    not_given false e = refl

first_of_given : (id : Text) (given : GivenOptions) → is_once given ≡ true → first_of id (rows_for given) ≡ value_of given id
first_of_given id given once =
    ap (option_and_then (λ (r : Row). slice_get r.values 0)) (find_row_for id given once) ∙ go (find (λ value. bytes_eq value.0 id) given)
  where
    go : (o : Option (Text × Text)) → option_and_then (λ (r : Row). slice_get r.values 0) (option_map row_for o) ≡ option_map (λ value. value.1) o
    go None = refl
    go (Some value) = refl

-- ---- the default of a flag

abbrev default_row : Text → Row
default_row name = record { id = name; values = codes "false" ∷ []; count = None; source = Some DefaultValue; reading = AsWritten }

unused : (name : Text) (rows : List Row) → has_row name rows ≡ false → with_default rows (flag_built name) ≡ rows ++ default_row name ∷ []
unused name rows none = rw none (at_none name (more_values DefaultValue (codes "false" ∷ [])) (default_row name ∷ []) rows none)

used : (name : Text) (rows : List Row) → has_row name rows ≡ true → with_default rows (flag_built name) ≡ rows
used name rows there = rw there refl

-- it changes no other value
other_value : (name id : Text) (rows : List Row) → bytes_eq name id ≡ false → first_of id (with_default rows (flag_built name)) ≡ first_of id rows
other_value name id rows other = by_test (has_row name rows)
    (λ there. ap (first_of id) (used name rows there))
    (λ none. ap (first_of id) (unused name rows none)
    ∙ ap (option_and_then (λ (r : Row). slice_get r.values 0)) (find_push-miss (λ r. bytes_eq r.id id) rows (default_row name) other))

other_values : (flags : List Text) (id : Text) (rows : List Row) → is_among flags id ≡ false → first_of id (ended flags rows) ≡ first_of id rows
other_values [] id rows none = refl
other_values (n ∷ flags) id rows none = by_test (bytes_eq n id)
    (λ same. not_first n id flags same none)
    (λ other. other_values flags id (with_default rows (flag_built n)) (none_later n id flags other none) ∙ other_value n id rows other)

abbrev is_true : Text → List Row → Bool
is_true id rows = is_text (codes "true") (first_of id rows)

-- and it makes no value `true`
true_value : (name id : Text) (rows : List Row) → is_true id (with_default rows (flag_built name)) ≡ is_true id rows
true_value name id rows = by_test (bytes_eq name id)
    (λ same. by_test (has_row name rows)
    (λ there. ap (is_true id) (used name rows there))
    (λ none. ap (is_true id) (unused name rows none) ∙ fresh same (ap (λ text. has_row text rows) (sym (same_text name id same)) ∙ none)))
    (λ other. ap (is_text (codes "true")) (other_value name id rows other))
  where
    fresh : bytes_eq name id ≡ true → has_row id rows ≡ false → is_true id (rows ++ default_row name ∷ []) ≡ is_true id rows
    fresh same none =
        ap (λ o. is_text (codes "true") (option_and_then (λ (r : Row). slice_get r.values 0) o))
        (find_push-hit (λ r. bytes_eq r.id id) rows (default_row name) none same)
        ∙ ap (λ o. is_text (codes "true") (option_and_then (λ (r : Row). slice_get r.values 0) o)) (sym (find_none (λ r. bytes_eq r.id id) rows none))

true_values : (flags : List Text) (id : Text) (rows : List Row) → is_true id (ended flags rows) ≡ is_true id rows
true_values [] id rows = refl
true_values (n ∷ flags) id rows = true_values flags id (with_default rows (flag_built n)) ∙ true_value n id rows

-- ---- the task

-- two ways to look up the values of options: they may differ at a flag that is not used
pub record SameValues (options : Options) (f g : Text → Option Text) : Type 0 where
  pub values : (id : Text) → is_among options.flags id ≡ false → f id ≡ g id
  pub flags : (id : Text) → is_text (codes "true") (f id) ≡ is_text (codes "true") (g id)

-- the values of a parse
same_values : (options : Options) (found : Found) (given : GivenOptions) → is_once given ≡ true → rows_of found ≡ ended options.flags (rows_for given)
    → SameValues options (value_of given) (first_value found)
same_values options found given once is = record {
  values = λ id none. sym (first_of_given id given once) ∙ sym (other_values options.flags id (rows_for given) none) ∙ read id;
  flags = λ id. ap (is_text (codes "true")) (sym (first_of_given id given once)) ∙ sym (true_values options.flags id (rows_for given))
      ∙ ap (is_text (codes "true")) (read id);
}
  where
    read : (id : Text) → first_of id (ended options.flags (rows_for given)) ≡ first_value found id
    read id = ap (first_of id) (sym is) ∙ sym (first_value-rows found id)

-- the task of a word with these options, which has the same values as a task either way
pub record ReadsBy (options : Options) (task : (Text → Option Text) → Option Task) : Type 0 where
  pub word : IsWord options
  pub same : (f g : Text → Option Text) → SameValues options f g → task f ≡ task g

module _ (options : Options) (task : (Text → Option Text) → Option Task) (reads_by : ReadsBy options task) where
  abbrev rules : List Rule
  rules = rules_of options

  abbrev start : Walk
  start = walk_from nothing_held

  -- the faults of the command are those of its walk
  fault_is : (words : List Text) → fault_of (app_with options) words ≡ kinds_from rules start words
  fault_is words =
      let end : Held = (fold (walked rules []) start words).held in
      let after : or_else (defaults_fault (settled rules end).rows rules) (check_fault (with_rules rules) (finished rules end) false) ≡ []
      = then_none _ _ (no_defaults_fault options (settled rules end).rows) (reads_by.word.no_check (finished rules end)) in
      ap₂ (λ (app : App) texts. built_fault app nothing_held texts) reads_by.word.is_built (reads_by.word.all_words words)
      ∙ leaf_fault (record { top = with_rules rules; subs = [] }) nothing_held words refl
      ∙ ap (λ kinds. or_else (walk_fault (with_rules rules) [] start words) (or_else (settle_fault rules false end) kinds)) after
      ∙ ap (λ kinds. or_else (walk_fault (with_rules rules) [] start words) kinds) (or_else_none (settle_fault rules false end))

  -- what the words ask for, where the parser takes them, and where it doesn't
  abbrev then_task : Option GivenOptions → Option Task
  then_task o = option_and_then (λ given. task (value_of given)) (option_and_then if_once o)

  task_is : (words : List Text) → list_all is_well_formed words ≡ true → task_with options task words ≡ then_task (given_from options None [] words)
  task_is words well = rw well refl

  taken : (words : List Text) (matches : ArgMatches) → ParserTakes (app_with options) words matches
      → task_with options task words ≡ task (first_value (found_of matches))
  taken words matches is =
      task_is words is.well ∙ go (given_from options None [] words) (all_agree rules options (knows options reads_by.word) words is.well)
    where
      found : Found
      found = found_of matches

      once_order : (given : GivenOptions) → is_once given ≡ true → rows_of found ≡ ended options.flags (rows_for given)
          → then_task (Some given) ≡ task (first_value found)
      once_order given once rows = rw once (reads_by.same (value_of given) (first_value found) (same_values options found given once rows))

      ends : matches_of (app_with options) words ≡ ended options.flags (rows_from rules start words)
      ends = ap₂ (λ (app : App) texts. rows_after app.top.rules (names_of app) texts) reads_by.word.is_built (reads_by.word.all_words words) ∙ finished_is options (walk rules [] nothing_held words).held

      go : (o : Option GivenOptions) → Ends rules (kinds_from rules start words) (rows_from rules start words) o → then_task o ≡ task (first_value found)
      go None fails = absurd (fails (sym (fault_is words) ∙ is.no_fault))
      go (Some given) (inr twice) = absurd (twice.1 (sym (fault_is words) ∙ is.no_fault))
      go (Some given) (inl once) = once_order given once.0 (is.rows ∙ ends ∙ ap (ended options.flags) once.2)

  refused : (words : List Text) → IsRefused (app_with options) words → task_with options task words ≡ None
  refused words (inl bad) = rw bad refl
  refused words (inr fails) = by_test (list_all is_well_formed words)
      (λ well. task_is words well ∙ go (given_from options None [] words) (all_agree rules options (knows options reads_by.word) words well))
      (λ bad. rw bad refl)
    where
      go : (o : Option GivenOptions) → Ends rules (kinds_from rules start words) (rows_from rules start words) o → then_task o ≡ None
      go None e = refl
      go (Some given) (inl once) = absurd (fails (fault_is words ∙ once.1))
      go (Some given) (inr twice) = rw twice.0 refl

  abbrev HasTask : List Text → Result Task (Failed Usage) → Type 0
  HasTask words r = IfOk r (λ made. task_with options task words ≡ Some made)

  abbrev HasNone : List Text → Result Task (Failed Usage) → Type 0
  HasNone words r = IfErr r (λ error. error ≢ failed.NoMemory → task_with options task words ≡ None)

  -- an option as a result
  as_result : (words : List Text) (o : Option Task) → task_with options task words ≡ o → HasTask words (ok_or o (failed.Because (record {}))) × HasNone words (ok_or o (failed.Because (record {})))
  as_result words None e = (tt, λ other. e)
  as_result words (Some made) e = (e, tt)

  -- what is read of the matches of the words, or of their fault
  module _ (app : App) (app_is : app ≡ app_with options) (words : List Text) where
    pub by_matches : (matches : ArgMatches) → (is_simple_and_free app ≡ true → ParserTakes app words matches) → (o : Option Task)
        → o ≡ task (first_value (found_of matches)) → (r : Result Task (Failed Usage)) → r ≡ ok_or o (failed.Because (record {})) → HasTask words r × HasNone words r
    by_matches matches takes o reads r is =
        subst (λ result. HasTask words result × HasNone words result) (sym is)
        (as_result words o (taken words matches (subst (λ (a : App). ParserTakes a words matches) app_is (takes (ap is_simple_and_free app_is ∙ reads_by.word.is_free))) ∙ sym reads))

    pub by_fault : (error : Failed Usage) → (is_simple_and_free app ≡ true → error ≢ failed.NoMemory → IsRefused app words)
        → (r : Result Task (Failed Usage)) → r ≡ Err error → HasNone words r
    by_fault error refuses r is =
        subst (HasNone words) (sym is)
        (λ other. refused words (subst (λ (a : App). IsRefused a words) app_is (refuses (ap is_simple_and_free app_is ∙ reads_by.word.is_free) other)))

pub all_texts : (p : Text → Bool) (words : List (Bor Text)) → list_all (λ word. p word.now) words ≡ list_all p (texts words)
all_texts p [] = refl
all_texts p (word ∷ words) = ap (λ b. p word.now && b) (all_texts p words)
