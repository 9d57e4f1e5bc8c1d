-- What clap makes of the words of a command with one word, options and flags: its walk over them gives what `given_from`
-- says, and fails where that says that nothing is given, or something twice.
use Rattle.std.proofs.Common.{◌≡◌, ◌∙◌, ◌⊎◌, ◌&&◌, ◌||◌, ◌++◌, ℕ, Bool, cond, true, false, not, refl, sym, ap, ap₂, subst, List, [], ◌∷◌, Option, Some, None, inl, inr, codes, true≢false, append-nil, fold}
use Rattle.std.specs.Prelude.{option_and_then, nat_lt, is_some, unwrap_or, ⊤}
use Rattle.std.specs.List.{list_all}
use Rattle.std.specs.Option.{option_map_or}
use Rattle.std.specs.Str.{bytes_eq}
use Rattle.std.proofs.lemmas.List.Folds.{list_any-append}
use Rattle.std.proofs.lemmas.Slice.Eq.{bytes_eq-Decides}
use Rattle.clap.specs.Lexer.{long_of, short_of, strip_byte}
use Rattle.clap.specs.Kinds.{Kinds, or_else}
use Rattle.clap.specs.Walk.{Held, Row, Rule, Text, Waiting, Walk, next as next_step, after_flag, after_step, long_met, arg_by_id, arg_by_index, arg_by_long, at_row, has_row, idle, is_pending, long_word, more_values, nothing_held, option, option_word, plain_word, pushed, reacted, settled, subcommand_met, to_positional, used, used_by_id, walk_from, walked, with_values, without}
use Rattle.clap.specs.Faults.{long_fault, positional_fault, react_fault, repeat_fault, settle_fault, step_fault, turn_fault, use_fault, walk_fault}
use Rattle.clap.proofs.FaultLemmas.{past}
use Rattle.clap.proofs.WalkLemmas.{both}
use Rattle.clap.specs.Simple.{Shape, filled, with_index}
use Rattle.clap.specs.declared.builder.value_parser.Reading.TheVariants.{AsWritten}
use Rattle.clap.specs.declared.error.kind.ErrorKind.TheVariants as kind
use Rattle.clap.specs.declared.parser.matches.ValueSource.TheVariants.{CommandLine}
use Rattle.curp_words.specs.Command.{bare_rule, flag_rule, valued_rule}
use Rattle.curp_words.specs.Words.{GivenOptions, Options, OptionsRead, given_from, gives, is_among, is_given, is_once, is_well_formed, with_next, with_option}

-- ---- tests

or_false : (a : Bool) → (a || false) ≡ a
or_false true = refl
or_false false = refl

and_false : (a : Bool) → (a && false) ≡ false
and_false true = refl
and_false false = refl

or_swap : (a b : Bool) → (a || b) ≡ (b || a)
or_swap true true = refl
or_swap true false = refl
or_swap false true = refl
or_swap false false = refl

-- each way of a test
pub by_test : {P : Type 0} (b : Bool) → (b ≡ true → P) → (b ≡ false → P) → P
by_test true yes_ no_ = yes_ refl
by_test false yes_ no_ = no_ refl

-- ---- kinds

fails_first : (a b : Kinds) → (a ≡ [] → ⊥) → or_else a b ≡ [] → ⊥
fails_first [] b fails e = fails refl
fails_first (k ∷ ks) b fails e = fails e

pub then_none : (a b : Kinds) → a ≡ [] → b ≡ [] → or_else a b ≡ []
then_none a b x y = rw (x, y) refl

pub or_else_none : (a : Kinds) → or_else a [] ≡ a
or_else_none [] = refl
or_else_none (k ∷ ks) = refl

is_cons : {X : Type 0} → List X → Bool
is_cons [] = false
is_cons (x ∷ xs) = true

cons≢nil : {X : Type 0} {x : X} {xs : List X} → x ∷ xs ≡ [] → ⊥
unfolding is_cons
cons≢nil e = true≢false (ap is_cons e)

-- ---- rows

-- the row of a value
abbrev pub row_for : Text × Text → Row
row_for value = record { id = value.0; values = value.1 ∷ []; count = None; source = Some CommandLine; reading = AsWritten }

-- the rows of what is given
abbrev pub rows_for : GivenOptions → List Row
rows_for [] = []
rows_for (value ∷ given) = rows_for given ++ row_for value ∷ []

pub has_row_for : (id : Text) (given : GivenOptions) → has_row id (rows_for given) ≡ is_given id given
has_row_for id [] = refl
has_row_for id (value ∷ given) =
    list_any-append (λ r. bytes_eq r.id id) (rows_for given) (row_for value ∷ [])
    ∙ ap₂ (λ a b. a || b) (has_row_for id given) (or_false (bytes_eq value.0 id)) ∙ or_swap (is_given id given) (bytes_eq value.0 id)

-- where no row has the id, the row that is missing joins
pub at_none : (id : Text) (change : Row → List Row) (missing rows : List Row) → has_row id rows ≡ false → at_row id change missing rows ≡ rows ++ missing
at_none id change missing [] none = refl
at_none id change missing (r ∷ rs) none = by_test (bytes_eq r.id id)
    (λ same. absurd (true≢false (sym (ap (λ b. b || has_row id rs) same) ∙ none)))
    (λ other. rw other (ap (λ rest. r ∷ rest) (at_none id change missing rs (sym (ap (λ b. b || has_row id rs) other) ∙ none))))

-- ---- one use

-- a step's kinds and the rows after it are those of what is given: none where nothing is given twice, and else some
abbrev pub FollowsOnce : Kinds → List Row → GivenOptions → Type 0
FollowsOnce kinds rows given = ((is_once given ≡ true) × (kinds ≡ []) × (rows ≡ rows_for given)) ⊎ ((is_once given ≡ false) × (kinds ≡ [] → ⊥))

used_once : (id value : Text) (rows : List Row) (given : GivenOptions) → is_once given ≡ true → rows ≡ rows_for given
    → FollowsOnce (repeat_fault false id rows) (with_values id AsWritten CommandLine (value ∷ []) (without id rows)) ((id, value) ∷ given)
used_once id value rows given once is = by_test (is_given id given) twice fresh
  where
    has : has_row id rows ≡ is_given id given
    has = ap (has_row id) is ∙ has_row_for id given

    twice : is_given id given ≡ true → FollowsOnce (repeat_fault false id rows) (with_values id AsWritten CommandLine (value ∷ []) (without id rows)) ((id, value) ∷ given)
    twice there = rw (has, there) (inr (refl, cons≢nil))

    fresh : is_given id given ≡ false → FollowsOnce (repeat_fault false id rows) (with_values id AsWritten CommandLine (value ∷ []) (without id rows)) ((id, value) ∷ given)
    fresh none =
        let nowhere = has ∙ none in
        let kept : without id rows ≡ rows = at_none id (λ _. []) [] rows nowhere ∙ append-nil rows in
        inl (
          rw (none, once) refl,
          rw nowhere refl,
          ap (with_values id AsWritten CommandLine (value ∷ [])) kept
              ∙ at_none id (more_values CommandLine (value ∷ [])) (row_for (id, value) ∷ []) rows nowhere ∙ ap (λ r. r ++ row_for (id, value) ∷ []) is,
        )

-- ---- the command

-- the rules as building leaves them
abbrev pub bare_built : Rule
bare_built = with_index 1 (filled (bare_rule (codes "command")))

abbrev pub valued_built : Text → Rule
valued_built name = filled (valued_rule name)

abbrev pub flag_built : Text → Rule
flag_built name = filled (flag_rule name)

-- the rules are those of the one word and of the options
pub record Knows (c : List Rule) (options : Options) : Type 0 where
  pub valued : (name : Text) → is_among options.valued name ≡ true → arg_by_long c name ≡ Some (valued_built name)
  pub flags : (name : Text) → is_among options.valued name ≡ false → is_among options.flags name ≡ true → arg_by_long c name ≡ Some (flag_built name)
  pub others : (name : Text) → is_among options.valued name ≡ false → is_among options.flags name ≡ false → arg_by_long c name ≡ None
  pub waiting : (name : Text) → is_among options.valued name ≡ true → arg_by_id c name ≡ Some (valued_built name)
  pub command : arg_by_id c (codes "command") ≡ Some bare_built
  pub first : arg_by_index c 1 ≡ Some bare_built
  pub second : arg_by_index c 2 ≡ None
  pub valued_apart : (name : Text) → is_among options.valued name ≡ true → bytes_eq name (codes "command") ≡ false
  pub flags_apart : (name : Text) → is_among options.flags name ≡ true → bytes_eq name (codes "command") ≡ false

-- a command with these rules, built
abbrev pub with_rules : List Rule → Shape
with_rules c = record {
  name = codes "curp";
  aliases = [];
  rules = c;
  is_plain = true;
  is_leaf = true;
  no_binary_name = true;
  disable_help_flag = true;
  disable_help_subcommand = true;
  disable_version_flag = false;
  propagate_version = false;
  has_version = false;
  has_long_version = false;
  args_override_self = false;
  arg_required_else_help = false;
  subcommand_required = false;
  subcommand_negates_reqs = false;
  is_built = true;
}

-- ---- words

abbrev dashes : Text
dashes = 45 ∷ 45 ∷ []

some≢none : {X : Type 0} {x : X} → Some x ≡ None → ⊥
some≢none e = true≢false (ap (λ o. is_some o) e)

not_dashes : (word : Text) → (word ≡ dashes → ⊥) → bytes_eq word dashes ≡ false
not_dashes word other = by_test (bytes_eq word dashes) (λ same. absurd (other ((bytes_eq-Decides word dashes).0 same))) (λ e. e)

abbrev IsOption : Text → Text → Option Text → Type 0
IsOption word name v = (long_of word ≡ Some (name, v)) × (bytes_eq word dashes ≡ false)

abbrev IsBare : Text → Type 0
IsBare word = (long_of word ≡ None) × (short_of word ≡ None) × (bytes_eq word dashes ≡ false)

-- a well-formed word is an option, or has no hyphen
word_is : (word : Text) → is_well_formed word ≡ true → ((name : Text) × (v : Option Text) × IsOption word name v) ⊎ IsBare word
word_is word well = go (long_of word) refl
  where
    bare : (o : Option Text) → strip_byte 45 word ≡ o → long_of word ≡ None → IsBare word
    bare None e long = (long, ap (option_and_then _) e, not_dashes word (λ same. some≢none (sym (ap (strip_byte 45) same) ∙ e)))
    bare (Some rest) e long =
        let bad : false ≡ true = sym (ap₂ (λ a b. is_some a || not (is_some b)) long e) ∙ well in
        absurd (true≢false (sym bad))

    go : (o : Option (Text × Option Text)) → long_of word ≡ o → ((name : Text) × (v : Option Text) × IsOption word name v) ⊎ IsBare word
    go (Some p) e = inl (p.0, p.1, (e, not_dashes word (λ same. some≢none (sym e ∙ ap long_of same))))
    go None e = inr (bare (strip_byte 45 word) refl e)

-- ---- one step

module _ (c : List Rule) where
  -- where a walk stands that nothing stopped
  abbrev stands : Held → Waiting → ℕ → Walk
  stands h waiting position = record { held = h; waiting = waiting; position = position; is_trailing = false; stopped = None }

  no_subcommand : (waiting : Waiting) (word : Text) → subcommand_met [] waiting word ≡ None
  no_subcommand idle word = refl
  no_subcommand (option id) word = refl
  no_subcommand Rattle.clap.specs.Walk.positional word = refl

  abbrev fault_at : Walk → Text → Kinds
  fault_at w word = turn_fault (with_rules c) [] w word

  option_turn : (h : Held) (x : Waiting) (p : ℕ) (word name : Text) (v : Option Text) → IsOption word name v
      → fault_at (stands h x p) word ≡ or_else (long_fault c false (arg_by_long c name) v h) (step_fault (with_rules c) p (long_word c x word name v h).0 (long_word c x word name v h).1)
  option_turn h x p word name v is = rw (no_subcommand x word, is.1, is.0) refl

  option_walk : (h : Held) (x : Waiting) (p : ℕ) (word name : Text) (v : Option Text) → IsOption word name v
      → walked c [] (stands h x p) word ≡ after_step c word (stands h x p) (long_word c x word name v h).0 (long_word c x word name v h).1
  unfolding walked
  option_walk h x p word name v is = rw (no_subcommand x word, is.1, is.0) refl

  bare_turn : (h : Held) (x : Waiting) (p : ℕ) (word : Text) → IsBare word
      → fault_at (stands h x p) word ≡ step_fault (with_rules c) p (plain_word c x word h).0 (plain_word c x word h).1
  bare_turn h x p word is = rw (no_subcommand x word, is.2, is.0, is.1) refl

  bare_walk : (h : Held) (x : Waiting) (p : ℕ) (word : Text) → IsBare word
      → walked c [] (stands h x p) word ≡ after_step c word (stands h x p) (plain_word c x word h).0 (plain_word c x word h).1
  unfolding walked
  bare_walk h x p word is = rw (no_subcommand x word, is.2, is.0, is.1) refl

  -- ---- all steps

  -- the kinds of a walk over the words, with what is pending at its end, and the rows then
  abbrev pub kinds_from : Walk → List Text → Kinds
  kinds_from w words = or_else (walk_fault (with_rules c) [] w words) (settle_fault c false (fold (walked c []) w words).held)

  abbrev pub rows_from : Walk → List Text → List Row
  rows_from w words = (settled c (fold (walked c []) w words).held).rows

  -- the walk fails where nothing is given or something twice, and else it ends with the rows of what is given
  abbrev pub Ends : Kinds → List Row → Option GivenOptions → Type 0
  Ends kinds rows None = kinds ≡ [] → ⊥
  Ends kinds rows (Some given) = FollowsOnce kinds rows given

  abbrev IsTwice : Option GivenOptions → Type 0
  IsTwice None = ⊤
  IsTwice (Some given) = is_once given ≡ false

  ends_failed : (kinds : Kinds) (rows : List Row) (o : Option GivenOptions) → (kinds ≡ [] → ⊥) → IsTwice o → Ends kinds rows o
  ends_failed kinds rows None fails twice = fails
  ends_failed kinds rows (Some given) fails twice = inr (twice, fails)

  moves : (w after : Walk) (word : Text) (rest : List Text) (o : Option GivenOptions) → fault_at w word ≡ [] → walked c [] w word ≡ after
      → Ends (kinds_from after rest) (rows_from after rest) o → Ends (kinds_from w (word ∷ rest)) (rows_from w (word ∷ rest)) o
  unfolding walk_fault
  moves w after word rest o none is ends =
      subst (λ (kinds : Kinds). Ends (or_else (or_else kinds (walk_fault (with_rules c) [] (walked c [] w word) rest))
      (settle_fault c false (fold (walked c []) (walked c [] w word) rest).held)) (rows_from (walked c [] w word) rest) o)
      (sym none) (subst (λ (next : Walk). Ends (kinds_from next rest) (rows_from next rest) o) (sym is) ends)

  fails_at : (w : Walk) (word : Text) (rest : List Text) (o : Option GivenOptions) → (fault_at w word ≡ [] → ⊥) → IsTwice o
      → Ends (kinds_from w (word ∷ rest)) (rows_from w (word ∷ rest)) o
  unfolding walk_fault
  fails_at w word rest o fails twice = ends_failed _ _ o (fails_first _ _ (fails_first _ _ fails)) twice

  -- what was given twice stays so
  module _ (options : Options) where
    twice_more : (x : Text × Text) (given : GivenOptions) → is_once given ≡ false → is_once (x ∷ given) ≡ false
    twice_more x given twice = ap (λ b. not (is_given x.0 given) && b) twice ∙ and_false (not (is_given x.0 given))

    abbrev IsStillTwice : Option OptionsRead → Type 0
    IsStillTwice None = ⊤
    IsStillTwice (Some reading) = is_once reading.given ≡ false

    option_twice : (given : GivenOptions) (name : Text) (v : Option Text) → is_once given ≡ false → IsStillTwice (with_option options given name v)
    option_twice given name (Some v) twice = go (is_among options.valued name)
      where
        go : (b : Bool) → IsStillTwice (cond b (Some (gives ((name, v) ∷ given))) None)
        go true = twice_more (name, v) given twice
        go false = tt
    option_twice given name None twice = go (is_among options.valued name) (is_among options.flags name)
      where
        go : (a b : Bool) → IsStillTwice (cond a (Some (record { given = given; waiting = Some name })) (cond b (Some (gives ((name, codes "true") ∷ given))) None))
        go true b = twice
        go false true = twice_more (name, codes "true") given twice
        go false false = tt

    next_twice : (waiting : Option Text) (given : GivenOptions) (word : Text) (o : Option (Text × Option Text)) → is_once given ≡ false
        → IsStillTwice (with_next options waiting given word o)
    next_twice waiting given word None twice = twice_more (unwrap_or waiting (codes "command"), word) given twice
    next_twice None given word (Some p) twice = option_twice given p.0 p.1 twice
    next_twice (Some name) given word (Some p) twice = tt

    go_on_twice : (words : List Text) → ((waiting : Option Text) (given : GivenOptions) → is_once given ≡ false → IsTwice (given_from options waiting given words))
        → (o : Option OptionsRead) → IsStillTwice o → IsTwice (option_and_then (λ (reading : OptionsRead). given_from options reading.waiting reading.given words) o)
    go_on_twice words rest None h = tt
    go_on_twice words rest (Some reading) h = rest reading.waiting reading.given h

    from_twice : (words : List Text) (waiting : Option Text) (given : GivenOptions) → is_once given ≡ false → IsTwice (given_from options waiting given words)
    from_twice [] None given twice = twice
    from_twice [] (Some name) given twice = tt
    from_twice (word ∷ words) None given twice =
        go_on_twice words (from_twice words) (with_next options None given word (long_of word)) (next_twice None given word (long_of word) twice)
    from_twice (word ∷ words) (Some name) given twice =
        go_on_twice words (from_twice words) (with_next options (Some name) given word (long_of word)) (next_twice (Some name) given word (long_of word) twice)

    -- ---- a step that follows

    module _ (knows : Knows c options) where
      -- the place of the next word that stands for itself
      abbrev position_of : GivenOptions → ℕ
      position_of given = cond (is_given (codes "command") given) 2 1

      -- an option waits for its value
      abbrev waits : Text → List Row → ℕ → Held
      waits name rows skip = record { rows = rows; pending = Some (name, []); skip = skip }

      abbrev FollowsIdle : Walk → GivenOptions → Type 0
      FollowsIdle w given = (h : Held) × (w ≡ stands h idle (position_of given)) × FollowsOnce (settle_fault c false h) (settled c h).rows given

      abbrev FollowsWaiting : Walk → Text → GivenOptions → Type 0
      FollowsWaiting w name given = (rows : List Row) × (skip : ℕ) × (w ≡ stands (waits name rows skip) (option name) (position_of given))
          × (is_once given ≡ true) × (rows ≡ rows_for given) × (is_among options.valued name ≡ true)

      -- the walk stands where so much is given, and this option waits
      abbrev Follows : Walk → Option Text → GivenOptions → Type 0
      Follows w None given = FollowsIdle w given
      Follows w (Some name) given = FollowsWaiting w name given

      -- from there on the words end it as they should
      abbrev Rest : List Text → Type 0
      Rest words = (w : Walk) (waiting : Option Text) (given : GivenOptions) → Follows w waiting given
          → Ends (kinds_from w words) (rows_from w words) (given_from options waiting given words)

      follows_as : (kinds others : Kinds) (rows more : List Row) (given : GivenOptions) → kinds ≡ others → rows ≡ more → FollowsOnce others more given
          → FollowsOnce kinds rows given
      follows_as kinds others rows more given e f follows = rw (e, f) follows

      -- a value that is pending
      pending_value : (a : Rule) (id value : Text) (rows : List Row) (skip : ℕ) (given : GivenOptions) → arg_by_id c id ≡ Some a
          → use_fault false a (value ∷ []) rows ≡ repeat_fault false id rows
          → used a (value ∷ []) rows ≡ with_values id AsWritten CommandLine (value ∷ []) (without id rows)
          → is_once given ≡ true → rows ≡ rows_for given
          → (let h : Held = record { rows = rows; pending = Some (id, value ∷ []); skip = skip } in
          FollowsOnce (settle_fault c false h) (settled c h).rows ((id, value) ∷ given))
      pending_value a id value rows skip given by_id fault is_used once is =
          follows_as _ _ _ _ ((id, value) ∷ given)
          (ap (λ (o : Option Rule). option_map_or (λ (b : Rule). use_fault false b (value ∷ []) rows) o []) by_id ∙ fault)
          (ap (λ (o : Option Rule). used_by_id o (value ∷ []) rows) by_id ∙ is_used)
          (used_once id value rows given once is)

      valued_use : (name value : Text) (rows : List Row) → use_fault false (valued_built name) (value ∷ []) rows ≡ repeat_fault false name rows
      valued_use name value rows = or_else_none (repeat_fault false name rows)

      bare_use : (value : Text) (rows : List Row) → use_fault false bare_built (value ∷ []) rows ≡ repeat_fault false (codes "command") rows
      bare_use value rows = or_else_none (repeat_fault false (codes "command") rows)

      flag_use : (name : Text) (rows : List Row) → use_fault false (flag_built name) [] rows ≡ repeat_fault false name rows
      flag_use name rows = or_else_none (repeat_fault false name rows)

      valued_used : (name value : Text) (rows : List Row)
          → used (valued_built name) (value ∷ []) rows ≡ with_values name AsWritten CommandLine (value ∷ []) (without name rows)
      valued_used name value rows = refl

      flag_used : (name : Text) (rows : List Row)
          → used (flag_built name) [] rows ≡ with_values name AsWritten CommandLine (codes "true" ∷ []) (without name rows)
      flag_used name rows = refl

      -- a word that stands for itself, where one was given, and where none was
      module _ (h : Held) (given : GivenOptions) (word : Text) (rest : List Text) (is : IsBare word) (next : Rest rest) where
        abbrev command : Text × Text
        command = (codes "command", word)

        second_word : is_given (codes "command") given ≡ true
            → Ends (kinds_from (stands h idle 2) (word ∷ rest)) (rows_from (stands h idle 2) (word ∷ rest)) (given_from options None (command ∷ given) rest)
        second_word there =
            let fault_is : fault_at (stands h idle 2) word ≡ kind.UnknownArgument ∷ [] = bare_turn h idle 2 word is
            ∙ ap (λ (o : Option Rule). option_map_or (λ (a : Rule). positional_fault c false a h) o (kind.UnknownArgument ∷ [])) knows.second in
            fails_at (stands h idle 2) word rest _ (λ e. cons≢nil (sym fault_is ∙ e))
            (from_twice rest None (command ∷ given) (ap (λ b. not b && is_once given) there))

        first_word : is_given (codes "command") given ≡ false → FollowsOnce (settle_fault c false h) (settled c h).rows given
            → Ends (kinds_from (stands h idle 1) (word ∷ rest)) (rows_from (stands h idle 1) (word ∷ rest)) (given_from options None (command ∷ given) rest)
        first_word none follows = elim follows [
          | inr twice ↦ fails_at (stands h idle 1) word rest _ (λ e. twice.1 (sym fault_is ∙ e)) (from_twice rest None (command ∷ given) (twice_more command given twice.0))
          | inl once ↦ moves (stands h idle 1) (stands after idle 2) word rest _ (fault_is ∙ once.1) walk_is
              (next (stands after idle 2) None (command ∷ given) (
                after,
                refl,
                pending_value bare_built (codes "command") word (settled c h).rows h.skip given knows.command (bare_use word (settled c h).rows) refl once.0 once.2,
              ))
        ]
          where
            after : Held
            after = pushed (codes "command") word (settled c h)

            fault_is : fault_at (stands h idle 1) word ≡ settle_fault c false h
            fault_is = bare_turn h idle 1 word is
                ∙ ap (λ (o : Option Rule). option_map_or (λ (a : Rule). positional_fault c false a h) o (kind.UnknownArgument ∷ [])) knows.first
                ∙ ap (λ b. cond b [] (settle_fault c false h)) (and_false (is_pending bare_built h.pending))

            walk_is : walked c [] (stands h idle 1) word ≡ stands after idle 2
            walk_is = bare_walk h idle 1 word is
                ∙ ap (λ (o : Option Rule). to_positional c o word (stands h idle 1) h) knows.first
                ∙ ap (λ b. stands (pushed (codes "command") word (cond b h (settled c h))) idle 2) (and_false (is_pending bare_built h.pending))

      -- an option, where no other waits
      module _ (h : Held) (given : GivenOptions) (word name : Text) (v : Option Text) (rest : List Text) (is : IsOption word name v) (next : Rest rest) where
        abbrev here : Walk
        here = stands h idle (position_of given)

        abbrev turn_by : Option Rule → Kinds
        turn_by o = or_else (long_fault c false o v h)
            (step_fault (with_rules c) (position_of given) (after_flag c idle word (long_met c o v h).0 (long_met c o v h).1).0
            (after_flag c idle word (long_met c o v h).0 (long_met c o v h).1).1)

        abbrev walk_by : Option Rule → Walk
        walk_by o = after_step c word here (after_flag c idle word (long_met c o v h).0 (long_met c o v h).1).0
            (after_flag c idle word (long_met c o v h).0 (long_met c o v h).1).1

        turn_is : (o : Option Rule) → arg_by_long c name ≡ o → fault_at here word ≡ turn_by o
        turn_is o e = option_turn h idle (position_of given) word name v is ∙ ap turn_by e

        walk_is : (o : Option Rule) → arg_by_long c name ≡ o → walked c [] here word ≡ walk_by o
        walk_is o e = option_walk h idle (position_of given) word name v is ∙ ap walk_by e

        abbrev Then : Option GivenOptions → Type 0
        Then o = Ends (kinds_from here (word ∷ rest)) (rows_from here (word ∷ rest)) o

        -- it is refused
        refused_option : (o : Option Rule) → arg_by_long c name ≡ o → (turn_by o ≡ [] → ⊥) → Then None
        refused_option o e fails = fails_at here word rest None (λ none. fails (sym (turn_is o e) ∙ none)) tt

        -- it has its value
        reacts : (a : Rule) (values : List Text) (value : Text) → arg_by_long c name ≡ Some a
            → turn_by (Some a) ≡ react_fault c false a values h → walk_by (Some a) ≡ stands (reacted c a values h) idle (position_of given)
            → use_fault false a values (settled c h).rows ≡ repeat_fault false name (settled c h).rows
            → used a values (settled c h).rows ≡ with_values name AsWritten CommandLine (value ∷ []) (without name (settled c h).rows)
            → bytes_eq name (codes "command") ≡ false → FollowsOnce (settle_fault c false h) (settled c h).rows given
            → Then (given_from options None ((name, value) ∷ given) rest)
        reacts a values value e turn walk fault is_used apart follows = elim follows [
          | inr twice ↦ fails_at here word rest _ (λ none. fails_first _ _ twice.1 (sym fault_is ∙ none))
              (from_twice rest None ((name, value) ∷ given) (twice_more (name, value) given twice.0))
          | inl once ↦ elim (used_once name value (settled c h).rows given once.0 once.2) [
            | inr twice ↦ fails_at here word rest _ (λ none. twice.1 (sym (fault_is ∙ past _ _ once.1 ∙ fault) ∙ none))
                (from_twice rest None ((name, value) ∷ given) twice.0)
            | inl more ↦ moves here (stands (reacted c a values h) idle (position_of given)) word rest _
                (fault_is ∙ past _ _ once.1 ∙ fault ∙ more.1) (walk_is (Some a) e ∙ walk)
                (next (stands (reacted c a values h) idle (position_of given)) None ((name, value) ∷ given) (
                  reacted c a values h,
                  ap (λ b. stands (reacted c a values h) idle (cond (b || is_given (codes "command") given) 2 1)) (sym apart),
                  inl (more.0, refl, is_used ∙ more.2),
                ))
          ]
        ]
          where
            fault_is : fault_at here word ≡ react_fault c false a values h
            fault_is = turn_is (Some a) e ∙ turn

        -- it waits for its value
        starts : is_among options.valued name ≡ true → arg_by_long c name ≡ Some (valued_built name)
            → turn_by (Some (valued_built name)) ≡ settle_fault c false h
            → walk_by (Some (valued_built name)) ≡ stands (waits name (settled c h).rows h.skip) (option name) (position_of given)
            → FollowsOnce (settle_fault c false h) (settled c h).rows given → Then (given_from options (Some name) given rest)
        starts known e turn walk follows = elim follows [
          | inr twice ↦ fails_at here word rest _ (λ none. twice.1 (sym (turn_is _ e ∙ turn) ∙ none)) (from_twice rest (Some name) given twice.0)
          | inl once ↦ moves here (stands (waits name (settled c h).rows h.skip) (option name) (position_of given)) word rest _
              (turn_is _ e ∙ turn ∙ once.1) (walk_is _ e ∙ walk)
              (next (stands (waits name (settled c h).rows h.skip) (option name) (position_of given)) (Some name) given
              ((settled c h).rows, h.skip, refl, once.0, once.2, known))
        ]

      -- what follows where the words were read as far as this
      abbrev go_on : List Text → Option OptionsRead → Option GivenOptions
      go_on rest o = option_and_then (λ (reading : OptionsRead). given_from options reading.waiting reading.given rest) o

      abbrev flag_given : Text → GivenOptions → Bool → Option OptionsRead
      flag_given name given b = cond b (Some (gives ((name, codes "true") ∷ given))) None

      idle_option : (h : Held) (given : GivenOptions) (word name : Text) (v : Option Text) (rest : List Text) (is : IsOption word name v) (next : Rest rest)
          → FollowsOnce (settle_fault c false h) (settled c h).rows given
          → Then h given word name v rest is next (go_on rest (with_option options given name v))
      idle_option h given word name (Some value) rest is next follows = by_test (is_among options.valued name)
          (λ known. subst (λ b. Then h given word name (Some value) rest is next (go_on rest (cond b (Some (gives ((name, value) ∷ given))) None))) (sym known)
          (reacts h given word name (Some value) rest is next (valued_built name) (value ∷ []) value (knows.valued name known) (or_else_none _) refl
          (valued_use name value (settled c h).rows) (valued_used name value (settled c h).rows) (knows.valued_apart name known) follows))
          (λ other. subst (λ b. Then h given word name (Some value) rest is next (go_on rest (cond b (Some (gives ((name, value) ∷ given))) None))) (sym other)
          (by_test (is_among options.flags name)
          (λ flag. refused_option h given word name (Some value) rest is next (Some (flag_built name)) (knows.flags name other flag) cons≢nil)
          (λ none. refused_option h given word name (Some value) rest is next None (knows.others name other none) cons≢nil)))
      idle_option h given word name None rest is next follows = by_test (is_among options.valued name)
          (λ known. subst (λ b. Then h given word name None rest is next (go_on rest (cond b (Some (record { given = given; waiting = Some name })) (flag_given name given (is_among options.flags name))))) (sym known)
          (starts h given word name None rest is next known (knows.valued name known) (or_else_none _) refl follows))
          (λ other. subst (λ b. Then h given word name None rest is next (go_on rest (cond b (Some (record { given = given; waiting = Some name })) (flag_given name given (is_among options.flags name))))) (sym other)
          (by_test (is_among options.flags name)
          (λ flag. subst (λ b. Then h given word name None rest is next (go_on rest (flag_given name given b))) (sym flag)
          (reacts h given word name None rest is next (flag_built name) [] (codes "true") (knows.flags name other flag) (or_else_none _) refl
          (flag_use name (settled c h).rows) (flag_used name (settled c h).rows) (knows.flags_apart name flag) follows))
          (λ none. subst (λ b. Then h given word name None rest is next (go_on rest (flag_given name given b))) (sym none)
          (refused_option h given word name None rest is next None (knows.others name other none) cons≢nil))))

      -- ---- a word where an option waits

      module _ (waiting : Text) (rows : List Row) (skip : ℕ) (given : GivenOptions) (known : is_among options.valued waiting ≡ true)
          (once : is_once given ≡ true) (rows_are : rows ≡ rows_for given) where
        abbrev held : Held
        held = waits waiting rows skip

        abbrev there : Walk
        there = stands held (option waiting) (position_of given)

        empty_fault : settle_fault c false held ≡ kind.InvalidValue ∷ []
        empty_fault = ap (λ (o : Option Rule). option_map_or (λ (a : Rule). use_fault false a [] rows) o []) (knows.waiting waiting known)

        empty_fails : settle_fault c false held ≡ [] → ⊥
        empty_fails e = cons≢nil (sym empty_fault ∙ e)

        waiting_ends : Ends (kinds_from there []) (rows_from there []) None
        unfolding walk_fault
        waiting_ends = empty_fails

        -- the fault of an option that comes there
        option_fails : (o : Option Rule) (name : Text) (v : Option Text) → (arg_by_long c name ≡ o) → ((o ≡ None) ⊎ ((o ≡ Some (flag_built name)) ⊎ (o ≡ Some (valued_built name))))
            → long_fault c false (arg_by_long c name) v held ≡ [] → ⊥
        option_fails o name v e (inl none) f = cons≢nil (ap (λ (x : Option Rule). long_fault c false x v held) (sym (e ∙ none)) ∙ f)
        option_fails o name (Some v) e (inr (inl flag)) f = cons≢nil (ap (λ (x : Option Rule). long_fault c false x (Some v) held) (sym (e ∙ flag)) ∙ f)
        option_fails o name None e (inr (inl flag)) f = fails_first _ _ empty_fails (ap (λ (x : Option Rule). long_fault c false x None held) (sym (e ∙ flag)) ∙ f)
        option_fails o name (Some v) e (inr (inr valued)) f = fails_first _ _ empty_fails (ap (λ (x : Option Rule). long_fault c false x (Some v) held) (sym (e ∙ valued)) ∙ f)
        option_fails o name None e (inr (inr valued)) f = empty_fails (ap (λ (x : Option Rule). long_fault c false x None held) (sym (e ∙ valued)) ∙ f)

        long_is : (name : Text) → (arg_by_long c name ≡ None) ⊎ ((arg_by_long c name ≡ Some (flag_built name)) ⊎ (arg_by_long c name ≡ Some (valued_built name)))
        long_is name = by_test (is_among options.valued name)
            (λ valued. inr (inr (knows.valued name valued)))
            (λ other. by_test (is_among options.flags name) (λ flag. inr (inl (knows.flags name other flag))) (λ none. inl (knows.others name other none)))

        waiting_option : (word name : Text) (v : Option Text) (rest : List Text) → IsOption word name v
            → Ends (kinds_from there (word ∷ rest)) (rows_from there (word ∷ rest)) None
        waiting_option word name v rest is = fails_at there word rest None
            (λ e. fails_first _ _ (option_fails (arg_by_long c name) name v refl (long_is name))
            (sym (option_turn held (option waiting) (position_of given) word name v is) ∙ e)) tt

        waiting_bare : (word : Text) (rest : List Text) → IsBare word → Rest rest
            → Ends (kinds_from there (word ∷ rest)) (rows_from there (word ∷ rest)) (given_from options None ((waiting, word) ∷ given) rest)
        waiting_bare word rest is next = moves there (stands after idle (position_of given)) word rest _
            (bare_turn held (option waiting) (position_of given) word is) walk_is
            (next (stands after idle (position_of given)) None ((waiting, word) ∷ given) (
              after,
              ap (λ b. stands after idle (cond (b || is_given (codes "command") given) 2 1)) (sym (knows.valued_apart waiting known)),
              pending_value (valued_built waiting) waiting word rows skip given (knows.waiting waiting known) (valued_use waiting word rows) (valued_used waiting word rows) once rows_are,
            ))
          where
            after : Held
            after = record { rows = rows; pending = Some (waiting, word ∷ []); skip = skip }

            walk_is : walked c [] there word ≡ stands after idle (position_of given)
            walk_is = bare_walk held (option waiting) (position_of given) word is
                ∙ ap (λ (o : Option Rule). after_step c word there (option_word o waiting word held).0 (next_step (option_word o waiting word held).1)) (knows.waiting waiting known)
                ∙ ap (λ b. stands after (cond (nat_lt (cond b 1 0) 1) (option waiting) idle) (position_of given)) (same waiting)
              where
                same : (text : Text) → bytes_eq text text ≡ true
                same text = (bytes_eq-Decides text text).1 refl

      -- ---- all the words

      idle_ends : (h : Held) (position : ℕ) (given : GivenOptions) → FollowsOnce (settle_fault c false h) (settled c h).rows given
          → Ends (kinds_from (stands h idle position) []) (rows_from (stands h idle position) []) (Some given)
      unfolding walk_fault
      idle_ends h position given follows = follows

      idle_bare : (h : Held) (given : GivenOptions) (word : Text) (rest : List Text) → IsBare word → Rest rest
          → FollowsOnce (settle_fault c false h) (settled c h).rows given
          → Ends (kinds_from (stands h idle (position_of given)) (word ∷ rest)) (rows_from (stands h idle (position_of given)) (word ∷ rest))
          (given_from options None ((codes "command", word) ∷ given) rest)
      idle_bare h given word rest is next follows = by_test (is_given (codes "command") given)
          (λ there. subst (λ b. Ends (kinds_from (stands h idle (cond b 2 1)) (word ∷ rest)) (rows_from (stands h idle (cond b 2 1)) (word ∷ rest))
          (given_from options None ((codes "command", word) ∷ given) rest)) (sym there) (second_word h given word rest is next there))
          (λ none. subst (λ b. Ends (kinds_from (stands h idle (cond b 2 1)) (word ∷ rest)) (rows_from (stands h idle (cond b 2 1)) (word ∷ rest))
          (given_from options None ((codes "command", word) ∷ given) rest)) (sym none) (first_word h given word rest is next none follows))

      idle_word : (h : Held) (given : GivenOptions) (word : Text) (rest : List Text) → is_well_formed word ≡ true → Rest rest
          → FollowsOnce (settle_fault c false h) (settled c h).rows given
          → Ends (kinds_from (stands h idle (position_of given)) (word ∷ rest)) (rows_from (stands h idle (position_of given)) (word ∷ rest))
          (given_from options None given (word ∷ rest))
      idle_word h given word rest well next follows = elim (word_is word well) [
        | inl is ↦ subst (λ o. Ends (kinds_from (stands h idle (position_of given)) (word ∷ rest)) (rows_from (stands h idle (position_of given)) (word ∷ rest))
            (go_on rest (with_next options None given word o))) (sym is.2.0) (idle_option h given word is.0 is.1 rest is.2 next follows)
        | inr is ↦ subst (λ o. Ends (kinds_from (stands h idle (position_of given)) (word ∷ rest)) (rows_from (stands h idle (position_of given)) (word ∷ rest))
            (go_on rest (with_next options None given word o))) (sym is.0) (idle_bare h given word rest is next follows)
      ]

      waiting_word : (name : Text) (rows : List Row) (skip : ℕ) (given : GivenOptions) (known : is_among options.valued name ≡ true)
          (once : is_once given ≡ true) (rows_are : rows ≡ rows_for given) (word : Text) (rest : List Text) → is_well_formed word ≡ true → Rest rest
          → (let w : Walk = stands (waits name rows skip) (option name) (position_of given) in
          Ends (kinds_from w (word ∷ rest)) (rows_from w (word ∷ rest)) (given_from options (Some name) given (word ∷ rest)))
      waiting_word name rows skip given known once rows_are word rest well next = elim (word_is word well) [
        | inl is ↦ subst (λ o. Ends (kinds_from (stands (waits name rows skip) (option name) (position_of given)) (word ∷ rest))
            (rows_from (stands (waits name rows skip) (option name) (position_of given)) (word ∷ rest))
            (go_on rest (with_next options (Some name) given word o))) (sym is.2.0)
            (waiting_option name rows skip given known once rows_are word is.0 is.1 rest is.2)
        | inr is ↦ subst (λ o. Ends (kinds_from (stands (waits name rows skip) (option name) (position_of given)) (word ∷ rest))
            (rows_from (stands (waits name rows skip) (option name) (position_of given)) (word ∷ rest))
            (go_on rest (with_next options (Some name) given word o))) (sym is.0)
            (waiting_bare name rows skip given known once rows_are word rest is next)
      ]

      agrees : (words : List Text) → list_all is_well_formed words ≡ true → Rest words
      agrees [] well w None given follows =
          subst (λ (from : Walk). Ends (kinds_from from []) (rows_from from []) (Some given)) (sym follows.1)
          (idle_ends follows.0 (position_of given) given follows.2)
      agrees [] well w (Some name) given follows =
          subst (λ (from : Walk). Ends (kinds_from from []) (rows_from from []) None) (sym follows.2)
          (waiting_ends name follows.0 follows.1 given follows.5 follows.3 follows.4)
      agrees (word ∷ words) well w None given follows =
          let parts = both (is_well_formed word) (list_all is_well_formed words) well in
          subst (λ (from : Walk). Ends (kinds_from from (word ∷ words)) (rows_from from (word ∷ words)) (given_from options None given (word ∷ words)))
          (sym follows.1) (idle_word follows.0 given word words parts.0 (agrees words parts.1) follows.2)
      agrees (word ∷ words) well w (Some name) given follows =
          let parts = both (is_well_formed word) (list_all is_well_formed words) well in
          subst (λ (from : Walk). Ends (kinds_from from (word ∷ words)) (rows_from from (word ∷ words)) (given_from options (Some name) given (word ∷ words)))
          (sym follows.2) (waiting_word name follows.0 follows.1 given follows.5 follows.3 follows.4 word words parts.0 (agrees words parts.1))

      -- the walk over all the words, from the first
      pub all_agree : (words : List Text) → list_all is_well_formed words ≡ true
          → Ends (kinds_from (walk_from nothing_held) words) (rows_from (walk_from nothing_held) words) (given_from options None [] words)
      all_agree words well = agrees words well (walk_from nothing_held) None [] (nothing_held, refl, inl (refl, refl, refl))
