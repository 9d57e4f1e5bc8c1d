-- What was written for the lines that were read, where reading fails.
use Rattle.std.proofs.Common.{◌≡◌, ◌≢◌, ℕ, ◌+◌, ◌-◌, ◌≤◌, nat_lt, Bool, true, false, List, [], ◌∷◌, ◌++◌, length, length-append, Result, Ok, Err, refl, ap, sym, ◌∙◌, arith, append_assoc, append-nil}
use Rattle.std.proofs.lemmas.Bool.Decides.{nat_tests}
use Rattle.curp_io.specs.Text.{GivesLine, line_of, lines_of, rest_of}
use Rattle.curp_io.proofs.Text.{prefix_of, prefix_and_rest, lines_of_first, lines_of_prefix, lines_behind_prefix}
use Rattle.curp_msg.specs.declared.script.Header.{Header}
use Rattle.curp_script.specs.Grammar.{header_in}
use Rattle.curp_msg.specs.Limits.{step_limit}
use Rattle.curp_base.specs.Limits.{line_limit}
use Rattle.curp_script.specs.Script.{Whole}
use Rattle.curp_script.specs.declared.error.LineError.{LineError}
use Rattle.curp_runner.proofs.Scripts.{not_whole_bad, not_whole_long, not_whole_many}
use Rattle.curp_runner.specs.Reading.{HoldsRead, Said, said_in, script_by}
use Rattle.curp_runner.specs.Run.{Rules, after, line_texts_by, line_texts_in, no_text, texts}

-- ---- lines that are read to their end

-- a first line that says something
record FirstIs {A : Type 0} (meaning : List ℕ → Result A LineError) (n : ℕ) (line : List ℕ) (lines : List (List ℕ)) (said : List A) : Type 0 where
  pub first : A
  pub more : List A
  pub short : nat_lt line_limit (length line) ≡ false
  pub is : meaning line ≡ Ok first
  pub few : nat_lt step_limit (n - 1) ≡ false
  pub said_are : said ≡ first ∷ more
  pub goes_on : said_in meaning (n + 1) lines ≡ record { lines = more; ending = Whole }

first_by : {A : Type 0} (meaning : List ℕ → Result A LineError) (n : ℕ) (line : List ℕ) (lines : List (List ℕ)) (said : List A) (long many : Bool) (r : Result A LineError)
    → nat_lt line_limit (length line) ≡ long → meaning line ≡ r → nat_lt step_limit (n - 1) ≡ many
    → said_in meaning n (line ∷ lines) ≡ record { lines = said; ending = Whole } → FirstIs meaning n line lines said
first_by meaning n line lines said true many r l s m is = absurd (not_whole_long n (ap (λ (b : Said _). b.ending) (rw l at is)))
first_by meaning n line lines said false many (Err why) l s m is = absurd (not_whole_bad n why (ap (λ (b : Said _). b.ending) (rw (l, s) at is)))
first_by meaning n line lines said false true (Ok x) l s m is = absurd (not_whole_many (ap (λ (b : Said _). b.ending) (rw (l, s, m) at is)))
first_by meaning n line lines said false false (Ok x) l s m is =
    let e = rw (l, s, m) at is in
    record {
      first = x;
      more = (said_in meaning (n + 1) lines).lines;
      short = l;
      is = s;
      few = m;
      said_are = sym (ap (λ (b : Said _). b.lines) e);
      goes_on = ap (λ (w : _). record { lines = (said_in meaning (n + 1) lines).lines; ending = w }) (ap (λ (b : Said _). b.ending) e);
    }

first_is : {A : Type 0} (meaning : List ℕ → Result A LineError) (n : ℕ) (line : List ℕ) (lines : List (List ℕ)) (said : List A)
    → said_in meaning n (line ∷ lines) ≡ record { lines = said; ending = Whole } → FirstIs meaning n line lines said
first_is meaning n line lines said is = first_by meaning n line lines said _ _ _ refl refl refl is

-- where the lines behind the first end so, all do
behind_first : {A : Type 0} (meaning : List ℕ → Result A LineError) (n : ℕ) (line : List ℕ) (lines others : List (List ℕ)) (said : List A) (s : A) (f : FirstIs meaning n line lines said)
    → said_in meaning (n + 1) others ≡ record { lines = f.more ++ s ∷ []; ending = Whole }
    → said_in meaning n (line ∷ others) ≡ record { lines = said ++ s ∷ []; ending = Whole }
behind_first meaning n line lines others said s f rest = rw (f.short, f.is, f.few, rest, f.said_are) refl

-- one line more that says something
more_said : {A : Type 0} (meaning : List ℕ → Result A LineError) (lines : List (List ℕ)) (n : ℕ) (said : List A) (line : List ℕ) (s : A)
    → said_in meaning (n + 1) lines ≡ record { lines = said; ending = Whole } → length line ≤ line_limit → meaning line ≡ Ok s
    → n + length said ≤ step_limit
    → said_in meaning (n + 1) (lines ++ line ∷ []) ≡ record { lines = said ++ s ∷ []; ending = Whole }
more_said meaning [] n said line s are short is few =
    let fits : nat_lt line_limit (length line) ≡ false = grind (arith, nat_tests) in
    let none : [] ≡ said = ap (λ (b : Said _). b.lines) are in
    let numbered : nat_lt step_limit ((n + 1) - 1) ≡ false = grind (arith, nat_tests) in
    rw (← none, fits, is, numbered) refl
more_said meaning (x ∷ lines) n said line s are short is few =
    let f = first_is meaning (n + 1) x lines said are in
    let counted : (n + 1) + length f.more ≤ step_limit = omega (arith, ap length f.said_are) in
    behind_first meaning (n + 1) x lines (lines ++ line ∷ []) said s f (more_said meaning lines (n + 1) f.more line s f.goes_on short is counted)

-- ---- lines that are done

-- the texts of lines, and that of one line more
more_text : {A W : Type 0} (rules : Rules A W) (said : List A) (n : ℕ) (w : W) (s : A)
    → texts rules no_text n w (said ++ s ∷ []) ≡ texts rules no_text n w said ++ rules.text (n + length said) (after rules w said) s
more_text {A} rules [] n w s =
    let same : n ≡ n + length {A = A} [] = omega arith in
    append-nil (rules.text n w s) ∙ ap (λ k. rules.text k w s) same
more_text rules (x ∷ said) n w s =
    let moved : (n + 1) + length said ≡ n + length (x ∷ said) = omega arith in
    ap (λ t. rules.text n w x ++ t) (more_text rules said (n + 1) (rules.next w x) s)
    ∙ sym (append_assoc (rules.text n w x) (texts rules no_text (n + 1) (rules.next w x) said) _)
    ∙ ap (λ k. (rules.text n w x ++ texts rules no_text (n + 1) (rules.next w x) said) ++ rules.text k (after rules (rules.next w x) said) s) moved

after_more : {A W : Type 0} (rules : Rules A W) (said : List A) (w : W) (s : A) → after rules w (said ++ s ∷ []) ≡ rules.next (after rules w said) s
after_more rules [] w s = refl
after_more rules (x ∷ said) w s = after_more rules said (rules.next w x) s

-- ---- what was told of the lines read so far

-- Of these bytes some were read, which end where a line ends; they are lines behind a header, with whose texts the sink
-- goes on.
pub record Told {A W : Type 0} (meaning : List ℕ → Result A LineError) (rules : Rules A W) (bytes now : List ℕ) (number : ℕ) (opened world : W) (old held : List ℕ) : Type 0 where
  pub read : List ℕ
  pub said : List A
  pub split : bytes ≡ read ++ now
  pub lines : lines_of bytes ≡ lines_of read ++ lines_of now
  pub goes_on : now ≢ [] → (others : List ℕ) → lines_of (read ++ others) ≡ lines_of read ++ lines_of others
  pub are : said_in meaning 2 (lines_of read) ≡ record { lines = said; ending = Whole }
  pub counted : length said + 1 ≡ number
  pub leads : world ≡ after rules opened said
  pub is : held ≡ old ++ texts rules no_text 1 opened said

-- no line yet
pub told_nothing : {A W : Type 0} (meaning : List ℕ → Result A LineError) (rules : Rules A W) (bytes : List ℕ) (w : W) (held : List ℕ) → Told meaning rules bytes bytes 1 w w held held
told_nothing meaning rules bytes w held = record {
  read = [];
  said = [];
  split = refl;
  lines = refl;
  goes_on = λ some others. refl;
  are = refl;
  counted = refl;
  leads = refl;
  is = sym (append-nil held);
}

-- what is held stays
pub told_so_far : {A W : Type 0} (meaning : List ℕ → Result A LineError) (rules : Rules A W) (bytes now : List ℕ) (number : ℕ) (opened world : W) (old held more : List ℕ)
    → more ≡ held → Told meaning rules bytes now number opened world old held → Told meaning rules bytes now number opened world old more
told_so_far meaning rules bytes now number opened world old held more same t = record {
  read = t.read;
  said = t.said;
  split = t.split;
  lines = t.lines;
  goes_on = t.goes_on;
  are = t.are;
  counted = t.counted;
  leads = t.leads;
  is = same ∙ t.is;
}

-- one line more, and its text
pub told_more : {A W : Type 0} (meaning : List ℕ → Result A LineError) (rules : Rules A W) (bytes now rest line : List ℕ) (number : ℕ) (opened world new : W) (old held more : List ℕ) (s : A)
    → Told meaning rules bytes now number opened world old held → GivesLine now line rest → meaning line ≡ Ok s → number ≤ step_limit
    → new ≡ rules.next world s → more ≡ held ++ rules.text number world s
    → Told meaning rules bytes rest (number + 1) opened new old more
told_more {A} {W} meaning rules bytes now rest line number opened world new old held more s t given is few moved written =
    let prefix : List ℕ = prefix_of now in
    let alone : lines_of (t.read ++ prefix) ≡ lines_of t.read ++ line ∷ [] =
    t.goes_on given.more prefix ∙ ap (λ w. lines_of t.read ++ w) (lines_of_prefix now given.more ∙ ap (λ l. l ∷ []) (sym given.first)) in
    let first : lines_of now ≡ line ∷ lines_of rest = rw (given.first, given.left) (lines_of_first now given.more) in
    let counted : 1 + length t.said ≡ number = omega (arith, t.counted) in
    record {
      read = t.read ++ prefix;
      said = t.said ++ s ∷ [];
      split =
          t.split ∙ ap (λ w. t.read ++ w) (sym (prefix_and_rest now) ∙ ap (λ w. prefix ++ w) (sym given.left)) ∙ sym (append_assoc t.read prefix rest);
      lines =
          t.lines ∙ ap (λ w. lines_of t.read ++ w) first ∙ sym (append_assoc (lines_of t.read) (line ∷ []) (lines_of rest))
          ∙ ap (λ w. w ++ lines_of rest) (sym alone);
      goes_on = λ some others.
          ap lines_of (append_assoc t.read prefix others) ∙ t.goes_on given.more (prefix ++ others)
          ∙ ap (λ w. lines_of t.read ++ w) (lines_behind_prefix now others (λ none. some (given.left ∙ none)) ∙ ap (λ l. l ∷ lines_of others) (sym given.first))
          ∙ sym (append_assoc (lines_of t.read) (line ∷ []) (lines_of others))
          ∙ ap (λ w. w ++ lines_of others) (sym alone);
      are = ap (said_in meaning 2) alone ∙ more_said meaning (lines_of t.read) 1 t.said line s t.are given.short is (omega arith);
      counted = omega (arith, length-append t.said (s ∷ []), t.counted);
      leads = moved ∙ ap (λ (w : W). rules.next w s) t.leads ∙ sym (after_more rules t.said opened s);
      is =
          written
          ∙ ap (λ (w : W). held ++ rules.text number w s) t.leads
          ∙ ap (λ w. w ++ rules.text number (after rules opened t.said) s) t.is
          ∙ append_assoc old (texts rules no_text 1 opened t.said) (rules.text number (after rules opened t.said) s)
          ∙ ap (λ w. old ++ w) (ap (λ k. texts rules no_text 1 opened t.said ++ rules.text k (after rules opened t.said) s) (sym counted)
          ∙ sym (more_text rules t.said 1 opened s));
    }

-- ---- reading fails

nothing_before : (xs ys : List ℕ) → [] ≡ xs ++ ys → xs ≡ []
nothing_before [] ys none = refl
nothing_before (x ∷ xs) ys none = absurd cc

-- with the header before them
pub header_before : {A W : Type 0} (meaning : List ℕ → Result A LineError) (rules : Rules A W) (bytes line rest left : List ℕ) (h : Header) (old held : List ℕ) → GivesLine bytes line rest → header_in line ≡ Ok h
    → HoldsRead (line_texts_in meaning rules (rules.opening h)) rest left old held → HoldsRead (λ read. line_texts_by rules (script_by meaning (lines_of read))) bytes left old held
header_before meaning rules bytes line rest left h old held given is r =
    let prefix : List ℕ = prefix_of bytes in
    let fits : nat_lt line_limit (length line) ≡ false = grind (arith, nat_tests, given.short) in
    let lines : lines_of (prefix ++ r.read) ≡ line ∷ lines_of r.read = behind rest given.left r.taken in
    record {
      read = prefix ++ r.read;
      ahead = r.ahead;
      taken = sym (prefix_and_rest bytes) ∙ ap (λ w. prefix ++ w) (sym given.left ∙ r.taken) ∙ sym (append_assoc prefix r.read (r.ahead ++ left));
      lines =
          lines_of_first bytes given.more ∙ ap (λ w. line_of bytes ∷ lines_of w) (sym given.left) ∙ ap (λ l. l ∷ lines_of rest) (sym given.first)
          ∙ ap (λ w. line ∷ w) r.lines ∙ ap (λ w. w ++ lines_of (r.ahead ++ left)) (sym lines);
      less = r.less;
      held = r.held ∙ ap (λ w. old ++ w) (rw (lines, fits, is) refl);
    }
  where
    behind : (xs : List ℕ) → xs ≡ rest_of bytes → xs ≡ r.read ++ (r.ahead ++ left) → lines_of (prefix_of bytes ++ r.read) ≡ line ∷ lines_of r.read
    behind [] none split = rw (nothing_before r.read (r.ahead ++ left) split) (ap lines_of (append-nil (prefix_of bytes)) ∙ lines_of_prefix bytes given.more ∙ ap (λ l. l ∷ []) (sym given.first))
    behind (x ∷ xs) some split =
        lines_behind_prefix bytes r.read (λ none. absurd (let e = some ∙ none in cc)) ∙ ap (λ l. l ∷ lines_of r.read) (sym given.first)

-- before a header nothing is written
pub before_header : {A W : Type 0} (meaning : List ℕ → Result A LineError) (rules : Rules A W) (bytes ahead left held : List ℕ) → ahead ++ left ≡ bytes → line_of ahead ≡ ahead
    → HoldsRead (λ read. line_texts_by rules (script_by meaning (lines_of read))) bytes left held held
before_header meaning rules bytes ahead left held stays none = record {
  read = [];
  ahead = ahead;
  taken = sym stays;
  lines = ap lines_of (sym stays);
  less = none;
  held = sym (append-nil held);
}

-- the texts of whole lines, told by another name
pub told_so : (text other : List ℕ → List ℕ) (bytes left old held : List ℕ) → ((read : List ℕ) → other read ≡ text read)
    → HoldsRead text bytes left old held → HoldsRead other bytes left old held
told_so text other bytes left old held same r = record {
  read = r.read;
  ahead = r.ahead;
  taken = r.taken;
  lines = r.lines;
  less = r.less;
  held = r.held ∙ ap (λ w. old ++ w) (sym (same r.read));
}
