-- What a connection is told is the replies to its requests, in their order.
use Rattle.std.proofs.Common.{◌≡◌, ◌≢◌, ℕ, suc, ◌+◌, Bool, true, false, List, [], ◌∷◌, ◌++◌, length, map, drop, Some, None, refl, ap, sym, ◌∙◌, subst, inl, inr, arith, append_assoc, append-nil, length-append}
use Rattle.std.specs.Prelude.{◌&&◌, ◌||◌, not, nat_le, nat_lt, if◌then◌else◌, Option, flat_map}
use Rattle.curp_base.specs.Words.{Each}
use Rattle.curp_cmd.specs.declared.command.Command.{Command}
use Rattle.curp_resp.specs.First.{BeginsWithRequest, IsFirst, first_in}
use Rattle.curp_resp.specs.Input.{NoneStandsFirst, StandsFirst}
use Rattle.curp_resp.specs.Meaning.{meaning}
use Rattle.curp_resp.specs.declared.asked.Asked.{Asked}
use Rattle.curp_resp.specs.declared.asked.Asked.TheVariants as asked
use Rattle.curp_resp.specs.declared.asked.Other.{Other}
use Rattle.curp_resp.specs.declared.first.FirstRequest.{FirstRequest}
use Rattle.curp_resp.specs.declared.first.FirstRequest.TheVariants as first
use Rattle.curp_resp.proofs.Inwards.{first_stands}
use Rattle.curp_front.specs.Conversation.{Conversation, command_of, completed, completed_due, first_command, first_len, gone, is_given, is_gone, is_overfull, is_served, is_serving, more_may_come, most_bytes, most_due, said_at, said_behind, said_by, said_by_stage, said_inside, said_of_due, settled, settled_due, taken_if}
use Rattle.curp_front.specs.Replies.{said_text}
use Rattle.curp_front.specs.Talk.{EndsSo, Event, Came, Ended, Taken, Settled, Completed, Told, InOrder, IsCommand, IsError, MeansCommand, Splits, Talk, begins, command_count, happens, outcome_of, outcome_text, replies_to, talk, tells}
use Rattle.curp_front.specs.declared.connection.Peer.TheVariants as peer
use Rattle.curp_front.specs.declared.connection.Said.{Said}
use Rattle.curp_front.specs.declared.connection.Said.TheVariants as said
use Rattle.curp_front.specs.declared.connection.ConnectionStage.{ConnectionStage}
use Rattle.curp_front.specs.declared.connection.ConnectionStage.TheVariants as stage
use Rattle.curp_front.specs.declared.due.DueReply.{DueReply}
use Rattle.curp_front.specs.declared.due.DueReply.TheVariants as due
use Rattle.curp_front.proofs.Replies.{count_command, count_other, replies_command, replies_other, told_more}
use Rattle.curp_front.proofs.Splitting.{broken_some, splits_more, splits_next, stands_first}

-- ---- small facts

if_some : {A : Type 0} (b : Bool) (o : Option A) (x : A) → (if b then o else None) ≡ Some x → (b ≡ true) × (o ≡ Some x)
if_some true o x e = (refl, e)
if_some false o x e = absurd cc

and_left : (a b : Bool) → a && b ≡ true → a ≡ true
and_left true b e = refl
and_left false b e = e

or_false : (a b : Bool) → a || not b ≡ false → b ≡ true
or_false true b e = absurd cc
or_false false true e = refl
or_false false false e = absurd cc

map_length : {A B : Type 0} (f : A → B) (xs : List A) → length (map f xs) ≡ length xs
map_length f [] = refl
map_length f (x ∷ xs) = ap suc (map_length f xs)

map_more : {A B : Type 0} (f : A → B) (xs : List A) (x : A) → map f (xs ++ x ∷ []) ≡ map f xs ++ f x ∷ []
map_more f [] x = refl
map_more f (y ∷ xs) x = ap (λ w. f y ∷ w) (map_more f xs x)

each_more : {A : Type 0} (P : A → Type 0) (xs : List A) (x : A) → Each P xs → P x → Each P (xs ++ x ∷ [])
each_more P [] x all last = (last, tt)
each_more P (y ∷ xs) x all last = (all.0, each_more P xs x all.1 last)

nothing : {A : Type 0} (xs : List A) → length xs ≡ 0 → xs ≡ []
nothing [] e = refl
nothing (x ∷ xs) e = absurd (omega arith)

settled_length : (new : DueReply) (dues : List DueReply) → length (settled_due new dues) ≡ length dues
settled_length new [] = refl
settled_length new (d ∷ rest) =
    elim (is_given d) as (λ b. length (if b then new ∷ rest else d ∷ settled_due new rest) ≡ suc (length rest)) [
      | true ↦ refl
      | false ↦ ap suc (settled_length new rest)
    ]

command_is : (a : Asked) → IsCommand a → (command : Command) × (a ≡ asked.Command command)
command_is (asked.Command command) is = (command, refl)
command_is (asked.Other other) is = absurd is

-- ---- what stands first

whole_command : (f : FirstRequest) (command : Command) → first_command f ≡ Some command → (len : ℕ) × (f ≡ first.Whole (asked.Command command) len)
whole_command (first.Whole (asked.Command c) len) command e = (len, cc)
whole_command (first.Whole (asked.Other other) len) command e = absurd cc
whole_command first.Part command e = absurd cc
whole_command first.Broken command e = absurd cc

stands : (bytes : List ℕ) (f : FirstRequest) → first_in bytes ≡ f → IsFirst bytes f
stands bytes f e = subst (IsFirst bytes) e (first_stands bytes)

-- ---- how it ends

serving_served : (s : ConnectionStage) → is_serving s ≡ true → is_served s ≡ true
serving_served stage.Serving e = refl
serving_served stage.Overfull e = refl
serving_served stage.Failed e = absurd cc
serving_served stage.Closed e = absurd cc

served_ends : (s : ConnectionStage) (bytes : List ℕ) (waiting : List (List (List ℕ))) (rest text : List ℕ) → is_served s ≡ true → EndsSo s bytes waiting rest text → (rest ≡ bytes) × (text ≡ [])
served_ends stage.Serving bytes waiting rest text e ends = ends
served_ends stage.Overfull bytes waiting rest text e ends = ends
served_ends stage.Failed bytes waiting rest text e ends = absurd cc
served_ends stage.Closed bytes waiting rest text e ends = absurd cc

ends_served : (s : ConnectionStage) (bytes : List ℕ) (waiting : List (List (List ℕ))) (rest text : List ℕ) → is_served s ≡ true → rest ≡ bytes → text ≡ [] → EndsSo s bytes waiting rest text
ends_served stage.Serving bytes waiting rest text e left none = (left, none)
ends_served stage.Overfull bytes waiting rest text e left none = (left, none)
ends_served stage.Failed bytes waiting rest text e left none = absurd cc
ends_served stage.Closed bytes waiting rest text e left none = absurd cc

-- ---- one thing more

module _ (t : Talk) (h : InOrder t) where
  -- no reply is told
  moved : (now : Conversation) (input rest : List ℕ) → Splits (h.replied ++ h.waiting) input rest → length now.due ≡ length t.now.due
      → EndsSo now.stage now.bytes h.waiting rest h.ending → InOrder (record t { now = now; input = input })
  moved now input rest splits due ends = record {
    replied = h.replied;
    waiting = h.waiting;
    rest = rest;
    ending = h.ending;
    splits = splits;
    commands = h.commands;
    due = h.due ∙ sym due;
    outcomes = h.outcomes;
    told = h.told;
    ends = ends;
  }

  no_more : Splits (h.replied ++ h.waiting) (t.input ++ []) h.rest
  no_more = subst (λ (w : List ℕ). Splits (h.replied ++ h.waiting) w h.rest) (sym (append-nil t.input)) h.splits

  after_bytes : (bytes : List ℕ) → InOrder (happens (Came bytes) t)
  after_bytes bytes =
      elim (is_gone t.now.peer || not (is_serving t.now.stage)) as (λ b. is_gone t.now.peer || not (is_serving t.now.stage) ≡ b
      → InOrder (record t {
        now = if b then t.now else (if nat_le (length t.now.bytes + length bytes) most_bytes then record t.now { bytes = t.now.bytes ++ bytes; peer = peer.Paused } else record t.now { stage = stage.Overfull });
        input = t.input ++ (if b then [] else (if nat_le (length t.now.bytes + length bytes) most_bytes then bytes else []));
      })) [
        | true ↦ λ e. moved t.now (t.input ++ []) h.rest no_more refl h.ends
        | false ↦ λ e.
            let served = serving_served t.now.stage (or_false (is_gone t.now.peer) (is_serving t.now.stage) e) in
            let so = served_ends t.now.stage t.now.bytes h.waiting h.rest h.ending served h.ends in
            elim (nat_le (length t.now.bytes + length bytes) most_bytes) as (λ b. InOrder (record t {
              now = if b then record t.now { bytes = t.now.bytes ++ bytes; peer = peer.Paused } else record t.now { stage = stage.Overfull };
              input = t.input ++ (if b then bytes else []);
            })) [
              | true ↦ moved (record t.now { bytes = t.now.bytes ++ bytes; peer = peer.Paused }) (t.input ++ bytes) (h.rest ++ bytes) (splits_more (h.replied ++ h.waiting) t.input h.rest bytes h.splits) refl
                  (ends_served t.now.stage (t.now.bytes ++ bytes) h.waiting (h.rest ++ bytes) h.ending served (ap (λ w. w ++ bytes) so.0) so.1)
              | false ↦ moved (record t.now { stage = stage.Overfull }) (t.input ++ []) h.rest no_more refl so
            ]
      ] refl

  after_taking : InOrder (happens Taken t)
  after_taking =
      elim (command_of t.now) as (λ o. command_of t.now ≡ o → InOrder (record t { now = taken_if o t.now })) [
        | None ↦ λ e. moved t.now t.input h.rest h.splits refl h.ends
        | Some command ↦ λ e.
            let both = if_some (is_served t.now.stage && nat_lt (length t.now.due) most_due) (first_command (first_in t.now.bytes)) command e in
            let served = and_left (is_served t.now.stage) (nat_lt (length t.now.due) most_due) both.0 in
            let whole = whole_command (first_in t.now.bytes) command both.1 in
            let request : BeginsWithRequest t.now.bytes (asked.Command command) whole.0 = stands t.now.bytes (first.Whole (asked.Command command) whole.0) whole.1 in
            let so = served_ends t.now.stage t.now.bytes h.waiting h.rest h.ending served h.ends in
            let rest = drop whole.0 t.now.bytes in
            let front = subst (λ w. StandsFirst w request.arguments rest) (sym so.0) (stands_first t.now.bytes (asked.Command command) whole.0 request) in
            record {
              replied = h.replied;
              waiting = h.waiting ++ request.arguments ∷ [];
              rest = rest;
              ending = h.ending;
              splits = subst (λ w. Splits w t.input rest) (append_assoc h.replied h.waiting (request.arguments ∷ []))
                  (splits_next (h.replied ++ h.waiting) t.input h.rest request.arguments rest h.splits front);
              commands = each_more MeansCommand h.waiting request.arguments h.commands (subst IsCommand request.meant tt);
              due = omega (arith, h.due, length-append h.waiting (request.arguments ∷ []), length-append t.now.due (due.Given ∷ []));
              outcomes = h.outcomes;
              told = h.told;
              ends = ends_served t.now.stage (drop (first_len (first_in t.now.bytes)) t.now.bytes) (h.waiting ++ request.arguments ∷ []) rest h.ending served
                  (ap (λ f. drop (first_len f) t.now.bytes) (sym whole.1)) so.1;
            }
      ] refl

  -- ---- what is told

  -- what is no reply
  told_none : (s : Said) (now : Conversation) → outcome_of s ≡ [] → said_text s ≡ [] → length now.due ≡ length t.now.due → EndsSo now.stage now.bytes h.waiting h.rest h.ending
      → InOrder (record t { now = now; outcomes = t.outcomes ++ outcome_of s; told = t.told ++ s ∷ [] })
  told_none s now no_outcome no_text due ends =
      let same : t.outcomes ++ outcome_of s ≡ t.outcomes = ap (λ w. t.outcomes ++ w) no_outcome ∙ append-nil t.outcomes in
      record {
        replied = h.replied;
        waiting = h.waiting;
        rest = h.rest;
        ending = h.ending;
        splits = h.splits;
        commands = h.commands;
        due = h.due ∙ sym due;
        outcomes = h.outcomes ∙ ap length (sym same);
        told =
            told_more t.told s ∙ ap (λ w. flat_map said_text t.told ++ w) no_text ∙ append-nil (flat_map said_text t.told) ∙ h.told
            ∙ ap (λ o. replies_to (map meaning h.replied) o ++ h.ending) (sym same);
        ends = ends;
      }

  -- an error that ends it
  told_error : (s : Said) → outcome_of s ≡ [] → h.waiting ≡ [] → t.now.due ≡ [] → h.ending ≡ [] → NoneStandsFirst h.rest → IsError h.rest (said_text s)
      → InOrder (record t { now = record t.now { bytes = []; stage = stage.Failed }; outcomes = t.outcomes ++ outcome_of s; told = t.told ++ s ∷ [] })
  told_error s no_outcome none_waits none_due no_ending none error =
      let same : t.outcomes ++ outcome_of s ≡ t.outcomes = ap (λ w. t.outcomes ++ w) no_outcome ∙ append-nil t.outcomes in
      let replies = replies_to (map meaning h.replied) t.outcomes in
      record {
        replied = h.replied;
        waiting = h.waiting;
        rest = h.rest;
        ending = said_text s;
        splits = h.splits;
        commands = h.commands;
        due = h.due;
        outcomes = h.outcomes ∙ ap length (sym same);
        told =
            told_more t.told s ∙ ap (λ w. w ++ said_text s) (h.told ∙ ap (λ w. replies ++ w) no_ending ∙ append-nil replies)
            ∙ ap (λ o. replies_to (map meaning h.replied) o ++ said_text s) (sym same);
        ends = (none_waits, none, error);
      }

  -- the reply to the first command that waits
  told_outcome : (s : Said) (d : DueReply) (dues : List DueReply) (o : DueReply) (first : List (List ℕ)) (others : List (List (List ℕ))) → h.waiting ≡ first ∷ others → t.now.due ≡ d ∷ dues
      → outcome_of s ≡ o ∷ [] → said_text s ≡ outcome_text o → is_served t.now.stage ≡ true
      → InOrder (record t { now = record t.now { due = drop 1 t.now.due }; outcomes = t.outcomes ++ outcome_of s; told = t.told ++ s ∷ [] })
  told_outcome s d dues o first others waits dues_are outcome text served =
      let so = served_ends t.now.stage t.now.bytes h.waiting h.rest h.ending served h.ends in
      let all = subst (Each MeansCommand) waits h.commands in
      let is = command_is (meaning first) all.0 in
      let requests : map meaning (h.replied ++ first ∷ []) ≡ map meaning h.replied ++ asked.Command is.0 ∷ [] = map_more meaning h.replied first ∙ ap (λ a. map meaning h.replied ++ a ∷ []) is.1 in
      let outcomes : t.outcomes ++ outcome_of s ≡ t.outcomes ++ o ∷ [] = ap (λ w. t.outcomes ++ w) outcome in
      let replies = replies_to (map meaning h.replied) t.outcomes in
      record {
        replied = h.replied ++ first ∷ [];
        waiting = others;
        rest = h.rest;
        ending = h.ending;
        splits = subst (λ w. Splits w t.input h.rest) (ap (λ w. h.replied ++ w) waits ∙ sym (append_assoc h.replied (first ∷ []) others)) h.splits;
        commands = all.1;
        due = omega (arith, h.due, ap length waits, ap length dues_are, ap (λ w. length (drop 1 w)) dues_are);
        outcomes =
            ap command_count requests ∙ count_command (map meaning h.replied) is.0
            ∙ omega (arith, h.outcomes, ap length outcomes, length-append t.outcomes (o ∷ []));
        told =
            told_more t.told s ∙ ap (λ w. w ++ said_text s) (h.told ∙ ap (λ w. replies ++ w) so.1 ∙ append-nil replies) ∙ ap (λ w. replies ++ w) text
            ∙ sym (ap (λ a. replies_to a (t.outcomes ++ o ∷ [])) requests ∙ replies_command (map meaning h.replied) t.outcomes is.0 o h.outcomes)
            ∙ ap (λ w. replies_to (map meaning (h.replied ++ first ∷ [])) w) (sym outcomes)
            ∙ sym (append-nil (replies_to (map meaning (h.replied ++ first ∷ [])) (t.outcomes ++ outcome_of s)))
            ∙ ap (λ w. replies_to (map meaning (h.replied ++ first ∷ [])) (t.outcomes ++ outcome_of s) ++ w) (sym so.1);
        ends = ends_served t.now.stage t.now.bytes others h.rest h.ending served so.0 so.1;
      }

  -- the reply to a request that means no command
  told_other : (other : Other) (len : ℕ) → h.waiting ≡ [] → first_in t.now.bytes ≡ first.Whole (asked.Other other) len → is_served t.now.stage ≡ true
      → InOrder (record t { now = record t.now { bytes = drop (first_len (first_in t.now.bytes)) t.now.bytes }; outcomes = t.outcomes ++ []; told = t.told ++ said.Other other ∷ [] })
  told_other other len none_waits whole served =
      let so = served_ends t.now.stage t.now.bytes h.waiting h.rest h.ending served h.ends in
      let request : BeginsWithRequest t.now.bytes (asked.Other other) len = stands t.now.bytes (first.Whole (asked.Other other) len) whole in
      let rest = drop len t.now.bytes in
      let front = subst (λ w. StandsFirst w request.arguments rest) (sym so.0) (stands_first t.now.bytes (asked.Other other) len request) in
      let requests : map meaning (h.replied ++ request.arguments ∷ []) ≡ map meaning h.replied ++ asked.Other other ∷ [] = map_more meaning h.replied request.arguments ∙ ap (λ a. map meaning h.replied ++ a ∷ []) (sym request.meant) in
      let replies = replies_to (map meaning h.replied) t.outcomes in
      let all : (h.replied ++ h.waiting) ++ request.arguments ∷ [] ≡ (h.replied ++ request.arguments ∷ []) ++ h.waiting =
      ap (λ w. (h.replied ++ w) ++ request.arguments ∷ []) none_waits ∙ ap (λ w. w ++ request.arguments ∷ []) (append-nil h.replied)
      ∙ sym (append-nil (h.replied ++ request.arguments ∷ [])) ∙ ap (λ w. (h.replied ++ request.arguments ∷ []) ++ w) (sym none_waits) in
      record {
        replied = h.replied ++ request.arguments ∷ [];
        waiting = h.waiting;
        rest = rest;
        ending = h.ending;
        splits = subst (λ w. Splits w t.input rest) all (splits_next (h.replied ++ h.waiting) t.input h.rest request.arguments rest h.splits front);
        commands = h.commands;
        due = h.due;
        outcomes = ap command_count requests ∙ count_other (map meaning h.replied) other ∙ h.outcomes ∙ ap length (sym (append-nil t.outcomes));
        told =
            told_more t.told (said.Other other) ∙ ap (λ w. w ++ said_text (said.Other other)) (h.told ∙ ap (λ w. replies ++ w) so.1 ∙ append-nil replies)
            ∙ sym (ap (λ a. replies_to a t.outcomes) requests ∙ replies_other (map meaning h.replied) t.outcomes other h.outcomes)
            ∙ ap (λ o. replies_to (map meaning (h.replied ++ request.arguments ∷ [])) o) (sym (append-nil t.outcomes))
            ∙ sym (append-nil (replies_to (map meaning (h.replied ++ request.arguments ∷ [])) (t.outcomes ++ [])))
            ∙ ap (λ w. replies_to (map meaning (h.replied ++ request.arguments ∷ [])) (t.outcomes ++ []) ++ w) (sym so.1);
        ends = ends_served t.now.stage (drop (first_len (first_in t.now.bytes)) t.now.bytes) h.waiting rest h.ending served (ap (λ f. drop (first_len f) t.now.bytes) (sym whole)) so.1;
      }

  -- nothing stands first among the bytes that are left
  told_inside : (s : Said) → first_in t.now.bytes ≡ first.Part → t.now.due ≡ [] → h.waiting ≡ [] → is_served t.now.stage ≡ true → said_inside t.now ≡ Some s → InOrder (tells (Some s) t)
  told_inside s part none_due none_waits served e =
      let so = served_ends t.now.stage t.now.bytes h.waiting h.rest h.ending served h.ends in
      let inside = stands t.now.bytes first.Part part in
      let none = subst NoneStandsFirst (sym so.0) inside.none in
      elim (is_overfull t.now.stage) as (λ b. (if b then Some said.TooMuch else (if is_gone t.now.peer then Some (said_behind t.now.bytes) else None)) ≡ Some s → InOrder (tells (Some s) t)) [
        | true ↦ λ f.
            let is : said.TooMuch ≡ s = cc in
            subst (λ x. InOrder (tells (Some x) t)) is (told_error said.TooMuch refl none_waits none_due so.1 none (inr refl))
        | false ↦ λ f.
            let last = if_some (is_gone t.now.peer) (Some (said_behind t.now.bytes)) s f in
            let is : said_behind t.now.bytes ≡ s = cc in
            subst (λ x. InOrder (tells (Some x) t)) is (behind t.now.bytes so.0)
      ] e
    where
      behind : (bytes : List ℕ) → h.rest ≡ bytes → InOrder (tells (Some (said_behind bytes)) t)
      behind [] left =
          let so = served_ends t.now.stage t.now.bytes h.waiting h.rest h.ending served h.ends in
          let inside = stands t.now.bytes first.Part part in
          told_none said.Close (record t.now { stage = stage.Closed }) refl refl refl (none_waits, subst NoneStandsFirst (sym so.0) inside.none, inl (left, so.1))
      behind (byte ∷ others) left =
          let so = served_ends t.now.stage t.now.bytes h.waiting h.rest h.ending served h.ends in
          let inside = stands t.now.bytes first.Part part in
          told_error said.Protocol refl none_waits none_due so.1 (subst NoneStandsFirst (sym so.0) inside.none) (inl (λ none. absurd (cc (left, none)), refl))

  told_first : (s : Said) (f : FirstRequest) → first_in t.now.bytes ≡ f → t.now.due ≡ [] → h.waiting ≡ [] → is_served t.now.stage ≡ true → said_at f t.now ≡ Some s → InOrder (tells (Some s) t)
  told_first s (first.Whole (asked.Command command) len) is none_due none_waits served e = absurd cc
  told_first s (first.Whole (asked.Other other) len) is none_due none_waits served e =
      let same : said.Other other ≡ s = cc in
      subst (λ x. InOrder (tells (Some x) t)) same (told_other other len none_waits is served)
  told_first s first.Part is none_due none_waits served e = told_inside s is none_due none_waits served e
  told_first s first.Broken is none_due none_waits served e =
      let so = served_ends t.now.stage t.now.bytes h.waiting h.rest h.ending served h.ends in
      let broken = stands t.now.bytes first.Broken is in
      let some : h.rest ≢ [] = λ none. broken_some t.now.bytes broken (sym so.0 ∙ none) in
      let same : said.Protocol ≡ s = cc in
      subst (λ x. InOrder (tells (Some x) t)) same
      (told_error said.Protocol refl none_waits none_due so.1 (subst NoneStandsFirst (sym so.0) broken.broken.none) (inl (some, refl)))

  told_due : (s : Said) (dues : List DueReply) (waiting : List (List (List ℕ))) → t.now.due ≡ dues → h.waiting ≡ waiting → is_served t.now.stage ≡ true → said_of_due dues t.now ≡ Some s → InOrder (tells (Some s) t)
  told_due s [] waiting dues_are waits served e =
      told_first s (first_in t.now.bytes) refl dues_are (nothing h.waiting (h.due ∙ ap length dues_are)) served e
  told_due s (d ∷ dues) [] dues_are waits served e = absurd (omega (arith, h.due, ap length dues_are, ap length waits))
  told_due s (due.Given ∷ dues) (first ∷ others) dues_are waits served e = absurd cc
  told_due s (due.Pending id ∷ dues) (first ∷ others) dues_are waits served e = absurd cc
  told_due s (due.Answered a ∷ dues) (first ∷ others) dues_are waits served e =
      let same : said.Answer a ≡ s = cc in
      subst (λ x. InOrder (tells (Some x) t)) same (told_outcome (said.Answer a) (due.Answered a) dues (due.Answered a) first others waits dues_are refl refl served)
  told_due s (due.Refused why ∷ dues) (first ∷ others) dues_are waits served e =
      let same : said.Refused why ≡ s = cc in
      subst (λ x. InOrder (tells (Some x) t)) same (told_outcome (said.Refused why) (due.Refused why) dues (due.Refused why) first others waits dues_are refl refl served)

  told_by : (s : Said) (at : ConnectionStage) → t.now.stage ≡ at → said_by_stage at t.now ≡ Some s → InOrder (tells (Some s) t)
  told_by s stage.Serving is e =
      elim (more_may_come t.now) as (λ b. (if b then Some said.More else said_of_due t.now.due t.now) ≡ Some s → InOrder (tells (Some s) t)) [
        | true ↦ λ f.
            let same : said.More ≡ s = cc in
            subst (λ x. InOrder (tells (Some x) t)) same (told_none said.More (record t.now { peer = peer.Sending }) refl refl refl h.ends)
        | false ↦ λ f. told_due s t.now.due h.waiting refl refl (ap is_served is) f
      ] e
  told_by s stage.Overfull is e = told_due s t.now.due h.waiting refl refl (ap is_served is) e
  told_by s stage.Failed is e =
      let same : said.Close ≡ s = cc in
      let failed = subst (λ at. EndsSo at t.now.bytes h.waiting h.rest h.ending) is h.ends in
      subst (λ x. InOrder (tells (Some x) t)) same
      (told_none said.Close (record t.now { stage = stage.Closed }) refl refl refl (failed.0, failed.1, inr failed.2))
  told_by s stage.Closed is e = absurd cc

  after_telling : InOrder (happens Told t)
  after_telling =
      elim (said_by t.now) as (λ o. said_by t.now ≡ o → InOrder (tells o t)) [
        | None ↦ λ e. h
        | Some s ↦ λ e. told_by s t.now.stage refl e
      ] refl

-- ---- all that happens

pub at_first : (number : ℕ) → InOrder (begins number)
at_first number = record {
  replied = [];
  waiting = [];
  rest = [];
  ending = [];
  splits = refl;
  commands = tt;
  due = refl;
  outcomes = refl;
  told = refl;
  ends = (refl, refl);
}

one_more : (e : Event) (t : Talk) → InOrder t → InOrder (happens e t)
one_more (Came bytes) t h = after_bytes t h bytes
one_more Ended t h = moved t h (gone t.now) t.input h.rest h.splits refl h.ends
one_more Taken t h = after_taking t h
one_more (Settled new) t h = moved t h (settled new t.now) t.input h.rest h.splits (settled_length new t.now.due) h.ends
one_more (Completed id answer) t h =
    moved t h (completed id answer t.now) t.input h.rest h.splits (map_length (completed_due id answer) t.now.due) h.ends
one_more Told t h = after_telling t h

pub always : (events : List Event) (t : Talk) → InOrder t → InOrder (talk events t)
always [] t h = h
always (e ∷ events) t h = always events (happens e t) (one_more e t h)
