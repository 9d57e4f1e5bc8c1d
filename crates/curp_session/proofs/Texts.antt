-- The text of a session, request by request.
use Rattle.std.proofs.Common.{◌≡◌, ◌≢◌, ◌≤◌, ◌<◌, ◌==◌, get_or, ◌+◌, ℕ, zero, suc, cond, Bool, true, false, List, [], ◌∷◌, ◌++◌, length, take, drop, Option, Some, None, refl, ap, sym, ◌∙◌, subst, arith, append_assoc, append-nil}
use Rattle.std.proofs.lemmas.List.{drop_all, take_more}
use Rattle.serde_json.specs.Written.{compact_text}
use Rattle.curp_base.specs.Words.{Each, IsPrefix}
use Rattle.curp_base.proofs.Lists.{Each-append, drop_index, prefix_push, prefix_self, prefix_trans}
use Rattle.curp_cmd.specs.declared.command.Answer.{Answer}
use Rattle.curp_cmd.specs.declared.command.Command.{Command}
use Rattle.curp_io.specs.Streams.{HoldsPart}
use Rattle.curp_law_print.specs.Ranges.{StepInRange}
use Rattle.curp_law_served.specs.Served.{Limit, Served, after_all, and_then, header_of, if_turn, is_turn, replaces_master, serve, tidies, with_quieting}
use Rattle.curp_msg.specs.declared.script.Header.{Header}
use Rattle.curp_msg.specs.declared.script.Step.{Step}
use Rattle.curp_msg.specs.declared.script.Step.TheVariants as steps
use Rattle.curp_resp.specs.Reply.{other_of, protocol_error}
use Rattle.curp_resp.specs.declared.asked.Asked.{Asked}
use Rattle.curp_resp.specs.declared.asked.Asked.TheVariants as asked
use Rattle.curp_resp.specs.declared.asked.Other.{Other}
use Rattle.curp_script.specs.Printed.{header_data}
use Rattle.curp_script.specs.Texts.{header_line, line_text, lines_text, script_lines, step_line}
use Rattle.curp_serve.proofs.Going.{quieting_goes, replaces_goes, tidies_goes, turn_goes}
use Rattle.curp_session.specs.Answering.{due_of, if_replies, so_far}
use Rattle.curp_session.specs.Session.{Session, answered_by, closing, fresh, most_requests, reads, reads_all, refused, text_by, unless_stopped}
use Rattle.curp_words.specs.declared.task.RespOutput.{RespOutput}
use Rattle.curp_words.specs.declared.task.RespOutput.TheVariants as output

-- ---- lines

pub lines_append : (xs ys : List Step) → lines_text (xs ++ ys) ≡ lines_text xs ++ lines_text ys
lines_append [] ys = refl
lines_append (x ∷ xs) ys = ap (λ (t : List ℕ). step_line x ++ t) (lines_append xs ys) ∙ sym (append_assoc (step_line x) (lines_text xs) (lines_text ys))

drop_length : {A : Type 0} (xs ys : List A) → drop (length xs) (xs ++ ys) ≡ ys
drop_length [] ys = refl
drop_length (x ∷ xs) ys = drop_length xs ys

-- what a list has behind a prefix of it
pub behind_prefix : {A : Type 0} (xs ys : List A) → IsPrefix xs ys → ys ≡ xs ++ drop (length xs) ys
behind_prefix {A} xs ys p = sym p.is ∙ ap (λ (t : List A). xs ++ t) (sym (drop_length xs p.rest) ∙ ap (λ (t : List A). drop (length xs) t) p.is)

-- the header's line, where a script is written
pub opening_text : (o : RespOutput) (f : ℕ) (h : Header) (line : List ℕ) → o ≡ output.Script → h ≡ header_of f → line ≡ compact_text (header_data h)
    → line_text line ≡ so_far o f (fresh f)
unfolding header_line
opening_text o f h line script header printed =
    ap line_text (printed ∙ ap (λ (x : Header). compact_text (header_data x)) header) ∙ sym (append-nil (header_line (header_of f)))
    ∙ sym (ap (λ (x : RespOutput). so_far x f (fresh f)) script)

-- ---- a command takes no step back

then_grows : (t : Served) (next : Served → Served) → ((u : Served) → IsPrefix u.steps (next u).steps) → IsPrefix t.steps (and_then t next).steps
then_grows t next grows = by t.stopped
  where
    by : (o : Option Limit) → IsPrefix t.steps (after_all o t next).steps
    by None = grows t
    by (Some why) = prefix_self t.steps

pub serve_grows : (every : ℕ) (command : Command) (s : Served) → IsPrefix s.steps (serve every command s).steps
unfolding serve
serve_grows every command s =
    let first = with_quieting (steps.Invoke 1 command) (record s { answer = None }) in
    let tidy = λ (k : Served). if_turn (is_turn 16 (k.commands + 1)) tidies (record k { commands = k.commands + 1 }) in
    prefix_trans (quieting_goes (steps.Invoke 1 command) (record s { answer = None })).steps
    (prefix_trans (then_grows first tidy (λ u. (turn_goes (is_turn 16 (u.commands + 1)) tidies (record u { commands = u.commands + 1 }) tidies_goes).steps))
    (then_grows (and_then first tidy) (λ k. if_turn (is_turn every k.commands) replaces_master k)
    (λ u. (turn_goes (is_turn every u.commands) replaces_master u replaces_goes).steps)))

-- ---- the text of one request more

-- a command's
pub so_far_command : (o : RespOutput) (f every : ℕ) (command : Command) (k : Session) → let next = serve every command k.served in
    so_far o f (answered_by every (asked.Command command) k) ≡ so_far o f k ++ due_of o next.answer (drop (length k.served.steps) next.steps)
so_far_command output.Replies f every command k = refl
so_far_command output.Script f every command k =
    let old = k.served.steps in
    let new = (serve every command k.served).steps in
    let line = header_line (header_of f) in
    ap (λ (xs : List Step). line ++ lines_text xs) (behind_prefix old new (serve_grows every command k.served))
    ∙ ap (λ (t : List ℕ). line ++ t) (lines_append old (drop (length old) new))
    ∙ sym (append_assoc line (lines_text old) (lines_text (drop (length old) new)))

-- the same, as the program has it
pub command_due : (o : RespOutput) (f every : ℕ) (command : Command) (k : Session) (s t : Served) (a : Option Answer) (n : ℕ) → k.served ≡ s
    → t ≡ serve every command s → a ≡ (serve every command s).answer → n ≡ length s.steps
    → so_far o f k ++ due_of o a (drop n t.steps) ≡ so_far o f (answered_by every (asked.Command command) k)
command_due o f every command k s t a n same new answer count =
    let due = λ (x : Option Answer) (m : ℕ) (u : Served). so_far o f k ++ due_of o x (drop m u.steps) in
    ap (λ (x : Option Answer). due x n t) (answer ∙ ap (λ (u : Served). (serve every command u).answer) (sym same))
    ∙ ap (λ (m : ℕ). due (serve every command k.served).answer m t) (count ∙ ap (λ (u : Served). length u.steps) (sym same))
    ∙ ap (λ (u : Served). due (serve every command k.served).answer (length k.served.steps) u) (new ∙ ap (λ (u : Served). serve every command u) (sym same))
    ∙ sym (so_far_command o f every command k)

-- that of one which means no command
pub so_far_other : (o : RespOutput) (f every : ℕ) (other : Other) (k : Session)
    → so_far o f (answered_by every (asked.Other other) k) ≡ so_far o f k ++ if_replies o (other_of other)
so_far_other output.Replies f every other k = refl
so_far_other output.Script f every other k = sym (append-nil (script_lines (header_of f) k.served.steps))

-- that of one too many
pub so_far_refused : (o : RespOutput) (f : ℕ) (k : Session) → so_far o f (refused k) ≡ so_far o f k
so_far_refused output.Replies f k = refl
so_far_refused output.Script f k = refl

-- ---- what is read

not_limit : (n : ℕ) → n ≢ most_requests → (n == most_requests) ≡ false
not_limit n other = by (n == most_requests) refl
  where
    by : (b : Bool) → (n == most_requests) ≡ b → b ≡ false
    by false e = refl
    by true e = absurd (other (same n e))
      where
        same : (m : ℕ) → (m == most_requests) ≡ true → m ≡ most_requests
        same m e = grind arith

pub reads_answers : (every : ℕ) (a : Asked) (k : Session) → k.requests ≢ most_requests → reads every a k ≡ answered_by every a k
reads_answers every a k other = ap (λ (b : Bool). cond b (refused k) (answered_by every a k)) (not_limit k.requests other)

-- ---- a text goes on

pub answered_grows : (o : RespOutput) (f every : ℕ) (a : Asked) (k : Session) → IsPrefix (so_far o f k) (so_far o f (answered_by every a k))
answered_grows o f every (asked.Command command) k = record {
  rest = due_of o (serve every command k.served).answer (drop (length k.served.steps) (serve every command k.served).steps);
  is = sym (so_far_command o f every command k);
}
answered_grows o f every (asked.Other other) k = record { rest = if_replies o (other_of other); is = sym (so_far_other o f every other k) }

read_grows : (o : RespOutput) (f every : ℕ) (a : Asked) (k : Session) → IsPrefix (so_far o f k) (so_far o f (reads every a k))
read_grows o f every a k = by (k.requests == most_requests)
  where
    by : (b : Bool) → IsPrefix (so_far o f k) (so_far o f (cond b (refused k) (answered_by every a k)))
    by true = subst (λ (t : List ℕ). IsPrefix (so_far o f k) t) (sym (so_far_refused o f k)) (prefix_self (so_far o f k))
    by false = answered_grows o f every a k

pub all_grow : (o : RespOutput) (f every : ℕ) (requests : List Asked) (k : Session) → IsPrefix (so_far o f k) (so_far o f (reads_all every requests k))
all_grow o f every [] k = prefix_self (so_far o f k)
all_grow o f every (a ∷ requests) k =
    prefix_trans (read_grows o f every a k) (by (reads every a k).served.stopped (all_grow o f every requests (reads every a k)))
  where
    by : (stopped : Option Limit) → IsPrefix (so_far o f (reads every a k)) (so_far o f (reads_all every requests (reads every a k)))
        → IsPrefix (so_far o f (reads every a k)) (so_far o f (unless_stopped stopped (reads every a k) (reads_all every requests)))
    by None more = more
    by (Some why) more = prefix_self (so_far o f (reads every a k))

pub text_grows : (o : RespOutput) (f : ℕ) (k : Session) (rest : List ℕ) → IsPrefix (so_far o f k) (text_by o f k rest)
text_grows output.Replies f k rest = prefix_push k.replies (closing k.served.stopped rest)
text_grows output.Script f k rest = prefix_self (script_lines (header_of f) k.served.steps)

-- ---- what was written of it

pub part_of_more : (old new text more : List ℕ) → HoldsPart old new text → IsPrefix text more → HoldsPart old new more
part_of_more old new text more h p = record { part = h.part; prefix = prefix_trans h.prefix p; added = h.added }

-- a prefix of one piece more
pub part_behind : (before old new text piece : List ℕ) → old ≡ before ++ text → HoldsPart old new piece → HoldsPart before new (text ++ piece)
part_behind before old new text piece is h = record {
  part = text ++ h.part;
  prefix = record { rest = h.prefix.rest; is = append_assoc text h.part h.prefix.rest ∙ ap (λ (t : List ℕ). text ++ t) h.prefix.is };
  added = h.added ∙ ap (λ (t : List ℕ). t ++ h.part) is ∙ append_assoc before text h.part;
}

-- the whole of it
pub whole_behind : (before old new text piece : List ℕ) → old ≡ before ++ text → new ≡ old ++ piece → new ≡ before ++ (text ++ piece)
whole_behind before old new text piece is more = more ∙ ap (λ (t : List ℕ). t ++ piece) is ∙ append_assoc before text piece

-- none of it
pub part_held : (before held text more : List ℕ) → held ≡ before ++ text → IsPrefix text more → HoldsPart before held more
part_held before held text more is p = record { part = text; prefix = p; added = is }

-- ---- steps in range

pub in_range_whole : (n : ℕ) (xs : List Step) → Each StepInRange (take n xs) → Each StepInRange (drop n xs) → Each StepInRange xs
in_range_whole n xs prefix rest = subst (λ (t : List Step). Each StepInRange t) (halves n xs) (Each-append StepInRange (take n xs) (drop n xs) prefix rest)
  where
    halves : (n : ℕ) (xs : List Step) → take n xs ++ drop n xs ≡ xs
    halves zero xs = refl
    halves (suc n) [] = refl
    halves (suc n) (x ∷ xs) = ap (λ (t : List Step). x ∷ t) (halves n xs)

-- ---- lines of steps, one by one

pub next_line : (xs : List Step) (k : ℕ) (s : Step) → k < length xs → s ≡ get_or xs k s → lines_text (drop k xs) ≡ step_line s ++ lines_text (drop (k + 1) xs)
next_line xs k s within here =
    ap lines_text (drop_index xs k s within) ∙ ap (λ (x : Step). step_line x ++ lines_text (drop (k + 1) xs)) (sym here)

pub no_line_left : (xs : List Step) (k : ℕ) → length xs ≤ k → lines_text (drop k xs) ≡ []
no_line_left xs k all = ap lines_text (drop_all k xs all)

pub next_in_range : (xs : List Step) (k : ℕ) (s : Step) → k < length xs → s ≡ get_or xs k s → Each StepInRange (take k xs) → StepInRange s
    → Each StepInRange (take (k + 1) xs)
next_in_range xs k s within here prefix next =
    let more : take (k + 1) xs ≡ take k xs ++ s ∷ [] = take_more xs k s within ∙ ap (λ (z : Step). take k xs ++ z ∷ []) (sym here) in
    subst (λ (zs : List Step). Each StepInRange zs) (sym more) (Each-append StepInRange (take k xs) (s ∷ []) prefix (next, tt))

-- ---- a request that means no command, as the program has it

pub other_due : (o : RespOutput) (f every : ℕ) (a : Asked) (other : Other) (k : Session) → a ≡ asked.Other other → k.requests ≢ most_requests
    → so_far o f k ++ if_replies o (other_of other) ≡ so_far o f (reads every a k)
other_due o f every a other k is room =
    sym (so_far_other o f every other k)
    ∙ ap (λ (x : Asked). so_far o f (answered_by every x k)) (sym is)
    ∙ ap (λ (j : Session). so_far o f j) (sym (reads_answers every a k room))

-- ---- the end of a text

pub text_stopped : (o : RespOutput) (f : ℕ) (k : Session) (rest : List ℕ) (why : Limit) → k.served.stopped ≡ Some why → text_by o f k rest ≡ so_far o f k
text_stopped output.Replies f k rest why is = ap (λ (l : Option Limit). k.replies ++ closing l rest) is ∙ append-nil k.replies
text_stopped output.Script f k rest why is = refl

pub text_ended : (o : RespOutput) (f : ℕ) (k : Session) (rest : List ℕ) → k.served.stopped ≡ None → rest ≡ [] → text_by o f k rest ≡ so_far o f k
text_ended output.Replies f k rest is none =
    ap (λ (l : Option Limit). k.replies ++ closing l rest) is ∙ ap (λ (r : List ℕ). k.replies ++ closing None r) none ∙ append-nil k.replies
text_ended output.Script f k rest is none = refl

pub text_broken : (o : RespOutput) (f : ℕ) (k : Session) (rest : List ℕ) → k.served.stopped ≡ None → rest ≢ []
    → text_by o f k rest ≡ so_far o f k ++ if_replies o protocol_error
text_broken output.Replies f k [] is some = absurd (some refl)
text_broken output.Replies f k (byte ∷ rest) is some = ap (λ (l : Option Limit). k.replies ++ closing l (byte ∷ rest)) is
text_broken output.Script f k rest is some = sym (append-nil (script_lines (header_of f) k.served.steps))
