-- Where a session stands behind a request more, and how it finishes.
use Rattle.std.proofs.Common.{◌≡◌, ◌≢◌, ◌≤◌, ◌+◌, ◌-◌, ◌^◌, min, ℕ, Bool, true, false, List, [], ◌∷◌, ◌++◌, length, length-append, map, Option, Some, None, Result, Ok, Err, refl, ap, sym, ◌∙◌, subst, arith}
use Rattle.std.specs.Bool.{⊤}
use Rattle.std.specs.Result.{IsErrAnd}
use Rattle.curp_base.specs.Words.{IsPrefix}
use Rattle.curp_base.proofs.Lists.{prefix_self, prefix_trans}
use Rattle.curp_io.specs.Streams.{HoldsPart}
use Rattle.curp_law_served.specs.Served.{Limit, Served, begun}
use Rattle.curp_runner.specs.Reading.{IsOfWriting}
use Rattle.curp_runner.specs.Status.{ended, is_cut_short}
use Rattle.curp_runner.specs.declared.status.Status.{Status}
use Rattle.curp_runner.specs.declared.status.Status.TheVariants as status
use Rattle.curp_resp.specs.Input.{BreaksOff, Decomposes, StandsFirst, place_behind}
use Rattle.curp_resp.specs.Meaning.{meaning}
use Rattle.curp_resp.specs.Next.{GivesRequest, RefusesBytes}
use Rattle.curp_resp.specs.Reply.{protocol_error}
use Rattle.curp_resp.specs.declared.asked.Asked.{Asked}
use Rattle.curp_resp.specs.declared.asked.Asked.TheVariants as asked
use Rattle.curp_resp.proofs.Prefixes.{one_place, one_stands_first, request_some}
use Rattle.curp_session.specs.Answering.{Aim, AreReadBack, Finishes, IsSession, aim_of, ended_by, if_replies, so_far}
use Rattle.curp_session.specs.Session.{EndsSession, Session, answered_by, fresh, most_requests, reads, reads_all, status_of_limit, text_by, unless_stopped}
use Rattle.curp_words.specs.declared.task.RespOutput.TheVariants as output
use Rattle.curp_words.specs.declared.task.RespPlan.{RespPlan}
use Rattle.curp_session.proofs.Texts.{all_grow, part_behind, part_held, part_of_more, reads_answers, text_broken, text_ended, text_grows, text_stopped, whole_behind}

-- ---- errors

-- it ends with this error
pub ends_with : {A : Type 0} (r : Result A Status) (e : Status) → IsErrAnd r (λ s. s ≡ e) → r ≡ Err e
ends_with (Ok _) e h = absurd h
ends_with (Err s) e h = ap Err h

-- a write fault and running out of memory cut it short
pub cut_by_writing : (e : Status) → IsOfWriting e → is_cut_short e ≡ true
cut_by_writing status.WriteFault h = refl
cut_by_writing status.NoMemory h = refl
cut_by_writing status.ReadFault h = absurd h
cut_by_writing status.Ok h = absurd h
cut_by_writing (status.No clause) h = absurd h
cut_by_writing status.Usage h = absurd h
cut_by_writing (status.BadLine line reason) h = absurd h
cut_by_writing status.TooManySteps h = absurd h
cut_by_writing status.TooManyLines h = absurd h
cut_by_writing (status.TooLarge weight) h = absurd h
cut_by_writing (status.LineTooLong line) h = absurd h
cut_by_writing (status.BadRequest at) h = absurd h

both : {P : Type 0} (b : Bool) → b ≡ true → b ≡ false → P
both b h i = absurd cc

-- ---- places

places : (most from a b : ℕ) → min (min (from + a) most + b) most ≡ min (from + (a + b)) most
places most from a b = grind arith

places_of : (most a b : ℕ) → min (min (0 + a) most + b) most ≡ min (a + b) most
places_of most a b = grind arith

-- one behind the other
pub place_further : (size before after count place : ℕ) → place ≡ place_behind 0 (size - before) → before ≡ count + after → before ≤ size
    → place_behind place count ≡ place_behind 0 (size - after)
place_further size before after count place is sum within =
    let left : (size - before) + count ≡ size - after = omega (arith, sum, within) in
    let one : place_behind place count ≡ place_behind (place_behind 0 (size - before)) count = ap (λ (p : ℕ). place_behind p count) is in
    let two : place_behind (place_behind 0 (size - before)) count ≡ place_behind 0 ((size - before) + count) = places (2 ^ 64 - 1) 0 (size - before) count in
    let three : place_behind 0 ((size - before) + count) ≡ place_behind 0 (size - after) = ap (λ (n : ℕ). place_behind 0 n) left in
    one ∙ two ∙ three

pub place_there : (size before count place : ℕ) → place ≡ place_behind 0 (size - before) → place_behind place count ≡ place_behind (size - before) count
place_there size before count place is =
    let one : place_behind place count ≡ place_behind (place_behind 0 (size - before)) count = ap (λ (p : ℕ). place_behind p count) is in
    let two : place_behind (place_behind 0 (size - before)) count ≡ place_behind (size - before) count = places_of (2 ^ 64 - 1) (size - before) count in
    one ∙ two

-- ---- what is due

-- the next request is the first of those that are due
pub record Due (aim : Aim) (now : Session) (given : Asked) (bytes : List ℕ) : Type 0 where
  pub more : List (List (List ℕ))
  pub decomposes : Decomposes more bytes aim.rest
  pub leads : unless_stopped (reads aim.every given now).served.stopped (reads aim.every given now) (reads_all aim.every (map meaning more)) ≡ aim.whole

pub next_due : (aim : Aim) (now : Session) (due : List (List (List ℕ))) (bytes rest : List ℕ) (passed then : ℕ) (given : Asked) → Decomposes due bytes aim.rest
    → reads_all aim.every (map meaning due) now ≡ aim.whole → GivesRequest bytes passed given rest then → Due aim now given rest
next_due aim now [] bytes rest passed then given d leads g =
    absurd (d.1 g.arguments rest (record { spelled = g.spelled; request = g.request; is = g.left ∙ d.0 }))
next_due aim now (arguments ∷ more) bytes rest passed then given d leads g =
    let first = one_stands_first bytes arguments g.arguments d.0 rest d.1 (record { spelled = g.spelled; request = g.request; is = g.left }) in
    let same : given ≡ meaning arguments = g.meant ∙ ap meaning (sym first.0) in
    record {
      more = more;
      decomposes = subst (λ (b : List ℕ). Decomposes more b aim.rest) first.1 d.2;
      leads = ap (λ (a : Asked). unless_stopped (reads aim.every a now).served.stopped (reads aim.every a now) (reads_all aim.every (map meaning more))) same ∙ leads;
    }

-- where no request stands first, none is due
pub none_due : (aim : Aim) (now : Session) (due : List (List (List ℕ))) (bytes : List ℕ) → Decomposes due bytes aim.rest
    → reads_all aim.every (map meaning due) now ≡ aim.whole → ((arguments : List (List ℕ)) (rest : List ℕ) → StandsFirst bytes arguments rest → ⊥)
    → (bytes ≡ aim.rest) × (now ≡ aim.whole)
none_due aim now [] bytes d leads none = (d.0, leads)
none_due aim now (arguments ∷ more) bytes d leads none = absurd (none arguments d.0 d.1)

pub none_first : (bytes : List ℕ) → bytes ≡ [] → (arguments : List (List ℕ)) (rest : List ℕ) → StandsFirst bytes arguments rest → ⊥
none_first bytes none arguments rest h = let some = request_some bytes arguments rest h in absurd (omega (arith, some, ap length none))

-- ---- behind a request

pub counted_more : (every : ℕ) (a : Asked) (k : Session) → (answered_by every a k).requests ≡ k.requests + 1
counted_more every (asked.Command command) k = refl
counted_more every (asked.Other other) k = refl

pub free_by : (o : Option Limit) → Ok tt ≡ ended_by o → o ≡ None
free_by None e = refl
free_by (Some why) e = absurd cc

-- it was answered
pub stands_on : (aim : Aim) (tells : Bool) (held new : List ℕ) (old state : Served) (count : ℕ) (bytes rest : List ℕ) (passed then : ℕ) (given : Asked)
    → (h : IsSession aim tells held old count bytes passed) → GivesRequest bytes passed given rest then → let next = reads aim.every given h.now in
    count ≢ most_requests → Ok tt ≡ ended_by next.served.stopped → state ≡ next.served
    → (aim.output ≡ output.Script → AreReadBack old.steps → AreReadBack next.served.steps)
    → (tells ≡ true → held ≡ aim.before ++ so_far aim.output aim.f h.now → new ≡ aim.before ++ so_far aim.output aim.f next)
    → IsSession aim tells new state (count + 1) rest then
stands_on aim tells held new old state count bytes rest passed then given h g room limit is printable wrote =
    let next = reads aim.every given h.now in
    let d = next_due aim h.now h.due bytes rest passed then given h.decomposes h.leads g in
    let free = free_by next.served.stopped limit in
    let size : length bytes ≡ length g.spelled + length rest = ap length (sym g.left) ∙ length-append g.spelled rest in
    let answers = reads_answers aim.every given h.now (λ e. room (sym h.at.counted ∙ e)) in
    record {
      now = next;
      at = record {
        served = sym is;
        counted = ap (λ (k : Session). k.requests) answers ∙ counted_more aim.every given h.now ∙ ap (λ (n : ℕ). n + 1) h.at.counted;
        free = free;
      };
      due = d.more;
      decomposes = d.decomposes;
      leads = ap (λ (o : Option Limit). unless_stopped o next (reads_all aim.every (map meaning d.more))) (sym free) ∙ d.leads;
      passes = g.counted ∙ place_further aim.size (length bytes) (length rest) (length g.spelled) passed h.passes size h.within;
      within = omega (arith, size, h.within);
      printable = λ script. subst (λ (s : Served). AreReadBack s.steps) (sym is) (printable script (h.printable script));
      wrote = λ told. wrote told (h.wrote told);
    }

-- what the sink holds stays
pub still_stands : (aim : Aim) (tells : Bool) (held new : List ℕ) (state : Served) (count : ℕ) (bytes : List ℕ) (passed : ℕ)
    → IsSession aim tells held state count bytes passed → (tells ≡ true → new ≡ held) → IsSession aim tells new state count bytes passed
still_stands aim tells held new state count bytes passed h same = record {
  now = h.now;
  at = h.at;
  due = h.due;
  decomposes = h.decomposes;
  leads = h.leads;
  passes = h.passes;
  within = h.within;
  printable = h.printable;
  wrote = λ told. same told ∙ h.wrote told;
}

-- ---- how it finishes

limit_in : (o : Option Limit) (e : Status) → Err e ≡ ended_by o → (why : Limit) × (o ≡ Some why) × (e ≡ status_of_limit why)
limit_in None e h = absurd cc
limit_in (Some why) e h = (why, refl, cc)

-- a limit was met, or it was cut short
pub finishes_there : (aim : Aim) (tells : Bool) (held new : List ℕ) (old : Served) (count : ℕ) (bytes rest : List ℕ) (passed then : ℕ) (given : Asked) (stop : Status)
    → (h : IsSession aim tells held old count bytes passed) → GivesRequest bytes passed given rest then → let next = reads aim.every given h.now in
    (is_cut_short stop ≡ false → Err stop ≡ ended_by next.served.stopped)
    → (aim.output ≡ output.Script → is_cut_short stop ≡ false → AreReadBack old.steps → AreReadBack next.served.steps)
    → (tells ≡ true → is_cut_short stop ≡ false → held ≡ aim.before ++ so_far aim.output aim.f h.now → new ≡ aim.before ++ so_far aim.output aim.f next)
    → (tells ≡ true → held ≡ aim.before ++ so_far aim.output aim.f h.now → HoldsPart aim.before new (so_far aim.output aim.f next))
    → Finishes aim tells new stop
finishes_there aim tells held new old count bytes rest passed then given stop h g limit printable wrote prefix =
    let next = reads aim.every given h.now in
    let d = next_due aim h.now h.due bytes rest passed then given h.decomposes h.leads g in
    let whole : (o : Option Limit) → next.served.stopped ≡ o → unless_stopped o next (reads_all aim.every (map meaning d.more)) ≡ aim.whole =
    λ o e. ap (λ (x : Option Limit). unless_stopped x next (reads_all aim.every (map meaning d.more))) (sym e) ∙ d.leads in
    let text = λ (k : Session). text_by aim.output aim.f k aim.rest in
    record {
      ends = λ still.
          let met = limit_in next.served.stopped stop (limit still) in
          let same : next ≡ aim.whole = whole (Some met.0) met.1 in
          subst (λ (o : Option Limit). EndsSession o (aim.size - length aim.rest) aim.rest stop)
          (sym met.1 ∙ ap (λ (k : Session). k.served.stopped) same) met.2;
      wrote = λ told still.
          let met = limit_in next.served.stopped stop (limit still) in
          let same : next ≡ aim.whole = whole (Some met.0) met.1 in
          wrote told still (h.wrote told)
          ∙ ap (λ (t : List ℕ). aim.before ++ t) (sym (text_stopped aim.output aim.f next aim.rest met.0 met.1))
          ∙ ap (λ (k : Session). aim.before ++ text k) same;
      prefix = λ told.
          part_of_more aim.before new (so_far aim.output aim.f next) (text aim.whole) (prefix told (h.wrote told))
          (prefix_trans (subst (λ (k : Session). IsPrefix (so_far aim.output aim.f next) (so_far aim.output aim.f k)) d.leads (on next d.more next.served.stopped))
          (text_grows aim.output aim.f aim.whole aim.rest));
      printable = λ script still.
          let met = limit_in next.served.stopped stop (limit still) in
          subst (λ (k : Session). AreReadBack k.served.steps) (whole (Some met.0) met.1) (printable script still (h.printable script));
    }
  where
    on : (k : Session) (more : List (List (List ℕ))) (o : Option Limit)
        → IsPrefix (so_far aim.output aim.f k) (so_far aim.output aim.f (unless_stopped o k (reads_all aim.every (map meaning more))))
    on k more None = all_grow aim.output aim.f aim.every (map meaning more) k
    on k more (Some why) = prefix_self (so_far aim.output aim.f k)

-- nothing more is written, and it was cut short
pub finishes_cut : (aim : Aim) (tells : Bool) (held : List ℕ) (old : Served) (count : ℕ) (bytes : List ℕ) (passed : ℕ) (stop : Status)
    → IsSession aim tells held old count bytes passed → is_cut_short stop ≡ true → Finishes aim tells held stop
finishes_cut aim tells held old count bytes passed stop h cut = record {
  ends = λ still. both (is_cut_short stop) cut still;
  wrote = λ told still. both (is_cut_short stop) cut still;
  prefix = λ told.
      part_held aim.before held (so_far aim.output aim.f h.now) (text_by aim.output aim.f aim.whole aim.rest) (h.wrote told)
      (prefix_trans (subst (λ (k : Session). IsPrefix (so_far aim.output aim.f h.now) (so_far aim.output aim.f k)) h.leads
      (all_grow aim.output aim.f aim.every (map meaning h.due) h.now)) (text_grows aim.output aim.f aim.whole aim.rest));
  printable = λ script still. both (is_cut_short stop) cut still;
}

-- the input is at its end
pub finishes_end : (aim : Aim) (tells : Bool) (held : List ℕ) (old : Served) (count : ℕ) (bytes : List ℕ) (passed : ℕ)
    → IsSession aim tells held old count bytes passed → bytes ≡ [] → Finishes aim tells held status.Ok
finishes_end aim tells held old count bytes passed h none =
    let last = none_due aim h.now h.due bytes h.decomposes h.leads (none_first bytes none) in
    let rest : aim.rest ≡ [] = sym last.0 ∙ none in
    let free : aim.whole.served.stopped ≡ None = ap (λ (k : Session). k.served.stopped) (sym last.1) ∙ h.at.free in
    record {
      ends = λ still. subst (λ (o : Option Limit). EndsSession o (aim.size - length aim.rest) aim.rest status.Ok) (sym free)
          (record { ok = λ e. refl; bad = λ place broken. absurd (broken.some rest) });
      wrote = λ told still. h.wrote told ∙ ap (λ (k : Session). aim.before ++ so_far aim.output aim.f k) last.1
          ∙ ap (λ (t : List ℕ). aim.before ++ t) (sym (text_ended aim.output aim.f aim.whole aim.rest free rest));
      prefix = λ told. part_held aim.before held (so_far aim.output aim.f aim.whole) (text_by aim.output aim.f aim.whole aim.rest)
          (h.wrote told ∙ ap (λ (k : Session). aim.before ++ so_far aim.output aim.f k) last.1) (text_grows aim.output aim.f aim.whole aim.rest);
      printable = λ script still. subst (λ (s : Served). AreReadBack s.steps) (sym h.at.served ∙ ap (λ (k : Session). k.served) last.1) (h.printable script);
    }

-- the bytes break off
record Broken (aim : Aim) (tells : Bool) (held : List ℕ) (at : ℕ) : Type 0 where
  pub free : aim.whole.served.stopped ≡ None
  pub some : aim.rest ≢ []
  pub place : (place : ℕ) → BreaksOff aim.rest place → at ≡ place_behind (aim.size - length aim.rest) place
  pub wrote : tells ≡ true → held ≡ aim.before ++ so_far aim.output aim.f aim.whole
  pub printable : aim.output ≡ output.Script → AreReadBack aim.whole.served.steps

broken : (aim : Aim) (tells : Bool) (held : List ℕ) (old : Served) (count : ℕ) (bytes rest : List ℕ) (passed at : ℕ)
    → IsSession aim tells held old count bytes passed → RefusesBytes bytes passed at rest → Broken aim tells held at
broken aim tells held old count bytes rest passed at h r =
    let last = none_due aim h.now h.due bytes h.decomposes h.leads r.broken.none in
    let its = subst (λ (b : List ℕ). BreaksOff b r.place) last.0 r.broken in
    record {
      free = ap (λ (k : Session). k.served.stopped) (sym last.1) ∙ h.at.free;
      some = its.some;
      place = λ other breaks.
          r.told ∙ place_there aim.size (length bytes) r.place passed h.passes ∙ ap (λ (b : List ℕ). place_behind (aim.size - length b) r.place) last.0
          ∙ ap (λ (p : ℕ). place_behind (aim.size - length aim.rest) p) (one_place aim.rest r.place other its.longest breaks.longest);
      wrote = λ told. h.wrote told ∙ ap (λ (k : Session). aim.before ++ so_far aim.output aim.f k) last.1;
      printable = λ script. subst (λ (s : Served). AreReadBack s.steps) (sym h.at.served ∙ ap (λ (k : Session). k.served) last.1) (h.printable script);
    }

-- and that was replied
pub finishes_broken : (aim : Aim) (tells : Bool) (held new : List ℕ) (old : Served) (count : ℕ) (bytes rest : List ℕ) (passed at : ℕ)
    → IsSession aim tells held old count bytes passed → RefusesBytes bytes passed at rest
    → (tells ≡ true → new ≡ held ++ if_replies aim.output protocol_error) → Finishes aim tells new (status.BadRequest at)
finishes_broken aim tells held new old count bytes rest passed at h r more =
    let b = broken aim tells held old count bytes rest passed at h r in
    let wrote : tells ≡ true → new ≡ aim.before ++ text_by aim.output aim.f aim.whole aim.rest =
    λ told. whole_behind aim.before held new (so_far aim.output aim.f aim.whole) (if_replies aim.output protocol_error) (b.wrote told) (more told)
    ∙ ap (λ (t : List ℕ). aim.before ++ t) (sym (text_broken aim.output aim.f aim.whole aim.rest b.free b.some)) in
    record {
      ends = λ still. subst (λ (o : Option Limit). EndsSession o (aim.size - length aim.rest) aim.rest (status.BadRequest at)) (sym b.free)
          (record { ok = λ none. absurd (b.some none); bad = λ place breaks. ap status.BadRequest (b.place place breaks) });
      wrote = λ told still. wrote told;
      prefix = λ told. part_held aim.before new (text_by aim.output aim.f aim.whole aim.rest) (text_by aim.output aim.f aim.whole aim.rest) (wrote told)
          (prefix_self (text_by aim.output aim.f aim.whole aim.rest));
      printable = λ script still. b.printable script;
    }

-- or that was cut short
pub broken_cut : (aim : Aim) (tells : Bool) (held new : List ℕ) (old : Served) (count : ℕ) (bytes rest : List ℕ) (passed at : ℕ) (stop : Status)
    → IsSession aim tells held old count bytes passed → RefusesBytes bytes passed at rest → is_cut_short stop ≡ true
    → (tells ≡ true → HoldsPart held new (if_replies aim.output protocol_error)) → Finishes aim tells new stop
broken_cut aim tells held new old count bytes rest passed at stop h r cut more =
    let b = broken aim tells held old count bytes rest passed at h r in
    record {
      ends = λ still. both (is_cut_short stop) cut still;
      wrote = λ told still. both (is_cut_short stop) cut still;
      prefix = λ told. subst (λ (t : List ℕ). HoldsPart aim.before new t) (sym (text_broken aim.output aim.f aim.whole aim.rest b.free b.some))
          (part_behind aim.before held new (so_far aim.output aim.f aim.whole) (if_replies aim.output protocol_error) (b.wrote told) (more told));
      printable = λ script still. both (is_cut_short stop) cut still;
    }

-- ---- nothing was read

-- all requests are due
pub stands_at_first : (plan : RespPlan) (requests : List (List (List ℕ))) (rest input before held : List ℕ) (tells : Bool) → Decomposes requests input rest
    → (tells ≡ true → held ≡ before ++ so_far plan.output plan.f (fresh plan.f))
    → IsSession (aim_of plan requests rest input before) tells held (begun plan.f) 0 input 0
stands_at_first plan requests rest input before held tells d wrote = record {
  now = fresh plan.f;
  at = record { served = refl; counted = refl; free = refl };
  due = requests;
  decomposes = d;
  leads = refl;
  passes = omega arith;
  within = omega arith;
  printable = λ script. record { named = tt; in_range = tt; few = omega arith };
  wrote = wrote;
}

-- a prefix of what comes first was written
pub finishes_unopened : (plan : RespPlan) (requests : List (List (List ℕ))) (rest input before new : List ℕ) (tells : Bool) (stop : Status) → is_cut_short stop ≡ true
    → (tells ≡ true → HoldsPart before new (so_far plan.output plan.f (fresh plan.f)))
    → Finishes (aim_of plan requests rest input before) tells new stop
finishes_unopened plan requests rest input before new tells stop cut prefix = record {
  ends = λ still. both (is_cut_short stop) cut still;
  wrote = λ told still. both (is_cut_short stop) cut still;
  prefix = λ told.
      let whole = reads_all plan.every (map meaning requests) (fresh plan.f) in
      part_of_more before new (so_far plan.output plan.f (fresh plan.f)) (text_by plan.output plan.f whole rest) (prefix told)
      (prefix_trans (all_grow plan.output plan.f plan.every (map meaning requests) (fresh plan.f)) (text_grows plan.output plan.f whole rest));
  printable = λ script still. both (is_cut_short stop) cut still;
}

-- what it ended with was passed on
pub finishes_as : (aim : Aim) (tells : Bool) (held : List ℕ) (r : Result ⊤ Status) (stop : Status) → IsErrAnd r (λ s. s ≡ stop)
    → Finishes aim tells held stop → Finishes aim tells held (ended r)
finishes_as aim tells held r stop is h = subst (λ (x : Result ⊤ Status). Finishes aim tells held (ended x)) (sym (ends_with r stop is)) h
