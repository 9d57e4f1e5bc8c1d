-- Whatever happens, the lives of a node are one run.
use Rattle.std.specs.Prelude.{◌≡◌, ℕ, ◌+◌, List, [], ◌∷◌, ◌++◌, length, Option, Some, None, refl}
use Rattle.std.proofs.Common.{inl, inr, sym, ◌∙◌, ap, subst, arith}
use Rattle.curp_journal.specs.declared.arrived.Arrived.{Arrived}
use Rattle.curp_journal.specs.declared.item.Item.{Item}
use Rattle.curp_msg.specs.Moved.{Moved}
use Rattle.curp_msg.specs.Input.{Input}
use Rattle.curp_durable.proofs.Unique.{one_list}
use Rattle.curp_durable.specs.Journal.{HoldsJournal}
use Rattle.curp_durable.specs.Standing.{Standing, after, answers_of, begun, taken}
use Rattle.curp_durable.specs.declared.stand.Answered.{Answered}
use Rattle.curp_law_lives.specs.Lives.{Answers, Crash, CutOff, Happens, IsAnswered, IsCutOff, IsOpening, Lead, Life, LifeEvent, Lives, Opening, down, running}
use Rattle.curp_law_lives.specs.OneRun.{HasInOrder, IsOneRun, behind, inputs_of, made_answers, told_from}
use Rattle.curp_law_lives.proofs.Batches.{IsExtended, IsRun, extended_from, made-append, told-append}
use Rattle.curp_law_lives.proofs.Orders.{all_in_order, joined_in_order, more_in_order}

-- what none is, is no node
none_stands : {N : Type 0} (P : Type 0) (there : Option (Standing N)) (s : Standing N) → there ≡ None → there ≡ Some s → P
none_stands P there s none is = absurd cc

the_same : {N : Type 0} (there : Option (Standing N)) (s t : Standing N) → there ≡ Some s → there ≡ Some t → t ≡ s
the_same there s t one is = cc

module _ {N : Type 0} (machine : N → Input → Moved N) (title : List ℕ) (opening : N) where
  run_of : (life : Life N) (o : IsOneRun machine title opening life) → IsRun machine opening o.items
  run_of life o = record { run = o.run; opens = o.opens }

  -- a life of a run
  is_one_run : (life : Life N) (items : List Item) → IsRun machine opening items → HoldsJournal life.content title (inputs_of items) → HasInOrder (told_from 1 items) (made_answers life.answered)
      → ((s : Standing N) → life.node ≡ Some s → s ≡ behind machine opening items) → IsOneRun machine title opening life
  is_one_run life items r holds answers stands = record {
    items = items;
    run = r.run;
    journal = holds;
    only = λ others h. one_list life.content title others (inputs_of items) h holds;
    answers = answers;
    stands = stands;
    opens = r.opens;
  }

  begins : (content : List ℕ) → HoldsJournal content title [] → IsOneRun machine title opening (down content [])
  begins content empty =
      is_one_run (down content []) [] (record { run = record { node_is = refl; items_are = refl; none_refused = tt; last_is = refl }; opens = refl }) empty tt
      (λ s is. none_stands (s ≡ behind machine opening []) None s refl is)

  grown : (content : List ℕ) (held : List Arrived) (items : List Item) (s : Standing N) (batch : List Arrived) (x : IsExtended machine opening items s batch) → held ≡ inputs_of items
      → HoldsJournal content title (held ++ taken machine s batch) → HoldsJournal content title (inputs_of (items ++ x.more))
  grown content held items s batch x same holds =
      subst (λ (l : List Arrived). HoldsJournal content title l) (ap (λ (l : List Arrived). l ++ taken machine s batch) same ∙ sym x.inputs) holds

  answers_grown : (so_far : List Answered) (items : List Item) (s : Standing N) (batch : List Arrived) (x : IsExtended machine opening items s batch) → HasInOrder (told_from 1 items) (made_answers so_far)
      → HasInOrder (told_from 1 (items ++ x.more)) (made_answers (so_far ++ answers_of machine s batch))
  answers_grown so_far items s batch x before =
      let place : length items + 1 ≡ 1 + length items = omega arith in
      let all = joined_in_order (told_from 1 items) (made_answers so_far) (told_from (length items + 1) x.more) (made_answers (answers_of machine s batch)) before
      (subst (λ (l : List Answered). HasInOrder (told_from (length items + 1) x.more) l) (sym x.answers) (all_in_order (told_from (length items + 1) x.more))) in
      subst (λ (l : List Answered). HasInOrder l (made_answers (so_far ++ answers_of machine s batch))) (sym (told-append items x.more 1 (length items + 1) place))
      (subst (λ (l : List Answered). HasInOrder (told_from 1 items ++ told_from (length items + 1) x.more) l) (sym (made-append so_far (answers_of machine s batch))) all)

  answers_stay : (so_far : List Answered) (items more : List Item) → HasInOrder (told_from 1 items) (made_answers so_far) → HasInOrder (told_from 1 (items ++ more)) (made_answers so_far)
  answers_stay so_far items more before =
      let place : length items + 1 ≡ 1 + length items = omega arith in
      subst (λ (l : List Answered). HasInOrder l (made_answers so_far)) (sym (told-append items more 1 (length items + 1) place))
      (more_in_order (told_from 1 items) (made_answers so_far) (told_from (length items + 1) more) before)

  -- ---- each event

  answered : (batch : List Arrived) (old new : Life N) → IsOneRun machine title opening old → IsAnswered machine title batch old new → IsOneRun machine title opening new
  answered batch old new o e =
      let x = extended_from machine opening o.items e.stand batch (run_of old o) (o.stands e.stand e.runs) in
      let next = running e.content (after machine e.stand batch) (old.answered ++ answers_of machine e.stand batch) in
      subst (λ (l : Life N). IsOneRun machine title opening l) (sym e.becomes)
      (is_one_run next (o.items ++ x.more) x.is_run (grown e.content e.held o.items e.stand batch x (o.only e.held e.there) e.kept) (answers_grown old.answered o.items e.stand batch x o.answers)
      (λ s is. the_same (Some (after machine e.stand batch)) (after machine e.stand batch) s refl is ∙ x.stands))

  cut_off : (batch : List Arrived) (old new : Life N) → IsOneRun machine title opening old → IsCutOff machine title batch old new → IsOneRun machine title opening new
  cut_off batch old new o e =
      let x = extended_from machine opening o.items e.stand batch (run_of old o) (o.stands e.stand e.runs) in
      let same = o.only e.held e.there in
      let next = down e.content old.answered in
      subst (λ (l : Life N). IsOneRun machine title opening l) (sym e.becomes)
      (elim e.kept [
        | inl before ↦ is_one_run next o.items (run_of old o) (subst (λ (l : List Arrived). HoldsJournal e.content title l) same before) o.answers (λ s is. none_stands (s ≡ behind machine opening o.items) None s refl is)
        | inr all ↦ is_one_run next (o.items ++ x.more) x.is_run (grown e.content e.held o.items e.stand batch x same all) (answers_stay old.answered o.items x.more o.answers) (λ s is. none_stands (s ≡ behind machine opening (o.items ++ x.more)) None s refl is)
      ])

  crashed : (old : Life N) → IsOneRun machine title opening old → IsOneRun machine title opening (down old.content old.answered)
  crashed old o = is_one_run (down old.content old.answered) o.items (run_of old o) o.journal o.answers (λ s is. none_stands (s ≡ behind machine opening o.items) None s refl is)

  opened : (old new : Life N) → IsOneRun machine title opening old → IsOpening machine title opening old new → IsOneRun machine title opening new
  opened old new o e =
      let stand = after machine (begun opening) e.held in
      let there : stand ≡ behind machine opening o.items = ap (after machine (begun opening)) (o.only e.held e.there) ∙ o.opens in
      subst (λ (l : Life N). IsOneRun machine title opening l) (sym e.becomes)
      (is_one_run (running old.content stand old.answered) o.items (run_of old o) o.journal o.answers (λ s is. the_same (Some stand) stand s refl is ∙ there))

  happens : (e : LifeEvent) (old new : Life N) → IsOneRun machine title opening old → Happens machine title opening e old new → IsOneRun machine title opening new
  happens (Answers batch) old new o is = answered batch old new o is
  happens (CutOff batch) old new o is = cut_off batch old new o is
  happens Crash old new o is = subst (λ (l : Life N). IsOneRun machine title opening l) (sym is) (crashed old o)
  happens Opening old new o is = opened old new o is

  -- ---- all of them

  led : (events : List LifeEvent) (old new : Life N) → IsOneRun machine title opening old → Lead machine title opening events old new → IsOneRun machine title opening new
  led [] old new o is = subst (λ (l : Life N). IsOneRun machine title opening l) (sym is) o
  led (e ∷ events) old new o is = led events is.0 new (happens e old is.0 o is.1) is.2

  pub one_run : (events : List LifeEvent) (life : Life N) → Lives machine title opening events life → IsOneRun machine title opening life
  one_run events life l = led events (down l.content []) life (begins l.content l.empty) l.lead
