-- The turn that is due, as code reads it.
use Rattle.std.proofs.Common.{◌≡◌, ℕ, ◌+◌, ◌<◌, ◌≤◌, ◌^◌, List, [], ◌∷◌, ◌++◌, length, set, get_or, slice_get, Option, Some, IfSome, ap, sym, ◌∙◌, subst, inl, inr, arith}
use Rattle.curp_base.specs.Words.{At}
use Rattle.curp_base.proofs.Lists.{at_same, at_within}
use Rattle.curp_msg.specs.declared.script.Step.{Step}
use Rattle.curp_journal.specs.Turns.{Journal, Turn, sent_by, turn_stamp, turns_of}
use Rattle.curp_merge.specs.Held.{AllHeld}
use Rattle.curp_merge.specs.Merging.{AreJournals, weight_sent}
use Rattle.curp_merge.specs.Weaving.{CanBeGiven, IsDue, NoneComesBefore, CanBeTaken, IsStepOf, NamesTurn, Woven, turns_left}
use Rattle.curp_merge.proofs.Growth.{next_within, woven_more}
use Rattle.curp_merge.proofs.Left.{fewer_left}
use Rattle.curp_merge.proofs.Scanning.{read_at}
use Rattle.curp_merge.proofs.Senders.{was_sent}
use Rattle.curp_merge.proofs.Stamps.{turn_cases}

-- what is said of an option that is there
of_some : {A : Type 0} (P : A → Type 0) (o : Option A) (x : A) → o ≡ Some x → IfSome o P → P x
of_some P o x e h = subst (λ q. IfSome q P) e h

module _ (journals : List Journal) (rows : List (List ℕ)) (k : ℕ) (due : IsDue journals rows k) (strand : Journal) (row : List ℕ)
    (read_strand : strand ≡ get_or journals k strand) (read_row : row ≡ get_or rows k row) where
  abbrev turn : Turn
  turn = due.is.turn

  pub row_within : k < length rows
  row_within = at_within rows k due.is.next.row due.is.next.its_row

  stands : At journals k strand
  stands = read_at journals k strand (at_within journals k due.is.next.journal due.is.next.stands) read_strand

  its_row : At rows k row
  its_row = read_at rows k row row_within read_row

  same_strand : due.is.next.journal ≡ strand
  same_strand = at_same journals k due.is.next.journal strand due.is.next.stands stands

  its_turn : At (turns_of strand) (length row) turn
  its_turn =
      let e : due.is.next.row ≡ row = at_same rows k due.is.next.row row due.is.next.its_row its_row in
      subst (λ (r : List ℕ). At (turns_of strand) (length r) turn) e (subst (λ (j : Journal). At (turns_of j) (length due.is.next.row) turn) same_strand due.is.next.its_turn)

  turn_at : (taken : ℕ) → taken ≡ length row → At (turns_of strand) taken turn
  turn_at taken same = subst (λ (n : ℕ). At (turns_of strand) n turn) (sym same) its_turn

  its_stamp : due.stamp ≡ turn_stamp turn
  its_stamp = due.is.stamp_is ∙ ap (λ (j : Journal). turn_stamp turn) same_strand

  comes_first : (stamp : ℕ) → due.stamp ≡ stamp → NoneComesBefore journals rows (length journals) k stamp
  comes_first stamp same = subst (λ (n : ℕ). NoneComesBefore journals rows (length journals) k n) same due.is.first

  pub fewer : (next : ℕ) → turns_left journals (set rows k (row ++ next ∷ [])) < turns_left journals rows
  fewer next = fewer_left journals rows k strand row turn next stands its_row its_turn

  module _ (ss : List Step) (next : ℕ) (are : AreJournals journals) (woven : Woven journals rows ss next) (taken : ℕ)
      (read_taken : taken ≡ length (get_or rows k row)) where
    same : taken ≡ length row
    same = read_taken ∙ ap (λ (r : List ℕ). length r) (sym read_row)

    -- the node can be given what came to it
    can_be_given : AllHeld journals → length rows ≡ length journals → next < 2 ^ 64 → CanBeGiven journals rows strand.id turn
    can_be_given held lengths fits =
        elim (turn_cases strand (length row) turn its_turn) [
          | inl did ↦
              let first = comes_first did.0.stamp (its_stamp ∙ ap turn_stamp did.1) in
              subst (λ (x : Turn). CanBeGiven journals rows strand.id x) (sym did.1)
              (are.own k strand (length row) did.0 stands did.2, was_sent journals rows ss next are woven lengths held fits k strand row did.0 stands its_row did.2 first)
          | inr stop ↦ subst (λ (x : Turn). CanBeGiven journals rows strand.id x) (sym stop.0) tt
        ]

    pub is_ready : AllHeld journals → length rows ≡ length journals → next < 2 ^ 64 → CanBeTaken journals rows strand taken
    is_ready held lengths fits = record { turn = turn; its_turn = turn_at taken same; given = can_be_given held lengths fits }

    module _ (sent : ℕ) (counted : IfSome (slice_get (turns_of strand) taken) (λ (x : Turn). sent ≡ length (sent_by x))) where
      sent_is : sent ≡ length (sent_by turn)
      sent_is = of_some (λ (x : Turn). sent ≡ length (sent_by x)) (slice_get (turns_of strand) taken) turn (turn_at taken same) counted

      pub is_within : next + sent ≤ weight_sent journals
      is_within =
          let most = next_within journals rows ss next are woven k strand row turn stands its_row its_turn in
          omega (arith, sent_is, most)

      pub is_woven : AllHeld journals → length rows ≡ length journals → next < 2 ^ 64 → (step : Step)
          → IfSome (slice_get (turns_of strand) taken) (λ (x : Turn). IsStepOf journals rows (record { node = strand.id; turn = x }) step)
          → IfSome (slice_get (turns_of strand) taken) (λ (x : Turn). NamesTurn journals rows x step)
          → Woven journals (set rows k (row ++ next ∷ [])) (ss ++ step ∷ []) (next + sent)
      is_woven held lengths fits step made named =
          let does = of_some (λ (x : Turn). IsStepOf journals rows (record { node = strand.id; turn = x }) step) (slice_get (turns_of strand) taken) turn (turn_at taken same) made in
          let names = of_some (λ (x : Turn). NamesTurn journals rows x step) (slice_get (turns_of strand) taken) turn (turn_at taken same) named in
          rw sent_is
          (woven_more journals rows ss next are woven k strand row turn stands its_row its_turn (comes_first (turn_stamp turn) its_stamp)
          step does (can_be_given held lengths fits) names)
