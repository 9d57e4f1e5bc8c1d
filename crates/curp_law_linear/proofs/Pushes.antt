-- One more entry at the end of a partition's log: what stays.
use Rattle.std.proofs.Common.{◌≡◌, ◌≢◌, ℕ, inl, inr, ◌⊎◌, List, [], ◌∷◌, ◌++◌, length, take, Some, refl, ap, sym, subst, arith}
use Rattle.std.proofs.lemmas.Bool.{cases_eq}
use Rattle.std.proofs.lemmas.List.{take-append-le}
use Rattle.curp_base.specs.Words.{At, numbered}
use Rattle.curp_base.proofs.Lists.{at_append, at_push_cases, at_within, prefix_at, prefix_push}
use Rattle.curp_cmd.specs.declared.command.Answer.{Answer}
use Rattle.curp_cmd.specs.declared.command.Command.{Command}
use Rattle.curp_cmd.specs.declared.command.Request.{Request}
use Rattle.curp_cmd.specs.declared.command.RequestId.{RequestId}
use Rattle.curp_cmd.specs.declared.entry.Entry.{Entry}
use Rattle.curp_cmd.specs.declared.entry.Entry.TheVariants.{Op}
use Rattle.curp_order.proofs.Laws.{answers_prefix}
use Rattle.curp_model.specs.Log.{answer_after}
use Rattle.curp_model.specs.Marks.{Mark}
use Rattle.curp_order.specs.Order.{Asked}
use Rattle.curp_law_linear.specs.Hashes.{Part}
use Rattle.curp_law_linear.specs.Line.{AnsweredInOrder, AnswersOk, OnceOk, OpAt, StandingOk, WaitingOk}
use Rattle.curp_law_linear.specs.Moves.{pushed}
use Rattle.curp_base.proofs.Numbered.{numbered_same, numbered_set_cases, numbered_set_other, numbered_set_same}

-- what is answered in an order is so in a longer one
pub answered_grows : (os more : List Asked) (x : Asked) (a : Answer) → AnsweredInOrder os x a → AnsweredInOrder (os ++ more) x a
answered_grows os more x a o = record {
  place = o.place;
  stands = at_append os more o.place x o.stands;
  answer = prefix_at (answers_prefix (prefix_push os more)) o.place a o.answer;
}

module _ (parts : List Part) (n : ℕ) (p : Part) (e : Entry) (here : numbered parts n ≡ Some p) where
  -- the partition with one more entry
  abbrev pub longer : Part
  longer = record p { log = p.log ++ e ∷ [] }

  -- the partitions with it
  abbrev pub after : List Part
  after = pushed parts n p e

  -- what a number finds
  pub cases : (k : ℕ) (q : Part) → numbered after k ≡ Some q → ((k ≢ n) × (numbered parts k ≡ Some q)) ⊎ ((k ≡ n) × (longer ≡ q))
  cases k q h = numbered_set_cases parts n p longer here k q h

  -- the partition itself
  pub own : numbered after n ≡ Some longer
  own = numbered_set_same parts n p longer here

  -- another one
  pub other : (k : ℕ) (q : Part) → k ≢ n → numbered parts k ≡ Some q → numbered after k ≡ Some q
  other k q ne h = numbered_set_other parts n p longer here k q ne h

  -- an op stays at its place
  pub op_stays : (k i : ℕ) (id : RequestId) (c : Command) → OpAt parts k i id c → OpAt after k i id c
  op_stays k i id c o = elim (cases_eq k n) [
    | inl same ↦
        let is : o.p ≡ p = numbered_same parts n o.p p (subst (λ (j : ℕ). numbered parts j ≡ Some o.p) same o.here) here in
        record {
          p = longer;
          here = subst (λ (j : ℕ). numbered after j ≡ Some longer) (sym same) own;
          request = o.request;
          acknowledged = o.acknowledged;
          stands = at_append p.log (e ∷ []) i _ (subst (λ (x : Part). At x.log i (Op o.request o.acknowledged)) is o.stands);
          its_id = o.its_id;
          its_command = o.its_command;
        }
    | inr ne ↦ record {
      p = o.p;
      here = other k o.p ne o.here;
      request = o.request;
      acknowledged = o.acknowledged;
      stands = o.stands;
      its_id = o.its_id;
      its_command = o.its_command;
    }
  ]

  -- the places that uncompleted marks give stay
  pub waiting_stays : (marks : List Mark) → WaitingOk parts marks → WaitingOk after marks
  waiting_stays marks ok k i m h at_i f = op_stays m.part i m.id m.command (ok k i m h at_i f)

  -- each mark's op stays
  pub standing_stays : (marks : List Mark) → StandingOk parts marks → StandingOk after marks
  standing_stays marks ok k i m h at_i = let o = ok k i m h at_i in (o.0, op_stays m.part o.0 m.id m.command o.1)

  -- the answer to an op that stood there
  old_answer : (i : ℕ) (r : Request) (a : ℕ) → At p.log i (Op r a) → answer_after p.lo p.hi (take i (p.log ++ e ∷ [])) r.command ≡ answer_after p.lo p.hi (take i p.log) r.command
  old_answer i r a h = ap (λ (es : List Entry). answer_after p.lo p.hi es r.command) (take-append-le i p.log (e ∷ []) (omega (arith, at_within p.log i _ h)))

  -- each op of the new logs stood there, or is the entry
  pub old_or_new : (k : ℕ) (q : Part) (i : ℕ) (r : Request) (a : ℕ) → numbered after k ≡ Some q → At q.log i (Op r a)
      → ((o : Part) × (numbered parts k ≡ Some o) × At o.log i (Op r a) × (answer_after q.lo q.hi (take i q.log) r.command ≡ answer_after o.lo o.hi (take i o.log) r.command))
      ⊎ ((k ≡ n) × (i ≡ length p.log) × (e ≡ Op r a) × (longer ≡ q))
  old_or_new k q i r a h at_i = elim (cases k q h) [
    | inl old ↦ inl (q, old.1, at_i, refl)
    | inr new ↦ elim (at_push_cases p.log e i (Op r a) (subst (λ (x : Part). At x.log i (Op r a)) (sym new.1) at_i)) [
      | inl older ↦
          inl (
            p,
            subst (λ (j : ℕ). numbered parts j ≡ Some p) (sym new.0) here,
            older,
            subst (λ (x : Part). answer_after x.lo x.hi (take i x.log) r.command ≡ answer_after p.lo p.hi (take i p.log) r.command) new.1 (old_answer i r a older),
          )
      | inr last ↦ inr (new.0, last.0, last.1, new.1)
    ]
  ]

  -- where the entry is no op, nothing is new
  module _ (no_op : (r : Request) (a : ℕ) → e ≡ Op r a → ⊥) where
    pub once_stays : OnceOk parts → OnceOk after
    once_stays ok k m x y i j r s a b hk hm hi hj same = elim (old_or_new k x i r a hk hi) [
      | inr new ↦ absurd (no_op r a new.2)
      | inl old ↦ elim (old_or_new m y j s b hm hj) [
        | inr new ↦ absurd (no_op s b new.2)
        | inl too ↦ ok k m old.0 too.0 i j r s a b old.1 too.1 old.2 too.2 same
      ]
    ]

    pub answers_stay : (os : List Asked) → AnswersOk parts os → AnswersOk after os
    answers_stay os ok k q i r a hk hi = elim (old_or_new k q i r a hk hi) [
      | inr new ↦ absurd (no_op r a new.2)
      | inl old ↦ subst (AnsweredInOrder os (r.id, r.command)) (sym old.3) (ok k old.0 i r a old.1 old.2)
    ]
