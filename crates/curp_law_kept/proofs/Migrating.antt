-- A range leaves with a migration, or comes with one: the entry is pushed once, and told again.
use Rattle.std.proofs.Common.{◌≡◌, ◌≤◌, ◌<◌, ◌==◌, inl, inr, ℕ, true, List, [], ◌∷◌, length, nat_le, nat_lt, Option, Some, None, refl, subst, arith}
use Rattle.std.proofs.lemmas.Bool.{cases_order, cond_both, leb-false, leb-true, ltb-true}
use Rattle.curp_base.specs.Words.{At, Each}
use Rattle.curp_base.proofs.Lists.{at_same}
use Rattle.curp_cmd.specs.Node.{manager_node, master_node}
use Rattle.curp_cmd.specs.declared.entry.Entry.{Entry}
use Rattle.curp_cmd.specs.declared.entry.Entry.TheVariants.{Take, Give}
use Rattle.curp_cmd.specs.declared.node.NodeId.{NodeId}
use Rattle.curp_msg.specs.Moved.{Moved, says}
use Rattle.curp_msg.specs.declared.body.Body.{Body}
use Rattle.curp_msg.specs.declared.body.Body.TheVariants as body
use Rattle.curp_msg.specs.declared.body.Parcel.{Parcel}
use Rattle.curp_msg.specs.declared.body.TakeOut.{TakeOut}
use Rattle.curp_msg.specs.declared.message.Message.{Message}
use Rattle.curp_range.specs.Spans.{is_covered}
use Rattle.curp_model.specs.Log.{LastGive, LastTake, package_of}
use Rattle.curp_model.specs.Master.{MasterState, Open, Phase, Switching, give_after, is_open, on_give, on_take, push_give, push_take, state_of, synced, take_after, told_again}
use Rattle.curp_model.specs.World.{World}
use Rattle.curp_facts.specs.Entries.{LogOk}
use Rattle.curp_facts.specs.Facts.{WasOrdered}
use Rattle.curp_facts.specs.Kept.{AllCompletedBelow}
use Rattle.curp_facts.specs.Nodes.{ServingOk}
use Rattle.curp_law_kept.specs.Migrations.{GivenIs, TakenIs}
use Rattle.curp_law_kept.proofs.Migrations.{given_is, taken_is}
use Rattle.curp_law_kept.proofs.Packages.{take_fits}
use Rattle.curp_law_kept.specs.Moves.{IsSaidBy, ServingSays}
use Rattle.curp_law_kept.proofs.Completed.{log_firsts}
use Rattle.curp_law_kept.proofs.Parts.{parts_of}
use Rattle.curp_law_kept.proofs.Pushed.{AboveGives, AboveTakes}
use Rattle.curp_law_kept.proofs.Serving.{Move, SameLog, WhenOpen, begins, itself, pushes, rests, tells}

-- a number above that of the last take is above those of all takes
above_takes : (w : World) (part : ℕ) (log : List Entry) → LogOk w part log → (last : LastTake) → TakenIs log (Some last) → (migration : ℕ) → last.migration < migration → AboveTakes log migration
above_takes w part log ok last is migration above j before p at = elim (cases_order j last.index) [
  | inl same ↦ (let here : At log last.index (Take before p) = subst (λ (k : ℕ). At log k (Take before p)) same at in
      let one : Take before p ≡ Take last.migration last.taken = at_same log last.index (Take before p) (Take last.migration last.taken) here is.0 in
      let number : before ≡ last.migration = cc in omega (arith, number, above))
  | inr apart ↦ elim apart [
    | inl below ↦ omega (arith, above, ok.takes j last.index before last.migration p last.taken below at is.0)
    | inr behind ↦ absurd (omega (arith, behind, is.1 j before p at))
  ]
]

-- and the same of gives
above_gives : (w : World) (part : ℕ) (log : List Entry) → LogOk w part log → (last : LastGive) → GivenIs log (Some last) → (migration : ℕ) → last.migration < migration → AboveGives log migration
above_gives w part log ok last is migration above j before p at = elim (cases_order j last.index) [
  | inl same ↦ (let here : At log last.index (Give before p) = subst (λ (k : ℕ). At log k (Give before p)) same at in
      let one : Give before p ≡ Give last.migration is.0.0 = at_same log last.index (Give before p) (Give last.migration is.0.0) here is.0.1 in
      let number : before ≡ last.migration = cc in omega (arith, number, above))
  | inr apart ↦ elim apart [
    | inl below ↦ omega (arith, above, ok.gives j last.index before last.migration p is.0.0 below at is.0.1)
    | inr behind ↦ absurd (omega (arith, behind, is.1 j before p at))
  ]
]

serves_by : (p : Phase) → is_open p ≡ true → p ≡ Open
serves_by Open e = refl
serves_by (Switching s) e = absurd cc

module _ (w : World) (n : ℕ) (m : MasterState) (ok : ServingOk w (master_node n) m) (from : NodeId) (heard : Option Body) (filled : 1 ≤ length m.backups) (serves : m.phase ≡ Open) where
  abbrev Goes : Moved MasterState → Type 0
  Goes r = Move w n m ok from heard r

  -- what is synced is told again, and what isn't waits for a round
  told_moves : (index : ℕ) (x : Message) → (index < synced m → IsSaidBy n (ServingSays w m) x) → Goes (told_again n m index x)
  told_moves index x said = cond_both (nat_lt index (synced m)) _ _ Goes (λ y. tells w n m ok from heard (x ∷ []) (said (ltb-true index (synced m) y), tt))
      (λ y. begins w n m ok from heard filled m (itself w n m ok from heard) (SameLog refl) (parts_of w (master_node n) m ok))

  -- ---- takes

  push_take_moves : (t : TakeOut) → WasOrdered w m.part (body.TakeOut t) → AboveTakes m.log t.migration → Goes (push_take n m t)
  push_take_moves t ordered above = cond_both (is_covered (state_of m).owned t.lo t.hi) _ _ Goes
      (λ y. pushes w n m ok from heard filled (Take t.migration (package_of (state_of m) t.lo t.hi t.ordered)) (take_fits (state_of m) t.migration t.lo t.hi t.ordered y)
      (record { order = t; ordered = ordered; its_number = refl; lo = refl; hi = refl }, log_firsts w m.part m.lo m.hi m.log ok.log) above (WhenOpen serves))
      (λ y. rests w n m ok from heard)

  take_moves : (t : TakeOut) → WasOrdered w m.part (body.TakeOut t) → (o : Option LastTake) → TakenIs m.log o → Goes (take_after n m t o)
  take_moves t ordered None is = push_take_moves t ordered (λ j before p at. absurd (is j before p at))
  take_moves t ordered (Some last) is = cond_both (t.migration == last.migration) _ _ Goes
      (λ y. told_moves last.index (says (master_node n) manager_node (body.Taken (record { migration = last.migration; «package» = last.taken }))) (λ low. record {
        sender = refl;
        says_so = (record { serves = serves; index = last.index; entry = Take last.migration last.taken; stands = is.0; is = refl; below = low }, refl);
      }))
      (λ y. cond_both (nat_lt last.migration t.migration) _ _ Goes (λ z. push_take_moves t ordered (above_takes w m.part m.log ok.log last is t.migration (ltb-true last.migration t.migration z)))
      (λ z. rests w n m ok from heard))

  -- ---- gives

  push_give_moves : (g : Parcel) → WasOrdered w m.part (body.GiveIn g) → Each (AllCompletedBelow w) g.package.table.firsts → AboveGives m.log g.migration → Goes (push_give n m g)
  push_give_moves g ordered firsts above = pushes w n m ok from heard filled (Give g.migration g.package) refl (ordered, firsts) above (WhenOpen serves)

  give_moves : (g : Parcel) → WasOrdered w m.part (body.GiveIn g) → Each (AllCompletedBelow w) g.package.table.firsts → (o : Option LastGive) → GivenIs m.log o → Goes (give_after n m g o)
  give_moves g ordered firsts None is = push_give_moves g ordered firsts (λ j before p at. absurd (is j before p at))
  give_moves g ordered firsts (Some last) is = cond_both (nat_le g.migration last.migration) _ _ Goes
      (λ y. told_moves last.index (says (master_node n) manager_node (body.Given g.migration)) (λ low. record {
        sender = refl;
        says_so = (record { serves = serves; index = last.index; entry = Give last.migration is.0.0; stands = is.0.1; is = (last.migration, is.0.0, leb-true g.migration last.migration y, refl); below = low }, refl, record { parcel = g; ordered = ordered; its_number = refl });
      }))
      (λ y. push_give_moves g ordered firsts (above_gives w m.part m.log ok.log last is g.migration (leb-false g.migration last.migration y)))

module _ (w : World) (n : ℕ) (m : MasterState) (ok : ServingOk w (master_node n) m) (from : NodeId) (heard : Option Body) (filled : 1 ≤ length m.backups) where
  -- the manager lets it give a range away
  pub take_out_moves : (t : TakeOut) → WasOrdered w m.part (body.TakeOut t) → Move w n m ok from heard (on_take n m t)
  take_out_moves t ordered = cond_both (is_open m.phase) _ _ (Move w n m ok from heard)
      (λ y. take_moves w n m ok from heard filled (serves_by m.phase y) t ordered (state_of m).taken (taken_is m.lo m.hi m.log)) (λ y. rests w n m ok from heard)

  -- the manager gives it a range
  pub give_in_moves : (g : Parcel) → WasOrdered w m.part (body.GiveIn g) → Each (AllCompletedBelow w) g.package.table.firsts → Move w n m ok from heard (on_give n m g)
  give_in_moves g ordered firsts = cond_both (is_open m.phase) _ _ (Move w n m ok from heard)
      (λ y. give_moves w n m ok from heard filled (serves_by m.phase y) g ordered firsts (state_of m).given (given_is m.lo m.hi m.log)) (λ y. rests w n m ok from heard)
