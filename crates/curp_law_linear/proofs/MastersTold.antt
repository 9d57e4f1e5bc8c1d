-- Each package that a master tells is a move of the machine: its take stands in the adopted log of its source.
use Rattle.std.proofs.Common.{◌≡◌, ℕ, zero, suc, ◌+◌, true, List, [], ◌∷◌, ◌++◌, append_assoc, append-nil, flat_map, length, refl, ap, sym, ◌∙◌, subst, subst₂, arith, inl, inr, ◌==◌, Option, Some}
use Rattle.std.specs.List.{list_any}
use Rattle.std.proofs.lemmas.Bool.Decides.{nat_tests}
use Rattle.curp_base.specs.Words.{At, Each, numbered}
use Rattle.curp_base.proofs.Lists.{Each-at, Each-weaker, at_append_cases, at_append_right, at_any}
use Rattle.curp_cmd.specs.Node.{manager_node}
use Rattle.curp_cmd.specs.declared.entry.Entry.{Entry}
use Rattle.curp_cmd.specs.declared.entry.Entry.TheVariants.{Take}
use Rattle.curp_cmd.specs.declared.node.NodeId.{NodeId}
use Rattle.curp_msg.specs.Moved.{says}
use Rattle.curp_msg.specs.declared.body.Body.{Body}
use Rattle.curp_msg.specs.declared.body.Body.TheVariants as body
use Rattle.curp_msg.specs.declared.body.Parcel.{Parcel}
use Rattle.curp_msg.specs.declared.message.Message.{Message}
use Rattle.curp_model.specs.Master.{MasterState}
use Rattle.curp_model.specs.Recovery.{Fresh, MasterStage, Recovering, RecoveryState, Serving}
use Rattle.curp_model.specs.World.{World, messages}
use Rattle.curp_facts.specs.Facts.{IsAmong, WasSent}
use Rattle.curp_law_kept.proofs.Gives.{StageMove}
use Rattle.curp_law_linear.specs.Hashes.{Part, is_take}
use Rattle.curp_law_linear.specs.Line.{LineState}
use Rattle.curp_law_linear.specs.Moves.{Told}
use Rattle.curp_law_linear.specs.OfWorld.{entries_at, line_of, logged_entries, part_of, told_by}
use Rattle.curp_law_linear.proofs.Given.{LogsOk}
use Rattle.curp_law_linear.proofs.MastersLog.{Leads, leads_first, leads_none}
use Rattle.curp_law_linear.proofs.Parts.{numbered_mapped}
use Rattle.curp_law_kept.specs.Moves.{IsSaidBy, RecoverySays, ServingSays}
use Rattle.curp_law_kept.specs.Stages.{FreshSays}
use Rattle.curp_facts.specs.Migrated.{Migrated, TakeStored}

-- the take of the migration stands in a partition
pub record TakeStands (parts : List Part) (number : ℕ) : Type 0 where
  pub part : ℕ
  pub source : Part
  pub here : numbered parts part ≡ Some source
  pub stands : list_any (is_take number) source.log ≡ true

-- migrations of which each take stands may be told
pub tell_all : (numbers : List ℕ) (s : LineState) → LogsOk s.parts → ((n : ℕ) → IsAmong n numbers → TakeStands s.parts n) → Leads s (record s { told = s.told ++ numbers })
tell_all [] s logs stand = leads_none s _ (ap (λ (told : List ℕ). record s { told = told }) (sym (append-nil s.told)))
tell_all (n ∷ ns) s logs stand =
    let t = stand n (record { place = 0; stands = refl }) in
    leads_first s _ (Told n) tt (record { part = t.part; source = t.source; here = t.here; stands = t.stands }) logs
    (subst (λ (told : List ℕ). Leads (record s { told = s.told ++ n ∷ [] }) (record s { told = told })) (append_assoc s.told (n ∷ []) ns)
    (tell_all ns (record s { told = s.told ++ n ∷ [] }) logs (λ k a. stand k (record { place = suc a.place; stands = a.stands }))))

-- the told numbers among messages are of packages
told_from : (out : List Message) (n : ℕ) → IsAmong n (flat_map (λ (m : Message). told_by m.body) out) → (m : Message) × IsAmong m out × ((t : Parcel) × (m.body ≡ body.Taken t) × (t.migration ≡ n))
told_from [] n a = let none = a.stands in absurd cc
told_from (x ∷ out) n a = elim (at_append_cases (told_by x.body) (flat_map (λ (m : Message). told_by m.body) out) a.place n a.stands) [
  | inl here ↦ (x, record { place = 0; stands = refl }, go x.body a.place here)
  | inr on ↦ let r = told_from out n (record { place = on.0; stands = on.2 }) in (r.0, record { place = suc r.1.place; stands = r.1.stands }, r.2)
]
  where
    go : (b : Body) (k : ℕ) → At (told_by b) k n → (t : Parcel) × (b ≡ body.Taken t) × (t.migration ≡ n)
    go (body.Taken t) k at = one k at
      where
        one : (k : ℕ) → At (t.migration ∷ []) k n → (u : Parcel) × (body.Taken t ≡ body.Taken u) × (u.migration ≡ n)
        one zero at = (t, refl, cc)
        one (suc k) at = absurd cc
    go _ k at = absurd cc

-- packages go to the manager
abbrev pub TakenToManager : Message → Type 0
TakenToManager x = (t : Parcel) → x.body ≡ body.Taken t → x.to ≡ manager_node

module _ (w : World) (n : ℕ) where
  fresh_tell : (x : Message) → IsSaidBy n (FreshSays w) x → TakenToManager x
  fresh_tell x k t is = absurd (subst (FreshSays w x.to) is k.says_so)

  recovery_tell : (s : RecoveryState) (x : Message) → IsSaidBy n (RecoverySays w s) x → TakenToManager x
  recovery_tell s x k t is = absurd (subst (RecoverySays w s x.to) is k.says_so)

  serving_tell : (m : MasterState) (x : Message) → IsSaidBy n (ServingSays w m) x → TakenToManager x
  serving_tell m x k t is = (subst (ServingSays w m x.to) is k.says_so).1

  -- whatever a master says by an input
  pub all_tell : (from : NodeId) (heard : Option Body) (m k : MasterStage) (out : List Message) → StageMove w n from heard m k out → Each TakenToManager out
  all_tell from heard Fresh Fresh out move = Each-weaker (IsSaidBy n (FreshSays w)) TakenToManager fresh_tell out move
  all_tell from heard Fresh (Recovering t) out move = Each-weaker (IsSaidBy n (RecoverySays w t)) TakenToManager (recovery_tell t) out move.move.says
  all_tell from heard (Recovering s) (Recovering t) out move = Each-weaker (IsSaidBy n (RecoverySays w t)) TakenToManager (recovery_tell t) out move.says
  all_tell from heard (Recovering s) (Serving k) out move = subst (Each TakenToManager) (sym move.silent) tt
  all_tell from heard (Serving m) (Serving k) out move = Each-weaker (IsSaidBy n (ServingSays w k)) TakenToManager (serving_tell k) out move.says
  all_tell from heard Fresh (Serving k) out move = elim move [ ]
  all_tell from heard (Recovering s) Fresh out move = elim move [ ]
  all_tell from heard (Serving m) Fresh out move = elim move [ ]
  all_tell from heard (Serving m) (Recovering t) out move = elim move [ ]

-- so the take of each stands in the world after it
pub takes_stand : (w v : World) → Migrated v → (out : List Message) → messages v ≡ messages w ++ out → Each TakenToManager out
    → (n : ℕ) → IsAmong n (flat_map (λ (m : Message). told_by m.body) out) → TakeStands (line_of v).parts n
takes_stand w v migrated out sent all n among =
    let f = told_from out n among in
    let to = Each-at TakenToManager out all f.1.place f.0 f.1.stands f.2.0 f.2.1 in
    let x : Message = f.0 in
    let it : WasSent v (says x.from manager_node (body.Taken f.2.0)) = record {
      place = length (messages w) + f.1.place;
      stands = subst₂ (λ (ms : List Message) (y : Message). At ms (length (messages w) + f.1.place) y) (sym sent) (same x f.2.0 to f.2.1)
          (at_append_right (messages w) out f.1.place (length (messages w) + f.1.place) x refl f.1.stands);
    } in
    let s : TakeStored v f.2.0.migration f.2.0.package = migrated.told x.from f.2.0 it in
    record {
      part = s.source.part;
      source = part_of v s.source;
      here = numbered_mapped (part_of v) v.manager.config.parts s.source.part s.source s.its.now;
      stands = at_any (is_take n) (part_of v s.source).log s.index (Take f.2.0.migration f.2.0.package)
          (subst (λ (es : List Entry). At es s.index (Take f.2.0.migration f.2.0.package)) (sym (ap entries_at s.its.its_log.is.its_state ∙ ap logged_entries s.its.its_log.its_log)) s.stands)
          (equal f.2.0.migration n f.2.2);
    }
  where
    same : (x : Message) (t : Parcel) → x.to ≡ manager_node → x.body ≡ body.Taken t → x ≡ says x.from manager_node (body.Taken t)
    same x t to is i = record { from = x.from; to = to i; body = is i }

    equal : (a b : ℕ) → a ≡ b → (a == b) ≡ true
    equal a b e = grind (arith, nat_tests)
