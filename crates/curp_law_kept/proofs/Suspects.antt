-- How a serving master moves by the suspects of a witness.
use Rattle.std.proofs.Common.{◌≡◌, ◌≤◌, ℕ, ◌+◌, ◌==◌, if◌then◌else◌, List, [], ◌∷◌, length, take, Option, refl, sym, ◌∙◌, subst, arith, inr}
use Rattle.std.proofs.Math.Seq.{take-length}
use Rattle.std.proofs.lemmas.Bool.{cond_both}
use Rattle.curp_base.specs.Words.{At, Each}
use Rattle.curp_base.proofs.Lists.{at_within}
use Rattle.curp_cmd.specs.Hash.{hashes}
use Rattle.curp_cmd.specs.Node.{master_node}
use Rattle.curp_cmd.specs.declared.command.Answer.{Answer}
use Rattle.curp_cmd.specs.declared.command.Request.{Request}
use Rattle.curp_cmd.specs.declared.command.RequestId.{RequestId}
use Rattle.curp_cmd.specs.declared.entry.Entry.{Entry}
use Rattle.curp_cmd.specs.declared.entry.Entry.TheVariants.{Op, Take, Give, Expire}
use Rattle.curp_cmd.specs.declared.node.NodeId.{NodeId}
use Rattle.curp_msg.specs.Moved.{Moved, quiet}
use Rattle.curp_msg.specs.declared.answer.GcAnswer.{GcAnswer}
use Rattle.curp_msg.specs.declared.answer.GcAnswer.TheVariants.{Suspects}
use Rattle.curp_msg.specs.declared.body.Body.{Body}
use Rattle.curp_facts.specs.Entries.{UpdateOk}
use Rattle.curp_facts.specs.Kept.{IsCollectable}
use Rattle.curp_facts.specs.Nodes.{ServingOk}
use Rattle.curp_facts.specs.Reach.{Tells}
use Rattle.curp_model.specs.declared.Check.{Check}
use Rattle.curp_model.specs.declared.Check.TheVariants.{Expired, Stale, Known, New}
use Rattle.curp_model.specs.Log.{meaning}
use Rattle.curp_model.specs.Master.{MasterState, Open, Phase, Switching, is_open, on_collected, state_of, treat, treated, treats}
use Rattle.curp_model.specs.Ranges.{owns_all}
use Rattle.curp_model.specs.Table.{check}
use Rattle.curp_model.specs.World.{World}
use Rattle.curp_law_kept.specs.Hashes.{NotNew}
use Rattle.curp_law_kept.specs.Standing.{StandsHere}
use Rattle.curp_law_kept.proofs.Logs.{give_old, op_old}
use Rattle.curp_law_kept.proofs.Noted.{known_stands}
use Rattle.curp_law_kept.specs.Moves.{HearsSuspects, ServingMove}
use Rattle.curp_law_kept.proofs.Clean.{collectable, parts_pushed}
use Rattle.curp_law_kept.proofs.Parts.{Parts, parts_of, parts_queue}
use Rattle.curp_law_kept.proofs.Serving.{SameLists, begins, open_does, rests}
use Rattle.curp_law_kept.proofs.Serving.LogMove.{WhenOpen}

-- what stands at an index isn't new behind it
pub stands_old : (lo hi : ℕ) (log : List Entry) (index : ℕ) (id : RequestId) (a : Answer) → StandsHere lo hi log index id a → NotNew lo hi (take (index + 1) log) id
stands_old lo hi log index id a s = go s.entry s.stands s.tells
  where
    go : (e : Entry) → At log index e → Tells lo hi log index id a e → NotNew lo hi (take (index + 1) log) id
    go (Op r acknowledged) at told = subst (λ (x : RequestId). NotNew lo hi (take (index + 1) log) x) told.0 (op_old lo hi log index (index + 1) r acknowledged at (omega arith))
    go (Take migration taken) at told = absurd told
    go (Give migration brought) at told = give_old lo hi log index (index + 1) migration brought id at (omega arith) (inr (inr (a, told)))
    go (Expire client) at told = absurd told

-- what may be collected after the whole log
whole : (m : MasterState) (id : RequestId) (c : Check) → check (state_of m).table id ≡ c → IsCollectable c → IsCollectable (check (meaning m.lo m.hi (take (length m.log) m.log)).table id)
whole m id c is may = subst (λ (log : List Entry). IsCollectable (check (meaning m.lo m.hi log).table id)) (sym (take-length m.log)) (subst IsCollectable (sym is) may)

-- ---- one suspect, and each in turn

-- it keeps what it should, and stays with its lists
record Treated (w : World) (part : ℕ) (m k : MasterState) : Type 0 where
  parts : Parts w part k
  lists : SameLists m k

itself : (w : World) (part : ℕ) (m : MasterState) → Parts w part m → Treated w part m m
itself w part m p = record { parts = p; lists = record { version = refl; backups = refl; witnesses = refl; phase = refl; acknowledged = refl } }

module _ (w : World) (part : ℕ) where
  treated_ok : (m : MasterState) → Parts w part m → (r : Request) → UpdateOk w r → (c : Check) → check (state_of m).table r.id ≡ c → Treated w part m (treated m r c)
  treated_ok m p r update (Known a index) is =
      let s : StandsHere m.lo m.hi m.log index r.id a = known_stands m.lo m.hi m.log r.id a index is in
      record {
        parts = parts_queue w part m p r.id (index + 1) (omega (arith, at_within m.log index s.entry s.stands)) (collectable _ (stands_old m.lo m.hi m.log index r.id a s));
        lists = record { version = refl; backups = refl; witnesses = refl; phase = refl; acknowledged = refl };
      }
  treated_ok m p r update (Stale first) is = record {
    parts = parts_queue w part m p r.id (length m.log) (omega arith) (whole m r.id (Stale first) is tt);
    lists = record { version = refl; backups = refl; witnesses = refl; phase = refl; acknowledged = refl };
  }
  treated_ok m p r update Expired is = record {
    parts = parts_queue w part m p r.id (length m.log) (omega arith) (whole m r.id Expired is tt);
    lists = record { version = refl; backups = refl; witnesses = refl; phase = refl; acknowledged = refl };
  }
  treated_ok m p r update New is = cond_both (owns_all (state_of m).owned (hashes r.command)) _ _ (Treated w part m) (λ owned. record {
    parts = parts_pushed w part m p r 0 update (omega arith) (λ seq low less. absurd (omega (arith, less))) is owned;
    lists = record { version = refl; backups = refl; witnesses = refl; phase = refl; acknowledged = refl };
  }) (λ owned. itself w part m p)

  treat_ok : (m : MasterState) → Parts w part m → (rs : List Request) → Each (UpdateOk w) rs → Treated w part m (treat m rs)
  treat_ok m p [] updates = itself w part m p
  treat_ok m p (r ∷ rs) updates =
      let k : MasterState = treated m r (check (state_of m).table r.id) in
      let one : Treated w part m k = treated_ok m p r updates.0 (check (state_of m).table r.id) refl in
      let more : Treated w part k (treat k rs) = treat_ok k one.parts rs updates.1 in
      record {
        parts = more.parts;
        lists = record {
          version = more.lists.version ∙ one.lists.version;
          backups = more.lists.backups ∙ one.lists.backups;
          witnesses = more.lists.witnesses ∙ one.lists.witnesses;
          phase = more.lists.phase ∙ one.lists.phase;
          acknowledged = more.lists.acknowledged ∙ one.lists.acknowledged;
        };
      }

-- ---- the input

module _ (w : World) (n : ℕ) (m : MasterState) (ok : ServingOk w (master_node n) m) (from : NodeId) (heard : Option Body) (filled : 1 ≤ length m.backups) where
  abbrev Goes : Moved MasterState → Type 0
  Goes r = ServingMove w n m from heard r

  treats_moves : m.phase ≡ Open → (rs : List Request) → Each (UpdateOk w) rs → Goes (treats n m rs)
  treats_moves is rs updates =
      let t : Treated w m.part m (treat m rs) = treat_ok w m.part m (parts_of w (master_node n) m ok) rs updates in
      cond_both (length (treat m rs).log == length m.log) _ _ Goes (λ y. open_does w n m ok from heard is (treat m rs) [] t.lists t.parts tt)
      (λ y. begins w n m ok from heard filled (treat m rs) t.lists (WhenOpen is) t.parts)

  -- a witness answers a collection
  pub collected_moves : (a : GcAnswer) → HearsSuspects w a → Goes (on_collected n m a)
  unfolding on_collected
  collected_moves (Suspects rs) updates = go m.phase refl
    where
      go : (p : Phase) → m.phase ≡ p → Goes (if is_open p then treats n m rs else quiet m)
      go Open is = treats_moves is rs updates
      go (Switching s) is = rests w n m ok from heard
  collected_moves _ updates = rests w n m ok from heard
