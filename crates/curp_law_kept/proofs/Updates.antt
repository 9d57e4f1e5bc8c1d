-- How a serving master moves by an update or a sync.
use Rattle.std.proofs.Common.{◌≡◌, ◌≤◌, ◌<◌, ℕ, Bool, true, false, not, nat_lt, [], ◌∷◌, length, slice_get, Option, Some, None, refl, subst, arith}
use Rattle.std.specs.Option.{option_map}
use Rattle.std.specs.BTreeSet.{insert_key}
use Rattle.std.specs.Ordering.{nat_cmp}
use Rattle.std.proofs.lemmas.Bool.{cond_both}
use Rattle.std.proofs.lemmas.Bool.Decides.{nat_tests}
use Rattle.curp_base.specs.Cases.{first_case, only_if}
use Rattle.curp_base.specs.Words.{At}
use Rattle.curp_base.proofs.Lists.{at_push, at_same}
use Rattle.curp_cmd.specs.Hash.{hashes}
use Rattle.curp_cmd.specs.Node.{master_node}
use Rattle.curp_cmd.specs.declared.command.Answer.{Answer}
use Rattle.curp_cmd.specs.declared.command.Request.{Request}
use Rattle.curp_cmd.specs.declared.command.RequestId.{RequestId}
use Rattle.curp_cmd.specs.declared.entry.Entry.{Entry}
use Rattle.curp_cmd.specs.declared.entry.Entry.TheVariants.{Op, Take, Give, Expire}
use Rattle.curp_cmd.specs.declared.node.NodeId.{NodeId}
use Rattle.curp_msg.specs.Moved.{Moved}
use Rattle.curp_msg.specs.declared.answer.Refusal.{Refusal}
use Rattle.curp_msg.specs.declared.answer.Refusal.TheVariants as refusal
use Rattle.curp_msg.specs.declared.body.Ask.{Ask}
use Rattle.curp_msg.specs.declared.body.Body.{Body}
use Rattle.curp_facts.specs.Entries.{UpdateOk}
use Rattle.curp_facts.specs.Kept.{RefusalFirstOk}
use Rattle.curp_facts.specs.Nodes.{IsOpAt, ServingOk}
use Rattle.curp_facts.specs.Reach.{Tells}
use Rattle.curp_model.specs.declared.Check.{Check}
use Rattle.curp_model.specs.declared.Check.TheVariants.{Expired, Stale, Known, New}
use Rattle.curp_model.specs.Master.{MasterState, Open, Phase, Switching, answers_with, by_check, carries_out, executes, has, holds_back, is_clean, is_idle_op, is_open, known_again, known_at, marked_free, on_update, pushed, reply, state_of, synced, verdict}
use Rattle.curp_model.specs.declared.Verdict.TheVariants.{Deny, Execute, HoldBack, Tell, TellAgain}
use Rattle.curp_model.specs.declared.Verdict.{Verdict}
use Rattle.curp_model.specs.declared.Wish.TheVariants.{AtOnce, WhenSynced}
use Rattle.curp_model.specs.declared.Wish.{Wish}
use Rattle.curp_model.specs.Ranges.{owns_all}
use Rattle.curp_model.specs.Table.{check}
use Rattle.curp_model.specs.World.{World}
use Rattle.curp_law_kept.specs.Standing.{StandsHere}
use Rattle.curp_law_kept.proofs.Noted.{known_stands}
use Rattle.curp_law_kept.proofs.Standings.{stands_at}
use Rattle.curp_law_kept.specs.Moves.{EarlySays, ServingMove}
use Rattle.curp_law_kept.proofs.Clean.{parts_pushed, pushed_answer, pushed_free}
use Rattle.curp_law_kept.proofs.Completed.{stale_completed}
use Rattle.curp_law_kept.proofs.MasterLists.{has_own}
use Rattle.curp_law_kept.proofs.Parts.{Parts, parts_free, parts_held, parts_of}
use Rattle.curp_law_kept.proofs.Serving.{SameLists, begins, open_does, tells}
use Rattle.curp_law_kept.proofs.Serving.LogMove.{SameLog, WhenOpen}

module _ (w : World) (n : ℕ) (m : MasterState) (ok : ServingOk w (master_node n) m) (from : NodeId) (heard : Option Body) where
  abbrev Goes : Moved MasterState → Type 0
  Goes r = ServingMove w n m from heard r

  -- ---- refusals

  -- a refusal goes to the request's client
  pub refuses : (id : RequestId) (why : Refusal) → RefusalFirstOk w id.client why → Goes (answers_with n m id why)
  refuses id why first = tells w n m ok from heard _ (record { sender = refl; says_so = record { addressee = refl; first = first } }, tt)

  -- ---- what a verdict rests on

  abbrev Rests : Request → Verdict → Type 0
  Rests r (Deny why) = RefusalFirstOk w r.id.client why
  Rests r (Tell a) = (m.phase ≡ Open) × (index : ℕ) × (check (state_of m).table r.id ≡ Known a index) × (index < synced m)
  Rests r (TellAgain a) = (m.phase ≡ Open) × (index : ℕ) × (check (state_of m).table r.id ≡ Known a index) × (has index m.free ≡ true) × IsOpAt m.log index
  Rests r (HoldBack index) = IsOpAt m.log index
  Rests r Execute = (m.phase ≡ Open) × (check (state_of m).table r.id ≡ New) × (owns_all (state_of m).owned (hashes r.command) ≡ true)

  idle_op : (index : ℕ) (o : Option Entry) → slice_get m.log index ≡ o → is_idle_op m index o ≡ true → IsOpAt m.log index
  idle_op index (Some (Op r acknowledged)) at idle = record { request = r; acknowledged = acknowledged; stands = at }
  idle_op index (Some (Take migration taken)) at idle = absurd cc
  idle_op index (Some (Give migration given)) at idle = absurd cc
  idle_op index (Some (Expire client)) at idle = absurd cc
  idle_op index None at idle = absurd cc

  again_rests : (wish : Wish) (r : Request) (a : Answer) (index : ℕ) → m.phase ≡ Open → check (state_of m).table r.id ≡ Known a index → IsOpAt m.log index → Rests r (known_again m wish a index)
  again_rests AtOnce r a index is e op = cond_both (has index m.free) _ _ (Rests r) (λ y. (is, index, e, y, op)) (λ y. op)
  again_rests WhenSynced r a index is e op = op

  known_rests : (wish : Wish) (r : Request) (a : Answer) (index : ℕ) → m.phase ≡ Open → check (state_of m).table r.id ≡ Known a index → Rests r (known_at m wish a index)
  known_rests wish r a index is e =
      cond_both (nat_lt index (synced m)) _ _ (Rests r) (λ y. (is, index, e, let low : index < synced m = grind (arith, nat_tests) in low))
      (λ y. cond_both (is_idle_op m index (slice_get m.log index)) _ _ (Rests r) (λ idle. again_rests wish r a index is e (idle_op index (slice_get m.log index) refl idle)) (λ idle. tt))

  verdict_rests : (wish : Wish) (ask : Ask) → Rests ask.request (verdict m wish ask)
  verdict_rests wish ask = go _ m.phase refl (check (state_of m).table ask.request.id) refl _ (owns_all (state_of m).owned (hashes ask.request.command)) refl
    where
      go : (by_epoch : Bool) (p : Phase) → m.phase ≡ p → (c : Check) → check (state_of m).table ask.request.id ≡ c → (by_version owned : Bool) → owns_all (state_of m).owned (hashes ask.request.command) ≡ owned
          → Rests ask.request (first_case (
          option_map Deny (only_if by_epoch (refusal.Epoch m.epoch))
          ∷ option_map Deny (only_if (not (is_open p)) refusal.Switching)
          ∷ by_check m wish c
          ∷ option_map Deny (only_if by_version (refusal.Version m.version))
          ∷ option_map Deny (only_if (not owned) refusal.NotOwner)
          ∷ []) Execute)
      go true _ at _ is _ _ owns = tt
      go false (Switching s) at _ is _ _ owns = tt
      go false Open at Expired is _ _ owns = tt
      go false Open at (Stale first) is _ _ owns = stale_completed w m.part m.lo m.hi m.log ok.log ask.request.id first is
      go false Open at (Known a index) is _ _ owns = known_rests wish ask.request a index at is
      go false Open at New is true _ owns = tt
      go false Open at New is false false owns = tt
      go false Open at New is false true owns = (at, is, owns)

  -- ---- what each verdict does

  tells_stored : (r : Request) (a : Answer) → Rests r (Tell a) → ServingMove w n m from heard (carries_out n m AtOnce r (Tell a))
  tells_stored r a rests = tells w n m ok from heard (reply n m true r.id a ∷ []) (
    record {
      sender = refl;
      says_so = record {
        serves = rests.0;
        its_epoch = refl;
        its_version = refl;
        addressee = refl;
        kind = record { stands = stands_at m.lo m.hi m.log rests.1 r.id a (known_stands m.lo m.hi m.log r.id a rests.1 rests.2); below = rests.3 };
      };
    },
    tt,
  )

  -- what is known of the op at an index is told again
  early_again : (id : RequestId) (a : Answer) (index epoch version : ℕ) → check (state_of m).table id ≡ Known a index → has index m.free ≡ true → IsOpAt m.log index
      → EarlySays m (record { id = id; synced = false; epoch = epoch; version = version; answer = a })
  early_again id a index epoch version e free op =
      let s : StandsHere m.lo m.hi m.log index id a = known_stands m.lo m.hi m.log id a index e in
      let told : Tells m.lo m.hi m.log index id a (Op op.request op.acknowledged) = subst (Tells m.lo m.hi m.log index id a) (at_same m.log index s.entry (Op op.request op.acknowledged) s.stands op.stands) s.tells in
      record { index = index; request = op.request; acknowledged = op.acknowledged; stands = op.stands; its_id = told.0; its_answer = told.1; free = free }

  tells_again : (r : Request) (a : Answer) → Rests r (TellAgain a) → ServingMove w n m from heard (carries_out n m AtOnce r (TellAgain a))
  tells_again r a rests = tells w n m ok from heard (reply n m false r.id a ∷ []) (
    record {
      sender = refl;
      says_so = record { serves = rests.0; its_epoch = refl; its_version = refl; addressee = refl; kind = early_again r.id a rests.1 m.epoch m.version rests.2 rests.3 rests.4 };
    },
    tt,
  )

  module _ (filled : 1 ≤ length m.backups) where
    holds : (index : ℕ) → IsOpAt m.log index → Goes (holds_back n m index)
    holds index op = begins w n m ok from heard filled (record m { held = insert_key nat_cmp m.held index }) (record { version = refl; backups = refl; witnesses = refl; phase = refl; acknowledged = refl })
        (SameLog refl) (parts_held w m.part m (parts_of w (master_node n) m ok) index op)

    -- a new request is pushed
    module _ (r : Request) (update : UpdateOk w r) (rests : Rests r Execute) where
      abbrev after : MasterState
      after = pushed m r r.first

      after_parts : Parts w m.part after
      after_parts = parts_pushed w m.part m (parts_of w (master_node n) m ok) r r.first update update.request.first update.request.completed rests.1 rests.2

      last : At after.log (length m.log) (Op r r.first)
      last = at_push m.log (Op r r.first) (length m.log) refl

      freed : is_clean m r.command ≡ true → Parts w m.part (marked_free after (length m.log) true)
      freed clean = parts_free w m.part after after_parts (length m.log) (pushed_free w m.part m (parts_of w (master_node n) m ok) r r.first clean)

      waits : (k : MasterState) → SameLists m k → Parts w m.part k → IsOpAt k.log (length m.log) → Goes (holds_back n k (length m.log))
      waits k same p op = begins w n m ok from heard filled (record k { held = insert_key nat_cmp k.held (length m.log) })
          (record { version = same.version; backups = same.backups; witnesses = same.witnesses; phase = same.phase; acknowledged = same.acknowledged }) (WhenOpen rests.0) (parts_held w m.part k p (length m.log) op)

      executed : (wish : Wish) (clean : Bool) → is_clean m r.command ≡ clean → Goes (executes n m wish r clean)
      executed AtOnce true is = open_does w n m ok from heard rests.0 (marked_free after (length m.log) true) _ (record { version = refl; backups = refl; witnesses = refl; phase = refl; acknowledged = refl }) (freed is) (
        record {
          sender = refl;
          says_so = record {
            serves = rests.0;
            its_epoch = refl;
            its_version = refl;
            addressee = refl;
            kind = record {
              index = length m.log;
              request = r;
              acknowledged = r.first;
              stands = last;
              its_id = refl;
              its_answer = pushed_answer w m.part m (parts_of w (master_node n) m ok) r r.first;
              free = has_own (length m.log) m.free;
            };
          };
        },
        tt,
      )
      executed AtOnce false is = waits after (record { version = refl; backups = refl; witnesses = refl; phase = refl; acknowledged = refl }) after_parts (record { request = r; acknowledged = r.first; stands = last })
      executed WhenSynced true is = waits (marked_free after (length m.log) true) (record { version = refl; backups = refl; witnesses = refl; phase = refl; acknowledged = refl }) (freed is) (record { request = r; acknowledged = r.first; stands = last })
      executed WhenSynced false is = waits after (record { version = refl; backups = refl; witnesses = refl; phase = refl; acknowledged = refl }) after_parts (record { request = r; acknowledged = r.first; stands = last })

    carried_out : (wish : Wish) (r : Request) → UpdateOk w r → (v : Verdict) → Rests r v → Goes (carries_out n m wish r v)
    carried_out wish r update (Deny why) rests = refuses r.id why rests
    carried_out wish r update (Tell a) rests = tells_stored r a rests
    carried_out wish r update (TellAgain a) rests = tells_again r a rests
    carried_out wish r update (HoldBack index) rests = holds index rests
    carried_out wish r update Execute rests = executed r update rests wish (is_clean m r.command) refl

    -- an update or a sync comes
    pub update_moves : (wish : Wish) (ask : Ask) → UpdateOk w ask.request → Goes (on_update n m wish ask)
    unfolding on_update
    update_moves wish ask update = carried_out wish ask.request update (verdict m wish ask) (verdict_rests wish ask)
