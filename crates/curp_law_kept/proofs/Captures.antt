-- How a serving master moves by a read.
use Rattle.std.proofs.Common.{◌≡◌, ◌≤◌, ℕ, ◌+◌, Bool, true, false, List, [], ◌∷◌, ◌++◌, length, Option, Some, None, refl, ap, arith, if◌then◌else◌, not, subst}
use Rattle.std.specs.Bool.{⊤}
use Rattle.std.specs.FinMap as store
use Rattle.curp_base.specs.Cases.{first_there, only_if}
use Rattle.curp_cmd.specs.Node.{master_node}
use Rattle.curp_cmd.specs.Store.{is_update, applied}
use Rattle.curp_cmd.specs.declared.command.Answer.TheVariants.{Found}
use Rattle.curp_cmd.specs.declared.command.Command.{Command}
use Rattle.curp_cmd.specs.declared.command.Command.TheVariants.{Get}
use Rattle.curp_cmd.specs.declared.command.Request.{Request}
use Rattle.curp_cmd.specs.declared.node.NodeId.{NodeId}
use Rattle.curp_msg.specs.Moved.{Moved}
use Rattle.curp_msg.specs.declared.answer.Refusal.{Refusal}
use Rattle.curp_msg.specs.declared.answer.Refusal.TheVariants as refusal
use Rattle.curp_msg.specs.declared.body.Ask.{Ask}
use Rattle.curp_msg.specs.declared.body.Body.{Body}
use Rattle.curp_facts.specs.Entries.{RequestOk}
use Rattle.curp_facts.specs.Kept.{RefusalFirstOk}
use Rattle.curp_facts.specs.Nodes.{ServingOk}
use Rattle.curp_model.specs.declared.Check.{Check}
use Rattle.curp_model.specs.declared.Check.TheVariants.{Expired, Stale, Known, New}
use Rattle.curp_model.specs.Master.{Captured, MasterState, by_read_check, captures_read, on_read, read_command, read_of, read_refusal, state_of, answers_at_once, glance_command, glance_of, is_clean, is_open, on_glance, Phase, Open, Switching}
use Rattle.curp_model.specs.Table.{check}
use Rattle.curp_model.specs.World.{World}
use Rattle.curp_law_kept.specs.Moves.{ServingMove, WasGlanced}
use Rattle.curp_law_kept.proofs.Completed.{stale_completed}
use Rattle.curp_law_kept.proofs.Parts.{parts_capture, parts_of, parts_glance}
use Rattle.curp_law_kept.proofs.Serving.{begins_next, rests, keeps_log}
use Rattle.curp_law_kept.proofs.Serving.LogMove.{SameLog}
use Rattle.curp_law_kept.proofs.Updates.{refuses}
use Rattle.curp_model.specs.Log.{answer_after, meaning}
use Rattle.curp_model.specs.Ranges.{owns_all}
use Rattle.curp_cmd.specs.Hash.{hashes}
use Rattle.curp_cmd.specs.declared.entry.Entry.{Entry}
use Rattle.curp_base.specs.Words.{At}
use Rattle.curp_order.specs.declared.Event.TheVariants.{Invoke}

module _ (w : World) (n : ℕ) (m : MasterState) (ok : ServingOk w (master_node n) m) (from : NodeId) (heard : Option Body) where
  abbrev Goes : Moved MasterState → Type 0
  Goes r = ServingMove w n m from heard r

  -- what a refusal rests on
  abbrev Rests : Request → Option Refusal → Type 0
  Rests r (Some why) = RefusalFirstOk w r.id.client why
  Rests r None = ⊤

  refusal_rests : (ask : Ask) → Rests ask.request (read_refusal m ask)
  refusal_rests ask = go _ _ (check (state_of m).table ask.request.id) refl _ _
    where
      go : (by_epoch by_phase : Bool) (c : Check) → check (state_of m).table ask.request.id ≡ c → (by_version by_owner : Bool)
          → Rests ask.request (first_there (
          only_if by_epoch (refusal.Epoch m.epoch)
          ∷ only_if by_phase refusal.Switching
          ∷ by_read_check c
          ∷ only_if by_version (refusal.Version m.version)
          ∷ only_if by_owner refusal.NotOwner
          ∷ []))
      go true _ _ is _ _ = tt
      go false true _ is _ _ = tt
      go false false Expired is _ _ = tt
      go false false (Stale first) is _ _ = stale_completed w m.part m.lo m.hi m.log ok.log ask.request.id first is
      go false false (Known a index) is true _ = tt
      go false false (Known a index) is false true = tt
      go false false (Known a index) is false false = tt
      go false false New is true _ = tt
      go false false New is false true = tt
      go false false New is false false = tt

  module _ (filled : 1 ≤ length m.backups) where
    captures : (r : Request) (key : List ℕ) → RequestOk w r → is_update r.command ≡ false → Goes (captures_read n m r key)
    captures r key asked reads =
        let c : Captured = record {
          number = m.captured + 1;
          id = r.id;
          command = r.command;
          answer = Found (store.get (state_of m).store key);
          length = length m.log;
          round = m.round + 1;
        } in
        begins_next w n m ok from heard filled (record m { captures = m.captures ++ c ∷ []; captured = m.captured + 1 }) (record { version = refl; backups = refl; witnesses = refl; phase = refl; acknowledged = refl }) (SameLog refl)
        (parts_capture w m.part m (parts_of w (master_node n) m ok) c (record { place = asked.place; invoked = asked.invoked; reads = reads; number = omega arith; within = omega arith; begun = omega arith }))

    read_of_moves : (r : Request) (key : List ℕ) → RequestOk w r → is_update r.command ≡ false → (o : Option Refusal) → Rests r o → Goes (read_of n m r key o)
    read_of_moves r key asked reads (Some why) first = refuses w n m ok from heard r.id why first
    read_of_moves r key asked reads None first = captures r key asked reads

    command_moves : (ask : Ask) → RequestOk w ask.request → (c : Command) → ask.request.command ≡ c → Goes (read_command n m ask c)
    command_moves ask asked (Get key) is = read_of_moves ask.request key asked (ap is_update is) (read_refusal m ask) (refusal_rests ask)
    command_moves ask asked _ is = rests w n m ok from heard

    -- a read comes
    pub read_moves : (ask : Ask) → RequestOk w ask.request → Goes (on_read n m ask)
    unfolding on_read
    read_moves ask asked = command_moves ask asked ask.request.command refl

    -- ---- a read that may be answered at once

    -- what isn't refused comes to an open master that owns it
    abbrev Clear : Ask → Type 0
    Clear ask = (m.phase ≡ Open) × (owns_all (state_of m).owned (hashes ask.request.command) ≡ true)

    clear : (ask : Ask) → read_refusal m ask ≡ None → Clear ask
    clear ask none = go _ m.phase refl _ _ _ refl none
      where
        go : (by_epoch : Bool) (p : Phase) → m.phase ≡ p → (by_check : Option Refusal) (by_version owned : Bool) → owns_all (state_of m).owned (hashes ask.request.command) ≡ owned
            → first_there (
            only_if by_epoch (refusal.Epoch m.epoch)
            ∷ only_if (not (is_open p)) refusal.Switching
            ∷ by_check
            ∷ only_if by_version (refusal.Version m.version)
            ∷ only_if (not owned) refusal.NotOwner
            ∷ []) ≡ None → Clear ask
        go true p is c v owned own none = absurd cc
        go false (Switching s) is c v owned own none = absurd cc
        go false Open is (Some why) v owned own none = absurd cc
        go false Open is None true owned own none = absurd cc
        go false Open is None false false own none = absurd cc
        go false Open is None false true own none = (is, own)

    get_answer : (lo hi : ℕ) (log : List Entry) (key : List ℕ) → answer_after lo hi log (Get key) ≡ Found (store.get (meaning lo hi log).store key)
    unfolding applied
    get_answer lo hi log key = refl

    at_once : (r : Request) (key : List ℕ) → RequestOk w r → WasGlanced w r.id → r.command ≡ Get key → m.phase ≡ Open → owns_all (state_of m).owned (hashes r.command) ≡ true → is_clean m r.command ≡ true
        → Goes (answers_at_once n m r key)
    at_once r key asked glanced is opens owned clean =
        keeps_log w n m ok from heard (record m { captured = m.captured + 1 }) _ (record { version = refl; backups = refl; witnesses = refl; phase = refl; acknowledged = refl }) refl
        (parts_glance w m.part m (parts_of w (master_node n) m ok)) (
          record {
            sender = refl;
            says_so = record {
              asked = glanced;
              serves = opens;
              its_epoch = refl;
              its_version = refl;
              addressee = refl;
              its_number = refl;
              event = asked.place;
              key = key;
              invoked = subst (λ (c : Command). At w.history asked.place (Invoke r.id c)) is asked.invoked;
              clean = subst (λ (c : Command). is_clean m c ≡ true) is clean;
              owned = subst (λ (c : Command). owns_all (state_of m).owned (hashes c) ≡ true) is owned;
              its_answer = get_answer m.lo m.hi m.log key;
            };
          },
          tt,
        )

    glance_of_moves : (ask : Ask) (key : List ℕ) → RequestOk w ask.request → WasGlanced w ask.request.id → ask.request.command ≡ Get key → (o : Option Refusal) → Rests ask.request o → (o ≡ None → Clear ask)
        → Goes (glance_of n m ask.request key o)
    glance_of_moves ask key asked glanced is (Some why) first open_one = refuses w n m ok from heard ask.request.id why first
    glance_of_moves ask key asked glanced is None first open_one = cond_decided (is_clean m ask.request.command) refl
      where
        cond_decided : (b : Bool) → is_clean m ask.request.command ≡ b → Goes (if b then answers_at_once n m ask.request key else captures_read n m ask.request key)
        cond_decided true clean = at_once ask.request key asked glanced is (open_one refl).0 (open_one refl).1 clean
        cond_decided false dirty = captures ask.request key asked (ap is_update is)

    glance_command_moves : (ask : Ask) → RequestOk w ask.request → WasGlanced w ask.request.id → (c : Command) → ask.request.command ≡ c → Goes (glance_command n m ask c)
    glance_command_moves ask asked glanced (Get key) is = glance_of_moves ask key asked glanced is (read_refusal m ask) (refusal_rests ask) (clear ask)
    glance_command_moves ask asked glanced _ is = rests w n m ok from heard

    -- a glance comes
    pub glance_moves : (ask : Ask) → RequestOk w ask.request → WasGlanced w ask.request.id → Goes (on_glance n m ask)
    unfolding on_glance
    glance_moves ask asked glanced = glance_command_moves ask asked glanced ask.request.command refl
