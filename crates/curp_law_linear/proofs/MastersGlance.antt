-- A message that comes to a serving master: a read is answered at once, or nothing is.
use Rattle.std.proofs.Common.{◌≡◌, ◌+◌, ◌==◌, ◌&&◌, ◌||◌, nat_lt, if◌then◌else◌, ℕ, Bool, true, false, List, [], ◌∷◌, refl, ap, ◌∙◌, Option, Some, None, subst, arith}
use Rattle.curp_law_linear.proofs.ReadsCaptures as reads
use Rattle.curp_model.specs.Master.{MasterState, quick_value, is_clean, state_of, on_serving, serving_ordered, read_refusal, answers_at_once, captures_read, glance_of, glance_command, on_glance, unless_it_ends, last_round, answers_with}
use Rattle.curp_msg.specs.declared.body.Body.{Body}
use Rattle.curp_msg.specs.declared.body.Body.TheVariants as body
use Rattle.curp_msg.specs.declared.body.Ask.{Ask}
use Rattle.curp_msg.specs.declared.message.Message.{Message}
use Rattle.curp_cmd.specs.declared.node.NodeId.{NodeId}
use Rattle.curp_msg.specs.Moved.{Moved, quiet}
use Rattle.curp_cmd.specs.declared.command.Command.{Command}
use Rattle.curp_cmd.specs.declared.command.Command.TheVariants.{Get}
use Rattle.curp_msg.specs.declared.answer.Refusal.{Refusal}
use Rattle.curp_law_linear.proofs.MastersCaptures.{Captures, rests, captured_one, serving_captures, ordered_captures, NotGlance}
use Rattle.curp_law_linear.proofs.ReadsCaptures.{ReadsMove}
use Rattle.curp_model.specs.World.{glance_in}
use Rattle.curp_model.specs.Ranges.{owns_all}
use Rattle.curp_cmd.specs.Hash.{hashes}
use Rattle.std.proofs.lemmas.Bool.{cond_both}
use Rattle.curp_base.specs.Words.{rises_past}
use Rattle.curp_msg.specs.declared.machine.Local.{Local}
use Rattle.curp_cmd.specs.Node.{master_node}
use Rattle.std.proofs.lemmas.Bool.Decides.{nat_tests}

-- a read is answered at once, and nothing else is done
pub record AnswersAtOnce (n : ℕ) (m : MasterState) (heard : Option Body) (k : MasterState) (out : List Message) : Type 0 where
  pub ask : Ask
  pub key : List ℕ
  pub is_heard : heard ≡ Some (body.Glance ask)
  pub gets : ask.request.command ≡ Get key
  pub state : k ≡ record m { captured = m.captured + 1 }
  pub said : out ≡ quick_value n m ask.request (m.captured + 1) key ∷ []
  pub clean : is_clean m ask.request.command ≡ true
  pub owned : owns_all (state_of m).owned (hashes ask.request.command) ≡ true

-- what is heard is no glance that was answered at once
abbrev pub Unglanced : MasterState → Option Body → MasterState → Type 0
Unglanced m heard k = (b : Body) → heard ≡ Some b → glance_in b m k ≡ []

-- either
pub data ServingMoves (n : ℕ) (m : MasterState) (from : NodeId) (heard : Option Body) (r : Moved MasterState) : Type 0 where
  Slowly : Captures m r.state → ReadsMove m from heard r → Unglanced m heard r.state → ServingMoves n m from heard r
  AtOnce : AnswersAtOnce n m heard r.state r.messages → ServingMoves n m from heard r

-- where nothing is captured, or a round begins, no glance was answered
no_glance : (m k : MasterState) → (nat_lt m.captured k.captured && (k.round == m.round)) ≡ false → (b : Body) → glance_in b m k ≡ []
no_glance m k none (body.Glance ask) = ap (λ (t : Bool). if t then ask.request ∷ [] else []) none
no_glance m k none _ = refl

not_more : (n : ℕ) (b : Bool) → (nat_lt n n && b) ≡ false
not_more n b = ap (λ (t : Bool). t && b) (never n)
  where
    never : (n : ℕ) → nat_lt n n ≡ false
    never n = grind (arith, nat_tests)

not_round : (b : Bool) (n : ℕ) → (b && (n + 1 == n)) ≡ false
not_round b n = ap (λ (t : Bool). b && t) (never n) ∙ none b
  where
    never : (n : ℕ) → (n + 1 == n) ≡ false
    never n = grind (arith, nat_tests)

    none : (b : Bool) → (b && false) ≡ false
    none true = refl
    none false = refl

other_glance : (m k : MasterState) (b : Body) → NotGlance b → glance_in b m k ≡ []
other_glance m k (body.Glance ask) none = absurd none
other_glance m k _ none = refl

other_moves : (n : ℕ) (m : MasterState) (from : NodeId) (b : Body) → NotGlance b → ServingMoves n m from (Some b) (on_serving n m from b)
other_moves n m from b none = Slowly (serving_captures n m from b none) (reads.serving_reads n m from (Some b) b none refl)
    (λ x is. subst (λ (y : Body). glance_in y m (on_serving n m from b).state ≡ []) (same is) (other_glance m (on_serving n m from b).state b none))
  where
    same : {x y : Body} → Some x ≡ Some y → x ≡ y
    same e = cc

module _ (n : ℕ) (m : MasterState) (from : NodeId) where
  module _ (heard : Option Body) where
    abbrev Goes : Moved MasterState → Type 0
    Goes r = ServingMoves n m from heard r

    slowly : (r : Moved MasterState) → Captures m r.state → ReadsMove m from heard r → r.state.captured ≡ m.captured → Goes r
    slowly r a b same = Slowly a b (λ x is. no_glance m r.state (ap (λ (c : ℕ). nat_lt m.captured c && (r.state.round == m.round)) same ∙ not_more m.captured (r.state.round == m.round)) x)

  -- a glance
  module _ (ask : Ask) where
    abbrev Glanced : Moved MasterState → Type 0
    Glanced r = ServingMoves n m from (Some (body.Glance ask)) r

    rests_slowly : Glanced (quiet m)
    rests_slowly = slowly (Some (body.Glance ask)) (quiet m) (rests n m) (reads.rests n m from (Some (body.Glance ask))) refl

    answered : (key : List ℕ) → ask.request.command ≡ Get key → read_refusal m ask ≡ None → (b : Bool) → is_clean m ask.request.command ≡ b
        → Glanced (if b then answers_at_once n m ask.request key else captures_read n m ask.request key)
    answered key gets none true clean = AtOnce (record {
      ask = ask;
      key = key;
      is_heard = refl;
      gets = gets;
      state = refl;
      said = refl;
      clean = clean;
      owned = reads.unrefused n m from (Some (body.Glance ask)) ask none;
    })
    answered key gets none false clean = Slowly (captured_one n m ask key gets none) (reads.captured n m from (Some (body.Glance ask)) ask.request key gets (reads.unrefused n m from (Some (body.Glance ask)) ask none))
        (λ x is. no_glance m (captures_read n m ask.request key).state (not_round (nat_lt m.captured (m.captured + 1)) m.round) x)

    by_refusal : (key : List ℕ) → ask.request.command ≡ Get key → (o : Option Refusal) → read_refusal m ask ≡ o → Glanced (glance_of n m ask.request key o)
    by_refusal key gets (Some why) is = slowly (Some (body.Glance ask)) (answers_with n m ask.request.id why) (rests n m) (reads.refused_reads n m from (Some (body.Glance ask)) ask.request.id why) refl
    by_refusal key gets None is = answered key gets is (is_clean m ask.request.command) refl

    by_command : (c : Command) → ask.request.command ≡ c → Glanced (glance_command n m ask c)
    by_command (Get key) gets = by_refusal key gets (read_refusal m ask) refl
    by_command _ gets = rests_slowly

    glance_moves : Glanced (on_glance n m ask)
    unfolding on_glance
    glance_moves = by_command ask.request.command refl

    ends : (r : Moved MasterState) → Glanced r → Glanced (unless_it_ends m r)
    ends r g = cond_both (rises_past last_round m.round r.state.round || rises_past last_round m.captured r.state.captured) _ _ Glanced (λ y. rests_slowly) (λ y. g)

    serving_glances : Glanced (on_serving n m from (body.Glance ask))
    unfolding on_serving
    serving_glances = ends (on_glance n m ask) glance_moves

-- any message
pub serving_moves : (n : ℕ) (m : MasterState) (from : NodeId) (b : Body) → ServingMoves n m from (Some b) (on_serving n m from b)
serving_moves n m from (body.Glance ask) = serving_glances n m from ask
serving_moves n m from b = other_moves n m from b tt

-- any order
pub order_moves : (n : ℕ) (m : MasterState) (order : Local) → ServingMoves n m (master_node n) None (serving_ordered n m order)
order_moves n m order = Slowly (ordered_captures n m order) (reads.ordered_reads n m (master_node n) None order) (λ b is. absurd (nothing is))
  where
    nothing : {b : Body} → None ≡ Some b → ⊥
    nothing e = cc
