-- In a run whose header has protocol 1, nobody asks for an answer at once: each step keeps that.
use Rattle.std.proofs.Common.{◌≡◌, inl, inr, ℕ, List, [], ◌++◌, refl, ap, sym, ◌∙◌, subst, Option, Some}
use Rattle.std.specs.Bool.{⊤}
use Rattle.curp_base.specs.Words.{Each, numbered}
use Rattle.curp_base.proofs.Lists.{Each-append, Each-at, Each-from_at, Each-weaker}
use Rattle.curp_base.proofs.Numbered.{numbered_replicate, number_within}
use Rattle.curp_cmd.specs.Node.{witness_node}
use Rattle.curp_cmd.specs.declared.command.Answer.{Answer}
use Rattle.curp_cmd.specs.declared.command.RequestId.{RequestId}
use Rattle.curp_cmd.specs.declared.node.NodeId.{NodeId}
use Rattle.curp_cmd.specs.declared.node.NodeKind.TheVariants as kind
use Rattle.curp_msg.specs.declared.body.Ask.{Ask}
use Rattle.curp_msg.specs.declared.body.Body.{Body}
use Rattle.curp_msg.specs.declared.body.Body.TheVariants as body
use Rattle.curp_msg.specs.declared.body.Probe.{Probe}
use Rattle.curp_msg.specs.declared.body.Probed.{Probed}
use Rattle.curp_msg.specs.declared.body.Quick.{Quick}
use Rattle.curp_msg.specs.Input.{Input}
use Rattle.curp_msg.specs.Input as input
use Rattle.curp_msg.specs.declared.message.Message.{Message}
use Rattle.curp_msg.specs.declared.script.Header.{Header}
use Rattle.curp_msg.specs.declared.script.Protocol.TheVariants.{One}
use Rattle.curp_msg.specs.declared.script.Step.{Step}
use Rattle.curp_model.specs.Backup.{BackupState, backup_input}
use Rattle.curp_model.specs.Client.{ClientState, client_input}
use Rattle.curp_model.specs.Manager.{manager_input}
use Rattle.curp_model.specs.Master.{MasterState}
use Rattle.curp_model.specs.Recovery.{Fresh, MasterStage, Recovering, RecoveryState, Serving, master_input}
use Rattle.curp_model.specs.Witness.{WitnessState, witness_input}
use Rattle.curp_model.specs.World.{World, messages, opening, opening_client, step, world}
use Rattle.curp_facts.specs.ByOne.{ByOne, IsOfOne}
use Rattle.curp_facts.specs.Facts.{WasSent}
use Rattle.curp_facts.specs.Nodes.{ValueWasSent, WasRead}
use Rattle.curp_msg.specs.Script.{IsRun, IsStep}
use Rattle.curp_law_kept.specs.Deeds.{IsFor}
use Rattle.curp_law_kept.specs.BackupEffect.{BackupAnswers, BackupSays}
use Rattle.curp_law_kept.specs.WitnessEffect.{WitnessAnswers, WitnessSays}
use Rattle.curp_law_kept.proofs.Gives.{backup_effect, witness_effect, ByBackup, ByClient, ByManager, ByMaster, ByWitness, Rests, StepCase, Stays, step_case, fits, manager_does, StageMove, heard_in, input_moves, speaker, along, known_step, numbered_set_cases, sent_now}
use Rattle.curp_law_kept.specs.ManagerEffect.{Uttered}
use Rattle.curp_facts.specs.Known.{Known}
use Rattle.curp_law_kept.specs.Moves.{IsSaidBy, RecoverySays, ServingSays}
use Rattle.curp_law_kept.specs.Stages.{FreshSays}
use Rattle.curp_facts.specs.Fits.{sender_kind}
use Rattle.curp_law_runs.proofs.ClientsByOne.{OfOne, client_by_one}
use Rattle.curp_model.proofs.Batches.{all_of-kept}

-- what isn't said by any of the other four bodies is of protocol 1
none_of_four : (Says : Body → Type 0) → ((ask : Ask) → Says (body.Glance ask) → ⊥) → ((p : Probe) → Says (body.Probe p) → ⊥) → ((a : Probed) → Says (body.Probed a) → ⊥)
    → ((q : Quick) → Says (body.Quick q) → ⊥) → (b : Body) → Says b → IsOfOne b
none_of_four Says glance probe probed quick (body.Glance ask) said = glance ask said
none_of_four Says glance probe probed quick (body.Probe p) said = probe p said
none_of_four Says glance probe probed quick (body.Probed a) said = probed a said
none_of_four Says glance probe probed quick (body.Quick q) said = quick q said
none_of_four Says glance probe probed quick _ said = tt

-- an order, or a message of protocol 1
abbrev pub BringsOne : Input → Type 0
BringsOne (input.Local order) = ⊤
BringsOne (input.Message m) = IsOfOne m.body

module _ {w : World} (by_one : ByOne w) where
  -- what was sent is of protocol 1
  pub sent_by_one : (m : Message) → WasSent w m → IsOfOne m.body
  sent_by_one m sent = Each-at OfOne (messages w) by_one.sent sent.place m sent.stands

  -- a read that completed had its value sent
  pub only_by_value : (id : RequestId) (a : Answer) → WasRead w id a → ValueWasSent w id a
  only_by_value id a read = elim read [
    | inl value ↦ value
    | inr seen ↦ absurd (sent_by_one _ seen.sent)
  ]

  -- a message that comes is of protocol 1
  pub brings_one : (to : NodeId) (given : Input) → IsFor w to given → BringsOne given
  brings_one to (input.Local order) for = tt
  brings_one to (input.Message m) for = sent_by_one m for.1

  -- ---- what each node says

  backup_says : (given : Input) (c : BackupState) (to : NodeId) (b : Body) → BackupAnswers given c to b → IsOfOne b
  backup_says given c to = none_of_four (BackupAnswers given c to) (λ ask ok. ok) (λ p ok. ok) (λ a ok. ok) (λ q ok. ok)

  -- a witness that answers a probe has got one
  witness_says : (n : ℕ) (given : Input) → IsFor w (witness_node n) given → (y : WitnessState) (to : NodeId) (b : Body) → WitnessAnswers given y to b → IsOfOne b
  witness_says n given for y to = none_of_four (WitnessAnswers given y to) (λ ask ok. ok) (λ p ok. ok) (λ a ok. subst BringsOne ok.came.is (brings_one (witness_node n) given for)) (λ q ok. ok)

  -- a master that answers at once was asked to
  serving_says : (m : MasterState) (to : NodeId) (b : Body) → ServingSays w m to b → IsOfOne b
  serving_says m to = none_of_four (ServingSays w m to) (λ ask ok. ok) (λ p ok. ok) (λ a ok. ok) (λ q ok. sent_by_one _ ok.asked.sent)

  recovery_says : (s : RecoveryState) (to : NodeId) (b : Body) → RecoverySays w s to b → IsOfOne b
  recovery_says s to = none_of_four (RecoverySays w s to) (λ ask ok. ok) (λ p ok. ok) (λ a ok. ok) (λ q ok. ok)

  fresh_says : (to : NodeId) (b : Body) → FreshSays w to b → IsOfOne b
  fresh_says to = none_of_four (FreshSays w to) (λ ask ok. ok) (λ p ok. ok) (λ a ok. ok) (λ q ok. ok)

  said_by : (n : ℕ) (Says : NodeId → Body → Type 0) → ((to : NodeId) (b : Body) → Says to b → IsOfOne b) → (out : List Message) → Each (IsSaidBy n Says) out → Each OfOne out
  said_by n Says of_one out all = Each-weaker (IsSaidBy n Says) OfOne (λ (m : Message) k. of_one m.to m.body k.says_so) out all

  master_says : (n : ℕ) (from : NodeId) (heard : Option Body) (m k : MasterStage) (out : List Message) → StageMove w n from heard m k out → Each OfOne out
  master_says n from heard Fresh Fresh out move = said_by n (FreshSays w) fresh_says out move
  master_says n from heard Fresh (Recovering t) out move = said_by n (RecoverySays w t) (recovery_says t) out move.move.says
  master_says n from heard Fresh (Serving k) out move = absurd move
  master_says n from heard (Recovering s) (Recovering t) out move = said_by n (RecoverySays w t) (recovery_says t) out move.says
  master_says n from heard (Recovering s) (Serving k) out move = subst (Each OfOne) (sym move.silent) tt
  master_says n from heard (Recovering s) Fresh out move = absurd move
  master_says n from heard (Serving m) (Serving k) out move = said_by n (ServingSays w k) (serving_says k) out move.says
  master_says n from heard (Serving m) Fresh out move = absurd move
  master_says n from heard (Serving m) (Recovering t) out move = absurd move

  -- what the manager says is of no kind that clients, masters and witnesses say
  of_manager : (b : Body) → sender_kind b ≡ kind.Manager → IsOfOne b
  of_manager = none_of_four (λ b. sender_kind b ≡ kind.Manager) (λ ask e. cc) (λ p e. cc) (λ a e. cc) (λ q e. cc)

  manager_says : {v : World} → Known v → (out : List Message) → messages v ≡ messages w ++ out → Each (Uttered w) out → Each OfOne out
  manager_says {v} now out sent all = Each-from_at OfOne out (λ k m at.
      let here : WasSent v m = sent_now w v out sent {m = m} (record { place = k; stands = at }) in
      of_manager m.body (sym (fits now m here).sender.0 ∙ ap (λ (x : NodeId). x.kind) (Each-at (Uttered w) out all k m at).from))

  -- ---- a step

  -- where no client moves
  same_clients : {v : World} → v.clients ≡ w.clients → (out : List Message) → messages v ≡ messages w ++ out → Each OfOne out → ByOne v
  same_clients same out sent all = record {
    clients = λ n c here. by_one.clients n c (subst (λ (cs : List ClientState). numbered cs n ≡ Some c) same here);
    sent = subst (Each OfOne) (sym sent) (Each-append OfOne (messages w) out by_one.sent all);
  }

  module _ {v : World} (known : Known w) (now : Known v) where
    case_by_one : StepCase w v → ByOne v
    case_by_one (Stays is) = subst ByOne (sym is) by_one
    case_by_one (Rests r) = same_clients (ap (λ (u : World). u.clients) r.is) [] (ap messages r.is ∙ all_of-kept w.sent []) tt
    case_by_one (ByClient n given c here for made key is) =
        let goes = client_by_one n c (by_one.clients n c here) given in
        record {
          clients = λ m d at. elim (numbered_set_cases w.clients n (client_input n c given).state (number_within w.clients n c here).0 m d (ap (λ (u : World). numbered u.clients m) (sym is) ∙ at)) [
            | inl o ↦ by_one.clients m d o.1
            | inr o ↦ subst (λ (e : ClientState). e.protocol ≡ One) o.1 goes.0
          ];
          sent = subst (Each OfOne) (sym (ap messages is ∙ all_of-kept w.sent (client_input n c given).messages)) (Each-append OfOne (messages w) _ by_one.sent goes.1);
        }
    case_by_one (ByBackup n given b here for events none is) =
        same_clients (ap (λ (u : World). u.clients) is) (backup_input n b given).messages (ap messages is ∙ all_of-kept w.sent (backup_input n b given).messages)
        (Each-weaker (BackupSays n given (backup_input n b given).state) OfOne (λ (m : Message) k. backup_says given (backup_input n b given).state m.to m.body k.says_so) (backup_input n b given).messages (backup_effect n b given).says)
    case_by_one (ByWitness n given x here for events none is) =
        same_clients (ap (λ (u : World). u.clients) is) (witness_input n x given).messages (ap messages is ∙ all_of-kept w.sent (witness_input n x given).messages)
        (Each-weaker (WitnessSays n given (witness_input n x given).state) OfOne (λ (m : Message) k. witness_says n given for (witness_input n x given).state m.to m.body k.says_so) (witness_input n x given).messages (witness_effect n x given).says)
    case_by_one (ByMaster n given m here for events none is) =
        same_clients (ap (λ (u : World). u.clients) is) (master_input n m given).messages (ap messages is ∙ all_of-kept w.sent (master_input n m given).messages)
        (master_says n (speaker known n given) (heard_in known n given) m (master_input n m given).state (master_input n m given).messages
        (input_moves known n m (record { its_kind = refl; its_state = here }) given for))
    case_by_one (ByManager given for events none is) =
        let sent = ap messages is ∙ all_of-kept w.sent (manager_input w.manager given).messages in
        same_clients (ap (λ (u : World). u.clients) is) (manager_input w.manager given).messages sent (manager_says now (manager_input w.manager given).messages sent (manager_does known given for).messages)

-- each step keeps it
pub by_one_step : (w : World) → Known w → (x : Step) → IsStep x → ByOne w → ByOne (step w x).world
by_one_step w known x its by_one = case_by_one by_one known (known_step w known x) (step_case w known x its)

-- and it holds at opening, by the protocol of the header
pub by_one_opening : (h : Header) → h.protocol ≡ One → ByOne (opening h)
unfolding opening
by_one_opening h one = record {
  clients = λ n c here. subst (λ (d : ClientState). d.protocol ≡ One) (numbered_replicate h.clients (opening_client h) n c here) one;
  sent = tt;
}

-- and so in every run
pub by_one_all : (h : Header) (xs : List Step) → IsRun h xs → h.protocol ≡ One → ByOne (world h xs)
by_one_all h xs is one = (along ByOne by_one_step h xs is (by_one_opening h one)).1
