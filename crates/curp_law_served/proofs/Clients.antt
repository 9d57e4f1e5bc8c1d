-- What an input of a served run leaves of a client: how far its numbers rise, which configuration it has, and whether what pends
-- stays or completes.
use Rattle.std.proofs.Common.{◌≡◌, ◌≤◌, ◌⊎◌, inl, inr, ℕ, ◌+◌, Bool, true, false, not, cond, List, [], ◌∷◌, nat_lt, Option, Some, None, refl, ap, sym, subst, arith}
use Rattle.std.specs.Prelude.{Result, Ok, Err}
use Rattle.std.specs.List.{filter}
use Rattle.std.proofs.lemmas.Bool.{cond_both}
use Rattle.curp_base.specs.Words.{first_of, last_of}
use Rattle.curp_cmd.specs.RequestId.{same_id}
use Rattle.curp_cmd.specs.Store.{is_update}
use Rattle.curp_cmd.specs.declared.command.Answer.{Answer}
use Rattle.curp_cmd.specs.declared.command.Command.{Command}
use Rattle.curp_cmd.specs.declared.command.RequestId.{RequestId}
use Rattle.curp_cmd.specs.declared.node.NodeId.{NodeId}
use Rattle.curp_cmd.proofs.Ids.{same_id-true}
use Rattle.curp_msg.specs.Moved.{Moved, quiet, unless_refused}
use Rattle.curp_msg.specs.declared.body.Accepted.{Accepted}
use Rattle.curp_msg.specs.declared.body.Body.{Body}
use Rattle.curp_msg.specs.declared.body.Body.TheVariants as body
use Rattle.curp_msg.specs.declared.body.Probed.{Probed}
use Rattle.curp_msg.specs.declared.body.Quick.{Quick}
use Rattle.curp_msg.specs.declared.body.Reply.{Reply}
use Rattle.curp_msg.specs.declared.body.Worth.{Worth}
use Rattle.curp_msg.specs.declared.config.Config.{Config}
use Rattle.curp_msg.specs.declared.config.PartConfig.{PartConfig}
use Rattle.curp_msg.specs.declared.machine.Capture.{Capture}
use Rattle.curp_msg.specs.declared.machine.Completed.{Completed}
use Rattle.curp_msg.specs.Input.{Input}
use Rattle.curp_msg.specs.Input as input
use Rattle.curp_msg.specs.declared.machine.Local.{Local}
use Rattle.curp_msg.specs.declared.machine.Local.TheVariants as local
use Rattle.curp_model.specs.Client.{Attempt, ClientState, Early, Glimpse, Pending, accepted, asks, asks_value, client_input, client_ordered, completes_with, configured, early_reply, glimpse, glimpsed, if_proved, if_seen, invocation_for, invoke, next_request, on_client, probed, proved_answer, rejected, replaced, replied, seen_glimpse, sends_first, valued, with_accept, with_early, with_evidence, with_glimpse, with_id, with_pending, with_sight, without_id}
use Rattle.curp_law_served.proofs.Managers.{IsServed}

-- what it hears: it keeps what pends, changes a request that pends, or completes one
pub data Hears (cl : ClientState) (r : Moved ClientState) : Type 0 where
  Keeps : r.state.last ≡ cl.last → r.state.pending ≡ cl.pending → r.completed ≡ None → Hears cl r
  Changes : (id : RequestId) (p new : Pending) → with_id id cl.pending ≡ Some p → new.request ≡ p.request
      → r.state.last ≡ cl.last
      → r.state.pending ≡ replaced new cl.pending → r.completed ≡ None → Hears cl r
  Completes : (id : RequestId) (p : Pending) (done : Completed) → with_id id cl.pending ≡ Some p
      → done.id ≡ p.request.id → r.state.last ≡ cl.last
      → r.state.pending ≡ without_id done.id cl.pending → r.completed ≡ Some done → Hears cl r

-- its configuration stays, or is one that it was told
abbrev pub ConfigFrom : ClientState → Body → ClientState → Type 0
ConfigFrom cl b k = (k.config ≡ cl.config) ⊎ (b ≡ body.Configuration k.config)

module _ (n : ℕ) (from : NodeId) (b : Body) (cl : ClientState) where
  pub record Told (r : Moved ClientState) : Type 0 where
    pub hears : Hears cl r
    pub config : ConfigFrom cl b r.state
    pub refused : r.refused ≡ 0

  same : Told (quiet cl)
  same = record { hears = Keeps refl refl refl; config = inl refl; refused = refl }

  module _ (id : RequestId) (p : Pending) (found : with_id id cl.pending ≡ Some p) where
    changes : (new : Pending) → new.request ≡ p.request → Told (quiet (with_pending cl new))
    changes new is = record { hears = Changes id p new found is refl refl refl; config = inl refl; refused = refl }

    completes : (a : Answer) (by : Option Capture) (own : RequestId) → own ≡ p.request.id
        → Told (completes_with cl own a by)
    completes a by own is = record { hears = Completes id p (record { id = own; answer = a; by = by }) found is refl refl refl; config = inl refl; refused = refl }

    evidence : (new : Pending) → new.request ≡ p.request → Told (with_evidence cl new)
    evidence new is = go (proved_answer new)
      where
        go : (o : Option Early) → Told (if_proved cl new o)
        go None = changes new is
        go (Some e) = completes e.answer None new.request.id (ap (λ (x : _). x.id) is)

    sight : (new : Pending) → new.request ≡ p.request → Told (with_sight cl new)
    sight new is = go (seen_glimpse new)
      where
        go : (o : Option Glimpse) → Told (if_seen cl new o)
        go None = changes new is
        go (Some g) = completes g.answer _ new.request.id (ap (λ (x : _). x.id) is)

    asked : (o : Option Attempt) → Told (asks n cl p o)
    asked None = same
    asked (Some a) = record { hears = Changes id p (record p { asked = true }) found refl refl refl refl; config = inl refl; refused = refl }

    asked_value : (o : Option Attempt) → Told (asks_value n cl p o)
    asked_value None = same
    asked_value (Some a) = record { hears = Changes id p (record p { asked = true }) found refl refl refl refl; config = inl refl; refused = refl }

  -- what is found has that id
  found_is : (id : RequestId) (p : Pending) → with_id id cl.pending ≡ Some p → id ≡ p.request.id
  found_is id p found = sym (same_id-true p.request.id id (first_found (λ (q : Pending). same_id q.request.id id) cl.pending p found))
    where
      first_found : (t : Pending → Bool) (ps : List Pending) (q : Pending) → first_of (filter t ps) ≡ Some q
          → t q ≡ true
      first_found t [] q e = absurd cc
      first_found t (x ∷ xs) q e = go (t x) refl (first_found t xs q) e
        where
          go : (k : Bool) → t x ≡ k → (first_of (filter t xs) ≡ Some q → t q ≡ true)
              → first_of (cond k (x ∷ filter t xs) (filter t xs)) ≡ Some q → t q ≡ true
          go true is more e = (let one : x ≡ q = cc in subst (λ (y : Pending). t y ≡ true) one is)
          go false is more e = more e

  replied_told : (r : Reply) (o : Option Pending) → with_id r.id cl.pending ≡ o → Told (replied cl from r o)
  replied_told r None found = same
  replied_told r (Some p) found = cond_both (not (is_update p.request.command)) _ _ Told (λ y. same)
      (λ z. cond_both r.synced _ _ Told (λ y. completes r.id p found r.answer None r.id (found_is r.id p found)) (λ u. evidence r.id p found (record p { early = with_early p.early (early_reply from r) }) refl))

  accepted_told : (a : Accepted) (o : Option Pending) → with_id a.id cl.pending ≡ o → Told (accepted cl from a o)
  accepted_told a None found = same
  accepted_told a (Some p) found = cond_both (is_update p.request.command) _ _ Told
      (λ y. evidence a.id p found (record p { accepts = with_accept p.accepts (record { witness = from; epoch = a.epoch }) }) refl) (λ z. same)

  valued_told : (v : Worth) (o : Option Pending) → with_id v.id cl.pending ≡ o → Told (valued cl from v o)
  valued_told v None found = same
  valued_told v (Some p) found = cond_both (is_update p.request.command) _ _ Told (λ y. same) (λ z. completes v.id p found v.answer _ v.id (found_is v.id p found))

  glimpsed_told : (q : Quick) (o : Option Pending) → with_id q.id cl.pending ≡ o → Told (glimpsed cl from q o)
  glimpsed_told q None found = same
  glimpsed_told q (Some p) found = cond_both (is_update p.request.command) _ _ Told (λ y. same)
      (λ z. sight q.id p found (record p { glimpses = with_glimpse p.glimpses (glimpse from q) }) refl)

  probed_told : (a : Probed) (o : Option Pending) → with_id a.id cl.pending ≡ o → Told (probed n cl from a o)
  probed_told a None found = same
  probed_told a (Some p) found = cond_both (is_update p.request.command) _ _ Told (λ y. same) (λ z. cond_both a.live _ _ Told
      (λ y. sight a.id p found (record p { lives = with_accept p.lives (record { witness = from; epoch = a.epoch }) }) refl)
      (λ u. cond_both p.asked _ _ Told (λ y. same) (λ v. asked_value a.id p found (last_of p.attempts))))

  rejected_told : (id : RequestId) (o : Option Pending) → with_id id cl.pending ≡ o → Told (rejected n cl o)
  rejected_told id None found = same
  rejected_told id (Some p) found = cond_both (not (is_update p.request.command)) _ _ Told (λ y. same)
      (λ z. cond_both p.asked _ _ Told (λ y. same) (λ u. asked id p found (last_of p.attempts)))

  configured_told : (config : Config) → b ≡ body.Configuration config → Told (quiet (configured cl config))
  configured_told config is = cond_both (nat_lt cl.config.serial config.serial) _ _ (λ (k : ClientState). Told (quiet k)) (λ y. record { hears = Keeps refl refl refl; config = inr is; refused = refl }) (λ z. same)

  heard : (c : Body) → b ≡ c → Told (on_client n cl from c)
  unfolding on_client
  heard (body.Reply r) is = replied_told r (with_id r.id cl.pending) refl
  heard (body.Accepted a) is = accepted_told a (with_id a.id cl.pending) refl
  heard (body.Worth v) is = valued_told v (with_id v.id cl.pending) refl
  heard (body.Quick q) is = glimpsed_told q (with_id q.id cl.pending) refl
  heard (body.Probed a) is = probed_told a (with_id a.id cl.pending) refl
  heard (body.Rejected r) is = rejected_told r.id (with_id r.id cl.pending) refl
  heard (body.Configuration config) is = configured_told config is
  heard _ is = same

  -- a message comes
  pub client_told : Told (on_client n cl from b)
  client_told = heard b refl

-- ---- whatever comes

-- its last number rises by one at most, and its configuration is as it was or was told
pub record ClientGoes (cl : ClientState) (given : Input) (k : ClientState) : Type 0 where
  pub last : k.last ≤ cl.last + 1
  pub config : (k.config ≡ cl.config) ⊎ ((m : _) × (given ≡ input.Message m) × (m.body ≡ body.Configuration k.config))

module _ (n : ℕ) (cl : ClientState) where
  stays : (given : Input) → ClientGoes cl given cl
  stays given = record { last = omega arith; config = inl refl }

  invoked : (command : Command) (given : Input) (r : Result PartConfig ℕ)
      → ClientGoes cl given (unless_refused cl (sends_first n cl (next_request n cl command)) r).state
  invoked command given (Ok c) = record { last = omega arith; config = inl refl }
  invoked command given (Err number) = stays given

  ordered : (order : Local) → IsServed (input.Local order)
      → ClientGoes cl (input.Local order) (client_ordered n cl order).state
  unfolding client_ordered invoke
  ordered (local.Invoke command) its = invoked command _ (invocation_for cl command)
  ordered local.Fetch its = stays _
  ordered local.Sync its = stays _
  ordered local.Collect its = stays _
  ordered (local.Recover part backup witness) its = stays _
  ordered (local.Retry seq) its = absurd its
  ordered (local.Replace kind part place) its = absurd its
  ordered (local.Migrate lo hi to) its = absurd its
  ordered local.Nudge its = absurd its
  ordered (local.Expire client) its = absurd its

  last_of_heard : (r : Moved ClientState) → Hears cl r → r.state.last ≡ cl.last
  last_of_heard r (Keeps last pending none) = last
  last_of_heard r (Changes id p new found is last pending none) = last
  last_of_heard r (Completes id p done found is last pending some) = last

  -- an input that a served run gives
  pub client_goes : (given : Input) → IsServed given → ClientGoes cl given (client_input n cl given).state
  client_goes (input.Local order) its = ordered order its
  client_goes (input.Message m) its =
      let told = client_told n m.from m.body cl in
      record {
        last = let same = last_of_heard (on_client n cl m.from m.body) told.hears in omega (arith, same);
        config = elim told.config [ inl is ↦ inl is | inr is ↦ inr (m, refl, is) ];
      }
