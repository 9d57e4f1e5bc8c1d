-- The effect of each input on a client.
use Rattle.std.proofs.Common.{◌≡◌, inl, inr, ℕ, ◌-◌, ◌^◌, Bool, true, false, not, List, [], ◌∷◌, ◌++◌, length, map, nat_le, nat_lt, append-nil, Option, Some, None, refl, ap, sym, subst, arith}
use Rattle.std.specs.Prelude.{Result, Ok}
use Rattle.std.specs.Option.{ok_or}
use Rattle.std.proofs.lemmas.Bool.{cond_both, not-false}
use Rattle.curp_base.specs.Cases.{◌>>=◌, refuse_if}
use Rattle.curp_base.specs.Words.{At, Each, last_of}
use Rattle.curp_base.proofs.Lists.{Each-append, Each-at, Each-from_at, Each-map, Each-filter}
use Rattle.curp_cmd.specs.Hash.{hashes}
use Rattle.curp_cmd.specs.Node.{client_node}
use Rattle.curp_cmd.specs.Store.{is_update}
use Rattle.curp_cmd.specs.declared.command.Answer.{Answer}
use Rattle.curp_cmd.specs.declared.command.Command.{Command}
use Rattle.curp_cmd.specs.declared.command.Request.{Request}
use Rattle.curp_cmd.specs.declared.command.RequestId.{RequestId}
use Rattle.curp_cmd.specs.declared.node.NodeId.{NodeId}
use Rattle.curp_msg.specs.Moved.{Moved, quiet, sends, says, unless_refused}
use Rattle.curp_msg.specs.declared.body.Accepted.{Accepted}
use Rattle.curp_msg.specs.declared.body.Body.{Body}
use Rattle.curp_msg.specs.declared.body.Body.TheVariants as body
use Rattle.curp_msg.specs.declared.body.Rejected.{Rejected}
use Rattle.curp_msg.specs.declared.body.Reply.{Reply}
use Rattle.curp_msg.specs.declared.body.Worth.{Worth}
use Rattle.curp_msg.specs.declared.config.Config.{Config}
use Rattle.curp_msg.specs.declared.config.PartConfig.{PartConfig}
use Rattle.curp_msg.specs.declared.machine.Capture.{Capture}
use Rattle.curp_msg.specs.Input.{Input}
use Rattle.curp_msg.specs.Input as input
use Rattle.curp_msg.specs.declared.machine.Local.{Local}
use Rattle.curp_msg.specs.declared.machine.Local.TheVariants as local
use Rattle.curp_msg.specs.declared.message.Message.{Message}
use Rattle.curp_order.specs.Order.{IsHistory}
use Rattle.curp_order.specs.declared.Event.{Event}
use Rattle.curp_order.specs.declared.Event.TheVariants.{Invoke}
use Rattle.curp_model.specs.Client.{Attempt, ClientState, Early, Pending, Resent, accepted, asks, attempt_at, client_input, client_ordered, completes_with, configured, early_reply, fetch, if_proved, invoke, most_pending, next_id, next_request, on_client, owner_of, proved_answer, rejected, replied, retry, sends_again, sends_first, sent_by, valued, with_accept, with_early, with_evidence, with_id, with_pending, Glimpse, asks_value, glimpse, glimpsed, if_seen, probed, seen_glimpse, with_glimpse, with_sight}
use Rattle.curp_model.specs.Ranges.{owns_all}
use Rattle.curp_model.specs.World.{completion}
use Rattle.curp_facts.specs.Facts.{IsAmong}
use Rattle.curp_facts.specs.Evidence.{AcceptCame, EarlyCame, EvidenceOk, IsAttempt, KnowledgeOk, GlimpseCame, LiveCame}
use Rattle.curp_law_kept.specs.ClientEffect.{ClientEffect, ClientSays, InputSuitsClient, MayComplete, SuitsClient, events_after}
use Rattle.curp_facts.specs.ClientNumbers.{IsAsked, ClientNumbersOk}
use Rattle.curp_law_kept.proofs.Evidence.{accepts_each, early_each, proved_ok, glimpses_each, seen_ok}
use Rattle.curp_law_kept.proofs.ImagesOfLists.{first_at, last_at}
use Rattle.curp_law_kept.proofs.Numbers.{fresh_asked, history_completed, history_invoked, numbers_changed, numbers_completed, numbers_invoked, waiting}
use Rattle.curp_law_kept.proofs.PendingLists.{each_replaced, found}
use Rattle.curp_msg.specs.declared.body.Quick.{Quick}
use Rattle.curp_msg.specs.declared.body.Probed.{Probed}
use Rattle.curp_msg.specs.declared.script.Protocol.{Protocol}
use Rattle.curp_msg.specs.declared.script.Protocol.TheVariants.{One, Two}
use Rattle.curp_base.proofs.Numbered.{filter_at}

each_among : {A B : Type 0} (P : B → Type 0) (f : A → B) (xs : List A) → ((x : A) → IsAmong x xs → P (f x)) → Each P (map f xs)
each_among {A} P f xs each = Each-map P f xs (Each-from_at (λ (x : A). P (f x)) xs (λ k x at. each x (record { place = k; stands = at })))

module _ (Came : NodeId → Body → Type 0) (Adopted : PartConfig → Type 0) (n : ℕ) (events : List Event) (c : ClientState) (history : IsHistory events) (numbers : ClientNumbersOk n events c) (knows : KnowledgeOk Came Adopted c) where
  -- an effect with that history after it
  abbrev Eff : List Event → Moved ClientState → Type 0
  Eff later r = ClientEffect Came Adopted n later c r

  -- where nothing is invoked
  abbrev Heard : Moved ClientState → Type 0
  Heard r = Eff (events ++ completion r.completed) r

  evidence_of : (k : ℕ) (p : Pending) → At c.pending k p → EvidenceOk Came Adopted p
  evidence_of k p at = Each-at (EvidenceOk Came Adopted) c.pending knows.pending k p at

  asked_of : (k : ℕ) (p : Pending) → At c.pending k p → IsAsked n events p.request
  asked_of k p at = (waiting n events c numbers k p at).asked

  -- ---- three moves

  unfinished : (d : ClientState) (out : List Message) → ClientNumbersOk n events d → KnowledgeOk Came Adopted d → Each (ClientSays Adopted n events) out → Heard (sends d out)
  unfinished d out ok known said =
      subst (λ (later : List Event). Eff later (sends d out)) (sym (append-nil events)) (record { history = history; numbers = ok; knows = known; says = said; completes = tt })

  rests : Heard (quiet c)
  rests = unfinished c [] numbers knows tt

  -- one pending request has changed
  changes : (k : ℕ) (p q : Pending) → At c.pending k p → p.request ≡ q.request → EvidenceOk Came Adopted q → (out : List Message) → Each (ClientSays Adopted n events) out → Heard (sends (with_pending c q) out)
  changes k p q at same ok out said =
      unfinished (with_pending c q) out (numbers_changed n events c numbers k p q at same)
      (record { config = knows.config; pending = each_replaced (EvidenceOk Came Adopted) q c.pending ok knows.pending }) said

  -- a pending request completes
  completing : (k : ℕ) (p : Pending) → At c.pending k p → (id : RequestId) (a : Answer) (by : Option Capture) → p.request.id ≡ id → MayComplete Came Adopted c (Some (record { id = id; answer = a; by = by })) → Heard (completes_with c id a by)
  completing k p at id a by same ok = record {
    history = history_completed n events c numbers id a k p at same history;
    numbers = numbers_completed n events c numbers id a k p at same;
    knows = record { config = knows.config; pending = Each-filter (EvidenceOk Came Adopted) _ c.pending knows.pending };
    says = tt;
    completes = ok;
  }

  -- ---- evidence comes

  evidence_comes : (k : ℕ) (p q : Pending) → At c.pending k p → p.request ≡ q.request → EvidenceOk Came Adopted q → is_update p.request.command ≡ true → Heard (with_evidence c q)
  evidence_comes k p q at same ok update = go (proved_answer q) refl
    where
      its_id : p.request.id ≡ q.request.id
      its_id = ap (λ (r : Request). r.id) same

      go : (o : Option Early) → proved_answer q ≡ o → Heard (if_proved c q o)
      go None e = changes k p q at same ok [] tt
      go (Some early) e = completing k p at q.request.id early.answer None its_id (record {
        place = k;
        p = p;
        pending = at;
        its_id = its_id;
        evidence = inl (record { is = update; no_capture = refl; evidence = inr (proved_ok Came Adopted q ok early e) });
      })

  reply_comes : (from : NodeId) (r : Reply) → Came from (body.Reply r) → (o : Option Pending) → with_id r.id c.pending ≡ o → Heard (replied c from r o)
  reply_comes from r came None e = rests
  reply_comes from r came (Some p) e =
      let f = found r.id c.pending p e in
      let old = evidence_of f.0 p f.1 in
      cond_both (not (is_update p.request.command)) _ _ Heard (λ y. rests)
      (λ no.
      let update : is_update p.request.command ≡ true = not-false (is_update p.request.command) no in
      cond_both r.synced _ _ Heard
      (λ synced. completing f.0 p f.1 r.id r.answer None f.2 (record {
        place = f.0;
        p = p;
        pending = f.1;
        its_id = f.2;
        evidence = inl (record { is = update; no_capture = refl; evidence = inl (record { from = from; reply = r; came = came; its_id = refl; its_answer = refl; is_synced = synced }) });
      }))
      (λ early. evidence_comes f.0 p (record p { early = with_early p.early (early_reply from r) }) f.1 refl (record {
        attempts = old.attempts;
        early = early_each (EarlyCame Came p.request.id) p.early (early_reply from r) old.early (record { reply = r; came = came; its_id = sym f.2; unsynced = early; epoch = refl; version = refl; answer = refl });
        accepts = old.accepts;
        glimpses = old.glimpses;
        lives = old.lives;
      }) update))

  accept_comes : (from : NodeId) (a : Accepted) → Came from (body.Accepted a) → (o : Option Pending) → with_id a.id c.pending ≡ o → Heard (accepted c from a o)
  accept_comes from a came None e = rests
  accept_comes from a came (Some p) e =
      let f = found a.id c.pending p e in
      let old = evidence_of f.0 p f.1 in
      cond_both (is_update p.request.command) _ _ Heard
      (λ update. evidence_comes f.0 p (record p { accepts = with_accept p.accepts (record { witness = from; epoch = a.epoch }) }) f.1 refl (record {
        attempts = old.attempts;
        early = old.early;
        accepts = accepts_each (AcceptCame Came p.request.id) p.accepts (record { witness = from; epoch = a.epoch }) old.accepts
            (subst (λ (id : RequestId). Came from (body.Accepted (record { id = id; epoch = a.epoch }))) (sym f.2) came);
        glimpses = old.glimpses;
        lives = old.lives;
      }) update)
      (λ no. rests)

  value_comes : (from : NodeId) (v : Worth) → Came from (body.Worth v) → (o : Option Pending) → with_id v.id c.pending ≡ o → Heard (valued c from v o)
  value_comes from v came None e = rests
  value_comes from v came (Some p) e =
      let f = found v.id c.pending p e in
      cond_both (is_update p.request.command) _ _ Heard (λ update. rests)
      (λ read. completing f.0 p f.1 v.id v.answer (Some (record { master = from; epoch = v.epoch; number = v.capture })) f.2 (record {
        place = f.0;
        p = p;
        pending = f.1;
        its_id = f.2;
        evidence = inr (record { is = read; evidence = inl (record { from = from; value = v; came = came; its_id = refl; its_answer = refl; its_capture = refl }) });
      }))

  -- ---- a Quick, and what a witness says to a probe

  sight_comes : (k : ℕ) (p q : Pending) → At c.pending k p → p.request ≡ q.request → EvidenceOk Came Adopted q → is_update p.request.command ≡ false → Heard (with_sight c q)
  sight_comes k p q at same ok read = go (seen_glimpse q) refl
    where
      its_id : p.request.id ≡ q.request.id
      its_id = ap (λ (r : Request). r.id) same

      go : (o : Option Glimpse) → seen_glimpse q ≡ o → Heard (if_seen c q o)
      go None e = changes k p q at same ok [] tt
      go (Some g) e = completing k p at q.request.id g.answer (Some (record { master = g.master; epoch = g.epoch; number = g.capture })) its_id (record {
        place = k;
        p = p;
        pending = at;
        its_id = its_id;
        evidence = inr (record { is = read; evidence = inr (seen_ok Came Adopted q ok g e) });
      })

  quick_comes : (from : NodeId) (q : Quick) → Came from (body.Quick q) → (o : Option Pending) → with_id q.id c.pending ≡ o → Heard (glimpsed c from q o)
  quick_comes from q came None e = rests
  quick_comes from q came (Some p) e =
      let f = found q.id c.pending p e in
      let old = evidence_of f.0 p f.1 in
      cond_both (is_update p.request.command) _ _ Heard (λ update. rests)
      (λ read. sight_comes f.0 p (record p { glimpses = with_glimpse p.glimpses (glimpse from q) }) f.1 refl (record {
        attempts = old.attempts;
        early = old.early;
        accepts = old.accepts;
        glimpses = glimpses_each (GlimpseCame Came p.request.id) p.glimpses (glimpse from q) old.glimpses (record { quick = q; came = came; its_id = sym f.2; epoch = refl; version = refl; capture = refl; answer = refl });
        lives = old.lives;
      }) read)

  asks_value_again : (k : ℕ) (p : Pending) → At c.pending k p → is_update p.request.command ≡ false → (o : Option Attempt) → last_of p.attempts ≡ o → Heard (asks_value n c p o)
  asks_value_again k p at read None e = rests
  asks_value_again k p at read (Some a) e =
      let old = evidence_of k p at in
      let l = last_at p.attempts a e in
      let went = Each-at (IsAttempt Adopted) p.attempts old.attempts l.0 a l.1 in
      changes k p (record p { asked = true }) at refl (record { attempts = old.attempts; early = old.early; accepts = old.accepts; glimpses = old.glimpses; lives = old.lives })
      (says (client_node n) a.master (body.Read (record { request = p.request; epoch = a.epoch; version = a.version })) ∷ []) (
        record {
          sender = refl;
          says_so = (
            record {
              asked = asked_of k p at;
              part = went.part;
              adopted = went.adopted;
              addressed = ap (λ (x : Attempt). x.master) went.is;
              epoch = ap (λ (x : Attempt). x.epoch) went.is;
              version = ap (λ (x : Attempt). x.version) went.is;
            },
            read,
          );
        },
        tt,
      )

  probed_comes : (from : NodeId) (a : Probed) → Came from (body.Probed a) → (o : Option Pending) → with_id a.id c.pending ≡ o → Heard (probed n c from a o)
  probed_comes from a came None e = rests
  probed_comes from a came (Some p) e =
      let f = found a.id c.pending p e in
      let old = evidence_of f.0 p f.1 in
      cond_both (is_update p.request.command) _ _ Heard (λ update. rests)
      (λ read. cond_both a.live _ _ Heard
      (λ live. sight_comes f.0 p (record p { lives = with_accept p.lives (record { witness = from; epoch = a.epoch }) }) f.1 refl (record {
        attempts = old.attempts;
        early = old.early;
        accepts = old.accepts;
        glimpses = old.glimpses;
        lives = accepts_each (LiveCame Came p.request.id) p.lives (record { witness = from; epoch = a.epoch }) old.lives (same_live a p.request.id f.2 live came);
      }) read)
      (λ no. cond_both p.asked _ _ Heard (λ y. rests) (λ y. asks_value_again f.0 p f.1 read (last_of p.attempts) refl)))
    where
      same_live : (a : Probed) (id : RequestId) → id ≡ a.id → a.live ≡ true → Came from (body.Probed a) → Came from (body.Probed (record { id = id; epoch = a.epoch; live = true }))
      same_live a id is live came =
          subst (λ (x : RequestId). Came from (body.Probed (record { id = x; epoch = a.epoch; live = true }))) (sym is)
          (subst (λ (b : Bool). Came from (body.Probed (record { id = a.id; epoch = a.epoch; live = b }))) live came)

  -- ---- a rejection, and a configuration

  asks_again : (k : ℕ) (p : Pending) → At c.pending k p → is_update p.request.command ≡ true → (o : Option Attempt) → last_of p.attempts ≡ o → Heard (asks n c p o)
  asks_again k p at update None e = rests
  asks_again k p at update (Some a) e =
      let old = evidence_of k p at in
      let l = last_at p.attempts a e in
      let went = Each-at (IsAttempt Adopted) p.attempts old.attempts l.0 a l.1 in
      changes k p (record p { asked = true }) at refl (record { attempts = old.attempts; early = old.early; accepts = old.accepts; glimpses = old.glimpses; lives = old.lives })
      (says (client_node n) a.master (body.Sync (record { request = p.request; epoch = a.epoch; version = a.version })) ∷ []) (
        record {
          sender = refl;
          says_so = (
            record {
              asked = asked_of k p at;
              part = went.part;
              adopted = went.adopted;
              addressed = ap (λ (x : Attempt). x.master) went.is;
              epoch = ap (λ (x : Attempt). x.epoch) went.is;
              version = ap (λ (x : Attempt). x.version) went.is;
            },
            update,
          );
        },
        tt,
      )

  rejection_comes : (r : Rejected) → SuitsClient Adopted events (body.Rejected r) → (o : Option Pending) → with_id r.id c.pending ≡ o → Heard (rejected n c o)
  rejection_comes r suits None e = rests
  rejection_comes r suits (Some p) e =
      let f = found r.id c.pending p e in
      let update = suits p.request f.2 (asked_of f.0 p f.1).invoked in
      cond_both (not (is_update p.request.command)) _ _ Heard (λ y. rests) (λ y.
      cond_both p.asked _ _ Heard (λ z. rests) (λ z. asks_again f.0 p f.1 update (last_of p.attempts) refl))

  config_comes : (config : Config) → Each Adopted config.parts → Heard (quiet (configured c config))
  config_comes config all = cond_both (nat_lt c.config.serial config.serial) _ _ (λ (d : ClientState). Heard (quiet d))
      (λ y. unfinished (record c { config = config }) [] (record { pending = numbers.pending; rise = numbers.rise; used = numbers.used; counted = numbers.counted }) (record { config = all; pending = knows.pending }) tt)
      (λ n. rests)

  hears : (from : NodeId) (b : Body) → Came from b → SuitsClient Adopted events b → Heard (on_client n c from b)
  unfolding on_client
  hears from (body.Reply r) came suits = reply_comes from r came (with_id r.id c.pending) refl
  hears from (body.Accepted a) came suits = accept_comes from a came (with_id a.id c.pending) refl
  hears from (body.Worth v) came suits = value_comes from v came (with_id v.id c.pending) refl
  hears from (body.Quick q) came suits = quick_comes from q came (with_id q.id c.pending) refl
  hears from (body.Probed a) came suits = probed_comes from a came (with_id a.id c.pending) refl
  hears from (body.Rejected r) came suits = rejection_comes r suits (with_id r.id c.pending) refl
  hears from (body.Configuration config) came suits = config_comes config suits
  hears from _ came suits = rests

  -- ---- requests are sent

  -- the partition that owns a command is adopted
  owner_adopted : (command : Command) (part : PartConfig) → owner_of c.config command ≡ Some part → Adopted part
  owner_adopted command part e =
      let f = filter_at (λ (p : PartConfig). owns_all p.ranges (hashes command)) c.config.parts 0 part (first_at _ part e) in
      Each-at Adopted c.config.parts knows.config f.0 part f.1

  sent_ok : (later : List Event) (r : Request) (part : PartConfig) → Adopted part → IsAsked n later r → (fast : Bool) (protocol : Protocol) (update : Bool) → is_update r.command ≡ update → Each (ClientSays Adopted n later) (sent_by n fast protocol update r part)
  sent_ok later r part adopted asked true protocol true is = (
    record { sender = refl; says_so = (record { asked = asked; part = part; adopted = adopted; addressed = refl; epoch = refl; version = refl }, is) },
    each_among (ClientSays Adopted n later) (λ (to : NodeId). says (client_node n) to (body.Record (record { request = r; epoch = part.epoch }))) part.witnesses
        (λ to among. record { sender = refl; says_so = (record { asked = asked; part = part; adopted = adopted; addressed = among; epoch = refl }, is) }),
  )
  sent_ok later r part adopted asked false protocol true is = (record { sender = refl; says_so = (record { asked = asked; part = part; adopted = adopted; addressed = refl; epoch = refl; version = refl }, is) }, tt)
  sent_ok later r part adopted asked fast Two false is = (
    record { sender = refl; says_so = (record { asked = asked; part = part; adopted = adopted; addressed = refl; epoch = refl; version = refl }, is) },
    each_among (ClientSays Adopted n later) (λ (to : NodeId). says (client_node n) to (body.Probe (record { id = r.id; epoch = part.epoch }))) part.witnesses
        (λ to among. record { sender = refl; says_so = record { request = r; its_id = refl; asked = asked; reads = is; part = part; adopted = adopted; addressed = among; epoch = refl } }),
  )
  sent_ok later r part adopted asked fast One false is = (record { sender = refl; says_so = (record { asked = asked; part = part; adopted = adopted; addressed = refl; epoch = refl; version = refl }, is) }, tt)

  -- ---- a retry

  resends : (k : ℕ) (p : Pending) → At c.pending k p → (part : PartConfig) → Adopted part → Heard (sends_again n c (p, part))
  resends k p at part adopted =
      let old = evidence_of k p at in
      changes k p (record p { attempts = p.attempts ++ attempt_at part ∷ []; asked = false }) at refl
      (record { attempts = Each-append (IsAttempt Adopted) p.attempts (attempt_at part ∷ []) old.attempts (record { part = part; adopted = adopted; is = refl }, tt); early = old.early; accepts = old.accepts; glimpses = old.glimpses; lives = old.lives })
      (sent_by n c.fast c.protocol (is_update p.request.command) p.request part)
      (sent_ok events p.request part adopted (asked_of k p at) c.fast c.protocol (is_update p.request.command) refl)

  abbrev again_to : Pending → Option PartConfig → Result Resent ℕ
  again_to p o = ok_or o 2 >>= λ (part : PartConfig). Ok (p, part)

  abbrev again_of : Option Pending → Result Resent ℕ
  again_of o = ok_or o 1 >>= λ (p : Pending). again_to p (owner_of c.config p.request.command)

  retries_to : (k : ℕ) (p : Pending) → At c.pending k p → (o : Option PartConfig) → owner_of c.config p.request.command ≡ o → (unless_refused c (sends_again n c) (again_to p o)).refused ≡ 0 → Heard (unless_refused c (sends_again n c) (again_to p o))
  retries_to k p at None e made = absurd (omega (arith, made))
  retries_to k p at (Some part) e made = resends k p at part (owner_adopted p.request.command part e)

  retries_of : (id : RequestId) (o : Option Pending) → with_id id c.pending ≡ o → (unless_refused c (sends_again n c) (again_of o)).refused ≡ 0 → Heard (unless_refused c (sends_again n c) (again_of o))
  retries_of id None e made = absurd (omega (arith, made))
  retries_of id (Some p) e made = let f = found id c.pending p e in retries_to f.0 p f.1 (owner_of c.config p.request.command) refl made

  retries : (seq : ℕ) → (retry n c seq).refused ≡ 0 → Heard (retry n c seq)
  unfolding retry
  retries seq made = retries_of (record { client = n; seq = seq }) (with_id (record { client = n; seq = seq }) c.pending) refl made

  -- ---- an invocation

  module _ (command : Command) where
    abbrev later : List Event
    later = events ++ Invoke (next_id n c) command ∷ []

    abbrev Invokes : Moved ClientState → Type 0
    Invokes r = Eff (later ++ completion r.completed) r

    invokes_at : (part : PartConfig) → Adopted part → Invokes (sends_first n c (next_request n c command) part)
    invokes_at part adopted =
        let r = next_request n c command in
        let new : Pending = record { request = r; attempts = attempt_at part ∷ []; asked = false; early = []; accepts = []; glimpses = []; lives = [] } in
        subst (λ (l : List Event). Eff l (sends_first n c r part)) (sym (append-nil later)) (record {
          history = history_invoked n events c numbers history command;
          numbers = numbers_invoked n events c numbers history command new refl;
          knows = record { config = knows.config; pending = Each-append (EvidenceOk Came Adopted) c.pending (new ∷ []) knows.pending (record { attempts = (record { part = part; adopted = adopted; is = refl }, tt); early = tt; accepts = tt; glimpses = tt; lives = tt }, tt) };
          says = sent_ok later r part adopted (fresh_asked n events c numbers history command) c.fast c.protocol (is_update command) refl;
          completes = tt;
        })

    abbrev place_for : Bool → Bool → Option PartConfig → Result PartConfig ℕ
    place_for many ended o = refuse_if many 1 >>= λ _. refuse_if ended 2 >>= λ _. ok_or o 3

    invokes_by : (many ended : Bool) (o : Option PartConfig) → owner_of c.config command ≡ o
        → (unless_refused c (sends_first n c (next_request n c command)) (place_for many ended o)).refused ≡ 0
        → Invokes (unless_refused c (sends_first n c (next_request n c command)) (place_for many ended o))
    invokes_by true ended o e made = absurd (omega (arith, made))
    invokes_by false true o e made = absurd (omega (arith, made))
    invokes_by false false None e made = absurd (omega (arith, made))
    invokes_by false false (Some part) e made = invokes_at part (owner_adopted command part e)

    invokes : (invoke n c command).refused ≡ 0 → Invokes (invoke n c command)
    unfolding invoke
    invokes made = invokes_by (nat_le most_pending (length c.pending)) (nat_le (2 ^ 32 - 1) c.last) (owner_of c.config command) refl made

  -- ---- any input

  -- nothing is invoked
  uninvoked : (r : Moved ClientState) → Heard r → Eff ((events ++ []) ++ completion r.completed) r
  uninvoked r h = subst (λ (l : List Event). Eff (l ++ completion r.completed) r) (sym (append-nil events)) h

  obeys : (order : Local) → (client_ordered n c order).refused ≡ 0 → Eff (events_after n events c (input.Local order) (client_ordered n c order)) (client_ordered n c order)
  unfolding client_ordered
  obeys (local.Invoke command) made = invokes command made
  obeys (local.Retry seq) made = uninvoked (retry n c seq) (retries seq made)
  obeys local.Fetch made = uninvoked (fetch n c) (unfinished c _ numbers knows (record { sender = refl; says_so = refl }, tt))
  obeys _ made = uninvoked (quiet c) rests

  -- what any input does to a client that isn't refused
  pub client_effect : (given : Input) → InputSuitsClient Came Adopted events given → (client_input n c given).refused ≡ 0
      → ClientEffect Came Adopted n (events_after n events c given (client_input n c given)) c (client_input n c given)
  client_effect (input.Local order) suits made = obeys order made
  client_effect (input.Message m) suits made = uninvoked (on_client n c m.from m.body) (hears m.from m.body suits.0 suits.1)
