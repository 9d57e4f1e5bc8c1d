-- Whatever of five kinds of message comes to a serving master: nothing that it waits for is forgotten.
use Rattle.std.proofs.Common.{◌≡◌, ◌≤◌, ◌⊎◌, ◌==◌, ◌&&◌, ◌||◌, inl, inr, ℕ, ◌+◌, Bool, true, false, not, cond, List, [], ◌∷◌, ◌++◌, length, nat_lt, Option, Some, None, refl, ap, sym, ◌∙◌, subst, arith}
use Rattle.std.specs.Prelude.{if◌then◌else◌}
use Rattle.std.specs.Bool.{⊤}
use Rattle.std.proofs.lemmas.Bool.{cond_both, eq-eqb, ltb-true}
use Rattle.curp_base.specs.Cases.{first_there, only_if}
use Rattle.curp_base.specs.Words.{IsPrefix, rises_past}
use Rattle.curp_base.proofs.Lists.{at_push_cases, prefix_push, prefix_self, prefix_trans}
use Rattle.curp_cmd.specs.Hash.{hashes}
use Rattle.curp_cmd.specs.Store.{is_update}
use Rattle.curp_cmd.specs.declared.command.Command.{Command}
use Rattle.curp_cmd.specs.declared.command.Command.TheVariants as command
use Rattle.curp_cmd.specs.declared.command.Request.{Request}
use Rattle.curp_cmd.specs.declared.command.RequestId.{RequestId}
use Rattle.curp_cmd.specs.declared.entry.Entry.TheVariants.{Op}
use Rattle.curp_cmd.specs.declared.node.NodeId.{NodeId}
use Rattle.curp_msg.specs.Moved.{Moved, quiet, sends, says}
use Rattle.curp_msg.specs.declared.answer.GcAnswer.{GcAnswer}
use Rattle.curp_msg.specs.declared.answer.GcAnswer.TheVariants as gc
use Rattle.curp_msg.specs.declared.answer.Refusal.{Refusal}
use Rattle.curp_msg.specs.declared.answer.Refusal.TheVariants as refusal
use Rattle.curp_msg.specs.declared.body.Ask.{Ask}
use Rattle.curp_msg.specs.declared.body.Body.{Body}
use Rattle.curp_msg.specs.declared.body.Body.TheVariants as body
use Rattle.curp_msg.specs.declared.message.Message.{Message}
use Rattle.curp_model.specs.declared.Check.{Check}
use Rattle.curp_model.specs.declared.Check.TheVariants.{Expired, Stale, Known, New}
use Rattle.curp_model.specs.Master.{Captured, MasterState, Open, Phase, Switching, begins_round, by_message, by_read_check, captures_read, is_open, last_round, on_collected, on_read, on_serving, read_command, read_of, read_refusal, state_of, treat, treated, treats, unless_it_ends}
use Rattle.curp_model.specs.declared.Wish.TheVariants.{AtOnce, WhenSynced}
use Rattle.curp_model.specs.Ranges.{owns_all}
use Rattle.curp_model.specs.Table.{check}
use Rattle.curp_law_served.specs.Ways.{Gives, MasterGoes}
use Rattle.curp_law_served.proofs.Lists.{among_first, among_left, among_right}
use Rattle.curp_law_served.proofs.RoundsWait as rounds
use Rattle.curp_law_served.proofs.RoundsWait.{AllSent, Keeps}
use Rattle.curp_law_served.proofs.Settles as settles
use Rattle.curp_law_served.proofs.Updates as updates
use Rattle.curp_law_served.proofs.Updates.{Wanted}
use Rattle.curp_law_served.proofs.Ways.{NoReply, NoRound}
use Rattle.curp_law_served.specs.Grounds.{Bounded, IsFine, Roomy}

-- ---- suspects

-- what comes of suspects: more entries, and another queue
pub record Treated (m k : MasterState) : Type 0 where
  pub is : k ≡ record m { log = k.log; queue = k.queue }
  pub longer : IsPrefix m.log k.log

treated_trans : (m k l : MasterState) → Treated m k → Treated k l → Treated m l
treated_trans m k l a b = record {
  is = b.is ∙ ap (λ (x : MasterState). record x { log = l.log; queue = l.queue }) a.is;
  longer = prefix_trans a.longer b.longer;
}

treated_one : (m : MasterState) (r : Request) (found : Check) → Treated m (treated m r found)
treated_one m r (Known a index) = record { is = refl; longer = prefix_self m.log }
treated_one m r (Stale first) = record { is = refl; longer = prefix_self m.log }
treated_one m r Expired = record { is = refl; longer = prefix_self m.log }
treated_one m r New = cond_both (owns_all (state_of m).owned (hashes r.command)) _ _ (Treated m)
    (λ y. record { is = refl; longer = prefix_push m.log (Op r 0 ∷ []) })
    (λ n. record { is = refl; longer = prefix_self m.log })

pub treated_all : (m : MasterState) (rs : List Request) → Treated m (treat m rs)
treated_all m [] = record { is = refl; longer = prefix_self m.log }
treated_all m (r ∷ rs) = treated_trans m _ _ (treated_one m r (check (state_of m).table r.id)) (treated_all (treated m r (check (state_of m).table r.id)) rs)

module _ (D E : Message → Type 0) (from to : NodeId) (b : Body) (split : (x : Message) → D x → (x ≡ says from to b) ⊎ E x) (n : ℕ) (m : MasterState) (goes : MasterGoes D n m) (bounded : Bounded m)
    (dull : NoRound b) (silent : NoReply b) where
  says_only : (out : List Message) → Keeps D E n m (sends m out)
  says_only out = rounds.says_only D E from to b split n m goes bounded dull silent out

  -- suspects are treated
  suspects_in : (k : MasterState) → Treated m k
      → AllSent E (if length k.log == length m.log then quiet k else begins_round n k)
      → Keeps D E n m (if length k.log == length m.log then quiet k else begins_round n k)
  suspects_in k t sent = by (length k.log == length m.log) sent
    where
      same_all : (q : Bool) (x : MasterState) → x ≡ record m { log = k.log; queue = k.queue }
          → AllSent E (cond q (quiet x) (begins_round n x)) → Keeps D E n m (cond q (quiet x) (begins_round n x))
      same_all q x e sent = subst (λ (y : MasterState). AllSent E (cond q (quiet y) (begins_round n y)) → Keeps D E n m (cond q (quiet y) (begins_round n y))) (sym e) (here q) sent
        where
          here : (q : Bool)
              → AllSent E (cond q (quiet (record m { log = k.log; queue = k.queue })) (begins_round n (record m { log = k.log; queue = k.queue })))
              → Keeps D E n m (cond q (quiet (record m { log = k.log; queue = k.queue })) (begins_round n (record m { log = k.log; queue = k.queue })))
          here true s = rounds.grows D E from to b split n m goes bounded dull silent k.log m.free k.queue t.longer []
          here false s = rounds.begins D E from to b split n m goes bounded k.log m.held m.captures m.captured m.free k.queue s t.longer dull silent
              (λ j among. among) (λ j among. inl among) (λ c among. among) (λ c among. inl among) (omega arith)

      by : (q : Bool) → AllSent E (cond q (quiet k) (begins_round n k))
          → Keeps D E n m (cond q (quiet k) (begins_round n k))
      by q sent = same_all q k t.is sent

  pub collected : (a : GcAnswer) → AllSent E (on_collected n m a) → Keeps D E n m (on_collected n m a)
  unfolding on_collected
  collected (gc.Suspects rs) sent = by (is_open m.phase) sent
    where
      by : (q : Bool) → AllSent E (cond q (treats n m rs) (quiet m)) → Keeps D E n m (cond q (treats n m rs) (quiet m))
      by true sent = suspects_in (treat m rs) (treated_all m rs) sent
      by false sent = says_only []
  collected (gc.Stranger own) sent = says_only []

  -- ---- reads

  read_captured : (r : Request) (key : List ℕ) → AllSent E (captures_read n m r key)
      → Keeps D E n m (captures_read n m r key)
  read_captured r key sent =
      rounds.begins D E from to b split n m goes bounded m.log m.held (m.captures ++ _ ∷ []) (m.captured + 1) m.free m.queue sent (prefix_self m.log) dull silent
      (λ j among. among) (λ j among. inl among) (λ c among. among_left c m.captures _ among)
      (λ c among. elim (at_push_cases m.captures _ among.place c among.stands) [
        | inl old ↦ inl (record { place = among.place; stands = old })
        | inr new ↦ inr (omega (arith, ap (λ (x : Captured). x.length) new.1), sym (ap (λ (x : Captured). x.round) new.1))
      ])
      (omega arith)

  reads_by : (r : Request) (key : List ℕ) (o : Option Refusal) → AllSent E (read_of n m r key o)
      → Keeps D E n m (read_of n m r key o)
  reads_by r key (Some why) sent = says_only _
  reads_by r key None sent = read_captured r key sent

  pub read : (ask : Ask) → AllSent E (on_read n m ask) → Keeps D E n m (on_read n m ask)
  unfolding on_read
  read ask sent = by ask.request.command sent
    where
      by : (c : Command) → AllSent E (read_command n m ask c) → Keeps D E n m (read_command n m ask c)
      by (command.Get key) sent = reads_by ask.request key (read_refusal m ask) sent
      by _ sent = says_only []

-- ---- each kind

-- what comes to a master of a world that is led to quiet
abbrev pub IsHeard : Body → Type 0
IsHeard (body.Update ask) = ⊤
IsHeard (body.Sync ask) = ⊤
IsHeard (body.Read ask) = ⊤
IsHeard (body.Appended a) = ⊤
IsHeard (body.Collected c) = ⊤
IsHeard _ = ⊥

module _ (n : ℕ) (m : MasterState) (bounded : Bounded m) (serves : m.phase ≡ Open) where
  module _ (D E : Message → Type 0) (from to : NodeId) (goes : MasterGoes D n m) where
    hears : (b : Body) → IsHeard b → ((x : Message) → D x → (x ≡ says from to b) ⊎ E x)
        → AllSent E (by_message n m from b) → Keeps D E n m (by_message n m from b)
    hears (body.Update ask) heard split sent = updates.keeps D E from to (body.Update ask) split n m goes bounded tt tt AtOnce ask sent
    hears (body.Sync ask) heard split sent = updates.keeps D E from to (body.Sync ask) split n m goes bounded tt tt WhenSynced ask sent
    hears (body.Read ask) heard split sent = read D E from to (body.Read ask) split n m goes bounded tt tt ask sent
    hears (body.Appended a) heard split sent = settles.appended D E from to a split n m goes serves sent
    hears (body.Collected c) heard split sent = collected D E from to (body.Collected c) split n m goes bounded tt tt c.answer sent
    hears _ heard split sent = absurd heard

  module _ (roomy : Roomy m) where
    pub unended : (r : Moved MasterState) → r.state.round ≤ m.round + 1 → r.state.captured ≤ m.captured + 1
        → unless_it_ends m r ≡ r
    unended r round captured = by (rises_past last_round m.round r.state.round) (rises_past last_round m.captured r.state.captured)
        (never m.round r.state.round (omega (arith, round, roomy.round))) (never m.captured r.state.captured (omega (arith, captured, roomy.captured)))
      where
        never : (x y : ℕ) → y ≤ last_round → rises_past last_round x y ≡ false
        never x y low = past (nat_lt x y) (nat_lt last_round y) refl
          where
            past : (p q : Bool) → nat_lt last_round y ≡ q → (p && q) ≡ false
            past true true e = absurd (omega (arith, low, ltb-true last_round y e))
            past true false e = refl
            past false q e = refl

        by : (p q : Bool) → p ≡ false → q ≡ false → cond (p || q) (quiet m) r ≡ r
        by false false e f = refl
        by true q e f = absurd cc
        by false true e f = absurd cc

    -- what it does is what it would do if its numbers had no end
    pub never_ends : (D : Message → Type 0) (from to : NodeId) → MasterGoes D n m → (b : Body) → IsHeard b
        → on_serving n m from b ≡ by_message n m from b
    unfolding on_serving
    never_ends D from to goes b heard =
        let k : Keeps D (λ x. Unit {0}) n m (by_message n m from b) = hears D (λ x. Unit {0}) from to goes b heard (λ x d. inr tt) (λ x among. tt) in
        unended (by_message n m from b) k.round k.captured

    pub serving_keeps : (D E : Message → Type 0) (from to : NodeId) → MasterGoes D n m → (b : Body) → IsHeard b
        → ((x : Message) → D x → (x ≡ says from to b) ⊎ E x)
        → AllSent E (on_serving n m from b) → Keeps D E n m (on_serving n m from b)
    serving_keeps D E from to goes b heard split sent =
        let e : on_serving n m from b ≡ by_message n m from b = never_ends D from to goes b heard in
        subst (Keeps D E n m) (sym e) (hears D E from to goes b heard split (subst (AllSent E) e sent))

-- ---- a read waits for its round

not_refused : (E : Message → Type 0) (n : ℕ) (m : MasterState) (r : Request) (key : List ℕ) (o : Option Refusal)
    → o ≡ None → Gives E (read_of n m r key o).state r.id
not_refused E n m r key None e = inr (record { capture = _; waits = among_right _ m.captures (_ ∷ []) (among_first _ []); its_id = refl })
not_refused E n m r key (Some why) e = absurd cc

refuses_nothing : (m : MasterState) (id : RequestId) (epoch opens : Bool) (found : Check) (version owned : Bool)
    → epoch ≡ true → opens ≡ true → IsFine m id found → version ≡ true → owned ≡ true
    → first_there (only_if (not epoch) (refusal.Epoch m.epoch) ∷ only_if (not opens) refusal.Switching ∷ by_read_check found ∷ only_if (not version) (refusal.Version m.version) ∷ only_if (not owned) refusal.NotOwner ∷ []) ≡ None
refuses_nothing m id false opens found version owned e o k v w = absurd cc
refuses_nothing m id true false found version owned e o k v w = absurd cc
refuses_nothing m id true true Expired version owned e o k v w = absurd k
refuses_nothing m id true true (Stale first) version owned e o k v w = absurd k
refuses_nothing m id true true (Known a index) false owned e o k v w = absurd cc
refuses_nothing m id true true (Known a index) true false e o k v w = absurd cc
refuses_nothing m id true true (Known a index) true true e o k v w = refl
refuses_nothing m id true true New false owned e o k v w = absurd cc
refuses_nothing m id true true New true false e o k v w = absurd cc
refuses_nothing m id true true New true true e o k v w = refl

opens_at : (p : Phase) → p ≡ Open → is_open p ≡ true
opens_at Open e = refl
opens_at (Switching s) e = absurd cc

pub read_waits : (E : Message → Type 0) (n : ℕ) (m : MasterState) (ask : Ask) → ask.epoch ≡ m.epoch
    → ask.version ≡ m.version → m.phase ≡ Open → is_update ask.request.command ≡ false
    → IsFine m ask.request.id (check (state_of m).table ask.request.id) → owns_all (state_of m).owned (hashes ask.request.command) ≡ true
    → Gives E (on_read n m ask).state ask.request.id
unfolding on_read
read_waits E n m ask epoch version serves reads fine owns = by ask.request.command reads
  where
    by : (c : Command) → is_update c ≡ false → Gives E (read_command n m ask c).state ask.request.id
    by (command.Get key) e = not_refused E n m ask.request key (read_refusal m ask)
        (refuses_nothing m ask.request.id (ask.epoch == m.epoch) (is_open m.phase) (check (state_of m).table ask.request.id) (ask.version == m.version) (owns_all (state_of m).owned (hashes ask.request.command))
        (eq-eqb ask.epoch m.epoch epoch) (opens_at m.phase serves) fine (eq-eqb ask.version m.version version) owns)
    by _ e = absurd cc
