-- Prepared says what it has to, the first time and later.
use Rattle.std.proofs.Common.{◌≡◌, inl, inr, ℕ, zero, suc, ◌+◌, ◌-◌, ◌==◌, ◌<◌, ◌≤◌, Bool, true, false, List, [], ◌∷◌, ◌++◌, length, nat_lt, drop, take, refl, ap, sym, ◌∙◌, subst, arith, Option, Some}
use Rattle.std.proofs.lemmas.Bool.Decides.{nat_tests}
use Rattle.std.proofs.lemmas.List.{drop_all, length-drop, take_all}
use Rattle.curp_base.specs.Words.{At, Each, IsPrefix, numbered}
use Rattle.curp_base.proofs.Lists.{Each-at, Each-from_at, at_within, prefix_self}
use Rattle.curp_cmd.specs.Node.{manager_node, master_node}
use Rattle.curp_cmd.specs.declared.entry.Entry.{Entry}
use Rattle.curp_cmd.specs.declared.node.NodeId.{NodeId}
use Rattle.curp_msg.specs.Moved.{says, sends}
use Rattle.curp_msg.specs.declared.body.Body.{Body}
use Rattle.curp_msg.specs.declared.body.Body.TheVariants as body
use Rattle.curp_msg.specs.declared.message.Message.{Message}
use Rattle.curp_model.specs.Backup.{BackupState}
use Rattle.curp_model.specs.Master.{MasterState, Switch, Switching}
use Rattle.curp_model.specs.Named.{IsBackup, IsMaster}
use Rattle.curp_model.specs.Recovery.{Serving}
use Rattle.curp_model.specs.World.{World, messages}
use Rattle.curp_facts.specs.Facts.{FirstPrepared, IsAmong, IsGiven, IsOnlyExpire, LengthAt, Lists, Logged, PreparedOk, ReachesTo, WasSent}
use Rattle.curp_facts.specs.Nodes.{HasSentAll, ServingOk}
use Rattle.curp_facts.specs.Reach.{HasMany}
use Rattle.curp_facts.specs.Said.{AppendSaid}
use Rattle.curp_law_kept.proofs.Apart.{not_both}
use Rattle.curp_facts.specs.Known.{Known}
use Rattle.curp_law_kept.proofs.Known.{said}
use Rattle.curp_law_kept.proofs.MastersHeard.{backup_prefix, one_log, serving_log}
use Rattle.curp_law_kept.proofs.MastersMoves.{MasterStep}
use Rattle.curp_law_kept.proofs.MastersReady.{next_given, no_switch, step_follows}
use Rattle.curp_law_kept.proofs.ManagerWorlds.{sent_now}
use Rattle.curp_law_kept.proofs.Moved.{at_back}
use Rattle.curp_law_kept.specs.Moves.{AppendSays, Begins, HasAcknowledged, IsSaidBy, ListsMove, Prepares, PreparedSays, ServingMove, ServingSays, Stays, TakesUp}
use Rattle.curp_law_kept.proofs.Synced.{acknowledged_many}
use Rattle.curp_law_kept.proofs.Prepared.{prepared_later}
use Rattle.curp_law_kept.proofs.Words.{Follows, given_stays, message_at, one_state}
use Rattle.curp_law_kept.proofs.Acknowledging.{one_switch}

-- ---- lists

-- a beginning that isn't shorter is the whole
pub prefix_whole : {A : Type 0} (xs ys : List A) → IsPrefix xs ys → length ys ≤ length xs → xs ≡ ys
prefix_whole [] [] p long = refl
prefix_whole [] (y ∷ ys) p long = absurd (omega (arith, long))
prefix_whole (x ∷ xs) [] p long = let e = p.is in absurd cc
prefix_whole {A} (x ∷ xs) (y ∷ ys) p long = both p.is (prefix_whole xs ys (record { rest = p.rest; is = tail p.is }) (omega (arith, long)))
  where
    tail : {a b : A} {xs ys : List A} → a ∷ xs ≡ b ∷ ys → xs ≡ ys
    tail e = cc

    both : x ∷ (xs ++ p.rest) ≡ y ∷ ys → xs ≡ ys → x ∷ xs ≡ y ∷ ys
    both e f = cc

-- the first place of which a test holds
pub record FirstAt {A : Type 0} (test : A → Bool) (xs : List A) : Type 0 where
  pub place : ℕ
  pub x : A
  pub stands : At xs place x
  pub holds : test x ≡ true
  pub first : (k : ℕ) (z : A) → k < place → At xs k z → test z ≡ false

first_at : {A : Type 0} (test : A → Bool) (xs : List A) (k : ℕ) (x : A) → At xs k x → test x ≡ true → FirstAt test xs
first_at test [] k x at holds = absurd cc
first_at {A} test (z ∷ xs) k x at holds = go (test z) refl (λ j is. first_at test xs j x is holds) k at
  where
    here : test z ≡ true → FirstAt test (z ∷ xs)
    here e = record { place = 0; x = z; stands = refl; holds = e; first = λ j y low is. absurd (omega (arith, low)) }

    later : test z ≡ false → FirstAt test xs → FirstAt test (z ∷ xs)
    later e f = record { place = suc f.place; x = f.x; stands = f.stands; holds = f.holds; first = first }
      where
        first : (j : ℕ) (y : A) → j < suc f.place → At (z ∷ xs) j y → test y ≡ false
        first zero y low is = let same : z ≡ y = cc in subst (λ (a : A). test a ≡ false) same e
        first (suc j) y low is = f.first j y (omega (arith, low)) is

    go : (b : Bool) → test z ≡ b → ((j : ℕ) → At xs j x → FirstAt test xs) → (k : ℕ) → At (z ∷ xs) k x → FirstAt test (z ∷ xs)
    go true e rest k is = here e
    go false e rest (suc j) is = later e (rest j is)
    go false e rest zero is = let same : z ≡ x = cc in absurd (not_both (sym e ∙ ap test same ∙ holds))

-- it says that lists of that version are prepared
abbrev pub says_prepared : ℕ → Body → Bool
says_prepared version (body.Prepared number) = number == version
says_prepared version _ = false

says_prepared-body : (version : ℕ) (b : Body) → says_prepared version b ≡ true → b ≡ body.Prepared version
says_prepared-body version (body.Prepared number) e = let same : number ≡ version = grind (arith, nat_tests) in ap body.Prepared same
says_prepared-body version _ e = absurd cc

module _ {w v : World} (known : Known w) {n : ℕ} {from : NodeId} {heard : Option Body} {x y : MasterState} {out : List Message} (s : MasterStep w v n from heard (Serving x) (Serving y) out) (version : ℕ) where
  f : Follows w v
  f = step_follows known s

  move : ServingMove w n x from heard (sends y out)
  move = s.move

  before : ServingOk w (master_node n) x
  before = known.inv.masters (master_node n) (Serving x) s.was

  abbrev prepared : Message
  prepared = says (master_node n) manager_node (body.Prepared version)

  sender_says : (i : ℕ) (z : Message) → At out i z → IsSaidBy n (ServingSays w y) z
  sender_says i z at = Each-at (IsSaidBy n (ServingSays w y)) out move.says i z at

  -- what says that these lists are prepared is one message
  is_prepared : (i : ℕ) (z : Message) → At out i z → says_prepared version z.body ≡ true → z ≡ prepared
  is_prepared i z at e = same (sender_says i z at) (says_prepared-body version z.body e)
    where
      same : IsSaidBy n (ServingSays w y) z → z.body ≡ body.Prepared version → z ≡ prepared
      same by b =
          let to : z.to ≡ manager_node = (subst (ServingSays w y z.to) b by.says_so).1 in
          λ i. record { from = by.sender i; to = to i; body = b i }

  own_version : says_prepared version (body.Prepared version) ≡ true
  own_version = grind (arith, nat_tests)

  module _ (t : Switch) (switches : x.phase ≡ Switching t) (its_version : t.version ≡ version) (log : y.log ≡ x.log) (all : Each (HasAcknowledged y (length y.log)) t.backups)
      (unsaid : WasSent w (says (master_node n) manager_node (body.Prepared version)) → ⊥) (now : IsAmong (says (master_node n) manager_node (body.Prepared version)) out) where
    abbrev next : Lists
    next = record { part = x.part; epoch = x.epoch; version = t.version; master = master_node n; backups = t.backups; witnesses = t.witnesses }

    given : IsGiven w (record { part = x.part; epoch = x.epoch; version = t.version; master = master_node n; backups = t.backups; witnesses = t.witnesses })
    given = next_given known s x t before (before.switching t switches)

    earliest : FirstAt (λ (z : Message). says_prepared version z.body) out
    earliest = first_at (λ (z : Message). says_prepared version z.body) out now.place (says (master_node n) manager_node (body.Prepared version)) now.stands own_version

    stands : At (messages v) (length (messages w) + earliest.place) (says (master_node n) manager_node (body.Prepared version))
    stands = (sent_now w v out s.frame.sent {m = says (master_node n) manager_node (body.Prepared version)}
        (record { place = earliest.place; stands = subst (At out earliest.place) (is_prepared earliest.place earliest.x earliest.stands earliest.holds) earliest.stands })).stands

    first : FirstPrepared v (master_node n) version (length (messages w) + earliest.place)
    first = record {
      prepared = stands;
      first = λ i at. elim (at_back w v out s.frame.sent i (says (master_node n) manager_node (body.Prepared version)) at) [
        | inl was ↦ absurd (unsaid (record { place = i; stands = was }))
        | inr h ↦ omega (arith, h.1, no_earlier h.0 h.2 (nat_lt h.0 earliest.place) refl)
      ];
    }
      where
        no_earlier : (j : ℕ) → At out j (says (master_node n) manager_node (body.Prepared version)) → (b : Bool) → nat_lt j earliest.place ≡ b → earliest.place ≤ j
        no_earlier j at true e = let no = earliest.first j (says (master_node n) manager_node (body.Prepared version)) (grind (arith, nat_tests)) at in absurd (not_both (sym no ∙ own_version))
        no_earlier j at false e = grind (arith, nat_tests)

    same_long : length x.log ≡ length y.log
    same_long = ap (λ (es : List Entry). length es) (sym log)

    -- no append reaches further
    most : (i reach : ℕ) → ReachesTo v (master_node n) i reach → reach ≤ length y.log
    most i reach r = elim (at_back w v out s.frame.sent i (says (master_node n) r.to (body.Append r.append)) r.sent) [
      | inl was ↦
          let its : AppendSaid w (master_node n) r.to r.append = said known (master_node n) r.to (body.Append r.append) (record { place = i; stands = was }) in
          let long : length its.holds.l.log ≡ length x.log = ap (λ (z : Logged). length z.log) (one_log w (master_node n) its.holds.l _ its.holds.its_log (serving_log w (master_node n) x s.was)) in
          omega (arith, its.within, long, same_long, r.reach_is)
      | inr h ↦
          let its : AppendSays y r.to r.append = (sender_says h.0 (says (master_node n) r.to (body.Append r.append)) h.2).says_so in
          let long : length r.append.entries ≡ length y.log - r.append.base = ap (λ (es : List Entry). length es) its.entries ∙ length-drop r.append.base y.log in
          omega (arith, long, its.within, r.reach_is)
    ]

    abbrev long_then : LengthAt v (master_node n) (length (messages w) + earliest.place) (length y.log)
    long_then = record { most = λ i reach low r. most i reach r; reached = reached (before.switching t switches).reached }
      where
        reached : HasSentAll w (master_node n) x → (i : ℕ) × (i < length (messages w) + earliest.place) × ReachesTo v (master_node n) i (length y.log)
        reached r = (r.sent.place, omega (arith, at_within (messages w) r.sent.place _ r.sent.stands), record { to = r.to; append = r.append; sent = message_at f r.sent.place _ r.sent.stands; reach_is = r.reaches ∙ same_long })

    whole : take (length y.log) y.log ≡ y.log
    whole = take_all (length y.log) y.log (omega arith)

    on_all : Each (λ node. (b : BackupState) → IsBackup v node b → IsPrefix (take (length y.log) y.log) b.log) t.backups
    on_all = Each-from_at _ t.backups (λ i node at b is. go i node at b is)
      where
        go : (i : ℕ) (node : NodeId) → At t.backups i node → (b : BackupState) → IsBackup v node b → IsPrefix (take (length y.log) y.log) b.log
        go i node at b is =
            let was : IsBackup w node b = record { its_kind = is.its_kind; its_state = subst (λ (bs : List BackupState). numbered bs node.number ≡ Some b) s.backups is.its_state } in
            let prefix : IsPrefix b.log x.log = backup_prefix w _ _ (serving_log w (master_node n) x s.was) b (known.inv.backups _ given node (record { place = i; stands = at }) b was) in
            let many : length y.log ≤ length b.log = Each-at (HasMany w (length y.log)) t.backups (acknowledged_many w y move.acknowledged (length y.log) t.backups all) i node at b was in
            let same : b.log ≡ x.log = prefix_whole b.log x.log prefix (omega (arith, many, same_long)) in
            subst (λ (es : List Entry). IsPrefix es b.log) (same ∙ sym log ∙ sym whole) (prefix_self b.log)

    first_says : PreparedOk v (master_node n) version
    first_says = record {
      lists = next;
      given = given_stays f given;
      its_master = refl;
      its_version = its_version;
      l = record { log = y.log; round = y.round };
      its_log = serving_log v (master_node n) y s.is;
      place = length (messages w) + earliest.place;
      first = first;
      long = length y.log;
      then_long = long_then;
      low = omega arith;
      on_all = on_all;
      since = λ z is below. subst (Each IsOnlyExpire) (rest z is) tt;
    }
      where
        rest : (z : MasterState) → IsMaster v (master_node n) (Serving z) → [] ≡ drop (length y.log) z.log
        rest z is = sym (ap (λ (q : MasterState). drop (length y.log) q.log) (one (one_state _ (Serving z) (Serving y) is.its_state s.is.its_state)) ∙ drop_all (length y.log) y.log (omega arith))
          where
            one : {a b : MasterState} → Serving a ≡ Serving b → a ≡ b
            one e = cc

  -- what is said again was said before
  pub prepared_says : IsAmong (says (master_node n) manager_node (body.Prepared version)) out → PreparedSays y version → PreparedOk v (master_node n) version
  prepared_says now k = go move.lists
    where
      again : WasSent w (says (master_node n) manager_node (body.Prepared version)) → PreparedOk v (master_node n) version
      again sent = prepared_later f known.inv (master_node n) version (said known (master_node n) manager_node (body.Prepared version) sent)

      go : ListsMove n x from heard y out → PreparedOk v (master_node n) version
      go (Stays same backups witnesses phase) = again (subst (λ (number : ℕ). WasSent w (says (master_node n) manager_node (body.Prepared number))) k.its_version ((before.switching k.s (sym phase ∙ k.switches)).prepared k.prepared))
      go (Begins number bs ws came is_open above same backups witnesses phase round) = absurd (not_both (ap (λ (u : Switch). u.prepared) (one_switch y.phase _ k.s phase k.switches) ∙ k.prepared))
      go (TakesUp t a came number switches prepared same backups witnesses phase) = absurd (no_switch phase k.switches)
      go (Prepares t switches unprepared log all same backups witnesses phase says_so) = first_says t switches its_version log all unsaid now
        where
          its_version : t.version ≡ version
          its_version = ap (λ (u : Switch). u.version) (one_switch y.phase _ k.s phase k.switches) ∙ k.its_version

          unsaid : WasSent w (says (master_node n) manager_node (body.Prepared version)) → ⊥
          unsaid sent = elim (before.prepared version sent) [
            | inl low ↦ absurd (omega (arith, low, its_version, (before.switching t switches).above))
            | inr p ↦ absurd (not_both (sym unprepared ∙ ap (λ (u : Switch). u.prepared) (one_switch x.phase t p.0 switches p.1) ∙ p.3))
          ]
