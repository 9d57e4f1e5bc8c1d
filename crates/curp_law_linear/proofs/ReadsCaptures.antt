-- Which captures an input to a serving master adds or gives up, and which values it sends.
use Rattle.std.proofs.Common.{◌||◌, ◌≡◌, ◌⊎◌, inl, inr, ℕ, suc, ◌+◌, ◌≤◌, ◌==◌, ◌&&◌, nat_lt, nat_le, Bool, true, false, cond, not, max, List, [], ◌∷◌, ◌++◌, length, flat_map, map, slice_get, refl, ap, sym, subst, arith, Option, Some, None}
use Rattle.std.specs.Bool.{⊤}
use Rattle.std.specs.BTreeSet.{insert_key}
use Rattle.std.specs.FinMap as store
use Rattle.std.specs.List.{filter}
use Rattle.std.specs.Ordering.{nat_cmp}
use Rattle.std.proofs.lemmas.Bool.{cases_lt, cond_both}
use Rattle.curp_base.specs.Cases.{first_there, only_if}
use Rattle.curp_base.specs.Words.{Each, rises_past}
use Rattle.curp_base.proofs.Lists.{Each-append, Each-weaker, Each-image, Each-images}
use Rattle.curp_cmd.specs.Hash.{hashes}
use Rattle.curp_cmd.specs.Node.{is_among, same_node}
use Rattle.curp_cmd.specs.declared.command.Answer.TheVariants.{Found}
use Rattle.curp_cmd.specs.declared.command.Command.{Command}
use Rattle.curp_cmd.specs.declared.command.Command.TheVariants.{Get}
use Rattle.curp_cmd.specs.declared.command.Request.{Request}
use Rattle.curp_cmd.specs.declared.entry.Entry.{Entry}
use Rattle.curp_cmd.specs.declared.entry.Entry.TheVariants.{Expire, Give, Op, Take}
use Rattle.curp_cmd.specs.declared.node.NodeId.{NodeId}
use Rattle.curp_cmd.proofs.Nodes.{same_node-true}
use Rattle.curp_msg.specs.Moved.{Moved, quiet, sends}
use Rattle.curp_msg.specs.declared.answer.AppendAnswer.{AppendAnswer}
use Rattle.curp_msg.specs.declared.answer.AppendAnswer.TheVariants.{Stored}
use Rattle.curp_msg.specs.declared.answer.GcAnswer.{GcAnswer}
use Rattle.curp_msg.specs.declared.answer.GcAnswer.TheVariants.{Suspects}
use Rattle.curp_msg.specs.declared.answer.Refusal.{Refusal}
use Rattle.curp_msg.specs.declared.answer.Refusal.TheVariants as refusal
use Rattle.curp_msg.specs.declared.body.Appended.{Appended}
use Rattle.curp_msg.specs.declared.body.Ask.{Ask}
use Rattle.curp_msg.specs.declared.body.Body.{Body}
use Rattle.curp_msg.specs.declared.body.Body.TheVariants as body
use Rattle.curp_msg.specs.declared.body.Parcel.{Parcel}
use Rattle.curp_msg.specs.declared.body.Prepare.{Prepare}
use Rattle.curp_msg.specs.declared.body.TakeOut.{TakeOut}
use Rattle.curp_msg.specs.declared.body.Worth.{Worth}
use Rattle.curp_msg.specs.declared.machine.Local.{Local}
use Rattle.curp_msg.specs.declared.machine.Local.TheVariants as local
use Rattle.curp_msg.specs.declared.message.Message.{Message}
use Rattle.curp_range.specs.Spans.{is_covered}
use Rattle.curp_model.specs.Log.{LastGive, LastTake}
use Rattle.curp_model.specs.Master.{Acknowledged, Captured, MasterState, Open, Phase, Switch, Switching, adopted_in, all_have, append_to, begins_round, between, by_message, by_read_check, captures_read, carries_out, collect_in, collects, executes, from_backup, give_after, goes_on, holds_back, is_clean, is_open, is_ready, last_round, marked_free, moved_entry, next_round, on_appended, on_collected, on_expire, on_read, on_serving, on_stored, on_update, prepare_in, prepares, push_take, pushed, raised, read_command, read_of, read_refusal, serving_ordered, settle, state_of, stored_on, sync_in, synced, synced_replies, synced_reply, take_after, told_again, treat, treated, treats, unless_it_ends, value_of, verdict, answers_with}
use Rattle.curp_model.specs.declared.Verdict.TheVariants.{Deny, Execute, HoldBack, Tell, TellAgain}
use Rattle.curp_model.specs.declared.Verdict.{Verdict}
use Rattle.curp_model.specs.declared.Wish.TheVariants.{AtOnce, WhenSynced}
use Rattle.curp_model.specs.declared.Wish.{Wish}
use Rattle.curp_model.specs.Ranges.{owns_all}
use Rattle.curp_model.specs.Table.{check, is_gone}
use Rattle.curp_model.specs.declared.Check.{Check}
use Rattle.curp_model.specs.declared.Check.TheVariants.{Expired, Known, New, Stale}
use Rattle.curp_facts.specs.Facts.{IsAmong}
use Rattle.curp_law_linear.proofs.MastersCaptures.{NotGlance}
use Rattle.curp_cmd.specs.declared.command.RequestId.{RequestId}
use Rattle.curp_law_kept.proofs.Gives.{each_among, filter_among}

-- ---- what an input does

-- a read is captured: under the next number and for the next round, with the value and the length of the log as they are
pub record CapturesRead (m k : MasterState) (c : Captured) : Type 0 where
  pub number : c.number ≡ m.captured + 1
  pub length_is : c.length ≡ length m.log
  pub round : c.round ≡ m.round + 1
  pub key : List ℕ
  pub command : c.command ≡ Get key
  pub answer : c.answer ≡ Found (store.get (state_of m).store key)
  pub owned : owns_all (state_of m).owned (hashes c.command) ≡ true
  pub same_log : k.log ≡ m.log

-- captures stay or are given up, or one comes
pub data CapturesMove (m k : MasterState) : Type 0 where
  Fewer : k.captured ≡ m.captured → Each (λ (c : Captured). IsAmong c m.captures) k.captures → CapturesMove m k
  OneMore : (c : Captured) → k.captured ≡ m.captured + 1 → k.captures ≡ m.captures ++ c ∷ [] → CapturesRead m k c → CapturesMove m k

-- a backup that is heard has stored something as of so late a round
pub record HeardStored (heard : Option Body) (round : ℕ) : Type 0 where
  pub a : Appended
  pub long : ℕ
  pub is : heard ≡ Some (body.Appended a)
  pub stored : a.answer ≡ Stored long
  pub late : round ≤ a.round

-- what is known of a backup's round stays, or it is what the backup says now
abbrev pub RoundMoves : MasterState → NodeId → Option Body → MasterState → Type 0
RoundMoves m from heard k = (node : NodeId) → ((from_backup k.acknowledged node).round ≤ (from_backup m.acknowledged node).round)
    ⊎ ((node ≡ from) × HeardStored heard (from_backup k.acknowledged node).round)

-- a value is that of a capture that is ready
pub record ValueOf (m k : MasterState) (v : Worth) : Type 0 where
  pub c : Captured
  pub waited : IsAmong c m.captures
  pub ready : is_ready k c ≡ true
  pub its_id : v.id ≡ c.id
  pub its_number : v.capture ≡ c.number
  pub its_answer : v.answer ≡ c.answer

-- of a message, if it is a value. No read is answered at once
abbrev pub SaysValue : MasterState → MasterState → Body → Type 0
SaysValue m k (body.Worth v) = ValueOf m k v
SaysValue m k (body.Quick q) = ⊥
SaysValue m k _ = ⊤

-- what an input does to a serving master's captures
pub record ReadsMove (m : MasterState) (from : NodeId) (heard : Option Body) (r : Moved MasterState) : Type 0 where
  pub captures : CapturesMove m r.state
  pub rounds : RoundMoves m from heard r.state
  pub values : Each (λ (x : Message). SaysValue m r.state x.body) r.messages

-- ---- each input

-- the message isn't a value
abbrev NoValue : Body → Type 0
NoValue (body.Worth v) = ⊥
NoValue (body.Quick q) = ⊥
NoValue _ = ⊤

no_value : (m k : MasterState) (b : Body) → NoValue b → SaysValue m k b
no_value m k (body.Worth v) none = absurd none
no_value m k (body.Quick q) none = absurd none
no_value m k _ none = tt

-- the round of another backup stays, and that of this one is the larger of the two
raised_round : (acks : List Acknowledged) (backup : NodeId) (long round : ℕ) (b : NodeId)
    → ((from_backup (raised acks backup long round) b).round ≤ (from_backup acks b).round) ⊎ ((b ≡ backup) × ((from_backup (raised acks backup long round) b).round ≤ round))
raised_round [] backup long round b = go (same_node backup b) refl
  where
    none : Acknowledged
    none = record { backup = b; length = 0; round = 0 }

    go : (t : Bool) → same_node backup b ≡ t → ((cond t (record { backup = backup; length = long; round = round }) none).round ≤ 0)
        ⊎ ((b ≡ backup) × ((cond t (record { backup = backup; length = long; round = round }) none).round ≤ round))
    go true e = inr (sym (same_node-true backup b e), omega arith)
    go false e = inl (omega arith)
raised_round (a ∷ rest) backup long round b = go (same_node a.backup backup) refl (raised_round rest backup long round b)
  where
    more : Acknowledged
    more = record { backup = backup; length = max a.length long; round = max a.round round }

    own : (t : Bool) → same_node backup b ≡ t → ((cond t more (from_backup rest b)).round ≤ (cond t a (from_backup rest b)).round)
        ⊎ ((b ≡ backup) × ((cond t more (from_backup rest b)).round ≤ round))
    own true e = elim (cases_lt a.round round) [
      | inl less ↦ inr (sym (same_node-true backup b e), omega (arith, less))
      | inr most ↦ inl (omega (arith, most))
    ]
    own false e = inl (omega arith)

    Before : Type 0
    Before = ((from_backup (raised rest backup long round) b).round ≤ (from_backup rest b).round) ⊎ ((b ≡ backup) × ((from_backup (raised rest backup long round) b).round ≤ round))

    other : Before → (t : Bool) → ((cond t a (from_backup (raised rest backup long round) b)).round ≤ (cond t a (from_backup rest b)).round)
        ⊎ ((b ≡ backup) × ((cond t a (from_backup (raised rest backup long round) b)).round ≤ round))
    other before true = inl (omega arith)
    other before false = before

    go : (s : Bool) → same_node a.backup backup ≡ s → Before
        → ((from_backup (cond s (more ∷ rest) (a ∷ raised rest backup long round)) b).round ≤ (cond (same_node a.backup b) a (from_backup rest b)).round)
        ⊎ ((b ≡ backup) × ((from_backup (cond s (more ∷ rest) (a ∷ raised rest backup long round)) b).round ≤ round))
    go true e before = subst (λ (z : NodeId). ((cond (same_node backup b) more (from_backup rest b)).round ≤ (cond (same_node z b) a (from_backup rest b)).round)
        ⊎ ((b ≡ backup) × ((cond (same_node backup b) more (from_backup rest b)).round ≤ round))) (sym (same_node-true a.backup backup e)) (own (same_node backup b) refl)
    go false e before = other before (same_node a.backup b)

module _ (n : ℕ) (m : MasterState) (from : NodeId) (heard : Option Body) where
  abbrev Goes : Moved MasterState → Type 0
  Goes r = ReadsMove m from heard r

  all_among : Each (λ (c : Captured). IsAmong c m.captures) m.captures
  all_among = each_among (λ (c : Captured). IsAmong c m.captures) m.captures (λ c a. a)

  -- the captures and what is known of backups are as they were
  record Same (k : MasterState) : Type 0 where
    captures : k.captures ≡ m.captures
    captured : k.captured ≡ m.captured
    acknowledged : k.acknowledged ≡ m.acknowledged

  itself : Same m
  itself = record { captures = refl; captured = refl; acknowledged = refl }

  stays : (k : MasterState) → Same k → CapturesMove m k
  stays k s = Fewer s.captured (subst (λ (cs : List Captured). Each (λ (c : Captured). IsAmong c m.captures) cs) (sym s.captures) all_among)

  same_rounds : (k : MasterState) → k.acknowledged ≡ m.acknowledged → RoundMoves m from heard k
  same_rounds k same node = inl (omega (arith, ap (λ (acks : List Acknowledged). (from_backup acks node).round) same))

  -- where nothing that is said is a value
  plain : (k : MasterState) (out : List Message) → Same k → Each (λ (x : Message). NoValue x.body) out → Goes (sends k out)
  plain k out s none = record {
    captures = stays k s;
    rounds = same_rounds k s.acknowledged;
    values = Each-weaker (λ (x : Message). NoValue x.body) (λ (x : Message). SaysValue m k x.body) (λ x y. no_value m k x.body y) out none;
  }

  pub rests : Goes (quiet m)
  rests = plain m [] itself tt

  pub refused_reads : (id : RequestId) (why : Refusal) → Goes (answers_with n m id why)
  refused_reads id why = plain m _ itself (tt, tt)

  no_appends : (k : MasterState) → Each (λ (x : Message). NoValue x.body) (begins_round n k).messages
  no_appends k = Each-image (λ (x : Message). NoValue x.body) (append_to n (next_round k)) (λ b. tt) (stored_on (next_round k))

  rounds : (k : MasterState) → Same k → Goes (begins_round n k)
  rounds k s = plain (next_round k) (begins_round n k).messages (record { captures = s.captures; captured = s.captured; acknowledged = s.acknowledged }) (no_appends k)

  -- ---- updates

  freed : (k : MasterState) (index : ℕ) (clean : Bool) → Same k → Same (marked_free k index clean)
  freed k index true s = record { captures = s.captures; captured = s.captured; acknowledged = s.acknowledged }
  freed k index false s = s

  holds : (k : MasterState) (index : ℕ) → Same k → Goes (holds_back n k index)
  holds k index s = rounds (record k { held = insert_key nat_cmp k.held index }) (record { captures = s.captures; captured = s.captured; acknowledged = s.acknowledged })

  executes_moves : (wish : Wish) (r : Request) (clean : Bool) → Goes (executes n m wish r clean)
  executes_moves AtOnce r true = plain (marked_free (pushed m r r.first) (length m.log) true) _ (record { captures = refl; captured = refl; acknowledged = refl }) (tt, tt)
  executes_moves AtOnce r false = holds (pushed m r r.first) (length m.log) (record { captures = refl; captured = refl; acknowledged = refl })
  executes_moves WhenSynced r clean = holds (marked_free (pushed m r r.first) (length m.log) clean) (length m.log) (freed (pushed m r r.first) (length m.log) clean (record { captures = refl; captured = refl; acknowledged = refl }))

  carries : (wish : Wish) (r : Request) (x : Verdict) → Goes (carries_out n m wish r x)
  carries wish r (Deny why) = plain m _ itself (tt, tt)
  carries wish r (Tell a) = plain m _ itself (tt, tt)
  carries wish r (TellAgain a) = plain m _ itself (tt, tt)
  carries wish r (HoldBack index) = holds m index itself
  carries wish r Execute = executes_moves wish r (is_clean m r.command)

  update_moves : (wish : Wish) (ask : Ask) → Goes (on_update n m wish ask)
  unfolding on_update
  update_moves wish ask = carries wish ask.request (verdict m wish ask)

  -- ---- reads

  -- a read that isn't refused is of hashes that are owned
  pub unrefused : (ask : Ask) → read_refusal m ask ≡ None → owns_all (state_of m).owned (hashes ask.request.command) ≡ true
  unrefused ask = go (not (ask.epoch == m.epoch)) (not (is_open m.phase)) (by_read_check (check (state_of m).table ask.request.id)) (not (ask.version == m.version)) (owns_all (state_of m).owned (hashes ask.request.command))
    where
      go : (e p : Bool) (c : Option Refusal) (u : Bool) (o : Bool) → first_there (
          only_if e (refusal.Epoch m.epoch)
          ∷ only_if p refusal.Switching
          ∷ c
          ∷ only_if u (refusal.Version m.version)
          ∷ only_if (not o) refusal.NotOwner
          ∷ []) ≡ None → o ≡ true
      go true p c u o is = absurd cc
      go false true c u o is = absurd cc
      go false false (Some why) u o is = absurd cc
      go false false None true o is = absurd cc
      go false false None false true is = refl
      go false false None false false is = absurd cc

  pub captured : (r : Request) (key : List ℕ) → r.command ≡ Get key → owns_all (state_of m).owned (hashes r.command) ≡ true → Goes (captures_read n m r key)
  captured r key its owned =
      let c : Captured = record { number = m.captured + 1; id = r.id; command = r.command; answer = Found (store.get (state_of m).store key); length = length m.log; round = m.round + 1 } in
      let k : MasterState = record m { captures = m.captures ++ c ∷ []; captured = m.captured + 1 } in
      record {
        captures = OneMore c refl refl (record { number = refl; length_is = refl; round = refl; key = key; command = its; answer = refl; owned = owned; same_log = refl });
        rounds = same_rounds (next_round k) refl;
        values = Each-weaker (λ (x : Message). NoValue x.body) (λ (x : Message). SaysValue m (next_round k) x.body) (λ x y. no_value m (next_round k) x.body y) (begins_round n k).messages (no_appends k);
      }

  read_moves : (ask : Ask) → Goes (on_read n m ask)
  unfolding on_read
  read_moves ask = by_command ask.request.command refl
    where
      by_refusal : (key : List ℕ) → ask.request.command ≡ Get key → (o : Option Refusal) → read_refusal m ask ≡ o → Goes (read_of n m ask.request key o)
      by_refusal key its (Some why) is = plain m _ itself (tt, tt)
      by_refusal key its None is = captured ask.request key its (unrefused ask is)

      by_command : (c : Command) → ask.request.command ≡ c → Goes (read_command n m ask c)
      by_command (Get key) its = by_refusal key its (read_refusal m ask) refl
      by_command _ its = rests

  -- ---- settling, and what backups say

  synced_silent : (k : MasterState) (index : ℕ) (o : Option Entry) → Each (λ (x : Message). NoValue x.body) (synced_reply n k index o)
  synced_silent k index (Some (Op r acknowledged)) = (tt, tt)
  synced_silent k index _ = tt

  entry_silent : (e : Entry) → Each (λ (x : Message). NoValue x.body) (moved_entry n e)
  entry_silent (Take migration taken) = (tt, tt)
  entry_silent (Give migration given) = (tt, tt)
  entry_silent _ = tt

  -- those that wait no more have gone, and the values of those that are ready are sent
  module _ (k : MasterState) (same : k.captures ≡ m.captures) where
    abbrev due : List ℕ
    due = filter (λ index. nat_lt index (synced k)) k.held

    abbrev settled_state : MasterState
    settled_state = record k { held = filter (λ index. not (nat_lt index (synced k))) k.held; captures = filter (λ c. not (is_ready k c)) k.captures; settled = synced k }

    abbrev Value : Message → Type 0
    Value x = SaysValue m settled_state x.body

    silent : (out : List Message) → Each (λ (x : Message). NoValue x.body) out → Each Value out
    silent out none = Each-weaker (λ (x : Message). NoValue x.body) Value (λ x y. no_value m settled_state x.body y) out none

    waited : (c : Captured) → IsAmong c k.captures → IsAmong c m.captures
    waited c a = subst (λ (cs : List Captured). IsAmong c cs) same a

    values : (cs : List Captured) → ((c : Captured) → IsAmong c cs → IsAmong c m.captures) → Each Value (map (value_of n k) (filter (is_ready k) cs))
    values [] all = tt
    values (c ∷ cs) all = go (is_ready k c) refl (values cs (λ d a. all d (record { place = suc a.place; stands = a.stands })))
      where
        go : (b : Bool) → is_ready k c ≡ b → Each Value (map (value_of n k) (filter (is_ready k) cs)) → Each Value (map (value_of n k) (cond b (c ∷ filter (is_ready k) cs) (filter (is_ready k) cs)))
        go true e rest = (record { c = c; waited = all c (record { place = 0; stands = refl }); ready = e; its_id = refl; its_number = refl; its_answer = refl }, rest)
        go false e rest = rest

    settled : k.captured ≡ m.captured → RoundMoves m from heard k
        → Goes (sends settled_state (synced_replies n k due ++ map (value_of n k) (filter (is_ready k) k.captures) ++ flat_map (moved_entry n) (between k.settled (synced k) k.log)))
    settled number known = record {
      captures = Fewer number (each_among (λ (c : Captured). IsAmong c m.captures) settled_state.captures (λ c a. waited c (filter_among (λ (c : Captured). not (is_ready k c)) k.captures c a)));
      rounds = known;
      values = Each-append Value (synced_replies n k due ++ map (value_of n k) (filter (is_ready k) k.captures)) (flat_map (moved_entry n) (between k.settled (synced k) k.log))
          (Each-append Value (synced_replies n k due) (map (value_of n k) (filter (is_ready k) k.captures))
          (silent (synced_replies n k due) (Each-images (λ (x : Message). NoValue x.body) (λ index. synced_reply n k index (slice_get k.log index)) (λ index. synced_silent k index (slice_get k.log index)) due))
          (values k.captures (λ c a. waited c a)))
          (silent (flat_map (moved_entry n) (between k.settled (synced k) k.log)) (Each-images (λ (x : Message). NoValue x.body) (moved_entry n) entry_silent (between k.settled (synced k) k.log)));
    }

    settles : k.captured ≡ m.captured → RoundMoves m from heard k → Goes (settle n k)
    unfolding settle
    settles number known = settled number known

  among : (cs : List Captured) → cs ≡ m.captures → Each (λ (c : Captured). IsAmong c m.captures) cs
  among cs same = subst (λ (xs : List Captured). Each (λ (c : Captured). IsAmong c m.captures) xs) (sym same) all_among

  prepares_moves : (k : MasterState) (t : Switch) → k.captures ≡ m.captures → k.captured ≡ m.captured → RoundMoves m from heard k → Goes (prepares n k t)
  prepares_moves k t same number known = cond_both (not t.prepared && all_have k.acknowledged t.backups (length k.log) t.round) _ _ Goes
      (λ y. record { captures = Fewer number (among k.captures same); rounds = known; values = (tt, tt) })
      (λ y. record { captures = Fewer number (among k.captures same); rounds = known; values = tt })

  stored_moves : (a : Appended) (long : ℕ) → heard ≡ Some (body.Appended a) → a.answer ≡ Stored long → Goes (on_stored n m from long a.round)
  stored_moves a long is stored = cond_both (is_among from (stored_on m)) _ _ Goes (λ y. go m.phase) (λ y. rests)
    where
      k : MasterState
      k = record m { acknowledged = raised m.acknowledged from long a.round }

      known : RoundMoves m from heard k
      known node = elim (raised_round m.acknowledged from long a.round node) [
        | inl low ↦ inl low
        | inr new ↦ inr (new.0, record { a = a; long = long; is = is; stored = stored; late = new.1 })
      ]

      go : (p : Phase) → Goes (goes_on n k p)
      go Open = settles k refl refl known
      go (Switching t) = prepares_moves k t refl refl known

  appended_moves : (a : Appended) → heard ≡ Some (body.Appended a) → Goes (on_appended n m from a.round a.answer)
  unfolding on_appended
  appended_moves a is = go a.answer refl
    where
      go : (x : AppendAnswer) → a.answer ≡ x → Goes (on_appended n m from a.round x)
      go (Stored long) e = stored_moves a long is e
      go _ e = rests

  -- ---- suspects

  treated_same : (k : MasterState) (r : Request) (c : Check) → Same k → Same (treated k r c)
  treated_same k r (Known a index) s = record { captures = s.captures; captured = s.captured; acknowledged = s.acknowledged }
  treated_same k r (Stale first) s = record { captures = s.captures; captured = s.captured; acknowledged = s.acknowledged }
  treated_same k r Expired s = record { captures = s.captures; captured = s.captured; acknowledged = s.acknowledged }
  treated_same k r New s = cond_both (owns_all (state_of k).owned (hashes r.command)) _ _ Same (λ y. record { captures = s.captures; captured = s.captured; acknowledged = s.acknowledged }) (λ y. s)

  treat_same : (rs : List Request) (k : MasterState) → Same k → Same (treat k rs)
  treat_same [] k s = s
  treat_same (r ∷ rs) k s = treat_same rs (treated k r (check (state_of k).table r.id)) (treated_same k r (check (state_of k).table r.id) s)

  treats_moves : (rs : List Request) → Goes (treats n m rs)
  treats_moves rs = cond_both (length (treat m rs).log == length m.log) _ _ Goes (λ y. plain (treat m rs) [] (treat_same rs m itself) tt) (λ y. rounds (treat m rs) (treat_same rs m itself))

  collected_moves : (a : GcAnswer) → Goes (on_collected n m a)
  unfolding on_collected
  collected_moves (Suspects rs) = cond_both (is_open m.phase) _ _ Goes (λ y. treats_moves rs) (λ y. rests)
  collected_moves _ = rests

  -- ---- what the manager says

  prepare_moves : (p : Prepare) (at : Phase) → Goes (prepare_in n m p at)
  prepare_moves p Open = cond_both (nat_lt m.version p.version) _ _ Goes (λ y. rounds (record m { phase = _ }) (record { captures = refl; captured = refl; acknowledged = refl })) (λ y. rests)
  prepare_moves p (Switching t) = cond_both (t.version == p.version) _ _ Goes (λ y. rounds m itself) (λ y. rests)

  adopted_moves : (version : ℕ) (at : Phase) → Goes (adopted_in n m version at)
  adopted_moves version Open = rests
  adopted_moves version (Switching t) = cond_both (t.version == version) _ _ Goes
      (λ y. settles (record m { version = t.version; backups = t.backups; witnesses = t.witnesses; phase = Open }) refl refl
      (same_rounds (record m { version = t.version; backups = t.backups; witnesses = t.witnesses; phase = Open }) refl)) (λ y. rests)

  pushes : (es : List Entry) → Goes (begins_round n (record m { log = m.log ++ es }))
  pushes es = rounds (record m { log = m.log ++ es }) (record { captures = refl; captured = refl; acknowledged = refl })

  again_moves : (index : ℕ) (x : Message) → NoValue x.body → Goes (told_again n m index x)
  again_moves index x none = cond_both (nat_lt index (synced m)) _ _ Goes (λ y. plain m (x ∷ []) itself (none, tt)) (λ y. rounds m itself)

  push_take_moves : (t : TakeOut) → Goes (push_take n m t)
  push_take_moves t = cond_both (is_covered (state_of m).owned t.lo t.hi) _ _ Goes (λ y. pushes _) (λ y. rests)

  take_moves : (t : TakeOut) (o : Option LastTake) → Goes (take_after n m t o)
  take_moves t None = push_take_moves t
  take_moves t (Some last) = cond_both (t.migration == last.migration) _ _ Goes (λ y. again_moves last.index _ tt)
      (λ y. cond_both (nat_lt last.migration t.migration) _ _ Goes (λ z. push_take_moves t) (λ z. rests))

  give_moves : (g : Parcel) (o : Option LastGive) → Goes (give_after n m g o)
  give_moves g None = pushes (Give g.migration g.package ∷ [])
  give_moves g (Some last) = cond_both (nat_le g.migration last.migration) _ _ Goes (λ y. again_moves last.index _ tt) (λ y. pushes (Give g.migration g.package ∷ []))

  expire_moves : (client : ℕ) → Goes (on_expire n m client)
  expire_moves client = cond_both (is_gone (state_of m).table client) _ _ Goes (λ y. rests) (λ y. pushes (Expire client ∷ []))

  -- ---- inputs

  ends_moves : (r : Moved MasterState) → Goes r → Goes (unless_it_ends m r)
  ends_moves r g = cond_both (rises_past last_round m.round r.state.round || rises_past last_round m.captured r.state.captured) _ _ Goes (λ y. rests) (λ y. g)

  message_moves : (b : Body) → NotGlance b → heard ≡ Some b → Goes (by_message n m from b)
  message_moves (body.Update ask) one is = update_moves AtOnce ask
  message_moves (body.Sync ask) one is = update_moves WhenSynced ask
  message_moves (body.Read ask) one is = read_moves ask
  message_moves (body.Glance ask) one is = absurd one
  message_moves (body.Appended a) one is = appended_moves a is
  message_moves (body.Collected c) one is = collected_moves c.answer
  message_moves (body.Prepare p) one is = prepare_moves p m.phase
  message_moves (body.Adopted a) one is = adopted_moves a.version m.phase
  message_moves (body.TakeOut t) one is = cond_both (is_open m.phase) _ _ Goes (λ y. take_moves t (state_of m).taken) (λ y. rests)
  message_moves (body.GiveIn g) one is = cond_both (is_open m.phase) _ _ Goes (λ y. give_moves g (state_of m).given) (λ y. rests)
  message_moves (body.ExpireClient client) one is = expire_moves client
  message_moves _ one is = rests

  -- a message that comes to a serving master and is no glance
  pub serving_reads : (b : Body) → NotGlance b → heard ≡ Some b → Goes (on_serving n m from b)
  unfolding on_serving
  serving_reads b one is = ends_moves (by_message n m from b) (message_moves b one is)

  sync_moves : (at : Phase) → Goes (sync_in n m at)
  sync_moves Open = rounds m itself
  sync_moves (Switching t) = cond_both t.prepared _ _ Goes
      (λ y. plain (next_round m) _ (record { captures = refl; captured = refl; acknowledged = refl }) (tt, no_appends m)) (λ y. rounds m itself)

  collect_moves : (at : Phase) → Goes (collect_in n m at)
  collect_moves Open = plain _ (collects n m).messages (record { captures = refl; captured = refl; acknowledged = refl }) (Each-image (λ (x : Message). NoValue x.body) _ (λ to. tt) m.witnesses)
  collect_moves (Switching t) = rests

  -- and an order
  pub ordered_reads : (order : Local) → Goes (serving_ordered n m order)
  unfolding serving_ordered
  ordered_reads local.Sync = ends_moves (sync_in n m m.phase) (sync_moves m.phase)
  ordered_reads local.Collect = collect_moves m.phase
  ordered_reads _ = rests
