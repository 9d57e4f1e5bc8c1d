-- What one input to a serving master does with captures: it takes one read and pushes nothing, or it takes none.
use Rattle.std.proofs.Common.{◌||◌, ◌≡◌, ℕ, ◌+◌, ◌==◌, ◌&&◌, nat_le, nat_lt, Bool, true, false, not, List, [], ◌∷◌, ◌++◌, length, refl, ap, sym, ◌∙◌, subst, Option, Some, None}
use Rattle.std.specs.FinMap as store
use Rattle.std.specs.Bool.{⊤}
use Rattle.std.proofs.lemmas.Bool.{cond_both}
use Rattle.curp_base.specs.Cases.{first_there, only_if}
use Rattle.curp_base.specs.Words.{rises_past}
use Rattle.curp_cmd.specs.Hash.{hashes}
use Rattle.curp_cmd.specs.Node.{is_among}
use Rattle.curp_cmd.specs.Store.{applied}
use Rattle.curp_cmd.specs.declared.command.Answer.TheVariants.{Found}
use Rattle.curp_cmd.specs.declared.command.Command.{Command}
use Rattle.curp_cmd.specs.declared.command.Command.TheVariants.{Get}
use Rattle.curp_cmd.specs.declared.command.Request.{Request}
use Rattle.curp_cmd.specs.declared.node.NodeId.{NodeId}
use Rattle.curp_msg.specs.Moved.{Moved}
use Rattle.curp_msg.specs.declared.answer.AppendAnswer.{AppendAnswer}
use Rattle.curp_msg.specs.declared.answer.AppendAnswer.TheVariants.{Stored}
use Rattle.curp_msg.specs.declared.answer.GcAnswer.{GcAnswer}
use Rattle.curp_msg.specs.declared.answer.GcAnswer.TheVariants.{Suspects}
use Rattle.curp_msg.specs.declared.answer.Refusal.{Refusal}
use Rattle.curp_msg.specs.declared.answer.Refusal.TheVariants as refusal
use Rattle.curp_msg.specs.declared.body.Ask.{Ask}
use Rattle.curp_msg.specs.declared.body.Body.{Body}
use Rattle.curp_msg.specs.declared.body.Body.TheVariants as body
use Rattle.curp_msg.specs.declared.body.Parcel.{Parcel}
use Rattle.curp_msg.specs.declared.body.Prepare.{Prepare}
use Rattle.curp_msg.specs.declared.body.TakeOut.{TakeOut}
use Rattle.curp_msg.specs.declared.machine.Local.{Local}
use Rattle.curp_msg.specs.declared.machine.Local.TheVariants as local
use Rattle.curp_msg.specs.declared.message.Message.{Message}
use Rattle.curp_range.specs.Spans.{is_covered}
use Rattle.curp_model.specs.declared.Check.{Check}
use Rattle.curp_model.specs.declared.Check.TheVariants.{Expired, Stale, Known, New}
use Rattle.curp_model.specs.Log.{LastGive, LastTake, answer_after}
use Rattle.curp_model.specs.Master.{Captured, MasterState, Open, Phase, Switch, Switching, adopted_in, all_have, by_epoch, by_message, by_phase, by_read_check, by_version, carries_out, collect_in, executes, give_after, goes_on, is_clean, is_open, is_ready, last_round, on_appended, on_collected, on_expire, on_give, on_read, on_serving, on_stored, on_take, on_update, prepare_in, prepares, push_take, raised, read_command, read_of, read_refusal, serving_ordered, settle, state_of, stored_on, sync_in, synced, take_after, told_again, treat, treated, treats, unless_it_ends, verdict, captures_read}
use Rattle.curp_model.specs.declared.Verdict.TheVariants.{Deny, Execute, HoldBack, Tell, TellAgain}
use Rattle.curp_model.specs.declared.Verdict.{Verdict}
use Rattle.curp_model.specs.declared.Wish.TheVariants.{AtOnce, WhenSynced}
use Rattle.curp_model.specs.declared.Wish.{Wish}
use Rattle.curp_model.specs.Ranges.{owns_all}
use Rattle.curp_model.specs.Recovery.{MasterStage, Serving}
use Rattle.curp_model.specs.Table.{check, is_gone}
use Rattle.curp_facts.specs.Facts.{IsAmong}
use Rattle.curp_base.proofs.Numbered.{filter_at}

-- a read that the master takes: it has the next number and the length of the log, its hashes are owned, and its answer is that
-- of the log's store
pub record IsCapture (m : MasterState) (c : Captured) : Type 0 where
  pub key : List ℕ
  pub number : c.number ≡ m.captured + 1
  pub long : c.length ≡ length m.log
  pub gets : c.command ≡ Get key
  pub answer : c.answer ≡ Found (store.get (state_of m).store key)
  pub owned : owns_all (state_of m).owned (hashes c.command) ≡ true

-- it gives up captures alone
pub record TakesNone (m k : MasterState) : Type 0 where
  pub stood : (c : Captured) → IsAmong c k.captures → IsAmong c m.captures
  pub captured : k.captured ≡ m.captured

-- it takes one read, and pushes nothing
pub record TakesOne (m k : MasterState) : Type 0 where
  pub c : Captured
  pub its : IsCapture m c
  pub captures : k.captures ≡ m.captures ++ c ∷ []
  pub captured : k.captured ≡ m.captured + 1
  pub log : k.log ≡ m.log

pub data Captures (m k : MasterState) : Type 0 where
  NoRead : TakesNone m k → Captures m k
  OneRead : TakesOne m k → Captures m k

-- the message is no glance
abbrev pub NotGlance : Body → Type 0
NotGlance (body.Glance ask) = ⊥
NotGlance _ = ⊤

-- captures that stay
keeps_all : (m k : MasterState) → k.captures ≡ m.captures → k.captured ≡ m.captured → Captures m k
keeps_all m k same number = NoRead (record { stood = λ c a. subst (IsAmong c) same a; captured = number })

module _ (n : ℕ) (m : MasterState) where
  abbrev pub After : Moved MasterState → Type 0
  After r = Captures m r.state

  pub rests : Captures m m
  rests = keeps_all m m refl refl

  executes_captures : (w : Wish) (r : Request) (clean : Bool) → After (executes n m w r clean)
  executes_captures AtOnce r true = keeps_all m _ refl refl
  executes_captures AtOnce r false = keeps_all m _ refl refl
  executes_captures WhenSynced r true = keeps_all m _ refl refl
  executes_captures WhenSynced r false = keeps_all m _ refl refl

  carries_captures : (w : Wish) (r : Request) (v : Verdict) → After (carries_out n m w r v)
  carries_captures w r (Deny why) = rests
  carries_captures w r (Tell a) = rests
  carries_captures w r (TellAgain a) = rests
  carries_captures w r (HoldBack index) = keeps_all m _ refl refl
  carries_captures w r Execute = executes_captures w r (is_clean m r.command)

  update_captures : (w : Wish) (ask : Ask) → After (on_update n m w ask)
  unfolding on_update
  update_captures w ask = carries_captures w ask.request (verdict m w ask)

  -- ---- reads

  -- what isn't refused is owned
  owned_by : (ask : Ask) (a b c d : Option Refusal) → first_there (a ∷ b ∷ c ∷ d ∷ only_if (not (owns_all (state_of m).owned (hashes ask.request.command))) refusal.NotOwner ∷ []) ≡ None
      → owns_all (state_of m).owned (hashes ask.request.command) ≡ true
  owned_by ask (Some a) b c d none = absurd cc
  owned_by ask None (Some b) c d none = absurd cc
  owned_by ask None None (Some c) d none = absurd cc
  owned_by ask None None None (Some d) none = absurd cc
  owned_by ask None None None None none = go (owns_all (state_of m).owned (hashes ask.request.command)) none
    where
      go : (o : Bool) → first_there (only_if (not o) refusal.NotOwner ∷ []) ≡ None → o ≡ true
      go true e = refl
      go false e = absurd cc

  pub captured_one : (ask : Ask) (key : List ℕ) → ask.request.command ≡ Get key → read_refusal m ask ≡ None → After (captures_read n m ask.request key)
  captured_one ask key same e = OneRead (record {
    c = record {
      number = m.captured + 1;
      id = ask.request.id;
      command = ask.request.command;
      answer = Found (store.get (state_of m).store key);
      length = length m.log;
      round = m.round + 1;
    };
    its = record { key = key; number = refl; long = refl; gets = same; answer = refl; owned = owned_by ask (by_epoch m ask) (by_phase m) (by_read_check (check (state_of m).table ask.request.id)) (by_version m ask) e };
    captures = refl;
    captured = refl;
    log = refl;
  })

  command_captures : (ask : Ask) (c : Command) → ask.request.command ≡ c → After (read_command n m ask c)
  command_captures ask (Get key) same = go (read_refusal m ask) refl
    where
      go : (o : Option Refusal) → read_refusal m ask ≡ o → After (read_of n m ask.request key o)
      go (Some why) e = rests
      go None e = captured_one ask key same e
  command_captures ask _ same = rests

  read_captures : (ask : Ask) → After (on_read n m ask)
  unfolding on_read
  read_captures ask = command_captures ask ask.request.command refl

  -- ---- what backups say

  settle_captures : (k : MasterState) → k.captures ≡ m.captures → k.captured ≡ m.captured → After (settle n k)
  unfolding settle
  settle_captures k same number = NoRead (record {
    stood = λ c a. let f = filter_at (λ (x : Captured). not (is_ready k x)) k.captures a.place c a.stands in subst (IsAmong c) same (record { place = f.0; stands = f.1 });
    captured = number;
  })

  prepares_captures : (k : MasterState) (s : Switch) → k.captures ≡ m.captures → k.captured ≡ m.captured → After (prepares n k s)
  prepares_captures k s same number = cond_both (not s.prepared && all_have k.acknowledged s.backups (length k.log) s.round) _ _ After
      (λ y. keeps_all m _ same number) (λ y. keeps_all m _ same number)

  goes_on_captures : (k : MasterState) (p : Phase) → k.captures ≡ m.captures → k.captured ≡ m.captured → After (goes_on n k p)
  goes_on_captures k Open same number = settle_captures k same number
  goes_on_captures k (Switching s) same number = prepares_captures k s same number

  stored_captures : (from : NodeId) (long round : ℕ) → After (on_stored n m from long round)
  stored_captures from long round = cond_both (is_among from (stored_on m)) _ _ After
      (λ y. goes_on_captures (record m { acknowledged = raised m.acknowledged from long round }) m.phase refl refl) (λ y. rests)

  appended_captures : (from : NodeId) (round : ℕ) (a : AppendAnswer) → After (on_appended n m from round a)
  unfolding on_appended
  appended_captures from round (Stored long) = stored_captures from long round
  appended_captures from round _ = rests

-- ---- suspects

-- captures and their number stay
pub record SameCaptures (m k : MasterState) : Type 0 where
  pub captures : k.captures ≡ m.captures
  pub captured : k.captured ≡ m.captured

treated_same : (m : MasterState) (r : Request) (c : Check) → SameCaptures m (treated m r c)
treated_same m r (Known a index) = record { captures = refl; captured = refl }
treated_same m r (Stale first) = record { captures = refl; captured = refl }
treated_same m r Expired = record { captures = refl; captured = refl }
treated_same m r New = cond_both (owns_all (state_of m).owned (hashes r.command)) _ _ (SameCaptures m) (λ y. record { captures = refl; captured = refl }) (λ y. record { captures = refl; captured = refl })

treat_same : (m : MasterState) (rs : List Request) → SameCaptures m (treat m rs)
treat_same m [] = record { captures = refl; captured = refl }
treat_same m (r ∷ rs) =
    let k = treated m r (check (state_of m).table r.id) in
    let a = treated_same m r (check (state_of m).table r.id) in
    let b = treat_same k rs in
    record { captures = b.captures ∙ a.captures; captured = b.captured ∙ a.captured }

module _ (n : ℕ) (m : MasterState) where
  treats_captures : (rs : List Request) → After n m (treats n m rs)
  treats_captures rs =
      let s = treat_same m rs in
      cond_both (length (treat m rs).log == length m.log) _ _ (After n m) (λ y. keeps_all m _ s.captures s.captured) (λ y. keeps_all m _ s.captures s.captured)

  collected_captures : (a : GcAnswer) → After n m (on_collected n m a)
  unfolding on_collected
  collected_captures (Suspects rs) = cond_both (is_open m.phase) _ _ (After n m) (λ y. treats_captures rs) (λ y. rests n m)
  collected_captures _ = rests n m

  -- ---- what the manager says

  prepare_captures : (p : Prepare) (at : Phase) → After n m (prepare_in n m p at)
  prepare_captures p Open = cond_both (nat_lt m.version p.version) _ _ (After n m) (λ y. keeps_all m _ refl refl) (λ y. rests n m)
  prepare_captures p (Switching s) = cond_both (s.version == p.version) _ _ (After n m) (λ y. keeps_all m _ refl refl) (λ y. rests n m)

  adopted_captures : (version : ℕ) (at : Phase) → After n m (adopted_in n m version at)
  adopted_captures version Open = rests n m
  adopted_captures version (Switching s) = cond_both (s.version == version) _ _ (After n m)
      (λ y. settle_captures n m (record m { version = s.version; backups = s.backups; witnesses = s.witnesses; phase = Open }) refl refl) (λ y. rests n m)

  told_captures : (index : ℕ) (x : Message) → After n m (told_again n m index x)
  told_captures index x = cond_both (nat_lt index (synced m)) _ _ (After n m) (λ y. rests n m) (λ y. keeps_all m _ refl refl)

  push_take_captures : (t : TakeOut) → After n m (push_take n m t)
  push_take_captures t = cond_both (is_covered (state_of m).owned t.lo t.hi) _ _ (After n m) (λ y. keeps_all m _ refl refl) (λ y. rests n m)

  take_captures : (t : TakeOut) (o : Option LastTake) → After n m (take_after n m t o)
  take_captures t None = push_take_captures t
  take_captures t (Some last) = cond_both (t.migration == last.migration) _ _ (After n m) (λ y. told_captures last.index _)
      (λ y. cond_both (nat_lt last.migration t.migration) _ _ (After n m) (λ y. push_take_captures t) (λ y. rests n m))

  give_captures : (g : Parcel) (o : Option LastGive) → After n m (give_after n m g o)
  give_captures g None = keeps_all m _ refl refl
  give_captures g (Some last) = cond_both (nat_le g.migration last.migration) _ _ (After n m) (λ y. told_captures last.index _) (λ y. keeps_all m _ refl refl)

  on_take_captures : (t : TakeOut) → After n m (on_take n m t)
  on_take_captures t = cond_both (is_open m.phase) _ _ (After n m) (λ y. take_captures t (state_of m).taken) (λ y. rests n m)

  on_give_captures : (g : Parcel) → After n m (on_give n m g)
  on_give_captures g = cond_both (is_open m.phase) _ _ (After n m) (λ y. give_captures g (state_of m).given) (λ y. rests n m)

  expire_captures : (client : ℕ) → After n m (on_expire n m client)
  expire_captures client = cond_both (is_gone (state_of m).table client) _ _ (After n m) (λ y. rests n m) (λ y. keeps_all m _ refl refl)

  -- ---- inputs

  ends_captures : (r : Moved MasterState) → After n m r → After n m (unless_it_ends m r)
  ends_captures r g = cond_both (rises_past last_round m.round r.state.round || rises_past last_round m.captured r.state.captured) _ _ (After n m) (λ y. rests n m) (λ y. g)

  message_captures : (from : NodeId) (b : Body) → NotGlance b → After n m (by_message n m from b)
  message_captures from (body.Update ask) one = update_captures n m AtOnce ask
  message_captures from (body.Sync ask) one = update_captures n m WhenSynced ask
  message_captures from (body.Read ask) one = read_captures n m ask
  message_captures from (body.Glance ask) one = absurd one
  message_captures from (body.Appended a) one = appended_captures n m from a.round a.answer
  message_captures from (body.Collected c) one = collected_captures c.answer
  message_captures from (body.Prepare p) one = prepare_captures p m.phase
  message_captures from (body.Adopted a) one = adopted_captures a.version m.phase
  message_captures from (body.TakeOut t) one = on_take_captures t
  message_captures from (body.GiveIn g) one = on_give_captures g
  message_captures from (body.ExpireClient client) one = expire_captures client
  message_captures from _ one = rests n m

  pub serving_captures : (from : NodeId) (b : Body) → NotGlance b → After n m (on_serving n m from b)
  unfolding on_serving
  serving_captures from b one = ends_captures (by_message n m from b) (message_captures from b one)

  sync_captures : (at : Phase) → After n m (sync_in n m at)
  sync_captures Open = keeps_all m _ refl refl
  sync_captures (Switching s) = cond_both s.prepared _ _ (After n m) (λ y. keeps_all m _ refl refl) (λ y. keeps_all m _ refl refl)

  collect_captures : (at : Phase) → After n m (collect_in n m at)
  collect_captures Open = keeps_all m _ refl refl
  collect_captures (Switching s) = rests n m

  pub ordered_captures : (order : Local) → After n m (serving_ordered n m order)
  unfolding serving_ordered
  ordered_captures local.Sync = ends_captures (sync_in n m m.phase) (sync_captures m.phase)
  ordered_captures local.Collect = collect_captures m.phase
  ordered_captures _ = rests n m

-- the same of a master that goes on serving
abbrev pub StageCaptures : MasterStage → MasterStage → Type 0
StageCaptures (Serving m) (Serving k) = Captures m k
StageCaptures _ _ = ⊤
