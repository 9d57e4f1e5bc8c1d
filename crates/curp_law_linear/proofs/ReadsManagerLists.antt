-- What an input to the manager leaves: nodes that were there stay, and lists that are adopted now are of no earlier epoch.
use Rattle.std.proofs.Common.{◌≡◌, ◌⊎◌, inl, inr, ℕ, ◌≤◌, List, [], ◌∷◌, ◌++◌, ap, sym, ◌∙◌, subst, arith, Option, Some}
use Rattle.curp_base.specs.Words.{At, Each, numbered}
use Rattle.curp_base.proofs.Lists.{Each-at, at_append, at_append_cases, at_one, at_replicate}
use Rattle.curp_cmd.specs.Node.{manager_node}
use Rattle.curp_msg.specs.Moved.{Moved, says}
use Rattle.curp_msg.specs.declared.body.Adopted.{Adopted}
use Rattle.curp_msg.specs.declared.body.Body.TheVariants as body
use Rattle.curp_msg.specs.declared.config.PartConfig.{PartConfig}
use Rattle.curp_msg.specs.declared.message.Message.{Message}
use Rattle.curp_order.specs.declared.Event.{Event}
use Rattle.curp_model.specs.Manager.{Attempted, ManagerState, adopted_message}
use Rattle.curp_model.specs.Master.{MasterState}
use Rattle.curp_model.specs.Recovery.{Fresh, Serving}
use Rattle.curp_model.specs.World.{World, grown, messages}
use Rattle.curp_facts.specs.Facts.{ByRecovery, IsAdoptedNow, IsAmong, IsGiven, Lists, WasAdopted, lists_of_order, lists_of_part}
use Rattle.curp_facts.specs.Known.{Known}
use Rattle.curp_law_linear.proofs.ReadsManager.{ManagerSaid}
use Rattle.curp_law_linear.proofs.ReadsPassed.{NewerLists}
use Rattle.curp_facts.specs.Names.{AdoptedOk}
use Rattle.curp_law_kept.proofs.Gives.{Later, given_later, manager_moved, moved_messages, sent_cases}
use Rattle.curp_law_runs.specs.Adopting.{Comes, FromRecovery, FromReplacement}
use Rattle.curp_law_runs.proofs.Gives.{adopted_back, adopted_word, AdoptsOne, IsOld, NoNew, OneNew}
use Rattle.curp_base.proofs.Numbered.{place, at_place}

-- ---- nodes

-- an item that isn't new was there
grown_was : {S : Type 0} (nodes : List S) (fresh x : S) (next n : ℕ) → (fresh ≡ x → ⊥) → numbered (grown nodes fresh next) n ≡ Some x → numbered nodes n ≡ Some x
grown_was nodes fresh x next n other is =
    let p = place (grown nodes fresh next) n x is in
    elim (at_append_cases nodes _ p.0 x p.2) [
      | inl old ↦ at_place nodes p.0 n x p.1 old
      | inr new ↦ absurd (other (at_replicate _ fresh new.0 x new.2).1)
    ]

-- an item that was there stays
grown_stays : {S : Type 0} (nodes : List S) (fresh x : S) (next n : ℕ) → numbered nodes n ≡ Some x → numbered (grown nodes fresh next) n ≡ Some x
grown_stays nodes fresh x next n is = let p = place nodes n x is in at_place (grown nodes fresh next) p.0 n x p.1 (at_append nodes _ p.0 x p.2)

-- an input to the manager moves no other node
pub manager_said : (w : World) (adopted : Option Attempted) (events : List Event) (r : Moved ManagerState) → Each (λ (m : Message). m.from ≡ manager_node) r.messages
    → ManagerSaid w (manager_moved w adopted events r) r.messages
manager_said w adopted events r all = record {
  sent = moved_messages w adopted events r;
  all = all;
  masters = λ node m is. record { its_kind = is.its_kind; its_state = grown_was w.masters Fresh (Serving m) r.state.next.master node.number (λ e. fresh e) is.its_state };
  backups = λ node b is. record { its_kind = is.its_kind; its_state = grown_stays w.backups _ b r.state.next.backup node.number is.its_state };
}
  where
    fresh : {m : MasterState} → Fresh ≡ Serving m → ⊥
    fresh e = cc

-- ---- lists

module _ {w v : World} (known : Known w) (now : Known v) (s : Later w v) (r : Moved ManagerState) (sent : messages v ≡ messages w ++ r.messages) where
  -- lists of an epoch that isn't below those that were adopted for their partition
  abbrev IsNewer : Lists → Type 0
  IsNewer l = (k : Lists) → WasAdopted w k → k.part ≡ l.part → k.epoch ≤ l.epoch

  -- what comes behind the present lists is so
  comes_newer : (m l : Lists) → IsGiven v l → l.master ≡ m.master → Comes w m → IsNewer l
  comes_newer m l given master (FromReplacement present top same) k was part =
      let agree = (now.names.agree present l (given_later s present top.was.given) given).by_master (same ∙ sym master) in
      let low = top.epochs k was (part ∙ sym agree.0) in
      omega (arith, low, agree.1)
  comes_newer m l given master (FromRecovery present top order ok from told) k was part =
      let its : IsGiven v (lists_of_order m.master order) = given_later s (lists_of_order m.master order) (ByRecovery m.master order ok.sent) in
      let agree = (now.names.agree (lists_of_order m.master order) l its given).by_master (sym master) in
      let low = top.epochs k was (part ∙ sym agree.0 ∙ ok.its_part) in
      omega (arith, low, ok.later, agree.1)

  -- the lists that a word of adoption names
  named : (c : PartConfig) → r.messages ≡ adopted_message c ∷ [] → (l : Lists) → IsAmong (says manager_node l.master (body.Adopted (adopted_word l))) r.messages
      → (l.master ≡ c.master) × (l.version ≡ c.version)
  named c is l among =
      let word : Message = says manager_node l.master (body.Adopted (adopted_word l)) in
      let at : At (adopted_message c ∷ []) among.place word = subst (λ (ms : List Message). At ms among.place word) is among.stands in
      let one : adopted_message c ≡ word = (at_one (adopted_message c) among.place word at).1 in
      (sym (ap (λ (m : Message). m.to) one), ap (λ (a : Adopted). a.version) (sym (words (adopted_word (lists_of_part c)) (adopted_word l) (ap (λ (m : Message). m.body) one))))
    where
      words : (a b : Adopted) → body.Adopted a ≡ body.Adopted b → a ≡ b
      words a b e = cc

  -- each list that is adopted now was so, or is told now
  told_cases : (IsNew : Lists → Type 0) → ((c : PartConfig) → r.messages ≡ adopted_message c ∷ [] → Comes w (lists_of_part c) → (l : Lists) → IsGiven v l → l.master ≡ c.master → l.version ≡ c.version → IsNew l)
      → AdoptsOne w r → (l : Lists) → WasAdopted v l → WasAdopted w l ⊎ IsNew l
  told_cases IsNew new adopts = adopted_back known.names now.names s IsNew (λ l given told. elim (sent_cases w v r.messages sent _ told) [
    | inl was ↦ inl (known.names.manager_says l.master (body.Adopted (adopted_word l)) was)
    | inr among ↦ go adopts l given among
  ])
    where
      go : AdoptsOne w r → (l : Lists) → IsGiven v l → IsAmong (says manager_node l.master (body.Adopted (adopted_word l))) r.messages → AdoptedOk w l.master (adopted_word l) ⊎ IsNew l
      go (NoNew old) l given among = inl (Each-at (λ (m : Message). IsOld w m.to m.body) r.messages old among.place (says manager_node l.master (body.Adopted (adopted_word l))) among.stands)
      go (OneNew c is its) l given among = let n = named c is l among in inr (new c is its l given n.0 n.1)

  -- lists that are adopted now are of no earlier epoch than those of their partition that were
  pub newer_lists : AdoptsOne w r → NewerLists w v
  newer_lists = told_cases IsNewer (λ c is its l given master version. comes_newer (lists_of_part c) l given master its)

  -- and are those of the entry that is told to be adopted
  pub new_entry : (entry : PartConfig) → IsAdoptedNow v entry → ((c : PartConfig) → r.messages ≡ adopted_message c ∷ [] → (entry.master ≡ c.master) × (entry.version ≡ c.version))
      → AdoptsOne w r → (l : Lists) → WasAdopted v l → WasAdopted w l ⊎ (l ≡ lists_of_part entry)
  new_entry entry here told = told_cases (λ l. l ≡ lists_of_part entry) (λ c is its l given master version.
      let t = told c is in
      (now.names.agree l (lists_of_part entry) given (now.names.top entry here).was.given).by_version (master ∙ sym t.0) (version ∙ sym t.1))
