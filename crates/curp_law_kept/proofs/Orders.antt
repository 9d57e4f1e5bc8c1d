-- The manager orders something for a partition: the entries stay, and something else is being done.
use Rattle.std.proofs.Common.{◌≡◌, ◌≤◌, inl, inr, ℕ, ◌+◌, ◌-◌, List, refl, subst, Option, Some}
use Rattle.std.proofs.lemmas.List.{length-set}
use Rattle.curp_base.specs.Words.{Each, numbered}
use Rattle.curp_base.proofs.Lists.{Each-weaker}
use Rattle.curp_msg.specs.Moved.{Moved, sends}
use Rattle.curp_msg.specs.declared.config.PartConfig.{PartConfig}
use Rattle.curp_msg.specs.declared.message.Message.{Message}
use Rattle.curp_order.specs.declared.Event.{Event}
use Rattle.curp_model.specs.Manager.{Attempted, Doing, ManagerState, Next, with_doing}
use Rattle.curp_model.specs.World.{World}
use Rattle.curp_facts.specs.Facts.{IsAdoptedNow, Lists, lists_of_part}
use Rattle.curp_facts.specs.Names.{DoingOk, IsClientNumber, Names}
use Rattle.curp_law_kept.proofs.Keeps.{chain_stays, links_stay, names_moved, told_stays, top_stays}
use Rattle.curp_law_kept.proofs.Later.{Later, client_later, doing_later, moving_later}
use Rattle.curp_law_kept.proofs.NumberedLists.{numbered_set_cases}
use Rattle.curp_law_kept.proofs.Moves.{Fresh, FreshOk, IsNewlyAdopted, Move, Utters}
use Rattle.curp_law_kept.proofs.ManagerWorlds.{Rises, manager_moved, moved_later, moved_move, moved_numbers}
use Rattle.curp_base.proofs.Numbered.{number_within}

-- numbers that rise together
pub record NumbersRise (n k : Next) : Type 0 where
  pub epoch : n.epoch ≤ k.epoch
  pub version : n.version ≤ k.version
  pub master : n.master ≤ k.master
  pub backup : n.backup ≤ k.backup
  pub witness : n.witness ≤ k.witness
  pub together : k.epoch + n.master ≡ k.master + n.epoch

-- an order for a partition
abbrev pub orders : ManagerState → ℕ → Doing → Next → List Message → Moved ManagerState
orders g p d next out = sends (record (with_doing g p d) { next = next }) out

pub orders_rises : (g : ManagerState) (p : ℕ) (d : Doing) (next : Next) (out : List Message) → NumbersRise g.next next → Rises g (orders g p d next out).state
orders_rises g p d next out up = record {
  shape = refl;
  epoch = up.epoch;
  version = up.version;
  master = up.master;
  backup = up.backup;
  witness = up.witness;
  together = up.together;
  parts = refl;
  doing = length-set g.doing (p - 1) d;
}

module _ {w : World} (n : Names w) (p : ℕ) (c : PartConfig) (here : numbered w.manager.config.parts p ≡ Some c)
    (d : Doing) (next : Next) (out : List Message) (up : NumbersRise w.manager.next next) (adopted : Option Attempted) (events : List Event) where
  abbrev after : World
  after = manager_moved w adopted events (orders w.manager p d next out)

  rises : Rises w.manager (orders w.manager p d next out).state
  rises = orders_rises w.manager p d next out up

  later : Later w after
  later = moved_later w n adopted events (orders w.manager p d next out) rises

  doing_now : DoingOk after (lists_of_part c) d → (e : PartConfig) (x : Doing) → IsAdoptedNow w e → numbered after.manager.doing e.part ≡ Some x → DoingOk after (lists_of_part e) x
  doing_now ok e x now its = elim (numbered_set_cases w.manager.doing p d (number_within w.manager.config.parts p c here).0 e.part x its) [
    | inl o ↦ doing_later later (lists_of_part e) x (n.doing e x now o.1)
    | inr o ↦
        let there : numbered w.manager.config.parts p ≡ Some e = subst (λ (i : ℕ). numbered w.manager.config.parts i ≡ Some e) o.0 now in
        let same : c ≡ e = cc (here, there) in
        subst (λ (y : PartConfig). DoingOk after (lists_of_part y) x) same (subst (DoingOk after (lists_of_part c)) o.1 ok)
  ]

  -- the order keeps all, where what is new is as it has to be
  pub ordered_keeps : (f : Fresh) → ((k : Lists) → IsNewlyAdopted f k → ⊥) → FreshOk w after f → Each (λ (m : Message). Utters w after f m.to m.body) out
      → DoingOk after (lists_of_part c) d → Names after
  ordered_keeps f none fresh all ok =
      let m : Move w after f = moved_move w n adopted events (orders w.manager p d next out) rises f all in
      names_moved n f m fresh (record {
        numbers = moved_numbers w n adopted events (orders w.manager p d next out) rises;
        entries = n.entries;
        top = λ e now. top_stays n f m fresh (lists_of_part e) (n.top e now) (λ k is same. none k is);
        chain = chain_stays n f m fresh none;
        next_after = links_stay n f m fresh none;
        adopted_for = told_stays n f m fresh none;
        doing = doing_now ok;
        gone = Each-weaker (IsClientNumber w) (IsClientNumber after) (client_later later) w.manager.gone n.gone;
        moving = moving_later later w.manager.moving n.moving;
      })
