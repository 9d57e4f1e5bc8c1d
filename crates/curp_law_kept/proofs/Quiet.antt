-- Inputs to the manager by which no name changes: what it says was said before, or is of the present entries.
use Rattle.std.proofs.Common.{◌≡◌, ℕ, ◌+◌, List, length, map, refl, sym, ◌∙◌, ap, subst, arith, Option, Some}
use Rattle.std.proofs.lemmas.List.{length-map}
use Rattle.curp_base.specs.Words.{At, Each, numbered}
use Rattle.curp_base.proofs.Lists.{at_map, Each-weaker, at_mapped}
use Rattle.curp_cmd.specs.Node.{manager_node}
use Rattle.curp_msg.specs.Moved.{Moved}
use Rattle.curp_msg.specs.declared.config.PartConfig.{PartConfig}
use Rattle.curp_msg.specs.declared.message.Message.{Message}
use Rattle.curp_order.specs.declared.Event.{Event}
use Rattle.curp_model.specs.Manager.{Attempted, Doing, ManagerState, Migration}
use Rattle.curp_model.specs.World.{World}
use Rattle.curp_facts.specs.Facts.{IsAdoptedNow, Lists, lists_of_part}
use Rattle.curp_facts.specs.Names.{DoingOk, IsClientNumber, ManagerSays, MovingOk, Names, NumbersOk, Top}
use Rattle.curp_law_kept.proofs.Keeps.{chain_stays, links_stay, names_moved, told_stays, top_stays}
use Rattle.curp_law_kept.proofs.Later.{Later, client_later, doing_later, moving_later, says_later}
use Rattle.curp_law_kept.proofs.Moves.{Move, Nothing, Repeats, Utters}
use Rattle.curp_law_kept.proofs.ManagerWorlds.{Rises, manager_moved, moved_later, moved_move, moved_numbers}
use Rattle.curp_base.proofs.Numbered.{place, at_place}

-- a message is the manager's
abbrev pub IsManagers : Message → Type 0
IsManagers m = m.from ≡ manager_node

-- the manager alone speaks, and the input keeps all facts of names, whatever it adopts and whatever happens besides
abbrev pub Good : World → Moved ManagerState → Type 0
Good w r = Each IsManagers r.messages × ((adopted : Option Attempted) (events : List Event) → Names (manager_moved w adopted events r) × Later w (manager_moved w adopted events r))

-- what the manager may say without any change
pub record Again (w : World) (m : Message) : Type 0 where
  pub from : IsManagers m
  pub repeats : Repeats w Nothing m.to m.body
  pub is_so : ManagerSays w m.to m.body

-- each of these messages may be said
abbrev pub AllAgain : World → List Message → Type 0
AllAgain w out = Each (Again w) out

-- the entries have the lists that they had, nothing else is done, and no number was taken
pub record Stays (g k : ManagerState) : Type 0 where
  pub shape : k.shape ≡ g.shape
  pub epoch : k.next.epoch ≡ g.next.epoch
  pub version : k.next.version ≡ g.next.version
  pub master : k.next.master ≡ g.next.master
  pub backup : k.next.backup ≡ g.next.backup
  pub witness : k.next.witness ≡ g.next.witness
  pub lists : map lists_of_part k.config.parts ≡ map lists_of_part g.config.parts
  pub doing : k.doing ≡ g.doing

-- an entry that has these lists stood there before
was_entry : (g k : ManagerState) → map lists_of_part k.config.parts ≡ map lists_of_part g.config.parts → (i : ℕ) (c : PartConfig) → At k.config.parts i c
    → (d : PartConfig) × At g.config.parts i d × (lists_of_part d ≡ lists_of_part c)
was_entry g k same i c at =
    at_mapped lists_of_part g.config.parts i (lists_of_part c) (subst (λ (ls : List Lists). At ls i (lists_of_part c)) same (at_map lists_of_part k.config.parts i c at))

module _ {w v : World} (n : Names w) (m : Move w v Nothing) (numbers : NumbersOk v)
    (lists : map lists_of_part v.manager.config.parts ≡ map lists_of_part w.manager.config.parts)
    (doing : v.manager.doing ≡ w.manager.doing)
    (gone : Each (IsClientNumber v) v.manager.gone)
    (moving : MovingOk v v.manager.moving) where
  entries_stay : (k : ℕ) (c : PartConfig) → At v.manager.config.parts k c → c.part ≡ k + 1
  entries_stay k c at = let d = was_entry w.manager v.manager lists k c at in sym (ap (λ (l : Lists). l.part) d.2) ∙ n.entries k d.0 d.1

  -- the entry that has a partition's number was there with the same lists
  now_was : (c : PartConfig) → IsAdoptedNow v c → (d : PartConfig) × IsAdoptedNow w d × (lists_of_part d ≡ lists_of_part c)
  now_was c now =
      let p = place v.manager.config.parts c.part c now in
      let d = was_entry w.manager v.manager lists p.0 c p.2 in
      (d.0, at_place w.manager.config.parts p.0 d.0.part d.0 (ap (λ (l : Lists). l.part) d.2 ∙ p.1) d.1, d.2)

  top_now : (c : PartConfig) → IsAdoptedNow v c → Top v (lists_of_part c)
  top_now c now = let d = now_was c now in subst (Top v) d.2 (top_stays n Nothing m tt (lists_of_part d.0) (n.top d.0 d.1) (λ k new same. new))

  doing_now : (c : PartConfig) (d : Doing) → IsAdoptedNow v c → numbered v.manager.doing c.part ≡ Some d → DoingOk v (lists_of_part c) d
  doing_now c d now its =
      let e = now_was c now in
      let there : numbered w.manager.doing e.0.part ≡ Some d =
      subst (λ (ds : List Doing). numbered ds e.0.part ≡ Some d) doing (subst (λ (i : ℕ). numbered v.manager.doing i ≡ Some d) (sym (ap (λ (l : Lists). l.part) e.2)) its) in
      subst (λ (l : Lists). DoingOk v l d) e.2 (doing_later m.later (lists_of_part e.0) d (n.doing e.0 d e.1 there))

  -- nothing is new
  pub names_stay : Names v
  names_stay = names_moved n Nothing m tt (record { numbers = numbers; entries = entries_stay; top = top_now; chain = chain_stays n Nothing m tt (λ k new. new); next_after = links_stay n Nothing m tt (λ k new. new); adopted_for = told_stays n Nothing m tt (λ k new. new); doing = doing_now; gone = gone; moving = moving })

-- ---- inputs to the manager

length_lists : (xs ys : List PartConfig) → map lists_of_part xs ≡ map lists_of_part ys → length xs ≡ length ys
length_lists xs ys e = sym (length-map xs lists_of_part) ∙ ap length e ∙ length-map ys lists_of_part

module _ (w : World) (n : Names w) (r : Moved ManagerState) where
  stays_rises : Stays w.manager r.state → Rises w.manager r.state
  stays_rises s = record {
    shape = s.shape;
    epoch = omega (arith, s.epoch);
    version = omega (arith, s.version);
    master = omega (arith, s.master);
    backup = omega (arith, s.backup);
    witness = omega (arith, s.witness);
    together = omega (arith, s.epoch, s.master);
    parts = length_lists r.state.config.parts w.manager.config.parts s.lists;
    doing = ap length s.doing;
  }

  -- an input that changes no name, and says what may be said, keeps all
  pub quietly : Stays w.manager r.state → Each (IsClientNumber w) r.state.gone → MovingOk w r.state.moving → AllAgain w r.messages → Good w r
  quietly s gone moving says = (
    Each-weaker (Again w) IsManagers (λ (m : Message) a. a.from) r.messages says,
    λ adopted events.
        let v : World = manager_moved w adopted events r in
        let up : Rises w.manager r.state = stays_rises s in
        let later : Later w v = moved_later w n adopted events r up in (
          names_stay n
              (moved_move w n adopted events r up Nothing (Each-weaker (Again w) (λ (m : Message). Utters w v Nothing m.to m.body)
              (λ (m : Message) a. record { repeats = a.repeats; is_so = says_later later m.to m.body a.is_so }) r.messages says))
              (moved_numbers w n adopted events r up) s.lists s.doing
              (Each-weaker (IsClientNumber w) (IsClientNumber v) (client_later later) r.state.gone gone)
              (moving_later later r.state.moving moving),
          later,
        ),
  )

-- the state itself stays
pub stays_self : (g : ManagerState) → Stays g g
stays_self g = record { shape = refl; epoch = refl; version = refl; master = refl; backup = refl; witness = refl; lists = refl; doing = refl }

-- and where it changes, no name does
pub stays_beside : (g : ManagerState) (moving : Option Migration) (gone : List ℕ) (migration : ℕ) → Stays g (record g { moving = moving; gone = gone; next = record g.next { migration = migration } })
stays_beside g moving gone migration = record { shape = refl; epoch = refl; version = refl; master = refl; backup = refl; witness = refl; lists = refl; doing = refl }
