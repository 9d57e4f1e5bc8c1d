-- The manager adopts lists that were given, with numbers above those of the present entry.
use Rattle.std.proofs.Common.{◌≡◌, ◌⊎◌, ◌≤◌, ◌<◌, inl, inr, ℕ, ◌+◌, ◌-◌, List, refl, sym, ◌∙◌, ap, subst, arith, Option, Some}
use Rattle.std.proofs.lemmas.List.{length-set}
use Rattle.curp_base.specs.Words.{At, numbered}
use Rattle.curp_base.proofs.Lists.{at_set_cases, Each-weaker}
use Rattle.curp_msg.specs.declared.config.PartConfig.{PartConfig}
use Rattle.curp_order.specs.declared.Event.{Event}
use Rattle.curp_model.specs.Manager.{Attempted, Doing, ManagerState, Steady, adopted_message, adopts}
use Rattle.curp_msg.specs.Moved.{Moved}
use Rattle.curp_model.specs.World.{World}
use Rattle.curp_facts.specs.Facts.{IsAdoptedNow, IsGiven, Lists, WasAdopted, lists_of_part}
use Rattle.curp_facts.specs.Names.{DoingOk, IsClientNumber, IsToldOf, RecoveredFrom, Names, Top}
use Rattle.curp_law_kept.proofs.Keeps.{chain_adopted, entry_numbered, links_adopted, names_moved, numbered_now, told_adopted, top_adopted, top_stays}
use Rattle.curp_law_kept.proofs.Later.{Later, client_later, doing_later, moving_later, given_later}
use Rattle.curp_law_kept.proofs.NumberedLists.{numbered_set_cases}
use Rattle.curp_law_kept.proofs.Moves.{Adoption, Move}
use Rattle.curp_law_kept.proofs.Quiet.{Good}
use Rattle.curp_law_kept.proofs.ManagerWorlds.{Rises, manager_moved, moved_later, moved_messages, moved_move, moved_numbers, sent_now}
use Rattle.curp_base.proofs.Numbered.{number_within}

module _ {w : World} (n : Names w) (p : ℕ) (now new : PartConfig)
    (here : numbered w.manager.config.parts p ≡ Some now)
    (given : IsGiven w (lists_of_part new))
    (part : new.part ≡ now.part) (epoch : now.epoch ≤ new.epoch) (version : now.version < new.version)
    (why : IsToldOf w (lists_of_part new))
    (how : (now.master ≡ new.master) ⊎ RecoveredFrom w (lists_of_part now) (lists_of_part new))
    (adopted : Option Attempted) (events : List Event) where
  abbrev move : Moved ManagerState
  move = adopts w.manager p new

  abbrev after : World
  after = manager_moved w adopted events move

  abbrev its : Lists
  its = lists_of_part new

  rises : Rises w.manager move.state
  rises = record {
    shape = refl;
    epoch = omega arith;
    version = omega arith;
    master = omega arith;
    backup = omega arith;
    witness = omega arith;
    together = omega arith;
    parts = length-set w.manager.config.parts (p - 1) new;
    doing = length-set w.manager.doing (p - 1) Steady;
  }

  later : Later w after
  later = moved_later w n adopted events move rises

  low : 1 ≤ p
  low = (number_within w.manager.config.parts p now here).0

  its_part : new.part ≡ p
  its_part = part ∙ entry_numbered n p now here

  abbrev is_adopted : WasAdopted after its
  is_adopted = record {
    given = given_later later its given;
    told = inr (sent_now w after move.messages (moved_messages w adopted events move) {m = adopted_message new} (record { place = 0; stands = refl }));
  }

  moves : Move w after (Adoption its)
  moves = moved_move w n adopted events move rises (Adoption its)
      (record { repeats = inr (refl, refl); is_so = record { lists = its; was = is_adopted; its_master = refl; its_part = refl; its_epoch = refl; its_version = refl } }, tt)

  entries_adopted : (k : ℕ) (c : PartConfig) → At after.manager.config.parts k c → c.part ≡ k + 1
  entries_adopted k c at = elim (at_set_cases w.manager.config.parts (p - 1) new k c at) [
    | inl o ↦ n.entries k c o.1
    | inr o ↦ omega (arith, o.0, low, its_part, ap (λ (x : PartConfig). x.part) o.1)
  ]

  top_now : (c : PartConfig) → IsAdoptedNow after c → Top after (lists_of_part c)
  top_now c at = elim (numbered_set_cases w.manager.config.parts p new low c.part c at) [
    | inl o ↦ top_stays n (Adoption its) moves given (lists_of_part c) (n.top c o.1) (λ k is same. o.0 (sym same ∙ ap (λ (l : Lists). l.part) is ∙ its_part))
    | inr o ↦ subst (λ (x : PartConfig). Top after (lists_of_part x)) o.1
        (top_adopted n its moves given (lists_of_part now) is_adopted (n.top now (numbered_now n p now here)) (sym part) epoch version)
  ]

  doing_now : (c : PartConfig) (d : Doing) → IsAdoptedNow after c → numbered after.manager.doing c.part ≡ Some d → DoingOk after (lists_of_part c) d
  doing_now c d at done = elim (numbered_set_cases w.manager.config.parts p new low c.part c at) [
    | inl o ↦ elim (numbered_set_cases w.manager.doing p Steady low c.part d done) [
      | inl q ↦ doing_later later (lists_of_part c) d (n.doing c d o.1 q.1)
      | inr q ↦ absurd (o.0 q.0)
    ]
    | inr o ↦ elim (numbered_set_cases w.manager.doing p Steady low c.part d done) [
      | inl q ↦ absurd (q.0 o.0)
      | inr q ↦ subst (DoingOk after (lists_of_part c)) q.1 tt
    ]
  ]

  adoption_keeps : Names after
  adoption_keeps = names_moved n (Adoption its) moves given (record {
    numbers = moved_numbers w n adopted events move rises;
    entries = entries_adopted;
    top = top_now;
    next_after = links_adopted n its moves given (lists_of_part now) (n.top now (numbered_now n p now here)) (sym part) version how;
    adopted_for = told_adopted n its moves given why;
    chain = chain_adopted n its moves given (lists_of_part now) (n.top now (numbered_now n p now here)) (sym part) epoch version;
    doing = doing_now;
    gone = Each-weaker (IsClientNumber w) (IsClientNumber after) (client_later later) w.manager.gone n.gone;
    moving = moving_later later w.manager.moving n.moving;
  })

-- lists that are adopted keep all
pub adopts_good : {w : World} (n : Names w) (p : ℕ) (now new : PartConfig) → numbered w.manager.config.parts p ≡ Some now → IsGiven w (lists_of_part new)
    → new.part ≡ now.part → now.epoch ≤ new.epoch → now.version < new.version → IsToldOf w (lists_of_part new) → (now.master ≡ new.master) ⊎ RecoveredFrom w (lists_of_part now) (lists_of_part new) → Good w (adopts w.manager p new)
adopts_good n p now new here given part epoch version why how = ((refl, tt), λ adopted events. (adoption_keeps n p now new here given part epoch version why how adopted events, later n p now new here given part epoch version why how adopted events))
