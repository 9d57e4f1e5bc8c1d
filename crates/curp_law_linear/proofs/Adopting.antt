-- An adoption: what it begins with, and the words for what it does to the order.
use Rattle.std.proofs.Common.{◌≡◌, ℕ, ◌+◌, ◌||◌, Bool, true, false, not, List, ◌++◌, take, length, Some}
use Rattle.std.specs.List.{filter, list_any}
use Rattle.curp_base.specs.Words.{At}
use Rattle.curp_range.specs.Spans.{is_in}
use Rattle.curp_cmd.specs.Hash.{touches}
use Rattle.curp_cmd.specs.RequestId.{same_id}
use Rattle.curp_cmd.specs.declared.command.Request.{Request}
use Rattle.curp_cmd.specs.declared.command.RequestId.{RequestId}
use Rattle.curp_cmd.specs.declared.entry.Entry.TheVariants.{Op}
use Rattle.curp_model.specs.Log.{answer_after}
use Rattle.curp_model.specs.Manager.{Migration}
use Rattle.curp_model.specs.Marks.{has_completed}
use Rattle.curp_law_kept.specs.Hashes.{NoGive, behind, gives, on, updates}
use Rattle.curp_order.specs.Order.{Asked}
use Rattle.curp_law_linear.specs.Hashes.{Part, has_take, holds, is_give, owns}
use Rattle.curp_law_linear.specs.Line.{LineState, OrderOk, Owned}
use Rattle.curp_law_linear.specs.Moves.{Adopt, AdoptFits, ops, relogged, replayed_of}
use Rattle.curp_law_linear.proofs.AdoptedMarks.{asked_all}
use Rattle.curp_law_linear.proofs.Given.{LogValue, Pure}
use Rattle.curp_law_linear.proofs.Orders.{asked_of}

-- the partition at the cut
abbrev pub cut_part : Adopt → Part
cut_part o = record o.p { log = o.stays }

-- What the partition's logs say by themselves, before and after
pub record AdoptGround (s : LineState) (o : Adopt) : Type 0 where
  -- an op of what goes is of a hash that the partition holds, and of none whose take stays
  pub held : (k h : ℕ) (r : Request) (a : ℕ) → At o.goes k (Op r a) → touches r.command h ≡ true → holds s.moving o.p h ≡ true
  pub out : (k h : ℕ) (r : Request) (a : ℕ) → has_take s.moving h o.stays ≡ true → At o.goes k (Op r a) → touches r.command h ≡ true → ⊥
  -- what it owned at the cut it holds, where no give of it goes
  pub held_before : (h : ℕ) → owns (cut_part o) h ≡ true → NoGive h o.goes → holds s.moving o.p h ≡ true
  -- where a give goes, the ops on its hashes stand behind it, and its number stands once
  pub behind_give : (h : ℕ) → list_any (gives h) o.goes ≡ true → behind h o.p.log ≡ on h (asked_of o.goes)
  pub give_covers : (h : ℕ) (m : Migration) → s.moving ≡ Some m → is_in m.range.lo m.range.hi h ≡ true → list_any (is_give m.number) o.goes ≡ true → list_any (gives h) o.goes ≡ true
  pub give_moving : (h : ℕ) (m : Migration) → s.moving ≡ Some m → list_any (gives h) o.goes ≡ true → list_any (is_give m.number) o.stays ≡ false × (list_any (is_give m.number) o.goes ≡ true)
  -- what is replayed is owned at the cut
  pub owned : (j h : ℕ) (q : Request) → At (replayed_of o) j q → touches q.command h ≡ true → owns (cut_part o) h ≡ true
  pub its_value : LogValue (cut_part o)
  -- and is answered as it would be alone
  pub alone : (j : ℕ) (q : Request) → At (replayed_of o) j q
      → answer_after o.p.lo o.p.hi (take (length o.stays + j) (o.stays ++ ops (replayed_of o))) q.command ≡ answer_after o.p.lo o.p.hi o.stays q.command

-- the order at a hash ends with what goes, and this stands before it
pub record Prefixes (h : ℕ) (order gone : List Asked) : Type 0 where
  pub prefix : List Asked
  pub is : on h order ≡ prefix ++ on h gone

-- what an adoption begins with: a state with its facts, the move with its premises, and who owns what behind it
pub record Adopting : Type 0 where
  pub pure : Pure
  pub line : LineState
  pub facts : OrderOk line
  pub owned : Owned line.moving line.parts
  pub move : Adopt
  pub fits : AdoptFits line move
  pub ground : AdoptGround line move
  pub owned_after : Owned line.moving (relogged line.parts move.part move.p (move.stays ++ ops (replayed_of move)))

module _ (it : Adopting) where
  -- the requests that are replayed
  abbrev pub replayed : List Request
  replayed = replayed_of it.move

  -- the partition afterwards
  abbrev pub new_part : Part
  new_part = record it.move.p { log = it.move.stays ++ ops (replayed_of it.move) }

  -- all partitions afterwards
  abbrev pub parts_now : List Part
  parts_now = relogged it.line.parts it.move.part it.move.p (it.move.stays ++ ops (replayed_of it.move))

  -- the updates of the order as it was
  abbrev pub order_was : List Asked
  order_was = updates it.line.marks

  -- the requests whose ops go
  abbrev pub gone : List Asked
  gone = asked_of it.move.goes

  -- the requests that are replayed, as the order has them
  abbrev pub again : List Asked
  again = asked_all (replayed_of it.move)

  -- a mark of the id is flagged
  abbrev pub done : RequestId → Bool
  done = has_completed it.line.marks

  -- an op of the request goes
  abbrev pub is_gone : Asked → Bool
  is_gone x = list_any (λ (y : Asked). same_id y.0 x.0) gone

  -- its mark stays: it is flagged, or its op doesn't go
  abbrev pub keeps_on : Asked → Bool
  keeps_on x = done x.0 || not (is_gone x)

  -- a mark of the request is flagged, or none is
  abbrev pub is_done : Asked → Bool
  is_done x = done x.0

  -- and this the other way
  abbrev pub not_done : Asked → Bool
  not_done x = not (done x.0)

  -- the updates of the order afterwards: what stays, and behind it what is replayed and isn't flagged
  abbrev pub order_now : List Asked
  order_now = filter keeps_on order_was ++ filter not_done again
