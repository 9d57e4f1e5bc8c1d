-- What is said of requests, entries and logs stays so.
use Rattle.std.proofs.Common.{ℕ, List, sym, subst}
use Rattle.curp_base.specs.Words.{Each}
use Rattle.curp_base.proofs.Lists.{Each-weaker}
use Rattle.curp_cmd.specs.declared.command.Request.{Request}
use Rattle.curp_cmd.specs.declared.entry.Entry.{Entry}
use Rattle.curp_cmd.specs.declared.entry.Entry.TheVariants.{Op, Take, Give, Expire}
use Rattle.curp_msg.specs.declared.answer.Refusal.{Refusal}
use Rattle.curp_msg.specs.declared.answer.Refusal.TheVariants as refusal
use Rattle.curp_msg.specs.declared.body.Body.{Body}
use Rattle.curp_model.specs.Log.{IsLog}
use Rattle.curp_model.specs.World.{World}
use Rattle.curp_facts.specs.Entries.{EntryOk, LogOk, RequestOk, UpdateOk}
use Rattle.curp_facts.specs.Facts.{WasOrdered, hi_of, lo_of}
use Rattle.curp_facts.specs.Kept.{AllCompletedBelow, HasCompletedBelow, RefusalFirstOk}
use Rattle.curp_law_kept.proofs.Words.{Follows, event_at, given_stays, hi_later, lo_later, sent_later}

module _ {w v : World} (s : Follows w v) where
  abbrev pub below_later : (client first : ℕ) → HasCompletedBelow w client first → HasCompletedBelow v client first
  below_later client first all seq low high = let c = all seq low high in (c.0, c.1, event_at s c.0 _ c.2)

  abbrev pub request_later : {r : Request} → RequestOk w r → RequestOk v r
  request_later {r} ok = record { place = ok.place; invoked = event_at s ok.place _ ok.invoked; first = ok.first; completed = below_later r.id.client r.first ok.completed }

  abbrev pub update_later : {r : Request} → UpdateOk w r → UpdateOk v r
  update_later ok = record { request = request_later ok.request; updates = ok.updates }

  pub updates_later : (rs : List Request) → Each (UpdateOk w) rs → Each (UpdateOk v) rs
  updates_later rs ok = Each-weaker (UpdateOk w) (UpdateOk v) (λ r u. update_later u) rs ok

  abbrev pub ordered_later : {part : ℕ} {b : Body} → WasOrdered w part b → WasOrdered v part b
  ordered_later ok = record {
    node = ok.node;
    is = record { lists = ok.is.lists; given = given_stays s ok.is.given; its_master = ok.is.its_master; its_part = ok.is.its_part };
    sent = sent_later s ok.sent;
  }

  pub firsts_later : (firsts : List (ℕ × ℕ)) → Each (AllCompletedBelow w) firsts → Each (AllCompletedBelow v) firsts
  firsts_later firsts ok = Each-weaker (AllCompletedBelow w) (AllCompletedBelow v) (λ line all. below_later line.0 line.1 all) firsts ok

  pub entry_later : (part : ℕ) (e : Entry) → EntryOk w part e → EntryOk v part e
  entry_later part (Op r acknowledged) ok = (update_later ok.0, ok.1, below_later r.id.client acknowledged ok.2)
  entry_later part (Take migration taken) ok =
      (record { order = ok.0.order; ordered = ordered_later ok.0.ordered; its_number = ok.0.its_number; lo = ok.0.lo; hi = ok.0.hi }, firsts_later taken.table.firsts ok.1)
  entry_later part (Give migration given) ok = (ordered_later ok.0, firsts_later given.table.firsts ok.1)
  entry_later part (Expire client) ok = ordered_later ok

  pub log_ok_later : (part : ℕ) (log : List Entry) → LogOk w part log → LogOk v part log
  log_ok_later part log ok = record {
    is_log = subst (λ (lo : ℕ). IsLog lo (hi_of v part) log) (sym (lo_later s part)) (subst (λ (hi : ℕ). IsLog (lo_of w part) hi log) (sym (hi_later s part)) ok.is_log);
    takes = ok.takes;
    gives = ok.gives;
    entries = Each-weaker (EntryOk w part) (EntryOk v part) (entry_later part) log ok.entries;
  }

  pub refusal_later : (client : ℕ) (why : Refusal) → RefusalFirstOk w client why → RefusalFirstOk v client why
  refusal_later client (refusal.Stale first) ok = below_later client first ok
  refusal_later client _ ok = tt
