-- What a master says as it settles: each reply, value and migration is of entries that are synced.
use Rattle.std.proofs.Common.{◌≡◌, ◌<◌, ℕ, ◌-◌, true, not, List, [], ◌∷◌, ◌++◌, map, nat_lt, slice_get, Option, Some, None, refl, arith, sym, subst}
use Rattle.std.specs.List.{filter, flat_map}
use Rattle.std.proofs.lemmas.Bool.{ltb-true}
use Rattle.curp_base.specs.Words.{At, Each}
use Rattle.curp_base.proofs.Lists.{Each-append, Each-at, Each-map, Each-weaker, at_drop, at_take, prefix_self, Each-filter}
use Rattle.curp_cmd.specs.declared.entry.Entry.{Entry}
use Rattle.curp_cmd.specs.declared.entry.Entry.TheVariants.{Op, Take, Give, Expire}
use Rattle.curp_msg.specs.declared.body.Body.TheVariants as body
use Rattle.curp_msg.specs.declared.message.Message.{Message}
use Rattle.curp_model.specs.Master.{Captured, MasterState, Open, between, is_ready, moved_entry, settle, synced, synced_replies, synced_reply, value_of}
use Rattle.curp_model.specs.World.{World}
use Rattle.curp_facts.specs.Entries.{EntryOk}
use Rattle.curp_facts.specs.Facts.{WasOrdered}
use Rattle.curp_facts.specs.Nodes.{CapturedOk, IsOpAt}
use Rattle.curp_law_kept.specs.Moves.{IsSaidBy, ServingSays}
use Rattle.curp_law_kept.proofs.NumberedLists.{each_among}
use Rattle.curp_law_kept.proofs.MasterLists.{each_filtered}
use Rattle.curp_law_kept.proofs.Parts.{Grown, Parts, acknowledgements_grow, captures_grow, free_grows, queued_grow}
use Rattle.curp_law_kept.proofs.Serving.{AllSaid}

-- what holds of each image
each_flat : {A B : Type 0} (P : B → Type 0) (f : A → List B) (xs : List A) → Each (λ x. Each P (f x)) xs → Each P (flat_map f xs)
each_flat P f [] all = tt
each_flat P f (x ∷ xs) all = Each-append P (f x) (flat_map f xs) all.0 (each_flat P f xs all.1)

-- a settled master
abbrev pub settled_state : MasterState → MasterState
settled_state k = record k {
  held = filter (λ index. not (nat_lt index (synced k))) k.held;
  captures = filter (λ c. not (is_ready k c)) k.captures;
  settled = synced k;
}

module _ (w : World) (part n : ℕ) (k : MasterState) (p : Parts w part k) (serves : k.phase ≡ Open) where
  grown : Grown k (settled_state k)
  grown = record { lo = refl; hi = refl; log = prefix_self k.log; round = omega arith; captured = omega arith; opens = λ o. (o, omega arith) }

  -- it keeps what it kept
  pub parts_settled : Parts w part (settled_state k)
  parts_settled = record {
    lo = p.lo;
    hi = p.hi;
    log = p.log;
    acknowledged = acknowledgements_grow w k (settled_state k) grown k.acknowledged p.acknowledged;
    free = λ index has_it. free_grows w k (settled_state k) grown index (p.free index has_it);
    held = Each-filter (IsOpAt k.log) (λ index. not (nat_lt index (synced k))) k.held p.held;
    queue = queued_grow w k (settled_state k) grown k.queue p.queue;
    captures = captures_grow w k (settled_state k) grown _ (Each-filter (CapturedOk w k) (λ c. not (is_ready k c)) k.captures p.captures);
  }

  -- what it says then
  abbrev Said : Message → Type 0
  Said x = IsSaidBy n (ServingSays w (settled_state k)) x

  reply_said : (index : ℕ) (o : Option Entry) → slice_get k.log index ≡ o → index < synced k → Each Said (synced_reply n k index o)
  reply_said index (Some (Op r acknowledged)) at low = (
    record {
      sender = refl;
      says_so = record {
        serves = serves;
        its_epoch = refl;
        its_version = refl;
        addressee = refl;
        kind = record { stands = record { index = index; entry = Op r acknowledged; stands = at; tells = (refl, refl) }; below = low };
      };
    },
    tt,
  )
  reply_said index (Some (Take migration taken)) at low = tt
  reply_said index (Some (Give migration given)) at low = tt
  reply_said index (Some (Expire client)) at low = tt
  reply_said index None at low = tt

  replies_said : (due : List ℕ) → Each (λ (index : ℕ). index < synced k) due → Each Said (synced_replies n k due)
  replies_said due low = each_flat Said (λ index. synced_reply n k index (slice_get k.log index)) due
      (Each-weaker (λ (index : ℕ). index < synced k) (λ index. Each Said (synced_reply n k index (slice_get k.log index))) (λ index l. reply_said index (slice_get k.log index) refl l) due low)

  value_said : (c : Captured) → CapturedOk w k c → Said (value_of n k c)
  value_said c ok = record {
    sender = refl;
    says_so = record { serves = serves; its_epoch = refl; addressee = refl; place = ok.place; command = c.command; invoked = ok.invoked; reads = ok.reads };
  }

  moved_said : k.part ≡ part → (index : ℕ) (e : Entry) → At k.log index e → index < synced k → Each Said (moved_entry n e)
  moved_said its index (Take migration taken) at low = (
    record {
      sender = refl;
      says_so = (record { serves = serves; index = index; entry = Take migration taken; stands = at; is = refl; below = low }, refl);
    },
    tt,
  )
  moved_said its index (Give migration given) at low = (
    record {
      sender = refl;
      says_so = (record { serves = serves; index = index; entry = Give migration given; stands = at; is = (migration, given, omega arith, refl); below = low }, refl, record { parcel = record { migration = migration; «package» = given }; ordered = subst (λ (q : ℕ). WasOrdered w q (body.GiveIn (record { migration = migration; «package» = given }))) (sym its) (Each-at (EntryOk w part) k.log p.log.entries index (Give migration given) at).0; its_number = refl });
    },
    tt,
  )
  moved_said its index (Op r acknowledged) at low = tt
  moved_said its index (Expire client) at low = tt

  all_moved_said : k.part ≡ part → Each Said (flat_map (moved_entry n) (between k.settled (synced k) k.log))
  all_moved_said its = each_flat Said (moved_entry n) (between k.settled (synced k) k.log) (each_among (λ e. Each Said (moved_entry n e)) (between k.settled (synced k) k.log) (λ e m.
      let t = at_take (synced k - k.settled) _ m.place e m.stands in
      let d = at_drop k.settled k.log m.place e t.1 in
      moved_said its d.0 e d.2 (omega (arith, t.0, d.1))))

  -- settling keeps what the master keeps
  pub settle_parts : Parts w part (settle n k).state
  unfolding settle
  settle_parts = parts_settled

  -- and says what is synced
  pub settle_says : k.part ≡ part → AllSaid w n (settle n k).state (settle n k).messages
  unfolding settle
  settle_says its =
      let due : List ℕ = filter (λ index. nat_lt index (synced k)) k.held in
      let low : Each (λ (index : ℕ). index < synced k) due = Each-weaker (λ (x : ℕ). IsOpAt k.log x × (nat_lt x (synced k) ≡ true)) (λ (index : ℕ). index < synced k) (λ x y. ltb-true x (synced k) y.1) due (each_filtered (IsOpAt k.log) (λ index. nat_lt index (synced k)) k.held p.held) in
      let values : List Captured = filter (is_ready k) k.captures in
      Each-append Said (synced_replies n k due ++ map (value_of n k) values) (flat_map (moved_entry n) (between k.settled (synced k) k.log))
      (Each-append Said (synced_replies n k due) (map (value_of n k) values) (replies_said due low)
      (Each-map Said (value_of n k) values (Each-weaker (CapturedOk w k) (λ c. Said (value_of n k c)) value_said values (Each-filter (CapturedOk w k) (is_ready k) k.captures p.captures)))) (all_moved_said its)
