-- A step of a client, a backup or a witness keeps what is kept of reads.
use Rattle.std.proofs.Common.{◌≡◌, ◌≢◌, ◌⊎◌, inl, inr, ℕ, ◌&&◌, Bool, true, false, if◌then◌else◌, List, refl, ap, sym, ◌∙◌, subst, Option, Some, None}
use Rattle.curp_base.specs.Words.{At, Each, numbered}
use Rattle.curp_base.proofs.Lists.{at_same, at_mapped}
use Rattle.curp_cmd.specs.Node.{client_node}
use Rattle.curp_cmd.specs.RequestId.{same_id}
use Rattle.curp_cmd.specs.declared.node.NodeId.{NodeId}
use Rattle.curp_cmd.specs.declared.node.NodeKind.{NodeKind}
use Rattle.curp_cmd.specs.declared.node.NodeKind.TheVariants as kind
use Rattle.curp_msg.specs.Moved.{says}
use Rattle.curp_msg.specs.declared.body.Body.TheVariants as body
use Rattle.curp_msg.specs.declared.body.Worth.{Worth}
use Rattle.curp_msg.specs.declared.config.PartConfig.{PartConfig}
use Rattle.curp_msg.specs.declared.machine.Capture.{Capture}
use Rattle.curp_msg.specs.declared.machine.Completed.{Completed}
use Rattle.curp_msg.specs.Input.{Input}
use Rattle.curp_msg.specs.declared.message.Message.{Message}
use Rattle.curp_model.specs.Client.{ClientState, client_input}
use Rattle.curp_model.specs.Manager.{ManagerState}
use Rattle.curp_model.specs.Marks.{Looked, Mark, Quick, flagged, is_capture, is_flagged, is_update_mark}
use Rattle.curp_model.specs.Recovery.{MasterStage, Serving}
use Rattle.curp_model.specs.World.{World, with_completion}
use Rattle.curp_facts.specs.Facts.{EntryWas, IsAdoptedNow, WasSent}
use Rattle.curp_facts.specs.Nodes.{MayCome}
use Rattle.curp_facts.specs.Said.{WorthSaid}
use Rattle.curp_law_kept.specs.ClientEffect.{ByValue, CompletionOk, MayComplete, ByQuick}
use Rattle.curp_law_kept.proofs.Gives.{ClientMoved, client_messages, effect, fits, said, adopted_back, sent_back, SaysMore, nothing_ready, Follows}
use Rattle.curp_facts.specs.Known.{Known}
use Rattle.curp_law_linear.specs.Ordered.{IsStored, Ordered, StoredFrom, WorthOk, QuickOk, capture_of}
use Rattle.curp_law_linear.specs.Refined.{Refines}
use Rattle.curp_law_linear.proofs.ReadsLater.{EntryStays, ReadWas, ReadsWere, ReadsOk, reads_later, looked_capture, quick_capture}
use Rattle.curp_law_linear.specs.Refined.{NoAdoption}
use Rattle.curp_law_linear.proofs.ReadsMarks.{no_look}
use Rattle.curp_law_linear.proofs.ReadsMoves.{none_drops}
use Rattle.curp_law_linear.proofs.ReadsPassed.{NewerLists, NoneLate, NoneLives}
use Rattle.curp_law_linear.proofs.ReadsStored.{from_stays}
use Rattle.curp_facts.specs.Names.{IsOf}
use Rattle.curp_facts.specs.Predecessors.{Predecessors}
use Rattle.curp_law_linear.proofs.CutMarks.{cuts_after, hit_capture}
use Rattle.curp_law_linear.proofs.Cuts.{cuts_stay}
use Rattle.curp_law_linear.specs.OfWorld.{cuts}
use Rattle.curp_law_linear.proofs.CutsTimes.{timed_stay}
use Rattle.curp_msg.specs.declared.body.Quick.{Quick as QuickValue}
use Rattle.curp_facts.specs.Reach.{QuickSaid}

-- ---- marks

-- marks that stay
pub looks_same : {w v : World} → v.marks ≡ w.marks → ReadsWere w v
looks_same {w} {v} same = record {
  was = λ k number m at is. record {
    place = k;
    old = m;
    stands = subst (λ (ms : List Mark). At ms k m) same at;
    its_master = refl;
    its_part = refl;
    its_epoch = refl;
    its_id = refl;
    its_place = refl;
    completed = λ e. inl e;
  };
  apart = λ j k number m o a b p q e. e;
}

-- the mark after a completion
abbrev flag : Completed → Mark → Mark
flag c m = if is_flagged c c.by m then record m { completed = true } else m

-- what else the mark says stays
flag_keeps : (c : Completed) (m : Mark) → ((flag c m).master ≡ m.master) × ((flag c m).part ≡ m.part) × ((flag c m).epoch ≡ m.epoch) × ((flag c m).place ≡ m.place) × ((flag c m).id ≡ m.id)
flag_keeps c m = go (is_flagged c c.by m)
  where
    go : (b : Bool) → ((if b then record m { completed = true } else m).master ≡ m.master) × ((if b then record m { completed = true } else m).part ≡ m.part)
        × ((if b then record m { completed = true } else m).epoch ≡ m.epoch) × ((if b then record m { completed = true } else m).place ≡ m.place)
        × ((if b then record m { completed = true } else m).id ≡ m.id)
    go true = (refl, refl, refl, refl, refl)
    go false = (refl, refl, refl, refl, refl)

flag_completes : (c : Completed) (m : Mark) → (flag c m).completed ≡ true → (m.completed ≡ true) ⊎ (is_flagged c c.by m ≡ true)
flag_completes c m = go (is_flagged c c.by m) refl
  where
    go : (b : Bool) → is_flagged c c.by m ≡ b → (if b then record m { completed = true } else m).completed ≡ true → (m.completed ≡ true) ⊎ (is_flagged c c.by m ≡ true)
    go true is e = inr is
    go false is e = inl e

-- what the completion flags is stored
abbrev FlagsStored : World → Completed → Type 0
FlagsStored w c = (k number long : ℕ) (m : Mark) → At w.marks k m → m.place ≡ Looked number long → is_flagged c c.by m ≡ true → StoredFrom w m.master m.part long

module _ {w v : World} (s : Follows w v) (c : Completed) (stored : FlagsStored w c) where
  abbrev flag_was : (k : ℕ) (m x : Mark) → At w.marks k x → flag c x ≡ m → ReadWas w v m
  flag_was k m x at is = record {
    place = k;
    old = x;
    stands = at;
    its_master = sym (flag_keeps c x).0 ∙ ap (λ (y : Mark). y.master) is;
    its_part = sym (flag_keeps c x).1 ∙ ap (λ (y : Mark). y.part) is;
    its_epoch = sym (flag_keeps c x).2 ∙ ap (λ (y : Mark). y.epoch) is;
    its_id = sym (flag_keeps c x).4 ∙ ap (λ (y : Mark). y.id) is;
    its_place = sym (flag_keeps c x).3 ∙ ap (λ (y : Mark). y.place) is;
    completed = λ e. elim (flag_completes c x (ap (λ (y : Mark). y.completed) is ∙ e)) [
      | inl before ↦ inl before
      | inr flags ↦ inr (λ number long look. now long (from_stays s x.master x.part long (stored k number long x at (sym (flag_keeps c x).3 ∙ ap (λ (y : Mark). y.place) is ∙ look) flags)))
    ];
  }
    where
      now : (long : ℕ) → StoredFrom v x.master x.part long → StoredFrom v m.master m.part long
      now long h = subst (λ (y : Mark). StoredFrom v y.master y.part long) is
          (subst (λ (part : ℕ). StoredFrom v (flag c x).master part long) (sym (flag_keeps c x).1) (subst (λ (node : NodeId). StoredFrom v node x.part long) (sym (flag_keeps c x).0) h))

  -- marks of which a completion flags some
  looks_flagged : v.marks ≡ flagged c w.marks → ReadsWere w v
  looks_flagged same = record {
    was = λ k number m at is. let h = at_mapped (flag c) w.marks k m (subst (λ (ms : List Mark). At ms k m) same at) in flag_was k m h.0 h.1 h.2;
    apart = λ j k number m o a b p q e. e;
  }

-- ---- the frame

-- what stays where one node that isn't a master has said more
module _ {w v : World} (known : Known w) (now : Known v) {out : List Message} {mover : NodeId} (f : SaysMore w v out mover) (not_master : mover.kind ≢ kind.Master) where
  entry_stays : (c : PartConfig) → IsAdoptedNow v c → EntryStays w c
  entry_stays c here = record {
    entry = c;
    now = subst (λ (g : ManagerState). numbered g.config.parts c.part ≡ Some c) f.manager here;
    its_part = refl;
    its_epoch = refl;
    its_master = refl;
  }

  lists_stay : NewerLists w v
  lists_stay l was = inl (adopted_back w v out f.sent mover f.all (ap (λ (g : ManagerState). g.shape) f.manager) f.not_manager l was)

  -- a node of another kind than the mover's
  another : (k : NodeKind) → mover.kind ≢ k → (node : NodeId) → node.kind ≡ k → node ≢ mover
  another k other node is same = other (sym (ap (λ (x : NodeId). x.kind) same) ∙ is)

  worth_was : (node : NodeId) (x : Worth) → WasSent v (says node (client_node x.id.client) (body.Worth x)) → WasSent w (says node (client_node x.id.client) (body.Worth x))
  worth_was node x sent =
      let of : IsOf v kind.Master node = (fits now (says node (client_node x.id.client) (body.Worth x)) sent).sender in
      sent_back w v out f.sent mover f.all _ sent (another kind.Master not_master node of.0)

  quick_was : (node : NodeId) (q : QuickValue) → WasSent v (says node (client_node q.id.client) (body.Quick q)) → WasSent w (says node (client_node q.id.client) (body.Quick q))
  quick_was node q sent =
      let of : IsOf v kind.Master node = (fits now (says node (client_node q.id.client) (body.Quick q)) sent).sender in
      sent_back w v out f.sent mover f.all _ sent (another kind.Master not_master node of.0)

  pub none_late : mover.kind ≢ kind.Backup → NoneLate w v
  none_late other node to b a long is below stored sent = sent_back w v out f.sent mover f.all _ sent (another kind.Backup other node is.its_kind)

  pub none_lives : mover.kind ≢ kind.Witness → NoneLives w v
  none_lives other node to x a is frozen live sent = sent_back w v out f.sent mover f.all _ sent (another kind.Witness other node is.its_kind)

  -- so such a step, whose moves adopt nothing, keeps what is kept of reads
  pub frame_reads : Predecessors w → Predecessors v → (ordered : Ordered w) → Follows w v → (r : Refines w v) → Each NoAdoption r.moves → v.masters ≡ w.masters
      → ((part : ℕ) → cuts part v.marks ≡ cuts part w.marks) → ReadsWere w v → NoneLate w v → NoneLives w v → ReadsOk v
  frame_reads chain later ordered s r none masters cuts_same looks late lives = reads_later known chain ordered s now later r (record {
    cuts_follow = cuts_stay known chain now s entry_stays lists_stay cuts_same ordered.cuts_follow;
    cuts_timed = timed_stay known chain ordered now s r lives cuts_same;
    looks = looks;
    entries = λ c here. inl (entry_stays c here);
    newer = lists_stay;
    late = late;
    keeps = λ part long stored. none_drops r.moves none part long;
    lives = lives;
    quicks = quick_was;
    worths = worth_was;
    masters = λ node m is. inl (record { its_kind = is.its_kind; its_state = subst (λ (ms : List MasterStage). numbered ms node.number ≡ Some (Serving m)) masters is.its_state });
    waits = λ node m is c ok. inl (none_drops r.moves none m.part c.length);
  })

-- ---- clients

module _ {w : World} (known : Known w) (ordered : Ordered w) (n : ℕ) (c : ClientState) where
  -- what a value completes is the look whose value was sent, which is stored
  value_stored : (done : Completed) → ByValue (MayCome w n) done.id done.answer done.by → FlagsStored w done
  value_stored done e k number long m at look flags = go hit
    where
      hit : (m.master ≡ e.from) × (is_capture e.value.capture m.place ≡ true)
      hit = hit_capture done (record { master = e.from; epoch = e.value.epoch; number = e.value.capture }) m (subst (λ (o : Option Capture). is_flagged done o m ≡ true) e.its_capture flags)

      ok : WorthOk w e.from e.value
      ok =
          let its : WorthSaid w e.from (client_node n) e.value = said known e.from (client_node n) (body.Worth e.value) e.came in
          ordered.worths e.from e.value (subst (λ (to : NodeId). WasSent w (says e.from to (body.Worth e.value))) its.addressee e.came)

      lengths : {a b x y : ℕ} → Looked a x ≡ Looked b y → x ≡ y
      lengths e = cc

      go : (m.master ≡ e.from) × (is_capture e.value.capture m.place ≡ true) → StoredFrom w m.master m.part long
      go h =
          let g = ok.look in
          let one : k ≡ g.place = ordered.numbered_looks.once k g.place e.value.capture m g.mark at g.stands h.1 (looked_capture e.value.capture ok.long g.mark.place g.is_look) (h.0 ∙ sym g.its_master) in
          let same : m ≡ g.mark = at_same w.marks k m g.mark at (subst (λ (j : ℕ). At w.marks j g.mark) (sym one) g.stands) in
          let long_is : long ≡ ok.long = lengths (sym look ∙ ap (λ (y : Mark). y.place) same ∙ g.is_look) in
          record {
            lists = ok.lists;
            adopted = ok.adopted;
            its_master = ok.its_master ∙ sym h.0;
            its_part = sym g.its_part ∙ ap (λ (y : Mark). y.part) (sym same);
            stored = subst (λ (node : NodeId). IsStored w node ok.lists.version long) (sym h.0) (subst (λ (x : ℕ). IsStored w e.from ok.lists.version x) (sym long_is) ok.stored);
          }

  -- what a Quick completes is no look
  quick_stored : (done : Completed) → ByQuick (MayCome w n) (EntryWas w) done.id done.answer done.by → FlagsStored w done
  quick_stored done e k number long m at look flags =
      let its : QuickSaid w e.came.place e.part.master (client_node n) e.quick = known.inv.messages e.came.place _ e.came.stands in
      let ok : QuickOk w e.part.master e.quick = ordered.quicks e.part.master e.quick (subst (λ (to : NodeId). WasSent w (says e.part.master to (body.Quick e.quick))) its.addressee e.came) in
      let g = ok.gives in
      let hit = hit_capture done (capture_of e.part.master e.quick) m (subst (λ (o : Option Capture). is_flagged done o m ≡ true) e.its_capture flags) in
      let one : k ≡ g.place = ordered.numbered_looks.once k g.place e.quick.capture m g.mark at g.stands hit.1 (quick_capture e.quick.capture g.mark.place g.is_quick) (hit.0 ∙ sym g.its_master) in
      let same : m ≡ g.mark = at_same w.marks k m g.mark at (subst (λ (j : ℕ). At w.marks j g.mark) (sym one) g.stands) in
      absurd (apart (sym look ∙ ap (λ (y : Mark). y.place) same ∙ g.is_quick))
    where
      apart : {a b c : ℕ} → Looked a b ≡ Quick c → ⊥
      apart e = cc

  -- what completes is stored, where it is a look
  completes_stored : (done : Completed) → CompletionOk (MayCome w n) (EntryWas w) c done → FlagsStored w done
  completes_stored done ok k number long m at look flags = elim ok.evidence [
    | inl u ↦ absurd (no_look m.place number long (both (same_id m.id done.id) (is_update_mark m.place) (subst (λ (o : Option Capture). is_flagged done o m ≡ true) u.no_capture flags)) look)
    | inr r ↦ elim r.evidence [
      | inl e ↦ value_stored done e k number long m at look flags
      | inr e ↦ quick_stored done e k number long m at look flags
    ]
  ]
    where
      both : (a b : Bool) → (a && b) ≡ true → b ≡ true
      both true b e = e
      both false b e = absurd cc

module _ {w v : World} (known : Known w) (now : Known v) (chain : Predecessors w) (later : Predecessors v) (ordered : Ordered w)
    (n : ℕ) (given : Input) (c : ClientState) (moved : ClientMoved w v n given c) where
  more : SaysMore w v (client_input n c given).messages (client_node n)
  more = record {
    sent = moved.sent;
    all = client_messages known n given moved.for c moved.was moved.made;
    not_manager = λ e. kinds (ap (λ (x : NodeId). x.kind) e);
    manager = moved.manager;
  }
    where
      kinds : kind.Manager ≡ kind.Client → ⊥
      kinds e = cc

  not_master : (client_node n).kind ≢ kind.Master
  not_master e = cc

  not_backup : (client_node n).kind ≢ kind.Backup
  not_backup e = cc

  follows : Follows w v
  follows = record { grows = moved.grows; later = moved.later; names = known.names; steady = known.steady; ready = nothing_ready more known.names not_master }

  -- an input to a client keeps what is kept of reads
  pub client_reads : v.marks ≡ with_completion (client_input n c given).completed w.marks → (r : Refines w v) → Each NoAdoption r.moves → ReadsOk v
  client_reads marks r none =
      frame_reads known now more not_master chain later ordered follows r none moved.masters
      (λ part. ap (cuts part) marks ∙ cuts_after part (client_input n c given).completed w.marks)
      (go (client_input n c given).completed (effect known n given moved.for c moved.was moved.made).completes marks) (none_late known now more not_master not_backup) (none_lives known now more not_master (λ e. absurd cc))
    where
      go : (o : Option Completed) → MayComplete (MayCome w n) (EntryWas w) c o → v.marks ≡ with_completion o w.marks → ReadsWere w v
      go None ok same = looks_same same
      go (Some done) ok same = looks_flagged follows done (completes_stored known ordered n c done ok) same
