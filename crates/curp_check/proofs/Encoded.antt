-- Values that are kept as their encodings stand where they are, whatever bytes come behind them.
use Rattle.std.proofs.Common.{◌≡◌, ◌+◌, ◌∙◌, ◌-◌, ◌<◌, ℕ, List, [], ◌∷◌, ◌++◌, get_or, length, map, take, refl, sym, ap, subst, append_assoc, arith}
use Rattle.std.proofs.Math.Seq.{drop-append_seam}
use Rattle.std.proofs.lemmas.List.{append-nil, drop-append-le, length-append, length-map, map-append, take-map}
use Rattle.curp_base.proofs.Lists.{Each-append, Each-at, at_map}
use Rattle.curp_base.specs.Words.{At, Each, IsPrefix}
use Rattle.curp_cmd.specs.declared.command.Answer.{Answer}
use Rattle.curp_cmd.specs.declared.command.Answer.TheVariants.{Done}
use Rattle.curp_cmd.specs.declared.command.Command.{Command}
use Rattle.curp_cmd.specs.declared.command.Command.TheVariants.{Get}
use Rattle.curp_cmd.specs.declared.command.RequestId.{RequestId}
use Rattle.curp_items.proofs.Combining.{IsFormat, input}
use Rattle.curp_items.proofs.Formats.{answer_is, command_is}
use Rattle.curp_items.specs.Encoding.{start_of}
use Rattle.curp_items.specs.Format.{Format}
use Rattle.curp_items.specs.Items.{answer, command}
use Rattle.curp_order.specs.declared.Event.{Event}
use Rattle.curp_order.specs.declared.Event.TheVariants.{Invoke, Complete}
use Rattle.curp_check.proofs.Items.{at_place}
use Rattle.curp_check.specs.Packed.{HasCommand, HasValue, IsEncodedAt, IsMarked, IsPacked, IsPackedAs, StandsAt, answer_at, asked_packed, command_at, event_by, event_packed, value_or}
use Rattle.curp_check.specs.declared.events.Mark.{Mark}
use Rattle.curp_check.specs.declared.events.Mark.TheVariants as kind
use Rattle.curp_check.specs.declared.events.PackedEvent.{PackedEvent}

-- ---- one value

pub encoded_new : {A : Type 0} (f : Format A) (bytes : List ℕ) (x : A) → f.Fits x → IsEncodedAt f (bytes ++ f.of x) (length bytes) x
encoded_new f bytes x fits = record {
  fits = fits;
  within = omega (arith, length-append bytes (f.of x));
  rest = [];
  laid = drop-append_seam bytes (f.of x) ∙ sym (append-nil (f.of x));
}

encoded_more : {A : Type 0} (f : Format A) (bytes more : List ℕ) (place : ℕ) (x : A) → IsEncodedAt f bytes place x → IsEncodedAt f (bytes ++ more) place x
encoded_more f bytes more place x e = record {
  fits = e.fits;
  within = omega (arith, length-append bytes more, e.within);
  rest = e.rest ++ more;
  laid = drop-append-le place bytes more e.within ∙ ap (λ (b : List ℕ). b ++ more) e.laid ∙ append_assoc (f.of x) e.rest more;
}

encoded_longer : {A : Type 0} (f : Format A) (bytes longer : List ℕ) (place : ℕ) (x : A) → IsPrefix bytes longer → IsEncodedAt f bytes place x → IsEncodedAt f longer place x
encoded_longer f bytes longer place x p e = subst (λ (b : List ℕ). IsEncodedAt f b place x) p.is (encoded_more f bytes p.rest place x e)

stands : {A : Type 0} (f : Format A) → IsFormat f → (bytes : List ℕ) (place : ℕ) (x : A) → IsEncodedAt f bytes place x → StandsAt f bytes place x
stands f is bytes place x e =
    (input (0 + length (f.of x)) e.rest, ap (λ (b : List ℕ). f.read (start_of b)) e.laid ∙ is.complete x 0 e.rest e.fits)

pub command_stands : (bytes : List ℕ) (place : ℕ) (c : Command) → IsEncodedAt command bytes place c → StandsAt command bytes place c
command_stands bytes place c e = stands command command_is bytes place c e

pub answer_stands : (bytes : List ℕ) (place : ℕ) (a : Answer) → IsEncodedAt answer bytes place a → StandsAt answer bytes place a
answer_stands bytes place a e = stands answer answer_is bytes place a e

-- what stands there is what is seen there
pub command_seen : (bytes : List ℕ) (place : ℕ) (c : Command) → StandsAt command bytes place c → command_at bytes place ≡ c
command_seen bytes place c s = ap (value_or (Get [])) s.1

pub answer_seen : (bytes : List ℕ) (place : ℕ) (a : Answer) → StandsAt answer bytes place a → answer_at bytes place ≡ a
answer_seen bytes place a s = ap (value_or Done) s.1

command_same : (bytes longer : List ℕ) (place : ℕ) (c : Command) → IsEncodedAt command bytes place c → IsEncodedAt command longer place c → command_at longer place ≡ command_at bytes place
command_same bytes longer place c e n =
    command_seen longer place c (command_stands longer place c n) ∙ sym (command_seen bytes place c (command_stands bytes place c e))

answer_same : (bytes longer : List ℕ) (place : ℕ) (a : Answer) → IsEncodedAt answer bytes place a → IsEncodedAt answer longer place a → answer_at longer place ≡ answer_at bytes place
answer_same bytes longer place a e n =
    answer_seen longer place a (answer_stands longer place a n) ∙ sym (answer_seen bytes place a (answer_stands bytes place a e))

-- ---- events

by_longer : (bytes longer : List ℕ) → IsPrefix bytes longer → (m : Mark) (place : ℕ) → HasValue bytes m place
    → HasValue longer m place × (event_by longer m place ≡ event_by bytes m place)
by_longer bytes longer p (kind.Invoke id) place has =
    let now = encoded_longer command bytes longer place has.0 p has.1 in
    ((has.0, now), ap (λ (c : Command). Invoke id c) (command_same bytes longer place has.0 has.1 now))
by_longer bytes longer p (kind.Complete id) place has =
    let now = encoded_longer answer bytes longer place has.0 p has.1 in
    ((has.0, now), ap (λ (a : Answer). Complete id a) (answer_same bytes longer place has.0 has.1 now))

pub events_longer : (bytes longer : List ℕ) → IsPrefix bytes longer → (ps : List PackedEvent) → Each (IsPacked bytes) ps
    → Each (IsPacked longer) ps × (map (event_packed longer) ps ≡ map (event_packed bytes) ps)
events_longer bytes longer prefix [] each = (tt, refl)
events_longer bytes longer prefix (p ∷ ps) each =
    let first = by_longer bytes longer prefix p.mark p.place each.0 in
    let others = events_longer bytes longer prefix ps each.1 in
    ((first.0, others.0), (λ i. first.1 i ∷ others.1 i))

-- one event more
pub events_pushed : (bytes longer : List ℕ) → IsPrefix bytes longer → (ps : List PackedEvent) (p : PackedEvent) (e : Event) → Each (IsPacked bytes) ps → IsPackedAs longer e p
    → Each (IsPacked longer) (ps ++ p ∷ []) × (map (event_packed longer) (ps ++ p ∷ []) ≡ map (event_packed bytes) ps ++ e ∷ [])
events_pushed bytes longer prefix ps p e each new =
    let old = events_longer bytes longer prefix ps each in (
      Each-append (IsPacked longer) ps (p ∷ []) old.0 (new.packed, tt),
      map-append (event_packed longer) ps (p ∷ []) ∙ (λ i. old.1 i ++ new.event i ∷ []),
    )

-- what stands at a place among packed things stands there too
pub packed_at : {A B : Type 0} (f : A → B) (xs : List A) (ys : List B) (k : ℕ) (x : A) → map f xs ≡ ys → k < length ys → x ≡ get_or xs k x → At xs k x
packed_at f xs ys k x is within here = at_place xs k x (omega (arith, within, ap length is, length-map xs f)) here

pub newest_forgotten : (bytes : List ℕ) (ps now : List PackedEvent) (n : ℕ) → n ≡ length ps - 1 → now ≡ take n ps
    → map (event_packed bytes) now ≡ take (length (map (event_packed bytes) ps) - 1) (map (event_packed bytes) ps)
newest_forgotten bytes ps now n count is =
    let few : n ≡ length (map (event_packed bytes) ps) - 1 = omega (arith, count, length-map ps (event_packed bytes)) in
    ap (map (event_packed bytes)) is ∙ sym (take-map (event_packed bytes) n ps) ∙ ap (λ (k : ℕ). take k (map (event_packed bytes) ps)) few

pub marked : (bytes : List ℕ) (ps : List PackedEvent) (k : ℕ) (p : PackedEvent) → At ps k p → IsMarked (map (event_packed bytes) ps) k p.mark
marked bytes ps k p at = by p.mark p.place (at_map (event_packed bytes) ps k p at)
  where
    by : (m : Mark) (place : ℕ) → At (map (event_packed bytes) ps) k (event_by bytes m place) → IsMarked (map (event_packed bytes) ps) k m
    by (kind.Invoke id) place at = (command_at bytes place, at)
    by (kind.Complete id) place at = (answer_at bytes place, at)

-- what is packed is what was put there
pub invocation_packed : (bytes longer : List ℕ) (place : ℕ) (id : RequestId) (c : Command) → place ≡ length bytes → longer ≡ bytes ++ command.of c → command.Fits c
    → IsPackedAs longer (Invoke id c) (record { mark = kind.Invoke id; place = place })
invocation_packed bytes longer place id c at is fits =
    let there : IsEncodedAt command longer place c = rw (at, is) (encoded_new command bytes c fits) in
    record { packed = (c, there); event = ap (λ (d : Command). Invoke id d) (command_seen longer place c (command_stands longer place c there)) }

pub completion_packed : (bytes longer : List ℕ) (place : ℕ) (id : RequestId) (a : Answer) → place ≡ length bytes → longer ≡ bytes ++ answer.of a → answer.Fits a
    → IsPackedAs longer (Complete id a) (record { mark = kind.Complete id; place = place })
completion_packed bytes longer place id a at is fits =
    let there : IsEncodedAt answer longer place a = rw (at, is) (encoded_new answer bytes a fits) in
    record { packed = (a, there); event = ap (λ (b : Answer). Complete id b) (answer_seen longer place a (answer_stands longer place a there)) }

-- what is there to be read
pub command_there : (bytes : List ℕ) (p : PackedEvent) (id : RequestId) → p.mark ≡ kind.Invoke id → IsPacked bytes p → (c : Command) × StandsAt command bytes p.place c
command_there bytes p id is has =
    let there = subst (λ (m : Mark). HasValue bytes m p.place) is has in
    (there.0, command_stands bytes p.place there.0 there.1)

pub answer_there : (bytes : List ℕ) (p : PackedEvent) (id : RequestId) → p.mark ≡ kind.Complete id → IsPacked bytes p → (a : Answer) × StandsAt answer bytes p.place a
answer_there bytes p id is has =
    let there = subst (λ (m : Mark). HasValue bytes m p.place) is has in
    (there.0, answer_stands bytes p.place there.0 there.1)

-- ---- requests of an order

pub asked_longer : (bytes longer : List ℕ) → IsPrefix bytes longer → (ps : List (RequestId × ℕ)) → Each (HasCommand bytes) ps
    → Each (HasCommand longer) ps × (map (asked_packed longer) ps ≡ map (asked_packed bytes) ps)
asked_longer bytes longer prefix [] each = (tt, refl)
asked_longer bytes longer prefix (p ∷ ps) each =
    let now = encoded_longer command bytes longer p.1 each.0.0 prefix each.0.1 in
    let same = command_same bytes longer p.1 each.0.0 each.0.1 now in
    let others = asked_longer bytes longer prefix ps each.1 in
    (((each.0.0, now), others.0), (λ i. (p.0, same i) ∷ others.1 i))

pub asked_pushed : (bytes longer : List ℕ) (ps : List (RequestId × ℕ)) (place : ℕ) (id : RequestId) (c : Command) → Each (HasCommand bytes) ps
    → place ≡ length bytes → longer ≡ bytes ++ command.of c → command.Fits c
    → Each (HasCommand longer) (ps ++ (id, place) ∷ []) × (map (asked_packed longer) (ps ++ (id, place) ∷ []) ≡ map (asked_packed bytes) ps ++ (id, c) ∷ [])
asked_pushed bytes longer ps place id c each at is fits =
    let there : IsEncodedAt command longer place c = rw (at, is) (encoded_new command bytes c fits) in
    let seen = command_seen longer place c (command_stands longer place c there) in
    let old = asked_longer bytes longer (record { rest = command.of c; is = sym is }) ps each in (
      Each-append (HasCommand longer) ps ((id, place) ∷ []) old.0 ((c, there), tt),
      map-append (asked_packed longer) ps ((id, place) ∷ []) ∙ (λ i. old.1 i ++ (id, seen i) ∷ []),
    )

-- the request at a place
pub command_held : (bytes read : List ℕ) (ps : List (RequestId × ℕ)) (k : ℕ) (p : RequestId × ℕ) → Each (HasCommand bytes) ps → read ≡ bytes → At ps k p
    → (c : Command) × StandsAt command read p.1 c
command_held bytes read ps k p each is at =
    let there = Each-at (HasCommand bytes) ps each k p at in
    (there.0, rw is (command_stands bytes p.1 there.0 there.1))

pub asked_read : (bytes read : List ℕ) (ps : List (RequestId × ℕ)) (k : ℕ) (p : RequestId × ℕ) (c : Command) → read ≡ bytes → At ps k p → StandsAt command read p.1 c
    → At (map (asked_packed bytes) ps) k (p.0, c)
asked_read bytes read ps k p c is at there =
    let seen : command_at bytes p.1 ≡ c = command_seen bytes p.1 c (rw is at there) in
    subst (λ (d : Command). At (map (asked_packed bytes) ps) k (p.0, d)) seen (at_map (asked_packed bytes) ps k p at)
