-- Arrivals are a format, and what is read at the start of bytes stands there.
use Rattle.std.specs.Prelude.{◌≡◌, ◌≢◌, ℕ, suc, ◌+◌, ◌-◌, ◌<◌, ◌≤◌, List, ◌∷◌, ◌++◌, length, take, drop, get_or, false, Result, Ok, Err, refl}
use Rattle.std.proofs.Common.{sym, ◌∙◌, ap, subst, arith, append_assoc, length-append, length-drop, take-append-drop}
use Rattle.std.proofs.lemmas.List.{drop_at, length-take-le, take_all}
use Rattle.curp_base.specs.Words.{AreBytes}
use Rattle.curp_base.specs.declared.failed.Failed.{Failed}
use Rattle.curp_base.specs.declared.failed.Failed.TheVariants as failed
use Rattle.curp_items.proofs.Combining.{Again, IsFormat, SoundVariants, done, fields_again, input, ok_is, one_of_is, shaped_is, then_is, variant_sound}
use Rattle.curp_items.proofs.Formats.{node_is, u64_is}
use Rattle.curp_items.specs.Calls.{ReadsNot}
use Rattle.curp_items.specs.Format.{Format, Input, ◌▸◌}
use Rattle.curp_items.specs.Items.{is_node, node, u64}
use Rattle.curp_items.specs.declared.fault.Fault.{Fault}
use Rattle.curp_journal.specs.declared.arrived.Arrived.{Arrived}
use Rattle.curp_journal.specs.declared.arrived.Arrived.TheVariants as arrived
use Rattle.curp_journal.specs.declared.arrived.Named.{Named}
use Rattle.curp_msg.specs.declared.machine.Local.{Local}
use Rattle.curp_msg.specs.declared.message.Message.{Message}
use Rattle.curp_fields.proofs.Having.{node_passes}
use Rattle.curp_wire.proofs.Frames.{IsFound, frame_again, frame_found, frame_had}
use Rattle.curp_wire.specs.Frame.{Frame, frame_in, has_frame}
use Rattle.curp_wire.specs.declared.error.FrameError.{FrameError}
use Rattle.curp_wire.specs.Errors.{GivesIfMemory}
use Rattle.curp_batches.specs.Arrivals.{Name, arrival, arrival_parts, arrival_variants, frame, frame_of, frame_step, name, named, named_made, named_parts, stamped}
use Rattle.curp_batches.specs.Prefixes.{Begins, BeginsNot, PrefixFails, IsErrorOf}
use Rattle.curp_batches.specs.Orders.{orders}
use Rattle.curp_batches.proofs.OrderEncodings.{orders_are}

-- ---- frames

same_frame : (m : Message) (bytes : List ℕ) → Frame m bytes → Frame m (frame_of m)
same_frame m bytes f = record { message = f.message; short = f.short; is = refl }

pub frame_fits : (m : Message) (bytes : List ℕ) → Frame m bytes → frame.Fits m
unfolding frame
frame_fits m bytes f = same_frame m bytes f

pub frame_text : (m : Message) (bytes : List ℕ) → Frame m bytes → bytes ≡ frame.of m
unfolding frame
frame_text m bytes f = f.is

pub no_sender : (n : Named) → is_node n.from ≡ false → named.Fits n → ⊥
unfolding named name
no_sender n none fits = absurd (cc (sym none ∙ node_passes n.from fits.0.0))

pub unframed : (n : Named) → has_frame n.message ≡ false → named.Fits n → ⊥
unfolding named frame
unframed n none fits = absurd (cc (sym none ∙ frame_had n.message (frame_of n.message) fits.1))

found_begins : (bytes : List ℕ) (found : Message × ℕ) → IsFound bytes found → (bytes ≡ frame_of found.0 ++ drop found.1 bytes) × (found.1 ≡ length (frame_of found.0))
found_begins bytes found f =
    let prefix : take found.1 bytes ≡ frame_of found.0 = f.0.is in (
      sym (take-append-drop found.1 bytes) ∙ ap (λ (l : List ℕ). l ++ drop found.1 bytes) prefix,
      omega (arith, ap length prefix, length-take-le found.1 bytes f.1),
    )

step_takes : (place : ℕ) (rest : List ℕ) (r : Result (Message × ℕ) FrameError) (m : Message) (after : Input) → AreBytes rest → frame_in rest ≡ r → frame_step place rest r ≡ Ok (m, after) → Frame m (frame_of m) × (rest ≡ frame_of m ++ after.rest) × (after.place ≡ place + length (frame_of m))
step_takes place rest (Err why) m after h is e = absurd cc
step_takes place rest (Ok found) m after h is e =
    let p = ok_is (found.0, input (place + found.1) (drop found.1 rest)) (m, after) e in
    let f = frame_found rest found h is in
    let b = found_begins rest found f in
    subst (λ (q : Message × Input). Frame q.0 (frame_of q.0) × (rest ≡ frame_of q.0 ++ q.1.rest) × (q.1.place ≡ place + length (frame_of q.0))) p
    (same_frame found.0 (take found.1 rest) f.0, b.0, ap (λ (n : ℕ). place + n) b.1)

pub frame_is : IsFormat frame
unfolding frame
frame_is = record {
  sound = λ at m after h e.
      let t = step_takes at.place at.rest (frame_in at.rest) m after h refl e in
      record { fits = t.0; rest = t.1; place = t.2 };
  complete = λ m place rest fits.
      ap (frame_step place (frame_of m ++ rest)) (frame_again m (frame_of m) rest fits)
      ∙ ap (λ (l : List ℕ). done (m, input (place + length (frame_of m)) l)) (drop_at (frame_of m) rest (length (frame_of m)) refl);
}

-- ---- messages with their names, orders with their stamps

pub name_is : IsFormat name
unfolding name
name_is = then_is node (u64 ▸ (u64 ▸ u64)) node_is (then_is u64 (u64 ▸ u64) u64_is (then_is u64 u64 u64_is u64_is))

pub named_is : IsFormat named
unfolding named
named_is = shaped_is named_made named_parts (name ▸ frame) (λ x. refl) (λ y. refl) (then_is name frame name_is frame_is)

pub stamped_is : IsFormat stamped
unfolding stamped
stamped_is = then_is orders u64 orders_are u64_is

abbrev local_of : Local × ℕ → Arrived
local_of p = arrived.Local p.0 p.1

arrival_sound : SoundVariants arrival_parts arrival_variants
arrival_sound = (variant_sound arrival_parts 0 named arrived.Message (λ y. refl) named_is, (variant_sound arrival_parts 1 stamped local_of (λ y. refl) stamped_is, tt))

arrival_again : Again arrival_parts arrival_variants
arrival_again (arrived.Message n) start place rest fits = fields_again 0 named arrived.Message named_is n place rest fits
arrival_again (arrived.Local order stamp) start place rest fits = fields_again 1 stamped local_of stamped_is (order, stamp) place rest fits

pub arrival_is : IsFormat arrival
unfolding arrival
arrival_is = one_of_is arrival_parts arrival_variants arrival_sound arrival_again

-- ---- what a reader shows of the prefix

not_err : {A : Type 0} (x : A) (place : ℕ) → done x ≡ Err place → ⊥
not_err x place e = absurd cc

module _ {A : Type 0} (f : Format A) (is : IsFormat f) where
  -- no encoding begins another
  pub one_prefix : (x y : A) (a b : List ℕ) → f.Fits x → f.Fits y → f.of x ++ a ≡ f.of y ++ b → (x ≡ y) × (a ≡ b)
  one_prefix x y a b fx fy e =
      let p = ok_is (x, input (0 + length (f.of x)) a) (y, input (0 + length (f.of y)) b) (sym (is.complete x 0 a fx) ∙ ap (λ (l : List ℕ). f.read (input 0 l)) e ∙ is.complete y 0 b fy) in
      (ap (λ (q : A × Input). q.0) p, ap (λ (q : A × Input). q.1.rest) p)

  pub taken_begins : (bytes : List ℕ) (x : A) (after : Input) → AreBytes bytes → f.read (input 0 bytes) ≡ Ok (x, after) → Begins f bytes x after.place
  taken_begins bytes x after h e =
      let t = is.sound (input 0 bytes) x after h e in
      let size : after.place ≡ length (f.of x) = omega (arith, t.place) in
      record {
        fits = t.fits;
        is = t.rest ∙ ap (λ (l : List ℕ). f.of x ++ l) (sym (ap (drop after.place) t.rest ∙ drop_at (f.of x) after.rest after.place (sym size)));
        size = size;
      }

  pub fault_not : (bytes : List ℕ) (place : ℕ) → f.read (input 0 bytes) ≡ Err place → BeginsNot f bytes
  fault_not bytes place e x rest fits same =
      not_err (x, input (0 + length (f.of x)) rest) place (sym (is.complete x 0 rest fits) ∙ sym (ap (λ (l : List ℕ). f.read (input 0 l)) same) ∙ e)

  pub read_fails : (bytes : List ℕ) (why : Failed Fault) → ReadsNot why (f.read (input 0 bytes)) → PrefixFails f bytes why
  read_fails bytes failed.NoMemory e = tt
  read_fails bytes (failed.Because fault) e = fault_not bytes fault.place e

-- one format behind another
module _ {A B : Type 0} (first : Format A) (second : Format B) (is : IsFormat first) where
  pub both_begin : (bytes : List ℕ) (x : A) (y : B) (n m : ℕ) → Begins first bytes x n → Begins second (drop n bytes) y m → Begins (first ▸ second) bytes (x, y) (n + m)
  both_begin bytes x y n m b c =
      let whole : bytes ≡ (first.of x ++ second.of y) ++ drop m (drop n bytes) = b.is ∙ ap (λ (l : List ℕ). first.of x ++ l) c.is ∙ sym (append_assoc (first.of x) (second.of y) (drop m (drop n bytes))) in
      let long : n + m ≡ length (first.of x ++ second.of y) = omega (arith, b.size, c.size, length-append (first.of x) (second.of y)) in
      record {
        fits = (b.fits, c.fits);
        is = whole ∙ ap (λ (l : List ℕ). (first.of x ++ second.of y) ++ l) (sym (ap (drop (n + m)) whole ∙ drop_at (first.of x ++ second.of y) (drop m (drop n bytes)) (n + m) (sym long)));
        size = long;
      }

  pub first_fails : (bytes : List ℕ) → BeginsNot first bytes → BeginsNot (first ▸ second) bytes
  first_fails bytes none x rest fits same = none x.0 (second.of x.1 ++ rest) fits.0 (same ∙ append_assoc (first.of x.0) (second.of x.1) rest)

  pub second_fails : (bytes : List ℕ) (x : A) (n : ℕ) → Begins first bytes x n → BeginsNot second (drop n bytes) → BeginsNot (first ▸ second) bytes
  second_fails bytes x n b none y rest fits same =
      let p = one_prefix first is x y.0 (drop n bytes) (second.of y.1 ++ rest) b.fits fits.0 (sym b.is ∙ same ∙ append_assoc (first.of y.0) (second.of y.1) rest) in
      none y.1 rest fits.1 p.1

-- ---- frames, as the call finds them

pub frame_prefix : (bytes : List ℕ) (found : Message × ℕ) → Frame found.0 (take found.1 bytes) → found.1 ≤ length bytes → Begins frame bytes found.0 found.1
unfolding frame
frame_prefix bytes found f within =
    let b = found_begins bytes found (f, within) in
    record { fits = same_frame found.0 (take found.1 bytes) f; is = b.0; size = b.1 }

pub no_frame : (bytes : List ℕ) (r : Result (Message × ℕ) (Failed FrameError)) (why : Failed FrameError) → r ≡ Err why → why ≢ failed.NoMemory → GivesIfMemory r (frame_in bytes) → BeginsNot frame bytes
unfolding frame
no_frame bytes r failed.NoMemory is other exact m rest fits same = absurd (other refl)
no_frame bytes r (failed.Because why) is other exact m rest fits same =
    let fails : frame_in bytes ≡ Err why = subst (λ (s : Result (Message × ℕ) (Failed FrameError)). GivesIfMemory s (frame_in bytes)) is exact in
    let found : frame_in bytes ≡ Ok (m, length (frame_of m)) = ap frame_in same ∙ frame_again m (frame_of m) rest fits in
    absurd (cc (sym fails ∙ found))

-- ---- a message with its name

pub named_begins : (bytes : List ℕ) (p : Name) (m : Message) (n k : ℕ) → Begins name bytes p n → Begins frame (drop n bytes) m k → Begins named bytes (named_made (p, m)) (n + k)
unfolding named
named_begins bytes p m n k b c =
    let both = both_begin name frame name_is bytes p m n k b c in
    record { fits = both.fits; is = both.is; size = both.size }

pub named_not : (bytes : List ℕ) → BeginsNot (name ▸ frame) bytes → BeginsNot named bytes
unfolding named
named_not bytes none n rest fits same = none (named_parts n) rest fits same

pub nameless : (bytes : List ℕ) (why : Failed Fault) → PrefixFails name bytes why → PrefixFails named bytes why
nameless bytes failed.NoMemory none = tt
nameless bytes (failed.Because fault) none = named_not bytes (first_fails name frame name_is bytes none)

pub frameless : (bytes : List ℕ) (p : Name) (n : ℕ) (why : Failed Fault) → Begins name bytes p n → PrefixFails frame (drop n bytes) why → PrefixFails named bytes why
frameless bytes p n failed.NoMemory b none = tt
frameless bytes p n (failed.Because fault) b none = named_not bytes (second_fails name frame name_is bytes p n b none)

-- ---- an arrival

one_more : (k : ℕ) → suc k ≡ k + 1
one_more k = omega arith

pub message_begins : (rest : List ℕ) (n : Named) (k : ℕ) → Begins named rest n k → Begins arrival (0 ∷ rest) (arrived.Message n) (k + 1)
unfolding arrival
message_begins rest n k b =
    let whole : Begins arrival (0 ∷ rest) (arrived.Message n) (suc k) = record { fits = b.fits; is = ap (λ (l : List ℕ). 0 ∷ l) b.is; size = omega (arith, b.size) } in
    subst (Begins arrival (0 ∷ rest) (arrived.Message n)) (one_more k) whole

pub order_begins : (rest : List ℕ) (p : Local × ℕ) (k : ℕ) → Begins stamped rest p k → Begins arrival (1 ∷ rest) (arrived.Local p.0 p.1) (k + 1)
unfolding arrival
order_begins rest p k b =
    let whole : Begins arrival (1 ∷ rest) (arrived.Local p.0 p.1) (suc k) = record { fits = b.fits; is = ap (λ (l : List ℕ). 1 ∷ l) b.is; size = omega (arith, b.size) } in
    subst (Begins arrival (1 ∷ rest) (arrived.Local p.0 p.1)) (one_more k) whole

-- ---- what has an encoding isn't empty

pub arrival_long : (x : Arrived) → 1 ≤ length (arrival.of x)
unfolding arrival
arrival_long (arrived.Message n) = omega arith
arrival_long (arrived.Local order stamp) = omega arith

pub no_arrival : (bytes : List ℕ) → ((rest : List ℕ) → bytes ≢ 0 ∷ rest) → ((rest : List ℕ) → bytes ≢ 1 ∷ rest) → BeginsNot arrival bytes
unfolding arrival
no_arrival bytes no0 no1 x rest fits same = go x fits same
  where
    go : (x : Arrived) → arrival.Fits x → bytes ≡ arrival.of x ++ rest → ⊥
    go (arrived.Message n) f e = no0 (named.of n ++ rest) e
    go (arrived.Local order stamp) f e = no1 (stamped.of (order, stamp) ++ rest) e

pub message_fails : (rest : List ℕ) (why : Failed Fault) → PrefixFails named rest why → PrefixFails arrival (0 ∷ rest) why
unfolding arrival
message_fails rest failed.NoMemory none = tt
message_fails rest (failed.Because fault) none = λ x more fits same. go x more fits same
  where
    go : (x : Arrived) (more : List ℕ) → arrival.Fits x → 0 ∷ rest ≡ arrival.of x ++ more → ⊥
    go (arrived.Message n) more f e = none n more f (ap (λ (l : List ℕ). drop 1 l) e)
    go (arrived.Local order stamp) more f e = absurd cc

pub order_fails : (rest : List ℕ) (why : Failed Fault) → PrefixFails stamped rest why → PrefixFails arrival (1 ∷ rest) why
unfolding arrival
order_fails rest failed.NoMemory none = tt
order_fails rest (failed.Because fault) none = λ x more fits same. go x more fits same
  where
    go : (x : Arrived) (more : List ℕ) → arrival.Fits x → 1 ∷ rest ≡ arrival.of x ++ more → ⊥
    go (arrived.Message n) more f e = absurd cc
    go (arrived.Local order stamp) more f e = none (order, stamp) more f (ap (λ (l : List ℕ). drop 1 l) e)

-- ---- as the code tells it

pub name_found : (bytes : List ℕ) (start after : Input) (p : Name) (n : ℕ) → AreBytes bytes → start ≡ input 0 bytes → (node ▸ (u64 ▸ (u64 ▸ u64))).read start ≡ Ok (p, after) → n ≡ after.place → Begins name bytes p n
unfolding name
name_found bytes start after p n h from e is =
    subst (Begins name bytes p) (sym is) (taken_begins name name_is bytes p after h (ap (node ▸ (u64 ▸ (u64 ▸ u64))).read (sym from) ∙ e))

pub name_not : (bytes : List ℕ) (start : Input) (place : ℕ) → start ≡ input 0 bytes → (node ▸ (u64 ▸ (u64 ▸ u64))).read start ≡ Err place → BeginsNot name bytes
unfolding name
name_not bytes start place from e = fault_not name name_is bytes place (ap (node ▸ (u64 ▸ (u64 ▸ u64))).read (sym from) ∙ e)

pub stamped_found : (bytes : List ℕ) (start after : Input) (p : Local × ℕ) (n : ℕ) → AreBytes bytes → start ≡ input 0 bytes → stamped.read start ≡ Ok (p, after) → n ≡ after.place → Begins stamped bytes p n
stamped_found bytes start after p n h from e is =
    subst (Begins stamped bytes p) (sym is) (taken_begins stamped stamped_is bytes p after h (ap stamped.read (sym from) ∙ e))

pub stamped_not : (bytes : List ℕ) (start : Input) (why : Failed Fault) → start ≡ input 0 bytes → ReadsNot why (stamped.read start) → PrefixFails stamped bytes why
stamped_not bytes start why from e = read_fails stamped stamped_is bytes why (subst (λ (i : Input). ReadsNot why (stamped.read i)) from e)

-- an encoding that stands at the start of bytes is no longer than they
pub prefix_within : {A : Type 0} (f : Format A) (bytes : List ℕ) (x : A) (n : ℕ) → Begins f bytes x n → n ≤ length bytes
prefix_within f bytes x n b = omega (arith, b.size, ap length b.is, length-append (f.of x) (drop n bytes))

pub empty_not : (bytes : List ℕ) → length bytes < 1 → BeginsNot arrival bytes
empty_not bytes short x rest fits same = absurd (omega (arith, short, ap length same, length-append (arrival.of x) rest, arrival_long x))

pub no_tag : (tag : ℕ) (rest : List ℕ) → tag ≢ 0 → tag ≢ 1 → BeginsNot arrival (tag ∷ rest)
no_tag tag rest other another =
    no_arrival (tag ∷ rest) (λ more e. other (ap (λ (l : List ℕ). get_or l 0 0) e)) (λ more e. another (ap (λ (l : List ℕ). get_or l 0 0) e))

pub frame_fails : (bytes : List ℕ) (r : Result (Message × ℕ) (Failed FrameError)) (why : Failed FrameError) (e : Failed Fault) → r ≡ Err why → IsErrorOf why e → GivesIfMemory r (frame_in bytes) → PrefixFails frame bytes e
frame_fails bytes r why failed.NoMemory is of exact = tt
frame_fails bytes r why (failed.Because fault) is of exact = no_frame bytes r why is of exact

pub rest_is : (n : ℕ) (bytes : List ℕ) → take (length bytes - n) (drop n bytes) ≡ drop n bytes
rest_is n bytes = take_all (length bytes - n) (drop n bytes) (omega (arith, length-drop n bytes))

pub message_tagged : (tag : ℕ) (rest : List ℕ) (n : Named) (k : ℕ) → tag ≡ 0 → Begins named rest n k → Begins arrival (tag ∷ rest) (arrived.Message n) (k + 1)
message_tagged tag rest n k is b = subst (λ (t : ℕ). Begins arrival (t ∷ rest) (arrived.Message n) (k + 1)) (sym is) (message_begins rest n k b)

pub order_tagged : (tag : ℕ) (rest : List ℕ) (p : Local × ℕ) (k : ℕ) → tag ≡ 1 → Begins stamped rest p k → Begins arrival (tag ∷ rest) (arrived.Local p.0 p.1) (k + 1)
order_tagged tag rest p k is b = subst (λ (t : ℕ). Begins arrival (t ∷ rest) (arrived.Local p.0 p.1) (k + 1)) (sym is) (order_begins rest p k b)
