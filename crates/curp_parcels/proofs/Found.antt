-- What is said, as the code finds it.
use Rattle.std.specs.Prelude.{◌≡◌, ◌≢◌, ℕ, ◌+◌, Option, None, List, ◌∷◌, length, drop, Result, Ok, Err, IfOk, refl}
use Rattle.std.proofs.Common.{sym, ◌∙◌, ap, subst}
use Rattle.std.specs.declared.alloc.AllocError.{AllocError}
use Rattle.curp_base.specs.Words.{AreBytes}
use Rattle.curp_base.specs.declared.failed.Failed.{Failed}
use Rattle.curp_base.specs.declared.failed.Failed.TheVariants as failed
use Rattle.curp_items.proofs.Combining.{input}
use Rattle.curp_items.specs.Format.{Format, Input, ◌▸◌}
use Rattle.curp_items.specs.Items.{u64}
use Rattle.curp_items.specs.declared.fault.Fault.{Fault}
use Rattle.curp_msg.specs.declared.message.Message.{Message}
use Rattle.curp_batches.proofs.Encodings.{both_begin, fault_not, first_fails, second_fails, taken_begins}
use Rattle.curp_batches.specs.Arrivals.{frame}
use Rattle.curp_batches.specs.Prefixes.{Begins, BeginsNot, PrefixFails}
use Rattle.curp_parcels.specs.Outgoing.{Name, name, outgoing, plain_read, sent}
use Rattle.curp_parcels.specs.Parcels.{IsEncoding, IsIn, incoming}
use Rattle.curp_parcels.specs.declared.outgoing.Outgoing.{Outgoing}
use Rattle.curp_parcels.proofs.Formats.{arrival_none, more_begins, name_is, no_plain, no_sent, none_begins, plain_there, sent_is}
use Rattle.curp_batches.specs.Arrivals.{arrival}
use Rattle.curp_journal.specs.declared.arrived.Arrived.{Arrived}

-- ---- a name

pub name_found : (bytes : List ℕ) (start after : Input) (p : Name) (n : ℕ) → AreBytes bytes → start ≡ input 0 bytes → (u64 ▸ (u64 ▸ u64)).read start ≡ Ok (p, after) → n ≡ after.place → Begins name bytes p n
unfolding name
name_found bytes start after p n h from e is =
    subst (Begins name bytes p) (sym is) (taken_begins name name_is bytes p after h (ap (u64 ▸ (u64 ▸ u64)).read (sym from) ∙ e))

pub name_not : (bytes : List ℕ) (start : Input) (place : ℕ) → start ≡ input 0 bytes → (u64 ▸ (u64 ▸ u64)).read start ≡ Err place → BeginsNot name bytes
unfolding name
name_not bytes start place from e = fault_not name name_is bytes place (ap (u64 ▸ (u64 ▸ u64)).read (sym from) ∙ e)

-- ---- a message

pub sent_begins : (bytes : List ℕ) (p : Name) (m : Message) (n k : ℕ) → Begins name bytes p n → Begins frame (drop n bytes) m k → Begins sent bytes (p, m) (n + k)
unfolding sent
sent_begins bytes p m n k b c = both_begin name frame name_is bytes p m n k b c

pub sent_longer : (bytes : List ℕ) (p : Name) (m : Message) (n : ℕ) → Begins sent bytes (p, m) n → n ≢ length bytes → IsIn outgoing (1 ∷ bytes) None
sent_longer bytes p m n b more = no_sent bytes (more_begins sent sent_is bytes (p, m) n b more)

nameless : (bytes : List ℕ) (why : Failed Fault) → PrefixFails name bytes why → why ≢ failed.NoMemory → BeginsNot sent bytes
unfolding sent
nameless bytes failed.NoMemory none other = absurd (other refl)
nameless bytes (failed.Because fault) none other = first_fails name frame name_is bytes none

frameless : (bytes : List ℕ) (p : Name) (n : ℕ) (why : Failed Fault) → Begins name bytes p n → PrefixFails frame (drop n bytes) why → why ≢ failed.NoMemory → BeginsNot sent bytes
unfolding sent
frameless bytes p n failed.NoMemory b none other = absurd (other refl)
frameless bytes p n (failed.Because fault) b none other = second_fails name frame name_is bytes p n b none

said_none : (bytes : List ℕ) → BeginsNot sent bytes → IsIn outgoing (1 ∷ bytes) None
said_none bytes none = no_sent bytes (none_begins sent sent_is bytes none)

-- the answer of a call that gave none
none_so : {A : Type 0} (f : Format A) (bytes : List ℕ) (why : Failed Fault) (r : Result (Option A) AllocError) → (why ≢ failed.NoMemory → IsIn f bytes None)
    → IfOk r (λ read. (read ≡ None) × (why ≢ failed.NoMemory)) → IfOk r (IsIn f bytes)
none_so f bytes why (Err e) none is = tt
none_so {A} f bytes why (Ok read) none is = subst (λ (o : Option A). IsIn f bytes o) (sym is.0) (none is.1)

pub nameless_so : (bytes : List ℕ) (why : Failed Fault) (r : Result (Option Outgoing) AllocError) → PrefixFails name bytes why → IfOk r (λ read. (read ≡ None) × (why ≢ failed.NoMemory)) → IfOk r (IsIn outgoing (1 ∷ bytes))
nameless_so bytes why r none is = none_so outgoing (1 ∷ bytes) why r (λ other. said_none bytes (nameless bytes why none other)) is

pub frameless_so : (bytes : List ℕ) (p : Name) (n : ℕ) (why : Failed Fault) (r : Result (Option Outgoing) AllocError) → Begins name bytes p n → PrefixFails frame (drop n bytes) why → IfOk r (λ read. (read ≡ None) × (why ≢ failed.NoMemory)) → IfOk r (IsIn outgoing (1 ∷ bytes))
frameless_so bytes p n why r b none is = none_so outgoing (1 ∷ bytes) why r (λ other. said_none bytes (frameless bytes p n why b none other)) is

-- ---- all else

pub plain_there_so : (bytes : List ℕ) (tag : ℕ) (rest : List ℕ) (said : Outgoing) → AreBytes bytes → bytes ≡ tag ∷ rest → tag ≢ 1 → plain_read bytes ≡ Ok said → IsEncoding outgoing said bytes
plain_there_so bytes tag rest said are is other read =
    subst (λ (l : List ℕ). IsEncoding outgoing said l) (sym is) (plain_there tag rest said (subst AreBytes is are) other (ap plain_read (sym is) ∙ read))

pub no_plain_so : (bytes : List ℕ) (tag : ℕ) (rest : List ℕ) (place : ℕ) → bytes ≡ tag ∷ rest → tag ≢ 1 → plain_read bytes ≡ Err place → IsIn outgoing bytes None
no_plain_so bytes tag rest place is other read =
    subst (λ (l : List ℕ). IsIn outgoing l None) (sym is) (no_plain tag rest place other (ap plain_read (sym is) ∙ read))

-- ---- an arrival

arrival_not : (bytes : List ℕ) (why : Failed Fault) → PrefixFails arrival bytes why → why ≢ failed.NoMemory → IsIn incoming bytes None
arrival_not bytes failed.NoMemory fails other = absurd (other refl)
arrival_not bytes (failed.Because fault) fails other = arrival_none bytes fails

pub no_arrival_so : (bytes : List ℕ) (why : Failed Fault) (r : Result (Option Arrived) AllocError) → PrefixFails arrival bytes why → IfOk r (λ read. (read ≡ None) × (why ≢ failed.NoMemory)) → IfOk r (IsIn incoming bytes)
no_arrival_so bytes why r fails is = none_so incoming bytes why r (λ other. arrival_not bytes why fails other) is
