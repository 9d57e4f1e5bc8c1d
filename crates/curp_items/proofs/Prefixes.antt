-- What stands at the prefix of bytes is what reading them gives.
use Rattle.std.proofs.Common.{◌≡◌, ℕ, ◌+◌, ◌<◌, ◌≤◌, List, ◌++◌, length, take, drop, get_or, Option, Some, None, Result, Ok, Err, refl, sym, ap, subst, ◌∙◌, arith}
use Rattle.std.proofs.lemmas.List.{length-append, length-take-le, take_at, take-append-drop}
use Rattle.std.proofs.lemmas.List.Elements.{All-from_get_or}
use Rattle.curp_base.specs.Words.{AreBytes}
use Rattle.curp_base.specs.declared.failed.Failed.{Failed}
use Rattle.curp_base.specs.declared.failed.Failed.TheVariants as failed
use Rattle.curp_cmd.specs.declared.command.Request.{Request}
use Rattle.curp_cmd.specs.declared.entry.Entry.{Entry}
use Rattle.curp_cmd.specs.declared.entry.Entry.TheVariants.{Op, Take, Give, Expire}
use Rattle.curp_items.specs.Format.{Input}
use Rattle.curp_items.specs.Items.{entry}
use Rattle.curp_items.specs.Calls.{ReadsNot}
use Rattle.curp_items.specs.Encoding.{BeginsWithEntry, IsEntry, request_in, request_of, encoding, start_of}
use Rattle.std.specs.Prelude.{IfSome}
use Rattle.curp_items.specs.declared.fault.Fault.{Fault}
use Rattle.curp_items.proofs.Combining.{IsByte, done, input, ok_is}
use Rattle.curp_items.proofs.Formats.{entry_is}

-- the numbers of a slice of bytes
pub are_bytes : (bytes : List ℕ) → ((i : ℕ) → get_or bytes i 0 < 256) → AreBytes bytes
are_bytes bytes h = All-from_get_or IsByte bytes 0 (λ i l. h i)

pub begins_from : (bytes : List ℕ) (e : Entry) (after : Input) → AreBytes bytes → entry.read (start_of bytes) ≡ Ok (e, after) → BeginsWithEntry bytes e after.place
begins_from bytes e after are read =
    let t = entry_is.sound (start_of bytes) e after are read in
    let whole : length bytes ≡ length (encoding e) + length after.rest = ap length t.rest ∙ length-append (encoding e) after.rest in
    record {
      fits = t.fits;
      within = omega (arith, t.place, whole);
      is = ap (take after.place) t.rest ∙ take_at (encoding e) after.rest after.place (omega (arith, t.place));
    }

pub read_from : (bytes : List ℕ) (e : Entry) (len : ℕ) → BeginsWithEntry bytes e len → entry.read (start_of bytes) ≡ Ok (e, input len (drop len bytes))
read_from bytes e len b =
    let whole : bytes ≡ encoding e ++ drop len bytes = sym (take-append-drop len bytes) ∙ ap (λ (r : List ℕ). r ++ drop len bytes) b.is in
    let long : length (encoding e) ≡ len = ap length (sym b.is) ∙ length-take-le len bytes b.within in
    let there : 0 + length (encoding e) ≡ len = omega (arith, long) in
    ap (λ (r : List ℕ). entry.read (input 0 r)) whole ∙ entry_is.complete e 0 (drop len bytes) b.fits ∙ ap (λ (n : ℕ). done (e, input n (drop len bytes))) there

pub one_encoding : (a b : Entry) (x y : List ℕ) → IsEntry a → IsEntry b → encoding a ++ x ≡ encoding b ++ y → (a ≡ b) × (x ≡ y)
one_encoding a b x y p q e =
    let both : done (a, input (0 + length (encoding a)) x) ≡ done (b, input (0 + length (encoding b)) y) = sym (entry_is.complete a 0 x p) ∙ ap (λ (r : List ℕ). entry.read (input 0 r)) e ∙ entry_is.complete b 0 y q in
    let same = ok_is (a, input (0 + length (encoding a)) x) (b, input (0 + length (encoding b)) y) both in
    (ap (λ (p : Entry × Input). p.0) same, ap (λ (p : Entry × Input). p.1.rest) same)

-- ---- requests

-- the request was read of an entry that has it
pub request_read : (read : Result (Entry × Input) ℕ) (r : Request) → request_in read ≡ Some r → (acknowledge : ℕ) × (after : Input) × (read ≡ Ok (Op r acknowledge, after))
request_read (Ok x) r e = of_entry x.0 x.1 e
  where
    of_entry : (entry : Entry) (after : Input) → request_of entry ≡ Some r → (acknowledge : ℕ) × (at : Input) × (done {A = Entry × Input} (entry, after) ≡ done {A = Entry × Input} (Op r acknowledge, at))
    of_entry (Op q acknowledge) after e =
        let same : q ≡ r = cc in
        (acknowledge, after, ap (λ (s : Request). done {A = Entry × Input} (Op s acknowledge, after)) same)
    of_entry (Take migration taken) after e = absurd cc
    of_entry (Give migration given) after e = absurd cc
    of_entry (Expire client) after e = absurd cc
request_read (Err place) r e = absurd cc

pub request_found : (bytes : List ℕ) (o : Option Request) → AreBytes bytes → o ≡ request_in (entry.read (start_of bytes)) → (r : Request) → o ≡ Some r → (acknowledge len : ℕ) × BeginsWithEntry bytes (Op r acknowledge) len
request_found bytes o are e r s =
    let read = request_read (entry.read (start_of bytes)) r (sym e ∙ s) in
    (read.0, read.1.place, begins_from bytes (Op r read.0) read.1 are read.2)

-- a request that was found
pub found_of : (o : Option Request) (P : Request → Type 0) → ((r : Request) → o ≡ Some r → P r) → IfSome o P
found_of None P h = tt
found_of (Some r) P h = h r refl

-- bytes that begin with an encoding are read, unless memory runs out
pub not_read : (bytes : List ℕ) (e : Entry) (len : ℕ) → BeginsWithEntry bytes e len → (why : Failed Fault) → ReadsNot why (entry.read (start_of bytes)) → why ≡ failed.NoMemory
not_read bytes e len b failed.NoMemory n = refl
not_read bytes e len b (failed.Because fault) n =
    let x : Entry × Input = (e, input len (drop len bytes)) in
    let both : done x ≡ Err fault.place = sym (read_from bytes e len b) ∙ n in
    absurd cc

pub read_same : (bytes : List ℕ) (e : Entry) (len : ℕ) (f : Entry) (after : Input) → BeginsWithEntry bytes e len → entry.read (start_of bytes) ≡ Ok (f, after) → (f ≡ e) × (after.place ≡ len)
read_same bytes e len f after b read =
    let same = ok_is (f, after) (e, input len (drop len bytes)) (sym read ∙ read_from bytes e len b) in
    (ap (λ (p : Entry × Input). p.0) same, ap (λ (p : Entry × Input). p.1.place) same)

pub request_is : (bytes : List ℕ) (r : Request) (acknowledge len : ℕ) → BeginsWithEntry bytes (Op r acknowledge) len → request_in (entry.read (start_of bytes)) ≡ Some r
request_is bytes r acknowledge len b = ap request_in (read_from bytes (Op r acknowledge) len b)

pub not_skipped : (bytes : List ℕ) (e : Entry) (len place : ℕ) → BeginsWithEntry bytes e len → entry.read (start_of bytes) ≡ Err place → ⊥
not_skipped bytes e len place b n =
    let x : Entry × Input = (e, input len (drop len bytes)) in
    let both : done x ≡ Err place = sym (read_from bytes e len b) ∙ n in
    absurd cc
