-- Batches with their checksum.
use Rattle.std.specs.Prelude.{◌≡◌, ◌≢◌, ℕ, ◌+◌, ◌-◌, ◌<◌, List, ◌++◌, length, take, drop, Option, Some, None, option_map, Result, Ok, Err, IfOk, refl}
use Rattle.std.specs.declared.alloc.AllocError.{AllocError}
use Rattle.std.proofs.Common.{sym, ◌∙◌, ap, arith, length-append, take-append-drop}
use Rattle.std.proofs.lemmas.List.{drop_at, take_at}
use Rattle.curp_base.specs.Words.{Each}
use Rattle.curp_journal.specs.declared.arrived.Arrived.{Arrived}
use Rattle.curp_batches.specs.Arrivals.{arrival}
use Rattle.curp_batches.specs.Batches.{AreArrivals, AreArrivalsIn, IsBatchIn, IsEncoding, arrivals_of, batch_of, checksum_of}
use Rattle.curp_batches.proofs.Encodings.{rest_is}
use Rattle.curp_batches.proofs.Sequences.{same_arrivals}

checksum-length : (bytes : List ℕ) → length (checksum_of bytes) ≡ 8
checksum-length bytes = refl

pub batch-length : (batch : List Arrived) → length (batch_of batch) ≡ length (arrivals_of batch) + 8
unfolding batch_of
batch-length batch = omega (arith, length-append (arrivals_of batch) (checksum_of (arrivals_of batch)), checksum-length (arrivals_of batch))

-- arrivals and their checksum
pub checked : (batch : List Arrived) (content bytes : List ℕ) → AreArrivals batch content → bytes ≡ content ++ checksum_of content → IsEncoding batch bytes
unfolding batch_of
checked batch content bytes a is = record { fits = a.fits; is = is ∙ ap (λ (l : List ℕ). l ++ checksum_of l) a.is }

-- what an encoding has in front of its last eight bytes, and these
pub parts : (batch : List Arrived) (bytes : List ℕ) (n : ℕ) → n + 8 ≡ length bytes → IsEncoding batch bytes → AreArrivals batch (take n bytes) × (drop n bytes ≡ checksum_of (take n bytes))
unfolding batch_of
parts batch bytes n is e =
    let content = arrivals_of batch in
    let long : length content ≡ n = omega (arith, is, ap length e.is, length-append content (checksum_of content), checksum-length content) in
    let first : take n bytes ≡ content = ap (λ (l : List ℕ). take n l) e.is ∙ take_at content (checksum_of content) n long in
    let last : drop n bytes ≡ checksum_of content = ap (λ (l : List ℕ). drop n l) e.is ∙ drop_at content (checksum_of content) n long in
    (record { fits = e.fits; is = first }, last ∙ ap checksum_of (sym first))

pub one_batch : (one other : List Arrived) → Each arrival.Fits one → Each arrival.Fits other → batch_of one ≡ batch_of other → one ≡ other
one_batch one other f g e =
    let n = length (arrivals_of one) in
    let long : n + 8 ≡ length (batch_of one) = sym (batch-length one) in
    let first = parts one (batch_of one) n long (record { fits = f; is = refl }) in
    let second = parts other (batch_of one) n long (record { fits = g; is = e }) in
    same_arrivals one other f g (sym first.0.is ∙ second.0.is)

pub one_encoding : (bytes : List ℕ) (one other : List Arrived) → IsEncoding one bytes → IsEncoding other bytes → one ≡ other
one_encoding bytes one other s t = one_batch one other s.fits t.fits (sym s.is ∙ t.is)

-- ---- as the code tells it

pub too_short : (bytes : List ℕ) → length bytes < 8 → IsBatchIn bytes None
too_short bytes short batch e = absurd (omega (arith, short, ap length e.is, batch-length batch))

pub unchecked : (bytes : List ℕ) (n : ℕ) → n + 8 ≡ length bytes → drop n bytes ≢ checksum_of (take n bytes) → IsBatchIn bytes None
unchecked bytes n long other batch e = other (parts batch bytes n long e).1

checked_in : (bytes : List ℕ) (n : ℕ) (read : Option (List Arrived)) → n + 8 ≡ length bytes → drop n bytes ≡ checksum_of (take n bytes) → AreArrivalsIn (take n bytes) read → IsBatchIn bytes read
checked_in bytes n None long sum none = λ batch e. none batch (parts batch bytes n long e).0
checked_in bytes n (Some batch) long sum a = checked batch (take n bytes) bytes a (sym (take-append-drop n bytes) ∙ ap (λ (l : List ℕ). take n bytes ++ l) sum)

pub checked_so : {V : Type 0} (items : V → List Arrived) (bytes : List ℕ) (n : ℕ) (r : Result (Option V) AllocError) → n + 8 ≡ length bytes → take (length bytes - n) (drop n bytes) ≡ checksum_of (take n bytes)
    → IfOk r (λ read. AreArrivalsIn (take n bytes) (option_map items read)) → IfOk r (λ read. IsBatchIn bytes (option_map items read))
checked_so items bytes n (Err e) long sum a = tt
checked_so items bytes n (Ok read) long sum a = checked_in bytes n (option_map items read) long (sym (rest_is n bytes) ∙ sum) a

pub unchecked_so : (bytes : List ℕ) (n : ℕ) → n + 8 ≡ length bytes → take (length bytes - n) (drop n bytes) ≢ checksum_of (take n bytes) → IsBatchIn bytes None
unchecked_so bytes n long other = unchecked bytes n long (λ same. other (rest_is n bytes ∙ same))
