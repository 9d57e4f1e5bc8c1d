-- What is packed is what is unpacked, a run more, and where each run begins.
use Rattle.std.proofs.Common.{◌≡◌, ℕ, ◌+◌, ◌*◌, ◌^◌, ◌<◌, ◌≤◌, List, [], ◌∷◌, ◌++◌, length, take, drop, get_or, Option, Some, None, IfSome, refl, sym, ap, subst, ◌∙◌, append_assoc, arith, inl, inr}
use Rattle.std.proofs.Math.ListN.{get_or-append}
use Rattle.std.proofs.Math.Seq.{drop-append_seam, get_or-append_seam}
use Rattle.std.proofs.lemmas.Bool.{cases_lt}
use Rattle.std.proofs.lemmas.List.{append-nil, length-append, take-append-drop, take-append-le, take_at}
use Rattle.std.proofs.lemmas.List.Concat.{flat_map-append}
use Rattle.curp_base.proofs.Lists.{Each-append, Each-at, at_some, drop_at}
use Rattle.curp_base.specs.Words.{At, Each}
use Rattle.curp_cmd.specs.declared.command.Request.{Request}
use Rattle.curp_cmd.specs.declared.entry.Entry.{Entry}
use Rattle.curp_cmd.specs.declared.entry.Entry.TheVariants.{Op, Take, Give, Expire}
use Rattle.curp_items.proofs.Combining.{input}
use Rattle.curp_items.proofs.Formats.{entry_is}
use Rattle.curp_items.proofs.Prefixes.{read_from, request_is}
use Rattle.curp_items.specs.Items.{entry}
use Rattle.curp_items.specs.Encoding.{BeginsWithEntry, IsEntry, request_in, request_of, encoding, start_of}
use Rattle.curp_entries.specs.Packed.{ArePacked, run, encodings, unpacked, with_more}

pub unpacked_again : (es : List Entry) (place : ℕ) (rest : List ℕ) → Each IsEntry es → unpacked (length es) (input place (encodings es ++ rest)) ≡ es
unfolding unpacked
unpacked_again [] place rest is = refl
unpacked_again (e ∷ es) place rest is =
    let behind = encodings es ++ rest in
    let laid : encodings (e ∷ es) ++ rest ≡ encoding e ++ behind = append_assoc (encoding e) (encodings es) rest in
    ap (λ (r : List ℕ). with_more (unpacked (length es)) (entry.read (input place r))) laid
    ∙ ap (with_more (unpacked (length es))) (entry_is.complete e place behind is.0)
    ∙ ap (λ (more : List Entry). e ∷ more) (unpacked_again es (place + length (encoding e)) rest is.1)

-- what contracts see of packed entries
pub seen : (es : List Entry) (places bytes : List ℕ) → ArePacked es places bytes → unpacked (run * length places) (start_of bytes) ≡ es
seen es places bytes p =
    ap (λ (n : ℕ). unpacked n (start_of bytes)) (sym p.count)
    ∙ ap (λ (b : List ℕ). unpacked (length es) (input 0 b)) (p.bytes_are ∙ sym (append-nil (encodings es)))
    ∙ unpacked_again es 0 [] p.encoded

-- what is packed is seen to be
pub seen_packed : (es : List Entry) (places bytes : List ℕ) → ArePacked es places bytes → ArePacked (unpacked (run * length places) (start_of bytes)) places bytes
seen_packed es places bytes p = subst (λ (xs : List Entry). ArePacked xs places bytes) (sym (seen es places bytes p)) p

pub none_packed : ArePacked [] [] []
none_packed = record { encoded = tt; bytes_are = refl; count = refl; places_are = λ i l. absurd (omega arith) }

pub empty_packed : (places bytes : List ℕ) → places ≡ [] → bytes ≡ [] → ArePacked [] places bytes
empty_packed places bytes a b = rw (a, b) none_packed

-- ---- no encoding is empty

encoded_some : (e : Entry) → 1 ≤ length (encoding e)
unfolding entry
encoded_some e = omega arith

long_enough : (es : List Entry) → length es ≤ length (encodings es)
long_enough [] = omega arith
long_enough (e ∷ es) = omega (arith, length-append (encoding e) (encodings es), encoded_some e, long_enough es)

pub packed_small : (es : List Entry) (places bytes : List ℕ) → ArePacked es places bytes → length bytes < 2 ^ 63 → length es < 2 ^ 63
packed_small es places bytes p small = omega (arith, long_enough es, ap length p.bytes_are, small)

-- ---- the prefix of bytes

pub begins : (e : Entry) (rest bytes : List ℕ) → IsEntry e → bytes ≡ encoding e ++ rest → BeginsWithEntry bytes e (length (encoding e))
begins e rest bytes is laid =
    let whole : length bytes ≡ length (encoding e) + length rest = ap length laid ∙ length-append (encoding e) rest in
    record {
      fits = is;
      within = omega (arith, whole);
      is = ap (take (length (encoding e))) laid ∙ take_at (encoding e) rest (length (encoding e)) refl;
    }

-- what stands at an index is the first of what is left there
pub record First (es : List Entry) (k : ℕ) (bytes : List ℕ) : Type 0 where
  pub entry : Entry
  pub fits : IsEntry entry
  pub there : At es k entry
  pub laid : bytes ≡ encoding entry ++ encodings (drop (k + 1) es)

pub first_at : (es : List Entry) (k : ℕ) (bytes : List ℕ) → Each IsEntry es → k < length es → bytes ≡ encodings (drop k es) → First es k bytes
first_at es k bytes are within is =
    let there = at_some es k within in
    record {
      entry = there.0;
      fits = Each-at IsEntry es are k there.0 there.1;
      there = there.1;
      laid = is ∙ ap (λ (xs : List Entry). encodings xs) (drop_at es k there.0 there.1);
    }

pub begins_first : (es : List Entry) (k : ℕ) (bytes : List ℕ) (f : First es k bytes) → BeginsWithEntry bytes f.entry (length (encoding f.entry))
begins_first es k bytes f = begins f.entry (encodings (drop (k + 1) es)) bytes f.fits f.laid

pub after_first : (es : List Entry) (k n size : ℕ) (bytes rest : List ℕ) (f : First es k bytes) → size ≡ length (encoding f.entry) → rest ≡ drop size bytes → k + 1 ≡ n → rest ≡ encodings (drop n es)
after_first es k n size bytes rest f long is next =
    is
    ∙ (λ j. drop (long j) (f.laid j))
    ∙ drop-append_seam (encoding f.entry) (encodings (drop (k + 1) es))
    ∙ ap (λ (m : ℕ). encodings (drop m es)) next

-- ---- the request of what stands there

-- what isn't an Op has none
no_other : (bytes : List ℕ) (e : Entry) (len : ℕ) (r : Option Request) → BeginsWithEntry bytes e len
    → IfSome r (λ request. (acknowledge n : ℕ) × BeginsWithEntry bytes (Op request acknowledge) n)
    → request_of e ≡ None → r ≡ request_of e
no_other bytes e len None b found none = sym none
no_other bytes e len (Some q) b found none =
    let has = request_is bytes q found.0 found.1 found.2 in
    let lacks = ap request_in (read_from bytes e len b) ∙ none in
    let both : Some q ≡ None = sym has ∙ lacks in
    absurd cc

pub request_there : (bytes : List ℕ) (e : Entry) (len : ℕ) (r : Option Request) → BeginsWithEntry bytes e len
    → IfSome r (λ request. (acknowledge n : ℕ) × BeginsWithEntry bytes (Op request acknowledge) n)
    → ((request : Request) (acknowledge n : ℕ) → BeginsWithEntry bytes (Op request acknowledge) n → r ≡ Some request)
    → r ≡ request_of e
request_there bytes (Op q acknowledge) len r b found only = only q acknowledge len b
request_there bytes (Take migration p) len r b found only = no_other bytes (Take migration p) len r b found refl
request_there bytes (Give migration p) len r b found only = no_other bytes (Give migration p) len r b found refl
request_there bytes (Expire client) len r b found only = no_other bytes (Expire client) len r b found refl

-- ---- where a run begins

cut : (n : ℕ) (es : List Entry) → encodings es ≡ encodings (take n es) ++ encodings (drop n es)
cut n es = ap (λ (xs : List Entry). encodings xs) (sym (take-append-drop n es)) ∙ flat_map-append encoding (take n es) (drop n es)

pub at_place : (es : List Entry) (places bytes : List ℕ) → ArePacked es places bytes → (i : ℕ) → i < length places → drop (get_or places i 0) bytes ≡ encodings (drop (run * i) es)
at_place es places bytes p i l =
    (λ j. drop (p.places_are i l j) ((p.bytes_are ∙ cut (run * i) es) j))
    ∙ drop-append_seam (encodings (take (run * i) es)) (encodings (drop (run * i) es))

-- ---- a run more

module _ {es : List Entry} {places bytes : List ℕ} (p : ArePacked es places bytes) (more : List Entry) where
  places_more : (i : ℕ) → length more ≡ run → i < length places + 1 → get_or (places ++ length bytes ∷ []) i 0 ≡ length (encodings (take (run * i) (es ++ more)))
  places_more i size l = elim (cases_lt i (length places)) [
    | inl c ↦
        let before : run * i ≤ length es = omega (arith, c, p.count) in
        get_or-append places (length bytes ∷ []) 0 i c
        ∙ p.places_are i c
        ∙ sym (ap (λ (xs : List Entry). length (encodings xs)) (take-append-le (run * i) es more before))
    | inr c ↦
        let last : i ≡ length places = omega arith in
        let all : take (run * i) (es ++ more) ≡ es = take_at es more (run * i) (omega (arith, last, p.count)) in
        ap (λ (n : ℕ). get_or (places ++ length bytes ∷ []) n 0) last
        ∙ get_or-append_seam places (length bytes) [] 0
        ∙ ap length p.bytes_are
        ∙ sym (ap (λ (xs : List Entry). length (encodings xs)) all)
  ]

  pub packed_more : length more ≡ run → Each IsEntry more → ArePacked (es ++ more) (places ++ length bytes ∷ []) (bytes ++ encodings more)
  packed_more size are =
      let longer : length (places ++ length bytes ∷ []) ≡ length places + 1 = length-append places (length bytes ∷ []) in
      record {
        encoded = Each-append IsEntry es more p.encoded are;
        bytes_are = ap (λ (b : List ℕ). b ++ encodings more) p.bytes_are ∙ sym (flat_map-append encoding es more);
        count = omega (arith, length-append es more, size, p.count, longer);
        places_are = λ i l. places_more i size (omega (arith, l, longer));
      }

  pub packed_as : (there now : List ℕ) → length more ≡ run → Each IsEntry more → there ≡ places ++ length bytes ∷ [] → now ≡ bytes ++ encodings more → ArePacked (es ++ more) there now
  packed_as there now size are a b = rw (a, b) (packed_more size are)
