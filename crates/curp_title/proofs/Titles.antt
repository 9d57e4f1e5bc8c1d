-- The title of a node and a header is read as these, and what is read is such a title.
use Rattle.std.specs.Prelude.{◌≡◌, ◌≢◌, ℕ, ◌+◌, ◌<◌, ◌≤◌, ◌^◌, nat_le, bytes_eq, Bool, true, false, List, [], ◌∷◌, ◌++◌, length, Some, Result, Ok, Err, ⊤, refl}
use Rattle.std.proofs.Common.{sym, ◌∙◌, ap, subst, arith}
use Rattle.std.proofs.lemmas.Bool.{and_from, and_parts, le-leb, leb-true}
use Rattle.std.proofs.lemmas.List.{append-nil}
use Rattle.std.proofs.lemmas.Slice.Eq.{bytes_eq-Decides}
use Rattle.curp_base.specs.Cases.{◌>>=◌, only_if}
use Rattle.curp_base.specs.Words.{AreBytes}
use Rattle.curp_items.proofs.Combining.{Again, IsFormat, bind_ok, done, fields_again, input, item_is, nothing_is, ok_is, one_of_is, only_is, shaped_is, then_is, variant_sound}
use Rattle.curp_items.proofs.Formats.{node_is, truth_is, u32_is}
use Rattle.curp_items.specs.Format.{Input, nothing}
use Rattle.curp_items.specs.Items.{node, truth, u32}
use Rattle.curp_msg.specs.Script.{IsHeader}
use Rattle.curp_msg.specs.declared.script.Header.{Header}
use Rattle.curp_msg.specs.declared.script.Protocol.{Protocol}
use Rattle.curp_msg.specs.declared.script.Protocol.TheVariants.{One, Two}
use Rattle.curp_title.specs.Title.{IsTitle, between, header_format, header_made, header_parts, mark, mark_format, mark_in, protocol_format, protocol_parts, protocol_variants, title_bytes, title_format, title_made, title_parts, title_read, whole}
use Rattle.curp_title.specs.declared.title.Title.{Title}

-- ---- the formats

passes : (b : Bool) (x : ⊤) → only_if b tt ≡ Some x → b ≡ true
passes true x e = refl
passes false x e = absurd cc

mark_is : IsFormat mark_format
unfolding mark_format
mark_is = item_is 9 (λ x. ⊤) (λ x. mark) mark_in (λ x fits. (refl, refl)) (λ bytes x are len e. (tt, sym ((bytes_eq-Decides bytes mark).0 (passes (bytes_eq bytes mark) x e))))

between_is : (low high : ℕ) → IsFormat (between low high)
between_is low high = only_is _ _ u32_is

protocol_again : Again protocol_parts protocol_variants
protocol_again One start place rest fits = fields_again 1 nothing (λ x. One) nothing_is tt place rest tt
protocol_again Two start place rest fits = fields_again 2 nothing (λ x. Two) nothing_is tt place rest tt

protocol_is : IsFormat protocol_format
unfolding protocol_format
protocol_is = one_of_is protocol_parts protocol_variants
    (variant_sound protocol_parts 1 nothing (λ x. One) (λ y. refl) nothing_is, (variant_sound protocol_parts 2 nothing (λ x. Two) (λ y. refl) nothing_is, tt))
    protocol_again

header_is : IsFormat header_format
unfolding header_format
header_is = shaped_is header_made header_parts _ (λ x. refl) (λ y. refl)
    (then_is _ _ (between_is 1 64) (then_is _ _ (between_is 1 5) (then_is _ _ truth_is (then_is _ _ (between_is 1 16) (then_is _ _ protocol_is (then_is _ _ (between_is 1 1024) (between_is 1 16)))))))

title_is : IsFormat title_format
unfolding title_format
title_is = shaped_is title_made title_parts _ (λ x. refl) (λ y. refl) (then_is _ _ mark_is (then_is _ _ node_is header_is))

-- ---- which values fit

between_fits : (low high n : ℕ) → high < 2 ^ 32 → (low ≤ n) × (n ≤ high) → (between low high).Fits n
unfolding u32
between_fits low high n small is = (omega (arith, is.1), and_from (nat_le low n) (nat_le n high) (le-leb low n is.0) (le-leb n high is.1))

between_range : (low high n : ℕ) → (between low high).Fits n → (low ≤ n) × (n ≤ high)
between_range low high n fits =
    let both = and_parts (nat_le low n) (nat_le n high) fits.1 in
    (leb-true low n both.0, leb-true n high both.1)

truth_fits : (b : Bool) → truth.Fits b
unfolding truth
truth_fits false = tt
truth_fits true = tt

protocol_fits : (p : Protocol) → protocol_format.Fits p
unfolding protocol_format
protocol_fits One = tt
protocol_fits Two = tt

header_fits : (h : Header) → IsHeader h → header_format.Fits h
unfolding header_format
header_fits h is = (
  between_fits 1 64 h.clients (omega arith) is.clients,
  (
    between_fits 1 5 h.f (omega arith) is.f,
    (
      truth_fits h.fast,
      (
        between_fits 1 16 h.parts (omega arith) is.parts,
        (protocol_fits h.protocol, (between_fits 1 1024 h.sets (omega arith) is.sets, between_fits 1 16 h.ways (omega arith) is.ways)),
      ),
    ),
  ),
)

header_ranges : (h : Header) → header_format.Fits h → IsHeader h
unfolding header_format
header_ranges h fits = record {
  clients = between_range 1 64 h.clients fits.0;
  f = between_range 1 5 h.f fits.1.0;
  parts = between_range 1 16 h.parts fits.1.1.1.0;
  sets = between_range 1 1024 h.sets fits.1.1.1.1.1.0;
  ways = between_range 1 16 h.ways fits.1.1.1.1.1.1;
}

title_fits : (t : Title) → IsTitle t → title_format.Fits t
unfolding title_format mark_format node
title_fits t is = (tt, (is.node, header_fits t.header is.header))

fits_title : (t : Title) → title_format.Fits t → IsTitle t
unfolding title_format mark_format node
fits_title t fits = record { node = fits.1.0; header = header_ranges t.header fits.1.1 }

-- ---- the bytes of a title

laid : (t : Title) (fast : Bool) (protocol : Protocol) → t.header.fast ≡ fast → t.header.protocol ≡ protocol → title_format.of t ≡ title_bytes t
unfolding title_format mark_format header_format protocol_format node truth u32
laid t false One e f = rw (e, f) refl
laid t false Two e f = rw (e, f) refl
laid t true One e f = rw (e, f) refl
laid t true Two e f = rw (e, f) refl

laid_out : (t : Title) → title_format.of t ≡ title_bytes t
laid_out t = laid t t.header.fast t.header.protocol refl refl

-- ---- titles with nothing left over

title_reads : (bytes : List ℕ) (t : Title) → IsTitle t → bytes ≡ title_bytes t → title_format.read (input 0 bytes) ≡ done (t, input (0 + length (title_format.of t)) [])
title_reads bytes t is same =
    ap (λ (r : List ℕ). title_format.read (input 0 r)) (same ∙ sym (laid_out t) ∙ sym (append-nil (title_format.of t))) ∙ title_is.complete t 0 [] (title_fits t is)

whole_reads : (bytes : List ℕ) (t : Title) → IsTitle t → bytes ≡ title_bytes t → title_read bytes ≡ done t
whole_reads bytes t is same = ap (λ (r : Result (Title × Input) ℕ). r >>= λ x. whole x.0 x.1.place x.1.rest) (title_reads bytes t is same)

-- bytes that aren't read are no title
pub no_title : (bytes : List ℕ) (place : ℕ) → title_read bytes ≡ Err place → (t : Title) → IsTitle t → bytes ≢ title_bytes t
no_title bytes place read t is same =
    let both : done t ≡ Err place = sym (whole_reads bytes t is same) ∙ read in
    absurd cc

whole_ok : (t : Title) (place : ℕ) (rest : List ℕ) (x : Title) → whole t place rest ≡ Ok x → (rest ≡ []) × (t ≡ x)
whole_ok t place [] x e = (refl, cc)
whole_ok t place (b ∷ rest) x e = absurd cc

-- bytes that are read are the title of what was read
pub title_found : (bytes : List ℕ) (t : Title) → AreBytes bytes → title_read bytes ≡ Ok t → IsTitle t × (bytes ≡ title_bytes t)
title_found bytes t are read =
    let a = bind_ok (title_format.read (input 0 bytes)) (λ x. whole x.0 x.1.place x.1.rest) t read in
    let end = whole_ok a.0.0 a.0.1.place a.0.1.rest t a.2 in
    let taken = title_is.sound (input 0 bytes) a.0.0 a.0.1 are a.1 in
    let is : bytes ≡ title_bytes a.0.0 = taken.rest ∙ ap (λ (r : List ℕ). title_format.of a.0.0 ++ r) end.0 ∙ append-nil (title_format.of a.0.0) ∙ laid_out a.0.0 in
    subst (λ (x : Title). IsTitle x × (bytes ≡ title_bytes x)) end.1 (fits_title a.0.0 taken.fits, is)

pub one_title : (one other : Title) → IsTitle one → IsTitle other → title_bytes one ≡ title_bytes other → one ≡ other
one_title one other is others same =
    let both : done one ≡ done other = sym (whole_reads (title_bytes other) one is (sym same)) ∙ whole_reads (title_bytes other) other others refl in
    ok_is one other both
