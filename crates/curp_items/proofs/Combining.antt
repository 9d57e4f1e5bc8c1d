-- A format reads what it encodes, whatever follows, and encodes what it reads: of each combinator of formats.
use Rattle.std.proofs.Common.{◌≡◌, ℕ, zero, suc, ◌+◌, ◌<◌, ◌≤◌, Bool, true, false, cond, ltb, List, [], ◌∷◌, ◌++◌, length, take, drop, get_or, Option, Some, None, Result, Ok, Err, refl, sym, ap, subst, ◌∙◌, append_assoc, arith, inl, inr, ◌⊎◌, eqb}
use Rattle.std.proofs.lemmas.Bool.{cases_lt, eqb-true, ltb-false, le-ltb}
use Rattle.std.proofs.lemmas.List.{append-nil, drop_at, get_or_append_left, get_or-append-add, get_or_past, length-append, length-drop, length-take, take_at, take-append-drop}
use Rattle.std.proofs.lemmas.List.Elements.{All-append, All-cons, All-drop, All-head, All-tail, All-take}
use Rattle.std.specs.List.{flat_map}
use Rattle.curp_base.specs.Cases.{◌>>=◌}
use Rattle.curp_base.specs.Words.{AreBytes, Each}
use Rattle.curp_items.specs.Format.{Format, Input, Reading, Tagged, Variant, behind, by_tag, byte, bytes_at, counted_bytes, first_byte, found, item, list_of, listed, nothing, one_of, only, option_parts, option_variants, optional, passed, read_more, shaped, string, tagged, then_by, variant, ◌▸◌}

abbrev pub IsByte : ℕ → Type 0
IsByte n = n < 256

-- ---- words

-- what an input is
abbrev pub input : ℕ → List ℕ → Input
input place rest = record { place = place; rest = rest }

-- an encoding of the value was taken from the prefix
pub record Takes {A : Type 0} (f : Format A) (at : Input) (x : A) (after : Input) : Type 0 where
  pub fits : f.Fits x
  pub rest : at.rest ≡ f.of x ++ after.rest
  pub place : after.place ≡ at.place + length (f.of x)

-- what is read is encoded so, and what is encoded so is read, whatever follows
pub record IsFormat {A : Type 0} (f : Format A) : Type 0 where
  pub sound : (at : Input) (x : A) (after : Input) → AreBytes at.rest → f.read at ≡ Ok (x, after) → Takes f at x after
  pub complete : (x : A) (place : ℕ) (rest : List ℕ) → f.Fits x → f.read (input place (f.of x ++ rest)) ≡ Ok (x, input (place + length (f.of x)) rest)

-- ---- steps

-- the value of a step that did not fail
pub bind_ok : {A B : Type 0} (r : Result A ℕ) (f : A → Result B ℕ) (y : B) → (r >>= f) ≡ Ok y → (x : A) × (r ≡ Ok x) × (f x ≡ Ok y)
bind_ok (Ok x) f y e = (x, refl, e)
bind_ok (Err d) f y e = absurd cc

abbrev pub done : {A : Type 0} → A → Result A ℕ
done x = Ok x

pub ok_is : {A : Type 0} (x y : A) → done x ≡ done y → x ≡ y
ok_is x y e = cc

-- a test that did not fail
kept : {A : Type 0} (b : Bool) (d : ℕ) (x y : A) → cond b (Err d) (Ok x) ≡ Ok y → (b ≡ false) × (x ≡ y)
kept true d x y e = absurd cc
kept false d x y e = (refl, cc)

-- bytes behind bytes
pub bytes_behind : (all prefix rest : List ℕ) → AreBytes all → all ≡ prefix ++ rest → AreBytes rest
bytes_behind all prefix rest h e = subst AreBytes (ap (drop (length prefix)) e ∙ drop_at prefix rest (length prefix) refl) (All-drop IsByte (length prefix) all h)

pub taken_bytes : {A : Type 0} (f : Format A) (at : Input) (x : A) (after : Input) → AreBytes at.rest → Takes f at x after → AreBytes after.rest
taken_bytes f at x after h t = bytes_behind at.rest (f.of x) after.rest h t.rest

pub byte_in : (bytes : List ℕ) → AreBytes bytes → (i : ℕ) → get_or bytes i 0 < 256
byte_in bytes h i = elim (cases_lt i (length bytes)) [
  | inl l ↦ h i 0 l
  | inr l ↦ rw (get_or_past bytes i 0 l) (omega arith)
]

-- ---- items

pub found_ok : {A : Type 0} (place : ℕ) (o : Option A) (at : Input) (x : A) (after : Input) → found place o at ≡ Ok (x, after) → (o ≡ Some x) × (at ≡ after)
found_ok place None at x after e = absurd cc
found_ok {A} place (Some y) at x after e =
    let p = ok_is (y, at) (x, after) e in
    (ap (λ (q : A × Input). Some q.0) p, ap (λ (q : A × Input). q.1) p)

pub item_is : {A : Type 0} (size : ℕ) (Fits : A → Type 0) (text : A → List ℕ) (value : List ℕ → Option A)
    → ((x : A) → Fits x → (length (text x) ≡ size) × (value (text x) ≡ Some x))
    → ((bytes : List ℕ) (x : A) → AreBytes bytes → length bytes ≡ size → value bytes ≡ Some x → Fits x × (text x ≡ bytes))
    → IsFormat (item size Fits text value)
item_is {A} size Fits text value again back = record {
  sound = λ at x after h e.
      let a = bind_ok (bytes_at size at) (λ bytes. found at.place (value bytes.0) bytes.1) (x, after) e in
      let g = kept (ltb (length at.rest) size) at.place (take size at.rest, behind size at) a.0 a.1 in
      let long : size ≤ length at.rest = ltb-false _ _ g.0 in
      let f = found_ok at.place (value a.0.0) a.0.1 x after a.2 in
      let prefix : a.0.0 ≡ take size at.rest = ap (λ (p : List ℕ × Input). p.0) (sym g.1) in
      let back_is : after ≡ behind size at = sym f.1 ∙ ap (λ (p : List ℕ × Input). p.1) (sym g.1) in
      let len : length (take size at.rest) ≡ size = omega (arith, length-take size at.rest) in
      let b = back (take size at.rest) x (All-take IsByte size at.rest h) len (ap value (sym prefix) ∙ f.0) in
      record {
        fits = b.0;
        rest = sym (take-append-drop size at.rest) ∙ ap (λ (r : List ℕ). r ++ drop size at.rest) (sym b.1) ∙ ap (λ (i : Input). text x ++ i.rest) (sym back_is);
        place = ap (λ (i : Input). i.place) back_is ∙ ap (λ (n : ℕ). at.place + n) (sym (ap length b.1 ∙ len));
      };
  complete = λ x place rest fits.
      let a = again x fits in
      let long : ltb (length (text x ++ rest)) size ≡ false = le-ltb _ _ (omega (arith, a.0, length-append (text x) rest)) in
      rw (long, take_at (text x) rest size a.0, a.1, drop_at (text x) rest size a.0, a.0) refl;
}

-- what is read of a byte
first_takes : (place : ℕ) (bytes : List ℕ) (b : ℕ) (after : Input) → first_byte place bytes ≡ Ok (b, after) → (bytes ≡ b ∷ after.rest) × (after.place ≡ place + 1)
first_takes place [] b after e = absurd cc
first_takes place (c ∷ rest) b after e =
    let p = ok_is (c, input (place + 1) rest) (b, after) e in
    (ap (λ (q : ℕ × Input). q.0 ∷ q.1.rest) p, ap (λ (q : ℕ × Input). q.1.place) (sym p))

pub byte_is : IsFormat byte
byte_is = record {
  sound = λ at b after h e.
      let t = first_takes at.place at.rest b after e in
      record { fits = All-head IsByte b after.rest (subst AreBytes t.0 h); rest = t.0; place = t.1 };
  complete = λ b place rest fits. refl;
}

counted_takes : (place : ℕ) (bytes text : List ℕ) (after : Input) → AreBytes bytes → counted_bytes place bytes ≡ Ok (text, after) → (length text < 256) × AreBytes text × (bytes ≡ length text ∷ (text ++ after.rest)) × (after.place ≡ place + suc (length text))
counted_takes place [] text after h e = absurd cc
counted_takes place (n ∷ rest) text after h e =
    let g = kept (ltb (length rest) n) place (take n rest, input (place + 1 + n) (drop n rest)) (text, after) e in
    let long : n ≤ length rest = ltb-false _ _ g.0 in
    let prefix : take n rest ≡ text = ap (λ (p : List ℕ × Input). p.0) g.1 in
    let behind_is : input (place + 1 + n) (drop n rest) ≡ after = ap (λ (p : List ℕ × Input). p.1) g.1 in
    let len : length text ≡ n = sym (ap length prefix) ∙ omega (arith, length-take n rest) in
    let small : n < 256 = All-head IsByte n rest h in (
      omega (arith, len),
      subst AreBytes prefix (All-take IsByte n rest (All-tail IsByte n rest h)),
      ap (λ (r : List ℕ). n ∷ r) (sym (take-append-drop n rest) ∙ ap (λ (r : List ℕ). r ++ drop n rest) prefix ∙ ap (λ (i : Input). text ++ i.rest) behind_is) ∙ ap (λ (k : ℕ). k ∷ (text ++ after.rest)) (sym len),
      ap (λ (i : Input). i.place) (sym behind_is) ∙ omega (arith, len),
    )

pub string_is : IsFormat string
string_is = record {
  sound = λ at text after h e.
      let t = counted_takes at.place at.rest text after h e in
      record { fits = (t.0, t.1); rest = t.2; place = t.3 };
  complete = λ text place rest fits.
      let long : ltb (length (text ++ rest)) (length text) ≡ false = le-ltb _ _ (omega (arith, length-append text rest)) in
      let there : place + 1 + length text ≡ place + suc (length text) = omega arith in
      rw (long, take_at text rest (length text) refl, drop_at text rest (length text) refl, there) refl;
}

passed_ok : {A : Type 0} (b : Bool) (place : ℕ) (y : A) (at : Input) (x : A) (after : Input) → passed b place y at ≡ Ok (x, after) → (b ≡ true) × (y ≡ x) × (at ≡ after)
passed_ok {A} true place y at x after e =
    let p = ok_is (y, at) (x, after) e in
    (refl, ap (λ (q : A × Input). q.0) p, ap (λ (q : A × Input). q.1) p)
passed_ok false place y at x after e = absurd cc

pub only_is : {A : Type 0} (test : A → Bool) (f : Format A) → IsFormat f → IsFormat (only test f)
only_is {A} test f is = record {
  sound = λ at x after h e.
      let a = bind_ok (f.read at) (λ x. passed (test x.0) at.place x.0 x.1) (x, after) e in
      let p = passed_ok (test a.0.0) at.place a.0.0 a.0.1 x after a.2 in
      let t = is.sound at a.0.0 a.0.1 h a.1 in
      let same : (y : A) (b : Input) → a.0.0 ≡ y → a.0.1 ≡ b → Takes f at y b = λ y b c d. subst (λ (z : A). Takes f at z b) c (subst (λ (i : Input). Takes f at a.0.0 i) d t) in
      let s = same x after p.1 p.2 in
      record { fits = (s.fits, ap test (sym p.1) ∙ p.0); rest = s.rest; place = s.place };
  complete = λ x place rest fits. rw (is.complete x place rest fits.0, fits.1) refl;
}

-- ---- fields

pub nothing_is : IsFormat nothing
nothing_is = record {
  sound = λ at x after h e.
      let p = ok_is (tt {0}, at) (x, after) e in
      record { fits = tt; rest = ap (λ (q : Unit {0} × Input). q.1.rest) p; place = ap (λ (q : Unit {0} × Input). q.1.place) (sym p) ∙ omega arith };
  complete = λ x place rest fits. ap (λ (n : ℕ). done (x, input n rest)) (omega arith);
}

pub then_by_is : {A B : Type 0} (first : Format A) (second : A → Format B) → IsFormat first → ((x : A) → IsFormat (second x)) → IsFormat (then_by first second)
then_by_is {A} {B} first second one two = record {
  sound = λ at x after h e.
      let a = bind_ok (first.read at) (λ x. (second x.0).read x.1 >>= λ y. Ok ((x.0, y.0), y.1)) (x, after) e in
      let b = bind_ok ((second a.0.0).read a.0.1) (λ y. Ok ((a.0.0, y.0), y.1)) (x, after) a.2 in
      let p = ok_is ((a.0.0, b.0.0), b.0.1) (x, after) b.2 in
      let t = one.sound at a.0.0 a.0.1 h a.1 in
      let u = (two a.0.0).sound a.0.1 b.0.0 b.0.1 (taken_bytes first at a.0.0 a.0.1 h t) b.1 in
      let joined : first.of a.0.0 ++ ((second a.0.0).of b.0.0 ++ b.0.1.rest) ≡ (first.of a.0.0 ++ (second a.0.0).of b.0.0) ++ b.0.1.rest = rw append_assoc refl in
      let made : Takes (then_by first second) at (a.0.0, b.0.0) b.0.1 = record {
        fits = (t.fits, u.fits);
        rest = ◌∙◌ {c = (then_by first second).of (a.0.0, b.0.0) ++ b.0.1.rest} t.rest (ap (λ (r : List ℕ). first.of a.0.0 ++ r) u.rest ∙ joined);
        place = omega (arith, t.place, u.place, length-append (first.of a.0.0) ((second a.0.0).of b.0.0));
      } in
      subst (λ (q : (A × B) × Input). Takes (then_by first second) at q.0 q.1) p made;
  complete = λ x place rest fits.
      let read_first = one.complete x.0 place ((second x.0).of x.1 ++ rest) fits.0 in
      let read_second = (two x.0).complete x.1 (place + length (first.of x.0)) rest fits.1 in
      let there : place + length (first.of x.0) + length ((second x.0).of x.1) ≡ place + length (first.of x.0 ++ (second x.0).of x.1) = omega (arith, length-append (first.of x.0) ((second x.0).of x.1)) in
      ap (λ (r : List ℕ). (then_by first second).read (input place r)) (append_assoc (first.of x.0) ((second x.0).of x.1) rest) ∙ rw (read_first, read_second, there) refl;
}

pub then_is : {A B : Type 0} (first : Format A) (second : Format B) → IsFormat first → IsFormat second → IsFormat (first ▸ second)
then_is first second one two = then_by_is first (λ x. second) one (λ x. two)

pub shaped_is : {A B : Type 0} (make : B → A) (parts : A → B) (f : Format B) → ((x : A) → make (parts x) ≡ x) → ((y : B) → parts (make y) ≡ y) → IsFormat f → IsFormat (shaped make parts f)
shaped_is {A} {B} make parts f made parted is = record {
  sound = λ at x after h e.
      let a = bind_ok (f.read at) (λ x. Ok (make x.0, x.1)) (x, after) e in
      let p = ok_is (make a.0.0, a.0.1) (x, after) a.2 in
      let t = is.sound at a.0.0 a.0.1 h a.1 in
      let is_part = parted a.0.0 in
      let mine : Takes (shaped make parts f) at (make a.0.0) a.0.1 = record {
        fits = subst f.Fits (sym is_part) t.fits;
        rest = t.rest ∙ ap (λ (y : B). f.of y ++ a.0.1.rest) (sym is_part);
        place = t.place ∙ ap (λ (y : B). at.place + length (f.of y)) (sym is_part);
      } in
      subst (λ (q : A × Input). Takes (shaped make parts f) at q.0 q.1) p mine;
  complete = λ x place rest fits. rw (is.complete (parts x) place rest fits) (ap (λ (y : A). done (y, input (place + length (f.of (parts x))) rest)) (made x));
}

-- ---- variants

-- the fields of a value of the variant were taken from the prefix
pub record TakesFields (parts : Tagged) (tag : ℕ) (at after : Input) : Type 0 where
  pub tag_is : parts.tag ≡ tag
  pub fits : parts.Fits
  pub rest : at.rest ≡ parts.text ++ after.rest
  pub place : after.place ≡ at.place + length parts.text

-- what is read behind the variant's tag is encoded so
abbrev pub SoundVariant : {A : Type 0} → (A → Tagged) → Variant A → Type 0
SoundVariant {A} parts v = (at : Input) (x : A) (after : Input) → AreBytes at.rest → v.fields at ≡ Ok (x, after) → TakesFields (parts x) v.tag at after

abbrev pub SoundVariants : {A : Type 0} → (A → Tagged) → List (Variant A) → Type 0
SoundVariants parts [] = Unit {0}
SoundVariants parts (v ∷ variants) = SoundVariant parts v × SoundVariants parts variants

pub variant_sound : {A B : Type 0} (parts : A → Tagged) (tag : ℕ) (fields : Format B) (make : B → A) → ((y : B) → parts (make y) ≡ tagged tag fields y) → IsFormat fields → SoundVariant parts (variant tag fields make)
variant_sound {A} {B} parts tag fields make parted is at x after h e =
    let a = bind_ok (fields.read at) (λ x. Ok (make x.0, x.1)) (x, after) e in
    let p = ok_is (make a.0.0, a.0.1) (x, after) a.2 in
    let t = is.sound at a.0.0 a.0.1 h a.1 in
    let mine : TakesFields (tagged tag fields a.0.0) tag at a.0.1 = record { tag_is = refl; fits = t.fits; rest = t.rest; place = t.place } in
    let made : TakesFields (parts (make a.0.0)) tag at a.0.1 = subst (λ (q : Tagged). TakesFields q tag at a.0.1) (sym (parted a.0.0)) mine in
    subst (λ (q : A × Input). TakesFields (parts q.0) tag at q.1) p made

-- what is read behind the tag of a value that is encoded
abbrev pub Again : {A : Type 0} → (A → Tagged) → List (Variant A) → Type 0
Again {A} parts variants = (x : A) (start place : ℕ) (rest : List ℕ) → (parts x).Fits → by_tag variants (parts x).tag start (input place ((parts x).text ++ rest)) ≡ Ok (x, input (place + length (parts x).text) rest)

pub fields_again : {A B : Type 0} (tag : ℕ) (fields : Format B) (make : B → A) → IsFormat fields → (y : B) (place : ℕ) (rest : List ℕ) → fields.Fits y → (variant tag fields make).fields (input place (fields.of y ++ rest)) ≡ Ok (make y, input (place + length (fields.of y)) rest)
fields_again tag fields make is y place rest fits = rw (is.complete y place rest fits) refl

pub chosen : {A : Type 0} (b : Bool) (x y z : A) → cond b x y ≡ z → ((b ≡ true) × (x ≡ z)) ⊎ ((b ≡ false) × (y ≡ z))
chosen true x y z e = inl (refl, e)
chosen false x y z e = inr (refl, e)

module _ {A : Type 0} (parts : A → Tagged) where
  pub by_tag_sound : (variants : List (Variant A)) (tag place : ℕ) (at : Input) (x : A) (after : Input) → SoundVariants parts variants → AreBytes at.rest → by_tag variants tag place at ≡ Ok (x, after) → TakesFields (parts x) tag at after
  by_tag_sound [] tag place at x after s h e = absurd cc
  by_tag_sound (v ∷ variants) tag place at x after s h e = elim (chosen (eqb tag v.tag) (v.fields at) (by_tag variants tag place at) (Ok (x, after)) e) [
    | inl c ↦
        let t = s.0 at x after h c.1 in
        record { tag_is = t.tag_is ∙ sym (eqb-true tag v.tag c.0); fits = t.fits; rest = t.rest; place = t.place }
    | inr c ↦ by_tag_sound variants tag place at x after s.1 h c.1
  ]

  pub one_of_is : (variants : List (Variant A)) → SoundVariants parts variants
      → Again parts variants
      → IsFormat (one_of parts variants)
  one_of_is variants s again = record {
    sound = λ at x after h e.
        let a = bind_ok (byte.read at) (λ tag. by_tag variants tag.0 at.place tag.1) (x, after) e in
        let b = byte_is.sound at a.0.0 a.0.1 h a.1 in
        let t = by_tag_sound variants a.0.0 at.place a.0.1 x after s (taken_bytes byte at a.0.0 a.0.1 h b) a.2 in
        record {
          fits = t.fits;
          rest = b.rest ∙ ap (λ (r : List ℕ). a.0.0 ∷ r) t.rest ∙ ap (λ (n : ℕ). n ∷ ((parts x).text ++ after.rest)) (sym t.tag_is);
          place = omega (arith, t.place, b.place);
        };
    complete = λ x place rest fits.
        let there : place + 1 + length (parts x).text ≡ place + suc (length (parts x).text) = omega arith in
        again x place (place + 1) rest fits ∙ ap (λ (n : ℕ). done (x, input n rest)) there;
  }

pub optional_is : {A : Type 0} (f : Format A) → IsFormat f → IsFormat (optional f)
optional_is {A} f is = one_of_is (option_parts f) (option_variants f)
    (variant_sound (option_parts f) 0 nothing (λ x. None) (λ y. refl) nothing_is, (variant_sound (option_parts f) 1 f Some (λ y. refl) is, tt))
    again
  where
    again : Again (option_parts f) (option_variants f)
    again None start place rest fits = fields_again 0 nothing (λ x. None) nothing_is tt place rest fits
    again (Some x) start place rest fits = fields_again 1 f Some is x place rest fits

-- ---- lists

-- each item fits the format that those before it decide
abbrev pub AllFit : {A : Type 0} → (List A → Format A) → List A → List A → Type 0
AllFit next before [] = Unit {0}
AllFit next before (x ∷ xs) = (next before).Fits x × AllFit next (before ++ x ∷ []) xs

-- The format of the next item asks that the list stay in order, and nothing else beside the item's own format
pub record IsOrder {A : Type 0} (each : Format A) (InOrder : List A → Type 0) (next : List A → Format A) : Type 0 where
  pub empty : InOrder []
  pub prefix : (xs ys : List A) → InOrder (xs ++ ys) → InOrder xs
  pub grows : (before : List A) (x : A) → InOrder before → (next before).Fits x → each.Fits x × InOrder (before ++ x ∷ [])
  pub shrinks : (before : List A) (x : A) → InOrder (before ++ x ∷ []) → each.Fits x → (next before).Fits x

module _ {A : Type 0} (each : Format A) (InOrder : List A → Type 0) (next : List A → Format A) (order : IsOrder each InOrder next) where
  regroup : (before : List A) (x : A) (xs : List A) → before ++ x ∷ xs ≡ (before ++ x ∷ []) ++ xs
  regroup before x xs = sym (append_assoc before (x ∷ []) xs)

  down : (before xs : List A) → Each each.Fits xs → InOrder (before ++ xs) → AllFit next before xs
  down before [] f o = tt
  down before (x ∷ xs) f o =
      let o2 = subst InOrder (regroup before x xs) o in
      (order.shrinks before x (order.prefix (before ++ x ∷ []) xs o2) f.0, down (before ++ x ∷ []) xs f.1 o2)

  up : (before xs : List A) → InOrder before → AllFit next before xs → Each each.Fits xs × InOrder (before ++ xs)
  up before [] o f = (tt, subst InOrder (sym (append-nil before)) o)
  up before (x ∷ xs) o f =
      let g = order.grows before x o f.0 in
      let u = up (before ++ x ∷ []) xs g.1 f.1 in
      ((g.0, u.0), subst InOrder (sym (regroup before x xs)) u.1)

  module _ (formats : (before : List A) → IsFormat (next before)) (alike : (before : List A) (x : A) → (next before).of x ≡ each.of x) where
    -- so many items were read behind those before
    record TakesMore (before : List A) (count : ℕ) (at : Input) (all : List A) (after : Input) : Type 0 where
      items : List A
      are : all ≡ before ++ items
      many : length items ≡ count
      fit : AllFit next before items
      rest : at.rest ≡ flat_map each.of items ++ after.rest
      place : after.place ≡ at.place + length (flat_map each.of items)

    more_sound : (count : ℕ) (before : List A) (at : Input) (all : List A) (after : Input) → AreBytes at.rest → read_more next before count at ≡ Ok (all, after) → TakesMore before count at all after
    more_sound zero before at all after h e =
        let p = ok_is (before, at) (all, after) e in
        record {
          items = [];
          are = ap (λ (q : List A × Input). q.0) (sym p) ∙ sym (append-nil before);
          many = refl;
          fit = tt;
          rest = ap (λ (q : List A × Input). q.1.rest) p;
          place = ap (λ (q : List A × Input). q.1.place) (sym p) ∙ omega arith;
        }
    more_sound (suc count) before at all after h e =
        let a = bind_ok ((next before).read at) (λ x. read_more next (before ++ x.0 ∷ []) count x.1) (all, after) e in
        let x = a.0.0 in
        let t = (formats before).sound at x a.0.1 h a.1 in
        let m = more_sound count (before ++ x ∷ []) a.0.1 all after (taken_bytes (next before) at x a.0.1 h t) a.2 in
        let text = alike before x in
        record {
          items = x ∷ m.items;
          are = m.are ∙ append_assoc before (x ∷ []) m.items;
          many = ap suc m.many;
          fit = (t.fits, m.fit);
          rest = t.rest ∙ ap (λ (r : List ℕ). r ++ a.0.1.rest) text ∙ ap (λ (r : List ℕ). each.of x ++ r) m.rest ∙ sym (append_assoc (each.of x) (flat_map each.of m.items) after.rest);
          place = omega (arith, m.place, t.place, ap length text, length-append (each.of x) (flat_map each.of m.items));
        }

    more_again : (xs before : List A) (place : ℕ) (rest : List ℕ) → AllFit next before xs → read_more next before (length xs) (input place (flat_map each.of xs ++ rest)) ≡ Ok (before ++ xs, input (place + length (flat_map each.of xs)) rest)
    more_again [] before place rest fit =
        let there : place ≡ place + 0 = omega arith in
        ap (λ (n : ℕ). done (before, input n rest)) there ∙ ap (λ (ys : List A). done (ys, input (place + 0) rest)) (sym (append-nil before))
    more_again (x ∷ xs) before place rest fit =
        let text = alike before x in
        let laid : flat_map each.of (x ∷ xs) ++ rest ≡ (next before).of x ++ (flat_map each.of xs ++ rest) = append_assoc (each.of x) (flat_map each.of xs) rest ∙ ap (λ (r : List ℕ). r ++ (flat_map each.of xs ++ rest)) (sym text) in
        let first = (formats before).complete x place (flat_map each.of xs ++ rest) fit.0 in
        let others = more_again xs (before ++ x ∷ []) (place + length ((next before).of x)) rest fit.1 in
        let there : place + length ((next before).of x) + length (flat_map each.of xs) ≡ place + length (flat_map each.of (x ∷ xs)) = omega (arith, ap length text, length-append (each.of x) (flat_map each.of xs)) in
        ap (λ (r : List ℕ). read_more next before (suc (length xs)) (input place r)) laid
        ∙ rw first others
        ∙ ap (λ (ys : List A). done (ys, input (place + length ((next before).of x) + length (flat_map each.of xs)) rest)) (append_assoc before (x ∷ []) xs)
        ∙ ap (λ (n : ℕ). done (before ++ x ∷ xs, input n rest)) there

    pub listed_is : (count : Format ℕ) → IsFormat count → IsFormat (listed count each InOrder next)
    listed_is count counts = record {
      sound = λ at all after h e.
          let a = bind_ok (count.read at) (λ n. read_more next [] n.0 n.1) (all, after) e in
          let c = counts.sound at a.0.0 a.0.1 h a.1 in
          let m = more_sound a.0.0 [] a.0.1 all after (taken_bytes count at a.0.0 a.0.1 h c) a.2 in
          let u = up [] m.items order.empty m.fit in
          let made : Takes (listed count each InOrder next) at m.items after = record {
            fits = (subst count.Fits (sym m.many) c.fits, u.0, u.1);
            rest = c.rest ∙ ap (λ (n : ℕ). count.of n ++ a.0.1.rest) (sym m.many) ∙ ap (λ (r : List ℕ). count.of (length m.items) ++ r) m.rest ∙ sym (append_assoc (count.of (length m.items)) (flat_map each.of m.items) after.rest);
            place = omega (arith, m.place, c.place, ap (λ (n : ℕ). length (count.of n)) m.many, length-append (count.of (length m.items)) (flat_map each.of m.items));
          } in
          subst (λ (xs : List A). Takes (listed count each InOrder next) at xs after) (sym m.are) made;
      complete = λ xs place rest fits.
          let first = counts.complete (length xs) place (flat_map each.of xs ++ rest) fits.0 in
          let others = more_again xs [] (place + length (count.of (length xs))) rest (down [] xs fits.1 fits.2) in
          let there : place + length (count.of (length xs)) + length (flat_map each.of xs) ≡ place + length (count.of (length xs) ++ flat_map each.of xs) = omega (arith, length-append (count.of (length xs)) (flat_map each.of xs)) in
          ap (λ (r : List ℕ). (listed count each InOrder next).read (input place r)) (append_assoc (count.of (length xs)) (flat_map each.of xs) rest)
          ∙ rw first others
          ∙ ap (λ (n : ℕ). done (xs, input n rest)) there;
    }

pub plain_order : {A : Type 0} (f : Format A) → IsOrder f (λ xs. Unit {0}) (λ before. f)
plain_order f = record { empty = tt; prefix = λ xs ys o. tt; grows = λ before x o fits. (fits, tt); shrinks = λ before x o fits. fits }

pub list_of_is : {A : Type 0} (count : Format ℕ) (f : Format A) → IsFormat count → IsFormat f → IsFormat (list_of count f)
list_of_is {A} count f counts is = listed_is f (λ (xs : List A). Unit {0}) (λ before. f) (plain_order f) (λ before. is) (λ before x. refl) count counts
