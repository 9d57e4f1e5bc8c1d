-- What comes in and what goes out are formats, and which of what goes out has a parcel.
use Rattle.std.specs.Prelude.{◌≡◌, ◌≢◌, ℕ, ◌+◌, ◌<◌, ◌≤◌, ◌&&◌, Bool, true, false, Option, Some, None, option_map, List, [], ◌∷◌, ◌++◌, length, drop, Result, Ok, Err, refl}
use Rattle.std.specs.Int.{to_be_bytes, w32}
use Rattle.std.proofs.Common.{sym, ◌∙◌, ap, subst, arith, length-append}
use Rattle.std.proofs.lemmas.Bool.{and_from, le-leb, lt-leb, ne_eqb}
use Rattle.std.proofs.lemmas.List.{append-nil, drop_all, length-drop}
use Rattle.curp_base.specs.Cases.{◌>>=◌}
use Rattle.curp_base.specs.Words.{AreBytes}
use Rattle.curp_items.proofs.Combining.{Again, IsFormat, SoundVariants, bind_ok, byte_is, done, fields_again, input, one_of_is, optional_is, shaped_is, then_is, variant_sound}
use Rattle.curp_items.proofs.Formats.{answer_is, id_is, node_is, u32_is, u64_is}
use Rattle.curp_items.specs.Format.{Format, Input, byte, optional, variant, ◌▸◌}
use Rattle.curp_items.specs.Items.{answer, id, node, u32, u64}
use Rattle.curp_journal.specs.declared.arrived.Arrived.{Arrived}
use Rattle.curp_cmd.specs.declared.node.NodeId.{NodeId}
use Rattle.curp_msg.specs.declared.machine.Capture.{Capture}
use Rattle.curp_msg.specs.declared.machine.Completed.{Completed}
use Rattle.curp_msg.specs.declared.message.Message.{Message}
use Rattle.curp_wire.proofs.ItemSizes.{answer_size, id_size, node_size, u32_size, u64_size}
use Rattle.curp_fields.proofs.Having.{node_passes}
use Rattle.curp_wire.proofs.Frames.{frame_had}
use Rattle.curp_wire.specs.Frame.{content, has_frame}
use Rattle.curp_batches.proofs.Encodings.{arrival_is, frame_is, one_prefix, prefix_within}
use Rattle.curp_batches.specs.Arrivals.{arrival, frame, frame_of}
use Rattle.curp_batches.specs.Prefixes.{Begins, BeginsNot}
use Rattle.curp_parcels.specs.Outgoing.{Completion, Name, capture_made, capture_parts, completion, completion_made, completion_parts, has_encoding, has_room, is_capture, name, outgoing, outgoing_parts, plain, plain_read, plain_variants, sent, sent_prefix, sent_made, whole}
use Rattle.curp_parcels.specs.Parcels.{IsEncoding, IsIn, IsParcel, incoming, parcel_limit}
use Rattle.curp_parcels.specs.declared.outgoing.Outgoing.{Outgoing}
use Rattle.curp_parcels.specs.declared.outgoing.Outgoing.TheVariants as out

-- ---- formats

pub incoming_is : IsFormat incoming
incoming_is = arrival_is

pub name_is : IsFormat name
unfolding name
name_is = then_is u64 (u64 ▸ u64) u64_is (then_is u64 u64 u64_is u64_is)

pub sent_is : IsFormat sent
unfolding sent
sent_is = then_is name frame name_is frame_is

made_parts : (by : Option Capture) → option_map capture_made (option_map capture_parts by) ≡ by
made_parts None = refl
made_parts (Some c) = refl

parts_made : (by : Option _) → option_map capture_parts (option_map capture_made by) ≡ by
parts_made None = refl
parts_made (Some p) = refl

completion_again : (c : ℕ × Completed) → completion_made (completion_parts c) ≡ c
completion_again c = ap (λ (by : Option Capture). (c.0, record { id = c.1.id; answer = c.1.answer; by = by })) (made_parts c.1.by)

completion_back : (p : Completion) → completion_parts (completion_made p) ≡ p
completion_back p = ap (λ by. (p.0, (p.1.0, (p.1.1.0, by)))) (parts_made p.1.1.1)

pub completion_is : IsFormat completion
unfolding completion
completion_is = shaped_is completion_made completion_parts _ completion_again completion_back
    (then_is _ _ u64_is (then_is _ _ id_is (then_is _ _ answer_is (optional_is _ (then_is _ _ node_is (then_is _ _ u32_is u64_is))))))

pair_is : IsFormat (u64 ▸ u64)
pair_is = then_is u64 u64 u64_is u64_is

refused_is : IsFormat (u64 ▸ byte)
refused_is = then_is u64 byte u64_is byte_is

outgoing_sound : SoundVariants outgoing_parts (variant 1 sent sent_made ∷ plain_variants)
outgoing_sound = (
  variant_sound outgoing_parts 1 sent sent_made (λ y. refl) sent_is,
  (
    variant_sound outgoing_parts 0 (u64 ▸ u64) (λ p. out.Stands p.0 p.1) (λ y. refl) pair_is,
    (
      variant_sound outgoing_parts 2 completion (λ p. out.Completed p.0 p.1) (λ y. refl) completion_is,
      (
        variant_sound outgoing_parts 3 (u64 ▸ byte) (λ p. out.Refused p.0 p.1) (λ y. refl) refused_is,
        (
          variant_sound outgoing_parts 4 (u64 ▸ u64) (λ p. out.NoParcel p.0 p.1) (λ y. refl) pair_is,
          (
            variant_sound outgoing_parts 5 name (λ p. out.Withheld p.0 p.1.0 p.1.1) (λ y. refl) name_is,
            (variant_sound outgoing_parts 6 id (λ r. out.Pending r) (λ y. refl) id_is, tt),
          ),
        ),
      ),
    ),
  ),
)

outgoing_again : Again outgoing_parts (variant 1 sent sent_made ∷ plain_variants)
outgoing_again (out.Stands items last) start place rest fits = fields_again 0 (u64 ▸ u64) (λ p. out.Stands p.0 p.1) pair_is (items, last) place rest fits
outgoing_again (out.Sent step at stamp m) start place rest fits = fields_again 1 sent sent_made sent_is ((step, (at, stamp)), m) place rest fits
outgoing_again (out.Completed stamp c) start place rest fits = fields_again 2 completion (λ p. out.Completed p.0 p.1) completion_is (stamp, c) place rest fits
outgoing_again (out.Refused number by) start place rest fits = fields_again 3 (u64 ▸ byte) (λ p. out.Refused p.0 p.1) refused_is (number, by) place rest fits
outgoing_again (out.NoParcel number at) start place rest fits = fields_again 4 (u64 ▸ u64) (λ p. out.NoParcel p.0 p.1) pair_is (number, at) place rest fits
outgoing_again (out.Withheld step at stamp) start place rest fits = fields_again 5 name (λ p. out.Withheld p.0 p.1.0 p.1.1) name_is (step, (at, stamp)) place rest fits
outgoing_again (out.Pending r) start place rest fits = fields_again 6 id (λ r. out.Pending r) id_is r place rest fits

pub outgoing_is : IsFormat outgoing
unfolding outgoing
outgoing_is = one_of_is outgoing_parts (variant 1 sent sent_made ∷ plain_variants) outgoing_sound outgoing_again

-- ---- what stands at the start of bytes, and with nothing left over

module _ {A : Type 0} (f : Format A) (is : IsFormat f) where
  pub whole_begins : (bytes : List ℕ) (x : A) (n : ℕ) → Begins f bytes x n → n ≡ length bytes → IsEncoding f x bytes
  whole_begins bytes x n b all = record {
    fits = b.fits;
    is = b.is ∙ ap (λ (l : List ℕ). f.of x ++ l) (drop_all n bytes (omega (arith, all))) ∙ append-nil (f.of x);
  }

  -- what has the same prefix
  pub same_begins : (bytes : List ℕ) (x y : A) (n : ℕ) → Begins f bytes x n → IsEncoding f y bytes → (x ≡ y) × (n ≡ length bytes)
  same_begins bytes x y n b e =
      let p = one_prefix f is x y (drop n bytes) [] b.fits e.fits (sym b.is ∙ e.is ∙ sym (append-nil (f.of y))) in
      (p.0, omega (arith, ap length p.1, length-drop n bytes, prefix_within f bytes x n b))

  pub more_begins : (bytes : List ℕ) (x : A) (n : ℕ) → Begins f bytes x n → n ≢ length bytes → IsIn f bytes None
  more_begins bytes x n b more y e = more (same_begins bytes x y n b e).1

  pub none_begins : (bytes : List ℕ) → BeginsNot f bytes → IsIn f bytes None
  none_begins bytes none x e = none x [] e.fits (e.is ∙ sym (append-nil (f.of x)))

-- ---- what comes in

pub arrival_longer : (bytes : List ℕ) (a : Arrived) (n : ℕ) → Begins arrival bytes a n → n ≢ length bytes → IsIn incoming bytes None
arrival_longer bytes a n b more = more_begins arrival arrival_is bytes a n b more

pub arrival_none : (bytes : List ℕ) → BeginsNot arrival bytes → IsIn incoming bytes None
arrival_none bytes none = none_begins arrival arrival_is bytes none

-- ---- what goes out

pub sent_there : (bytes : List ℕ) (p : Name) (m : Message) (n : ℕ) → Begins sent bytes (p, m) n → n ≡ length bytes → IsEncoding outgoing (sent_made (p, m)) (1 ∷ bytes)
unfolding outgoing
sent_there bytes p m n b all =
    let e = whole_begins sent sent_is bytes (p, m) n b all in
    record { fits = e.fits; is = ap (λ (l : List ℕ). 1 ∷ l) e.is }

pub no_sent : (bytes : List ℕ) → IsIn sent bytes None → IsIn outgoing (1 ∷ bytes) None
unfolding outgoing
no_sent bytes none (out.Stands items last) e = absurd (cc e.is)
no_sent bytes none (out.Sent step at stamp m) e = none ((step, (at, stamp)), m) (record { fits = e.fits; is = ap (λ (l : List ℕ). drop 1 l) e.is })
no_sent bytes none (out.Completed stamp c) e = absurd (cc e.is)
no_sent bytes none (out.Refused number by) e = absurd (cc e.is)
no_sent bytes none (out.NoParcel number at) e = absurd (cc e.is)
no_sent bytes none (out.Withheld step at stamp) e = absurd (cc e.is)
no_sent bytes none (out.Pending r) e = absurd (cc e.is)

-- behind another byte than that of a message it is read as all are
plain_same : (tag : ℕ) (rest : List ℕ) → tag ≢ 1 → outgoing.read (input 0 (tag ∷ rest)) ≡ plain.read (input 0 (tag ∷ rest))
unfolding outgoing plain
plain_same tag rest other = rw (ne_eqb tag 1 other) refl

whole_ok : (said : Outgoing) (place : ℕ) (rest : List ℕ) (x : Outgoing) → whole said place rest ≡ Ok x → (rest ≡ []) × (said ≡ x)
whole_ok said place [] x e = (refl, cc)
whole_ok said place (b ∷ rest) x e = absurd cc

pub plain_there : (tag : ℕ) (rest : List ℕ) (said : Outgoing) → AreBytes (tag ∷ rest) → tag ≢ 1 → plain_read (tag ∷ rest) ≡ Ok said → IsEncoding outgoing said (tag ∷ rest)
plain_there tag rest said are other read =
    let bytes : List ℕ = tag ∷ rest in
    let a = bind_ok (plain.read (input 0 bytes)) (λ x. whole x.0 x.1.place x.1.rest) said read in
    let end = whole_ok a.0.0 a.0.1.place a.0.1.rest said a.2 in
    let taken = outgoing_is.sound (input 0 bytes) a.0.0 a.0.1 are (plain_same tag rest other ∙ a.1) in
    subst (λ (x : Outgoing). IsEncoding outgoing x bytes) end.1
    (record { fits = taken.fits; is = taken.rest ∙ ap (λ (l : List ℕ). outgoing.of a.0.0 ++ l) end.0 ∙ append-nil (outgoing.of a.0.0) })

whole_reads : (tag : ℕ) (rest : List ℕ) (said : Outgoing) → tag ≢ 1 → IsEncoding outgoing said (tag ∷ rest) → plain_read (tag ∷ rest) ≡ Ok said
whole_reads tag rest said other e =
    let read : plain.read (input 0 (tag ∷ rest)) ≡ done (said, input (0 + length (outgoing.of said)) []) =
    sym (plain_same tag rest other) ∙ ap (λ (l : List ℕ). outgoing.read (input 0 l)) (e.is ∙ sym (append-nil (outgoing.of said))) ∙ outgoing_is.complete said 0 [] e.fits in
    ap (λ (r : Result (Outgoing × Input) ℕ). r >>= λ x. whole x.0 x.1.place x.1.rest) read

pub no_plain : (tag : ℕ) (rest : List ℕ) (place : ℕ) → tag ≢ 1 → plain_read (tag ∷ rest) ≡ Err place → IsIn outgoing (tag ∷ rest) None
no_plain tag rest place other read x e =
    let both : done x ≡ Err place = sym (whole_reads tag rest x other e) ∙ read in
    absurd cc

pub nothing_said : (bytes : List ℕ) → length bytes < 1 → IsIn outgoing bytes None
unfolding outgoing
nothing_said [] short x e = absurd (cc e.is)
nothing_said (byte ∷ bytes) short x e = absurd (omega (arith, short))

-- ---- how long they are

name_size : (p : Name) → length (name.of p) ≡ 24
unfolding name
name_size p = omega (arith, length-append (u64.of p.0) (u64.of p.1.0 ++ u64.of p.1.1), length-append (u64.of p.1.0) (u64.of p.1.1), u64_size p.0, u64_size p.1.0, u64_size p.1.1)

by_size : (by : Option (NodeId × (ℕ × ℕ))) → length ((optional (node ▸ u32 ▸ u64)).of by) ≤ 18
by_size None = omega arith
by_size (Some p) =
    omega (arith, length-append (node.of p.0) (u32.of p.1.0 ++ u64.of p.1.1), length-append (u32.of p.1.0) (u64.of p.1.1), node_size p.0, u32_size p.1.0, u64_size p.1.1)

completion_size : (c : ℕ × Completed) → completion.Fits c → length (completion.of c) ≤ 165
unfolding completion
completion_size c f =
    let by = option_map capture_parts c.1.by in
    let last = (optional (node ▸ u32 ▸ u64)).of by in
    omega (
      arith,
      length-append (u64.of c.0) (id.of c.1.id ++ (answer.of c.1.answer ++ last)),
      length-append (id.of c.1.id) (answer.of c.1.answer ++ last),
      length-append (answer.of c.1.answer) last,
      u64_size c.0,
      id_size c.1.id,
      answer_size c.1.answer f.1.1.0,
      by_size by,
    )

sent_size : (p : Name) (m : Message) → length (sent.of (p, m)) ≡ 28 + length (content m)
unfolding sent frame
sent_size p m = omega (arith, length-append (name.of p) (frame_of m), name_size p, length-append (to_be_bytes w32 (length (content m))) (content m))

and_false : (b : Bool) → (b && false) ≡ false
and_false true = refl
and_false false = refl

no_room : (m : Message) → parcel_limit < sent_prefix + length (content m) → (has_frame m && has_room m) ≡ false
no_room m long = ap (λ (b : Bool). has_frame m && b) (lt-leb (sent_prefix + length (content m)) parcel_limit long) ∙ and_false (has_frame m)

pub too_long_said : (said : Outgoing) → outgoing.Fits said → parcel_limit < length (outgoing.of said) → has_encoding said ≡ false
unfolding outgoing
too_long_said (out.Stands items last) f long = absurd (omega (arith, long, length-append (u64.of items) (u64.of last), u64_size items, u64_size last))
too_long_said (out.Sent step at stamp m) f long = no_room m (omega (arith, long, sent_size (step, (at, stamp)) m))
too_long_said (out.Completed stamp c) f long = absurd (omega (arith, long, completion_size (stamp, c) f))
too_long_said (out.Refused number by) f long = absurd (omega (arith, long, length-append (u64.of number) (by ∷ []), u64_size number))
too_long_said (out.NoParcel number at) f long = absurd (omega (arith, long, length-append (u64.of number) (u64.of at), u64_size number, u64_size at))
too_long_said (out.Withheld step at stamp) f long = absurd (omega (arith, long, name_size (step, (at, stamp))))
too_long_said (out.Pending r) f long = absurd (omega (arith, long, id_size r))

-- ---- what has a parcel

captured : (by : Option Capture) → (optional (node ▸ u32 ▸ u64)).Fits (option_map capture_parts by) → is_capture by ≡ true
captured None f = refl
captured (Some c) f = node_passes c.master f.0

sent_had : (p : Name) (m : Message) → sent.Fits (p, m) → has_frame m ≡ true
unfolding sent frame
sent_had p m f = frame_had m (frame_of m) f.1

capture_passes : (c : ℕ × Completed) → completion.Fits c → is_capture c.1.by ≡ true
unfolding completion
capture_passes (stamp, c) f = captured c.by f.1.1.1

pub parcel_had : (said : Outgoing) (bytes : List ℕ) → IsParcel outgoing said bytes → has_encoding said ≡ true
unfolding outgoing
parcel_had (out.Stands items last) bytes p = refl
parcel_had (out.Sent step at stamp m) bytes p =
    and_from (has_frame m) (has_room m) (sent_had (step, (at, stamp)) m p.fits) (le-leb (sent_prefix + length (content m)) parcel_limit (omega (arith, p.short, sent_size (step, (at, stamp)) m)))
parcel_had (out.Completed stamp c) bytes p = capture_passes (stamp, c) p.fits
parcel_had (out.Refused number by) bytes p = refl
parcel_had (out.NoParcel number at) bytes p = refl
parcel_had (out.Withheld step at stamp) bytes p = refl
parcel_had (out.Pending r) bytes p = refl
