-- The frame that bytes begin with is what reading them finds.
use Rattle.std.proofs.Common.{◌≡◌, ℕ, ◌+◌, ◌^◌, ◌<◌, ◌≤◌, Bool, true, false, ◌-◌, ◌≢◌, ◌&&◌, cond, ltb, List, [], ◌∷◌, ◌++◌, length, take, drop, Result, Ok, Err, refl, sym, ap, subst, ◌∙◌, append_assoc, arith}
use Rattle.std.proofs.lemmas.Bool.{cond-false, le-ltb, le-leb, lt-leb, ltb-false, and_from}
use Rattle.std.proofs.lemmas.List.{append-nil, drop-take, drop_at, length-append, length-drop, length-take, take-append-drop, take-take, take_at}
use Rattle.std.proofs.lemmas.List.Elements.{All-drop, All-tail, All-take}
use Rattle.std.proofs.lemmas.Nat.{be_bytes_4, from_be_bytes-to_be_bytes_4}
use Rattle.std.specs.Prelude.{IfOk, nat_le}
use Rattle.std.specs.Int.{w32, from_be_bytes, to_be_bytes}
use Rattle.curp_base.specs.Cases.{◌>>=◌}
use Rattle.curp_base.specs.Words.{AreBytes}
use Rattle.curp_base.specs.declared.failed.Failed.{Failed}
use Rattle.curp_base.specs.declared.failed.Failed.TheVariants as failed
use Rattle.curp_items.proofs.Combining.{IsByte, bind_ok, by_tag_sound, byte_in, input, ok_is, taken_bytes}
use Rattle.curp_items.proofs.Formats.{node_is}
use Rattle.curp_items.specs.Format.{Input, by_tag}
use Rattle.curp_items.specs.Items.{is_node, node}
use Rattle.curp_msg.specs.declared.body.Body.{Body}
use Rattle.curp_msg.specs.declared.body.Body.TheVariants as body
use Rattle.curp_msg.specs.declared.message.Message.{Message}
use Rattle.curp_wire.proofs.ItemSizes.{node_size}
use Rattle.curp_fields.proofs.Formats.{bodies_again, bodies_sound}
use Rattle.curp_fields.proofs.Having.{fields_pass, node_passes}
use Rattle.curp_fields.specs.Fields.{body_parts, body_variants}
use Rattle.curp_fields.specs.Encoded.{has_fields}
use Rattle.curp_wire.specs.Frame.{Frame, IsMessage, content, content_limit, ended, frame_in, frame_of_length, has_content, has_frame, in_fields, is_tag, message_in, read_message}
use Rattle.curp_wire.specs.Errors.{FailsSo, GivesIfMemory}
use Rattle.curp_wire.specs.declared.error.FrameError.{FrameError}
use Rattle.curp_wire.specs.declared.error.FrameError.TheVariants as error

-- ---- messages behind their tag

-- the sender, the addressee and the fields of a message were taken from the prefix
record TakesMessage (tag : ℕ) (at : Input) (m : Message) (after : Input) : Type 0 where
  message : IsMessage m
  tag_is : (body_parts m.body).tag ≡ tag
  rest : at.rest ≡ node.of m.from ++ (node.of m.to ++ ((body_parts m.body).text ++ after.rest))

message_sound : (tag : ℕ) (at : Input) (m : Message) (after : Input) → AreBytes at.rest → read_message tag at ≡ Ok (m, after) → TakesMessage tag at m after
message_sound tag at m after h e =
    let a = bind_ok (node.read at) _ (m, after) e in
    let b = bind_ok (node.read a.0.1) _ (m, after) a.2 in
    let c = bind_ok (by_tag body_variants tag b.0.1.place b.0.1) _ (m, after) b.2 in
    let made : Message × Input = (record { from = a.0.0; to = b.0.0; body = c.0.0 }, c.0.1) in
    let p = ok_is made (m, after) c.2 in
    let from = node_is.sound at a.0.0 a.0.1 h a.1 in
    let bytes = taken_bytes node at a.0.0 a.0.1 h from in
    let to = node_is.sound a.0.1 b.0.0 b.0.1 bytes b.1 in
    let fields = by_tag_sound body_parts body_variants tag b.0.1.place b.0.1 c.0.0 c.0.1 bodies_sound (taken_bytes node a.0.1 b.0.0 b.0.1 bytes to) c.1 in
    let mine : TakesMessage tag at made.0 made.1 = record {
      message = record { from = from.fits; to = to.fits; fields = fields.fits };
      tag_is = fields.tag_is;
      rest = from.rest ∙ ap (λ (r : List ℕ). node.of a.0.0 ++ r) (to.rest ∙ ap (λ (r : List ℕ). node.of b.0.0 ++ r) fields.rest);
    } in
    subst (λ (q : Message × Input). TakesMessage tag at q.0 q.1) p mine

message_again : (m : Message) (place : ℕ) → IsMessage m → (after : Input) × (read_message (body_parts m.body).tag (input place (node.of m.from ++ (node.of m.to ++ (body_parts m.body).text))) ≡ Ok (m, after)) × (after.rest ≡ [])
message_again m place is =
    let text = (body_parts m.body).text in
    let from = node_is.complete m.from place (node.of m.to ++ text) is.from in
    let second = place + length (node.of m.from) in
    let to = node_is.complete m.to second text is.to in
    let third = second + length (node.of m.to) in
    let fields = ap (λ (r : List ℕ). by_tag body_variants (body_parts m.body).tag third (input third r)) (sym (append-nil text)) ∙ bodies_again m.body third third [] is.fields in
    (input (third + length text) [], rw (from, to, fields) refl, refl)

tags_are : (b : Body) → is_tag (body_parts b).tag ≡ true
tags_are (body.Update x) = refl
tags_are (body.Sync x) = refl
tags_are (body.Read x) = refl
tags_are (body.Record x) = refl
tags_are body.Fetch = refl
tags_are (body.Configuration x) = refl
tags_are (body.Reply x) = refl
tags_are (body.Worth x) = refl
tags_are (body.Refuse x) = refl
tags_are (body.Accepted x) = refl
tags_are (body.Rejected x) = refl
tags_are (body.Append x) = refl
tags_are (body.Appended x) = refl
tags_are (body.Gc x) = refl
tags_are (body.Collected x) = refl
tags_are (body.Install x) = refl
tags_are (body.Start x) = refl
tags_are (body.Recover x) = refl
tags_are (body.Fence x) = refl
tags_are (body.FenceAnswer x) = refl
tags_are (body.Freeze x) = refl
tags_are (body.FrozenAnswer x) = refl
tags_are (body.Recovered x) = refl
tags_are (body.Adopted x) = refl
tags_are (body.Prepare x) = refl
tags_are (body.Prepared x) = refl
tags_are (body.TakeOut x) = refl
tags_are (body.Taken x) = refl
tags_are (body.GiveIn x) = refl
tags_are (body.Given x) = refl
tags_are (body.ExpireClient x) = refl
tags_are (body.Probe x) = refl
tags_are (body.Probed x) = refl
tags_are (body.Glance x) = refl
tags_are (body.Quick x) = refl

-- ---- contents

-- the value of a step that did not fail
bind_ok' : {A B : Type 0} (r : Result A FrameError) (f : A → Result B FrameError) (y : B) → (r >>= f) ≡ Ok y → (x : A) × (r ≡ Ok x) × (f x ≡ Ok y)
bind_ok' (Ok x) f y e = (x, refl, e)
bind_ok' (Err d) f y e = absurd cc

abbrev pub okay : {A : Type 0} → A → Result A FrameError
okay x = Ok x

okay_is : {A : Type 0} (x y : A) → okay x ≡ okay y → x ≡ y
okay_is x y e = cc

-- a test that did not fail
passed : {A B : Type 0} (b : Bool) (why : A) (x : Result B A) (y : B) → cond b (Err why) x ≡ Ok y → (b ≡ false) × (x ≡ Ok y)
passed true why x y e = absurd cc
passed false why x y e = (refl, e)

chose : {A B : Type 0} (b : Bool) (x : Result B A) (why : A) (y : B) → cond b x (Err why) ≡ Ok y → (b ≡ true) × (x ≡ Ok y)
chose true x why y e = (refl, e)
chose false x why y e = absurd cc

ended_ok : (m : Message) (place : ℕ) (rest : List ℕ) (n : Message) → ended m place rest ≡ Ok n → (rest ≡ []) × (m ≡ n)
ended_ok m place [] n e = (refl, cc)
ended_ok m place (b ∷ rest) n e = absurd cc

in_fields_ok : (r : Result Message ℕ) (m : Message) → in_fields r ≡ Ok m → r ≡ Ok m
in_fields_ok (Ok n) m e =
    let same : n ≡ m = cc in
    ap (λ (x : Message). let y : Result Message ℕ = Ok x in y) same
in_fields_ok (Err place) m e = absurd cc

content_found : (bytes : List ℕ) (m : Message) → AreBytes bytes → message_in bytes ≡ Ok m → IsMessage m × (bytes ≡ content m)
content_found [] m h e = absurd cc
content_found (tag ∷ rest) m h e =
    let c = chose (is_tag tag) _ error.BadTag m e in
    let read = in_fields_ok _ m c.1 in
    let a = bind_ok (read_message tag (input 5 rest)) (λ m. ended m.0 m.1.place m.1.rest) m read in
    let end = ended_ok a.0.0 a.0.1.place a.0.1.rest m a.2 in
    let t = message_sound tag (input 5 rest) a.0.0 a.0.1 (All-tail IsByte tag rest h) a.1 in
    let text = (body_parts a.0.0.body).text in
    let whole : text ++ a.0.1.rest ≡ text = ap (λ (r : List ℕ). text ++ r) end.0 ∙ append-nil text in
    let mine : IsMessage a.0.0 × (tag ∷ rest ≡ content a.0.0) =
    (t.message, ap (λ (r : List ℕ). tag ∷ r) (t.rest ∙ ap (λ (r : List ℕ). node.of a.0.0.from ++ (node.of a.0.0.to ++ r)) whole) ∙ ap (λ (n : ℕ). n ∷ (node.of a.0.0.from ++ (node.of a.0.0.to ++ text))) (sym t.tag_is)) in
    subst (λ (n : Message). IsMessage n × (tag ∷ rest ≡ content n)) end.1 mine

content_again : (m : Message) → IsMessage m → message_in (content m) ≡ Ok m
content_again m is =
    let again = message_again m 5 is in
    rw (tags_are m.body, again.1, again.2) refl

-- ---- frames

take-more : (n m : ℕ) (xs : List ℕ) → take (n + m) xs ≡ take n xs ++ take m (drop n xs)
take-more n m xs =
    sym (take-append-drop n (take (n + m) xs))
    ∙ ap (λ (r : List ℕ). r ++ drop n (take (n + m) xs)) (take-take n (n + m) xs (omega arith))
    ∙ ap (λ (r : List ℕ). take n xs ++ r) (drop-take n m xs)

-- a frame at the prefix
abbrev pub IsFound : List ℕ → Message × ℕ → Type 0
IsFound bytes found = Frame found.0 (take found.1 bytes) × (found.1 ≤ length bytes)

of_length : (bytes : List ℕ) (n : ℕ) (found : Message × ℕ) → AreBytes bytes → 4 ≤ length bytes → n ≤ content_limit → to_be_bytes w32 n ≡ take 4 bytes → frame_of_length n bytes ≡ Ok found → IsFound bytes found
of_length bytes n found h four most number e =
    let a = passed (ltb n 11) (error.BadField 0) _ found e in
    let b = passed (ltb (length bytes) (4 + n)) (error.Short (4 + n)) _ found a.1 in
    let long : 4 + n ≤ length bytes = ltb-false (length bytes) (4 + n) b.0 in
    let c = bind_ok' (message_in (take n (drop 4 bytes))) (λ m. Ok (m, 4 + n)) found b.1 in
    let m = c.0 in
    let is = content_found (take n (drop 4 bytes)) m (All-take IsByte n (drop 4 bytes) (All-drop IsByte 4 bytes h)) c.1 in
    let size : length (content m) ≡ n = ap length (sym is.1) ∙ omega (arith, length-take n (drop 4 bytes), length-drop 4 bytes) in
    let made : IsFound bytes (m, 4 + n) = (
      record {
        message = is.0;
        short = omega (arith, size, most);
        is = take-more 4 n bytes ∙ ap (λ (r : List ℕ). r ++ take n (drop 4 bytes)) (sym number) ∙ ap (λ (r : List ℕ). to_be_bytes w32 n ++ r) is.1 ∙ ap (λ (k : ℕ). to_be_bytes w32 k ++ content m) (sym size);
      },
      long,
    ) in
    subst (IsFound bytes) (okay_is (m, 4 + n) found c.2) made

pub frame_found : (bytes : List ℕ) (found : Message × ℕ) → AreBytes bytes → frame_in bytes ≡ Ok found → IsFound bytes found
frame_found bytes found h e =
    let a = passed (ltb (length bytes) 4) (error.Short 4) _ found e in
    let four : 4 ≤ length bytes = ltb-false (length bytes) 4 a.0 in
    let prefix = take 4 bytes in
    let size : length prefix ≡ 4 = omega (arith, length-take 4 bytes) in
    let fits = byte_in prefix (All-take IsByte 4 bytes h) in
    let most : from_be_bytes w32 prefix ≤ content_limit = omega (arith, fits 0, fits 1, fits 2, fits 3) in
    of_length bytes (from_be_bytes w32 prefix) found h four most (be_bytes_4 prefix (from_be_bytes w32 prefix) size fits refl) a.1

-- four bytes that are a length, and enough behind them
framed : (number more : List ℕ) (n : ℕ) → length number ≡ 4 → from_be_bytes w32 number ≡ n → 11 ≤ n → n ≤ length more → frame_in (number ++ more) ≡ (message_in (take n more) >>= λ m. okay (m, 4 + n))
framed number more n four is least long =
    let bytes = number ++ more in
    let all = length-append number more in
    let there : ltb (length bytes) 4 ≡ false = le-ltb (length bytes) 4 (omega (arith, all)) in
    let whole : ltb (length bytes) (4 + n) ≡ false = le-ltb (length bytes) (4 + n) (omega (arith, all)) in
    cond-false (ltb (length bytes) 4) (Err (error.Short 4)) (frame_of_length (from_be_bytes w32 (take 4 bytes)) bytes) there
    ∙ ap (λ (k : ℕ). frame_of_length k bytes) (ap (from_be_bytes w32) (take_at number more 4 four) ∙ is)
    ∙ cond-false (ltb n 11) (Err (error.BadField 0)) _ (le-ltb n 11 least)
    ∙ cond-false (ltb (length bytes) (4 + n)) (Err (error.Short (4 + n))) _ whole
    ∙ ap (λ (c : List ℕ). message_in (take n c) >>= λ m. okay (m, 4 + n)) (drop_at number more 4 four)

content_least : (m : Message) → IsMessage m → 11 ≤ length (content m)
content_least m is = omega (arith, node_size m.from, node_size m.to, length-append (node.of m.from) (node.of m.to ++ (body_parts m.body).text), length-append (node.of m.to) (body_parts m.body).text)

pub frame_length : (m : Message) (frame : List ℕ) → Frame m frame → length frame ≡ 4 + length (content m)
frame_length m frame f = ap length f.is ∙ omega (arith, length-append (to_be_bytes w32 (length (content m))) (content m))

pub frame_again : (m : Message) (frame rest : List ℕ) → Frame m frame → frame_in (frame ++ rest) ≡ Ok (m, length frame)
frame_again m frame rest f =
    let n = length (content m) in
    let number = to_be_bytes w32 n in
    let laid : frame ++ rest ≡ number ++ (content m ++ rest) = ap (λ (r : List ℕ). r ++ rest) f.is ∙ append_assoc number (content m) rest in
    let small : n < 2 ^ 32 = omega (arith, f.short) in
    let read = framed number (content m ++ rest) n refl (from_be_bytes-to_be_bytes_4 n small) (content_least m f.message) (omega (arith, length-append (content m) rest)) in
    let prefix = ap message_in (take_at (content m) rest n refl) ∙ content_again m f.message in
    ap frame_in laid ∙ read
    ∙ ap (λ (r : Result Message FrameError). r >>= λ m. okay (m, 4 + n)) prefix
    ∙ ap (λ (k : ℕ). okay (m, k)) (sym (frame_length m frame f))

-- no frame begins another
pub one_frame : (a b : Message) (of_a of_b after_a after_b : List ℕ) → Frame a of_a → Frame b of_b → of_a ++ after_a ≡ of_b ++ after_b → (a ≡ b) × (of_a ≡ of_b) × (after_a ≡ after_b)
one_frame a b of_a of_b after_a after_b f g e =
    let both = okay_is (a, length of_a) (b, length of_b) (sym (frame_again a of_a after_a f) ∙ ap frame_in e ∙ frame_again b of_b after_b g) in
    let long : length of_a ≡ length of_b = ap (λ (p : Message × ℕ). p.1) both in (
      ap (λ (p : Message × ℕ). p.0) both,
      sym (take_at of_a after_a (length of_a) refl) ∙ ap (take (length of_a)) e ∙ take_at of_b after_b (length of_a) (sym long),
      sym (drop_at of_a after_a (length of_a) refl) ∙ ap (drop (length of_a)) e ∙ drop_at of_b after_b (length of_a) (sym long),
    )

-- the same of bytes that are cut behind the length
pub framed_at : (bytes : List ℕ) (n : ℕ) → 4 ≤ length bytes → n ≡ from_be_bytes w32 (take 4 bytes) → 11 ≤ n → n ≤ length (drop 4 bytes) → frame_in bytes ≡ (message_in (take n (drop 4 bytes)) >>= λ m. okay (m, 4 + n))
framed_at bytes n four is least long =
    ap frame_in (sym (take-append-drop 4 bytes)) ∙ framed (take 4 bytes) (drop 4 bytes) n (omega (arith, length-take 4 bytes)) (sym is) least long

-- ---- what is written

pub made_frame : (m : Message) (items : List ℕ) → length items ≡ 4 + length (content m) → drop 4 items ≡ content m → IsMessage m → length (content m) ≤ content_limit → Frame m (to_be_bytes w32 (length items - 4) ++ drop 4 items)
made_frame m items all dropped is short =
    let size : length items - 4 ≡ length (content m) = omega (arith, all) in
    record {
      message = is;
      short = short;
      is = ap (λ (k : ℕ). to_be_bytes w32 k ++ drop 4 items) size ∙ ap (λ (r : List ℕ). to_be_bytes w32 (length (content m)) ++ r) dropped;
    }

pub no_content : (m : Message) → has_content m ≡ false → has_frame m ≡ false
no_content m none = ap (λ (b : Bool). b && nat_le (length (content m)) content_limit) none

and_false : (b : Bool) → (b && false) ≡ false
and_false true = refl
and_false false = refl

pub too_long : (m : Message) → content_limit < length (content m) → has_frame m ≡ false
too_long m long =
    ap (λ (b : Bool). has_content m && b) (lt-leb (length (content m)) content_limit long) ∙ and_false (has_content m)

pub frame_had : (m : Message) (bytes : List ℕ) → Frame m bytes → has_frame m ≡ true
frame_had m bytes f =
    let ends = and_from (is_node m.from) (is_node m.to) (node_passes m.from f.message.from) (node_passes m.to f.message.to) in
    let all = and_from (is_node m.from && is_node m.to) (has_fields m.body) ends (fields_pass m.body f.message.fields) in
    and_from (has_content m) (nat_le (length (content m)) content_limit) all (le-leb (length (content m)) content_limit f.short)

-- ---- what a call finds

pub all_found : (bytes : List ℕ) (r : Result (Message × ℕ) (Failed FrameError)) → AreBytes bytes → GivesIfMemory r (frame_in bytes) → IfOk r (IsFound bytes)
all_found bytes (Ok found) h e = frame_found bytes found h e
all_found bytes (Err why) h e = tt

-- what is there is found, unless memory runs out
pub only_found : (bytes : List ℕ) (r : Result (Message × ℕ) (Failed FrameError)) (found : Message × ℕ) → GivesIfMemory r (frame_in bytes) → frame_in bytes ≡ Ok found → r ≢ Err failed.NoMemory → r ≡ Ok found
only_found bytes (Ok x) found gives is other = ap (λ (y : Message × ℕ). Ok y) (okay_is x found (sym gives ∙ is))
only_found bytes (Err failed.NoMemory) found gives is other = absurd (other refl)
only_found bytes (Err (failed.Because why)) found gives is other = absurd (cc (sym gives ∙ is))

-- a frame whose content fails fails so
pub fails_so : (bytes : List ℕ) (n : ℕ) (r : Result Message FrameError) (why : Failed FrameError) → frame_in bytes ≡ (r >>= λ m. okay (m, 4 + n)) → FailsSo why r → FailsSo why (frame_in bytes)
fails_so bytes n r failed.NoMemory read fails = tt
fails_so bytes n r (failed.Because why) read fails = read ∙ ap (λ (s : Result Message FrameError). s >>= λ m. okay (m, 4 + n)) fails
