-- The inputs that lines give: they are the manager's, and have short records.
use Rattle.std.proofs.Common.{◌≡◌, ℕ, ◌+◌, ◌<◌, ◌≤◌, ◌^◌, Bool, Option, Some, None, option_and_then, find, Result, Ok, Err, IfOk, IfSome, List, [], ◌∷◌, ◌++◌, length, refl, arith, length-append}
use Rattle.std.proofs.lemmas.Bool.{cond_both}
use Rattle.std.specs.Option.{ok_or}
use Rattle.std.specs.Str.{bytes_eq}
use Rattle.serde_json.specs.Data.{Data}
use Rattle.curp_base.specs.Words.{Each}
use Rattle.curp_cmd.specs.declared.node.Keeper.{Keeper}
use Rattle.curp_cmd.specs.declared.node.Keeper.TheVariants as keeper
use Rattle.curp_items.specs.Items.{IsNodeName, node, truth, u32, u64}
use Rattle.curp_batches.specs.Arrivals as format
use Rattle.curp_batches.specs.Arrivals.{arrival, frame, frame_of, name, stamped}
use Rattle.curp_batches.specs.Batches.{batch_of, checksum_of}
use Rattle.curp_batches.specs.Orders.{orders}
use Rattle.curp_durable.proofs.Pieces.{record-length}
use Rattle.curp_durable.specs.Answering.{record_of}
use Rattle.curp_journal.specs.declared.arrived.Arrived.{Arrived}
use Rattle.curp_journal.specs.declared.arrived.Arrived.TheVariants as arrived
use Rattle.curp_journal.specs.Given.{stamp_of}
use Rattle.curp_manage.specs.Kept.{IsSmallInput, recovered_arrived}
use Rattle.curp_manage.specs.Lines.{IsForManager}
use Rattle.curp_manage.specs.Managed.{recovered_by_first}
use Rattle.curp_msg.specs.declared.machine.Local.TheVariants as order
use Rattle.curp_script.specs.declared.error.FieldName.{FieldName}
use Rattle.curp_script.specs.declared.error.FieldName.TheVariants as field
use Rattle.curp_script.specs.declared.error.LineError.{LineError}
use Rattle.curp_script.specs.declared.error.LineError.TheVariants.{BadField}
use Rattle.curp_script.specs.declared.manage.ManageLine.{ManageLine}
use Rattle.curp_script.specs.declared.manage.ManageLine.TheVariants as line
use Rattle.curp_script.specs.Digits.{hash_of}
use Rattle.curp_script.specs.Grammar.{◌>>=◌, field_as, index_at, no_other, number_at, object_in, read_as, text_as}
use Rattle.curp_script.specs.Manage.{manage_by, manage_in, manage_of}
use Rattle.curp_script.specs.ManageKinds.{manage_kind_of, manage_kind_text, manage_kinds}
use Rattle.curp_script.specs.Nodes.{keeper_of}
use Rattle.curp_script.specs.Text.{field_text}
use Rattle.serde_json.specs.Find.{as_bool, as_str, get}
use Rattle.curp_fields.specs.Fields.{recovered_fields}
use Rattle.curp_wire.specs.Frame.{Frame, content}

-- ---- lines

-- behind a part that may be refused
behind : {A B : Type 0} (P : B → Type 0) (r : Result A LineError) (f : A → Result B LineError) → IfOk r (λ x. IfOk (f x) P) → IfOk (r >>= f) P
behind P (Ok x) f all = all
behind P (Err e) f all = tt

-- whatever the part is
anyway : {A : Type 0} (P : A → Type 0) (r : Result A LineError) → ((x : A) → P x) → IfOk r P
anyway P (Ok x) all = all x
anyway P (Err e) all = tt

-- of a result that is there
of_ok : {A : Type 0} (P : A → Type 0) (r : Result A LineError) (x : A) → r ≡ Ok x → IfOk r P → P x
of_ok P r x is holds = let at_ok = rw is at holds in at_ok

-- of what is found, or refused
or_error : {A : Type 0} (P : A → Type 0) (o : Option A) (e : LineError) → IfSome o P → IfOk (ok_or o e) P
or_error P None e h = tt
or_error P (Some x) e h = h

some_behind : {A B : Type 0} (P : B → Type 0) (o : Option A) (f : A → Option B) → ((x : A) → IfSome (f x) P) → IfSome (option_and_then f o) P
some_behind P None f all = tt
some_behind P (Some x) f all = all x

some_found : {A : Type 0} (P : A → Type 0) (test : A → Bool) (xs : List A) → Each P xs → IfSome (find test xs) P
some_found P test [] all = tt
some_found P test (x ∷ xs) all =
    cond_both (test x) (Some x) (find test xs) (λ (o : Option _). IfSome o P) (λ yes. all.0) (λ no. some_found P test xs all.1)

-- with no further name
named : (line : Result ManageLine LineError) (names : List FieldName) (d : Data) → IfOk line IsForManager
    → IfOk (line >>= λ l. no_other names d >>= λ _. Ok l) IsForManager
named (Ok l) names d own = behind IsForManager (no_other names d) (λ _. Ok l) (anyway _ (no_other names d) (λ _. own))
named (Err e) names d own = tt

one_number : (a : FieldName) (d : Data) (f : ℕ → ManageLine) → ((x : ℕ) → IsForManager (f x)) → IfOk (index_at a d >>= λ x. Ok (f x)) IsForManager
one_number a d f own = behind IsForManager (index_at a d) (λ x. Ok (f x)) (anyway _ (index_at a d) own)

two_numbers : (a b : FieldName) (d : Data) (f : ℕ → ℕ → ManageLine) → ((x y : ℕ) → IsForManager (f x y)) → IfOk (index_at a d >>= λ x. index_at b d >>= λ y. Ok (f x y)) IsForManager
two_numbers a b d f own = behind IsForManager (index_at a d) (λ x. index_at b d >>= λ y. Ok (f x y)) (anyway _ (index_at a d) (λ x. one_number b d (f x) (own x)))

-- a line of each kind is for the manager
kinds_own : (d : Data) → Each (λ k. IfOk (manage_by k d) IsForManager) manage_kinds
kinds_own d = (
  named _ (field.Do ∷ field.Backup ∷ field.Part ∷ field.Witness ∷ []) d (behind IsForManager (index_at field.Backup d) _ (anyway _ (index_at field.Backup d) (λ backup. two_numbers field.Part field.Witness d (λ part witness. line.Order (order.Recover part backup witness)) (λ _ _. refl)))),
  (
    named _ (field.Do ∷ field.Kind ∷ field.Part ∷ field.Place ∷ []) d (behind IsForManager (text_as keeper_of field.Kind d) _ (anyway _ (text_as keeper_of field.Kind d) (λ kind. two_numbers field.Part field.Place d (λ part place. line.Order (order.Replace kind part place)) (λ _ _. refl)))),
    (
      named _ (field.Do ∷ field.Hi ∷ field.Lo ∷ field.To ∷ []) d (behind IsForManager (text_as hash_of field.Hi d) _ (anyway _ (text_as hash_of field.Hi d) (λ hi. behind IsForManager (text_as hash_of field.Lo d) _ (anyway _ (text_as hash_of field.Lo d) (λ lo. one_number field.To d (λ to. line.Order (order.Migrate lo hi to)) (λ _. refl)))))),
      (
        named (Ok (line.Order order.Nudge)) (field.Do ∷ []) d refl,
        (
          named _ (field.Do ∷ field.Client ∷ []) d (one_number field.Client d (λ client. line.Order (order.Expire client)) (λ _. refl)),
          (
            named _ (field.Do ∷ field.Epoch ∷ field.Part ∷ []) d (two_numbers field.Epoch field.Part d (λ epoch part. line.Recovered part epoch) (λ _ _. tt)),
            (
              named _ (field.Do ∷ field.Call ∷ field.Kept ∷ []) d (behind IsForManager (number_at field.Call 1 4 d) _ (anyway _ (number_at field.Call 1 4 d) (λ call. behind IsForManager (field_as as_bool field.Kept d) _ (anyway _ (field_as as_bool field.Kept d) (λ kept. tt))))),
              tt,
            ),
          ),
        ),
      ),
    ),
  ),
)

object_own : (d : Data) → IfOk (manage_of d) IsForManager
object_own d =
    behind IsForManager (text_as manage_kind_of field.Do d) (λ k. manage_by k d)
    (or_error _ (option_and_then manage_kind_of (option_and_then as_str (get (field_text field.Do) d))) (BadField field.Do)
    (some_behind _ (option_and_then as_str (get (field_text field.Do) d)) manage_kind_of (λ text. some_found (λ k. IfOk (manage_by k d) IsForManager) (λ k. bytes_eq text (manage_kind_text k)) manage_kinds (kinds_own d))))

line_own : (line : List ℕ) → IfOk (manage_in line) IsForManager
line_own line = by (object_in line)
  where
    by : (o : Option Data) → IfOk (read_as manage_of o) IsForManager
    by None = tt
    by (Some d) = object_own d

-- a line that is read is one for the manager
pub own_line : (line : List ℕ) (l : ManageLine) → manage_in line ≡ Ok l → IsForManager l
own_line line l is = of_ok IsForManager (manage_in line) l is (line_own line)

-- ---- inputs

-- an arrival of at most 100 bytes has a record of at most 128
short_record : (a : Arrived) → length (arrival.of a) ≤ 100 → length (record_of (a ∷ [])) ≤ 128
unfolding batch_of
short_record a short =
    let bytes : List ℕ = arrival.of a ++ [] in
    let eight : length (checksum_of bytes) ≡ 8 = refl in
    let whole : length (batch_of (a ∷ [])) ≡ length bytes + length (checksum_of bytes) = length-append bytes (checksum_of bytes) in
    omega (arith, short, record-length (a ∷ []), whole, eight, length-append (arrival.of a) [])

-- such an arrival that fits is small
small : (a : Arrived) → arrival.Fits a → length (arrival.of a) ≤ 100 → stamp_of a ≡ 0 → IsSmallInput a
small a fits short unstamped = record { fits = fits; short = short_record a short; unstamped = unstamped }

pub small_recover : (part backup witness : ℕ) → part < 2 ^ 32 → backup < 2 ^ 32 → witness < 2 ^ 32 → IsSmallInput (arrived.Local (order.Recover part backup witness) 0)
unfolding arrival stamped orders u32 u64
small_recover part backup witness p b w =
    let a = arrived.Local (order.Recover part backup witness) 0 in
    let size : length (arrival.of a) ≡ 22 = refl in
    small a ((p, (b, w)), omega arith) (omega (arith, size)) refl

pub small_replace : (kind : Keeper) (part place : ℕ) → part < 2 ^ 32 → place < 2 ^ 32 → IsSmallInput (arrived.Local (order.Replace kind part place) 0)
unfolding arrival stamped orders u32 u64 truth
small_replace keeper.Backup part place p q =
    let a = arrived.Local (order.Replace keeper.Backup part place) 0 in
    let size : length (arrival.of a) ≡ 19 = refl in
    small a ((p, (tt, q)), omega arith) (omega (arith, size)) refl
small_replace keeper.Witness part place p q =
    let a = arrived.Local (order.Replace keeper.Witness part place) 0 in
    let size : length (arrival.of a) ≡ 19 = refl in
    small a ((p, (tt, q)), omega arith) (omega (arith, size)) refl

pub small_migrate : (lo hi to : ℕ) → lo < 2 ^ 64 → hi < 2 ^ 64 → to < 2 ^ 32 → IsSmallInput (arrived.Local (order.Migrate lo hi to) 0)
unfolding arrival stamped orders u32 u64
small_migrate lo hi to l h t =
    let a = arrived.Local (order.Migrate lo hi to) 0 in
    let size : length (arrival.of a) ≡ 30 = refl in
    small a ((l, (h, t)), omega arith) (omega (arith, size)) refl

pub small_nudge : IsSmallInput (arrived.Local order.Nudge 0)
unfolding arrival stamped orders u64
small_nudge =
    let a = arrived.Local order.Nudge 0 in
    let size : length (arrival.of a) ≡ 10 = refl in
    small a (tt, omega arith) (omega (arith, size)) refl

pub small_expire : (client : ℕ) → client < 2 ^ 32 → IsSmallInput (arrived.Local (order.Expire client) 0)
unfolding arrival stamped orders u32 u64
small_expire client c =
    let a = arrived.Local (order.Expire client) 0 in
    let size : length (arrival.of a) ≡ 14 = refl in
    small a (c, omega arith) (omega (arith, size)) refl

pub small_message : (part epoch : ℕ) → part < 2 ^ 32 → epoch < 2 ^ 32 → IsSmallInput (recovered_arrived part epoch)
unfolding arrival format.named name frame node recovered_fields u32 u64
small_message part epoch p e =
    let a = recovered_arrived part epoch in
    let m = recovered_by_first part epoch in
    let size : length (arrival.of a) ≡ 53 = refl in
    let long : length (content m) ≡ 19 = refl in
    let master : IsNodeName m.from = record { named = refl; number = omega arith } in
    let manager : IsNodeName m.to = record { named = refl; number = omega arith } in
    let framed : Frame m (frame_of m) = record { message = record { from = master; to = manager; fields = (p, e) }; short = omega (arith, long); is = refl } in
    small a ((master, (omega arith, (omega arith, omega arith))), framed) (omega (arith, size)) refl
