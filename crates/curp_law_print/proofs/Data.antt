-- The text of data that has no float, no sign, and no text that needs an escape.
use Rattle.std.proofs.Common.{◌≡◌, ◌≤◌, ◌<◌, ◌+◌, ◌^◌, ◌++◌, ℕ, suc, ◌∷◌, length, max, Bool, true, false, refl, ap, ap₂, arith, length-append}
use Rattle.std.specs.Prelude.{⊤}
use Rattle.json.proofs.Printed.Decimals.{IsNumber-decimal}
use Rattle.json.specs.Print.{quoted}
use Rattle.json.specs.Tree as tree
use Rattle.serde_json.specs.Data.{unsigned, negative, float, Data, null, boolean, number, string, array, object, Items, no_items, item, Members, no_members, member, depth, items_depth, members_depth}
use Rattle.serde_json.specs.Written.{comma_if, compact_text, items_text, members_text, outline, items_outline, members_outline}
use Rattle.curp_law_print.proofs.Bytes.{are_clear, are_shown, decimal_short, decimal_shown, quoted_length, quoted_shown, shown_append}

-- numbers have 64 bits, and texts need no escape
abbrev mutual
  pub IsPlain : Data → Type 0
  IsPlain null = ⊤
  IsPlain (boolean b) = ⊤
  IsPlain (number (unsigned n)) = n < 2 ^ 64
  IsPlain (number (negative z)) = ⊥
  IsPlain (number (float x)) = ⊥
  IsPlain (string s) = are_clear s ≡ true
  IsPlain (array ds) = ItemsArePlain ds
  IsPlain (object ms) = MembersArePlain ms

  pub ItemsArePlain : Items → Type 0
  ItemsArePlain no_items = ⊤
  ItemsArePlain (item d ds) = IsPlain d × ItemsArePlain ds

  pub MembersArePlain : Members → Type 0
  MembersArePlain no_members = ⊤
  MembersArePlain (member k d ms) = (are_clear k ≡ true) × IsPlain d × MembersArePlain ms

-- ---- its length

-- no fewer bytes than the text has
abbrev mutual
  pub weight : Data → ℕ
  weight null = 4
  weight (boolean b) = 5
  weight (number n) = 20
  weight (string s) = length s + 2
  weight (array ds) = 1 + items_weight ds
  weight (object ms) = 1 + members_weight ms

  pub items_weight : Items → ℕ
  items_weight no_items = 1
  items_weight (item d ds) = 1 + (weight d + items_weight ds)

  pub members_weight : Members → ℕ
  members_weight no_members = 1
  members_weight (member k d ms) = 1 + (length k + 2 + (1 + (weight d + members_weight ms)))

comma_short : (later : Bool) → length (comma_if later) ≤ 1
comma_short true = omega arith
comma_short false = omega arith

mutual
  pub short : (d : Data) → IsPlain d → length (compact_text d) ≤ weight d
  short null plain = omega arith
  short (boolean true) plain = omega arith
  short (boolean false) plain = omega arith
  short (number (unsigned n)) plain = decimal_short n plain
  short (number (negative z)) plain = absurd plain
  short (number (float x)) plain = absurd plain
  short (string s) plain = omega (arith, quoted_length s plain)
  short (array ds) plain = omega (arith, items_short false ds plain)
  short (object ms) plain = omega (arith, members_short false ms plain)

  items_short : (later : Bool) (ds : Items) → ItemsArePlain ds → length (items_text later ds) ≤ items_weight ds
  items_short later no_items plain = omega arith
  items_short later (item d ds) plain =
      omega (
        arith,
        comma_short later,
        short d plain.0,
        items_short true ds plain.1,
        length-append (compact_text d) (items_text true ds),
        length-append (comma_if later) (compact_text d ++ items_text true ds),
      )

  members_short : (later : Bool) (ms : Members) → MembersArePlain ms → length (members_text later ms) ≤ members_weight ms
  members_short later no_members plain = omega arith
  members_short later (member k d ms) plain =
      omega (
        arith,
        comma_short later,
        quoted_length k plain.0,
        short d plain.1,
        members_short true ms plain.2,
        length-append (compact_text d) (members_text true ms),
        length-append (quoted k) (58 ∷ (compact_text d ++ members_text true ms)),
        length-append (comma_if later) (quoted k ++ 58 ∷ (compact_text d ++ members_text true ms)),
      )

-- ---- its bytes

comma_shown : (later : Bool) → are_shown (comma_if later) ≡ true
comma_shown true = refl
comma_shown false = refl

mutual
  pub shown : (d : Data) → IsPlain d → are_shown (compact_text d) ≡ true
  shown null plain = refl
  shown (boolean true) plain = refl
  shown (boolean false) plain = refl
  shown (number (unsigned n)) plain = decimal_shown n plain
  shown (number (negative z)) plain = absurd plain
  shown (number (float x)) plain = absurd plain
  shown (string s) plain = quoted_shown s plain
  shown (array ds) plain = items_shown false ds plain
  shown (object ms) plain = members_shown false ms plain

  items_shown : (later : Bool) (ds : Items) → ItemsArePlain ds → are_shown (items_text later ds) ≡ true
  items_shown later no_items plain = refl
  items_shown later (item d ds) plain =
      shown_append (comma_if later) (compact_text d ++ items_text true ds) (comma_shown later)
      (shown_append (compact_text d) (items_text true ds) (shown d plain.0) (items_shown true ds plain.1))

  members_shown : (later : Bool) (ms : Members) → MembersArePlain ms → are_shown (members_text later ms) ≡ true
  members_shown later no_members plain = refl
  members_shown later (member k d ms) plain =
      shown_append (comma_if later) (quoted k ++ 58 ∷ (compact_text d ++ members_text true ms)) (comma_shown later)
      (shown_append (quoted k) (58 ∷ (compact_text d ++ members_text true ms)) (quoted_shown k plain.0)
      (shown_append (compact_text d) (members_text true ms) (shown d plain.1) (members_shown true ms plain.2)))

-- ---- what it is written by

mutual
  pub numbers_written : (d : Data) → IsPlain d → tree.HasNumbers (outline d)
  numbers_written null plain = tt
  numbers_written (boolean b) plain = tt
  numbers_written (number (unsigned n)) plain = IsNumber-decimal n plain
  numbers_written (number (negative z)) plain = absurd plain
  numbers_written (number (float x)) plain = absurd plain
  numbers_written (string s) plain = tt
  numbers_written (array ds) plain = items_written ds plain
  numbers_written (object ms) plain = members_written ms plain

  items_written : (ds : Items) → ItemsArePlain ds → tree.ItemsHaveNumbers (items_outline ds)
  items_written no_items plain = tt
  items_written (item d ds) plain = (numbers_written d plain.0, items_written ds plain.1)

  members_written : (ms : Members) → MembersArePlain ms → tree.MembersHaveNumbers (members_outline ms)
  members_written no_members plain = tt
  members_written (member k d ms) plain = (numbers_written d plain.1, members_written ms plain.2)

mutual
  pub depth_written : (d : Data) → tree.depth (outline d) ≡ depth d
  depth_written null = refl
  depth_written (boolean b) = refl
  depth_written (number n) = refl
  depth_written (string s) = refl
  depth_written (array ds) = ap suc (items_depth_written ds)
  depth_written (object ms) = ap suc (members_depth_written ms)

  items_depth_written : (ds : Items) → tree.items_depth (items_outline ds) ≡ items_depth ds
  items_depth_written no_items = refl
  items_depth_written (item d ds) = ap₂ max (depth_written d) (items_depth_written ds)

  members_depth_written : (ms : Members) → tree.members_depth (members_outline ms) ≡ members_depth ms
  members_depth_written no_members = refl
  members_depth_written (member k d ms) = ap₂ max (depth_written d) (members_depth_written ms)
