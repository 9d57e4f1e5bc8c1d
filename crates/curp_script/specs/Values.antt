-- The data that JSON over the text of a line is read as.
use Rattle.std.specs.Prelude.{◌&&◌, Bool, true, List, map, Option, is_some, unwrap_or, pos}
use Rattle.curp_cmd.specs.Pairs.{Pair}
use Rattle.curp_script.specs.Grammar.{pair_in}
use Rattle.json.specs.Json as json
use Rattle.json.specs.Value.{value_view}
use Rattle.json.specs.declared.value.Value.{Value}
use Rattle.std.specs.declared.alloc.Global.{Global}
use Rattle.serde_json.specs.Data.{Num, negative, Data, null, boolean, number, string, array, object, Items, no_items, item, Members, no_members, put}
use Rattle.serde_json.specs.Read.{number_of}

-- what stands for a number that is too large for a float, and is refused
abbrev pub unread : Num
unread = negative (pos 0)

-- the data, where no number is too large for a float
abbrev mutual
  pub data_of : json.Json → Data
  data_of json.null = null
  data_of (json.boolean b) = boolean b
  data_of (json.number s) = number (unwrap_or (number_of s) unread)
  data_of (json.string s) = string s
  data_of (json.array js) = array (items_data js)
  data_of (json.object ms) = object (members_data ms no_members)

  -- that of items
  pub items_data : json.Items → Items
  items_data json.no_items = no_items
  items_data (json.item j js) = item (data_of j) (items_data js)

  -- that of members. They go in one after another, so the last value of a name stays
  pub members_data : json.Members → Members → Members
  members_data json.no_members found = found
  members_data (json.member k j ms) found = members_data ms (put k (data_of j) found)

-- no number is too large for a float
abbrev mutual
  pub is_readable : json.Json → Bool
  is_readable json.null = true
  is_readable (json.boolean b) = true
  is_readable (json.number s) = is_some (number_of s)
  is_readable (json.string s) = true
  is_readable (json.array js) = are_items_readable js
  is_readable (json.object ms) = are_members_readable ms

  -- that of items
  pub are_items_readable : json.Items → Bool
  are_items_readable json.no_items = true
  are_items_readable (json.item j js) = is_readable j && are_items_readable js

  -- that of members
  pub are_members_readable : json.Members → Bool
  are_members_readable json.no_members = true
  are_members_readable (json.member k j ms) = is_readable j && are_members_readable ms

-- the data that a value stands for
abbrev pub value_data : Value Global → Data
value_data v = data_of (value_view v)

-- that of values
abbrev pub values_data : List (Value Global) → List Data
values_data vs = map value_data vs

-- the pair that two values are
abbrev pub value_pair : Value Global → Value Global → Option Pair
value_pair key value = pair_in (value_data key) (value_data value)
