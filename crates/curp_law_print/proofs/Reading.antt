-- The text of data, read.
use Rattle.std.proofs.Common.{◌≡◌, ◌≤◌, List, [], true, is_some, Option, Some, option_and_then, Result, sym, ap, ◌∙◌, arith, append-nil}
use Rattle.json.proofs.Printed.Tokens.{tokens-print}
use Rattle.json.proofs.Printed.Trees.{ArePrintable-json_tokens, value-json_tokens}
use Rattle.json.specs.Json as json
use Rattle.json.specs.Lex.{tokens}
use Rattle.json.specs.Token.{Token}
use Rattle.json.specs.Tree.{json_tokens}
use Rattle.serde_json.proofs.Texts.{print-outline}
use Rattle.serde_json.specs.Data.{Data, depth}
use Rattle.serde_json.specs.Find.{as_object}
use Rattle.serde_json.specs.Read.{max_depth, of_json, read}
use Rattle.serde_json.specs.Written.{compact_text, outline}
use Rattle.curp_script.proofs.Lines.{read_as-printed}
use Rattle.curp_script.specs.Grammar.{object_in, read_as}
use Rattle.curp_script.specs.declared.error.LineError.{LineError}
use Rattle.curp_law_print.proofs.Bytes.{utf8_shown}
use Rattle.curp_law_print.proofs.Data.{IsPlain, depth_written, numbers_written, shown}

-- the data of a whole text
abbrev whole : Option (json.Json × List Token) → Option Data
whole found = option_and_then of_json (option_and_then (λ p. json.if_last p.0 p.1) found)

read_written : (d : Data) → IsPlain d → depth d ≤ max_depth → of_json (outline d) ≡ Some d → read (compact_text d) ≡ Some d
read_written d plain shallow same =
    let ts = json_tokens (outline d) in
    let seen : tokens (compact_text d) ≡ ts = ap tokens (sym (print-outline d)) ∙ tokens-print ts (ArePrintable-json_tokens (outline d) (numbers_written d plain)) in
    ap whole (ap (json.value max_depth) (seen ∙ sym (append-nil ts)) ∙ value-json_tokens (outline d) max_depth [] (omega (arith, shallow, depth_written d))) ∙ same

-- the text of an object is read as that object
pub reads_as : {A : Type 0} (form : Data → Result A LineError) (d : Data) → IsPlain d → depth d ≤ max_depth → is_some (as_object d) ≡ true
    → of_json (outline d) ≡ Some d → read_as form (object_in (compact_text d)) ≡ form d
reads_as form d plain shallow object same = read_as-printed form (compact_text d) d object (utf8_shown (compact_text d) (shown d plain)) (read_written d plain shallow same)
