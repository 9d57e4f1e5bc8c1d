-- A delivery, as it is printed, read.
use Rattle.std.proofs.Common.{◌≡◌, ◌&&◌, zero, suc, Bool, false, nat_lt, IsAscii, None, IfSome, length, take, drop, bytes_eq, take-append-drop, ap₂, ◌-◌, Option, option_and_then, ◌<◌, ◌^◌, ◌∙◌, ◌++◌, ℕ, List, [], ◌∷◌, codes, decimal, true, Some, Ok, IsUtf8, refl, sym, ap, arith}
use Rattle.std.proofs.lemmas.Bool.Decides.{nat_tests}
use Rattle.std.proofs.lemmas.Slice.Eq.{bytes_eq-Decides}
use Rattle.std.proofs.lemmas.Fmt.{IsAscii-decimal}
use Rattle.std.proofs.lemmas.Str.{IsAscii-append, IsUtf8-from_ascii}
use Rattle.std.specs.List.{list_all}
use Rattle.json.specs.Json.{items, members, value, if_last}
use Rattle.json.specs.Lex.{tokens}
use Rattle.json.specs.Print.{escape_byte, print, print_from, ArePrintable}
use Rattle.json.specs.Token.{Token, begin_object, end_object, key, string, number}
use Rattle.json.proofs.Printed.Decimals.{IsNumber-decimal}
use Rattle.json.proofs.Printed.Tokens.{tokens-print}
use Rattle.serde_json.specs.Data.{Data, unsigned}
use Rattle.serde_json.specs.Read.{read, of_json, number_of, max_depth}
use Rattle.serde_json.proofs.Numbers.{number_of-decimal}
use Rattle.curp_msg.specs.declared.script.Step.TheVariants.{Deliver}
use Rattle.curp_script.specs.Digits.{whole_of}
use Rattle.curp_script.specs.Grammar.{step_of, step_in}
use Rattle.curp_script.specs.Headers.{is_within}
use Rattle.curp_script.specs.Printed.{step_data, ReadsBack}
use Rattle.curp_script.proofs.Counting.{decimal-whole_of}
use Rattle.curp_script.proofs.Lines.{read_as-printed}

-- the line of a delivery of a message with these digits
abbrev pub delivery : List ℕ → List ℕ
delivery digits = codes "{\"do\":\"deliver\",\"msg\":" ++ (digits ++ codes "}")

-- what stands before the digits, and behind them
pub is_delivery : (line rest digits : List ℕ) → bytes_eq (take 22 line) (codes "{\"do\":\"deliver\",\"msg\":") ≡ true → rest ≡ drop 22 line
    → bytes_eq (drop (length rest - 1) rest) (codes "}") ≡ true → digits ≡ take (length rest - 1) rest → line ≡ delivery digits
is_delivery line rest digits prefix behind end before =
    sym (take-append-drop 22 line)
    ∙ ap₂ (λ (a b : List ℕ). a ++ b) ((bytes_eq-Decides (take 22 line) _).0 prefix)
    (sym behind ∙ sym (take-append-drop (length rest - 1) rest) ∙ ap₂ (λ (a b : List ℕ). a ++ b) (sym before) ((bytes_eq-Decides _ (codes "}")).0 end))

tokens_in : List ℕ → List Token
tokens_in digits = begin_object ∷ key (codes "do") ∷ string (codes "deliver") ∷ key (codes "msg") ∷ number digits ∷ end_object ∷ []

print-tokens_in : (digits : List ℕ) → print (tokens_in digits) ≡ delivery digits
unfolding tokens_in print_from escape_byte
print-tokens_in digits = refl

tokens-delivery : (n : ℕ) → n < 2 ^ 64 → tokens (delivery (decimal n)) ≡ tokens_in (decimal n)
unfolding tokens_in ArePrintable
tokens-delivery n small =
    ap tokens (sym (print-tokens_in (decimal n))) ∙ tokens-print (tokens_in (decimal n)) (tt, (tt, (tt, (tt, (IsNumber-decimal n small, (tt, tt))))))

read_tokens : List Token → Option Data
read_tokens ts = option_and_then of_json (option_and_then (λ p. if_last p.0 p.1) (value max_depth ts))

read_tokens-tokens_in : (digits : List ℕ) (n : ℕ) → number_of digits ≡ Some (unsigned n) → read_tokens (tokens_in digits) ≡ Some (step_data (Deliver n))
unfolding read_tokens tokens_in items members value
read_tokens-tokens_in digits n is = rw is refl

read-delivery : (n : ℕ) → n < 2 ^ 64 → read (delivery (decimal n)) ≡ Some (step_data (Deliver n))
unfolding read_tokens
read-delivery n small = ap read_tokens (tokens-delivery n small) ∙ read_tokens-tokens_in (decimal n) n (number_of-decimal n small)

both : (a b : Bool) → (a && b) ≡ true → (a ≡ true) × (b ≡ true)
both true true is = (refl, refl)
both true false is = absurd cc
both false b is = absurd cc

all_ascii : (bytes : List ℕ) → list_all (λ b. nat_lt b 128) bytes ≡ true → IsAscii bytes
all_ascii [] all i = omega arith
all_ascii (b ∷ bytes) all zero = let first : nat_lt b 128 ≡ true = (both (nat_lt b 128) (list_all (λ x. nat_lt x 128) bytes) all).0 in grind (arith, nat_tests)
all_ascii (b ∷ bytes) all (suc i) = all_ascii bytes (both (nat_lt b 128) (list_all (λ x. nat_lt x 128) bytes) all).1 i

utf8 : (n : ℕ) → n < 2 ^ 64 → IsUtf8 (delivery (decimal n))
utf8 n small =
    let prefix = codes "{\"do\":\"deliver\",\"msg\":" in
    let end = codes "}" in
    IsUtf8-from_ascii (delivery (decimal n)) (IsAscii-append prefix (decimal n ++ end) (all_ascii prefix refl)
    (IsAscii-append (decimal n) end (IsAscii-decimal n small) (all_ascii end refl)))

deliver_reads : (n : ℕ) → n < 2 ^ 64 → ReadsBack (Deliver n)
deliver_reads n small =
    let fits : is_within 0 (2 ^ 64 - 1) n ≡ true = grind (arith, nat_tests) in
    rw fits refl

step_in-delivery : (n : ℕ) → n < 2 ^ 64 → step_in (delivery (decimal n)) ≡ Ok (Deliver n)
step_in-delivery n small = read_as-printed step_of (delivery (decimal n)) (step_data (Deliver n)) refl (utf8 n small) (read-delivery n small) ∙ deliver_reads n small

-- where digits write a number, a line of these digits is the delivery of it
pub reads_delivery : (line digits : List ℕ) (message : Option ℕ) → line ≡ delivery digits → message ≡ whole_of digits → IfSome message (λ n. step_in line ≡ Ok (Deliver n))
reads_delivery line digits None is whole = tt
reads_delivery line digits (Some n) is whole =
    let printed = decimal-whole_of digits n whole in
    ap step_in (is ∙ ap delivery (sym printed.0)) ∙ step_in-delivery n printed.1
