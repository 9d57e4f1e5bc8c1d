-- The line of a header.
use Rattle.std.proofs.Common.{◌≡◌, ◌≤◌, ◌<◌, ◌^◌, ◌∙◌, ℕ, true, Some, Ok, length, refl, arith}
use Rattle.std.proofs.lemmas.Bool.Decides.{nat_tests}
use Rattle.serde_json.proofs.Numbers.{number_of-decimal}
use Rattle.serde_json.specs.Read.{of_json}
use Rattle.serde_json.specs.Written.{compact_text, outline}
use Rattle.curp_msg.specs.declared.script.Header.{Header}
use Rattle.curp_msg.specs.declared.script.Protocol.{Protocol}
use Rattle.curp_msg.specs.declared.script.Protocol.TheVariants.{One, Two}
use Rattle.curp_script.specs.Grammar.{header_in, header_of, number_within, protocol_at}
use Rattle.curp_msg.specs.Script.{IsHeader}
use Rattle.curp_script.specs.Headers.{is_within}
use Rattle.curp_script.specs.Printed.{count, header_data, protocol_number}
use Rattle.curp_base.specs.Limits.{line_limit}
use Rattle.curp_law_print.proofs.Bytes.{are_shown}
use Rattle.curp_law_print.proofs.Data.{IsPlain, short, shown}
use Rattle.curp_law_print.proofs.Reading.{reads_as}

count_read : (low high n : ℕ) → (low ≤ n) × (n ≤ high) → number_within low high (count n) ≡ Some n
count_read low high n range =
    let fits : is_within low high n ≡ true = grind (arith, nat_tests, range) in
    rw fits refl

protocol_read : (h : Header) → protocol_at (header_data h) ≡ Ok h.protocol
protocol_read h = by h.protocol
  where
    by : (protocol : Protocol) → protocol_at (header_data (record h { protocol = protocol })) ≡ Ok protocol
    by One = refl
    by Two = refl

header_read : (h : Header) → IsHeader h → header_of (header_data h) ≡ Ok h
header_read h range =
    rw (
      protocol_read h,
      count_read 1 64 h.clients range.clients,
      count_read 1 5 h.f range.f,
      count_read 1 16 h.parts range.parts,
      count_read 1 1024 h.sets range.sets,
      count_read 1 16 h.ways range.ways,
    ) refl

protocol_small : (protocol : Protocol) → protocol_number protocol < 2 ^ 64
protocol_small One = omega arith
protocol_small Two = omega arith

header_plain : (h : Header) → IsHeader h → IsPlain (header_data h)
header_plain h range =
    (refl, omega (arith, range.clients), (refl, omega (arith, range.f), (refl, tt, (refl, omega (arith, range.parts), (refl, protocol_small h.protocol, (refl, omega (arith, range.sets), (refl, omega (arith, range.ways), tt)))))))

header_written : (h : Header) → IsHeader h → of_json (outline (header_data h)) ≡ Some (header_data h)
header_written h range =
    rw (
      number_of-decimal h.clients (omega (arith, range.clients)),
      number_of-decimal h.f (omega (arith, range.f)),
      number_of-decimal h.parts (omega (arith, range.parts)),
      number_of-decimal (protocol_number h.protocol) (protocol_small h.protocol),
      number_of-decimal h.sets (omega (arith, range.sets)),
      number_of-decimal h.ways (omega (arith, range.ways)),
    ) refl

-- a header's text is a line that is read as the header
pub record IsHeaderLine (h : Header) : Type 0 where
  pub all_shown : are_shown (compact_text (header_data h)) ≡ true
  pub fits : length (compact_text (header_data h)) ≤ line_limit
  pub read : header_in (compact_text (header_data h)) ≡ Ok h

pub header_is_line : (h : Header) → IsHeader h → IsHeaderLine h
header_is_line h range =
    let plain = header_plain h range in
    record {
      all_shown = shown (header_data h) plain;
      fits = omega (arith, short (header_data h) plain);
      read = reads_as header_of (header_data h) plain (omega arith) refl (header_written h range) ∙ header_read h range;
    }
