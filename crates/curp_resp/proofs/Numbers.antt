-- Numbers of which some digits were read, and what their next byte does.
use Rattle.std.proofs.Common.{◌≡◌, ℕ, ◌+◌, ◌-◌, ◌*◌, ◌<◌, ◌≤◌, List, [], ◌∷◌, length, refl, sym, arith}
use Rattle.std.proofs.lemmas.Bool.{eqb-true, leb-true, le-leb, ltb-true, lt-ltb}
use Rattle.std.specs.Prelude.{◌==◌, ◌&&◌, nat_le, nat_lt, Bool, true, false, if◌then◌else◌}
use Rattle.curp_base.specs.Words.{Each}
use Rattle.curp_resp.specs.Frames.{is_digit, may_end, no_digits, number_step, with_digit}
use Rattle.curp_resp.specs.Language.{IsDigit, IsNumber, carriage_return, number_behind}
use Rattle.curp_resp.specs.declared.number.Digits.{Digits}
use Rattle.curp_resp.specs.declared.number.NumberStep.{NumberStep}
use Rattle.curp_resp.specs.declared.number.NumberStep.TheVariants as number

-- the digits that were read, and these behind them, spell a number up to the most
pub record EndsNumber (most : ℕ) (read : Digits) (digits : List ℕ) (value : ℕ) : Type 0 where
  pub some : 1 ≤ read.count + length digits
  pub few : length digits ≤ 5 - read.count
  pub decimal : Each IsDigit digits
  pub value_is : number_behind read.value digits ≡ value
  pub within : value ≤ most

pub ends_fresh : (most : ℕ) (digits : List ℕ) (value : ℕ) → IsNumber most digits value → EndsNumber most no_digits digits value
ends_fresh most digits value h = record {
  some = omega (arith, h.some);
  few = omega (arith, h.few);
  decimal = h.decimal;
  value_is = h.value;
  within = h.within;
}

pub fresh_ends : (most : ℕ) (digits : List ℕ) (value : ℕ) → EndsNumber most no_digits digits value → IsNumber most digits value
fresh_ends most digits value h = record {
  some = omega (arith, h.some);
  few = omega (arith, h.few);
  decimal = h.decimal;
  value = h.value_is;
  within = h.within;
}

-- digits don't lower a number
pub behind_least : (value : ℕ) (digits : List ℕ) → value ≤ number_behind value digits
behind_least value [] = omega arith
behind_least value (digit ∷ digits) = omega (arith, behind_least (10 * value + (digit - 48)) digits)

-- what a step says of the byte
abbrev pub NumberSteps : ℕ → Digits → ℕ → NumberStep → Type 0
NumberSteps most read byte (number.More more) =
    (more ≡ with_digit read (byte - 48)) × IsDigit byte × (read.count < 5) × (more.value ≤ most)
NumberSteps most read byte (number.Ends value) =
    (value ≡ read.value) × (byte ≡ carriage_return) × (1 ≤ read.count) × (value ≤ most)
NumberSteps most read byte number.Refused = Unit {0}

pub both_true : (a b : Bool) → (a && b) ≡ true → (a ≡ true) × (b ≡ true)
both_true true true e = (refl, refl)
both_true true false e = absurd cc
both_true false b e = absurd cc

and_true : (a b : Bool) → a ≡ true → b ≡ true → (a && b) ≡ true
and_true a b p q = rw (p, q) refl

digit_steps : (most : ℕ) (read : Digits) (byte : ℕ) (t : Bool) → (nat_lt read.count 5 && nat_le (with_digit read (byte - 48)).value most) ≡ t → IsDigit byte
    → NumberSteps most read byte (if t then number.More (with_digit read (byte - 48)) else number.Refused)
digit_steps most read byte true e digit =
    let both = both_true (nat_lt read.count 5) (nat_le (with_digit read (byte - 48)).value most) e in
    (refl, digit, ltb-true read.count 5 both.0, leb-true (with_digit read (byte - 48)).value most both.1)
digit_steps most read byte false e digit = tt

end_steps : (most : ℕ) (read : Digits) (byte : ℕ) (t : Bool) → (byte == carriage_return && may_end most read) ≡ t
    → NumberSteps most read byte (if t then number.Ends read.value else number.Refused)
end_steps most read byte true e =
    let both = both_true (byte == carriage_return) (may_end most read) e in
    let bounds = both_true (nat_le 1 read.count) (nat_le read.value most) both.1 in
    (refl, eqb-true byte carriage_return both.0, leb-true 1 read.count bounds.0, leb-true read.value most bounds.1)
end_steps most read byte false e = tt

either_steps : (most : ℕ) (read : Digits) (byte : ℕ) (t : Bool) → is_digit byte ≡ t
    → NumberSteps most read byte (if t
    then (if nat_lt read.count 5 && nat_le (with_digit read (byte - 48)).value most then number.More (with_digit read (byte - 48)) else number.Refused)
    else (if byte == carriage_return && may_end most read then number.Ends read.value else number.Refused))
either_steps most read byte true e =
    let both = both_true (nat_le 48 byte) (nat_le byte 57) e in
    digit_steps most read byte (nat_lt read.count 5 && nat_le (with_digit read (byte - 48)).value most) refl (leb-true 48 byte both.0, leb-true byte 57 both.1)
either_steps most read byte false e =
    end_steps most read byte (byte == carriage_return && may_end most read) refl

pub number_steps : (most : ℕ) (read : Digits) (byte : ℕ) → NumberSteps most read byte (number_step most read byte)
number_steps most read byte = either_steps most read byte (is_digit byte) refl

-- ---- a digit that goes on, and the end, are taken

pub step_more : (most : ℕ) (read : Digits) (digit : ℕ) (digits : List ℕ) (value : ℕ) → EndsNumber most read (digit ∷ digits) value
    → (number_step most read digit ≡ number.More (with_digit read (digit - 48))) × EndsNumber most (with_digit read (digit - 48)) digits value
step_more most read digit digits value h =
    let is : is_digit digit ≡ true = and_true (nat_le 48 digit) (nat_le digit 57) (le-leb 48 digit h.decimal.0.0) (le-leb digit 57 h.decimal.0.1) in
    let count : read.count < 5 = omega (arith, h.few) in
    let within : (with_digit read (digit - 48)).value ≤ most = omega (arith, behind_least (with_digit read (digit - 48)).value digits, h.value_is, h.within) in
    let test = and_true (nat_lt read.count 5) (nat_le (with_digit read (digit - 48)).value most) (lt-ltb read.count 5 count) (le-leb _ most within) in (
      rw (is, test) refl,
      record {
        some = omega (arith, h.some);
        few = omega (arith, h.few);
        decimal = h.decimal.1;
        value_is = h.value_is;
        within = h.within;
      },
    )

pub step_end : (most : ℕ) (read : Digits) (value : ℕ) → EndsNumber most read [] value
    → (number_step most read carriage_return ≡ number.Ends read.value) × (value ≡ read.value)
step_end most read value h =
    let ends = and_true (nat_le 1 read.count) (nat_le read.value most) (le-leb 1 read.count (omega (arith, h.some)))
    (le-leb read.value most (omega (arith, h.within, h.value_is))) in
    (rw ends refl, sym h.value_is)

-- ---- and the other way round

pub more_ends : (most : ℕ) (read : Digits) (digit : ℕ) (digits : List ℕ) (value : ℕ) → IsDigit digit → read.count < 5 → EndsNumber most (with_digit read (digit - 48)) digits value
    → EndsNumber most read (digit ∷ digits) value
more_ends most read digit digits value is few h = record {
  some = omega (arith, h.some);
  few = omega (arith, h.few);
  decimal = (is, h.decimal);
  value_is = h.value_is;
  within = h.within;
}

pub end_ends : (most : ℕ) (read : Digits) → 1 ≤ read.count → read.value ≤ most → EndsNumber most read [] read.value
end_ends most read some within = record {
  some = omega arith;
  few = omega arith;
  decimal = tt;
  value_is = refl;
  within = within;
}

-- ---- digits up to the most are a prefix of a number

pub record SomeEnd (most : ℕ) (read : Digits) : Type 0 where
  pub digits : List ℕ
  pub value : ℕ
  pub ends : EndsNumber most read digits value

pub begins_ends : (most : ℕ) (read : Digits) → 1 ≤ read.count → read.value ≤ most → SomeEnd most read
begins_ends most read some within = record { digits = []; value = read.value; ends = end_ends most read some within }

pub zero_ends : (most : ℕ) → SomeEnd most no_digits
zero_ends most =
    let digit : IsDigit 48 = (omega arith, omega arith) in
    record {
      digits = 48 ∷ [];
      value = 0;
      ends = record {
        some = omega arith;
        few = omega arith;
        decimal = (digit, tt);
        value_is = refl;
        within = omega arith;
      };
    }
