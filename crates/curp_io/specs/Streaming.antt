-- What calls took from a source and wrote to a sink, whatever the source and the sink are, and where a fault is told.
use Rattle.std.specs.Prelude.{ℕ, Bool, List}
use Rattle.curp_io.specs.Streams.{Rose, SameCount}

-- What a source tells of calls: whether it tells its bytes before them, and still does behind them; the bytes that were left
-- before and behind; and its counts of faults
pub record Took : Type 0 where
  pub tells : Bool
  pub still_tells : Bool
  pub before : List ℕ
  pub after : List ℕ
  pub faults_before : ℕ
  pub faults_after : ℕ

-- the same of any source, by what its kind tells, and by what it was before and behind the calls
abbrev pub took_of : {A : Type 0} → (A → Bool) → (A → List ℕ) → (A → ℕ) → (old new : A) → Took
took_of tells left faults old new = record {
  tells = tells old;
  still_tells = tells new;
  before = left old;
  after = left new;
  faults_before = faults old;
  faults_after = faults new;
}

-- What a sink tells of calls: whether it tells its bytes before them, and still does behind them; what it held before and
-- holds behind; whether all of that was passed on; and its counts of faults
pub record Wrote : Type 0 where
  pub tells : Bool
  pub still_tells : Bool
  pub before : List ℕ
  pub after : List ℕ
  pub flushed : Bool
  pub faults_before : ℕ
  pub faults_after : ℕ

abbrev pub wrote_of : {A : Type 0} → (A → Bool) → (A → List ℕ) → (A → Bool) → (A → ℕ) → (old new : A) → Wrote
wrote_of tells held flushed faults old new = record {
  tells = tells old;
  still_tells = tells new;
  before = held old;
  after = held new;
  flushed = flushed new;
  faults_before = faults old;
  faults_after = faults new;
}

-- a fault is told exactly where the count of faults rose
pub record TellsFault (told : Type 0) (before after : ℕ) : Type 0 where
  -- it rose before a fault is told
  pub rose : told → Rose before after
  -- and stands where it did if none is
  pub stands : (told → ⊥) → SameCount before after
