use Rattle.std.proofs.Common.{◌≡◌, true, length, ap, ◌∙◌, arith}
use Rattle.curp_parcels.specs.declared.buffer.Filled.TheVariants as filled
use Rattle.curp_parcels.proofs.Buffers.{adds_length}
use Rattle.curp_parcels.proofs.Reading.{answered, ended, leaves, no_fault_at_end, no_read_fault, not_due, still_filled}
use Rattle.curp_parcels.proofs.parcels.Parcels.next_parcel.Goals as goal

pub returns-in-Some-clause-bytes : goal.returns-in-Some-clause-bytes
returns-in-Some-clause-bytes g c = λ told.
    answered (g.S.Source.tells c.args.source.now ≡ true) c.args.self.now c.fills.self c.ready_parcel.new.self (g.S.Source.left c.args.source.now) (g.S.Source.left c.fills.source) c.in-Some.answer c.fills.invariant.still c.in-Some.ensures.answer told

pub returns-in-Some-clause-waits : goal.returns-in-Some-clause-waits
returns-in-Some-clause-waits g c = λ content rest s. (c.fills.invariant.waits content rest s).0

pub returns-in-Some-clause-read_fault : goal.returns-in-Some-clause-read_fault
returns-in-Some-clause-read_fault g c = record {
  rose = λ e. absurd (no_read_fault c.in-Some.answer c.in-Some.ensures.of_bytes e);
  stands = λ other. c.fills.invariant.same_count;
}

pub returns-in-Failed-clause-bytes : goal.returns-in-Failed-clause-bytes
returns-in-Failed-clause-bytes g c = λ told.
    let looked = c.in_default.ensures.answer in
    leaves (g.S.Source.tells c.args.source.now ≡ true) c.args.self.now c.fill.new.self (g.S.Source.left c.args.source.now) (g.S.Source.left c.fill.new.source)
    (still_filled (g.S.Source.tells c.args.source.now ≡ true) c.args.self.now c.fills.self c.ready_parcel.new.self c.fill.new.self (g.S.Source.left c.args.source.now) (g.S.Source.left c.fills.source) (g.S.Source.left c.fill.new.source)
    c.fills.invariant.still looked.0 c.fill.ensures.passed (λ t. c.fill.ensures.bytes (c.fills.invariant.tells t)))
    told

pub returns-in-Failed-clause-waits : goal.returns-in-Failed-clause-waits
returns-in-Failed-clause-waits g c = λ content rest s.
    absurd (not_due c.args.self.now c.fills.self content rest (c.fills.invariant.waits content rest s).1 c.in_default.ensures.answer.1 s)

pub returns-in-NoMemory-clause-bytes : goal.returns-in-NoMemory-clause-bytes
returns-in-NoMemory-clause-bytes g c = λ told.
    let looked = c.in_default.ensures.answer in
    leaves (g.S.Source.tells c.args.source.now ≡ true) c.args.self.now c.fill.new.self (g.S.Source.left c.args.source.now) (g.S.Source.left c.fill.new.source)
    (still_filled (g.S.Source.tells c.args.source.now ≡ true) c.args.self.now c.fills.self c.ready_parcel.new.self c.fill.new.self (g.S.Source.left c.args.source.now) (g.S.Source.left c.fills.source) (g.S.Source.left c.fill.new.source)
    c.fills.invariant.still looked.0 c.fill.ensures.passed (λ t. c.fill.ensures.bytes (c.fills.invariant.tells t)))
    told

pub returns-in-NoMemory-clause-waits : goal.returns-in-NoMemory-clause-waits
returns-in-NoMemory-clause-waits g c = λ content rest s.
    absurd (not_due c.args.self.now c.fills.self content rest (c.fills.invariant.waits content rest s).1 c.in_default.ensures.answer.1 s)

pub returns-in-Bytes-eq0-clause-bytes : goal.returns-in-Bytes-eq0-clause-bytes
returns-in-Bytes-eq0-clause-bytes g c = λ told.
    let looked = c.in_default.ensures.answer in
    let adds = rw c.in-Bytes-eq0.field-0-test at c.in-Bytes-eq0.ensures.adds in
    ended (g.S.Source.tells c.args.source.now ≡ true) c.args.self.now c.ready_parcel.new.self c.fill.new.self (g.S.Source.left c.args.source.now) (g.S.Source.left c.fill.new.source)
    (still_filled (g.S.Source.tells c.args.source.now ≡ true) c.args.self.now c.fills.self c.ready_parcel.new.self c.fill.new.self (g.S.Source.left c.args.source.now) (g.S.Source.left c.fills.source) (g.S.Source.left c.fill.new.source)
    c.fills.invariant.still looked.0 c.fill.ensures.passed (λ t. c.fill.ensures.bytes (c.fills.invariant.tells t)))
    adds (λ t. c.fill.ensures.end (c.fills.invariant.tells t) (c.in-Bytes-eq0.is ∙ ap (λ n. filled.Bytes n) c.in-Bytes-eq0.field-0-test))
    c.at_end.result (rw looked.0 looked.1) c.at_end.ensures told

pub returns-in-Bytes-eq0-clause-waits : goal.returns-in-Bytes-eq0-clause-waits
returns-in-Bytes-eq0-clause-waits g c = λ content rest s.
    absurd (not_due c.args.self.now c.fills.self content rest (c.fills.invariant.waits content rest s).1 c.in_default.ensures.answer.1 s)

pub returns-in-Bytes-eq0-clause-read_fault : goal.returns-in-Bytes-eq0-clause-read_fault
returns-in-Bytes-eq0-clause-read_fault g c = record {
  rose = λ e. absurd (no_fault_at_end c.fill.new.self c.at_end.result c.at_end.ensures e);
  stands = λ other. c.in-Bytes-eq0.ensures.read_fault.stands (λ e. absurd cc) ∙ c.fills.invariant.same_count;
}

pub fills-smaller : goal.fills-smaller
fills-smaller g c =
    let looked = c.in_default.ensures.answer in
    let more = adds_length c.ready_parcel.new.self.ahead c.fill.new.self.ahead c.in-Bytes.field-0 c.in-Bytes.ensures.adds in
    omega (arith, more, looked.2, ap (λ p. length p.ahead) looked.0, c.in-Bytes.field-0-test.1)

pub fills-preserved : goal.fills-preserved
fills-preserved g c =
    let looked = c.in_default.ensures.answer in
    record {
      still = still_filled (g.S.Source.tells c.args.source.now ≡ true) c.args.self.now c.fills.self c.ready_parcel.new.self c.fill.new.self (g.S.Source.left c.args.source.now) (g.S.Source.left c.fills.source) (g.S.Source.left c.fill.new.source)
          c.fills.invariant.still looked.0 c.fill.ensures.passed (λ t. c.fill.ensures.bytes (c.fills.invariant.tells t));
      waits = λ content rest s. absurd (not_due c.args.self.now c.fills.self content rest (c.fills.invariant.waits content rest s).1 looked.1 s);
      tells = λ told. c.fill.ensures.tells (c.fills.invariant.tells told);
      same_count = c.in-Bytes.ensures.read_fault.stands (λ e. absurd cc) ∙ c.fills.invariant.same_count;
    }
