-- What stands beside a log, as an entry is pushed.
use Rattle.std.proofs.Common.{◌≡◌, ℕ, ◌+◌, ◌-◌, ◌<◌, ◌≤◌, Bool, true, false, List, [], ◌∷◌, ◌++◌, length, take, drop, Option, Some, Result, Ok, Err, IfOk, slice_get, length-append, refl, ap, sym, ◌∙◌, arith}
use Rattle.std.proofs.lemmas.List.{take-append-le, take-append-drop, drop-drop}
use Rattle.std.specs.Global.{Vec}
use Rattle.std.specs.declared.alloc.AllocError.{AllocError}
use Rattle.std.proofs.Math.Seq.{take-length}
use Rattle.curp_base.specs.Words.{Each}
use Rattle.curp_base.proofs.Lists.{at_push, Each-append, Each-weaker}
use Rattle.curp_cmd.specs.declared.command.Answer.{Answer}
use Rattle.curp_cmd.specs.declared.command.Request.{Request}
use Rattle.curp_cmd.specs.declared.entry.Entry.{Entry}
use Rattle.curp_cmd.specs.declared.entry.Entry.TheVariants.{Op}
use Rattle.curp_log.specs.Content.{Content}
use Rattle.curp_log.specs.Ops.{answer_at}
use Rattle.curp_model.specs.Log.{answer_after}
use Rattle.curp_tail.specs.declared.tail.TailEntry.{TailEntry}
use Rattle.curp_tail.specs.Tail.{tail_of}
use Rattle.curp_master_log.specs.MasterLog.{IsBeside, KeptLog, free_with, kept_log_of, with_entry}

-- the last entry's answer is that behind the others
answer_of_last : (lo hi : ℕ) (entries : List Entry) (r : Request) (acknowledged : ℕ)
    → answer_at lo hi (entries ++ Op r acknowledged ∷ []) (length entries) ≡ Some (answer_after lo hi entries r.command)
answer_of_last lo hi entries r acknowledged =
    let last : slice_get (entries ++ Op r acknowledged ∷ []) (length entries) ≡ Some (Op r acknowledged) =
    at_push entries (Op r acknowledged) (length entries) refl
    in
    let within : length entries ≤ length entries = omega arith in
    let prefix : take (length entries) (entries ++ Op r acknowledged ∷ []) ≡ entries =
    take-append-le (length entries) entries (Op r acknowledged ∷ []) within ∙ take-length entries
    in
    rw (last, prefix) refl

pub answered : (j pushed : KeptLog) (is_free : Bool) (index : ℕ) (r : Request) (answer : Option Answer)
    → pushed ≡ with_entry j (Op r r.first) is_free → index ≡ length j.entries → answer ≡ answer_at pushed.lo pushed.hi pushed.entries index
    → answer ≡ Some (answer_after j.lo j.hi j.entries r.command)
answered j pushed is_free index r answer its there told =
    told ∙ (λ i. answer_at (its i).lo (its i).hi (its i).entries (there i)) ∙ answer_of_last j.lo j.hi j.entries r r.first

-- ---- what stands beside a log with an entry more

free_stands : (entries : List Entry) (e : Entry) (free : List ℕ) (is_free : Bool) → Each (λ index. index < length entries) free
    → Each (λ index. index < length (entries ++ e ∷ [])) (free_with free (length entries) is_free)
free_stands entries e free is_free stand = go is_free
  where
    more : length (entries ++ e ∷ []) ≡ length entries + 1
    more = simp length-append (omega arith)

    old : Each (λ index. index < length (entries ++ e ∷ [])) free
    old = Each-weaker (λ index. index < length entries) (λ index. index < length (entries ++ e ∷ [])) (λ index l. let m = more in omega arith) free stand

    go : (b : Bool) → Each (λ index. index < length (entries ++ e ∷ [])) (free_with free (length entries) b)
    go true = Each-append (λ index. index < length (entries ++ e ∷ [])) free (length entries ∷ []) old ((let m = more in omega arith), tt)
    go false = old

-- the parts of a master_log to which an entry is pushed
pub pushed_log : (j : KeptLog) (log : Content) (free : List ℕ) (e : Entry) (is_free : Bool)
    → log.lo ≡ j.lo → log.hi ≡ j.hi → log.entries ≡ j.entries ++ e ∷ [] → free ≡ free_with j.free (length j.entries) is_free
    → kept_log_of log j.synced free ≡ with_entry j e is_free
pushed_log j log free e is_free low high longer its_free = λ i. record {
  lo = low i;
  hi = high i;
  entries = longer i;
  synced = j.synced;
  free = its_free i;
}

-- and what stands beside it
pub beside_push : (j : KeptLog) (told : ℕ) (tail pushed : List TailEntry) (e : Entry) (is_free : Bool) → IsBeside j told tail
    → pushed ≡ tail_of (j.entries ++ e ∷ []) told → IsBeside (with_entry j e is_free) told pushed
beside_push j told tail pushed e is_free beside its_tail =
    record { its_tail = its_tail; covers = beside.covers; stand = free_stands j.entries e j.free is_free beside.stand }

-- ---- entries that aren't synced and of which no tail tells

-- they stand between what is synced and what the tail tells of
pub between_split : (entries : List Entry) (start end : ℕ) → start ≤ end → drop start entries ≡ take (end - start) (drop start entries) ++ drop end entries
between_split entries start end before =
    let rest = drop start entries in
    let on : start + (end - start) ≡ end = omega (arith, before) in
    let left : drop (end - start) rest ≡ drop end entries = drop-drop (end - start) start entries ∙ ap (λ k. drop k entries) on in
    sym (take-append-drop (end - start) rest) ∙ ap (λ tail. take (end - start) rest ++ tail) left

pub split_if_read : (r : Result (Vec Entry) AllocError) (entries : List Entry) (start end : ℕ) → start ≤ end
    → IfOk r (λ read. read.items ≡ take (end - start) (drop start entries)) → IfOk r (λ read. drop start entries ≡ read.items ++ drop end entries)
split_if_read (Ok read) entries start end before is = between_split entries start end before ∙ ap (λ prefix. prefix ++ drop end entries) (sym is)
split_if_read (Err why) entries start end before is = tt
