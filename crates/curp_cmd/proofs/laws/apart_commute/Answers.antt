use Rattle.curp_cmd.specs.Store.{applied, keys_of}
use Rattle.curp_cmd.proofs.Apart.{local, keys_apart, same_first, same_second, same_after}
use Rattle.curp_cmd.proofs.laws.apart_commute.Goals as goal

pub returns : goal.returns
returns c = record {
  after = λ s a b none. same_after (keys_of a) (keys_of b) (λ s. applied s a) (λ s. applied s b) (local a) (local b) (keys_apart a b none) s;
  first = λ s a b none. same_first (keys_of a) (keys_of b) (λ s. applied s a) (λ s. applied s b) (local a) (local b) (keys_apart a b none) s;
  second = λ s a b none. same_second (keys_of a) (keys_of b) (λ s. applied s a) (λ s. applied s b) (local a) (local b) (keys_apart a b none) s;
}
