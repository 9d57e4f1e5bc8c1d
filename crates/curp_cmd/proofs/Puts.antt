-- What a put does to the answers of a look-up.
use Rattle.std.proofs.Common.{◌≡◌, ◌≢◌, ℕ, false, List, Some, refl}
use Rattle.std.specs.Ordering.{nat_cmp, is_eq}
use Rattle.std.specs.declared.cmp.Ordering.{Ordering}
use Rattle.std.specs.declared.cmp.Ordering.TheVariants.{Less, Equal, Greater}
use Rattle.std.specs.Cmp.Lexicographic.{slice_cmp, nat_list_cmp_total}
use Rattle.std.specs.FinMap.{slice_cmp-IsAntisymmetric, nat_cmp-IsAntisymmetric}
use Rattle.std.specs.FinMap as map
use Rattle.std.proofs.lemmas.Cmp.{tied_itself}
use Rattle.curp_cmd.specs.Store.{Contents, applied}
use Rattle.curp_cmd.specs.declared.command.Command.TheVariants.{Put}

abbrev order : List ℕ → List ℕ → Ordering
order = slice_cmp nat_cmp

pub get_put_own : (s : Contents) (key value : List ℕ) → map.get (applied s (Put key value)).after key ≡ Some value
unfolding applied
get_put_own s key value = rw (map.get-insert nat_list_cmp_total s key value key, tied_itself nat_list_cmp_total key) refl

apart : (x y : List ℕ) → x ≢ y → is_eq (order x y) ≡ false
apart x y ne = go (order x y) refl
  where
    go : (r : Ordering) → order x y ≡ r → is_eq r ≡ false
    go Less e = refl
    go Equal e = absurd (ne (slice_cmp-IsAntisymmetric nat_cmp-IsAntisymmetric x y e))
    go Greater e = refl

pub get_put_other : (s : Contents) (key value other : List ℕ) → other ≢ key → map.get (applied s (Put key value)).after other ≡ map.get s other
unfolding applied
get_put_other s key value other ne = rw (map.get-insert nat_list_cmp_total s key value other, apart other key ne) refl
