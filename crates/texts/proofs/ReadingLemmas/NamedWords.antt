-- Words that are the names of instances.
use Rattle.std.proofs.Common.{◌≡◌, ℕ, suc, ◌<◌, List, [], length, Some, Ok, sym, ap, ◌∙◌, arith}
use Rattle.std.specs.Prelude.{slice_get, unwrap_or}
use Rattle.std.proofs.lemmas.Option.{slice_get_within}
use Rattle.chart.specs.Names.{instance_of}
use Rattle.chart.specs.NameSets.{AreNames}
use Rattle.texts.specs.Instances.{known, known_of}
use Rattle.texts.proofs.Lookups.{instance_again}

-- the instance at a place of the list has the name at this place
pub found_at : (names : List (List ℕ)) (word name : List ℕ) (p k : ℕ) → AreNames names → p ≡ suc k → slice_get names k ≡ Some name → name ≡ word → known_of names word ≡ Ok p
unfolding known_of
found_at names word name p k are at is same =
    let within : k < length names = slice_get_within names k name is in
    let again = instance_again names (suc k) are (omega arith) (omega arith) in
    ap known (ap (instance_of names) (sym same ∙ sym (ap (λ o. unwrap_or o []) is)) ∙ again ∙ ap Some (sym at))
