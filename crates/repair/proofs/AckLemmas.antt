-- The name that a new message gets is a name.
use Rattle.std.proofs.Common.{◌≡◌, [], ◌∷◌, Ok, refl}
use Rattle.chart.specs.Names.{name_of}
use Rattle.chart.specs.Keywords.{is_reserved, is_keyword, spelled}

pub ack_is : name_of (97 ∷ 99 ∷ 107 ∷ []) ≡ Ok (97 ∷ 99 ∷ 107 ∷ [])
unfolding name_of is_reserved is_keyword spelled
ack_is = refl
