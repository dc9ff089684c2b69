-- Calls over the post of a handle.
use Rattle.std.proofs.Common.{◌≡◌, Option, Some, subst}
use Rattle.std.specs.Prelude.{OnSome}

-- what holds if something was found
pub if_found : {A : Type 0} {P : Type 0} {found : Option A} {it : A} → found ≡ Some it → OnSome found P → P
if_found {A} {P} is held = subst (λ (o : Option A). OnSome o P) is held
