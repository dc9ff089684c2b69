-- Each sign has at least one byte.
use Rattle.std.proofs.Common.{◌≡◌, ℕ, ◌<◌, Bool, true, false, List, [], ◌∷◌, length, refl, IfSome, Option, None, Some, arith, if◌then◌else◌}
use Rattle.std.specs.List.{starts_with}
use Rattle.std.specs.Prelude.{nat_eq, ◌&&◌}
use Rattle.diagram_mscgen.specs.Grammar.Signs.{Spelled, first_spelled, marks, long_signs, short_signs, or_else, sign_at}
use Rattle.diagram_mscgen.specs.declared.grammar.piece.Piece.{Piece}

abbrev has_bytes : List ℕ → Bool
has_bytes [] = false
has_bytes (b ∷ bs) = true

abbrev have_bytes : List Spelled → Bool
have_bytes [] = true
have_bytes (s ∷ ss) = has_bytes s.0 && have_bytes ss

abbrev IsSome : Option Piece → Type 0
IsSome o = IfSome o (λ p. 0 < p.length)

some_bytes : (bytes : List ℕ) → has_bytes bytes ≡ true → 0 < length bytes
some_bytes [] h = absurd (cc)
some_bytes (b ∷ bs) h = omega arith

both : (a b : Bool) → (a && b) ≡ true → (a ≡ true) × (b ≡ true)
both true b h = (refl, h)
both false b h = absurd (cc)

chosen : (t : Bool) (p : Piece) (o : Option Piece) → 0 < p.length → IsSome o → IsSome (if t then Some p else o)
chosen true p o some others = some
chosen false p o some others = others

first_some : (ss : List Spelled) (bytes : List ℕ) → have_bytes ss ≡ true → IsSome (first_spelled ss bytes)
first_some [] bytes h = tt
first_some (s ∷ ss) bytes h =
    let each = both (has_bytes s.0) (have_bytes ss) h in
    chosen (starts_with nat_eq bytes s.0) (record { shape = s.1; length = length s.0 }) (first_spelled ss bytes) (some_bytes s.0 each.0) (first_some ss bytes each.1)

either : (a b : Option Piece) → IsSome a → IsSome b → IsSome (or_else a b)
either None b first second = second
either (Some p) b first second = first

pub sign_some : (bytes : List ℕ) → IfSome (sign_at bytes) (λ p. 0 < p.length)
unfolding sign_at
sign_some bytes =
    either (first_spelled marks bytes) (or_else (first_spelled long_signs bytes) (first_spelled short_signs bytes)) (first_some marks bytes refl)
    (either (first_spelled long_signs bytes) (first_spelled short_signs bytes) (first_some long_signs bytes refl) (first_some short_signs bytes refl))
