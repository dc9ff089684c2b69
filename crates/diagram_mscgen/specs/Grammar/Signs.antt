-- The signs of mscgen 0.20's language (its documentation on arcs, and the punctuation of its grammar).
use Rattle.std.specs.Prelude.{ℕ, List, [], ◌∷◌, codes, length, Option, None, Some, nat_eq, if◌then◌else◌}
use Rattle.std.specs.List.{starts_with}
use Rattle.diagram_mscgen.specs.declared.grammar.piece.Shape.{Shape}
use Rattle.diagram_mscgen.specs.declared.grammar.piece.Shape.TheVariants.{Mark, Sign, Spacer}
use Rattle.diagram_mscgen.specs.declared.grammar.piece.Piece.{Piece}
use Rattle.diagram_mscgen.specs.declared.grammar.relation.Relation.TheVariants.{To, From, LostTo, LostFrom, Both, Line}

-- a spelling, and its shape
abbrev pub Spelled : Type 0
Spelled = List ℕ × Shape

-- punctuation
abbrev pub marks : List Spelled
marks =
    (codes ",", Mark) ∷ (codes ";", Mark) ∷ (codes "[", Mark) ∷ (codes "]", Mark) ∷ (codes "{", Mark)
    ∷ (codes "}", Mark) ∷ (codes "*", Mark) ∷ []

-- signs of three or more bytes: signals, methods, returns, callbacks, emphasis, and rows without an arc
abbrev pub long_signs : List Spelled
long_signs =
    (codes "<<=>>", Sign Both) ∷ (codes "<<>>", Sign Both) ∷ (codes "<<=", Sign From) ∷ (codes "=>>", Sign To)
    ∷ (codes "<->", Sign Both) ∷ (codes "<=>", Sign Both) ∷ (codes "<:>", Sign Both) ∷ (codes "---", Spacer)
    ∷ (codes "...", Spacer) ∷ (codes "|||", Spacer) ∷ []

-- signs of two bytes, and the mark `=`, with which some of them begin
abbrev pub short_signs : List Spelled
short_signs =
    (codes "->", Sign To) ∷ (codes "=>", Sign To) ∷ (codes ">>", Sign To) ∷ (codes ":>", Sign To)
    ∷ (codes "<-", Sign From) ∷ (codes "<=", Sign From) ∷ (codes "<<", Sign From) ∷ (codes "<:", Sign From)
    ∷ (codes "-x", Sign LostTo) ∷ (codes "-X", Sign LostTo) ∷ (codes "x-", Sign LostFrom)
    ∷ (codes "X-", Sign LostFrom) ∷ (codes "--", Sign Line) ∷ (codes "==", Sign Line) ∷ (codes "..", Sign Line)
    ∷ (codes "::", Sign Line) ∷ (codes "=", Mark) ∷ []

-- the first of these spellings with which the bytes begin
abbrev pub first_spelled : List Spelled → List ℕ → Option Piece
first_spelled [] bytes = None
first_spelled (s ∷ ss) bytes =
    if starts_with nat_eq bytes s.0 then Some (record { shape = s.1; length = length s.0 }) else first_spelled ss bytes

abbrev pub or_else : Option Piece → Option Piece → Option Piece
or_else None others = others
or_else (Some piece) others = Some piece

-- the longest sign with which the bytes begin: in the lists a sign comes before its own beginnings
unfoldable pub sign_at : List ℕ → Option Piece
sign_at bytes =
    or_else (first_spelled marks bytes) (or_else (first_spelled long_signs bytes) (first_spelled short_signs bytes))
