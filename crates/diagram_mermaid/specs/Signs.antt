-- The signs of arrows (Mermaid's documentation of sequence diagrams, "Messages" and "Half arrows").
use Rattle.std.specs.Prelude.{ℕ, zero, suc, ◌+◌, Bool, ◌||◌, ◌==◌, List, [], ◌∷◌, codes, length, drop, Option, None, Some, nat_eq, option_map, if◌then◌else◌}
use Rattle.std.specs.List.{starts_with}
use Rattle.texts.specs.Words.{or_else}
use Rattle.diagram_mermaid.specs.declared.sign.Direction.{Direction}
use Rattle.diagram_mermaid.specs.declared.sign.Direction.TheVariants.{Forth, Back, Both, Lost}
use Rattle.diagram_mermaid.specs.declared.sign.Sign.{Sign}

abbrev pub Spelled : Type 0
Spelled = List ℕ × Direction

-- the signs of arrows: both ways; to the left; lost; to the right
abbrev pub signs : List Spelled
signs =
    (codes "<<-->>", Both) ∷ (codes "<<->>", Both) ∷ (codes "\\|--", Back) ∷ (codes "\\|-", Back) ∷ (codes "/|--", Back)
    ∷ (codes "/|-", Back) ∷ (codes "//--", Back) ∷ (codes "//-", Back) ∷ (codes "\\\\--", Back) ∷ (codes "\\\\-", Back)
    ∷ (codes "--x", Lost) ∷ (codes "--X", Lost) ∷ (codes "-x", Lost) ∷ (codes "-X", Lost) ∷ (codes "-->>", Forth)
    ∷ (codes "-->", Forth) ∷ (codes "->>", Forth) ∷ (codes "->", Forth) ∷ (codes "--)", Forth) ∷ (codes "-)", Forth)
    ∷ (codes "--|\\", Forth) ∷ (codes "--|/", Forth) ∷ (codes "-|\\", Forth) ∷ (codes "-|/", Forth)
    ∷ (codes "--\\\\", Forth) ∷ (codes "-\\\\", Forth) ∷ (codes "--//", Forth) ∷ (codes "-//", Forth) ∷ []

-- the first of these spellings with which the bytes begin
abbrev pub first_spelled : List Spelled → List ℕ → Option Sign
first_spelled [] bytes = None
first_spelled (s ∷ ss) bytes =
    if starts_with nat_eq bytes s.0
    then Some (record { before = 0; length = length s.0; direction = s.1 }) else first_spelled ss bytes

-- a sign without circles
unfoldable pub bare_sign : List ℕ → Option Sign
bare_sign bytes = first_spelled signs bytes

-- a sign may have a circle at each end
unfoldable pub circle_length : List ℕ → ℕ
circle_length bytes = if starts_with nat_eq bytes (codes "()") then 2 else 0

abbrev pub with_circles : ℕ → List ℕ → Option Sign → Option Sign
with_circles circle bytes None = None
with_circles circle bytes (Some bare) =
    Some (record {
      before = 0;
      length = circle + bare.length + circle_length (drop bare.length bytes);
      direction = bare.direction;
    })

-- the sign with which the bytes begin
unfoldable pub sign_at : List ℕ → Option Sign
sign_at bytes =
    with_circles (circle_length bytes) (drop (circle_length bytes) bytes) (bare_sign (drop (circle_length bytes) bytes))

-- a sign begins with one of these
abbrev pub may_begin : ℕ → Bool
may_begin b = b == 45 || b == 60 || b == 40 || b == 47 || b == 92

-- a sign this number of bytes further on
abbrev pub moved : ℕ → Sign → Sign
moved n s = record { before = n + s.before; length = s.length; direction = s.direction }

abbrev pub at_front : Option Sign → Option Sign
at_front None = None
at_front (Some s) = Some (record { before = 0; length = s.length; direction = s.direction })

-- the first sign
unfoldable pub first_sign : List ℕ → Option Sign
first_sign [] = None
first_sign (b ∷ bs) =
    or_else (if may_begin b then at_front (sign_at (b ∷ bs)) else None) (option_map (moved 1) (first_sign bs))
