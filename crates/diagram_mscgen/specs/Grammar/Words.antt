-- The words of mscgen 0.20's language, which are case-insensitive (its documentation on options, attributes and boxes).
use Rattle.std.specs.Prelude.{ℕ, Bool, List, [], ◌∷◌, codes, Option, None, Some, if◌then◌else◌}
use Rattle.std.specs.List.{list_any}
use Rattle.texts.specs.Bytes.Words.{is_spelled}
use Rattle.diagram_mscgen.specs.declared.grammar.relation.Relation.{Relation}
use Rattle.diagram_mscgen.specs.declared.grammar.relation.Relation.TheVariants.{Box, Note}
use Rattle.diagram_mscgen.specs.declared.grammar.words.AttributeName.{AttributeName}
use Rattle.diagram_mscgen.specs.declared.grammar.words.AttributeName.TheVariants.{Label, Skip, Style}

-- the word is one of these, case-insensitively
unfoldable pub is_one_of : List (List ℕ) → List ℕ → Bool
is_one_of known word = list_any (λ k. is_spelled k word) known

-- the names of options, which come before `=`
abbrev pub options : List (List ℕ)
options = codes "hscale" ∷ codes "width" ∷ codes "arcgradient" ∷ codes "wordwraparcs" ∷ []

-- boxes around entities
abbrev pub boxes : List (List ℕ)
boxes = codes "box" ∷ codes "abox" ∷ codes "rbox" ∷ []

-- attributes that only change how something is drawn
abbrev pub styles : List (List ℕ)
styles =
    codes "url" ∷ codes "id" ∷ codes "idurl" ∷ codes "linecolour" ∷ codes "linecolor" ∷ codes "textcolour"
    ∷ codes "textcolor" ∷ codes "textbgcolour" ∷ codes "textbgcolor" ∷ codes "arclinecolour" ∷ codes "arclinecolor"
    ∷ codes "arctextcolour" ∷ codes "arctextcolor" ∷ codes "arctextbgcolour" ∷ codes "arctextbgcolor" ∷ []

unfoldable pub is_option : List ℕ → Bool
is_option word = is_one_of options word

unfoldable pub is_style : List ℕ → Bool
is_style word = is_one_of styles word

-- the meaning of a word between two entities
unfoldable pub box_of : List ℕ → Option Relation
box_of word =
    if is_one_of boxes word then Some Box else (
    if is_spelled (codes "note") word then Some Note else None)

-- the meaning of an attribute's name
unfoldable pub attribute_name : List ℕ → Option AttributeName
attribute_name word =
    if is_spelled (codes "label") word then Some Label else (
    if is_spelled (codes "arcskip") word then Some Skip else (
    if is_style word then Some Style else None))
