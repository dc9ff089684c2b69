-- One more line of a text.
use Rattle.std.proofs.Common.{◌≡◌, ℕ, List, ◌∷◌, ◌++◌, refl, ap, ◌∙◌}
use Rattle.std.proofs.lemmas.List.{append_assoc}
use Rattle.texts.specs.Lines.{lines_of, end_of}
use Rattle.cmd_tidy.specs.Typing.{typed_lines}

-- the lines of a text whose first line is this one
pub one_line_more : (rest : List ℕ) (line : List ℕ) (after : List ℕ) → lines_of rest ≡ line ∷ lines_of after → end_of rest ≡ end_of after
    → typed_lines rest ≡ line ∷ typed_lines after
one_line_more rest line after lines end = rw (lines, end) refl

-- the added elements are between those before and those that follow
pub split : {X : Type 0} (before : List X) (more : List X) (after : List X) (all : List X) (now : List X)
    → now ≡ before ++ more → before ++ (more ++ after) ≡ all → now ++ after ≡ all
split before more after all now is whole = ap (λ l. l ++ after) is ∙ append_assoc before more after ∙ whole
