-- The words of a line, by their number.
use Rattle.std.specs.Prelude.{◌≡◌, List, [], ◌∷◌}
use Rattle.chart.specs.Words.{Text}
use Rattle.texts.specs.Lines.{FiveOrMore}
use Rattle.texts.specs.declared.word.Words.{Words}
use Rattle.texts.specs.declared.word.Words.TheVariants.{One, Two, Three, Four, More}

-- these are all the words
abbrev pub AreWords : Words → List Text → Type 0
AreWords (One a) words = words ≡ a.now ∷ []
AreWords (Two a b) words = words ≡ a.now ∷ b.now ∷ []
AreWords (Three a b c) words = words ≡ a.now ∷ b.now ∷ c.now ∷ []
AreWords (Four a b c d) words = words ≡ a.now ∷ b.now ∷ c.now ∷ d.now ∷ []
AreWords More words = FiveOrMore words
