-- The explanation of a race on a page.
use Rattle.std.specs.Prelude.{◌≡◌, ℕ, ◌+◌, ◌-◌, ◌^◌, min, List, ◌++◌}
use Rattle.cmd_base.specs.declared.pairs.pair.Asked.{Asked}
use Rattle.cmd_page.specs.declared.text.excerpt.Excerpt.{Excerpt}
use Rattle.cmd_page.specs.declared.text.race.Answers.{Answers}
use Rattle.cmd_page.specs.declared.answers.answers.Subject.{Subject}
use Rattle.cmd_page.specs.declared.answers.left.Left.{Left}
use Rattle.cmd_page.specs.Answers.Leaving.{IsWhy, IsWitness, IsMend}
use Rattle.cmd_page.specs.Answers.Standing.{row_in}

-- a sum that stops at u64::MAX
abbrev pub plus : ℕ → ℕ → ℕ
plus a b = min (a + b) (2 ^ 64 - 1)

-- the text on standard output, and then the text on standard error
abbrev pub texts : Left → List ℕ
texts left = left.out.bytes ++ left.err.bytes

-- The excerpt of the output of `why` for a race's two events has the lines above the rows, and the rows round the
-- two.
pub record IsWhyExcerpt (of : Subject) (x : Excerpt) : Type 0 where
  pub left : Left
  pub is : IsWhy of.bytes.now of.asked left
  pub text : x.text.items ≡ texts left
  pub head : x.head ≡ of.above
  pub earlier : x.earlier ≡ plus of.above of.earlier
  pub receive : x.receive ≡ plus of.above of.receive

-- The excerpt of the output of `witness` has the first two lines, and the commands round the two.
pub record IsWitnessExcerpt (of : Subject) (x : Excerpt) : Type 0 where
  pub left : Left
  pub is : IsWitness of.bytes.now of.asked left
  pub text : x.text.items ≡ texts left
  pub head : x.head ≡ 2
  pub earlier : x.earlier ≡ row_in of.names.now of.instance of.events.now of.earlier (texts left)
  pub receive : x.receive ≡ row_in of.names.now of.instance of.events.now of.receive (texts left)

-- the question about the last of the earlier events
abbrev pub about_last : Subject → Asked
about_last of = record { instance = of.asked.instance; earlier = of.last; receive = of.asked.receive }

-- The excerpt of the output of `mend` has the first 24 lines. Its message puts the last of the earlier events before the
-- receive, and so all of them.
pub record IsMendExcerpt (of : Subject) (x : Excerpt) : Type 0 where
  pub left : Left
  pub is : IsMend of.bytes.now (about_last of) left
  pub text : x.text.items ≡ left.err.bytes
  pub head : x.head ≡ 24
  pub earlier : x.earlier ≡ 0
  pub receive : x.receive ≡ 0

-- the whole text
pub record AreAnswers (of : Subject) (answers : Answers) : Type 0 where
  pub why : IsWhyExcerpt of answers.why
  pub witness : IsWitnessExcerpt of answers.witness
  pub mend : IsMendExcerpt of answers.mend
