-- A race on a page as text (this project's profile). Attributes have only numbers.
use Rattle.std.specs.Prelude.{ℕ, List, ◌++◌, Option, None, Some, decimal}
use Rattle.std.specs.List.{flat_map}
use Rattle.texts.specs.Pieces.Pieces.{escaped}
use Rattle.cmd_page.specs.declared.text.race.Race.{Race}
use Rattle.cmd_page.specs.declared.text.race.Answers.{Answers}
use Rattle.cmd_page.specs.declared.text.word.Word.TheVariants as words
use Rattle.cmd_page.specs.Text.Excerpts.{excerpt_text}
use Rattle.cmd_page.specs.Text.Words.{word_text}

-- a space and a number
unfoldable pub behind_space : ℕ → List ℕ
behind_space n = word_text words.Space ++ decimal n

-- its id: its instance, its receive, and the first of its earlier events
unfoldable pub id_text : Race → List ℕ
id_text race = word_text words.RaceStart ++ (decimal race.receive.instance ++ (word_text words.Dash
    ++ (decimal race.receive.index ++ (word_text words.Dash ++ decimal race.first))))

-- the last of its earlier events, and the events that must come before the receive
unfoldable pub numbers_text : Race → List ℕ
numbers_text race = word_text words.Last ++ (decimal race.last ++ (word_text words.Before
    ++ (flat_map behind_space race.before.items ++ (word_text words.Also
    ++ (flat_map behind_space race.also.items ++ word_text words.NumbersEnd)))))

-- its line and its explanation
unfoldable pub explained_text : List ℕ → Answers → List ℕ
explained_text line answers = word_text words.SummaryStart ++ (escaped line ++ (word_text words.Why
    ++ (excerpt_text answers.why ++ (word_text words.Witness ++ (excerpt_text answers.witness
    ++ (word_text words.Mend ++ (excerpt_text answers.mend ++ word_text words.SummaryEnd)))))))

-- only its line
unfoldable pub short_text : List ℕ → List ℕ
short_text line = word_text words.ShortStart ++ (escaped line ++ word_text words.ShortEnd)

abbrev pub answers_text : List ℕ → Option Answers → List ℕ
answers_text line None = short_text line
answers_text line (Some answers) = explained_text line answers

-- the whole text
unfoldable pub race_text : Race → List ℕ
race_text race = id_text race ++ (numbers_text race ++ answers_text race.line.items race.answers)
