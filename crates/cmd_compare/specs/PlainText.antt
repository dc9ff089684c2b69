-- The text of the differences of two recordings in words (this project's own).
use Rattle.std.specs.Prelude.{ℕ, List, [], ◌++◌, Option, None, Some, decimal}
use Rattle.chart.specs.declared.event.Event.{Event}
use Rattle.chart.specs.declared.event.Event.TheVariants.{Send, Receive}
use Rattle.chart.specs.Events.{ith}
use Rattle.msc_text.specs.ChartText.{message_at}
use Rattle.texts.specs.Instances.{name_at}
use Rattle.cmd_compare.specs.declared.pairs.Difference.{Difference}
use Rattle.cmd_compare.specs.declared.word.Word.{Word}
use Rattle.cmd_compare.specs.declared.word.Word.TheVariants as words
use Rattle.cmd_compare.specs.Words.{word_text, verdict_word}

-- the receiver or sender of an event's message
abbrev pub side_text : List (List ℕ) → Option Event → List ℕ
side_text names None = []
side_text names (Some (Send to name)) = word_text words.To ++ name_at names to
side_text names (Some (Receive from name region)) = word_text words.From ++ name_at names from

-- MESSAGE (INDEX
unfoldable pub place_front : Option Event → ℕ → List ℕ
place_front event i = message_at event ++ (word_text words.Open ++ decimal i)

-- MESSAGE (INDEX, from NAME
unfoldable pub place_text : List (List ℕ) → Option Event → ℕ → List ℕ
place_text names event i =
    place_front event i ++ side_text names event

-- ; INDEX in B)
unfoldable pub there_text : ℕ → List ℕ
there_text j = word_text words.There ++ (decimal j ++ word_text words.CloseThere)

-- MESSAGE (INDEX, from NAME; INDEX in B)
unfoldable pub both_text : List (List ℕ) → List Event → ℕ → ℕ → List ℕ
both_text names events i j =
    place_text names (ith events i) i ++ there_text j

-- the two events of a difference
unfoldable pub events_text : List (List ℕ) → List Event → Difference → List ℕ
events_text names events d =
    both_text names events d.pair.later d.pair.later_there ++ (word_text words.Before
    ++ both_text names events d.pair.earlier d.pair.earlier_there)

-- the verdicts on the pair
unfoldable pub verdicts_text : Difference → List ℕ
verdicts_text d =
    word_text words.InSecond ++ (word_text (verdict_word d.here) ++ (word_text words.InFirst
    ++ (word_text (verdict_word d.there) ++ word_text words.InSecondEnd)))

-- NAME: EVENT comes before EVENT in B: VERDICT in A, VERDICT in B
unfoldable pub plain_difference : List (List ℕ) → List Event → Difference → List ℕ
plain_difference names events d =
    (name_at names d.instance ++ word_text words.Colon) ++ (events_text names events d ++ verdicts_text d)

-- NAME: only A has MESSAGE (INDEX, from NAME)
unfoldable pub plain_only : Word → List (List ℕ) → List Event → ℕ → ℕ → List ℕ
plain_only side names events p i =
    (name_at names p ++ word_text side) ++ (place_text names (ith events i) i ++ word_text words.Close)
