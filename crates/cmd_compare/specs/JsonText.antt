-- The text of the differences of two recordings as JSON (RFC 8259; the members of an object are this project's own). A
-- name consists of letters, digits and _, so it needs no escapes between quotation marks.
use Rattle.std.specs.Prelude.{ℕ, List, ◌++◌, decimal}
use Rattle.chart.specs.declared.event.Event.{Event}
use Rattle.chart.specs.Events.{ith}
use Rattle.msc_text.specs.ChartText.{message_at}
use Rattle.texts.specs.Instances.{name_at}
use Rattle.cmd_compare.specs.declared.pairs.Difference.{Difference}
use Rattle.cmd_compare.specs.declared.word.Word.{Word}
use Rattle.cmd_compare.specs.declared.word.Word.TheVariants as words
use Rattle.cmd_compare.specs.Words.{word_text, verdict_word}

-- an event's numbers in both recordings, each after a word
unfoldable pub numbers_text : Word → ℕ → Word → ℕ → List ℕ
numbers_text word i there j = word_text word ++ (decimal i ++ (word_text there ++ decimal j))

unfoldable pub earlier_text : List Event → Difference → List ℕ
earlier_text events d =
    numbers_text words.Earlier d.pair.earlier words.EarlierThere d.pair.earlier_there
    ++ (word_text words.EarlierMessage ++ message_at (ith events d.pair.earlier))

unfoldable pub later_text : List Event → Difference → List ℕ
later_text events d =
    numbers_text words.Later d.pair.later words.LaterThere d.pair.later_there
    ++ (word_text words.LaterMessage ++ message_at (ith events d.pair.later))

-- the verdicts on the pair
unfoldable pub verdicts_object : Difference → List ℕ
verdicts_object d =
    word_text words.First ++ (word_text (verdict_word d.here) ++ (word_text words.Second
    ++ (word_text (verdict_word d.there) ++ word_text words.EndObject)))

-- an object for a pair, on a line of its own
unfoldable pub json_difference : List (List ℕ) → List Event → Difference → List ℕ
json_difference names events d =
    (word_text words.Instance ++ name_at names d.instance) ++ (earlier_text events d ++ (later_text events d
    ++ verdicts_object d))

-- an object for an event that only one recording has
unfoldable pub json_only : Word → List (List ℕ) → List Event → ℕ → ℕ → List ℕ
json_only side names events p i =
    word_text side ++ (name_at names p ++ (word_text words.Event ++ (decimal i ++ (word_text words.Message
    ++ (message_at (ith events i) ++ word_text words.EndObject)))))
