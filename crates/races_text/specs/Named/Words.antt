-- The parts of the lines of races (this project's profile).
use Rattle.std.specs.Prelude.{ℕ, List, [], ◌++◌, Option, None, Some, codes, decimal}
use Rattle.chart.specs.declared.event.Event.{Event}
use Rattle.chart.specs.declared.event.Event.TheVariants.{Send, Receive}
use Rattle.chart.specs.declared.keyword.Keyword.{Keyword}
use Rattle.chart.specs.declared.keyword.Keyword.TheVariants as keywords
use Rattle.chart.specs.Keywords.{spelled}
use Rattle.texts.specs.Instances.{name_at}
use Rattle.races_text.specs.declared.named.words.Word.{Word}
use Rattle.races_text.specs.declared.named.words.Word.TheVariants as words

-- the texts between names and numbers
unfoldable pub word_text : Word → List ℕ
word_text words.Colon = codes ": "
word_text words.MayCome = codes " may come before "
word_text words.Comma = codes ", "
word_text words.Dots = codes ", .., "
word_text words.Close = codes ")"
word_text words.End = codes "\n"
word_text words.Instance = codes "{\"instance\":\""
word_text words.Receive = codes "\",\"receive\":"
word_text words.Message = codes ",\"message\":\""
word_text words.Sender = codes "\",\"sender\":\""
word_text words.Ranges = codes "\",\"ranges\":["
word_text words.Quote = codes "\""
word_text words.Next = codes ","
word_text words.EndRange = codes "]}"
word_text words.EndObject = codes "]}\n"

-- MESSAGE (INDEX, from, or MESSAGE (INDEX, to, and a space
unfoldable pub half_text : List ℕ → ℕ → Keyword → List ℕ
half_text message index side =
    message ++ (codes " (" ++ (decimal index ++ (codes ", " ++ (spelled side ++ codes " "))))

-- MESSAGE (INDEX, from NAME), or MESSAGE (INDEX, to NAME)
unfoldable pub event_text : List (List ℕ) → ℕ → Event → List ℕ
event_text names index (Send to name) = half_text name index keywords.To ++ (name_at names to ++ word_text words.Close)
event_text names index (Receive from name region) =
    half_text name index keywords.From ++ (name_at names from ++ word_text words.Close)

-- the same, or nothing without an event
abbrev pub text_at : List (List ℕ) → ℕ → Option Event → List ℕ
text_at names index None = []
text_at names index (Some m) = event_text names index m
