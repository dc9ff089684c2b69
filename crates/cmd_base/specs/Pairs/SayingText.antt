-- The text of the lines that explain a pair of events (this project's profile).
use Rattle.std.specs.Prelude.{ℕ, List, [], ◌++◌, Option, None, Some, codes, decimal}
use Rattle.chart.specs.declared.event.Event.{Event}
use Rattle.chart.specs.declared.event.Event.TheVariants.{Send, Receive}
use Rattle.chart.specs.Events.{ith}
use Rattle.chart.specs.Keywords.{spelled}
use Rattle.chart.specs.declared.keyword.Keyword.{Keyword}
use Rattle.chart.specs.declared.keyword.Keyword.TheVariants as keywords
use Rattle.closure.specs.declared.chain.link.Link.{Link}
use Rattle.closure.specs.Chain.Rules.{rule_text}
use Rattle.cmd_base.specs.Refusals.{behind_space}
use Rattle.texts.specs.Instances.{name_at}
use Rattle.cmd_base.specs.declared.pairs.saying.Piece.{Piece}
use Rattle.cmd_base.specs.declared.pairs.saying.Piece.TheVariants as pieces
use Rattle.cmd_base.specs.declared.pairs.saying.Saying.{Saying}
use Rattle.cmd_base.specs.declared.pairs.saying.Saying.TheVariants.{Before, Also, Row, Step}

-- the line for a pair that a coregion hides
unfoldable pub hidden_text : List ℕ
hidden_text = codes "a coregion hides this pair\n"

-- the fixed parts between names and numbers
unfoldable pub piece_text : Piece → List ℕ
piece_text pieces.Before = codes "before "
piece_text pieces.And = codes "and "
piece_text pieces.Line = codes "line "
piece_text pieces.Beside = codes " | "
piece_text pieces.Earlier = codes " before "
piece_text pieces.By = codes ": "
piece_text pieces.End = codes "\n"

-- NAME NUMBER
unfoldable pub place_text : List (List ℕ) → ℕ → ℕ → List ℕ
place_text names p n = name_at names p ++ behind_space n

-- before NAME COUNT, or and NAME INDEX
unfoldable pub place_line : List (List ℕ) → Piece → ℕ → ℕ → List ℕ
place_line names start p n = piece_text start ++ (place_text names p n ++ piece_text pieces.End)

-- INDEX out MESSAGE to, or INDEX in MESSAGE from, and a space
unfoldable pub message_text : ℕ → Keyword → List ℕ → Keyword → List ℕ
message_text index direction message side =
    decimal index
    ++ (codes " " ++ (spelled direction ++ (codes " " ++ (message ++ (codes " " ++ (spelled side ++ codes " "))))))

-- INDEX out MESSAGE to NAME, or INDEX in MESSAGE from NAME
unfoldable pub half_text : List (List ℕ) → ℕ → Event → List ℕ
half_text names index (Send to name) = message_text index keywords.Out name keywords.To ++ name_at names to
half_text names index (Receive from name region) = message_text index keywords.In name keywords.From
    ++ name_at names from

-- the same, if there is an event
abbrev pub half_at : List (List ℕ) → ℕ → Option Event → List ℕ
half_at names index None = []
half_at names index (Some m) = half_text names index m

-- line INDEX EVENT | INDEX EVENT
unfoldable pub row_text : List (List ℕ) → List Event → ℕ → ℕ → List ℕ
row_text names events was may =
    piece_text pieces.Line ++ (half_at names was (ith events was)
    ++ (piece_text pieces.Beside ++ (half_at names may (ith events may) ++ piece_text pieces.End)))

-- NAME INDEX before NAME INDEX: RULE
unfoldable pub step_text : List (List ℕ) → Link → List ℕ
step_text names link =
    place_text names link.earlier.instance link.earlier.index
    ++ (piece_text pieces.Earlier ++ (place_text names link.later.instance link.later.index
    ++ (piece_text pieces.By ++ (rule_text link.rule ++ piece_text pieces.End))))

-- a line; `events` has the events of a row
abbrev pub saying_text : List (List ℕ) → List Event → Saying → List ℕ
saying_text names events (Before p count) = place_line names pieces.Before p count
saying_text names events (Also p index) = place_line names pieces.And p index
saying_text names events (Row was may) = row_text names events was may
saying_text names events (Step link) = step_text names link
