-- Statements that name a participant (Mermaid's documentation of sequence diagrams, "Participants", "Actors",
-- "Actor Creation and Destruction").
use Rattle.std.specs.Prelude.{ℕ, suc, ◌+◌, ◌==◌, nat_lt, Bool, List, [], ◌∷◌, codes, length, take, drop, Option, None, Some, option_map, if◌then◌else◌}
use Rattle.diagram_statements.specs.Statements.{EndView, ElementView, Named, Renamed}
use Rattle.texts.specs.Words.{behind_blanks, behind_keyword, behind_keyword_of, end_stripped, ends_word, place_of, or_else}
use Rattle.texts.specs.Bytes.Classes.{is_blank}
use Rattle.diagram_mermaid.specs.Names.{is_listed}
use Rattle.diagram_mermaid.specs.Texts.{text_of}
use Rattle.diagram_mermaid.specs.declared.participant.Label.{Label}
use Rattle.diagram_mermaid.specs.declared.participant.Split.{Split}

-- the number of bytes before the `as` of a label, and the label
abbrev pub LabelView : Type 0
LabelView = ℕ × List ℕ

abbrev pub label_view : Label → LabelView
label_view l = (l.before, l.label.now)

-- the number of bytes before the end of a word, and its label, if it has one
abbrev pub SplitView : Type 0
SplitView = ℕ × Option (List ℕ)

abbrev pub split_view : Split → SplitView
split_view s = (s.before, option_map (λ label. label.now) s.label)

abbrev pub create_by : List ℕ → Option (List ℕ) → List ℕ
create_by words None = words
create_by words (Some rest) = behind_blanks rest

-- a participant may be created
unfoldable pub behind_create : List ℕ → List ℕ
behind_create words = create_by words (behind_keyword (codes "create") words)

abbrev pub some_of : List ℕ → Option (List ℕ)
some_of bytes = if length bytes == 0 then None else Some bytes

abbrev pub named_by : Option (List ℕ) → Option (List ℕ)
named_by None = None
named_by (Some rest) = some_of (behind_blanks rest)

-- the text after the words for a participant
unfoldable pub behind_participant : List ℕ → Option (List ℕ)
behind_participant words =
    named_by (behind_keyword_of (codes "participant" ∷ codes "actor" ∷ []) (behind_create words))

abbrev pub label_by : Option (List ℕ) → Option (List ℕ)
label_by None = None
label_by (Some rest) = if length rest == 0 then None else Some (behind_blanks rest)

-- a label comes after `as`
unfoldable pub label_at : List ℕ → Option (List ℕ)
label_at bytes = label_by (behind_keyword (codes "as") bytes)

-- a blank is before the `as`
abbrev pub label_here : ℕ → List ℕ → Option (List ℕ)
label_here before bytes = if is_blank before then label_at bytes else None

abbrev pub at_front : Option (List ℕ) → Option LabelView
at_front None = None
at_front (Some label) = Some (0, label)

-- a label this number of bytes further on
abbrev pub moved : ℕ → LabelView → LabelView
moved n l = (n + l.0, l.1)

-- the first label
unfoldable pub first_label : ℕ → List ℕ → Option LabelView
first_label before [] = None
first_label before (b ∷ bs) = or_else (at_front (label_here before (b ∷ bs))) (option_map (moved 1) (first_label b bs))

abbrev pub labelled : Option (List ℕ) → Option (Option (List ℕ))
labelled None = None
labelled (Some label) = Some (Some label)

-- nothing comes after a kind, or a label
unfoldable pub tail_at : List ℕ → Option (Option (List ℕ))
tail_at bytes =
    if length bytes == 0 then Some None else (
    if ends_word bytes then labelled (label_at (behind_blanks bytes)) else None)

-- the text after the brace that ends a kind
unfoldable pub kind_tail : List ℕ → Option (Option (List ℕ))
kind_tail [] = None
kind_tail (b ∷ bs) = or_else (if b == 125 then tail_at bs else None) (kind_tail bs)

abbrev pub kind_end : ℕ → Option (Option (List ℕ)) → Option SplitView
kind_end place None = None
kind_end place (Some label) = Some (place + 1, label)

abbrev pub kind_by : List ℕ → Option ℕ → Option SplitView
kind_by others None = None
kind_by others (Some place) = kind_end place (kind_tail (drop (place + 2) others))

-- a kind comes after the word: `@{`, and bytes that end with a brace
unfoldable pub kind_in : List ℕ → Option SplitView
kind_in [] = None
kind_in (b ∷ bs) = kind_by bs (place_of (codes "@{") bs)

abbrev pub split_by : ℕ → Option SplitView → Option LabelView → SplitView
split_by all None None = (all, None)
split_by all (Some kind) None = kind
split_by all None (Some label) = (label.0, Some label.1)
split_by all (Some kind) (Some label) = if nat_lt label.0 kind.0 then (label.0, Some label.1) else kind

-- the word ends before its kind or before its `as`, whichever comes first
unfoldable pub split_in : List ℕ → SplitView
split_in words = split_by (length words) (kind_in words) (first_label 0 words)

abbrev pub participant_by : List ℕ → Option (List ℕ) → ElementView
participant_by word None = Named (record { word = word; label = None })
participant_by word (Some label) = Renamed (record { word = word; label = Some (text_of label) })

-- the participant that these words name
unfoldable pub participant_of : List ℕ → Option ElementView
participant_of words =
    if is_listed (end_stripped (take (split_in words).0 words))
    then Some (participant_by (end_stripped (take (split_in words).0 words)) (split_in words).1) else None
