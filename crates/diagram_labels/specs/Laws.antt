-- The laws of spellings, and of the names of labels.
use Rattle.std.specs.Prelude.{◌≡◌, ℕ, ◌<◌, ◌^◌, true, false, List, length, ◌++◌, ◌∷◌, []}
use Rattle.chart.specs.Names.{IsName}
use Rattle.diagram_labels.specs.Spelling.{spelled}
use Rattle.diagram_labels.specs.Giving.{is_given, IsCalled, called}
use Rattle.diagram_labels.specs.Labels.{labelled, has_label, name_of}

-- the spelling of any label is a name
abbrev pub SpelledIsName : Type 0
SpelledIsName = (label : List ℕ) → IsName (spelled label)

-- a label that is a name is its own spelling
abbrev pub NamesStay : Type 0
NamesStay = (label : List ℕ) → IsName label → spelled label ≡ label

-- no earlier label has the name of a new label
abbrev pub CalledIsFresh : Type 0
CalledIsFresh = (names : List (List ℕ)) (word name : List ℕ) → IsCalled names word name → is_given names name ≡ false

-- the name of a label is a valid name
abbrev pub CalledIsName : Type 0
CalledIsName = (names : List (List ℕ)) (word name : List ℕ) → length names < 2 ^ 63 → IsName word → IsCalled names word name → IsName name

-- a new label has exactly one name
abbrev pub CalledIsOne : Type 0
CalledIsOne = (names : List (List ℕ)) (word : List ℕ) → length names < 2 ^ 63 → IsCalled names word (called names word) × ((name : List ℕ) → IsCalled names word name → name ≡ called names word)

-- a label keeps its name, whatever labels follow
abbrev pub LabelsKeep : Type 0
LabelsKeep = (labels more : List (List ℕ)) (label : List ℕ) → has_label labels label ≡ true → name_of (labelled (labels ++ more)) label ≡ name_of (labelled labels) label

-- a new label gets its name from its spelling, after the labels before it
abbrev pub LabelsAreCalled : Type 0
LabelsAreCalled = (labels : List (List ℕ)) (label : List ℕ) → length labels < 2 ^ 63 → has_label labels label ≡ false
    → IsCalled (labelled labels).names (spelled label) (name_of (labelled (labels ++ label ∷ [])) label)

-- each label's name is a valid name
abbrev pub LabelsAreNamed : Type 0
LabelsAreNamed = (labels : List (List ℕ)) (label : List ℕ) → length labels < 2 ^ 63 → has_label labels label ≡ true → IsName (name_of (labelled labels) label)

-- different labels have different names
abbrev pub LabelsDiffer : Type 0
LabelsDiffer = (labels : List (List ℕ)) (one other : List ℕ) → length labels < 2 ^ 63 → has_label labels one ≡ true → has_label labels other ≡ true
    → name_of (labelled labels) one ≡ name_of (labelled labels) other → one ≡ other
