-- The diagram of an mscgen text.
use Rattle.std.specs.Prelude.{◌≡◌, ℕ, List, [], ◌∷◌, length, Option, None, Some, Result, Ok, Err, nat_lt, if◌then◌else◌}
use Rattle.diagrams.specs.Diagrams.{ParticipantView, DiagramView}
use Rattle.diagram_mscgen.specs.Grammar.Charts.{MscView}
use Rattle.diagram_mscgen.specs.Grammar.Faults.{FaultView, msc_of}
use Rattle.diagram_mscgen.specs.Reading.Arcs.{RowsView, rows_of}
use Rattle.diagram_mscgen.specs.Reading.Entities.{KnownView, known_of, place_of}
use Rattle.diagram_mscgen.specs.declared.reading.error.Fault.{Fault}
use Rattle.diagram_mscgen.specs.declared.reading.error.Fault.TheVariants.{NotRead, Unfinished, Instances, UnknownEntity}
use Rattle.diagram_mscgen.specs.declared.reading.error.ReadError.{ReadError}
use Rattle.diagram_mscgen.specs.declared.reading.error.ReadError.TheVariants as errors

abbrev pub fault_by : FaultView → List ℕ → Fault
fault_by f [] = Unfinished
fault_by f (b ∷ bs) = NotRead (place_of f.place)

-- the fault of a text: only a fault at the text's end has no words
abbrev pub fault_of : FaultView → Fault
fault_of f = fault_by f f.words

abbrev pub with_rows : List ParticipantView → Result RowsView ℕ → Result DiagramView Fault
with_rows participants (Err line) = Err (UnknownEntity line)
with_rows participants (Ok s) =
    Ok (record { participants = participants; items = s.items; left_out = s.left_out })

abbrev pub with_known : MscView → Option KnownView → Result DiagramView Fault
with_known m None = Err Instances
with_known m (Some k) =
    if nat_lt (length k.words) 2 then Err Instances
    else with_rows k.participants (rows_of k.words k.left_out m.arcs)

abbrev pub diagram_by : Result MscView FaultView → Result DiagramView Fault
diagram_by (Err f) = Err (fault_of f)
diagram_by (Ok m) = with_known m (known_of m.entities)

-- the diagram of a text, or its first fault
unfoldable pub diagram_of : List ℕ → Result DiagramView Fault
diagram_of text = diagram_by (msc_of text)

-- an error is the fault, unless memory ran out
abbrev pub Fails : {Y : Type 0} → ReadError → Result Y Fault → Type 0
Fails errors.Memory read = Unit {0}
Fails (errors.Fault fault) read = read ≡ Err fault

-- the result, seen through view, is the defined one, unless memory ran out
abbrev pub Reads : {X Y : Type 0} → (X → Y) → Result X ReadError → Result Y Fault → Type 0
Reads view (Ok x) read = read ≡ Ok (view x)
Reads view (Err e) read = Fails e read
