-- The chart of a text, or its first fault.
use Rattle.std.specs.Prelude.{◌≡◌, ℕ, ◌||◌, ◌==◌, nat_lt, List, [], ◌∷◌, length, take, position, Result, Ok, Err, unwrap_or, if◌then◌else◌}
use Rattle.diagram_mscgen.specs.Grammar.Charts.{MscView, msc_in, msc_view}
use Rattle.texts.specs.Bytes.Places.{start, behind}
use Rattle.diagram_mscgen.specs.Grammar.Reading.{Tokens}
use Rattle.diagram_mscgen.specs.Grammar.Tokens.{tokens_of}
use Rattle.diagram_mscgen.specs.declared.grammar.whole.Msc.{Msc}
use Rattle.diagram_mscgen.specs.declared.grammar.fault.Fault.{Fault}
use Rattle.diagram_mscgen.specs.declared.grammar.fault.MscgenError.{MscgenError}
use Rattle.diagram_mscgen.specs.declared.grammar.fault.MscgenError.TheVariants as errors
use Rattle.texts.specs.declared.bytes.place.Place.{Place}

-- the number of bytes before the end of the line
unfoldable pub shown_line : List ℕ → ℕ
shown_line rest = unwrap_or (position (λ b. b == 10 || b == 13) rest) (length rest)

-- the number of bytes that are reported: at most 40
abbrev pub shown_length : List ℕ → ℕ
shown_length rest = if nat_lt 40 (shown_line rest) then 40 else shown_line rest

-- the bytes of a line that are reported, from a fault on
unfoldable pub shown : List ℕ → List ℕ
shown rest = take (shown_length rest) rest

-- the place of a fault, and the words there
pub record FaultView : Type 0 where
  pub place : Place
  pub words : List ℕ

abbrev pub fault_view : Fault → FaultView
fault_view f = record { place = f.place; words = f.words.now }

-- the fault of a text whose reading stops at these tokens, or at its end
abbrev pub fault_at : List ℕ → Tokens → FaultView
fault_at text [] = record { place = behind start text; words = [] }
fault_at text (t ∷ ts) = record { place = t.place; words = shown t.rest }

abbrev pub located : {Y : Type 0} → List ℕ → Result Y Tokens → Result Y FaultView
located text (Ok y) = Ok y
located text (Err stop) = Err (fault_at text stop)

-- the chart of a text, or its first fault
unfoldable pub msc_of : List ℕ → Result MscView FaultView
msc_of text = located text (msc_in (tokens_of text))

-- an error is the fault, unless memory ran out
abbrev pub Fails : {Y : Type 0} → MscgenError → Result Y FaultView → Type 0
Fails errors.Memory read = Unit {0}
Fails (errors.Fault fault) read = read ≡ Err (fault_view fault)

-- the result is the chart of the text, unless memory ran out
abbrev pub Reads : Result Msc MscgenError → Result MscView FaultView → Type 0
Reads (Ok msc) read = read ≡ Ok (msc_view msc)
Reads (Err e) read = Fails e read
