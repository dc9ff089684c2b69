-- The parts of lines (this project's own), each with its text as defined in `Spelling`.
use Rattle.std.specs.Prelude.{ℕ, List, [], Option, None, Some, decimal}
use Rattle.diagram_tool.specs.declared.Tool.{Tool}
use Rattle.diagram_tool.specs.declared.Tool.TheVariants.{Mscgen, PlantUml, Mermaid}
use Rattle.diagram_export.specs.declared.part.Part.{Part}
use Rattle.diagram_export.specs.declared.part.Part.TheVariants as parts
use Rattle.diagram_export.specs.declared.part.Sign.{Sign}
use Rattle.diagram_export.specs.declared.part.Sign.TheVariants.{Received, Lost}
use Rattle.diagram_export.specs.Spelling.{indent, arrow_sign, lost_sign, label_start, label_end, quoted, numbered}
use Rattle.diagram_export.specs.Words.{spelled}

-- the bytes of a name
abbrev pub bytes_of : Option (List ℕ) → List ℕ
bytes_of None = []
bytes_of (Some name) = name

-- the name between quotation marks
abbrev pub named_text : Option (List ℕ) → List ℕ
named_text name = quoted (bytes_of name)

-- an instance as an arrow names it
abbrev pub who_text : Tool → Option (List ℕ) → ℕ → List ℕ
who_text Mscgen name p = named_text name
who_text PlantUml name p = named_text name
who_text Mermaid name p = numbered p

-- the sign between the ends of a message
abbrev pub sign_text : Tool → Sign → List ℕ
sign_text tool Received = arrow_sign tool
sign_text tool Lost = lost_sign tool

abbrev pub part_text : Part → List ℕ
part_text (parts.Word word) = spelled word
part_text (parts.Number n) = decimal n
part_text (parts.Name name) = bytes_of name
part_text (parts.Quoted name) = named_text name
part_text (parts.Who tool name p) = who_text tool name p
part_text (parts.Indent tool) = indent tool
part_text (parts.Sign tool sign) = sign_text tool sign
part_text (parts.LabelStart tool) = label_start tool
part_text (parts.LabelEnd tool) = label_end tool
