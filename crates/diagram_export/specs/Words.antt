-- The words between the parts of an export: those of mscgen 0.20, PlantUML and Mermaid, and this project's own for
-- events and races.
use Rattle.std.specs.Prelude.{ℕ, List, codes}
use Rattle.diagram_export.specs.declared.word.Word.{Word}
use Rattle.diagram_export.specs.declared.word.Word.TheVariants.{Quote, Number, ArcSkip, Note, Out, To, In, From, MayComeBefore, Participant, As, LineEnd, ClockStart, ClockEnd, Colon, Comma, UpTo}

unfoldable pub spelled : Word → List ℕ
spelled Quote = codes "\""
spelled Number = codes "i"
spelled ArcSkip = codes "\", arcskip=\""
spelled Note = codes " note "
spelled Out = codes "out "
spelled To = codes " to "
spelled In = codes "in "
spelled From = codes " from "
spelled MayComeBefore = codes "may come before "
spelled Participant = codes "participant "
spelled As = codes " as "
spelled LineEnd = codes "\n"
spelled ClockStart = codes " {"
spelled ClockEnd = codes "} "
spelled Colon = codes ":"
spelled Comma = codes ", "
spelled UpTo = codes " up to "
