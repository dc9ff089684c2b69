-- The statements of a text from the top, up to its first fault.
use Rattle.std.specs.Prelude.{List, ◌++◌, Option, map}
use Rattle.diagram_statements.specs.Statements.{StatementView, statement_view}
use Rattle.diagram_statements.specs.declared.reading.ReadText.{ReadText}
use Rattle.diagram_statements.specs.declared.statement.Fault.{Fault}

abbrev pub ReadView : Type 0
ReadView = List StatementView × Option Fault

abbrev pub read_view : ReadText → ReadView
read_view r = (map statement_view r.statements.items, r.fault)

-- the statements so far, and then those that are read
abbrev pub behind : List StatementView → ReadView → ReadView
behind so_far read = (so_far ++ read.0, read.1)
