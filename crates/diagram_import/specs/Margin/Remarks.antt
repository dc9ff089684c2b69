-- Remarks: the notes and dividers of a text beside its messages.
use Rattle.std.specs.Prelude.{ℕ, Bool, List}
use Rattle.diagram_import.specs.declared.margin.remark.Remark.{Remark}

-- the line in which a remark begins, its words, and whether it divides the rows
pub record RemarkView : Type 0 where
  pub line : ℕ
  pub text : List ℕ
  pub divides : Bool

abbrev pub remark_view : Remark → RemarkView
remark_view r = record { line = r.line; text = r.text.items; divides = r.divides }
