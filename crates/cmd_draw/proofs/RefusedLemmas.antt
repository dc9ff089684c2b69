-- Nothing is written for a chart that no run has, or that lacks the named columns.
use Rattle.std.proofs.Common.{◌≡◌, ℕ, ◌⊎◌, inl, inr, List, Err, refl}
use Rattle.cmd_base.specs.declared.error.ProgramError.{ProgramError}
use Rattle.cmd_base.specs.declared.error.ProgramError.TheVariants.{Usage, File, Memory, Text, ReceiveWithoutSend, NameMismatch, Cyclic, Write}
use Rattle.cmd_base.specs.Contents.{Named, IsRefused}
use Rattle.chart_layout.specs.declared.margin.MarginNote.{MarginNote}
use Rattle.texts.specs.Outs.{Sink}
use Rattle.cmd_draw.specs.declared.drawing.Wanted.{Wanted}
use Rattle.cmd_draw.specs.declared.error.DrawError.TheVariants.{Columns}
use Rattle.cmd_base.specs.declared.columns.error.ColumnError.{ColumnError}
use Rattle.cmd_base.specs.declared.columns.error.ColumnError.TheVariants.{Program, NoSuchName}
use Rattle.cmd_draw.specs.declared.target.Target.{Target}
use Rattle.cmd_base.specs.Columns.Columns.{AreColumns, RefusesColumns, only_of}
use Rattle.cmd_draw.specs.Drawing.{Draws}
use Rattle.cmd_draw.specs.Exporting.{Exports}

module _ {S : Type 0} (sink : S → Sink) (old : S) (turns : List ℕ) (notes : List MarginNote) (named : Named) where
  -- the chart has no such columns
  pub no_columns : (wanted : Wanted) (error : ColumnError) → RefusesColumns named.0 (only_of wanted.only) error → Draws sink old old (Err (Columns error)) wanted turns notes named
  no_columns wanted NoSuchName none = (none, refl)
  no_columns wanted (Program Memory) why = refl
  no_columns wanted (Program Usage) why = absurd why
  no_columns wanted (Program File) why = absurd why
  no_columns wanted (Program (Text fault)) why = absurd why
  no_columns wanted (Program (ReceiveWithoutSend p index)) why = absurd why
  no_columns wanted (Program (NameMismatch p index)) why = absurd why
  no_columns wanted (Program Cyclic) why = absurd why
  no_columns wanted (Program Write) why = absurd why

  module _ (wanted : Wanted) (columns : List ℕ) (are : AreColumns named.0 (only_of wanted.only) columns) where
    pub not_pictured : (error : ProgramError) → (error ≡ Memory) ⊎ IsRefused error named → Draws sink old old (Err (Columns (Program error))) wanted turns notes named
    not_pictured Memory why = refl
    not_pictured Usage (inl is) = cc
    not_pictured Usage (inr refused) = absurd refused
    not_pictured File (inl is) = cc
    not_pictured File (inr refused) = absurd refused
    not_pictured (Text fault) (inl is) = cc
    not_pictured (Text fault) (inr refused) = absurd refused
    not_pictured (ReceiveWithoutSend p index) (inl is) = cc
    not_pictured (ReceiveWithoutSend p index) (inr refused) = (columns, are, refused, refl)
    not_pictured (NameMismatch p index) (inl is) = cc
    not_pictured (NameMismatch p index) (inr refused) = (columns, are, refused, refl)
    not_pictured Cyclic (inl is) = cc
    not_pictured Cyclic (inr refused) = (columns, are, refused, refl)
    not_pictured Write (inl is) = cc
    not_pictured Write (inr refused) = absurd refused

module _ {S : Type 0} (sink : S → Sink) (old : S) (turns : List ℕ) (named : Named) where
  module _ (target : Target) where
    pub not_exported : (error : ProgramError) → (error ≡ Memory) ⊎ IsRefused error named → Exports sink old old (Err (Program error)) target turns named
    not_exported Memory why = refl
    not_exported Usage (inl is) = cc
    not_exported Usage (inr refused) = absurd refused
    not_exported File (inl is) = cc
    not_exported File (inr refused) = absurd refused
    not_exported (Text fault) (inl is) = cc
    not_exported (Text fault) (inr refused) = absurd refused
    not_exported (ReceiveWithoutSend p index) (inl is) = cc
    not_exported (ReceiveWithoutSend p index) (inr refused) = (refused, refl)
    not_exported (NameMismatch p index) (inl is) = cc
    not_exported (NameMismatch p index) (inr refused) = (refused, refl)
    not_exported Cyclic (inl is) = cc
    not_exported Cyclic (inr refused) = (refused, refl)
    not_exported Write (inl is) = cc
    not_exported Write (inr refused) = absurd refused
