-- Nothing is written about the races of a chart that no run has.
use Rattle.std.proofs.Common.{◌≡◌, ℕ, ◌⊎◌, inl, inr, List, Err, refl}
use Rattle.cmd_base.specs.declared.error.ProgramError.{ProgramError}
use Rattle.cmd_base.specs.declared.error.ProgramError.TheVariants.{Usage, File, Memory, Text, ReceiveWithoutSend, NameMismatch, Cyclic, Write}
use Rattle.cmd_base.specs.Contents.{Named, IsRefused}
use Rattle.texts.specs.Outs.{Sink}
use Rattle.cmd_base.specs.declared.columns.error.ColumnError.TheVariants.{Program}
use Rattle.cmd_base.specs.Columns.Columns.{AreColumns, only_of}
use Rattle.cmd_races.specs.declared.showing.Wanted.{Wanted}
use Rattle.cmd_races.specs.Showing.{Shows}

module _ {S : Type 0} (sink : S → Sink) (old : S) (named : Named) (wanted : Wanted) (instances : List ℕ) (are : AreColumns named.0 (only_of wanted.only) instances) where
  pub not_shown : (error : ProgramError) → (error ≡ Memory) ⊎ IsRefused error named → Shows sink old old (Err (Program error)) wanted named
  not_shown Memory why = refl
  not_shown Usage (inl is) = cc
  not_shown Usage (inr refused) = absurd refused
  not_shown File (inl is) = cc
  not_shown File (inr refused) = absurd refused
  not_shown (Text fault) (inl is) = cc
  not_shown (Text fault) (inr refused) = absurd refused
  not_shown (ReceiveWithoutSend p index) (inl is) = cc
  not_shown (ReceiveWithoutSend p index) (inr refused) = (instances, are, refused, refl)
  not_shown (NameMismatch p index) (inl is) = cc
  not_shown (NameMismatch p index) (inr refused) = (instances, are, refused, refl)
  not_shown Cyclic (inl is) = cc
  not_shown Cyclic (inr refused) = (instances, are, refused, refl)
  not_shown Write (inl is) = cc
  not_shown Write (inr refused) = absurd refused
