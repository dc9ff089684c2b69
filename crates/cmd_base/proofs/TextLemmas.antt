-- The result of an operation on a file, by where it stopped.
use Rattle.std.proofs.Common.{◌≡◌, ℕ, inl, inr, List, Result, Ok, Err, refl, ap}
use Rattle.cmd_base.specs.declared.error.ProgramError.{ProgramError}
use Rattle.cmd_base.specs.declared.error.ProgramError.TheVariants.{Usage, File, Memory, Text, ReceiveWithoutSend, NameMismatch, Cyclic, Write}
use Rattle.cmd_base.specs.declared.text.Text as texts
use Rattle.cmd_base.specs.declared.source.Source.{Source}
use Rattle.cmd_base.specs.Texts.{IsText, ReadsText, IsSourceOf, OfFile}

module _ {S T E : Type 0} (program : ProgramError → E) (Does : Source → Result T E → Type 0) (old : S) (bytes : List ℕ) where
  -- the text has a fault, or memory ran out while it was read
  pub not_read : (error : ProgramError) → ReadsText (Err error) bytes → OfFile program Does old old bytes (Err (program error))
  not_read Memory so = inl (refl, refl)
  not_read (Text fault) has = inr (inl (fault, refl, has, refl))
  not_read Usage so = absurd so
  not_read File so = absurd so
  not_read (ReceiveWithoutSend p index) so = absurd so
  not_read (NameMismatch p index) so = absurd so
  not_read Cyclic so = absurd so
  not_read Write so = absurd so

  -- memory ran out while its schedule was replayed
  pub not_replayed : (error : ProgramError) → error ≡ Memory → OfFile program Does old old bytes (Err (program error))
  not_replayed error is = inl (ap (λ e. Err (program e)) is, refl)

  pub was_done : (new : S) (text : texts.Text) (source : Source) (done : Result T E) → IsText bytes text → IsSourceOf text source → Does source done → OfFile program Does old new bytes done
  was_done new text source done says comes does = inr (inr (source, (text, says, comes), does))
