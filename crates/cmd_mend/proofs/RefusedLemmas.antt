-- What is written of a chart that no run has, or of no pair: nothing.
use Rattle.std.proofs.Common.{◌≡◌, ℕ, ◌⊎◌, inl, inr, List, Err, refl}
use Rattle.cmd_base.specs.declared.error.ProgramError.{ProgramError}
use Rattle.cmd_base.specs.declared.error.ProgramError.TheVariants.{Usage, File, Memory, Text, ReceiveWithoutSend, NameMismatch, Cyclic, Write}
use Rattle.cmd_base.specs.Contents.{Named, IsRefused}
use Rattle.texts.specs.Outs.{Sink}
use Rattle.cmd_base.specs.declared.pairs.pair.Pair.{Pair}
use Rattle.cmd_mend.specs.Answers.{by_program}
use Rattle.cmd_mend.specs.declared.showing.Wanted.{Wanted}
use Rattle.cmd_mend.specs.Naming.{IsMessageName}
use Rattle.cmd_mend.specs.Showing.{Shows, IsAskedAbout, name_asked}

module _ {S : Type 0} (sink : S → Sink) (old : S) (named : Named) (wanted : Wanted) where
  pub not_shown : (error : ProgramError) → (error ≡ Memory) ⊎ IsRefused error named → Shows sink old old (Err (by_program error)) wanted named
  not_shown Memory why = refl
  not_shown Usage (inl is) = cc
  not_shown Usage (inr refused) = absurd refused
  not_shown File (inl is) = cc
  not_shown File (inr refused) = absurd refused
  not_shown (Text fault) (inl is) = cc
  not_shown (Text fault) (inr refused) = absurd refused
  not_shown (ReceiveWithoutSend p index) (inl is) = cc
  not_shown (ReceiveWithoutSend p index) (inr refused) = (refused, refl)
  not_shown (NameMismatch p index) (inl is) = cc
  not_shown (NameMismatch p index) (inr refused) = (refused, refl)
  not_shown Cyclic (inl is) = cc
  not_shown Cyclic (inr refused) = (refused, refl)
  not_shown Write (inl is) = cc
  not_shown Write (inr refused) = absurd refused

  -- a name that is none, or that is taken, of a pair that there is
  pub not_named : (pair : Pair) → IsAskedAbout named wanted pair → (error : ProgramError) → (error ≡ Memory) ⊎ ((error ≡ Usage) × ((name : List ℕ) → IsMessageName named.1 (name_asked wanted) name → ⊥)) → Shows sink old old (Err (by_program error)) wanted named
  not_named pair asked Memory why = refl
  not_named pair asked Usage (inl is) = cc
  not_named pair asked Usage (inr (is, none)) = ((pair, asked, none), refl)
  not_named pair asked File (inl is) = cc
  not_named pair asked File (inr (is, none)) = cc
  not_named pair asked (Text fault) (inl is) = cc
  not_named pair asked (Text fault) (inr (is, none)) = cc
  not_named pair asked (ReceiveWithoutSend p index) (inl is) = cc
  not_named pair asked (ReceiveWithoutSend p index) (inr (is, none)) = cc
  not_named pair asked (NameMismatch p index) (inl is) = cc
  not_named pair asked (NameMismatch p index) (inr (is, none)) = cc
  not_named pair asked Cyclic (inl is) = cc
  not_named pair asked Cyclic (inr (is, none)) = cc
  not_named pair asked Write (inl is) = cc
  not_named pair asked Write (inr (is, none)) = cc
