-- The result of the search for an instance's counterpart.
use Rattle.std.proofs.Common.{◌≡◌, ◌⊎◌, ℕ, inl, inr, List, length, Option, None, Some, Result, Ok, Err, refl, sym, subst}
use Rattle.std.specs.Prelude.{ok_or}
use Rattle.cmd_base.specs.declared.error.ProgramError.TheVariants.{Usage, File, Memory, Text, ReceiveWithoutSend, NameMismatch, Cyclic, Write}
use Rattle.chart.specs.Charts.{chart_lines, IsPossible}
use Rattle.cmd_base.specs.declared.error.ProgramError.{ProgramError}
use Rattle.cmd_base.specs.Contents.{Named, IsRefused}
use Rattle.texts.specs.Outs.{Sink}
use Rattle.cmd_compare.specs.declared.comparison_text.Form.{Form}
use Rattle.cmd_compare.specs.declared.error.CompareError.{CompareError}
use Rattle.cmd_compare.specs.declared.error.CompareError.TheVariants.{Program, OtherInstances}
use Rattle.cmd_compare.specs.Comparing.{AreCounterparts}
use Rattle.cmd_compare.specs.Comparisons.{FindsCounterparts, HaveSameInstances, Compares}

abbrev found_as : ℕ → Result ℕ (List ℕ)
found_as p = Ok p

abbrev missing_as : List ℕ → Result ℕ (List ℕ)
missing_as name = Err name

-- the counterpart was found
pub found : (o : Option ℕ) (w : List ℕ) (p : ℕ) → found_as p ≡ ok_or o w → o ≡ Some p
found (Some q) w p is = cc
found None w p is = cc

-- it wasn't, and this is the instance's name
pub missing : (o : Option ℕ) (w name : List ℕ) → missing_as name ≡ ok_or o w → (o ≡ None) × (name ≡ w)
missing None w name is = (refl, cc)
missing (Some q) w name is = cc

never : {A P : Type 0} → ⊥ ⊎ (P × ⊥) → A
never either = elim either [ inl none ↦ absurd none | inr both ↦ absurd both.1 ]

module _ {S : Type 0} (sink : S → Sink) (old : S) (form : Form) (a b : Named) where
  -- the second recording lacks an instance of the first, or memory ran out: nothing is written
  pub none_forth : (error : CompareError) → FindsCounterparts a.0 b.0 (Err error) → Compares sink old old form a b (Err error)
  none_forth (OtherInstances name) is = (inl is, refl)
  none_forth (Program Memory) is = refl
  none_forth (Program Usage) is = absurd is
  none_forth (Program File) is = absurd is
  none_forth (Program (Text fault)) is = absurd is
  none_forth (Program (ReceiveWithoutSend p index)) is = absurd is
  none_forth (Program (NameMismatch p index)) is = absurd is
  none_forth (Program Cyclic) is = absurd is
  none_forth (Program Write) is = absurd is

  -- the second has all instances of the first, but the first lacks one of the second
  pub none_back : (others : List ℕ) (error : CompareError) → AreCounterparts a.0 b.0 others → FindsCounterparts b.0 a.0 (Err error) → Compares sink old old form a b (Err error)
  none_back others (OtherInstances name) are is = (inr ((others, are), is), refl)
  none_back others (Program Memory) are is = refl
  none_back others (Program Usage) are is = absurd is
  none_back others (Program File) are is = absurd is
  none_back others (Program (Text fault)) are is = absurd is
  none_back others (Program (ReceiveWithoutSend p index)) are is = absurd is
  none_back others (Program (NameMismatch p index)) are is = absurd is
  none_back others (Program Cyclic) are is = absurd is
  none_back others (Program Write) are is = absurd is

  refused_by : (error : ProgramError) → HaveSameInstances a b → IsRefused error a ⊎ (IsPossible (length a.1) (chart_lines a.1) × IsRefused error b) → Compares sink old old form a b (Err (Program error))
  refused_by Memory same either = refl
  refused_by Usage same either = never either
  refused_by File same either = never either
  refused_by (Text fault) same either = never either
  refused_by (ReceiveWithoutSend p index) same either = ((same, either), refl)
  refused_by (NameMismatch p index) same either = ((same, either), refl)
  refused_by Cyclic same either = ((same, either), refl)
  refused_by Write same either = never either

  -- the first chart isn't possible, or memory ran out
  pub refused_first : (others back : List ℕ) (error : ProgramError) → AreCounterparts a.0 b.0 others → AreCounterparts b.0 a.0 back → (error ≡ Memory) ⊎ IsRefused error a → Compares sink old old form a b (Err (Program error))
  refused_first others back error forth back_is (inl memory) = subst (λ x. Compares sink old old form a b (Err (Program x))) (sym memory) refl
  refused_first others back error forth back_is (inr refused) = refused_by error ((others, forth), (back, back_is)) (inl refused)

  -- the first chart is possible, and the second isn't, or memory ran out
  pub refused_second : (others back : List ℕ) (error : ProgramError) → AreCounterparts a.0 b.0 others → AreCounterparts b.0 a.0 back → IsPossible (length a.1) (chart_lines a.1) → (error ≡ Memory) ⊎ IsRefused error b → Compares sink old old form a b (Err (Program error))
  refused_second others back error forth back_is possible (inl memory) = subst (λ x. Compares sink old old form a b (Err (Program x))) (sym memory) refl
  refused_second others back error forth back_is possible (inr refused) = refused_by error ((others, forth), (back, back_is)) (inr (possible, refused))
