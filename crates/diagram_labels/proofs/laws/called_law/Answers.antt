use Rattle.std.proofs.Common.{◌≡◌, ℕ, Bool, true, false, List, ap, ◌∙◌, refl}
use Rattle.std.specs.Prelude.{MatchBool}
use Rattle.diagram_labels.specs.Giving.{is_given, IsFreeNumbered}
use Rattle.diagram_labels.proofs.Called.{called_is_name, called_so, called_one}
use Rattle.diagram_labels.proofs.laws.called_law.Goals as goal

fresh : (names : List (List ℕ)) (word name : List ℕ) (b : Bool) → is_given names word ≡ b → MatchBool b (IsFreeNumbered names word name) (name ≡ word) → is_given names name ≡ false
fresh names word name true e h = ap (is_given names) h.1 ∙ h.2.free
fresh names word name false e h = ap (is_given names) h ∙ e

pub returns-clause-fresh : goal.returns-clause-fresh
returns-clause-fresh c = λ names word name h. fresh names word name (is_given names word) refl h

pub returns-clause-name : goal.returns-clause-name
returns-clause-name c = called_is_name

pub returns-clause-one : goal.returns-clause-one
returns-clause-one c = λ names word l. (called_so names word l, λ name h. called_one names word name l h)
