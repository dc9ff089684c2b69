-- The statements of a meaning.
use Rattle.std.specs.Prelude.{ℕ, Bool, true, false, ◌&&◌, ◌==◌, List, [], ◌∷◌, ◌++◌, Option, None, Some, if◌then◌else◌}
use Rattle.diagram_statements.specs.Statements.{StatementView, ElementView, Named, ArrowElement, Activate, Deactivate}
use Rattle.diagram_statements.specs.declared.statement.Place.{Place}
use Rattle.diagram_plantuml_statements.specs.Notes.{name_statements}
use Rattle.diagram_plantuml_statements.specs.Meanings.{MeaningView, Look, Says, Arrow, Life, Names}

abbrev pub one_statement : Place → ElementView → StatementView
one_statement place element = record { place = place; element = element }

-- the statement of two signs after an arrow: they begin or end an activation, and others have no meaning
abbrev pub pair_statements : Place → ℕ → ℕ → List StatementView
pair_statements place a b =
    if a == 43 && b == 43 then one_statement place Activate ∷ [] else (
    if a == 45 && b == 45 then one_statement place Deactivate ∷ [] else [])

-- the statements of the signs after an arrow, two signs at a time
abbrev pub sign_statements : Place → List ℕ → List StatementView
sign_statements place [] = []
sign_statements place (a ∷ []) = []
sign_statements place (a ∷ b ∷ signs) = pair_statements place a b ++ sign_statements place signs

abbrev pub activation_statements : Place → Option Bool → List StatementView
activation_statements place None = []
activation_statements place (Some true) = one_statement place Activate ∷ []
activation_statements place (Some false) = one_statement place Deactivate ∷ []

-- a participant, and its activation
abbrev pub life_statements : Place → List ℕ → Option Bool → List StatementView
life_statements place word activates =
    one_statement place (Named (record { word = word; label = None })) ∷ [] ++ activation_statements place activates

-- the statements of a meaning at this place
abbrev pub statements_of : Place → MeaningView → List StatementView
statements_of place Look = []
statements_of place (Says element) = one_statement place element ∷ []
statements_of place (Arrow found) = one_statement place (ArrowElement found.0) ∷ [] ++ sign_statements place found.1
statements_of place (Life word activates) = life_statements place word activates
statements_of place (Names names element) = name_statements place names ++ one_statement place element ∷ []
