-- Names that are read one after the other.
use Rattle.std.proofs.Common.{◌≡◌, ℕ, zero, suc, ◌<◌, ◌≤◌, List, [], ◌∷◌, ◌++◌, length, Option, None, Some, refl, ap, sym, ◌∙◌, append_assoc, arith}
use Rattle.std.proofs.lemmas.List.{append-nil}
use Rattle.diagram_statements.specs.Statements.{StatementView}
use Rattle.diagram_statements.specs.declared.statement.Place.{Place}
use Rattle.diagram_plantuml_arrows.specs.Names.{name_at}
use Rattle.diagram_plantuml_statements.specs.Notes.{behind_comma, behind_names, behind_names_from, name_statements, name_statement, statements_from}

pub record NamesLeft (rest all : List ℕ) : Type 0 where
  pub steps : ℕ
  pub enough : length rest < steps
  pub same : behind_names_from steps rest ≡ behind_names all

pub first_name : (all : List ℕ) → NamesLeft all all
unfolding behind_names
first_name all = record { steps = suc (length all); enough = omega arith; same = refl }

no_name_from : (n : ℕ) (rest : List ℕ) → length rest < n → name_at rest ≡ None → behind_names_from n rest ≡ None
no_name_from zero rest enough e = absurd (omega arith)
no_name_from (suc n) rest enough e = rw e refl

last_name_from : (n : ℕ) (rest word behind : List ℕ) → length rest < n → name_at rest ≡ Some (word, behind) → behind_comma behind ≡ None → behind_names_from n rest ≡ Some behind
last_name_from zero rest word behind enough e f = absurd (omega arith)
last_name_from (suc n) rest word behind enough e f = rw e (rw f refl)

next_name_from : (n : ℕ) (rest word behind next : List ℕ) → length rest < n → name_at rest ≡ Some (word, behind) → behind_comma behind ≡ Some next → (m : ℕ) × (n ≡ suc m) × (behind_names_from n rest ≡ behind_names_from m next)
next_name_from zero rest word behind next enough e f = absurd (omega arith)
next_name_from (suc n) rest word behind next enough e f = (n, refl, rw e (rw f refl))

pub no_name : (rest all : List ℕ) → NamesLeft rest all → name_at rest ≡ None → behind_names all ≡ None
no_name rest all are e = sym are.same ∙ no_name_from are.steps rest are.enough e

pub last_name : (rest all word behind : List ℕ) → NamesLeft rest all → name_at rest ≡ Some (word, behind) → behind_comma behind ≡ None → behind_names all ≡ Some behind
last_name rest all word behind are e f = sym are.same ∙ last_name_from are.steps rest word behind are.enough e f

pub next_name : (rest all word behind next : List ℕ) → NamesLeft rest all → name_at rest ≡ Some (word, behind) → behind_comma behind ≡ Some next → length next < length rest → NamesLeft next all
next_name rest all word behind next are e f shorter =
    let s = next_name_from are.steps rest word behind next are.enough e f in
    let last = s.1 in
    let enough = are.enough in
    record { steps = s.0; enough = omega arith; same = sym s.2 ∙ are.same }

pub record StatementsLeft (place : Place) (old now : List StatementView) (rest all : List ℕ) : Type 0 where
  pub steps : ℕ
  pub enough : length rest < steps
  pub same : now ++ statements_from steps place rest ≡ old ++ name_statements place all

pub first_named : (place : Place) (old : List StatementView) (all : List ℕ) → StatementsLeft place old old all all
unfolding name_statements
first_named place old all = record { steps = suc (length all); enough = omega arith; same = refl }

none_from : (n : ℕ) (place : Place) (rest : List ℕ) → length rest < n → name_at rest ≡ None → statements_from n place rest ≡ []
none_from zero place rest enough e = absurd (omega arith)
none_from (suc n) place rest enough e = rw e refl

last_from : (n : ℕ) (place : Place) (rest word behind : List ℕ) → length rest < n → name_at rest ≡ Some (word, behind) → behind_comma behind ≡ None → statements_from n place rest ≡ name_statement place word ∷ []
last_from zero place rest word behind enough e f = absurd (omega arith)
last_from (suc n) place rest word behind enough e f = rw e (rw f refl)

next_from : (n : ℕ) (place : Place) (rest word behind next : List ℕ) → length rest < n → name_at rest ≡ Some (word, behind) → behind_comma behind ≡ Some next
    → (m : ℕ) × (n ≡ suc m) × (statements_from n place rest ≡ name_statement place word ∷ statements_from m place next)
next_from zero place rest word behind next enough e f = absurd (omega arith)
next_from (suc n) place rest word behind next enough e f = (n, refl, rw e (rw f refl))

pub none_named : (place : Place) (old now : List StatementView) (rest all : List ℕ) → StatementsLeft place old now rest all → name_at rest ≡ None → now ≡ old ++ name_statements place all
none_named place old now rest all are e =
    sym (append-nil now) ∙ ap (λ l. now ++ l) (sym (none_from are.steps place rest are.enough e)) ∙ are.same

pub last_named : (place : Place) (old now more : List StatementView) (rest all word behind : List ℕ) → StatementsLeft place old now rest all → name_at rest ≡ Some (word, behind) → behind_comma behind ≡ None
    → more ≡ now ++ name_statement place word ∷ [] → more ≡ old ++ name_statements place all
last_named place old now more rest all word behind are e f is =
    is ∙ ap (λ l. now ++ l) (sym (last_from are.steps place rest word behind are.enough e f)) ∙ are.same

pub next_named : (place : Place) (old now more : List StatementView) (rest all word behind next : List ℕ) → StatementsLeft place old now rest all → name_at rest ≡ Some (word, behind) → behind_comma behind ≡ Some next
    → more ≡ now ++ name_statement place word ∷ [] → length next < length rest → StatementsLeft place old more next all
next_named place old now more rest all word behind next are e f is shorter =
    let s = next_from are.steps place rest word behind next are.enough e f in
    let last = s.1 in
    let enough = are.enough in
    record {
      steps = s.0;
      enough = omega arith;
      same = ap (λ l. l ++ statements_from s.0 place next) is ∙ append_assoc now (name_statement place word ∷ []) (statements_from s.0 place next)
          ∙ ap (λ l. now ++ l) (sym s.2) ∙ are.same;
    }
