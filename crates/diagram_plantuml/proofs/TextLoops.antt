-- A text's lines, one after the other.
use Rattle.std.proofs.Common.{◌≡◌, ℕ, zero, suc, ◌+◌, ◌-◌, ◌<◌, ◌≤◌, List, [], ◌∷◌, ◌++◌, length, drop, Option, Some, Ok, Err, refl, ap, sym, ◌∙◌, append_assoc, arith, add-one}
use Rattle.std.proofs.lemmas.List.{append-nil, length-drop}
use Rattle.diagram_statements.specs.Lines.{line_length, lines_from, lines_of, first_line}
use Rattle.diagram_statements.specs.Readings.{ReadView, behind}
use Rattle.diagram_statements.specs.Statements.{LineView, StatementView}
use Rattle.diagram_statements.specs.declared.statement.Fault.{Fault}
use Rattle.diagram_plantuml.specs.Diagrams.{finished, step_by, read_from}
use Rattle.diagram_plantuml.specs.Joints.{below}
use Rattle.diagram_plantuml.specs.Regions.{region_behind, region_in}
use Rattle.diagram_plantuml.specs.Standings.{nothing_open, region_stepped}
use Rattle.diagram_plantuml.specs.declared.region.Region.{Region}
use Rattle.diagram_plantuml.specs.declared.region.Region.TheVariants.{Above}
use Rattle.diagram_plantuml.specs.declared.standing.Standing.{Standing}

none_left : (n number : ℕ) (rest : List ℕ) → length rest ≡ 0 → lines_from n number rest ≡ []
none_left zero number rest h = refl
none_left (suc n) number [] h = refl
none_left (suc n) number (b ∷ bs) h = absurd (omega arith)

-- the region after the rest is the one after the text
pub record RegionLeft (text : List ℕ) (region : Region) (number : ℕ) (rest : List ℕ) : Type 0 where
  pub steps : ℕ
  pub enough : length rest ≤ steps
  pub room : number + length rest ≤ 1 + length text
  pub within : length rest ≤ length text
  pub same : region_in region (lines_from steps number rest) ≡ region_in Above (lines_of text)

pub first_region : (text : List ℕ) → RegionLeft text Above 1 text
unfolding lines_of
first_region text = record { steps = length text; enough = omega arith; room = omega arith; within = omega arith; same = refl }

pub last_region : (text : List ℕ) (region : Region) (number : ℕ) (rest : List ℕ) → RegionLeft text region number rest → length rest ≡ 0 → region ≡ region_in Above (lines_of text)
last_region text region number rest are h = ap (region_in region) (sym (none_left are.steps number rest h)) ∙ are.same

region_from : (n number : ℕ) (region : Region) (rest : List ℕ) → 0 < length rest → length rest ≤ n
    → (m : ℕ) × (n ≡ suc m) × (region_in region (lines_from n number rest) ≡ region_in (region_behind region (first_line number rest).words) (lines_from m (suc number) (drop (suc (line_length rest)) rest)))
region_from zero number region rest some enough = absurd (omega arith)
region_from (suc n) number region [] some enough = absurd (omega arith)
region_from (suc n) number region (b ∷ bs) some enough = (n, refl, refl)

pub next_region : (text : List ℕ) (region next : Region) (number : ℕ) (rest left : List ℕ) (line : LineView) → RegionLeft text region number rest → 0 < length rest
    → line ≡ first_line number rest → next ≡ region_behind region line.words → left ≡ drop (suc (line_length rest)) rest → length left < length rest → RegionLeft text next (number + 1) left
next_region text region next number rest left line are some line_is is left_is shorter =
    let s = region_from are.steps number region rest some are.enough in
    let last = s.1 in
    let enough = are.enough in
    let room = are.room in
    let within = are.within in
    record {
      steps = s.0;
      enough = omega arith;
      room = omega arith;
      within = omega arith;
      same = ap (λ r. region_in r (lines_from s.0 (number + 1) left)) (is ∙ ap (λ (l : LineView). region_behind region l.words) line_is)
          ∙ ap (λ k. region_in (region_behind region (first_line number rest).words) (lines_from s.0 k left)) (add-one number)
          ∙ ap (λ l. region_in (region_behind region (first_line number rest).words) (lines_from s.0 (suc number) l)) left_is
          ∙ sym s.2 ∙ are.same;
    }

-- the statements so far and those of the rest are those of the text
pub record LinesLeft (text source : List ℕ) (begins : Region) (so_far : List StatementView) (region : Region) (standing : Standing) (number : ℕ) (left rest : List ℕ) : Type 0 where
  pub steps : ℕ
  pub enough : length rest ≤ steps
  pub room : number + length rest ≤ 1 + length text
  pub within : length rest ≤ length text
  pub source_within : length left ≤ length source
  pub same : behind so_far (read_from region standing left (lines_from steps number rest)) ≡ read_from begins nothing_open source (lines_of text)

behind_again : (so_far element : List StatementView) (others : ReadView) → behind so_far (behind element others) ≡ behind (so_far ++ element) others
behind_again so_far element others = ap (λ (l : List StatementView). let r : ReadView = (l, others.1) in r) (sym (append_assoc so_far element others.0))

pub first_lines : (text source : List ℕ) (begins : Region) (so_far : List StatementView) → so_far ≡ [] → LinesLeft text source begins so_far begins nothing_open 1 source text
unfolding lines_of
first_lines text source begins so_far none = record {
  steps = length text;
  enough = omega arith;
  room = omega arith;
  within = omega arith;
  source_within = omega arith;
  same = ap (λ l. behind l (read_from begins nothing_open source (lines_from (length text) 1 text))) none;
}

pub all_lines : (text source : List ℕ) (begins : Region) (so_far : List StatementView) (region : Region) (standing : Standing) (number : ℕ) (left rest : List ℕ) (fault : Option Fault) → LinesLeft text source begins so_far region standing number left rest → length rest ≡ 0
    → fault ≡ (finished standing).1 → (so_far, fault) ≡ read_from begins nothing_open source (lines_of text)
all_lines text source begins so_far region standing number left rest fault are h is =
    ap (λ (f : Option Fault). let r : ReadView = (so_far, f) in r) is
    ∙ ap (λ (l : List StatementView). let r : ReadView = (l, (finished standing).1) in r) (sym (append-nil so_far))
    ∙ ap (λ l. behind so_far (read_from region standing left l)) (sym (none_left are.steps number rest h)) ∙ are.same

read_step : (n number : ℕ) (region : Region) (standing : Standing) (left rest : List ℕ) → 0 < length rest → length rest ≤ n
    → (m : ℕ) × (n ≡ suc m) × (read_from region standing left (lines_from n number rest) ≡ step_by (λ next. read_from (region_behind region (first_line number rest).words) next (below left) (lines_from m (suc number) (drop (suc (line_length rest)) rest))) (region_stepped region standing left (first_line number rest)))
read_step zero number region standing left rest some enough = absurd (omega arith)
read_step (suc n) number region standing left [] some enough = absurd (omega arith)
read_step (suc n) number region standing left (b ∷ bs) some enough = (n, refl, refl)

pub line_refused : (text source : List ℕ) (begins : Region) (so_far now : List StatementView) (region : Region) (standing : Standing) (number : ℕ) (left rest : List ℕ) (line : LineView) (fault : Fault) → LinesLeft text source begins so_far region standing number left rest → 0 < length rest
    → line ≡ first_line number rest → (region_stepped region standing left line ≡ Err fault) × (now ≡ so_far) → (now, Some fault) ≡ read_from begins nothing_open source (lines_of text)
line_refused text source begins so_far now region standing number left rest line fault are some line_is e =
    let s = read_step are.steps number region standing left rest some are.enough in
    let step : region_stepped region standing left (first_line number rest) ≡ Err fault = ap (region_stepped region standing left) (sym line_is) ∙ e.0 in
    let one : read_from region standing left (lines_from are.steps number rest) ≡ ([], Some fault) =
    s.2 ∙ ap (step_by (λ (n : Standing). read_from (region_behind region (first_line number rest).words) n (below left) (lines_from s.0 (suc number) (drop (suc (line_length rest)) rest)))) step in
    ap (λ (l : List StatementView). let r : ReadView = (l, Some fault) in r) (e.1 ∙ sym (append-nil so_far)) ∙ ap (behind so_far) (sym one) ∙ are.same

pub next_line : (text source : List ℕ) (begins : Region) (so_far now : List StatementView) (region after : Region) (standing next : Standing) (number : ℕ) (left rest others lines : List ℕ) (line : LineView) → LinesLeft text source begins so_far region standing number left rest → 0 < length rest
    → line ≡ first_line number rest → (more : List StatementView) × (region_stepped region standing left line ≡ Ok (more, next)) × (now ≡ so_far ++ more) → after ≡ region_behind region line.words
    → others ≡ below left → lines ≡ drop (suc (line_length rest)) rest → length lines < length rest → LinesLeft text source begins now after next (number + 1) others lines
next_line text source begins so_far now region after standing next number left rest others lines line are some line_is added after_is others_is lines_is shorter =
    let s = read_step are.steps number region standing left rest some are.enough in
    let last = s.1 in
    let enough = are.enough in
    let room = are.room in
    let within = are.within in
    let source_within = are.source_within in
    let others_within : length others ≡ length left - suc (line_length left) = ap length others_is ∙ length-drop (suc (line_length left)) left in
    let step : region_stepped region standing left (first_line number rest) ≡ Ok (added.0, next) = ap (region_stepped region standing left) (sym line_is) ∙ added.1 in
    let behind_region = region_behind region (first_line number rest).words in
    let element = read_from behind_region next (below left) (lines_from s.0 (suc number) (drop (suc (line_length rest)) rest)) in
    let one : read_from region standing left (lines_from are.steps number rest) ≡ behind added.0 element =
    s.2 ∙ ap (step_by (λ (n : Standing). read_from behind_region n (below left) (lines_from s.0 (suc number) (drop (suc (line_length rest)) rest)))) step in
    let same : read_from after next others (lines_from s.0 (number + 1) lines) ≡ element =
    ap (λ r. read_from r next others (lines_from s.0 (number + 1) lines)) (after_is ∙ ap (λ (l : LineView). region_behind region l.words) line_is)
    ∙ ap (λ t. read_from behind_region next t (lines_from s.0 (number + 1) lines)) others_is
    ∙ ap (λ k. read_from behind_region next (below left) (lines_from s.0 k lines)) (add-one number) ∙ ap (λ l. read_from behind_region next (below left) (lines_from s.0 (suc number) l)) lines_is in
    record {
      steps = s.0;
      enough = omega arith;
      room = omega arith;
      within = omega arith;
      source_within = omega arith;
      same = ap (behind now) same ∙ ap (λ l. behind l element) added.2 ∙ sym (behind_again so_far added.0 element) ∙ ap (behind so_far) (sym one) ∙ are.same;
    }
