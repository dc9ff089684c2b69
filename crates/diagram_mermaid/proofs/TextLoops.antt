-- A text's lines, and its statements, one after the other.
use Rattle.std.proofs.Common.{◌≡◌, ℕ, zero, suc, ◌+◌, ◌<◌, ◌≤◌, List, [], ◌∷◌, ◌++◌, length, drop, refl, ap, sym, ◌∙◌, append_assoc, arith, add-one}
use Rattle.std.proofs.lemmas.List.{append-nil}
use Rattle.diagram_statements.specs.Lines.{line_length, lines_from, lines_of, first_line}
use Rattle.diagram_statements.specs.Statements.{LineView}
use Rattle.diagram_mermaid.specs.Diagrams.{pieces_in}
use Rattle.diagram_mermaid.specs.Pieces.{stepped}
use Rattle.diagram_mermaid.specs.declared.piece.Standing.{Standing}
use Rattle.diagram_mermaid.specs.declared.piece.Standing.TheVariants.{Above}

-- the pieces so far and those of the rest are those of the text
pub record LinesLeft (text : List ℕ) (pieces : List LineView) (standing : Standing) (number : ℕ) (rest : List ℕ) : Type 0 where
  pub steps : ℕ
  pub enough : length rest ≤ steps
  pub room : number + length rest ≤ 1 + length text
  pub within : length rest ≤ length text
  pub front : pieces ++ (pieces_in standing (lines_from steps number rest)).0 ≡ (pieces_in Above (lines_of text)).0
  pub back : (pieces_in standing (lines_from steps number rest)).1 ≡ (pieces_in Above (lines_of text)).1

pub first_lines : (text : List ℕ) (pieces : List LineView) → pieces ≡ [] → LinesLeft text pieces Above 1 text
unfolding lines_of
first_lines text pieces none = record {
  steps = length text;
  enough = omega arith;
  room = omega arith;
  within = omega arith;
  front = ap (λ l. l ++ (pieces_in Above (lines_from (length text) 1 text)).0) none;
  back = refl;
}

none_left : (n number : ℕ) (rest : List ℕ) → length rest ≡ 0 → lines_from n number rest ≡ []
none_left zero number rest h = refl
none_left (suc n) number [] h = refl
none_left (suc n) number (b ∷ bs) h = absurd (omega arith)

pub last_lines : (text : List ℕ) (pieces : List LineView) (standing : Standing) (number : ℕ) (rest : List ℕ) → LinesLeft text pieces standing number rest → length rest ≡ 0
    → (pieces, standing) ≡ pieces_in Above (lines_of text)
last_lines text pieces standing number rest are h =
    let none = none_left are.steps number rest h in
    let front : pieces ≡ (pieces_in Above (lines_of text)).0 = sym (append-nil pieces) ∙ ap (λ l. pieces ++ (pieces_in standing l).0) (sym none) ∙ are.front in
    let back : standing ≡ (pieces_in Above (lines_of text)).1 = ap (λ l. (pieces_in standing l).1) (sym none) ∙ are.back in
    ap (λ p. (p, standing)) front ∙ ap (λ s. ((pieces_in Above (lines_of text)).0, s)) back

stepped_from : (n number : ℕ) (standing : Standing) (rest : List ℕ) → 0 < length rest → length rest ≤ n
    → (m : ℕ) × (n ≡ suc m) × (pieces_in standing (lines_from n number rest) ≡ ((stepped standing (first_line number rest)).0 ++ (pieces_in (stepped standing (first_line number rest)).1 (lines_from m (suc number) (drop (suc (line_length rest)) rest))).0, (pieces_in (stepped standing (first_line number rest)).1 (lines_from m (suc number) (drop (suc (line_length rest)) rest))).1))
stepped_from zero number standing rest some enough = absurd (omega arith)
stepped_from (suc n) number standing [] some enough = absurd (omega arith)
stepped_from (suc n) number standing (b ∷ bs) some enough = (n, refl, refl)

pub next_line : (text : List ℕ) (pieces more : List LineView) (standing next : Standing) (number : ℕ) (rest left : List ℕ) (line : LineView) → LinesLeft text pieces standing number rest → 0 < length rest
    → line ≡ first_line number rest → (more ≡ pieces ++ (stepped standing line).0) × (next ≡ (stepped standing line).1) → left ≡ drop (suc (line_length rest)) rest → length left < length rest
    → LinesLeft text more next (number + 1) left
next_line text pieces more standing next number rest left line are some line_is added left_is shorter =
    let s = stepped_from are.steps number standing rest some are.enough in
    let last = s.1 in
    let enough = are.enough in
    let room = are.room in
    let within = are.within in
    let rest_of = λ (n : Standing) (k : ℕ) (l : List ℕ). pieces_in n (lines_from s.0 k l) in
    let step = stepped standing (first_line number rest) in
    let next_is : next ≡ step.1 = added.1 ∙ ap (λ l. (stepped standing l).1) line_is in
    let same : rest_of next (number + 1) left ≡ rest_of step.1 (suc number) (drop (suc (line_length rest)) rest) =
    ap (λ n. rest_of n (number + 1) left) next_is ∙ ap (λ k. rest_of step.1 k left) (add-one number) ∙ ap (λ l. rest_of step.1 (suc number) l) left_is in
    record {
      steps = s.0;
      enough = omega arith;
      room = omega arith;
      within = omega arith;
      front = ap (λ p. more ++ p.0) same
          ∙ ap (λ l. l ++ (rest_of step.1 (suc number) (drop (suc (line_length rest)) rest)).0) (added.0 ∙ ap (λ l. pieces ++ (stepped standing l).0) line_is)
          ∙ append_assoc pieces step.0 (rest_of step.1 (suc number) (drop (suc (line_length rest)) rest)).0
          ∙ ap (λ p. pieces ++ p.0) (sym s.2) ∙ are.front;
      back = ap (λ p. p.1) same ∙ ap (λ p. p.1) (sym s.2) ∙ are.back;
    }
