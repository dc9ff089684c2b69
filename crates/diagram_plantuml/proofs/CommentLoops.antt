-- Comments at the beginning of a line, one after the other.
use Rattle.std.proofs.Common.{◌≡◌, ℕ, zero, suc, ◌<◌, length, None, Some, refl, sym, ◌∙◌, arith}
use Rattle.diagram_statements.specs.Statements.{LineView}
use Rattle.diagram_plantuml.specs.Comments.{behind_comment, behind_comments, behind_comments_from}

pub record CommentsLeft (left line : LineView) : Type 0 where
  pub steps : ℕ
  pub enough : length left.words < steps
  pub same : behind_comments_from steps left ≡ behind_comments line

pub first_comment : (line : LineView) → CommentsLeft line line
unfolding behind_comments
first_comment line = record { steps = suc (length line.words); enough = omega arith; same = refl }

none_from : (n : ℕ) (left : LineView) → behind_comment left ≡ None → behind_comments_from n left ≡ left
none_from zero left e = refl
none_from (suc n) left e = rw e refl

next_from : (n : ℕ) (left rest : LineView) → length left.words < n → behind_comment left ≡ Some rest → (m : ℕ) × (n ≡ suc m) × (behind_comments_from n left ≡ behind_comments_from m rest)
next_from zero left rest enough e = absurd (omega arith)
next_from (suc n) left rest enough e = (n, refl, rw e refl)

pub no_comment : (left line : LineView) → CommentsLeft left line → behind_comment left ≡ None → left ≡ behind_comments line
no_comment left line are e = sym (none_from are.steps left e) ∙ are.same

pub next_comment : (left rest line : LineView) → CommentsLeft left line → behind_comment left ≡ Some rest → length rest.words < length left.words → CommentsLeft rest line
next_comment left rest line are e shorter =
    let s = next_from are.steps left rest are.enough e in
    let last = s.1 in
    let enough = are.enough in
    record { steps = s.0; enough = omega arith; same = sym s.2 ∙ are.same }
