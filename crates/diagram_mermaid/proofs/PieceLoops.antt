-- Blocks and statements that are read one after the other.
use Rattle.std.proofs.Common.{◌≡◌, ℕ, zero, suc, ◌+◌, ◌<◌, ◌≤◌, List, [], ◌∷◌, ◌++◌, length, Option, None, Some, true, false, refl, ap, sym, ◌∙◌, append_assoc, arith, codes, nat_eq}
use Rattle.std.specs.List.{starts_with}
use Rattle.std.proofs.lemmas.List.{append-nil}
use Rattle.diagram_statements.specs.Lines.{after, front_of}
use Rattle.diagram_statements.specs.Statements.{LineView}
use Rattle.diagram_mermaid.specs.Pieces.{OpenedView, Waits, Rest, behind_blocks, behind_blocks_from, block_at, behind_end, pieces_of, pieces_from, piece_length, listed, next_pieces}
use Rattle.diagram_mermaid.specs.declared.piece.Block.{Block}

pub record BlocksLeft (left line : LineView) : Type 0 where
  pub steps : ℕ
  pub enough : length left.words < steps
  pub same : behind_blocks_from steps left ≡ behind_blocks line

pub first_block : (line : LineView) → BlocksLeft line line
unfolding behind_blocks
first_block line = record { steps = suc (length line.words); enough = omega arith; same = refl }

no_block_from : (n : ℕ) (left : LineView) → length left.words < n → block_at left.words ≡ None → behind_blocks_from n left ≡ Rest left
no_block_from zero left enough e = absurd (omega arith)
no_block_from (suc n) left enough e = rw e refl

no_end_from : (n : ℕ) (left : LineView) (block : Block) → length left.words < n → block_at left.words ≡ Some block → behind_end block left ≡ None → behind_blocks_from n left ≡ Waits block
no_end_from zero left block enough e f = absurd (omega arith)
no_end_from (suc n) left block enough e f = rw e (rw f refl)

next_block_from : (n : ℕ) (left rest : LineView) (block : Block) → length left.words < n → block_at left.words ≡ Some block → behind_end block left ≡ Some rest → (m : ℕ) × (n ≡ suc m) × (behind_blocks_from n left ≡ behind_blocks_from m rest)
next_block_from zero left rest block enough e f = absurd (omega arith)
next_block_from (suc n) left rest block enough e f = (n, refl, rw e (rw f refl))

pub no_block : (left line : LineView) → BlocksLeft left line → block_at left.words ≡ None → Rest left ≡ behind_blocks line
no_block left line are e = sym (no_block_from are.steps left are.enough e) ∙ are.same

pub no_end : (left line : LineView) (block : Block) → BlocksLeft left line → block_at left.words ≡ Some block → behind_end block left ≡ None → Waits block ≡ behind_blocks line
no_end left line block are e f = sym (no_end_from are.steps left block are.enough e f) ∙ are.same

pub next_block : (left rest line : LineView) (block : Block) → BlocksLeft left line → block_at left.words ≡ Some block → behind_end block left ≡ Some rest → length rest.words < length left.words → BlocksLeft rest line
next_block left rest line block are e f shorter =
    let s = next_block_from are.steps left rest block are.enough e f in
    let last = s.1 in
    let enough = are.enough in
    record { steps = s.0; enough = omega arith; same = sym s.2 ∙ are.same }

pub record PiecesLeft (old now : List LineView) (left line : LineView) : Type 0 where
  pub steps : ℕ
  pub enough : length left.words < steps
  pub same : now ++ pieces_from steps left ≡ old ++ pieces_of line

pub first_piece : (old : List LineView) (line : LineView) → PiecesLeft old old line line
unfolding pieces_of
first_piece old line = record { steps = suc (length line.words); enough = omega arith; same = refl }

last_from : (n : ℕ) (left behind : LineView) → length left.words < n → behind ≡ after (piece_length 0 left.words) left → starts_with nat_eq behind.words (codes ";") ≡ false
    → pieces_from n left ≡ listed (front_of (piece_length 0 left.words) left)
last_from zero left behind enough is e = absurd (omega arith)
last_from (suc n) left behind enough is e =
    ap (λ b. listed (front_of (piece_length 0 left.words) left) ++ next_pieces (pieces_from n) b) (sym is) ∙ rw e (append-nil (listed (front_of (piece_length 0 left.words) left)))

more_from : (n : ℕ) (left behind : LineView) → length left.words < n → behind ≡ after (piece_length 0 left.words) left → starts_with nat_eq behind.words (codes ";") ≡ true
    → (m : ℕ) × (n ≡ suc m) × (pieces_from n left ≡ listed (front_of (piece_length 0 left.words) left) ++ pieces_from m (after 1 behind))
more_from zero left behind enough is e = absurd (omega arith)
more_from (suc n) left behind enough is e =
    (n, refl, ap (λ b. listed (front_of (piece_length 0 left.words) left) ++ next_pieces (pieces_from n) b) (sym is) ∙ rw e refl)

pub last_piece : (old now more : List LineView) (left behind line : LineView) (k : ℕ) → PiecesLeft old now left line → k ≡ piece_length 0 left.words
    → more ≡ now ++ listed (front_of k left) → behind ≡ after k left → starts_with nat_eq behind.words (codes ";") ≡ false → more ≡ old ++ pieces_of line
last_piece old now more left behind line k are k_is is behind_is e =
    is ∙ ap (λ i. now ++ listed (front_of i left)) k_is
    ∙ ap (λ l. now ++ l) (sym (last_from are.steps left behind are.enough (behind_is ∙ ap (λ i. after i left) k_is) e)) ∙ are.same

pub next_piece : (old now more : List LineView) (left behind rest line : LineView) (k : ℕ) → PiecesLeft old now left line → k ≡ piece_length 0 left.words
    → more ≡ now ++ listed (front_of k left) → behind ≡ after k left → starts_with nat_eq behind.words (codes ";") ≡ true → rest ≡ after 1 behind → length rest.words < length left.words
    → PiecesLeft old more rest line
next_piece old now more left behind rest line k are k_is is behind_is e rest_is shorter =
    let s = more_from are.steps left behind are.enough (behind_is ∙ ap (λ i. after i left) k_is) e in
    let last = s.1 in
    let enough = are.enough in
    let added : more ≡ now ++ listed (front_of (piece_length 0 left.words) left) = is ∙ ap (λ i. now ++ listed (front_of i left)) k_is in
    record {
      steps = s.0;
      enough = omega arith;
      same = ap (λ l. more ++ pieces_from s.0 l) rest_is ∙ ap (λ l. l ++ pieces_from s.0 (after 1 behind)) added
          ∙ append_assoc now (listed (front_of (piece_length 0 left.words) left)) (pieces_from s.0 (after 1 behind))
          ∙ ap (λ l. now ++ l) (sym s.2) ∙ are.same;
    }
