-- Tokens that are split off a text one after the other.
use Rattle.std.proofs.Common.{◌≡◌, ℕ, zero, suc, ◌+◌, ◌-◌, ◌<◌, ◌≤◌, List, [], ◌∷◌, ◌++◌, length, take, drop, refl, sym, ap, ◌∙◌, append_assoc, arith, length-drop, length-take-le}
use Rattle.std.proofs.lemmas.List.{append-nil}
use Rattle.diagram_mscgen.specs.Grammar.Pieces.{piece_at}
use Rattle.texts.specs.Bytes.Places.{behind, start}
use Rattle.diagram_mscgen.specs.Grammar.Tokens.{TokenView, first_token, tokens_from, tokens_of, mark_length}
use Rattle.diagram_mscgen.specs.declared.grammar.piece.Piece.{Piece}
use Rattle.texts.specs.declared.bytes.place.Place.{Place}

-- the tokens so far and those of the rest are those of the text, and there are enough steps for the rest
pub record AreTokens (text : List ℕ) (tokens : List TokenView) (place : Place) (rest : List ℕ) : Type 0 where
  pub left : ℕ
  pub enough : length rest ≤ left
  pub line : place.line + length rest ≤ 1 + length text
  pub column : place.column + length rest ≤ 1 + length text
  pub same : tokens ++ tokens_from left place rest ≡ tokens_of text

pub none_yet : (text : List ℕ) (tokens : List TokenView) (m : ℕ) (place : Place) (mark rest : List ℕ) → tokens ≡ [] → m ≡ mark_length text → m ≤ length text
    → mark ≡ take m text → rest ≡ drop m text → place ≡ behind start mark → place.line ≤ 1 + length mark → place.column ≤ 1 + length mark
    → AreTokens text tokens place rest
unfolding tokens_of
none_yet text tokens m place mark rest none is_mark within front back is line column =
    let taken : length mark ≡ m = rw front (length-take-le m text within) in
    let dropped : length rest ≡ length text - m = rw back (length-drop m text) in
    record {
      left = length text;
      enough = omega arith;
      line = omega arith;
      column = omega arith;
      same = ap (λ l. l ++ tokens_from (length text) place rest) none ∙ ap (λ p. tokens_from (length text) p rest) is
          ∙ ap (λ l. tokens_from (length text) (behind start l) rest) front ∙ ap (λ l. tokens_from (length text) (behind start (take m text)) l) back
          ∙ ap (λ k. tokens_from (length text) (behind start (take k text)) (drop k text)) is_mark;
    }

none_of : (n : ℕ) (place : Place) (rest : List ℕ) → length rest ≡ 0 → tokens_from n place rest ≡ []
none_of zero place rest h = refl
none_of (suc n) place [] h = refl
none_of (suc n) place (b ∷ bs) h = absurd (omega arith)

pub all_tokens : (text : List ℕ) (tokens : List TokenView) (place : Place) (rest : List ℕ) → AreTokens text tokens place rest → length rest ≡ 0 → tokens ≡ tokens_of text
all_tokens text tokens place rest are h =
    sym (append-nil tokens) ∙ ap (λ l. tokens ++ l) (sym (none_of are.left place rest h)) ∙ are.same

-- one step, if any bytes are left
stepped : (n : ℕ) (place : Place) (rest : List ℕ) → 0 < length rest → length rest ≤ n
    → (m : ℕ) × (n ≡ suc m) × (tokens_from n place rest ≡ first_token place rest ++ tokens_from m (behind place (take (piece_at rest).length rest)) (drop (piece_at rest).length rest))
stepped zero place rest some enough = absurd (omega arith)
stepped (suc m) place [] some enough = absurd (omega arith)
stepped (suc m) place (b ∷ bs) some enough = (m, refl, refl)

pub one_more : (text : List ℕ) (tokens more : List TokenView) (place next : Place) (rest passed left : List ℕ) (piece : Piece) → AreTokens text tokens place rest → 0 < length rest
    → more ≡ tokens ++ first_token place rest → piece ≡ piece_at rest → 0 < piece.length → piece.length ≤ length rest → passed ≡ take piece.length rest
    → left ≡ drop piece.length rest → next ≡ behind place passed → next.line ≤ place.line + length passed → next.column ≤ place.column + length passed
    → AreTokens text more next left
one_more text tokens more place next rest passed left piece are some is piece_is step within front back place_is line column =
    let s = stepped are.left place rest some are.enough in
    let last = s.1 in
    let enough = are.enough in
    let line_before = are.line in
    let column_before = are.column in
    let taken : length passed ≡ piece.length = rw front (length-take-le piece.length rest within) in
    let dropped : length left ≡ length rest - piece.length = rw back (length-drop piece.length rest) in
    let next_is : next ≡ behind place (take (piece_at rest).length rest) = place_is ∙ ap (behind place) front ∙ ap (λ (p : Piece). behind place (take p.length rest)) piece_is in
    let left_is : left ≡ drop (piece_at rest).length rest = back ∙ ap (λ (p : Piece). drop p.length rest) piece_is in
    record {
      left = s.0;
      enough = omega arith;
      line = omega arith;
      column = omega arith;
      same = ap (λ p. more ++ tokens_from s.0 p left) next_is
          ∙ ap (λ l. more ++ tokens_from s.0 (behind place (take (piece_at rest).length rest)) l) left_is
          ∙ ap (λ l. l ++ tokens_from s.0 (behind place (take (piece_at rest).length rest)) (drop (piece_at rest).length rest)) is
          ∙ append_assoc tokens (first_token place rest) (tokens_from s.0 (behind place (take (piece_at rest).length rest)) (drop (piece_at rest).length rest))
          ∙ ap (λ l. tokens ++ l) (sym s.2) ∙ are.same;
    }
