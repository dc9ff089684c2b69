-- Lines that continue, one after the other.
use Rattle.std.proofs.Common.{◌≡◌, ℕ, zero, suc, ◌+◌, ◌-◌, ◌^◌, ◌<◌, ◌≤◌, List, [], ◌∷◌, ◌++◌, length, None, Some, refl, ap, sym, ◌∙◌, append_assoc, arith, add-one, if◌then◌else◌}
use Rattle.std.proofs.lemmas.Bool.{le-ltb, lt-ltb}
use Rattle.diagram_plantuml.specs.Joints.{added, at, below, joined_from, joined_text, line_feeds, line_in, piece_of, place_by, place_from, place_in}
use Rattle.diagram_statements.specs.declared.statement.Place.{Place}

-- the joined bytes so far and the rest of the text give the joined text
pub record JoinedLeft (text so_far : List ℕ) (joints : ℕ) (rest : List ℕ) : Type 0 where
  pub steps : ℕ
  pub enough : length rest ≤ steps
  pub room : joints + length rest ≤ length text
  pub same : so_far ++ joined_from steps joints rest ≡ joined_text text

pub first_joined : (text so_far : List ℕ) → so_far ≡ [] → JoinedLeft text so_far 0 text
unfolding joined_text
first_joined text so_far none = record {
  steps = length text;
  enough = omega arith;
  room = omega arith;
  same = ap (λ l. l ++ joined_from (length text) 0 text) none;
}

feeds_more : (n : ℕ) → line_feeds (suc n) ≡ line_feeds n ++ (10 ∷ [])
feeds_more zero = refl
feeds_more (suc n) = ap (λ l. 10 ∷ l) (feeds_more n)

pub one_more_feed : (so_far : List ℕ) (n : ℕ) → (so_far ++ line_feeds n) ++ (10 ∷ []) ≡ so_far ++ line_feeds (n + 1)
one_more_feed so_far n = append_assoc so_far (line_feeds n) (10 ∷ []) ∙ ap (λ l. so_far ++ l) (sym (feeds_more n)) ∙ ap (λ k. so_far ++ line_feeds k) (sym (add-one n))

no_more : (n joints : ℕ) (rest : List ℕ) → length rest ≡ 0 → joined_from n joints rest ≡ line_feeds joints
no_more zero joints rest h = refl
no_more (suc n) joints [] h = refl
no_more (suc n) joints (b ∷ bs) h = absurd (omega arith)

pub all_joined : (text so_far now : List ℕ) (joints : ℕ) (rest : List ℕ) → JoinedLeft text so_far joints rest → length rest ≡ 0 → now ≡ so_far ++ line_feeds joints → now ≡ joined_text text
all_joined text so_far now joints rest are h is = is ∙ ap (λ l. so_far ++ l) (sym (no_more are.steps joints rest h)) ∙ are.same

joined_step : (n joints : ℕ) (rest : List ℕ) → 0 < length rest → length rest ≤ n
    → (m : ℕ) × (n ≡ suc m) × (joined_from n joints rest ≡ (added joints (line_in rest)).0 ++ joined_from m (added joints (line_in rest)).1 (below rest))
joined_step zero joints rest some enough = absurd (omega arith)
joined_step (suc n) joints [] some enough = absurd (omega arith)
joined_step (suc n) joints (b ∷ bs) some enough = (n, refl, refl)

pub next_joined : (text so_far now : List ℕ) (joints next : ℕ) (line rest left : List ℕ) → JoinedLeft text so_far joints rest → 0 < length rest → line ≡ line_in rest
    → now ≡ so_far ++ (added joints line).0 → next ≡ (added joints line).1 → next ≤ joints + 1 → left ≡ below rest → length left < length rest → JoinedLeft text now next left
next_joined text so_far now joints next line rest left are some line_is now_is next_is small left_is shorter =
    let s = joined_step are.steps joints rest some are.enough in
    let last = s.1 in
    let enough = are.enough in
    let room = are.room in
    record {
      steps = s.0;
      enough = omega arith;
      room = omega arith;
      same = ap (λ l. now ++ joined_from s.0 next l) left_is ∙ ap (λ k. now ++ joined_from s.0 k (below rest)) (next_is ∙ ap (λ l. (added joints l).1) line_is)
          ∙ ap (λ l. l ++ joined_from s.0 (added joints (line_in rest)).1 (below rest)) (now_is ∙ ap (λ l. so_far ++ (added joints l).0) line_is)
          ∙ append_assoc so_far (added joints (line_in rest)).0 (joined_from s.0 (added joints (line_in rest)).1 (below rest)) ∙ ap (λ l. so_far ++ l) (sym s.2) ∙ are.same;
    }

-- the place is that of the searched byte, counted from the lines passed so far
pub record PlaceLeft (source : List ℕ) (number column line before : ℕ) (rest : List ℕ) : Type 0 where
  pub steps : ℕ
  pub enough : length rest ≤ steps
  pub room : line + length rest ≤ number + length source
  pub fits : before + 1 < 2 ^ 64
  pub same : place_from steps line before rest ≡ place_in source number column

pub first_place : (source : List ℕ) (number column before : ℕ) → column < 2 ^ 64 → before ≡ column - 1 → PlaceLeft source number column number before source
unfolding place_in
first_place source number column before small is = record {
  steps = length source;
  enough = omega arith;
  room = omega arith;
  fits = omega arith;
  same = ap (λ k. place_from (length source) number k source) is;
}

place_step : (n line before : ℕ) (rest : List ℕ) → 0 < length rest → length rest ≤ n
    → (m : ℕ) × (n ≡ suc m) × (place_from n line before rest ≡ place_by (λ left. place_from m (suc line) left (below rest)) line before (piece_of (line_in rest)))
place_step zero line before rest some enough = absurd (omega arith)
place_step (suc n) line before [] some enough = absurd (omega arith)
place_step (suc n) line before (b ∷ bs) some enough = (n, refl, refl)

no_lines : (n line before : ℕ) (rest : List ℕ) → length rest ≡ 0 → place_from n line before rest ≡ at line before
no_lines zero line before rest h = refl
no_lines (suc n) line before [] h = refl
no_lines (suc n) line before (b ∷ bs) h = absurd (omega arith)

-- the text ends
pub place_at_end : (source : List ℕ) (number column line before : ℕ) (rest : List ℕ) (place : Place) → PlaceLeft source number column line before rest → length rest ≡ 0 → place ≡ at line before → place ≡ place_in source number column
place_at_end source number column line before rest place are h is = is ∙ sym (no_lines are.steps line before rest h) ∙ are.same

-- the line continues no further
pub place_in_last : (source : List ℕ) (number column line before : ℕ) (rest words : List ℕ) (place : Place) → PlaceLeft source number column line before rest → 0 < length rest → words ≡ line_in rest → piece_of words ≡ None → place ≡ at line before → place ≡ place_in source number column
place_in_last source number column line before rest words place are some words_is none is =
    let s = place_step are.steps line before rest some are.enough in
    is ∙ sym (ap (place_by (λ left. place_from s.0 (suc line) left (below rest)) line before) (ap piece_of (sym words_is) ∙ none)) ∙ sym s.2 ∙ are.same

-- the byte is in this line
pub place_in_piece : (source : List ℕ) (number column line before : ℕ) (rest words piece : List ℕ) (place : Place) → PlaceLeft source number column line before rest → 0 < length rest → words ≡ line_in rest → piece_of words ≡ Some piece → before < length piece → place ≡ at line before → place ≡ place_in source number column
place_in_piece source number column line before rest words piece place are some words_is piece_is within is =
    let s = place_step are.steps line before rest some are.enough in
    let others = λ (left : ℕ). place_from s.0 (suc line) left (below rest) in
    is ∙ sym (ap (λ t. if t then at line before else others (before - length piece)) (lt-ltb before (length piece) within))
    ∙ sym (ap (place_by others line before) (ap piece_of (sym words_is) ∙ piece_is)) ∙ sym s.2 ∙ are.same

pub next_place : (source : List ℕ) (number column line before : ℕ) (rest words piece left : List ℕ) → PlaceLeft source number column line before rest → 0 < length rest → words ≡ line_in rest → piece_of words ≡ Some piece → length piece ≤ before
    → left ≡ below rest → length left < length rest → PlaceLeft source number column (line + 1) (before - length piece) left
next_place source number column line before rest words piece left are some words_is piece_is beyond left_is shorter =
    let s = place_step are.steps line before rest some are.enough in
    let others = λ (k : ℕ). place_from s.0 (suc line) k (below rest) in
    let last = s.1 in
    let enough = are.enough in
    let room = are.room in
    let fits = are.fits in
    record {
      steps = s.0;
      enough = omega arith;
      room = omega arith;
      fits = omega arith;
      same = ap (λ l. place_from s.0 (line + 1) (before - length piece) l) left_is ∙ ap (λ k. place_from s.0 k (before - length piece) (below rest)) (add-one line)
          ∙ sym (ap (λ t. if t then at line before else others (before - length piece)) (le-ltb before (length piece) beyond))
          ∙ sym (ap (place_by others line before) (ap piece_of (sym words_is) ∙ piece_is)) ∙ sym s.2 ∙ are.same;
    }
