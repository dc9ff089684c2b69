-- Exact texts: each of their lines is exact, and a line feed ends it.
use Rattle.std.proofs.Common.{◌≡◌, ℕ, List, [], ◌∷◌, ◌++◌, None, refl, sym, ap, ◌∙◌, append-nil, arith}
use Rattle.std.specs.List.{join_with_byte, flat_map, AllByRecursion}
use Rattle.std.proofs.Math.Seq.{take-length}
use Rattle.std.proofs.lemmas.Grind.{flat_map-append}
use Rattle.texts.specs.Lines.{Lacks, lines_of, end_of, ended}
use Rattle.texts.proofs.Parts.{joined_lacks, lines_again, end_ended, end_append, lines_append}
use Rattle.cmd_tidy.specs.Typing.{comment_place, uncommented, typed_words, written_out, behind_space, line_of, exact_line, exact_text}
use Rattle.cmd_tidy.proofs.Firm.{AreFirm, each_lacks, split_again, all_filled, same_written}

-- ---- a line

no_comment : (line : List ℕ) → Lacks 35 line → comment_place line ≡ None
no_comment [] h = refl
no_comment (b ∷ bs) h = grind (arith, h.0, no_comment bs h.1)

same_uncommented : (line : List ℕ) → Lacks 35 line → uncommented line ≡ line
same_uncommented line h = rw (no_comment line h) (take-length line)

typed_again : (word : List ℕ) (words : List (List ℕ)) → AreFirm (word ∷ words) → typed_words (join_with_byte 32 (word ∷ words)) ≡ word ∷ words
unfolding typed_words
typed_again word words h =
    let line : List ℕ = join_with_byte 32 (word ∷ words) in
    rw (same_uncommented line (joined_lacks 35 32 (word ∷ words) refl (each_lacks 35 (omega arith) (word ∷ words) h)), split_again word words h) (all_filled (word ∷ words) h)

joined_behind : (word : List ℕ) (words : List (List ℕ)) → join_with_byte 32 (word ∷ words) ≡ word ++ flat_map behind_space words
joined_behind word [] = sym (append-nil word)
joined_behind word (next ∷ words) = ap (λ l. word ++ 32 ∷ l) (joined_behind next words)

line_again : (word : List ℕ) (words : List (List ℕ)) → AreFirm (word ∷ words) → exact_line (join_with_byte 32 (word ∷ words)) ≡ ended (join_with_byte 32 (word ∷ words))
unfolding exact_line
line_again word words h =
    ap (λ l. line_of (written_out l)) (typed_again word words h) ∙ ap line_of (same_written (word ∷ words) h) ∙ ap ended (sym (joined_behind word words))

-- ---- texts

-- A text that stays as it is, and whose last line has its line feed.
pub record IsExact (text : List ℕ) : Type 0 where
  pub ends : end_of text ≡ []
  pub same : exact_text text ≡ text

no_line : exact_line [] ≡ []
unfolding exact_line typed_words written_out
no_line = refl

by_lines : (text : List ℕ) → end_of text ≡ [] → exact_text text ≡ flat_map exact_line (lines_of text)
unfolding exact_text
by_lines text e =
    ap (λ end. flat_map exact_line (lines_of text ++ end ∷ [])) e ∙ flat_map-append exact_line (lines_of text) ([] ∷ [])
    ∙ ap (λ l. flat_map exact_line (lines_of text) ++ (l ++ [])) no_line ∙ append-nil (flat_map exact_line (lines_of text))

-- a line of such words
pub line_exact : (word : List ℕ) (words : List (List ℕ)) → AreFirm (word ∷ words) → IsExact (ended (join_with_byte 32 (word ∷ words)))
line_exact word words h =
    let line : List ℕ = join_with_byte 32 (word ∷ words) in
    let lacks = joined_lacks 10 32 (word ∷ words) refl (each_lacks 10 (omega arith) (word ∷ words) h) in
    let alone : lines_of (ended line) ≡ line ∷ [] = ap lines_of (sym (append-nil (ended line))) ∙ lines_again (line ∷ []) (lacks, tt) in
    record {
      ends = end_ended line;
      same = by_lines (ended line) (end_ended line) ∙ ap (flat_map exact_line) alone ∙ append-nil (exact_line line) ∙ line_again word words h;
    }

pub both_exact : (a b : List ℕ) → IsExact a → IsExact b → IsExact (a ++ b)
both_exact a b x y =
    let ends : end_of (a ++ b) ≡ [] = end_append a b x.ends ∙ y.ends in
    record {
      ends = ends;
      same = by_lines (a ++ b) ends ∙ ap (flat_map exact_line) (lines_append a b x.ends) ∙ flat_map-append exact_line (lines_of a) (lines_of b)
          ∙ ap (λ l. l ++ flat_map exact_line (lines_of b)) (sym (by_lines a x.ends) ∙ x.same) ∙ ap (λ l. a ++ l) (sym (by_lines b y.ends) ∙ y.same);
    }

pub nothing_exact : IsExact []
unfolding exact_text end_of lines_of
nothing_exact = record { ends = refl; same = ap (λ l. l ++ []) no_line }

pub each_exact : {X : Type 0} (f : X → List ℕ) (xs : List X) → AllByRecursion (λ x. IsExact (f x)) xs → IsExact (flat_map f xs)
each_exact f [] h = nothing_exact
each_exact f (x ∷ xs) h = both_exact (f x) (flat_map f xs) h.0 (each_exact f xs h.1)
