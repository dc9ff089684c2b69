-- Several lines of a text together: the bytes up to the end of the last one.
use Rattle.std.proofs.Common.{◌≡◌, ℕ, zero, suc, ◌+◌, ◌≤◌, List, [], ◌∷◌, ◌++◌, refl, sym, ap, ◌∙◌, arith, length, take, add-one, append_assoc, length-append}
use Rattle.std.specs.List.{flat_map, join_with_byte}
use Rattle.std.proofs.Math.Seq.{take-append_seam, take-append-add, take-length}
use Rattle.std.proofs.lemmas.List.{take-append-le}
use Rattle.texts.specs.Lines.{lines_of, end_of, ended}
use Rattle.texts.proofs.Parts.{lines_joined}
use Rattle.log_lines.specs.Reading.{all_lines}

-- a text whose first line has a line feed
pub text_cut : (text line after : List ℕ) → lines_of text ≡ line ∷ lines_of after → end_of text ≡ end_of after → text ≡ (line ++ 10 ∷ []) ++ after
text_cut text line after lines end =
    let cut : flat_map ended (lines_of text) ++ end_of text ≡ flat_map ended (line ∷ lines_of after) ++ end_of after = rw (lines, end) refl in
    sym (lines_joined text) ∙ cut ∙ append_assoc (line ++ 10 ∷ []) (flat_map ended (lines_of after)) (end_of after) ∙ ap (λ l. (line ++ 10 ∷ []) ++ l) (lines_joined after)

pub lines_cut : (text line after : List ℕ) → lines_of text ≡ line ∷ lines_of after → end_of text ≡ end_of after → all_lines text ≡ line ∷ all_lines after
lines_cut text line after lines end = rw (lines, end) refl

pub one_line : (text : List ℕ) → lines_of text ≡ [] → end_of text ≡ text → all_lines text ≡ text ∷ []
one_line text lines end = rw (lines, end) refl

-- a text that is one line
pub window_whole : (text : List ℕ) (more : ℕ) → all_lines text ≡ text ∷ [] → take (length text) text ≡ join_with_byte 10 (take (more + 1) (all_lines text))
window_whole text zero e = rw (e, take-length) refl
window_whole text (suc more) e = rw (e, add-one, take-length) refl

-- only the first line
pub window_first : (text line after : List ℕ) → text ≡ (line ++ 10 ∷ []) ++ after → all_lines text ≡ line ∷ all_lines after → take (length line) text ≡ join_with_byte 10 (take (0 + 1) (all_lines text))
window_first text line after cut lines =
    let within : length line ≤ length (line ++ 10 ∷ []) = omega (arith, length-append line (10 ∷ [])) in
    let first : take (length line) ((line ++ 10 ∷ []) ++ after) ≡ line = take-append-le (length line) (line ++ 10 ∷ []) after within ∙ take-append_seam line (10 ∷ []) in
    ap (take (length line)) cut ∙ first ∙ sym (ap (λ l. join_with_byte 10 (take 1 l)) lines)

join_more : (line : List ℕ) (n : ℕ) (lines : List (List ℕ)) (last : List ℕ) → join_with_byte 10 (take (suc (suc n)) (line ∷ (lines ++ last ∷ []))) ≡ (line ++ 10 ∷ []) ++ join_with_byte 10 (take (suc n) (lines ++ last ∷ []))
join_more line n [] last = sym (append_assoc line (10 ∷ []) (join_with_byte 10 (last ∷ take n [])))
join_more line n (next ∷ lines) last = sym (append_assoc line (10 ∷ []) (join_with_byte 10 (next ∷ take n (lines ++ last ∷ []))))

-- the first line, and more lines after it
pub window_more : (text line after : List ℕ) (more k : ℕ) → text ≡ (line ++ 10 ∷ []) ++ after → all_lines text ≡ line ∷ all_lines after
    → take k after ≡ join_with_byte 10 (take (more + 1) (all_lines after)) → take (length line + 1 + k) text ≡ join_with_byte 10 (take (suc more + 1) (all_lines text))
window_more text line after more k cut lines rest =
    let many : length (line ++ 10 ∷ []) + k ≡ length line + 1 + k = omega (arith, length-append line (10 ∷ [])) in
    let front : take (length line + 1 + k) ((line ++ 10 ∷ []) ++ after) ≡ (line ++ 10 ∷ []) ++ take k after =
    sym (ap (λ n. take n ((line ++ 10 ∷ []) ++ after)) many) ∙ take-append-add (line ++ 10 ∷ []) after k in
    let back : join_with_byte 10 (take (suc more + 1) (line ∷ all_lines after)) ≡ (line ++ 10 ∷ []) ++ join_with_byte 10 (take (more + 1) (all_lines after)) =
    rw add-one (rw add-one (join_more line more (lines_of after) (end_of after))) in
    ap (take (length line + 1 + k)) cut ∙ front ∙ ap (λ l. (line ++ 10 ∷ []) ++ l) rest ∙ sym back ∙ sym (ap (λ l. join_with_byte 10 (take (suc more + 1) l)) lines)
