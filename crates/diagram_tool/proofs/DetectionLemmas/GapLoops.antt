-- Blanks and comments that are passed one after the other.
use Rattle.std.proofs.Common.{◌≡◌, ℕ, zero, suc, ◌+◌, ◌-◌, ◌<◌, ◌≤◌, List, length, drop, refl, sym, ap, ◌∙◌, arith, length-drop, zero-add, add-zero, add_assoc, if◌then◌else◌}
use Rattle.std.specs.Prelude.{◌==◌}
use Rattle.std.proofs.lemmas.Bool.{ne_eqb}
use Rattle.std.proofs.lemmas.List.{drop-drop}
use Rattle.diagram_tool.specs.Detection.Gaps.{gap_length, gaps_from, gaps_length}

-- the passed bytes and the gaps of the rest are those of the text, and there are enough steps for the rest
pub record AreGaps (text : List ℕ) (passed : ℕ) : Type 0 where
  pub left : ℕ
  pub within : passed ≤ length text
  pub enough : length text ≤ passed + left
  pub same : passed + gaps_from left (drop passed text) ≡ gaps_length text

pub none_yet : (text : List ℕ) → AreGaps text 0
unfolding gaps_length
none_yet text = record {
  left = length text;
  within = omega arith;
  enough = omega arith;
  same = zero-add (gaps_from (length text) text);
}

-- no gap is here
none_from : (n : ℕ) (bytes : List ℕ) → gap_length bytes ≡ 0 → gaps_from n bytes ≡ 0
none_from zero bytes none = refl
none_from (suc n) bytes none = ap (λ g. if g == 0 then 0 else g + gaps_from n (drop g bytes)) none

pub all_passed : (text rest : List ℕ) (passed gap : ℕ) → AreGaps text passed → rest ≡ drop passed text → gap ≡ gap_length rest → gap ≡ 0 → passed ≡ gaps_length text
all_passed text rest passed gap are back is none =
    sym (add-zero passed) ∙ ap (λ n. passed + n) (sym (none_from are.left (drop passed text) (ap gap_length (sym back) ∙ sym is ∙ none))) ∙ are.same

-- one step, if a gap is here
stepped : (n : ℕ) (bytes : List ℕ) → 0 < gap_length bytes → 0 < n → (m : ℕ) × (n ≡ suc m) × (gaps_from n bytes ≡ gap_length bytes + gaps_from m (drop (gap_length bytes) bytes))
stepped zero bytes some enough = absurd (omega arith)
stepped (suc m) bytes some enough =
    let g = gap_length bytes in
    (m, refl, ap (λ t. if t then 0 else g + gaps_from m (drop g bytes)) (ne_eqb g 0 (λ e. omega arith)))

pub one_more : (text rest : List ℕ) (passed gap : ℕ) → AreGaps text passed → rest ≡ drop passed text → gap ≡ gap_length rest → 0 < gap → gap ≤ length rest → AreGaps text (passed + gap)
one_more text rest passed gap are back is_there some within_rest =
    let is : gap ≡ gap_length (drop passed text) = is_there ∙ ap gap_length back in
    let lengths : length rest ≡ length (drop passed text) = ap length back in
    let within : gap ≤ length (drop passed text) = omega arith in
    let before = are.within in
    let enough = are.enough in
    let left_is : length (drop passed text) ≡ length text - passed = length-drop passed text in
    let s = stepped are.left (drop passed text) (omega (arith, is)) (omega arith) in
    let last = s.1 in
    record {
      left = s.0;
      within = omega arith;
      enough = omega arith;
      same = ap (λ l. (passed + gap) + gaps_from s.0 l) (sym (drop-drop gap passed text))
          ∙ add_assoc passed gap (gaps_from s.0 (drop gap (drop passed text)))
          ∙ ap (λ g. passed + (g + gaps_from s.0 (drop g (drop passed text)))) is
          ∙ ap (λ n. passed + n) (sym s.2) ∙ are.same;
    }
