-- The text of two charts, by the differences that were found.
use Rattle.std.proofs.Common.{◌≡◌, ℕ, List, length, refl, ap, ◌∙◌, subst}
use Rattle.std.specs.List.{flat_map, list_any}
use Rattle.chart.specs.Charts.{LineView, chart_lines}
use Rattle.cmd_base.specs.Contents.{Named}
use Rattle.cmd_compare.specs.declared.comparison.LineComparison.{LineComparison}
use Rattle.cmd_compare.specs.Comparing.{AreCounterparts, AreCompared}
use Rattle.cmd_compare.specs.declared.comparison_text.Form.{Form}
use Rattle.cmd_compare.specs.declared.showing.Found.{Found}
use Rattle.cmd_compare.specs.Comparisons.{line_text, has_difference, found_in, IsCompared}

-- the text is that of the lines that were found
pub compared_so : (form : Form) (a b : Named) (others back o1 b1 : List ℕ) (here there : List LineView) (lines l1 : List LineComparison) (found : Found) → AreCounterparts a.0 b.0 others → AreCounterparts b.0 a.0 back → o1 ≡ others → b1 ≡ back → here ≡ a.1 → there ≡ b.1
    → AreCompared o1 b1 (chart_lines here) (chart_lines there) (length here) lines → l1 ≡ lines → found ≡ found_in (list_any has_difference l1) → IsCompared form a b (flat_map (line_text form a b) lines) found
compared_so form a b others back o1 b1 here there lines l1 found forth_is back_is oe be he te are le is = record {
  others = others;
  back = back;
  lines = lines;
  forth_is = forth_is;
  back_is = back_is;
  compared = subst (λ (o : List ℕ). AreCompared o back (chart_lines a.1) (chart_lines b.1) (length a.1) lines) oe
      (subst (λ (o : List ℕ). AreCompared o1 o (chart_lines a.1) (chart_lines b.1) (length a.1) lines) be
      (subst (λ (l : List LineView). AreCompared o1 b1 (chart_lines l) (chart_lines b.1) (length l) lines) he
      (subst (λ (l : List LineView). AreCompared o1 b1 (chart_lines here) (chart_lines l) (length here) lines) te are)));
  text_is = refl;
  found_is = is ∙ ap (λ (l : List LineComparison). found_in (list_any has_difference l)) le;
}

-- equal parts have the same text
pub text_so : (form : Form) (na nb : List (List ℕ)) (la lb la1 lb1 : List LineView) (ls ls1 : List LineComparison) → la1 ≡ la → lb1 ≡ lb → ls1 ≡ ls → flat_map (line_text form (na, la1) (nb, lb1)) ls1 ≡ flat_map (line_text form (na, la) (nb, lb)) ls
text_so form na nb la lb la1 lb1 ls ls1 ae be le =
    ap (λ (l : List LineView). flat_map (line_text form (na, l) (nb, lb1)) ls1) ae
    ∙ ap (λ (l : List LineView). flat_map (line_text form (na, la) (nb, l)) ls1) be
    ∙ ap (flat_map (line_text form (na, la) (nb, lb))) le
