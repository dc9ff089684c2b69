-- The table of the lines that take messages, line by line.
use Rattle.std.proofs.Common.{◌≡◌, ℕ, ◌+◌, ◌<◌, ◌≤◌, List, Option, None, Some, length, get_or, refl, sym, ap, ◌∙◌}
use Rattle.std.specs.Prelude.{slice_get}
use Rattle.std.proofs.lemmas.Option.{slice_get_read, slice_get_within}
use Rattle.log_chart.specs.declared.matching.LogLine.{LogLine}
use Rattle.race_verdicts.specs.Luck.LineTables.{Takes, AreTakers}
use Rattle.race_verdicts.specs.Luck.Tables.{IsFirst, IsNoted}
use Rattle.race_verdicts.proofs.LuckLemmas.TableLemmas.{some_same, first_noted, first_pass, first_all}

-- one line more
module _ (lines : List LogLine) (i : ℕ) (x : LogLine) (within : i < length lines) (is : x ≡ get_or lines i x) where
  pub there : slice_get lines i ≡ Some x
  there = slice_get_read lines (length lines) i x refl within is

  send_of : (s : ℕ) → Takes lines s i → x.send ≡ Some s
  send_of s t = ap (λ (y : LogLine). y.send) (some_same (sym there ∙ t.is)) ∙ t.send

  pub takers_some : (s : ℕ) (old new : List (Option ℕ)) → x.send ≡ Some s → length old ≡ length lines → IsNoted old new s i
      → ((k : ℕ) → k < length lines → IsFirst (Takes lines k) i (get_or old k None)) → (k : ℕ) → k < length lines → IsFirst (Takes lines k) (i + 1) (get_or new k None)
  takers_some s old new sent whole noted = first_noted (Takes lines) (length lines) i s old new whole noted (λ k t. some_same (sym (send_of k t) ∙ sent)) (record { line = x; is = there; send = sent })

  pub takers_none : (old : List (Option ℕ)) → ((s : ℕ) → x.send ≡ Some s → ⊥) → ((k : ℕ) → k < length lines → IsFirst (Takes lines k) i (get_or old k None)) → (k : ℕ) → k < length lines
      → IsFirst (Takes lines k) (i + 1) (get_or old k None)
  takers_none old none are k k_in = first_pass (Takes lines k) i (get_or old k None) (λ t. none k (send_of k t)) (are k k_in)

-- all lines
module _ (lines : List LogLine) (i : ℕ) (past : length lines ≤ i) (table : List (Option ℕ)) (whole : length table ≡ length lines) where
  pub takers_all : ((k : ℕ) → k < length lines → IsFirst (Takes lines k) i (get_or table k None)) → AreTakers lines table
  takers_all are = record {
    whole = whole;
    each = λ k k_in. first_all (Takes lines k) (length lines) i past (λ j t. slice_get_within lines j t.line t.is) (get_or table k None) (are k k_in);
  }
