-- Lines of a log by their numbers.
use Rattle.std.proofs.Common.{◌≡◌, ℕ, ◌<◌, List, Some, length, sym, ap, ◌∙◌}
use Rattle.std.specs.Prelude.{slice_get, Contains}
use Rattle.std.proofs.lemmas.Option.{slice_get-get_or, slice_get_within, get_or_from_slice_get}
use Rattle.log_chart.specs.declared.matching.LogLine.{LogLine}
use Rattle.race_verdicts.specs.Luck.Recorded.{IsLog}
use Rattle.race_verdicts.proofs.LuckLemmas.TableLemmas.{some_same}

-- an element of a list is at its index
pub get_contained : {A : Type 0} (xs : List A) (x : A) → (has : Contains xs x) → slice_get xs has.0 ≡ Some x
get_contained xs x has = slice_get-get_or xs has.0 x has.1 ∙ ap (λ y. Some y) has.2

pub contained_get : {A : Type 0} (xs : List A) (i : ℕ) (x : A) → slice_get xs i ≡ Some x → Contains xs x
contained_get xs i x is = (i, slice_get_within xs i x is, get_or_from_slice_get xs i x x is)

module _ (lines : List LogLine) (log : IsLog lines) where
  -- a line is at the index of its number
  pub line_at : (x : LogLine) → Contains lines x → slice_get lines x.number ≡ Some x
  line_at x has =
      let is = get_contained lines x has in
      ap (slice_get lines) (log.numbered has.0 x is) ∙ is

  pub number_within : (x : LogLine) → Contains lines x → x.number < length lines
  number_within x has = slice_get_within lines x.number x (line_at x has)

  -- lines with the same number are equal
  pub one_line : (x y : LogLine) → Contains lines x → Contains lines y → x.number ≡ y.number → x ≡ y
  one_line x y has_x has_y same = some_same (sym (line_at x has_x) ∙ ap (slice_get lines) same ∙ line_at y has_y)

  -- a line that is taken is one of them
  pub taken_within : (x : LogLine) (s : ℕ) → Contains lines x → x.send ≡ Some s → s < length lines
  taken_within x s has is = let send = log.sends x s has is in slice_get_within lines s send.line send.is
