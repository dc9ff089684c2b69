-- The races of a page, with one more at a time.
use Rattle.std.proofs.Common.{◌≡◌, ℕ, ◌+◌, List, [], ◌∷◌, ◌++◌, length, Some, sym, ap, ◌∙◌, subst}
use Rattle.std.specs.Prelude.{nat_lt, slice_get}
use Rattle.std.proofs.lemmas.Option.{same_Some}
use Rattle.std.proofs.lemmas.List.{length_push}
use Rattle.chart.proofs.Places.{each-push}
use Rattle.cmd_base.specs.Contents.{Named}
use Rattle.cmd_page.specs.declared.text.race.Race.{Race}
use Rattle.cmd_page.specs.declared.marks.pairs.RaceRange.{RaceRange}
use Rattle.cmd_page.specs.Races.{IsPageRace, AreFirst}

module _ (bytes : List ℕ) (named : Named) (explained : ℕ) (of : List RaceRange) where
  -- one more
  pub races_next : (n : ℕ) (races : List Race) (race : Race) (pair : RaceRange) → AreFirst bytes named explained of n races → slice_get of n ≡ Some pair
      → IsPageRace (nat_lt n explained) bytes named pair race → AreFirst bytes named explained of (n + 1) (races ++ race ∷ [])
  races_next n races race pair are there is = record {
    whole = length_push races race ∙ ap (λ k. k + 1) are.whole;
    each = each-push (λ place x. (p : RaceRange) → slice_get of place ≡ Some p → IsPageRace (nat_lt place explained) bytes named p x) races race are.each newest;
  }
    where
      newest : (p : RaceRange) → slice_get of (length races) ≡ Some p → IsPageRace (nat_lt (length races) explained) bytes named p race
      newest p e =
          let same : pair ≡ p = same_Some pair p (sym there ∙ ap (slice_get of) (sym are.whole) ∙ e) in
          subst (λ k. IsPageRace (nat_lt k explained) bytes named p race) (sym are.whole) (subst (λ x. IsPageRace (nat_lt n explained) bytes named x race) same is)
