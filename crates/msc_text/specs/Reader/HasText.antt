-- The names and lines that have a text.
use Rattle.std.specs.Prelude.{◌≡◌, ℕ, ◌≤◌, List, length, All}
use Rattle.chart.specs.Charts.{LineView, IsChart}
use Rattle.chart.specs.Events.{partner_of, name_of}
use Rattle.chart.specs.Names.{IsName}
use Rattle.chart.specs.NameSets.{AreNames}
use Rattle.chart.specs.declared.event.Event.{Event}

-- the event has a line: its partner is an instance, numbered from 1, and its message has a name
abbrev pub CanBeSpelled : Event → Type 0
CanBeSpelled m = (1 ≤ partner_of m) × IsName (name_of m)

-- names and lines of a chart within the limits
pub record HasText (names : List (List ℕ)) (lines : List LineView) : Type 0 where
  pub names_are : AreNames names
  pub each : All IsName names
  pub same : length names ≡ length lines
  pub chart : IsChart lines
  pub events : All (λ l. All CanBeSpelled l.events) lines
