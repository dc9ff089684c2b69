-- The steps of a cycle, by the names of the instances and the lines of the chart's text.
use Rattle.std.specs.Prelude.{◌≡◌, ℕ, ◌≤◌, List, ◌++◌, length, map, codes, decimal, Some, slice_get}
use Rattle.closure.specs.declared.chain.link.Link.{Link}
use Rattle.closure.specs.Chain.Rules.{rule_text}
use Rattle.chart.specs.Charts.{LineView, chart_lines}
use Rattle.chart.specs.declared.instance.EventNo.{EventNo}
use Rattle.closure.specs.Cycle.Cycles.{IsShortestCycle}
use Rattle.fault_places.specs.Standings.{event_from}
use Rattle.texts.specs.Instances.{name_at}
use Rattle.texts.specs.Lines.{lines_of}
use Rattle.fault_places.specs.declared.step.Step.{Step}
use Rattle.fault_places.specs.declared.step.NamedEvent.{NamedEvent}

-- an event, by the name of its instance
abbrev pub named_event : List (List ℕ) → EventNo → NamedEvent
named_event names event = record { name = name_at names event.instance; index = event.index }

-- a link, with the number of the line that has its earlier event
abbrev pub step_of : List ℕ → List (List ℕ) → Link → Step
step_of text names link = record {
  line = event_from link.earlier.instance link.earlier.index 0 0 1 (lines_of text);
  earlier = named_event names link.earlier;
  later = named_event names link.later;
  rule = link.rule;
}

-- the instances of both events have names
abbrev pub HasNames : List (List ℕ) → Link → Type 0
HasNames names link = (link.earlier.instance ≤ length names) × (link.later.instance ≤ length names)

abbrev pub HaveNames : List (List ℕ) → List Link → Type 0
HaveNames names links = (i : ℕ) (link : Link) → slice_get links i ≡ Some link → HasNames names link

-- the steps are those of a shortest cycle of the chart with this text, from its least event on
abbrev pub AreStepsOf : List ℕ → List (List ℕ) → List LineView → List Step → Type 0
AreStepsOf text names lines steps = (links : List Link) × IsShortestCycle (chart_lines lines) links
    × (steps ≡ map (step_of text names) links)

-- LINE: NAME NUMBER before NAME NUMBER: RULE
unfoldable pub step_text : Step → List ℕ
step_text step =
    codes "  = line "
    ++ (decimal step.line
    ++ (codes ": "
    ++ (step.earlier.name
    ++ (codes " "
    ++ (decimal step.earlier.index
    ++ (codes " before "
    ++ (step.later.name
    ++ (codes " " ++ (decimal step.later.index ++ (codes ": " ++ (rule_text step.rule ++ codes "\n")))))))))))
