-- The lines of a chart's races (this project's profile).
use Rattle.std.specs.Prelude.{ℕ, ◌≤◌, List, length, ◌++◌, codes, decimal, All}
use Rattle.std.specs.List.{flat_map}
use Rattle.chart.specs.Words.{Name, Text}
use Rattle.chart.specs.declared.instance.EventNo.{EventNo}
use Rattle.chart.specs.Reports.{ReportView}
use Rattle.texts.specs.Instances.{name_at}

-- race INSTANCE, and a space: the beginning of a race line of an instance with this name
unfoldable pub race_front : Name → Text
race_front name = codes "race " ++ (name ++ codes " ")

-- a space, RECEIVE, and the line feed: the end of a race line, after the earlier event
unfoldable pub race_end : ℕ → Text
race_end receive = codes " " ++ (decimal receive ++ codes "\n")

-- the number of an earlier event between both
unfoldable pub race_line : Text → Text → EventNo → Text
race_line front end earlier = front ++ (decimal earlier.index ++ end)

-- race INSTANCE EARLIER RECEIVE: an earlier event of an instance with this name, and the number of a receive of this
-- instance
unfoldable pub race_text : Name → ℕ → EventNo → Text
race_text name receive earlier = race_line (race_front name) (race_end receive) earlier

-- a line for each race of a receive
abbrev pub report_text : List Name → ReportView → Text
report_text names report =
    flat_map (race_text (name_at names report.receive.instance) report.receive.index) report.earlier

-- a line for each race of these receives
abbrev pub races_text : List Name → List ReportView → Text
races_text names reports = flat_map (report_text names) reports

-- the instances of these receives have names
abbrev pub AreNamed : List Name → List ReportView → Type 0
AreNamed names reports = All (λ report. report.receive.instance ≤ length names) reports
