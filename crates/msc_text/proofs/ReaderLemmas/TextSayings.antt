-- A chart's text as the list of what its lines mean.
use Rattle.std.proofs.Common.{◌≡◌, ℕ, Bool, true, false, ◌||◌, cond, eqb, List, [], ◌∷◌, ◌++◌, refl, sym, ap, ◌∙◌, append_assoc, append-nil, map}
use Rattle.std.specs.List.{flat_map}
use Rattle.chart.specs.Charts.{LineView}
use Rattle.chart.specs.Events.{region_of}
use Rattle.chart.specs.Keywords.{spelled}
use Rattle.chart.specs.declared.keyword.Keyword.TheVariants as keywords
use Rattle.chart.specs.declared.event.Event.{Event}
use Rattle.chart.specs.declared.event.Event.TheVariants as line_events
use Rattle.msc_text.specs.ChartText.{event_line, lone_line, chart_name, event_text, ending, beginning, event_lines_text, events_text, head_text, foot_text, line_text, begin_text, end_text, chart_text}
use Rattle.texts.specs.Instances.{name_at}
use Rattle.texts.specs.Lines.{ended}
use Rattle.msc_text.specs.declared.reader.state.Saying.{Saying}
use Rattle.msc_text.specs.declared.reader.state.Saying.TheVariants.{Begin, Head, Send, Receive, Open, Shut, Foot, End}
use Rattle.msc_text.proofs.ReaderLemmas.SayingsAgain.{saying_line}

-- the line that ends the coregion r, if the next event is in c
abbrev pub closing : ℕ → ℕ → List Saying
closing r c = cond (eqb r c || eqb r 0) [] (Shut ∷ [])

-- the line that begins the coregion c, if the event before is in r
abbrev pub opening : ℕ → ℕ → List Saying
opening r c = cond (eqb r c || eqb c 0) [] (Open ∷ [])

-- an event
abbrev pub event_saying : List (List ℕ) → Event → Saying
event_saying names (line_events.Send to name) = Send (name_at names to) name
event_saying names (line_events.Receive from name region) = Receive (name_at names from) name

-- an event after one in the coregion r
abbrev pub event_sayings : List (List ℕ) → ℕ → Event → List Saying
event_sayings names r m = closing r (region_of m) ++ (opening r (region_of m) ++ event_saying names m ∷ [])

-- events after one in the coregion r, with the last coregion still open
abbrev pub body : List (List ℕ) → ℕ → List Event → List Saying
body names r [] = []
body names r (m ∷ line) = event_sayings names r m ++ body names (region_of m) line

-- the coregion of the last event, or r
abbrev pub last_from : ℕ → List Event → ℕ
last_from r [] = r
last_from r (m ∷ line) = last_from (region_of m) line

-- an instance
abbrev pub part : List (List ℕ) → LineView → List Saying
part names line = Head (name_at names line.instance) ∷ (body names 0 line.events ++ (closing (last_from 0 line.events) 0 ++ Foot ∷ []))

-- a chart
abbrev pub chart_sayings : List (List ℕ) → List LineView → List Saying
chart_sayings names lines = Begin ∷ (flat_map (part names) lines ++ End ∷ [])

-- ---- these are the lines of the text

-- the text of lines with these meanings
abbrev pub spell : List Saying → List ℕ
spell sayings = flat_map ended (map saying_line sayings)

pub spell-append : (xs ys : List Saying) → spell (xs ++ ys) ≡ spell xs ++ spell ys
spell-append [] ys = refl
spell-append (x ∷ xs) ys = ap (λ l. ended (saying_line x) ++ l) (spell-append xs ys) ∙ sym (append_assoc (ended (saying_line x)) (spell xs) (spell ys))

spell-closing : (r c : ℕ) → spell (closing r c) ≡ ending r c
unfolding ending lone_line spelled
spell-closing r c = by (eqb r c || eqb r 0)
  where
    by : (b : Bool) → spell (cond b [] (Shut ∷ [])) ≡ cond b [] (lone_line keywords.EndConcurrent)
    by true = refl
    by false = refl

spell-opening : (r c : ℕ) → spell (opening r c) ≡ beginning r c
unfolding beginning lone_line spelled
spell-opening r c = by (eqb r c || eqb c 0)
  where
    by : (b : Bool) → spell (cond b [] (Open ∷ [])) ≡ cond b [] (lone_line keywords.Concurrent)
    by true = refl
    by false = refl

spell-event_saying : (names : List (List ℕ)) (m : Event) → spell (event_saying names m ∷ []) ≡ event_text names m
unfolding event_text event_line
spell-event_saying names (line_events.Send to name) = simp (append_assoc, append-nil)
spell-event_saying names (line_events.Receive from name region) = simp (append_assoc, append-nil)

spell-event_sayings : (names : List (List ℕ)) (r : ℕ) (m : Event) → spell (event_sayings names r m) ≡ event_lines_text names r m
unfolding event_lines_text
spell-event_sayings names r m =
    spell-append (closing r (region_of m)) (opening r (region_of m) ++ event_saying names m ∷ [])
    ∙ ap (λ l. l ++ spell (opening r (region_of m) ++ event_saying names m ∷ [])) (spell-closing r (region_of m))
    ∙ ap (λ l. ending r (region_of m) ++ l) (spell-append (opening r (region_of m)) (event_saying names m ∷ []) ∙ ap (λ l. l ++ spell (event_saying names m ∷ [])) (spell-opening r (region_of m)) ∙ ap (λ l. beginning r (region_of m) ++ l) (spell-event_saying names m))

spell-body : (names : List (List ℕ)) (r : ℕ) (line : List Event) → spell (body names r line) ++ ending (last_from r line) 0 ≡ events_text names r line
spell-body names r [] = refl
spell-body names r (m ∷ line) =
    ap (λ l. l ++ ending (last_from (region_of m) line) 0) (spell-append (event_sayings names r m) (body names (region_of m) line))
    ∙ append_assoc (spell (event_sayings names r m)) (spell (body names (region_of m) line)) (ending (last_from (region_of m) line) 0)
    ∙ ap (λ l. l ++ (spell (body names (region_of m) line) ++ ending (last_from (region_of m) line) 0)) (spell-event_sayings names r m)
    ∙ ap (λ l. event_lines_text names r m ++ l) (spell-body names (region_of m) line)

spell-head : (names : List (List ℕ)) (p : ℕ) → ended (saying_line (Head (name_at names p))) ≡ head_text names p
unfolding head_text
spell-head names p = simp append_assoc

spell-foot : spell (Foot ∷ []) ≡ foot_text
unfolding foot_text lone_line spelled
spell-foot = refl

spell-begin : ended (saying_line Begin) ≡ begin_text
unfolding begin_text spelled chart_name
spell-begin = refl

spell-end : spell (End ∷ []) ≡ end_text
unfolding end_text lone_line spelled
spell-end = refl

spell-part : (names : List (List ℕ)) (line : LineView) → spell (part names line) ≡ line_text names line
unfolding line_text
spell-part names line =
    let r = last_from 0 line.events in
    let rest : spell (closing r 0 ++ Foot ∷ []) ≡ ending r 0 ++ foot_text = spell-append (closing r 0) (Foot ∷ []) ∙ ap (λ l. l ++ spell (Foot ∷ [])) (spell-closing r 0) ∙ ap (λ l. ending r 0 ++ l) spell-foot in
    let events : spell (body names 0 line.events ++ (closing r 0 ++ Foot ∷ [])) ≡ events_text names 0 line.events ++ foot_text =
    spell-append (body names 0 line.events) (closing r 0 ++ Foot ∷ []) ∙ ap (λ l. spell (body names 0 line.events) ++ l) rest
    ∙ sym (append_assoc (spell (body names 0 line.events)) (ending r 0) foot_text) ∙ ap (λ l. l ++ foot_text) (spell-body names 0 line.events) in
    ap (λ l. l ++ spell (body names 0 line.events ++ (closing r 0 ++ Foot ∷ []))) (spell-head names line.instance) ∙ ap (λ l. head_text names line.instance ++ l) events

spell-parts : (names : List (List ℕ)) (lines : List LineView) → spell (flat_map (part names) lines) ≡ flat_map (line_text names) lines
spell-parts names [] = refl
spell-parts names (line ∷ lines) = spell-append (part names line) (flat_map (part names) lines) ∙ ap (λ l. l ++ spell (flat_map (part names) lines)) (spell-part names line) ∙ ap (λ l. line_text names line ++ l) (spell-parts names lines)

-- the text of a chart is the text of what its lines mean
pub chart_text-is : (names : List (List ℕ)) (lines : List LineView) → chart_text names lines ≡ spell (chart_sayings names lines)
unfolding chart_text
chart_text-is names lines =
    sym (ap (λ l. l ++ spell (flat_map (part names) lines ++ End ∷ [])) spell-begin
    ∙ ap (λ l. begin_text ++ l) (spell-append (flat_map (part names) lines) (End ∷ []) ∙ ap (λ l. l ++ spell (End ∷ [])) (spell-parts names lines) ∙ ap (λ l. flat_map (line_text names) lines ++ l) spell-end))
