-- The text of a chart is exact.
use Rattle.std.proofs.Common.{◌≡◌, ℕ, suc, ◌≤◌, ◌<◌, Bool, true, false, ◌||◌, eqb, cond, codes, List, [], ◌∷◌, ◌++◌, length, All, Some, refl, sym, ap, ◌∙◌, subst, append_assoc, slice_get, arith}
use Rattle.std.specs.List.{flat_map, AllByRecursion}
use Rattle.std.proofs.lemmas.Option.{slice_get_within}
use Rattle.std.proofs.lemmas.List.Elements.{recursion_from_All}
use Rattle.chart.specs.Charts.{LineView}
use Rattle.chart.specs.Events.{partner_of, region_of}
use Rattle.chart.specs.Keywords.{spelled}
use Rattle.chart.specs.Names.{IsName}
use Rattle.chart.specs.declared.event.Event.{Event}
use Rattle.chart.specs.declared.event.Event.TheVariants.{Send, Receive}
use Rattle.chart.specs.declared.keyword.Keyword.{Keyword}
use Rattle.chart.specs.declared.keyword.Keyword.TheVariants as keywords
use Rattle.msc_text.specs.Reader.HasText.{HasText, CanBeSpelled}
use Rattle.msc_text.specs.ChartText.{event_line, lone_line, event_text, ending, beginning, event_lines_text, events_text, head_text, foot_text, line_text, chart_name, begin_text, end_text, chart_text}
use Rattle.texts.specs.Instances.{name_at}
use Rattle.texts.proofs.Lookups.{name_at_all}
use Rattle.cmd_tidy.specs.Typing.{exact_text}
use Rattle.cmd_tidy.proofs.Firm.{IsFirmWord, firm_literal, firm_name, firm_keyword, firm_with}
use Rattle.cmd_tidy.proofs.ExactTexts.{IsExact, line_exact, both_exact, nothing_exact, each_exact}

-- a word with its semicolon
firm_end : (word : List ℕ) → IsFirmWord word → IsFirmWord (word ++ codes ";")
firm_end word h = firm_with word (codes ";") h (omega arith, tt)

lone_exact : (word : Keyword) → IsExact (lone_line word)
unfolding lone_line
lone_exact word = subst IsExact (append_assoc (spelled word) (codes ";") (codes "\n")) (line_exact (spelled word ++ codes ";") [] (firm_end (spelled word) (firm_keyword word), tt))

event_line_exact : (direction : Keyword) (message : List ℕ) (side : Keyword) (partner : List ℕ) → IsName message → IsName partner → IsExact (event_line direction message side partner)
unfolding event_line
event_line_exact direction message side partner m p =
    let end : List ℕ = partner ++ codes ";" in
    subst IsExact
    (append_assoc (spelled direction) (32 ∷ (message ++ 32 ∷ (spelled side ++ 32 ∷ end))) (codes "\n")
    ∙ ap (λ l. spelled direction ++ 32 ∷ l) (append_assoc message (32 ∷ (spelled side ++ 32 ∷ end)) (codes "\n")
    ∙ ap (λ l. message ++ 32 ∷ l) (append_assoc (spelled side) (32 ∷ end) (codes "\n")
    ∙ ap (λ l. spelled side ++ 32 ∷ l) (append_assoc partner (codes ";") (codes "\n")))))
    (line_exact (spelled direction) (message ∷ spelled side ∷ end ∷ [])
    (firm_keyword direction, (firm_name message m, (firm_keyword side, (firm_end partner (firm_name partner p), tt)))))

head_exact : (names : List (List ℕ)) (p : ℕ) → IsName (name_at names p) → IsExact (head_text names p)
unfolding head_text spelled
head_exact names p h =
    subst IsExact (ap (λ l. codes "instance" ++ 32 ∷ l) (append_assoc (name_at names p) (codes ";") (codes "\n")))
    (line_exact (codes "instance") ((name_at names p ++ codes ";") ∷ []) (firm_literal (codes "instance") (omega arith) refl, (firm_end (name_at names p) (firm_name (name_at names p) h), tt)))

begin_exact : IsExact begin_text
unfolding begin_text chart_name spelled
begin_exact = line_exact (codes "msc") (codes "run;" ∷ []) (firm_literal (codes "msc") (omega arith) refl, (firm_literal (codes "run;") (omega arith) refl, tt))

unless_exact : (b : Bool) (word : Keyword) → IsExact (cond b [] (lone_line word))
unless_exact true word = nothing_exact
unless_exact false word = lone_exact word

ending_exact : (r c : ℕ) → IsExact (ending r c)
unfolding ending
ending_exact r c = unless_exact (eqb r c || eqb r 0) keywords.EndConcurrent

beginning_exact : (r c : ℕ) → IsExact (beginning r c)
unfolding beginning
beginning_exact r c = unless_exact (eqb r c || eqb c 0) keywords.Concurrent

module _ (names : List (List ℕ)) (named : All IsName names) where
  event_exact : (m : Event) → partner_of m ≤ length names → CanBeSpelled m → IsExact (event_text names m)
  unfolding event_text
  event_exact (Send to name) within can = event_line_exact keywords.Out name keywords.To (name_at names to) can.1 (name_at_all IsName names to named can.0 within)
  event_exact (Receive from name region) within can = event_line_exact keywords.In name keywords.From (name_at names from) can.1 (name_at_all IsName names from named can.0 within)

  event_lines_exact : (r : ℕ) (m : Event) → partner_of m ≤ length names → CanBeSpelled m → IsExact (event_lines_text names r m)
  unfolding event_lines_text
  event_lines_exact r m within can =
      both_exact (ending r (region_of m)) (beginning r (region_of m) ++ event_text names m) (ending_exact r (region_of m))
      (both_exact (beginning r (region_of m)) (event_text names m) (beginning_exact r (region_of m)) (event_exact m within can))

  events_exact : (r : ℕ) (events : List Event) → AllByRecursion (λ m. partner_of m ≤ length names) events → AllByRecursion CanBeSpelled events → IsExact (events_text names r events)
  events_exact r [] within can = ending_exact r 0
  events_exact r (m ∷ events) within can =
      both_exact (event_lines_text names r m) (events_text names (region_of m) events) (event_lines_exact r m within.0 can.0) (events_exact (region_of m) events within.1 can.1)

  line_text_exact : (line : LineView) → (1 ≤ line.instance) × (line.instance ≤ length names) → All (λ m. partner_of m ≤ length names) line.events → All CanBeSpelled line.events → IsExact (line_text names line)
  unfolding line_text foot_text
  line_text_exact line at within can =
      both_exact (head_text names line.instance) (events_text names 0 line.events ++ lone_line keywords.EndInstance) (head_exact names line.instance (name_at_all IsName names line.instance named at.0 at.1))
      (both_exact (events_text names 0 line.events) (lone_line keywords.EndInstance) (events_exact 0 line.events (recursion_from_All _ line.events within) (recursion_from_All _ line.events can)) (lone_exact keywords.EndInstance))

  lines_exact : (lines : List LineView) → AllByRecursion (λ l. (1 ≤ l.instance) × (l.instance ≤ length names)) lines → AllByRecursion (λ l. All (λ m. partner_of m ≤ length names) l.events) lines
      → AllByRecursion (λ l. All CanBeSpelled l.events) lines → AllByRecursion (λ l. IsExact (line_text names l)) lines
  lines_exact [] at within can = tt
  lines_exact (line ∷ lines) at within can = (line_text_exact line at.0 within.0 can.0, lines_exact lines at.1 within.1 can.1)

each_index : {X : Type 0} (P : X → Type 0) (xs : List X) → ((i : ℕ) (x : X) → slice_get xs i ≡ Some x → P x) → AllByRecursion P xs
each_index P [] f = tt
each_index P (x ∷ xs) f = (f 0 x refl, each_index P xs (λ i y e. f (suc i) y e))

pub chart_exact : (names : List (List ℕ)) (lines : List LineView) → HasText names lines → exact_text (chart_text names lines) ≡ chart_text names lines
unfolding chart_text end_text
chart_exact names lines h =
    let same : length names ≡ length lines = h.same in
    let at : (i : ℕ) (l : LineView) → slice_get lines i ≡ Some l → (1 ≤ l.instance) × (l.instance ≤ length names) = λ i l e.
    (let numbered : l.instance ≡ suc i = h.chart.numbered i l e in
    let below : i < length lines = slice_get_within lines i l e in
    (omega arith, omega arith)) in
    let within = subst (λ n. All (λ (l : LineView). All (λ m. partner_of m ≤ n) l.events) lines) (sym same) h.chart.partners in
    let parts = lines_exact names h.each lines (each_index _ lines at) (recursion_from_All _ lines within) (recursion_from_All _ lines h.events) in
    (both_exact begin_text (flat_map (line_text names) lines ++ lone_line keywords.EndMsc) begin_exact
    (both_exact (flat_map (line_text names) lines) (lone_line keywords.EndMsc) (each_exact (line_text names) lines parts) (lone_exact keywords.EndMsc))).same
