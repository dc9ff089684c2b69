-- The line that is found for an event is the line that has it: a law about lists alone.
use Rattle.std.proofs.Common.{◌≡◌, ℕ, zero, suc, ◌+◌, ◌<◌, ◌≤◌, List, [], ◌∷◌, ◌++◌, length, get_or, take, drop, Some, refl, sym, ap, ◌∙◌, subst, inl, inr, arith, append_assoc, append-nil, take-append-drop, drop-cons, add-one}
use Rattle.std.specs.Prelude.{slice_get}
use Rattle.std.specs.List.{flat_map, AllByRecursion}
use Rattle.std.proofs.Math.Seq.{take-append_seam}
use Rattle.std.proofs.lemmas.Bool.{cases_lt}
use Rattle.std.proofs.lemmas.Grind.{flat_map-append}
use Rattle.std.proofs.lemmas.List.Elements.{recursion_from_All}
use Rattle.std.proofs.lemmas.Option.{slice_get-get_or, slice_get_within, get_or_from_slice_get}
use Rattle.chart.specs.Charts.{LineView, Place, at, chart_event, chart_lines}
use Rattle.chart.specs.Events.{ith, partner_of, region_of}
use Rattle.chart.specs.Names.{IsName}
use Rattle.chart.specs.declared.event.Event.{Event}
use Rattle.closure.proofs.ReadLemmas.{empty_line}
use Rattle.fault_places.proofs.LineBlocks.{Block, block_then, begin_block, lines_block, head_block, before_block, event_found, line_of, no_head, event_is, line_writes, line_lacks, Spelled, SpelledLine}
use Rattle.fault_places.specs.EventLines.{before_ith, events_before, text_before, IsLineOf}
use Rattle.fault_places.specs.Standings.{event_from}
use Rattle.msc_text.specs.ChartText.{event_text, event_lines_text, events_text, head_text, foot_text, line_text, begin_text, end_text, chart_text}
use Rattle.msc_text.specs.Reader.HasText.{HasText}
use Rattle.texts.proofs.Lookups.{name_at_all}
use Rattle.texts.proofs.Parts.{lines_again, end_again, lines_append, end_ended}
use Rattle.texts.specs.Instances.{name_at}
use Rattle.texts.specs.Lines.{Lacks, lines_of, ended}

-- ---- lines and events that have a text

spelled_lines : (names : List (List ℕ)) (lines : List LineView) → HasText names lines → AllByRecursion (SpelledLine names) lines
spelled_lines names lines h = recursion_from_All (SpelledLine names) lines (λ i d below. spelled_line i d below)
  where
    spelled_line : (i : ℕ) (d : LineView) → i < length lines → SpelledLine names (get_or lines i d)
    spelled_line i d below =
        let line : LineView = get_or lines i d in
        let number : line.instance ≡ suc i = h.chart.numbered i line (slice_get-get_or lines i d below) in
        let same : length names ≡ length lines = h.same in
        let can = h.events i d below in
        let within = h.chart.partners i d below in
        record {
          own = name_at_all IsName names line.instance h.each (omega arith) (omega arith);
          events = recursion_from_All (Spelled names) line.events (λ k m inside. (let two = can k m inside in let last = within k m inside in record {
            partner = name_at_all IsName names (partner_of (get_or line.events k m)) h.each two.0 (omega arith);
            message = two.1;
          }));
        }

first_ones : {X : Type 0} (P : X → Type 0) (n : ℕ) (xs : List X) → AllByRecursion P xs → AllByRecursion P (take n xs)
first_ones P zero xs h = tt
first_ones P (suc n) [] h = tt
first_ones P (suc n) (x ∷ xs) h = (h.0, first_ones P n xs h.1)

at_place : {X : Type 0} (P : X → Type 0) (xs : List X) (i : ℕ) (d : X) → i < length xs → AllByRecursion P xs → P (get_or xs i d)
at_place P [] i d below h = absurd (omega arith)
at_place P (x ∷ xs) zero d below h = h.0
at_place P (x ∷ xs) (suc i) d below h = at_place P xs i d (omega arith) h.1

-- ---- how the text splits

split_at : {X : Type 0} (xs : List X) (p : ℕ) (d : X) → p < length xs → xs ≡ take p xs ++ (get_or xs p d ∷ drop (p + 1) xs)
split_at xs p d below =
    let back : drop p xs ≡ get_or xs p d ∷ drop (p + 1) xs = rw (add-one, drop-cons xs p d) refl in
    sym (take-append-drop p xs) ∙ ap (λ l. take p xs ++ l) back

events_split : (names : List (List ℕ)) (r : ℕ) (front back : List Event) (m : Event) → events_text names r (front ++ m ∷ back) ≡ events_before names r front m ++ (event_text names m ++ events_text names (region_of m) back)
unfolding event_lines_text
events_split names r [] back m = simp append_assoc
events_split names r (e ∷ front) back m = ap (λ l. event_lines_text names r e ++ l) (events_split names (region_of e) front back m) ∙ sym (append_assoc (event_lines_text names r e) (events_before names (region_of e) front m) _)

regroup : (b a h f e c g d z rest : List ℕ) → (b ++ ((a ++ ((h ++ ((f ++ (e ++ c)) ++ g)) ++ d)) ++ z)) ++ rest ≡ (b ++ (a ++ (h ++ f))) ++ (e ++ (c ++ (g ++ (d ++ (z ++ rest)))))
regroup b a h f e c g d z rest = simp append_assoc

chart_split : (names : List (List ℕ)) (lines above below : List LineView) (line : LineView) (front back : List Event) (m : Event) (rest : List ℕ) → lines ≡ above ++ (line ∷ below) → line.events ≡ front ++ m ∷ back
    → chart_text names lines ++ rest ≡ (begin_text ++ (flat_map (line_text names) above ++ (head_text names line.instance ++ events_before names 0 front m)))
    ++ (event_text names m ++ (events_text names (region_of m) back ++ (foot_text ++ (flat_map (line_text names) below ++ (end_text ++ rest)))))
unfolding chart_text line_text
chart_split names lines above below line front back m rest are events =
    let all : flat_map (line_text names) lines ≡ flat_map (line_text names) above ++ (line_text names line ++ flat_map (line_text names) below) =
    ap (flat_map (line_text names)) are ∙ flat_map-append (line_text names) above (line ∷ below) in
    let own : events_text names 0 line.events ≡ events_before names 0 front m ++ (event_text names m ++ events_text names (region_of m) back) = ap (events_text names 0) events ∙ events_split names 0 front back m in
    ap (λ l. (begin_text ++ (l ++ end_text)) ++ rest) all
    ∙ ap (λ l. (begin_text ++ ((flat_map (line_text names) above ++ ((head_text names line.instance ++ (l ++ foot_text)) ++ flat_map (line_text names) below)) ++ end_text)) ++ rest) own
    ∙ regroup begin_text (flat_map (line_text names) above) (head_text names line.instance) (events_before names 0 front m) (event_text names m) (events_text names (region_of m) back) foot_text (flat_map (line_text names) below) end_text rest

-- ---- the line that is found

seam : {X : Type 0} (xs : List X) (x : X) (ys : List X) → slice_get (xs ++ x ∷ ys) (length xs) ≡ Some x
seam [] x ys = refl
seam (y ∷ xs) x ys = seam xs x ys

lines_there : (xs : List (List ℕ)) (line rest : List ℕ) → AllByRecursion (Lacks 10) xs → Lacks 10 line → lines_of (flat_map ended xs ++ (ended line ++ rest)) ≡ xs ++ (line ∷ lines_of rest)
lines_there xs line rest h l =
    let one : lines_of (ended line) ≡ line ∷ [] = ap lines_of (sym (append-nil (ended line))) ∙ lines_again (line ∷ []) (l, tt) in
    lines_append (flat_map ended xs) (ended line ++ rest) (end_again xs h)
    ∙ ap (λ l. l ++ lines_of (ended line ++ rest)) (lines_again xs h)
    ∙ ap (λ l. xs ++ l) (lines_append (ended line) rest (end_ended line) ∙ ap (λ l. l ++ lines_of rest) one)

-- a block that leads to the event, and its line
found : (names : List (List ℕ)) (lines : List LineView) (e : Place) (m : Event) (k : ℕ) (text rest : List ℕ) → Spelled names m → e.index ≡ k + 1 → Block e.instance e.index 0 0 (text_before names lines e m) e.instance k
    → text ≡ text_before names lines e m ++ (event_text names m ++ rest) → IsLineOf names lines e m text (event_from e.instance e.index 0 0 1 (lines_of text))
found names lines e m k text rest s last b splits =
    let line : List ℕ = line_of names m in
    let i : ℕ = e.instance in
    let x : ℕ = e.index in
    let are : lines_of text ≡ b.lines ++ (line ∷ lines_of rest) =
    ap lines_of (splits ∙ ap (λ t. t ++ (event_text names m ++ rest)) b.is ∙ ap (λ t. flat_map ended b.lines ++ (t ++ rest)) (sym (line_writes names m))) ∙ lines_there b.lines line rest b.lack (line_lacks names m s) in
    let number : event_from i x 0 0 1 (lines_of text) ≡ suc (length b.lines) =
    ap (event_from i x 0 0 1) are ∙ b.skips 1 (line ∷ lines_of rest) ∙ event_found i x k (1 + length b.lines) line (lines_of rest) (no_head names m) (event_is names m) (sym last) ∙ omega arith in
    let before : lines_of (text_before names lines e m) ≡ b.lines = ap lines_of b.is ∙ lines_again b.lines b.lack in
    record {
      line = line;
      writes = line_writes names m;
      there = ap (ith (lines_of text)) number ∙ ap (λ l. slice_get l (length b.lines)) are ∙ seam b.lines line (lines_of rest);
      above = ap (before_ith (lines_of text)) number ∙ ap (take (length b.lines)) are ∙ take-append_seam b.lines (line ∷ lines_of rest) ∙ sym before;
      rest = rest;
      splits = splits;
    }

at_event : (names : List (List ℕ)) (lines : List LineView) (behind : List ℕ) (p k : ℕ) (m : Event) → HasText names lines → p < length lines → slice_get (chart_lines lines (suc p)) k ≡ Some m
    → IsLineOf names lines (at (suc p) (suc k)) m (chart_text names lines ++ behind) (event_from (suc p) (suc k) 0 0 1 (lines_of (chart_text names lines ++ behind)))
at_event names lines behind p k m h below there =
    let d : LineView = record { instance = suc p; events = [] } in
    let line : LineView = get_or lines p d in
    let above : List LineView = take p lines in
    let front : List Event = take k line.events in
    let all = spelled_lines names lines h in
    let own = at_place (SpelledLine names) lines p d below all in
    let number : line.instance ≡ suc p = h.chart.numbered p line (slice_get-get_or lines p d below) in
    let inside : k < length line.events = slice_get_within line.events k m there in
    let here : get_or line.events k m ≡ m = get_or_from_slice_get line.events k m m there in
    let spelled = subst (Spelled names) here (at_place (Spelled names) line.events k m inside own.events) in
    let named : IsName (name_at names (suc p)) = subst (λ n. IsName (name_at names n)) number own.own in
    let long : length above ≡ p = length_take lines p (omega arith) in
    let many : length front ≡ k = length_take line.events k (omega arith) in
    let ahead = lines_block names (suc p) (suc k) 0 0 p above (first_ones (SpelledLine names) p lines all) (omega arith) (omega arith) in
    let last = before_block names (suc p) (suc k) 0 k 0 front m (first_ones (Spelled names) k line.events own.events) (omega arith) (omega arith) in
    let heads : p + 1 ≡ suc p = omega arith in
    let head = subst (λ n. Block (suc p) (suc k) p ahead.0 (head_text names (suc p)) n 0) heads (head_block names (suc p) (suc k) p ahead.0 (suc p) named) in
    let block = block_then (begin_block (suc p) (suc k) 0 0) (block_then ahead.1 (block_then head last)) in
    let splits = chart_split names lines above (drop (p + 1) lines) line front (drop (k + 1) line.events) m behind (split_at lines p d below) (split_at line.events k m inside ∙ ap (λ y. take k line.events ++ (y ∷ drop (k + 1) line.events)) here) in
    let rest : List ℕ = events_text names (region_of m) (drop (k + 1) line.events) ++ (foot_text ++ (flat_map (line_text names) (drop (p + 1) lines) ++ (end_text ++ behind))) in
    found names lines (at (suc p) (suc k)) m k (chart_text names lines ++ behind) rest spelled (omega arith) block
    (splits ∙ ap (λ n. (begin_text ++ (flat_map (line_text names) above ++ (head_text names n ++ events_before names 0 front m))) ++ (event_text names m ++ rest)) number)
  where
    length_take : {X : Type 0} (xs : List X) (n : ℕ) → n ≤ length xs → length (take n xs) ≡ n
    length_take [] zero low = refl
    length_take [] (suc n) low = absurd (omega arith)
    length_take (x ∷ xs) zero low = refl
    length_take (x ∷ xs) (suc n) low = ap suc (length_take xs n (omega arith))

pub line_law : (names : List (List ℕ)) (lines : List LineView) (behind : List ℕ) (e : Place) (m : Event) → HasText names lines → chart_event (chart_lines lines) e ≡ Some m
    → IsLineOf names lines e m (chart_text names lines ++ behind) (event_from e.instance e.index 0 0 1 (lines_of (chart_text names lines ++ behind)))
line_law names lines behind e m h there = by e.instance e.index there
  where
    by : (p k : ℕ) → ith (chart_lines lines p) k ≡ Some m → IsLineOf names lines (at p k) m (chart_text names lines ++ behind) (event_from p k 0 0 1 (lines_of (chart_text names lines ++ behind)))
    by zero zero none = absurd cc
    by zero (suc k) none = absurd cc
    by (suc p) zero none = absurd cc
    by (suc p) (suc k) here = elim (cases_lt p (length lines)) [
      | inl below ↦ at_event names lines behind p k m h below here
      | inr past ↦ absurd (let none = ap (λ l. slice_get l k) (empty_line lines p past) in let found : slice_get {X = Event} [] k ≡ Some m = sym none ∙ here in cc)
    ]
