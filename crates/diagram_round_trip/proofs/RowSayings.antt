-- The content of an export's rows.
use Rattle.std.proofs.Common.{◌≡◌, ℕ, zero, suc, ◌+◌, ◌<◌, ◌==◌, ◌%◌, ◌/◌, inl, inr, Bool, true, false, cond, List, [], ◌∷◌, ◌++◌, Option, None, Some, All, length, map, codes, decimal, nat_lt, lt-ltb, ne_eqb, eq-eqb, eqb-true, ◌&&◌, append-nil, refl, sym, ap, ◌∙◌, subst, append_assoc, arith}
use Rattle.std.specs.Prelude.{unwrap_or}
use Rattle.std.specs.Fmt.{digits, digits_onto, digit_glyph}
use Rattle.std.specs.List.{flat_map, list_any}
use Rattle.std.proofs.lemmas.Bool.{false≢true, cases_eq, and_parts}
use Rattle.chart.specs.declared.event.Event.{Event}
use Rattle.chart.specs.declared.event.Event.TheVariants.{Send, Receive}
use Rattle.chart.specs.declared.instance.EventNo.{EventNo}
use Rattle.chart.specs.declared.ranges.EventRange.{EventRange}
use Rattle.chart.specs.Charts.{Chart, LineView, at, chart_event, chart_lines, IsSendTo}
use Rattle.chart.specs.Events.{ith, name_of, send_event}
use Rattle.chart.specs.Ranges.{ranges_of}
use Rattle.chart.specs.Reports.{ReportView}
use Rattle.chart.proofs.NameBytes.{name_bytes}
use Rattle.chart.specs.Names.{IsName}
use Rattle.closure.specs.Faults.{place_of}
use Rattle.diagram_export.specs.Exports.{ExportView, event_of, end_of, note_of}
use Rattle.diagram_export.specs.ExportText.{counted, note_text, noted, row_text}
use Rattle.diagram_export.specs.Sayings.{level, alone as stands_alone, sent as exported_sent}
use Rattle.diagram_export.specs.Spelling.{indent, arrow_sign, lost_sign, label_start, label_end, quoted, arrow, whole_arrow, note_front, between, note_start, races, saying_text}
use Rattle.diagram_export.specs.Words.{spelled}
use Rattle.chart_layout.specs.Ends.{IsEnd, AreEnds, end_of as other_end}
use Rattle.chart_layout.specs.Layouts.{row_on, number_on}
use Rattle.chart_layout.specs.declared.row.Row.{Row}
use Rattle.chart_layout.specs.declared.row.Row.TheVariants as rows
use Rattle.diagrams.specs.Messages.Each.{Each}
use Rattle.texts.specs.Instances.{name_at}
use Rattle.texts.specs.Pieces.RaceWords.{amount, kind}
use Rattle.diagram_export.specs.Earlier.{sent_to, received_from, event_words, event_named, last_of, up_to, range_named, next_named, ranges_named}
use Rattle.diagram_tool.specs.declared.Tool.TheVariants.{Mscgen}
use Rattle.diagram_round_trip.specs.LevelCharts.{IsLevelChart}
use Rattle.diagram_round_trip.proofs.ChartFacts.{IsMessage, IsLost, on_line}
use Rattle.diagram_round_trip.proofs.DiagramLemmas.{IsExported}
use Rattle.diagram_round_trip.proofs.LineLemmas.{is_taken, StaysLost, event_on}
use Rattle.diagram_round_trip.proofs.Lists.{each_of, all_at}
use Rattle.diagram_round_trip.proofs.PlainBytes.{ArePlain, is_plain, plain_byte, plain_all, plain_both}
use Rattle.diagram_round_trip.proofs.ExportedRows.{ExportedRow, Sent, RaceNote, exported_text, all_text, name_is_plain}

-- Words of races are plain.

plain_digit : (d : ℕ) → d < 10 → is_plain (digit_glyph false d) ≡ true
plain_digit d lt =
    let small : nat_lt d 10 ≡ true = lt-ltb d 10 lt in
    rw (small, ne_eqb (48 + d) 34 (λ e. omega arith), ne_eqb (48 + d) 92 (λ e. omega arith), ne_eqb (48 + d) 10 (λ e. omega arith), ne_eqb (48 + d) 13 (λ e. omega arith)) refl

plain_onto : (k n : ℕ) (behind : List ℕ) → ArePlain behind → ArePlain (digits_onto k 10 false n behind)
plain_onto zero n behind plain = plain
plain_onto (suc k) n behind plain =
    let digit = plain_digit (n % 10) (omega arith) in
    let more : ArePlain (digit_glyph false (n % 10) ∷ behind) = rw (digit, plain) refl in
    go (n / 10 == 0) more (plain_onto k (n / 10) (digit_glyph false (n % 10) ∷ behind) more)
  where
    go : (last : Bool) → ArePlain (digit_glyph false (n % 10) ∷ behind) → ArePlain (digits_onto k 10 false (n / 10) (digit_glyph false (n % 10) ∷ behind))
        → ArePlain (cond last (digit_glyph false (n % 10) ∷ behind) (digits_onto k 10 false (n / 10) (digit_glyph false (n % 10) ∷ behind)))
    go true first rest = first
    go false first rest = rest

plain_number : (n : ℕ) → ArePlain (decimal n)
unfolding digits
plain_number n = plain_onto 64 n [] refl

plain_amount : (n : ℕ) → ArePlain (amount n)
unfolding amount kind
plain_amount n = plain_both (decimal n) (cond (n == 1) (codes " earlier event: ") (codes " earlier events: ")) (plain_number n) (go (n == 1))
  where
    go : (one : Bool) → ArePlain (cond one (codes " earlier event: ") (codes " earlier events: "))
    go true = refl
    go false = refl

pub plain_name : (name : List ℕ) → IsName name → ArePlain name
plain_name name is = plain_all _ plain_byte name (name_bytes name is).1

plain_at : (names : List (List ℕ)) (p : ℕ) → Each ArePlain names → ArePlain (name_at names p)
plain_at names zero all = refl
plain_at names (suc p) all = name_is_plain names p all

-- an event that is named by its message
abbrev Names : ExportView → Type 0
Names w = (e : EventNo) → ArePlain (event_named w e)

plain_event : (w : ExportView) → Each ArePlain w.names → ((p i : ℕ) (m : Event) → chart_event (chart_lines w.lines) (at p i) ≡ Some m → ArePlain (name_of m)) → Names w
unfolding sent_to received_from spelled
plain_event w all messages e = go (event_of w e) refl
  where
    go : (o : Option Event) → event_of w e ≡ o → ArePlain (event_words w o)
    go None is = refl
    go (Some (Send to name)) is = plain_both name (codes " to " ++ name_at w.names to) (messages e.instance e.index (Send to name) is) (plain_both (codes " to ") (name_at w.names to) refl (plain_at w.names to all))
    go (Some (Receive from name region)) is = plain_both name (codes " from " ++ name_at w.names from) (messages e.instance e.index (Receive from name region) is) (plain_both (codes " from ") (name_at w.names from) refl (plain_at w.names from all))

plain_range : (w : ExportView) → Names w → (r : EventRange) → ArePlain (range_named w r)
unfolding range_named up_to spelled
plain_range w named r = go (r.count == 1)
  where
    go : (one : Bool) → ArePlain (cond one (event_named w r.first) (event_named w r.first ++ (codes " up to " ++ event_named w (last_of r))))
    go true = named r.first
    go false = plain_both (event_named w r.first) (codes " up to " ++ event_named w (last_of r)) (named r.first) (plain_both (codes " up to ") (event_named w (last_of r)) refl (named (last_of r)))

plain_others : (w : ExportView) → Names w → (ranges : List EventRange) → ArePlain (flat_map (next_named w) ranges)
unfolding next_named spelled
plain_others w named [] = refl
plain_others w named (r ∷ ranges) = plain_both (codes ", " ++ range_named w r) (flat_map (next_named w) ranges) (plain_both (codes ", ") (range_named w r) refl (plain_range w named r)) (plain_others w named ranges)

plain_ranges : (w : ExportView) → Names w → (ranges : List EventRange) → ArePlain (ranges_named w ranges)
plain_ranges w named [] = refl
plain_ranges w named (r ∷ ranges) = plain_both (range_named w r) (flat_map (next_named w) ranges) (plain_range w named r) (plain_others w named ranges)

abbrev words_of : ExportView → ReportView → List ℕ
words_of w report = amount (counted report) ++ ranges_named w (ranges_of report.earlier)

plain_words : (w : ExportView) → Names w → (report : ReportView) → ArePlain (words_of w report)
plain_words w named report = plain_both (amount (counted report)) (ranges_named w (ranges_of report.earlier)) (plain_amount (counted report)) (plain_ranges w named (ranges_of report.earlier))

abbrev pub IsRaceNote : ExportedRow → Type 0
IsRaceNote (Sent is_lost from to name) = ⊥
IsRaceNote (RaceNote at words) = Unit {0}

abbrev pub IsSent : ExportedRow → Type 0
IsSent (Sent is_lost from to name) = Unit {0}
IsSent (RaceNote at words) = ⊥

-- the event of p's line with this number
abbrev pub event_at : Chart → ℕ → ℕ → Event
event_at c p i = unwrap_or (ith (c p) i) (send_event 0 [])

-- an event of a line, by its number
on_its_line : (c : Chart) (e : EventNo) (p : ℕ) (m : Event) → chart_event c (place_of e) ≡ Some m → cond (e.instance == p) (m ∷ []) [] ≡ map (event_at c p) (number_on p e)
on_its_line c e p m is = elim (cases_eq e.instance p) [
  | inl own ↦
      let there : ith (c p) e.index ≡ Some m = subst (λ q. ith (c q) e.index ≡ Some m) own is in
      rw (eq-eqb e.instance p own, there) refl
  | inr other ↦ rw (ne_eqb e.instance p other) refl
]

pub map_both : {A B : Type 0} (f : A → B) (xs ys : List A) → map f (xs ++ ys) ≡ map f xs ++ map f ys
map_both f [] ys = refl
map_both f (x ∷ xs) ys = ap (λ l. f x ∷ l) (map_both f xs ys)

-- the message of a row
pub record IsRowOf (row : Row) (q p : ℕ) : Type 0 where
  pub send : EventNo
  pub receive : EventNo
  pub is : row ≡ rows.Message send receive
  pub sender : send.instance ≡ q
  pub receiver : receive.instance ≡ p

joined_arrow : (a b x c s y l n e rest : List ℕ)
    → ((a ++ ((b ++ (x ++ c)) ++ (s ++ ((b ++ (y ++ c)) ++ (l ++ n))))) ++ e) ++ rest ≡ a ++ (b ++ (x ++ (c ++ (s ++ (b ++ (y ++ (c ++ (l ++ (n ++ (e ++ rest))))))))))
joined_arrow a b x c s y l n e rest = simp append_assoc

joined_note : (a f b x c n l m k r e rest : List ℕ)
    → ((a ++ (f ++ (((b ++ (x ++ c)) ++ n) ++ ((b ++ (x ++ c)) ++ l)))) ++ (m ++ (k ++ (r ++ e)))) ++ rest
    ≡ a ++ (f ++ (b ++ (x ++ (c ++ (n ++ (b ++ (x ++ (c ++ (l ++ ((m ++ (k ++ r)) ++ (e ++ rest)))))))))))
joined_note a f b x c n l m k r e rest = simp append_assoc

abbrev pub view : List (List ℕ) → List LineView → List Row → List ReportView → List (List (Option EventNo)) → List (Option ℕ) → List ℕ → ExportView
view names lines drawing reports ends notes starts = record {
  tool = Mscgen;
  names = names;
  lines = lines;
  reports = reports;
  rows = drawing;
  ends = ends;
  notes = notes;
  starts = starts;
}

module _ (names : List (List ℕ)) (lines : List LineView) (drawing : List Row) (reports : List ReportView) (ends : List (List (Option EventNo))) (notes : List (Option ℕ)) (starts : List ℕ) where
  abbrev pub v : ExportView
  v = view names lines drawing reports ends notes starts

  -- the line of a received message, and of a lost one
  arrow_exported : (is_lost : Bool) (from to : ℕ) (name rest : List ℕ)
      → whole_arrow v (cond is_lost (lost_sign Mscgen) (arrow_sign Mscgen)) (suc from) (suc to) name ++ rest ≡ exported_text names (Sent is_lost from to name) rest
  unfolding whole_arrow arrow indent quoted spelled lost_sign arrow_sign label_start label_end
  arrow_exported true from to name rest = joined_arrow (codes "  ") (codes "\"") (name_at names (suc from)) (codes "\"") (codes " -x ") (name_at names (suc to)) (codes " [label=\"") name (codes "\"];\n") rest
  arrow_exported false from to name rest = joined_arrow (codes "  ") (codes "\"") (name_at names (suc from)) (codes "\"") (codes " -> ") (name_at names (suc to)) (codes " [label=\"") name (codes "\"];\n") rest

  races_exported : (report : ReportView) (at : ℕ) (rest : List ℕ) → report.receive.instance ≡ suc at → races v report (counted report) ++ rest ≡ exported_text names (RaceNote at (words_of v report)) rest
  unfolding races note_start indent note_front between quoted spelled label_start label_end
  races_exported report p rest is =
      ap (λ q. (note_start v q ++ (codes "may come before " ++ (amount (counted report) ++ (ranges_named v (ranges_of report.earlier) ++ codes "\"];\n")))) ++ rest) is
      ∙ joined_note (codes "  ") [] (codes "\"") (name_at names (suc p)) (codes "\"") (codes " note ") (codes " [label=\"") (codes "may come before ") (amount (counted report)) (ranges_named v (ranges_of report.earlier)) (codes "\"];\n") rest

  -- the note of a row
  pub record NoteSays (o : Option ReportView) : Type 0 where
    pub race_notes : List ExportedRow
    pub text : (rest : List ℕ) → note_text v o ++ rest ≡ all_text names race_notes rest
    pub valid : Each (IsExported (length lines)) race_notes
    pub only : Each IsRaceNote race_notes
    pub quiet : o ≡ None → race_notes ≡ []

  note_says : Names v → (o : Option ReportView) → ((report : ReportView) → o ≡ Some report → (at : ℕ) × (report.receive.instance ≡ suc at) × (at < length lines)) → NoteSays o
  note_says named None where_it_is = record { race_notes = []; text = λ rest. refl; valid = tt; only = tt; quiet = λ none. refl }
  note_says named (Some report) where_it_is =
      let w = where_it_is report refl in
      record {
        race_notes = RaceNote w.0 (words_of v report) ∷ [];
        text = λ rest. races_exported report w.0 rest w.1;
        valid = ((w.2, plain_words v named report), tt);
        only = (tt, tt);
        quiet = λ none. absurd (cc none);
      }

  -- the content of a row: its message, and the races of its receive
  pub record RowSays (row : Row) : Type 0 where
    pub head : ExportedRow
    pub message : IsSent head
    pub race_notes : List ExportedRow
    pub text : (rest : List ℕ) → row_text v row ++ rest ≡ all_text names (head ∷ race_notes) rest
    pub valid : Each (IsExported (length lines)) (head ∷ race_notes)
    pub only : Each IsRaceNote race_notes
    pub events : (p : ℕ) → event_on p head ≡ map (event_at (chart_lines lines) p) (row_on p row)
    pub taken : (q p : ℕ) → is_taken q p head ≡ true → IsRowOf row q p
    pub stays : (later : List ExportedRow) → ((e : EventNo) (q : ℕ) → row ≡ rows.Event e → IsSendTo (chart_lines lines) q (place_of e) → list_any (is_taken e.instance q) later ≡ false) → StaysLost head later
    pub quiet : note_of v (noted row) ≡ None → race_notes ≡ []

  module _ (are_ends : AreEnds (chart_lines lines) ends) where
    no_end : (e : EventNo) → IsEnd (chart_lines lines) (place_of e) None → end_of v e ≡ None
    no_end e alone = go (other_end ends e) (are_ends e)
      where
        go : (o : Option EventNo) → IsEnd (chart_lines lines) (place_of e) o → o ≡ None
        go None its = refl
        go (Some x) (inl b) = absurd (alone.0 (place_of x) b)
        go (Some x) (inr b) = absurd (alone.1 (place_of x) b)

    module _ (is : IsLevelChart names lines drawing) where
      abbrev Noted : EventNo → Type 0
      Noted e = (report : ReportView) → note_of v e ≡ Some report → (at : ℕ) × (report.receive.instance ≡ suc at) × (at < length lines)

      -- each event has a plain name
      named : Names v
      named = plain_event v (each_of ArePlain names (λ i n e. plain_name n (all_at IsName names i n e is.named))) (λ p i m e.
          let on = on_line lines p i m e in
          plain_name (name_of m) (all_at (λ (x : Event). IsName (name_of x)) on.line.events on.number m on.event (all_at (λ (l : LineView). All (λ (x : Event). IsName (name_of x)) l.events) lines on.place on.line on.here is.messages)))

      message_spelled : (s r : EventNo) (m : IsMessage names lines drawing is s r) (note : NoteSays (note_of v r)) (rest : List ℕ)
          → row_text v (rows.Message s r) ++ rest ≡ exported_text names (Sent false m.from m.to m.name) (all_text names note.race_notes rest)
      unfolding row_text
      message_spelled s r m note rest =
          let n = note_text v (note_of v r) in
          ap (λ o. (saying_text v (level s r o) ++ n) ++ rest) m.sent
          ∙ ap (λ p. (whole_arrow v (arrow_sign Mscgen) p r.instance m.name ++ n) ++ rest) m.sender
          ∙ ap (λ p. (whole_arrow v (arrow_sign Mscgen) (suc m.from) p m.name ++ n) ++ rest) m.receiver
          ∙ append_assoc (whole_arrow v (arrow_sign Mscgen) (suc m.from) (suc m.to) m.name) n rest
          ∙ ap (λ l. whole_arrow v (arrow_sign Mscgen) (suc m.from) (suc m.to) m.name ++ l) (note.text rest)
          ∙ arrow_exported false m.from m.to m.name (all_text names note.race_notes rest)

      message_events : (s r : EventNo) (m : IsMessage names lines drawing is s r) (p : ℕ) → event_on p (Sent false m.from m.to m.name) ≡ map (event_at (chart_lines lines) p) (number_on p s ++ number_on p r)
      message_events s r m p =
          let c = chart_lines lines in
          ap (λ q. cond (q == p) (Send (suc m.to) m.name ∷ []) [] ++ cond (suc m.to == p) (Receive (suc m.from) m.name 0 ∷ []) []) (sym m.sender)
          ∙ ap (λ l. l ++ cond (suc m.to == p) (Receive (suc m.from) m.name 0 ∷ []) []) (on_its_line c s p (Send (suc m.to) m.name) m.sent)
          ∙ ap (λ q. map (event_at c p) (number_on p s) ++ cond (q == p) (Receive (suc m.from) m.name 0 ∷ []) []) (sym m.receiver)
          ∙ ap (λ l. map (event_at c p) (number_on p s) ++ l) (on_its_line c r p (Receive (suc m.from) m.name 0) m.taken)
          ∙ sym (map_both (event_at c p) (number_on p s) (number_on p r))

      pub message_says : (s r : EventNo) → IsMessage names lines drawing is s r → Noted r → RowSays (rows.Message s r)
      message_says s r m where_it_is =
          let note = note_says named (note_of v r) where_it_is in
          record {
            head = Sent false m.from m.to m.name;
            message = tt;
            race_notes = note.race_notes;
            text = λ rest. message_spelled s r m note rest;
            valid = ((m.within, m.among, m.apart, m.is_name, plain_name m.name m.is_name), note.valid);
            only = note.only;
            events = λ p. message_events s r m p;
            taken = λ q p t.
                let parts = and_parts (suc m.from == q && suc m.to == p) true t in
                let both = and_parts (suc m.from == q) (suc m.to == p) parts.0 in
                record { send = s; receive = r; is = refl; sender = m.sender ∙ eqb-true (suc m.from) q both.0; receiver = m.receiver ∙ eqb-true (suc m.to) p both.1 };
            stays = λ later f. tt;
            quiet = note.quiet;
          }

      lost_spelled : (e : EventNo) (m : IsLost names lines drawing is e) → IsEnd (chart_lines lines) (place_of e) None → (note : NoteSays (note_of v e)) (rest : List ℕ)
          → row_text v (rows.Event e) ++ rest ≡ exported_text names (Sent true m.from m.to m.name) (all_text names note.race_notes rest)
      unfolding row_text
      lost_spelled e m alone note rest =
          let n = note_text v (note_of v e) in
          ap (λ o. (saying_text v (stands_alone v e o) ++ n) ++ rest) m.sent
          ∙ ap (λ o. (saying_text v (exported_sent v e (suc m.to) m.name o) ++ n) ++ rest) (no_end e alone)
          ∙ ap (λ p. (whole_arrow v (lost_sign Mscgen) p (suc m.to) m.name ++ n) ++ rest) m.sender
          ∙ append_assoc (whole_arrow v (lost_sign Mscgen) (suc m.from) (suc m.to) m.name) n rest
          ∙ ap (λ l. whole_arrow v (lost_sign Mscgen) (suc m.from) (suc m.to) m.name ++ l) (note.text rest)
          ∙ arrow_exported true m.from m.to m.name (all_text names note.race_notes rest)

      lost_events : (e : EventNo) (m : IsLost names lines drawing is e) (p : ℕ) → event_on p (Sent true m.from m.to m.name) ≡ map (event_at (chart_lines lines) p) (number_on p e)
      lost_events e m p =
          ap (λ l. cond (suc m.from == p) (Send (suc m.to) m.name ∷ []) [] ++ l) (neither (suc m.to == p))
          ∙ append-nil (cond (suc m.from == p) (Send (suc m.to) m.name ∷ []) [])
          ∙ ap (λ q. cond (q == p) (Send (suc m.to) m.name ∷ []) []) (sym m.sender)
          ∙ on_its_line (chart_lines lines) e p (Send (suc m.to) m.name) m.sent
        where
          neither : (b : Bool) → cond {A = List Event} b [] [] ≡ []
          neither true = refl
          neither false = refl

      pub lost_says : (e : EventNo) → IsLost names lines drawing is e → IsEnd (chart_lines lines) (place_of e) None → Noted e → RowSays (rows.Event e)
      lost_says e m alone where_it_is =
          let note = note_says named (note_of v e) where_it_is in
          record {
            head = Sent true m.from m.to m.name;
            message = tt;
            race_notes = note.race_notes;
            text = λ rest. lost_spelled e m alone note rest;
            valid = ((m.within, m.among, m.apart, m.is_name, plain_name m.name m.is_name), note.valid);
            only = note.only;
            events = λ p. lost_events e m p;
            taken = λ q p t. absurd (false≢true (and_parts (suc m.from == q && suc m.to == p) false t).1);
            stays = λ later f. subst (λ q. list_any (is_taken q (suc m.to)) later ≡ false) m.sender (f e (suc m.to) refl (Send (suc m.to) m.name, m.sent, eq-eqb (suc m.to) (suc m.to) refl));
            quiet = note.quiet;
          }
