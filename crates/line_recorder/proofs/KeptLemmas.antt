-- Reports that are kept as two lists: one more report, and the sizes of what is kept.
use Rattle.std.specs.Prelude.{Result, Ok, Err, OnErr}
use Rattle.std.proofs.Common.{◌≡◌, ℕ, zero, suc, ◌+◌, ◌-◌, ◌<◌, ◌≤◌, List, [], ◌∷◌, ◌++◌, length, length-append, take, drop, map, get_or, All, AllPairs, refl, sym, ap, ap₂, ◌∙◌, subst, arith, append_assoc, drop-cons}
use Rattle.std.proofs.Math.Seq.{take-length, take-append_seam, take-append-add}
use Rattle.std.proofs.lemmas.List.{take-append-le, drop-append-le, take-map, drop-map, length-drop, length-map, get_or-map, get_or_append_left, get_or-append-add}
use Rattle.std.proofs.lemmas.List.Elements.{All-nil, All-cons, All-head, All-tail, All-drop, Contains-get_or}
use Rattle.chart.specs.declared.instance.EventNo.{EventNo}
use Rattle.chart.specs.declared.line.TheConstants.{MAX_EVENTS}
use Rattle.chart.specs.declared.ranges.EventRange.{EventRange}
use Rattle.chart.specs.Ranges.{events_of, events_in, IsRange}
use Rattle.chart.specs.Reports.{ReportView}
use Rattle.chart.proofs.RangeLists.{events_from-length, event_read}
use Rattle.chart.proofs.Tally.{ith_within}
use Rattle.line_recorder.specs.declared.kept_reports.KeptRange.{KeptRange}
use Rattle.line_recorder.specs.declared.kept_reports.KeptReceive.{KeptReceive}
use Rattle.line_recorder.specs.Kept.{range_of, report_of, reports_of, ranges_in, AreKept, IsOnLine, IsOfLine}
use Rattle.line_recorder.specs.Recorders.{RecorderView, IsReportAbove}

-- One more report.

no_ranges : (ranges : List EventRange) → length ranges ≡ 0 → ranges ≡ []
no_ranges [] none = refl
no_ranges (r ∷ ranges) none = absurd (omega (arith, none))

-- its ranges come after those of the other reports
pub reports_push : (p : ℕ) (receives : List KeptReceive) (ranges : List EventRange) (kept : KeptReceive) (more : List EventRange) → length ranges ≡ ranges_in receives
    → reports_of p (receives ++ kept ∷ []) (ranges ++ more) ≡ reports_of p receives ranges ++ report_of p kept more ∷ []
reports_push p [] ranges kept more long = ap (λ (rs : List EventRange). report_of p kept (rs ++ more) ∷ []) (no_ranges ranges long)
reports_push p (first ∷ receives) ranges kept more long =
    let within : first.ranges ≤ length ranges = omega (arith, long) in
    let left : length (drop first.ranges ranges) ≡ ranges_in receives = omega (arith, long, length-drop first.ranges ranges) in
    ap₂ (λ (own : List EventRange) (rest : List ReportView). record { receive = record { instance = p; index = first.index }; earlier = events_in own } ∷ rest) (take-append-le first.ranges ranges more within)
    (ap (reports_of p (receives ++ kept ∷ [])) (drop-append-le first.ranges ranges more within) ∙ reports_push p receives (drop first.ranges ranges) kept more left)

pub ranges_in-push : (receives : List KeptReceive) (kept : KeptReceive) → ranges_in (receives ++ kept ∷ []) ≡ ranges_in receives + kept.ranges
ranges_in-push [] kept = omega arith
ranges_in-push (first ∷ receives) kept = let rest = ranges_in-push receives kept in omega (arith, rest)

-- a report that has all of these ranges
pub report_is : (p : ℕ) (kept : KeptReceive) (ranges : List EventRange) (report : ReportView) → kept.ranges ≡ length ranges → kept.index ≡ report.receive.index → report.receive.instance ≡ p → events_in ranges ≡ report.earlier → report_of p kept ranges ≡ report
report_is p kept ranges report many place instance earlier =
    ap₂ (λ (e : EventNo) (es : List EventNo). record { receive = e; earlier = es }) (ap₂ (λ (q i : ℕ). record { instance = q; index = i }) (sym instance) place)
    (ap (λ n. events_in (take n ranges)) many ∙ ap events_in (take-length ranges) ∙ earlier)

-- the events of one more range; the ranges are read from the last one on
pub read_before : (p : ℕ) (kept : List KeptRange) (place : ℕ) (d : KeptRange) (range : EventRange) (old new : List EventNo) → place < length kept → range ≡ range_of p (get_or kept place d) → old ≡ events_in (map (range_of p) (drop (suc place) kept)) → new ≡ events_of range ++ old
    → new ≡ events_in (map (range_of p) (drop place kept))
read_before p kept place d range old new inside is before put =
    put ∙ ap₂ (λ (r : EventRange) (es : List EventNo). events_of r ++ es) is before ∙ ap (λ (ranges : List KeptRange). events_in (map (range_of p) ranges)) (sym (drop-cons kept place d inside))

-- without a report there is no receive
pub no_receives : (p : ℕ) (receives : List KeptReceive) (ranges : List EventRange) → reports_of p receives ranges ≡ [] → length receives ≡ 0
no_receives p [] ranges none = refl
no_receives p (kept ∷ receives) ranges none = omega (arith, ap length none)

-- a fact also holds if the answer is a refusal
pub refused : {X E : Type 0} (r : Result X E) (P : Type 0) → P → OnErr r P
refused (Ok x) P its = tt
refused (Err e) P its = its

-- the list has the old reports and then the first k new ones, and the others are yet to come
pub begun_with : {A : Type 0} (so_far rest old all : List A) (k : ℕ) → so_far ++ rest ≡ old ++ all → length so_far ≡ length old + k → so_far ≡ old ++ take k all
begun_with so_far rest old all k listed many = sym (take-append_seam so_far rest) ∙ ap (take (length so_far)) listed ∙ ap (λ n. take n (old ++ all)) many ∙ take-append-add old all k

-- one more report, made again from the first remaining ranges
pub listed_next : (p q : ℕ) (receives : List KeptReceive) (k : ℕ) (d : KeptReceive) (left own others : List KeptRange) (so_far all : List ReportView) (earlier : List EventNo) (report : ReportView) → q ≡ p → k < length receives → AreKept p (drop k receives) left
    → so_far ++ reports_of p (drop k receives) (map (range_of p) left) ≡ all → own ≡ take (get_or receives k d).ranges left → others ≡ drop (get_or receives k d).ranges left → earlier ≡ events_in (map (range_of q) own)
    → report ≡ record { receive = record { instance = q; index = (get_or receives k d).index }; earlier = earlier } → AreKept p (drop (k + 1) receives) others × ((so_far ++ report ∷ []) ++ reports_of p (drop (k + 1) receives) (map (range_of p) others) ≡ all)
listed_next p q receives k d left own others so_far all earlier report same inside are listed first behind events is =
    let x : KeptReceive = get_or receives k d in
    let rest : List KeptReceive = drop (suc k) receives in
    let one : suc k ≡ k + 1 = omega arith in
    let both : drop k receives ≡ x ∷ rest = drop-cons receives k d inside in
    let now : AreKept p (x ∷ rest) left = subst (λ (rs : List KeptReceive). AreKept p rs left) both are in
    let mapped : map (range_of p) others ≡ drop x.ranges (map (range_of p) left) = ap (map (range_of p)) behind ∙ sym (drop-map (range_of p) x.ranges left) in
    let taken : map (range_of p) own ≡ take x.ranges (map (range_of p) left) = ap (map (range_of p)) first ∙ sym (take-map (range_of p) x.ranges left) in
    let its : report ≡ report_of p x (map (range_of p) left) =
    is ∙ ap (λ (es : List EventNo). record { receive = record { instance = q; index = x.index }; earlier = es }) events
    ∙ ap (λ (i : ℕ). record { receive = record { instance = i; index = x.index }; earlier = events_in (map (range_of i) own) }) same
    ∙ ap (λ (rs : List EventRange). record { receive = record { instance = p; index = x.index }; earlier = events_in rs }) taken in (
      subst (λ i. AreKept p (drop i receives) others) one (record {
        as_many = omega (arith, ap length behind, length-drop x.ranges left, now.as_many);
        each = subst (All IsRange) (sym mapped) (All-drop IsRange x.ranges (map (range_of p) left) now.each);
      }),
      append_assoc so_far (report ∷ []) (reports_of p (drop (k + 1) receives) (map (range_of p) others))
          ∙ ap (λ (i : ℕ). so_far ++ report ∷ reports_of p (drop i receives) (map (range_of p) others)) (sym one)
          ∙ ap₂ (λ (r : ReportView) (rs : List EventRange). so_far ++ r ∷ reports_of p rest rs) its mapped
          ∙ ap (λ (rs : List KeptReceive). so_far ++ reports_of p rs (map (range_of p) left)) (sym both)
          ∙ listed,
    )

-- Sizes.

module _ (r : EventRange) (ranges : List EventRange) where
  -- what holds for all events holds for those of a range, and for the others
  in_range : (P : EventNo → Type 0) → All P (events_in (r ∷ ranges)) → (k : ℕ) → k < r.count → P (record { instance = r.first.instance; index = r.first.index + k })
  in_range P all k within =
      let e : EventNo = record { instance = r.first.instance; index = r.first.index + k } in
      let inside : k < length (events_of r) = omega (arith, within, events_from-length r.first.instance r.first.index r.count) in
      subst P (get_or_append_left (events_of r) (events_in ranges) e k inside ∙ sym (event_read r k e within refl)) (all k e (omega (arith, inside, length-append (events_of r) (events_in ranges))))

  behind : (P : EventNo → Type 0) → All P (events_in (r ∷ ranges)) → All P (events_in ranges)
  behind P all i d inside = subst P (get_or-append-add (events_of r) (events_in ranges) i d) (all (length (events_of r) + i) d (omega (arith, inside, length-append (events_of r) (events_in ranges))))

-- ranges whose events are on a line are on this line
are_on_line : (p : ℕ) (ranges : List EventRange) → All IsRange ranges → All (λ (e : EventNo). e.instance ≡ p) (events_in ranges) → All (λ (e : EventNo). e.index ≤ MAX_EVENTS) (events_in ranges) → All (IsOnLine p) ranges
are_on_line p [] each own within = All-nil (IsOnLine p)
are_on_line p (r ∷ ranges) each own within =
    let some = (All-head IsRange r ranges each).some in
    let first : r.first.index + 0 ≤ MAX_EVENTS = in_range r ranges (λ (e : EventNo). e.index ≤ MAX_EVENTS) within 0 some in
    let last : r.first.index + (r.count - 1) ≤ MAX_EVENTS = in_range r ranges (λ (e : EventNo). e.index ≤ MAX_EVENTS) within (r.count - 1) (omega (arith, some)) in
    All-cons (IsOnLine p) r ranges (record {
      instance = in_range r ranges (λ (e : EventNo). e.instance ≡ p) own 0 some;
      first = omega (arith, first);
      count = omega (arith, last);
    })
    (are_on_line p ranges (All-tail IsRange r ranges each) (behind r ranges (λ (e : EventNo). e.instance ≡ p) own) (behind r ranges (λ (e : EventNo). e.index ≤ MAX_EVENTS) within))

-- the ranges of a report of a line are on this line
pub on_line : (p : ℕ) (ranges : List EventRange) (report : ReportView) → All IsRange ranges → events_in ranges ≡ report.earlier → IsOfLine p report → All (IsOnLine p) ranges
on_line p ranges report each events its = are_on_line p ranges each (subst (All (λ (e : EventNo). e.instance ≡ p)) (sym events) its.own) (subst (All (λ (e : EventNo). e.index ≤ MAX_EVENTS)) (sym events) its.within)

-- there are no more ranges than events
pub few_ranges : (ranges : List EventRange) → All IsRange ranges → length ranges ≤ length (events_in ranges)
few_ranges [] each = omega arith
few_ranges (r ∷ ranges) each =
    let some = (All-head IsRange r ranges each).some in
    let rest = few_ranges ranges (All-tail IsRange r ranges each) in
    omega (arith, some, rest, events_from-length r.first.instance r.first.index r.count, length-append (events_of r) (events_in ranges))

-- rising numbers from 1 on are at least their places
rising_least : (xs : List ℕ) → AllPairs (λ i j. i < j) xs → All (λ i. 1 ≤ i) xs → (k d : ℕ) → k < length xs → k < get_or xs k d
rising_least xs rising begun zero d within = begun 0 d within
rising_least xs rising begun (suc k) d within =
    let before = rising_least xs rising begun k d (omega (arith, within)) in
    let up = rising k (suc k) d (omega arith) within in
    omega (arith, before, up)

-- there are at most n rising numbers from 1 to n
few_rising : (xs : List ℕ) (n : ℕ) → AllPairs (λ i j. i < j) xs → All (λ i. 1 ≤ i) xs → All (λ i. i ≤ n) xs → length xs ≤ n
few_rising xs n rising begun within = by (length xs) refl
  where
    by : (m : ℕ) → length xs ≡ m → length xs ≤ n
    by zero many = omega (arith, many)
    by (suc m) many =
        let inside : m < length xs = omega (arith, many) in
        omega (arith, many, rising_least xs rising begun m 0 inside, within m 0 inside)

-- the report of the next receive is one of its line
pub is_of_line : (r : RecorderView) (from region entry : ℕ) (report : ReportView) → IsReportAbove r from region entry report → length r.line.events < MAX_EVENTS → IsOfLine r.line.instance report
is_of_line r from region entry report made short = record {
  instance = ap (λ (e : EventNo). e.instance) made.receive;
  index = omega (arith, ap (λ (e : EventNo). e.index) made.receive, short);
  own = made.own;
  within = λ i d inside.
      let there = at i d.index (omega (arith, inside, many)) in
      omega (arith, there.1, short, get_or-map (λ (race : EventNo). race.index) report.earlier i d d.index inside);
  few =
      let all = few_rising indices (length r.line.events) made.races.rising (λ i d inside. (at i d inside).0) (λ i d inside. (at i d inside).1) in
      omega (arith, all, many, short);
}
  where
    indices : List ℕ
    indices = map (λ (race : EventNo). race.index) report.earlier

    many : length indices ≡ length report.earlier
    many = length-map report.earlier (λ (race : EventNo). race.index)

    at : (i d : ℕ) → i < length indices → (1 ≤ get_or indices i d) × (get_or indices i d ≤ length r.line.events)
    at i d inside =
        let found = ((made.races.exact (get_or indices i d)).0 (Contains-get_or indices i d inside)).1 in
        ith_within r.line.events (get_or indices i d) found.0 found.1
