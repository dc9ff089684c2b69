-- The first ranges of races that are shown, when more are; and how many race pairs go, stay and come.
use Rattle.std.proofs.Common.{◌≡◌, ℕ, zero, suc, ◌+◌, ◌-◌, ◌<◌, ◌≤◌, Bool, true, false, not, List, [], ◌∷◌, ◌++◌, length, take, map, get_or, refl, sym, ap, ◌∙◌, subst, arith, append_assoc, append-nil}
use Rattle.std.specs.Prelude.{All, filter}
use Rattle.std.specs.List.{flat_map}
use Rattle.std.proofs.lemmas.List.{length-append, length-map, length-take, take_all, take_more, take-append-le, map_more, flat_map_more}
use Rattle.std.proofs.lemmas.List.Concat.{flat_map-cons}
use Rattle.std.proofs.lemmas.List.Elements.{All-nil, All-cons, All-head, All-tail, All-append}
use Rattle.std.proofs.lemmas.List.Filters.{length-filter_both}
use Rattle.chart.specs.declared.instance.EventNo.{EventNo}
use Rattle.chart.specs.declared.line.TheConstants.{MAX_EVENTS}
use Rattle.chart.specs.declared.ranges.EventRange.{EventRange}
use Rattle.chart.specs.Ranges.{IsRange}
use Rattle.chart.specs.Reports.{ReportView}
use Rattle.repair.specs.Messages.{NewMessage}
use Rattle.repair.specs.declared.pairs.RacePair.{RacePair}
use Rattle.repair.specs.Repairs.{AreFew, pairs_of_report, pairs_of}
use Rattle.cmd_mend.specs.declared.brief.Shown.{Shown}
use Rattle.cmd_mend.specs.Brief.{HasFirst, Shows}
use Rattle.cmd_mend.specs.Changes.{is_gone, gone_of, all_gone, is_kept, kept_of}

-- the first of two lists
cut : (n : ℕ) (xs ys : List Shown) → take n (xs ++ ys) ≡ take n xs ++ take (n - length (take n xs)) ys
cut zero xs ys = refl
cut (suc n) [] ys = let same : suc n ≡ suc n - 0 = omega arith in ap (λ k. take k ys) same
cut (suc n) (x ∷ xs) ys =
    let same : n - length (take n xs) ≡ suc n - length (x ∷ take n xs) = omega arith in
    ap (λ l. x ∷ l) (cut n xs ys ∙ ap (λ k. take n xs ++ take k ys) same)

abbrev ranged : Shown → Type 0
ranged one = IsRange one.range

-- none so far
pub first_none : HasFirst [] []
first_none = record { first = refl; ranges = All-nil ranged }

pub shows_nothing : (old : List Shown) → Shows old old []
shows_nothing old all has = subst (λ (l : List Shown). HasFirst l old) (sym (append-nil all)) has

pub shows_then : (a b c xs ys : List Shown) → Shows a b xs → Shows b c ys → Shows a c (xs ++ ys)
shows_then a b c xs ys first second all has = subst (λ (l : List Shown). HasFirst l c) (append_assoc all xs ys) (second (all ++ xs) (first all has))

-- there is room for one more
pub shows_one : (old : List Shown) (one : Shown) → IsRange one.range → length old < 10 → Shows old (old ++ one ∷ []) (one ∷ [])
shows_one old one is room all has =
    let long = ap (λ (l : List Shown). length l) has.first in
    let rest : take (10 - length (take 10 all)) (one ∷ []) ≡ one ∷ [] = take_all (10 - length (take 10 all)) (one ∷ []) (omega (arith, room, long)) in
    record {
      first = ap (λ (l : List Shown). l ++ one ∷ []) has.first ∙ ap (λ (l : List Shown). take 10 all ++ l) (sym rest) ∙ sym (cut 10 all (one ∷ []));
      ranges = All-append ranged old (one ∷ []) has.ranges (All-cons ranged one [] is (All-nil ranged));
    }

-- there is none
pub shows_none : (old : List Shown) (one : Shown) → 10 ≤ length old → Shows old old (one ∷ [])
shows_none old one full all has =
    let long = ap (λ (l : List Shown). length l) has.first ∙ length-take 10 all in
    record { first = has.first ∙ sym (take-append-le 10 all (one ∷ []) (omega (arith, full, long))); ranges = has.ranges }

-- a range more
pub ranges_next : (f : EventRange → Shown) (start old new : List Shown) (ranges : List EventRange) (i : ℕ) (range : EventRange) → i < length ranges → range ≡ get_or ranges i range → Shows start old (map f (take i ranges)) → Shows old new (f range ∷ []) → Shows start new (map f (take (i + 1) ranges))
ranges_next f start old new ranges i range within is so_far one =
    let all : map f (take (i + 1) ranges) ≡ map f (take i ranges) ++ f range ∷ [] = map_more f ranges i range within ∙ ap (λ (r : EventRange). map f (take i ranges) ++ f r ∷ []) (sym is) in
    subst (Shows start new) (sym all) (shows_then start old new (map f (take i ranges)) (f range ∷ []) so_far one)

-- a report more
pub reports_next : (f : ReportView → List Shown) (start old new : List Shown) (reports : List ReportView) (i : ℕ) (report : ReportView) → i < length reports → report ≡ get_or reports i report → Shows start old (flat_map f (take i reports)) → Shows old new (f report) → Shows start new (flat_map f (take (i + 1) reports))
reports_next f start old new reports i report within is so_far one =
    let more : take (i + 1) reports ≡ take i reports ++ report ∷ [] = take_more reports i report within ∙ ap (λ (r : ReportView). take i reports ++ r ∷ []) (sym is) in
    let all : flat_map f (take (i + 1) reports) ≡ flat_map f (take i reports) ++ f report = ap (flat_map f) more ∙ sym (flat_map_more f [] (take i reports) report) in
    subst (Shows start new) (sym all) (shows_then start old new (flat_map f (take i reports)) (f report) so_far one)

pub ranges_end : (f : EventRange → Shown) (start new : List Shown) (ranges : List EventRange) (i : ℕ) → length ranges ≤ i → Shows start new (map f (take i ranges)) → Shows start new (map f ranges)
ranges_end f start new ranges i past so_far = subst (λ (l : List EventRange). Shows start new (map f l)) (take_all i ranges past) so_far

pub reports_end : (f : ReportView → List Shown) (start new : List Shown) (reports : List ReportView) (i : ℕ) → length reports ≤ i → Shows start new (flat_map f (take i reports)) → Shows start new (flat_map f reports)
reports_end f start new reports i past so_far = subst (λ (l : List ReportView). Shows start new (flat_map f l)) (take_all i reports past) so_far

-- two lists one after the other, from none on
pub first_of_both : (a b xs ys : List Shown) → Shows [] a xs → Shows a b ys → HasFirst (xs ++ ys) b
first_of_both a b xs ys first second = shows_then [] a b xs ys first second [] first_none

-- How many pairs.

abbrev short : ReportView → Type 0
short report = length report.earlier ≤ MAX_EVENTS

-- what passes a test is no more than all
few_pass : (p : EventNo → Bool) (events : List EventNo) → length (filter p events) ≤ length events
few_pass p events = let both = length-filter_both p (λ e. not (p e)) (λ e. refl) events in omega (arith, both)

few_gone_count : (m : NewMessage) (olds others : List ReportView) → length (all_gone m olds others) ≤ length olds
few_gone_count m [] others = omega arith
few_gone_count m (report ∷ reports) [] = omega arith
few_gone_count m (report ∷ reports) (other ∷ others) = let rest = few_gone_count m reports others in omega (arith, rest)

few_gone_each : (m : NewMessage) (olds others : List ReportView) → All short olds → All short (all_gone m olds others)
few_gone_each m [] others each = All-nil short
few_gone_each m (report ∷ reports) [] each = All-nil short
few_gone_each m (report ∷ reports) (other ∷ others) each =
    let first = All-head short report reports each in
    let less = few_pass (is_gone m other) report.earlier in
    All-cons short (gone_of m report other) (all_gone m reports others) (omega (arith, first, less)) (few_gone_each m reports others (All-tail short report reports each))

pub few_gone : (m : NewMessage) (olds others : List ReportView) → AreFew olds → AreFew (all_gone m olds others)
few_gone m olds others few =
    let less = few_gone_count m olds others in
    let count = few.count in
    record { count = omega (arith, less, count); each = few_gone_each m olds others few.each }

few_kept_each : (coming : Bool) (m : NewMessage) (news : List ReportView) → All short news → All short (map (kept_of coming m) news)
few_kept_each coming m [] each = All-nil short
few_kept_each coming m (report ∷ reports) each =
    let first = All-head short report reports each in
    let less = few_pass (is_kept coming m report.receive) report.earlier in
    All-cons short (kept_of coming m report) (map (kept_of coming m) reports) (omega (arith, first, less)) (few_kept_each coming m reports (All-tail short report reports each))

pub few_kept : (coming : Bool) (m : NewMessage) (news : List ReportView) → AreFew news → AreFew (map (kept_of coming m) news)
few_kept coming m news few =
    let long = length-map news (kept_of coming m) in
    let count = few.count in
    record { count = omega (arith, long, count); each = few_kept_each coming m news few.each }

-- the pairs of one report, and those of others
pairs_first : (report : ReportView) (reports : List ReportView) → length (pairs_of (report ∷ reports)) ≡ length report.earlier + length (pairs_of reports)
pairs_first report reports =
    ap (λ (ps : List RacePair). length ps) (flat_map-cons pairs_of_report report reports)
    ∙ length-append (pairs_of_report report) (pairs_of reports)
    ∙ ap (λ n. n + length (pairs_of reports)) (length-map report.earlier (λ (e : EventNo). record { earlier = e; receive = report.receive }))

-- each race of the new chart stays or comes
pub stay_or_come : (m : NewMessage) (news : List ReportView) → length (pairs_of news) ≡ length (pairs_of (map (kept_of true m) news)) + length (pairs_of (map (kept_of false m) news))
stay_or_come m [] = refl
stay_or_come m (report ∷ reports) =
    let all = pairs_first report reports in
    let come = pairs_first (kept_of true m report) (map (kept_of true m) reports) in
    let stay = pairs_first (kept_of false m report) (map (kept_of false m) reports) in
    let both = length-filter_both (is_kept true m report.receive) (is_kept false m report.receive) (λ e. refl) report.earlier in
    let rest = stay_or_come m reports in
    omega (arith, all, come, stay, both, rest)
