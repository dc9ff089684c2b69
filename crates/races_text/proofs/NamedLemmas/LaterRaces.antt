-- The earlier events that are shown, as ranges.
use Rattle.std.proofs.Common.{◌≡◌, ℕ, ◌<◌, Bool, true, false, cond, List, [], ◌∷◌, ◌++◌, All, refl, ap, ◌∙◌, lt-ltb}
use Rattle.std.proofs.lemmas.List.Elements.{All-head, All-tail, All-contains, Contains-push}
use Rattle.chart.specs.declared.event.Event.{Event}
use Rattle.chart.specs.declared.instance.EventNo.{EventNo}
use Rattle.chart.specs.Ranges.{ranges_of}
use Rattle.chart.specs.Reports.{ReportView}
use Rattle.shown_races.specs.Kept.{is_kept, is_later, later_than, kept_events}
use Rattle.shown_races.proofs.SelectedLemmas.{filter_both}
use Rattle.races_text.specs.Named.Kept.{kept_ranges, kept_after}

pub kept_later : (events : List Event) (only : Bool) (passed : ℕ) (earlier : List EventNo) → kept_after events only passed earlier ≡ kept_ranges events only (later_than passed earlier)
kept_later events only passed earlier = ap ranges_of (filter_both (is_later passed) (is_kept events only) earlier)

-- all events are kept, if none is hidden
pub kept_whole : (events : List Event) (xs : List EventNo) → All (λ (e : EventNo). 0 < e.index) xs → kept_events events false (later_than 0 xs) ≡ xs
kept_whole events [] begun = refl
kept_whole events (x ∷ xs) begun =
    let first : 0 < x.index = All-head (λ (e : EventNo). 0 < e.index) x xs begun in
    ap (λ b. kept_events events false (cond b (x ∷ later_than 0 xs) (later_than 0 xs))) (lt-ltb 0 x.index first)
    ∙ ap (λ l. x ∷ l) (kept_whole events xs (All-tail (λ (e : EventNo). 0 < e.index) x xs begun))

-- the last of several
pub last_of_all : (P : ReportView → Type 0) (xs : List ReportView) (x : ReportView) → All P (xs ++ x ∷ []) → P x
last_of_all P xs x all = All-contains P (xs ++ x ∷ []) x all (Contains-push xs x)
