-- What a match gives and takes, by the spans of its groups and by where it begins.
use Rattle.std.proofs.Common.{◌≡◌, ◌∙◌, ℕ, ◌-◌, ◌≤◌, ◌<◌, List, Option, Some, refl, ap}
use Rattle.log_lines.specs.Windows.{StepView}
use Rattle.regex.specs.Patterns.{Match, span}
use Rattle.regex.specs.Writes.{group_of}
use Rattle.log_formats.specs.Patterns.Found.{located}
use Rattle.log_formats.specs.Patterns.Groups.{AreAmong}
use Rattle.log_formats.specs.Patterns.Unread.{UnreadView, unread_in, if_other, match_unread, unread_by}
use Rattle.log_formats.specs.Patterns.PatternReading.{line_at, read_as, match_step, matched, event_in, event_matched}
use Rattle.log_formats.specs.declared.patterns.groups.Groups.{Groups}
use Rattle.log_formats.specs.declared.patterns.groups.Groups.TheVariants.{Event, Capture, Clock}
use Rattle.log_formats.proofs.PatternsLemmas.GroupLemmas.{event_same, found_same, unread_same}

-- a match gives and takes the same if its groups have the same spans
pub match_same : (window first : List ℕ) (f g : ℕ → Option (ℕ × ℕ)) (count : ℕ) → ((n : ℕ) → 1 ≤ n → n < count → f n ≡ g n) → (groups : Groups) → AreAmong count groups → (end : ℕ)
    → match_step groups window first f end ≡ match_step groups window first g end
match_same window first f g count same groups among end = ap (λ says. read_as first says (line_at window (end - 1))) (found_same window f g count same groups among)

-- it gives the same of a host
pub matched_same : (window : List ℕ) (f g : ℕ → Option (ℕ × ℕ)) (count : ℕ) → ((n : ℕ) → 1 ≤ n → n < count → f n ≡ g n) → (groups : Groups) → AreAmong count groups
    → event_in groups (located window f) ≡ event_in groups (located window g)
matched_same window f g count same (Event e) among = event_same window f g count same e among
matched_same window f g count same (Capture e) among = refl
matched_same window f g count same (Clock e) among = refl

-- a match that begins in the first line counts for it
pub begins_here : (groups : Groups) (window first : List ℕ) (m : Match) → line_at window (span m).0 ≡ 0 → matched groups window first (Some m) ≡ match_step groups window first (group_of m) (span m).1
begins_here groups window first m e = rw e refl

pub matched_here : (groups : Groups) (window : List ℕ) (m : Match) → line_at window (span m).0 ≡ 0 → event_matched groups window (Some m) ≡ event_in groups (located window (group_of m))
matched_here groups window m e = rw e refl

-- a line isn't read for the same reason
pub unreads_same : (window : List ℕ) (f g : ℕ → Option (ℕ × ℕ)) (count : ℕ) → ((n : ℕ) → 1 ≤ n → n < count → f n ≡ g n) → (groups : Groups) → AreAmong count groups → (s t : StepView) → s ≡ t
    → if_other s.says (unread_in groups (located window f)) ≡ if_other t.says (unread_in groups (located window g))
unreads_same window f g count same groups among s t steps =
    ap (λ (x : StepView). if_other x.says (unread_in groups (located window f))) steps ∙ ap (if_other t.says) (unread_same window f g count same groups among)

pub unread_here : (groups : Groups) (window first : List ℕ) (m : Match) → line_at window (span m).0 ≡ 0 → unread_by groups window first (Some m) ≡ match_unread groups window first m
unread_here groups window first m e = rw e refl
