-- Messages that are added within a number of tries.
use Rattle.std.proofs.Common.{◌≡◌, ℕ, ◌+◌, ◌-◌, ◌<◌, ◌≤◌, Bool, true, false, List, [], ◌∷◌, ◌++◌, length, sym, subst, arith, append_assoc, append-nil}
use Rattle.chart.specs.Charts.{LineView}
use Rattle.repair.specs.Counted.{CountedView}
use Rattle.repair.specs.Growing.{message_of}
use Rattle.repair.specs.Moves.{moved_counted}
use Rattle.repair.specs.declared.best.Addition.{Addition}
use Rattle.repair.specs.declared.pairs.RacePair.{RacePair}
use Rattle.repair.specs.Repairs.{ArePairs, with_message, IsBest, HasNone, AreAdded, AreTried}
use Rattle.repair.specs.Repairs.AreAdded.{none, more}
use Rattle.repair.specs.Repairs.AreTried.{last, stopped, next}
use Rattle.repair.specs.Best.{HasPairs}

pub not_stopped : {counted at_end : CountedView} {limit tried : ℕ} {lines end : List LineView} {additions : List Addition} → AreTried counted limit lines additions at_end end tried false → AreAdded counted lines additions at_end end
not_stopped (last pairs are within nothing) = none nothing
not_stopped (next pairs left are within best others) = more left best (not_stopped others)

pub far_limit : {counted at_end : CountedView} {lines end : List LineView} {additions : List Addition} → AreAdded counted lines additions at_end end → (tried : ℕ) × ((limit : ℕ) → tried ≤ limit → AreTried counted limit lines additions at_end end tried false)
far_limit (none nothing) = (length nothing.1, λ limit within. last nothing.1 nothing.3 within nothing)
far_limit (more left best others) =
    let rest = far_limit others in
    let pairs = best.1 in
    (length pairs + rest.0, λ limit within. next pairs left best.3 (omega (arith, within)) best (rest.1 (limit - length pairs) (omega (arith, within))))

pub was_stopped : {counted at_end : CountedView} {limit tried : ℕ} {lines end : List LineView} {additions : List Addition} → AreTried counted limit lines additions at_end end tried true → (tried ≤ limit) × ((pairs : List RacePair) × ArePairs at_end end pairs × (limit < tried + length pairs))
was_stopped (stopped pairs are beyond) = (omega arith, (pairs, are, omega (arith, beyond)))
was_stopped (next pairs left are within best others) =
    let rest = was_stopped others in
    let some = rest.0 in
    let beyond = rest.1.2 in
    (omega (arith, within, some), (rest.1.0, rest.1.1, omega (arith, within, some, beyond)))

-- what comes behind the messages so far, of which so many tries are left
abbrev pub GoesOn : CountedView → CountedView → ℕ → ℕ → List LineView → List LineView → List Addition → Type 0
GoesOn begun counted limit tried first lines before = (others : List Addition) (at_end : CountedView) (end : List LineView) (more_tried : ℕ) (is_stopped : Bool)
    → AreTried counted (limit - tried) lines others at_end end more_tried is_stopped → AreTried begun limit first (before ++ others) at_end end (tried + more_tried) is_stopped

-- what comes behind the best message of all pairs, which were tried
pub goes_next : (begun counted after : CountedView) (limit tried count : ℕ) (first lines chart : List LineView) (before : List Addition) (added : Addition) (left : ℕ) → GoesOn begun counted limit tried first lines before → HasPairs counted lines count → tried ≤ limit → count ≤ limit - tried → IsBest counted lines added left → chart ≡ with_message (message_of added.message) lines → after ≡ moved_counted (message_of added.message) counted
    → GoesOn begun after limit (tried + count) first chart (before ++ added ∷ [])
goes_next begun counted after limit tried count first lines chart before added left so_far (pairs, are, counts) up_to within best is so others at_end end more_tried is_stopped rest =
    let so_many : limit - (tried + count) ≡ limit - tried - length pairs = omega (arith, counts, within, up_to) in
    let m = message_of added.message in
    let here : AreTried (moved_counted m counted) (limit - (tried + count)) (with_message m lines) others at_end end more_tried is_stopped =
    subst (λ (k : CountedView). AreTried k (limit - (tried + count)) (with_message m lines) others at_end end more_tried is_stopped) so
    (subst (λ (l : List LineView). AreTried after (limit - (tried + count)) l others at_end end more_tried is_stopped) is rest) in
    let moved : AreTried (moved_counted m counted) (limit - tried - length pairs) (with_message m lines) others at_end end more_tried is_stopped =
    subst (λ n. AreTried (moved_counted m counted) n (with_message m lines) others at_end end more_tried is_stopped) so_many here in
    let all = so_far (added ∷ others) at_end end (length pairs + more_tried) is_stopped (next pairs left are (omega (arith, counts, within)) best moved) in
    let sum : tried + (length pairs + more_tried) ≡ tried + count + more_tried = omega (arith, counts) in
    subst (λ n. AreTried begun limit first ((before ++ added ∷ []) ++ others) at_end end n is_stopped) sum
    (subst (λ (l : List Addition). AreTried begun limit first l at_end end (tried + (length pairs + more_tried)) is_stopped) (sym (append_assoc before (added ∷ []) others)) all)

-- nothing comes behind the last one
pub goes_last : (begun counted : CountedView) (limit tried count : ℕ) (first lines : List LineView) (before : List Addition) → GoesOn begun counted limit tried first lines before → HasPairs counted lines count → count ≤ limit - tried → HasNone counted lines → AreTried begun limit first before counted lines (tried + count) false
goes_last begun counted limit tried count first lines before so_far (pairs, are, counts) within nothing =
    let all = so_far [] counted lines (length pairs) false (last pairs are (omega (arith, counts, within)) nothing) in
    subst (λ n. AreTried begun limit first before counted lines (tried + n) false) (sym counts)
    (subst (λ (l : List Addition). AreTried begun limit first l counted lines (tried + length pairs) false) (append-nil before) all)

-- it stops
pub goes_no_further : (begun counted : CountedView) (limit tried count : ℕ) (first lines : List LineView) (before : List Addition) → GoesOn begun counted limit tried first lines before → HasPairs counted lines count → limit - tried < count → AreTried begun limit first before counted lines tried true
goes_no_further begun counted limit tried count first lines before so_far (pairs, are, counts) beyond =
    let all = so_far [] counted lines 0 true (stopped pairs are (omega (arith, counts, beyond))) in
    let same : tried + 0 ≡ tried = omega arith in
    subst (λ n. AreTried begun limit first before counted lines n true) same
    (subst (λ (l : List Addition). AreTried begun limit first l counted lines (tried + 0) true) (append-nil before) all)
