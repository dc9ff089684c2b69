-- The open coregion along a line, and the lines at its ends.
use Rattle.std.proofs.Common.{◌≡◌, ◌≢◌, ℕ, ◌+◌, ◌<◌, ◌≤◌, Bool, true, false, ◌||◌, cond, eqb, List, [], ◌∷◌, ◌++◌, refl, sym, ap, ◌∙◌, arith, inl, inr, append_assoc, append-nil}
use Rattle.std.proofs.lemmas.Bool.{eq-eqb, ne_eqb}
use Rattle.chart.specs.Events.{region_of, greatest_region, last_region, MayHaveRegion}
use Rattle.chart.specs.declared.event.Event.{Event}
use Rattle.chart.proofs.Regions.{greatest_region-push, last_region-push}
use Rattle.msc_text.specs.Reader.Steps.{after_receive}
use Rattle.msc_text.specs.declared.reader.state.Region.{Region}
use Rattle.msc_text.specs.declared.reader.state.Region.TheVariants.{Closed, Empty, Held}
use Rattle.msc_text.specs.declared.reader.state.Saying.{Saying}
use Rattle.msc_text.specs.declared.reader.state.Saying.TheVariants as sayings
use Rattle.msc_text.proofs.ReaderLemmas.TextSayings.{closing, opening, event_saying, event_sayings, body, last_from}

-- the number of the open coregion, or 0, of a line whose coregion has come this far
abbrev pub HasOpen : Region → ℕ → List Event → Type 0
HasOpen Closed c line = c ≡ 0
HasOpen Empty c line = c ≡ greatest_region line + 1
HasOpen Held c line = (0 < c) × (c ≡ greatest_region line) × (c ≡ last_region line)

pub open-may : (region : Region) (c : ℕ) (line : List Event) → HasOpen region c line → MayHaveRegion line c
open-may Closed c line h = inl h
open-may Empty c line h = inr (inl h)
open-may Held c line h = inr (inr h)

-- after one more receive of the coregion
pub open-more : (region : Region) (line : List Event) (m : Event) → HasOpen region (region_of m) line → HasOpen (after_receive region) (region_of m) (line ++ m ∷ [])
open-more Closed line m h = h
open-more Empty line m h = (omega arith, omega (arith, greatest_region-push line m), sym (last_region-push line m))
open-more Held line m h = (h.0, omega (arith, greatest_region-push line m, h.1), sym (last_region-push line m))

-- the lines after a line that ends in the coregion r
abbrev pub tail_of : Region → ℕ → List Saying
tail_of Closed r = closing r 0
tail_of Empty r = closing r 0 ++ sayings.Open ∷ []
tail_of Held r = []

-- ---- the last coregion

last_from-of : (m : Event) (line : List Event) → last_from (region_of m) line ≡ last_region (m ∷ line)
last_from-of m [] = refl
last_from-of m (n ∷ line) = last_from-of n line

pub last_from-is : (line : List Event) → last_from 0 line ≡ last_region line
last_from-is [] = refl
last_from-is (m ∷ line) = last_from-of m line

pub last_from-push : (r : ℕ) (line : List Event) (m : Event) → last_from r (line ++ m ∷ []) ≡ region_of m
last_from-push r [] m = refl
last_from-push r (x ∷ line) m = last_from-push (region_of x) line m

last-most : (m : Event) (line : List Event) → last_region (m ∷ line) ≤ greatest_region (m ∷ line)
last-most m [] = omega arith
last-most m (n ∷ line) = omega (arith, last-most n line)

-- it is at most the greatest
pub last-within : (line : List Event) → last_region line ≤ greatest_region line
last-within [] = omega arith
last-within (m ∷ line) = last-most m line

-- one more event after others
pub body-push : (names : List (List ℕ)) (r : ℕ) (line : List Event) (m : Event) → body names r (line ++ m ∷ []) ≡ body names r line ++ event_sayings names (last_from r line) m
body-push names r [] m = append-nil (event_sayings names r m)
body-push names r (x ∷ line) m = ap (λ l. event_sayings names r x ++ l) (body-push names (region_of x) line m) ∙ sym (append_assoc (event_sayings names r x) (body names (region_of x) line) (event_sayings names (last_from (region_of x) line) m))

-- ---- the lines at the ends of coregions

either_same : (b : Bool) → (b || b) ≡ b
either_same true = refl
either_same false = refl

either_true : (b : Bool) → (b || true) ≡ true
either_true true = refl
either_true false = refl

pub closing-none : (r : ℕ) → closing r r ≡ []
closing-none r = rw (eq-eqb r r refl) refl

-- before another coregion, or none
pub closing-other : (r c : ℕ) → r ≢ c → closing r c ≡ closing r 0
closing-other r c other = rw (ne_eqb r c other) (ap (λ b. cond b [] (sayings.Shut ∷ [])) (sym (either_same (eqb r 0))))

pub closing-open : (r : ℕ) → 0 < r → closing r 0 ≡ sayings.Shut ∷ []
closing-open r open_ = let other : r ≢ 0 = omega arith in rw (ne_eqb r 0 other) refl

pub opening-none : (r : ℕ) → opening r 0 ≡ []
opening-none r = rw (either_true (eqb r 0)) refl

pub opening-same : (r : ℕ) → opening r r ≡ []
opening-same r = rw (eq-eqb r r refl) refl

pub opening-new : (r c : ℕ) → r ≢ c → 0 < c → opening r c ≡ sayings.Open ∷ []
opening-new r c other begun = let some : c ≢ 0 = omega arith in rw (ne_eqb r c other, ne_eqb c 0 some) refl

-- an event of the open coregion: the lines before it, the event, and the lines after it
pub tail-more : (names : List (List ℕ)) (region : Region) (line : List Event) (m : Event) → HasOpen region (region_of m) line
    → event_sayings names (last_from 0 line) m ++ tail_of (after_receive region) (region_of m) ≡ tail_of region (last_from 0 line) ++ event_saying names m ∷ []
tail-more names Closed line m h = by (region_of m) h
  where
    by : (c : ℕ) → c ≡ 0 → (closing (last_from 0 line) c ++ (opening (last_from 0 line) c ++ event_saying names m ∷ [])) ++ closing c 0 ≡ closing (last_from 0 line) 0 ++ event_saying names m ∷ []
    by c none =
        let r = last_from 0 line in
        rw (none, opening-none r, append-nil (closing r 0 ++ event_saying names m ∷ [])) refl
tail-more names Empty line m h =
    let r = last_from 0 line in
    let last : r ≡ last_region line = last_from-is line in
    let within = last-within line in
    let other : r ≢ region_of m = omega arith in
    let begun : 0 < region_of m = omega arith in
    rw (closing-other r (region_of m) other, opening-new r (region_of m) other begun, append-nil (closing r 0 ++ (sayings.Open ∷ event_saying names m ∷ []))) (sym (append_assoc (closing r 0) (sayings.Open ∷ []) (event_saying names m ∷ [])))
tail-more names Held line m h = by (last_from 0 line) (last_from-is line ∙ sym h.2)
  where
    by : (r : ℕ) → r ≡ region_of m → (closing r (region_of m) ++ (opening r (region_of m) ++ event_saying names m ∷ [])) ++ [] ≡ event_saying names m ∷ []
    by r same = rw (same, closing-none (region_of m), opening-same (region_of m)) refl
