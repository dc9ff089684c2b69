-- The lines of a receive's races, by the line that is kept for them.
use Rattle.std.proofs.Common.{◌≡◌, ℕ, ◌+◌, ◌/◌, ◌%◌, ◌^◌, ◌<◌, ◌==◌, false, if◌then◌else◌, inl, inr, List, [], ◌∷◌, ◌++◌, length, decimal, refl, sym, ap, ◌∙◌, arith, ne_eqb, append_assoc}
use Rattle.std.specs.Prelude.{slice_set}
use Rattle.std.proofs.lemmas.Bool.{cases_lt}
use Rattle.std.proofs.lemmas.List.{set_at, length-append}
use Rattle.std.proofs.lemmas.Fmt.{decimal_step, decimal_digit}
use Rattle.std.proofs.lemmas.List.Concat.{flat_map-append}
use Rattle.std.specs.List.{flat_map}
use Rattle.chart.specs.declared.instance.EventNo.{EventNo}
use Rattle.chart.specs.declared.ranges.EventRange.{EventRange}
use Rattle.chart.specs.Ranges.{events_of, events_in}
use Rattle.msc_text.specs.RaceText.{race_front, race_end, race_line, race_text}

pub race_lines : (front end name : List ℕ) (receive : ℕ) (earlier : List EventNo) → front ≡ race_front name → end ≡ race_end receive
    → flat_map (race_line front end) earlier ≡ flat_map (race_text name receive) earlier
unfolding race_text
race_lines front end name receive earlier front_is end_is =
    ap (λ f. flat_map (race_line f end) earlier) front_is ∙ ap (λ e. flat_map (race_line (race_front name) e) earlier) end_is

-- the lines of a range of earlier events
abbrev pub range_lines : List ℕ → List ℕ → EventRange → List ℕ
range_lines front end range = flat_map (race_line front end) (events_of range)

-- the lines of ranges are those of their events
pub lines_of_ranges : (front end : List ℕ) (ranges : List EventRange) → flat_map (race_line front end) (events_in ranges) ≡ flat_map (range_lines front end) ranges
lines_of_ranges front end [] = refl
lines_of_ranges front end (r ∷ ranges) =
    flat_map-append (race_line front end) (events_of r) (events_in ranges) ∙ ap (λ text. range_lines front end r ++ text) (lines_of_ranges front end ranges)

-- the decimal number is the tens in decimal, if there are any, and then the last digit
abbrev tens_of : ℕ → List ℕ
tens_of t = if t == 0 then [] else decimal t

last_digit : (n : ℕ) → n < 2 ^ 64 → decimal n ≡ tens_of (n / 10) ++ (48 + n % 10) ∷ []
last_digit n small =
    elim (cases_lt n 10) [
      | inl one ↦
          let none : n / 10 ≡ 0 = omega arith in
          let same : n % 10 ≡ n = omega arith in
          decimal_digit n one ∙ rw (none, same) refl
      | inr more ↦
          let some : (n / 10 == 0) ≡ false = ne_eqb (n / 10) 0 (omega arith) in
          decimal_step n more small ∙ rw some refl
    ]

-- the line of another event whose number has the same tens is this line with the other last digit
pub line_with : (front end : List ℕ) (event other : EventNo) (place : ℕ) → event.index < 2 ^ 32 → other.index < 2 ^ 32 → event.index / 10 ≡ other.index / 10
    → place + 1 ≡ length front + length (decimal event.index) → slice_set (race_line front end event) place (48 + other.index % 10) ≡ race_line front end other
unfolding race_line
line_with front end event other place small low same at =
    let tens = tens_of (event.index / 10) in
    let one : decimal event.index ≡ tens ++ (48 + event.index % 10) ∷ [] = last_digit event.index (omega (arith, small)) in
    let its : decimal other.index ≡ tens ++ (48 + other.index % 10) ∷ [] = last_digit other.index (omega (arith, low)) ∙ ap (λ t. tens_of t ++ (48 + other.index % 10) ∷ []) (sym same) in
    let front_long : length (front ++ tens) ≡ place = let long = ap length one in omega (arith, at, long, length-append front tens, length-append tens ((48 + event.index % 10) ∷ [])) in
    let spelled : (d : ℕ) → front ++ ((tens ++ d ∷ []) ++ end) ≡ (front ++ tens) ++ d ∷ end = λ d. ap (λ l. front ++ l) (append_assoc tens (d ∷ []) end) ∙ sym (append_assoc front tens (d ∷ end)) in
    ap (λ l. slice_set (front ++ (l ++ end)) place (48 + other.index % 10)) one
    ∙ ap (λ l. slice_set l place (48 + other.index % 10)) (spelled (48 + event.index % 10))
    ∙ set_at (front ++ tens) (48 + event.index % 10) end (48 + other.index % 10) place front_long
    ∙ sym (spelled (48 + other.index % 10))
    ∙ ap (λ l. front ++ (l ++ end)) (sym its)
