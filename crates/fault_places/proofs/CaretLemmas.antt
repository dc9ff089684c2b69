-- The caret of a line that is refused for its form, and what may be there.
use Rattle.std.proofs.Common.{◌≡◌, ℕ, ◌≤◌, Bool, true, false, cond, eqb, List, [], ◌∷◌, ◌++◌, length, Ok, refl, sym, ap, ◌∙◌, arith, append-nil}
use Rattle.std.specs.Prelude.{Option, Some, codes, decimal}
use Rattle.std.specs.List.{join_with_byte}
use Rattle.std.proofs.lemmas.List.Elements.{All-from_recursion}
use Rattle.std.proofs.lemmas.List.Splits.{slice_split_at}
use Rattle.chart.specs.Names.{IsName}
use Rattle.chart.specs.declared.history.TheConstants.{MAX_CAPACITY}
use Rattle.fault_places.proofs.FormLemmas.{form_law}
use Rattle.fault_places.proofs.WalkLemmas.{is_of_schedule, IsPlaceFrom, IsFaulty, found_form, filler, fills}
use Rattle.fault_places.specs.Carets.{schedule_fault, schedule_want, is_past, behind_word, has_form, IsPlace, Stops, MayStand, IsCaret}
use Rattle.fault_places.specs.Spots.{spot_of}
use Rattle.fault_places.specs.Wants.{begins_command, next}
use Rattle.fault_places.specs.declared.want.Want.{Want}
use Rattle.fault_places.specs.declared.want.Want.TheVariants as wants
use Rattle.schedule.proofs.CapacityLine.{capacity_again}
use Rattle.schedule.specs.FirstLines.{is_number, slots_of, capacity_by, capacity_of}
use Rattle.schedule.specs.Keywords.{written, is_written}
use Rattle.texts.proofs.Parts.{lacks_if, words_cons, words_joined}
use Rattle.texts.proofs.Results.{when_ok, name_some}
use Rattle.texts.specs.Lines.{Lacks, words_of}
use Rattle.texts.specs.declared.fault.Cause.{Cause}
use Rattle.texts.specs.declared.fault.Cause.TheVariants as causes

-- ---- a capacity is a number

pub words_split : (word rest : List ℕ) → Lacks 32 word → words_of (word ++ 32 ∷ rest) ≡ word ∷ words_of rest
unfolding words_of
words_split word rest lack = slice_split_at (λ b. eqb b 32) word 32 rest (All-from_recursion _ word lack) refl

one_number : (digits : List ℕ) (words : List (List ℕ)) (slots : ℕ) → words_of digits ≡ words → capacity_by (codes "capacity" ∷ words) ≡ Ok slots → (is_number digits ≡ true) × (slots_of digits ≡ Ok slots)
unfolding is_written written
one_number digits [] slots are e = absurd cc
one_number digits (word ∷ []) slots are e =
    let whole : digits ≡ word = sym (words_joined digits) ∙ ap (join_with_byte 32) are in
    let read = when_ok (is_number word) causes.Syntax (slots_of word) slots e in
    (ap is_number whole ∙ read.0, ap slots_of whole ∙ read.1)
one_number digits (word ∷ next ∷ words) slots are e = absurd cc

pub slots_number : (slots : ℕ) → 1 ≤ slots → slots ≤ MAX_CAPACITY → (is_number (decimal slots) ≡ true) × (slots_of (decimal slots) ≡ Ok slots)
unfolding capacity_of written
slots_number slots first last =
    one_number (decimal slots) (words_of (decimal slots)) slots refl
    (ap capacity_by (sym (words_split (codes "capacity") (decimal slots) (lacks_if 32 (codes "capacity") refl))) ∙ capacity_again slots first last)

-- ---- what may be there

named_form : (name : List ℕ) → IsName name → (has_form wants.FirstName (name ∷ []) ≡ true) × (has_form wants.OtherName (name ∷ []) ≡ true) × (has_form wants.Partner (name ∷ []) ≡ true) × (has_form wants.Message (name ∷ []) ≡ true)
    × (has_form wants.Actor (name ∷ codes "any" ∷ []) ≡ true) × (has_form wants.SendTo (name ∷ codes "a" ∷ []) ≡ true)
unfolding next begins_command
named_form name is =
    let e = name_some name is in
    (rw e refl, rw e refl, rw e refl, rw e refl, rw e refl, rw e refl)

number_form : (digits : List ℕ) → is_number digits ≡ true → has_form wants.Slots (digits ∷ []) ≡ true
unfolding next
number_form digits e = rw e refl

pub takes_form : (read : List (List ℕ) → Option Cause) (names before : List (List ℕ)) (want : Want) → ((more : List (List ℕ)) → is_past 0 (read (before ++ more)) ≡ has_form want more) → MayStand read 0 names before want
unfolding next begins_command is_number
takes_form read names before wants.Instances l = (codes "a" ∷ [], (lacks_if 32 (codes "a") refl, tt), l (codes "instances" ∷ codes "a" ∷ []))
takes_form read names before wants.FirstName l = λ name is. ([], tt, l (name ∷ []) ∙ (named_form name is).0)
takes_form read names before wants.OtherName l = λ name is new. ([], tt, l (name ∷ []) ∙ (named_form name is).1)
takes_form read names before wants.Capacity l = (codes "1" ∷ [], (lacks_if 32 (codes "1") refl, tt), l (codes "capacity" ∷ codes "1" ∷ []))
takes_form read names before wants.Slots l = λ slots first last. ([], tt, l (decimal slots ∷ []) ∙ number_form (decimal slots) (slots_number slots first last).0)
takes_form read names before wants.Actor l = λ name is there. (codes "any" ∷ [], (lacks_if 32 (codes "any") refl, tt), l (name ∷ codes "any" ∷ []) ∙ (named_form name is).4)
takes_form read names before wants.Action l = (
  (codes "a" ∷ codes "a" ∷ [], (lacks_if 32 (codes "a") refl, (lacks_if 32 (codes "a") refl, tt)), l (codes "send" ∷ codes "a" ∷ codes "a" ∷ [])),
  (
    (codes "a" ∷ [], (lacks_if 32 (codes "a") refl, tt), l (codes "receive" ∷ codes "a" ∷ [])),
    (
      ([], tt, l (codes "any" ∷ [])),
      (
        (codes "a" ∷ [], (lacks_if 32 (codes "a") refl, tt), l (codes "close" ∷ codes "a" ∷ [])),
        (([], tt, l (codes "concurrent" ∷ [])), (([], tt, l (codes "endconcurrent" ∷ [])), tt)),
      ),
    ),
  ),
)
takes_form read names before wants.SendTo l = λ name is there other. (codes "a" ∷ [], (lacks_if 32 (codes "a") refl, tt), l (name ∷ codes "a" ∷ []) ∙ (named_form name is).5)
takes_form read names before wants.Partner l = λ name is there other. ([], tt, l (name ∷ []) ∙ (named_form name is).2)
takes_form read names before wants.Message l = λ name is. ([], tt, l (name ∷ []) ∙ (named_form name is).3)
takes_form read names before wants.LineEnd l = ap (λ words. is_past 0 (read words)) (sym (append-nil before)) ∙ l []
takes_form read names before _ l = tt

-- ---- the caret

pub place_is : (place : ℕ) (before from : List (List ℕ)) → IsPlaceFrom 0 place before from → IsPlace place before from
place_is place before [] h = omega arith
place_is place before (word ∷ words) h = omega arith

pub stops_form : (read : List (List ℕ) → Option Cause) (before from : List (List ℕ)) (want : Want) → ((more : List (List ℕ)) → is_past 0 (read (before ++ more)) ≡ has_form want more) → IsFaulty want from → Stops read 0 before from
stops_form read before [] want l h = ap (λ words. is_past 0 (read words)) (sym (append-nil before)) ∙ l [] ∙ h
stops_form read before (word ∷ words) want l h = λ more. l (word ∷ more) ∙ ap (λ o. behind_word o (λ behind. has_form behind more)) h

begins_schedule : (number : ℕ) → is_of_schedule (schedule_want number) ≡ true
begins_schedule number = by (eqb number 1) (eqb number 2)
  where
    by : (x y : Bool) → is_of_schedule (cond x wants.Instances (cond y wants.Capacity wants.Actor)) ≡ true
    by true y = refl
    by false true = refl
    by false false = refl

pub form_caret : (first : List ℕ) (names : List (List ℕ)) (number : ℕ) (line : List ℕ) → schedule_fault names number (words_of line) ≡ Some causes.Syntax
    → IsCaret (schedule_fault names number) names causes.Syntax (words_of line) (spot_of causes.Syntax first line (schedule_want number))
unfolding spot_of
form_caret first names number line fault =
    let begin : Want = schedule_want number in
    let words : List (List ℕ) = words_of line in
    let read : List (List ℕ) → Option Cause = schedule_fault names number in
    let some = words_cons line in
    let form : has_form begin words ≡ false = sym (form_law names number words) ∙ ap (is_past 0) fault in
    let f = found_form (words_of first) words begin 0 0 words (begins_schedule number) form (omega (arith, ap length some.is)) in
    let spot = spot_of causes.Syntax first line begin in
    let fill = fills spot.want f.kind in
    let leads : (more : List (List ℕ)) → is_past 0 (read (f.before ++ more)) ≡ has_form spot.want more = λ more. form_law names number (f.before ++ more) ∙ f.leads more in
    record {
      before = f.before;
      from = f.from;
      are = f.are;
      word = spot.place;
      at_word = place_is spot.place f.before f.from f.place;
      place = omega arith;
      goes_on = (filler spot.want, fill.1, leads (filler spot.want) ∙ fill.0);
      stops = stops_form read f.before f.from spot.want leads f.faulty;
      may_stand = takes_form read names f.before spot.want leads;
    }
