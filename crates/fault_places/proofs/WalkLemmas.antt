-- Along the words of a line: where its form has a fault, and how a line may go on there.
use Rattle.std.proofs.Common.{◌≡◌, ℕ, ◌+◌, ◌≤◌, Bool, true, false, cond, ◌||◌, List, [], ◌∷◌, ◌++◌, length, refl, sym, ap, ◌∙◌, subst, arith}
use Rattle.std.specs.Prelude.{Option, None, Some, codes, bytes_eq}
use Rattle.std.specs.List.{AllByRecursion}
use Rattle.fault_places.proofs.SpotLemmas.{spot_stops, spot_ends, goes_on}
use Rattle.fault_places.specs.Carets.{is_end, behind_word, has_form, width}
use Rattle.fault_places.specs.Spots.{is_wrong, spot_from}
use Rattle.fault_places.specs.Wants.{on, begins_command, chart_next, next}
use Rattle.schedule.specs.FirstLines.{is_number}
use Rattle.fault_places.specs.declared.spot.Spot.{Spot}
use Rattle.fault_places.specs.declared.want.Want.{Want}
use Rattle.fault_places.specs.declared.want.Want.TheVariants as wants
use Rattle.texts.proofs.Parts.{lacks_if}
use Rattle.texts.specs.Lines.{Lacks}
use Rattle.texts.specs.declared.fault.Cause.TheVariants as causes

-- ---- what may be in a schedule

-- it may be in a schedule's line
abbrev pub is_of_schedule : Want → Bool
is_of_schedule wants.Instances = true
is_of_schedule wants.FirstName = true
is_of_schedule wants.OtherName = true
is_of_schedule wants.Capacity = true
is_of_schedule wants.Slots = true
is_of_schedule wants.Actor = true
is_of_schedule wants.Action = true
is_of_schedule wants.SendTo = true
is_of_schedule wants.Partner = true
is_of_schedule wants.Message = true
is_of_schedule wants.LineEnd = true
is_of_schedule _ = false

-- what may be next may be in one too
abbrev Stays : Option Want → Type 0
Stays None = Unit {0}
Stays (Some want) = is_of_schedule want ≡ true

stays_on : (b : Bool) (want : Want) → is_of_schedule want ≡ true → Stays (on b want)
stays_on true want h = h
stays_on false want h = tt

stays_verb : (x y z : Bool) → Stays (cond x (Some wants.SendTo) (cond y (Some wants.Partner) (on z wants.LineEnd)))
stays_verb true y z = refl
stays_verb false true z = refl
stays_verb false false true = refl
stays_verb false false false = tt

stays : (want : Want) (word : List ℕ) → is_of_schedule want ≡ true → Stays (next want word)
unfolding next chart_next begins_command
stays wants.Instances word h = stays_on _ wants.FirstName refl
stays wants.FirstName word h = stays_on _ wants.OtherName refl
stays wants.OtherName word h = stays_on _ wants.OtherName refl
stays wants.Capacity word h = stays_on _ wants.Slots refl
stays wants.Slots word h = stays_on _ wants.LineEnd refl
stays wants.Actor word h = stays_on _ wants.Action refl
stays wants.Action word h = stays_verb (bytes_eq word (codes "send")) (bytes_eq word (codes "receive") || bytes_eq word (codes "close")) (bytes_eq word (codes "any") || (bytes_eq word (codes "concurrent") || bytes_eq word (codes "endconcurrent")))
stays wants.SendTo word h = stays_on _ wants.Message refl
stays wants.Partner word h = stays_on _ wants.LineEnd refl
stays wants.Message word h = stays_on _ wants.LineEnd refl
stays wants.LineEnd word h = tt
stays wants.Begin word h = absurd cc
stays wants.LineFeed word h = absurd cc
stays wants.Msc word h = absurd cc
stays wants.ChartName word h = absurd cc
stays wants.InstanceOrEnd word h = absurd cc
stays wants.NextInstance word h = absurd cc
stays wants.End word h = absurd cc
stays wants.InstanceName word h = absurd cc
stays wants.Event word h = absurd cc
stays wants.OpenedEvent word h = absurd cc
stays wants.HeldEvent word h = absurd cc
stays wants.Sent word h = absurd cc
stays wants.To word h = absurd cc
stays wants.Receiver word h = absurd cc
stays wants.Received word h = absurd cc
stays wants.From word h = absurd cc
stays wants.Sender word h = absurd cc
stays wants.ChartEnd word h = absurd cc

pub next_stays : (want : Want) (word : List ℕ) (after : Want) → is_of_schedule want ≡ true → next want word ≡ Some after → is_of_schedule after ≡ true
next_stays want word after h e = subst Stays e (stays want word h)

-- ---- where the form has a fault

-- a place after words, counted from a place of the line
abbrev pub IsPlaceFrom : ℕ → ℕ → List (List ℕ) → List (List ℕ) → Type 0
IsPlaceFrom start place before [] = place + 1 ≡ start + width before
IsPlaceFrom start place before (word ∷ words) = place ≡ start + width before

pub place_before : (start place : ℕ) (word : List ℕ) (before from : List (List ℕ)) → IsPlaceFrom (start + (length word + 1)) place before from → IsPlaceFrom start place (word ∷ before) from
place_before start place word before [] h = omega arith
place_before start place word before (next ∷ from) h = omega arith

-- the line may not end here, or the first of these words can't be here
abbrev pub IsFaulty : Want → List (List ℕ) → Type 0
IsFaulty want [] = is_end want ≡ false
IsFaulty want (word ∷ words) = next want word ≡ None

-- the walk ends at the spot, where the form has a fault
pub record IsFound (want : Want) (start : ℕ) (words : List (List ℕ)) (spot : Spot) : Type 0 where
  pub before : List (List ℕ)
  pub from : List (List ℕ)
  pub are : words ≡ before ++ from
  pub place : IsPlaceFrom start spot.place before from
  pub kind : is_of_schedule spot.want ≡ true
  pub leads : (more : List (List ℕ)) → has_form want (before ++ more) ≡ has_form spot.want more
  pub faulty : IsFaulty spot.want from

right : (known line : List (List ℕ)) (want : Want) (index : ℕ) (word : List ℕ) → is_wrong causes.Syntax known line want index word ≡ false
unfolding is_wrong
right known line want index word = refl

leads_on : (want after : Want) (word : List ℕ) (words : List (List ℕ)) → next want word ≡ Some after → has_form want (word ∷ words) ≡ has_form after words
leads_on want after word words e = ap (λ o. behind_word o (λ behind. has_form behind words)) e

found_at : (known line : List (List ℕ)) (want : Want) (index start : ℕ) (word : List ℕ) (others : List (List ℕ)) (o : Option Want) → is_of_schedule want ≡ true → next want word ≡ o → has_form want (word ∷ others) ≡ false
    → ((after : Want) → is_of_schedule after ≡ true → has_form after others ≡ false → (1 ≤ length others) → IsFound after (start + (length word + 1)) others (spot_from causes.Syntax known line after (index + 1) (start + (length word + 1)) others))
    → IsFound want start (word ∷ others) (spot_from causes.Syntax known line want index start (word ∷ others))
found_at known line want index start word others None kind e form go =
    subst (IsFound want start (word ∷ others)) (sym (spot_stops causes.Syntax known line want index start word (word ∷ others) others refl (right known line want index word) e))
    (record { before = []; from = word ∷ others; are = refl; place = omega arith; kind = kind; leads = λ more. refl; faulty = e })
found_at known line want index start word [] (Some after) kind e form go =
    subst (IsFound want start (word ∷ [])) (sym (spot_ends causes.Syntax known line want after index start word (word ∷ []) refl (right known line want index word) e))
    (record {
      before = word ∷ [];
      from = [];
      are = refl;
      place = omega arith;
      kind = next_stays want word after kind e;
      leads = λ more. leads_on want after word more e;
      faulty = sym (leads_on want after word [] e) ∙ form;
    })
found_at known line want index start word (other ∷ others) (Some after) kind e form go =
    let f = go after (next_stays want word after kind e) (sym (leads_on want after word (other ∷ others) e) ∙ form) (omega arith) in
    subst (IsFound want start (word ∷ (other ∷ others))) (sym (goes_on causes.Syntax known line want after index start word (word ∷ (other ∷ others)) (other ∷ others) refl (record { first = other; others = others; is = refl }) (right known line want index word) e))
    (record {
      before = word ∷ f.before;
      from = f.from;
      are = ap (λ l. word ∷ l) f.are;
      place = place_before start _ word f.before f.from f.place;
      kind = f.kind;
      leads = λ more. leads_on want after word (f.before ++ more) e ∙ f.leads more;
      faulty = f.faulty;
    })

pub found_form : (known line : List (List ℕ)) (want : Want) (index start : ℕ) (words : List (List ℕ)) → is_of_schedule want ≡ true → has_form want words ≡ false → 1 ≤ length words
    → IsFound want start words (spot_from causes.Syntax known line want index start words)
found_form known line want index start [] kind form some = absurd (omega arith)
found_form known line want index start (word ∷ others) kind form some =
    found_at known line want index start word others (next want word) kind refl form (λ after k g s. found_form known line after (index + 1) (start + (length word + 1)) others k g s)

-- ---- how a line may go on

-- words with which a line may go on
abbrev pub filler : Want → List (List ℕ)
filler wants.Instances = codes "instances" ∷ codes "a" ∷ []
filler wants.FirstName = codes "a" ∷ []
filler wants.Capacity = codes "capacity" ∷ codes "1" ∷ []
filler wants.Slots = codes "1" ∷ []
filler wants.Actor = codes "a" ∷ codes "any" ∷ []
filler wants.Action = codes "any" ∷ []
filler wants.SendTo = codes "a" ∷ codes "a" ∷ []
filler wants.Partner = codes "a" ∷ []
filler wants.Message = codes "a" ∷ []
filler _ = []

-- they are words, and the line may go on with them
pub fills : (want : Want) → is_of_schedule want ≡ true → (has_form want (filler want) ≡ true) × AllByRecursion (Lacks 32) (filler want)
unfolding next begins_command is_number
fills wants.Instances h = (refl, (lacks_if 32 (codes "instances") refl, (lacks_if 32 (codes "a") refl, tt)))
fills wants.FirstName h = (refl, (lacks_if 32 (codes "a") refl, tt))
fills wants.OtherName h = (refl, tt)
fills wants.Capacity h = (refl, (lacks_if 32 (codes "capacity") refl, (lacks_if 32 (codes "1") refl, tt)))
fills wants.Slots h = (refl, (lacks_if 32 (codes "1") refl, tt))
fills wants.Actor h = (refl, (lacks_if 32 (codes "a") refl, (lacks_if 32 (codes "any") refl, tt)))
fills wants.Action h = (refl, (lacks_if 32 (codes "any") refl, tt))
fills wants.SendTo h = (refl, (lacks_if 32 (codes "a") refl, (lacks_if 32 (codes "a") refl, tt)))
fills wants.Partner h = (refl, (lacks_if 32 (codes "a") refl, tt))
fills wants.Message h = (refl, (lacks_if 32 (codes "a") refl, tt))
fills wants.LineEnd h = (refl, tt)
fills wants.Begin h = absurd cc
fills wants.LineFeed h = absurd cc
fills wants.Msc h = absurd cc
fills wants.ChartName h = absurd cc
fills wants.InstanceOrEnd h = absurd cc
fills wants.NextInstance h = absurd cc
fills wants.End h = absurd cc
fills wants.InstanceName h = absurd cc
fills wants.Event h = absurd cc
fills wants.OpenedEvent h = absurd cc
fills wants.HeldEvent h = absurd cc
fills wants.Sent h = absurd cc
fills wants.To h = absurd cc
fills wants.Receiver h = absurd cc
fills wants.Received h = absurd cc
fills wants.From h = absurd cc
fills wants.Sender h = absurd cc
fills wants.ChartEnd h = absurd cc
