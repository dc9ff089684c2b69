-- Along the words of a chart's line: where its form has a fault, and how a line may go on there.
use Rattle.std.proofs.Common.{◌≡◌, ℕ, ◌+◌, ◌≤◌, Bool, true, false, cond, ◌||◌, List, [], ◌∷◌, ◌++◌, length, refl, sym, ap, ◌∙◌, subst, arith}
use Rattle.std.specs.Prelude.{Option, None, Some, codes, bytes_eq}
use Rattle.std.specs.List.{AllByRecursion}
use Rattle.std.proofs.lemmas.Bool.{false≢true}
use Rattle.chart.specs.Names.{IsName}
use Rattle.fault_places.proofs.SpotLemmas.{spot_stops, spot_ends, goes_on}
use Rattle.fault_places.proofs.WalkLemmas.{IsPlaceFrom, place_before, IsFaulty}
use Rattle.fault_places.specs.Carets.{behind_word, has_form}
use Rattle.fault_places.specs.Spots.{is_wrong, spot_from}
use Rattle.fault_places.specs.Wants.{on, begins_out, begins_in, named_on, chart_next, next}
use Rattle.fault_places.specs.declared.spot.Spot.{Spot}
use Rattle.fault_places.specs.declared.want.Want.{Want}
use Rattle.fault_places.specs.declared.want.Want.TheVariants as wants
use Rattle.msc_text.proofs.ReaderLemmas.Semicolons.{before_again, plain_again}
use Rattle.msc_text.specs.Reader.LastWords.{semi}
use Rattle.msc_text.specs.Reader.Steps.{name_part, is_plain}
use Rattle.texts.proofs.Parts.{lacks_if}
use Rattle.texts.specs.Lines.{Lacks}
use Rattle.texts.specs.declared.fault.Cause.TheVariants as causes

-- ---- what may be in a chart

-- it may be in a chart's line
abbrev pub is_of_chart : Want → Bool
is_of_chart wants.Msc = true
is_of_chart wants.ChartName = true
is_of_chart wants.InstanceOrEnd = true
is_of_chart wants.InstanceName = true
is_of_chart wants.Event = true
is_of_chart wants.OpenedEvent = true
is_of_chart wants.HeldEvent = true
is_of_chart wants.Sent = true
is_of_chart wants.To = true
is_of_chart wants.Receiver = true
is_of_chart wants.Received = true
is_of_chart wants.From = true
is_of_chart wants.Sender = true
is_of_chart wants.LineEnd = true
is_of_chart wants.ChartEnd = true
is_of_chart _ = false

-- what may be next may be in one too
abbrev Stays : Option Want → Type 0
Stays None = Unit {0}
Stays (Some want) = is_of_chart want ≡ true

stays_on : (b : Bool) (want : Want) → is_of_chart want ≡ true → Stays (on b want)
stays_on true want h = h
stays_on false want h = tt

stays_two : (x y : Bool) (first second : Want) → is_of_chart first ≡ true → is_of_chart second ≡ true → Stays (cond x (Some first) (on y second))
stays_two true y first second h k = h
stays_two false true first second h k = k
stays_two false false first second h k = tt

stays_three : (x y z : Bool) → Stays (cond x (Some wants.Sent) (cond y (Some wants.Received) (on z wants.LineEnd)))
stays_three true y z = refl
stays_three false true z = refl
stays_three false false true = refl
stays_three false false false = tt

stays : (want : Want) (word : List ℕ) → is_of_chart want ≡ true → Stays (next want word)
unfolding next chart_next begins_out begins_in named_on
stays wants.Msc word h = stays_on _ wants.ChartName refl
stays wants.ChartName word h = stays_on _ wants.LineEnd refl
stays wants.InstanceOrEnd word h = stays_two (bytes_eq word (codes "instance")) (bytes_eq word (codes "endmsc;")) wants.InstanceName wants.LineEnd refl refl
stays wants.InstanceName word h = stays_on _ wants.LineEnd refl
stays wants.Event word h = stays_three (bytes_eq word (codes "out")) (bytes_eq word (codes "in")) (bytes_eq word (codes "concurrent;") || bytes_eq word (codes "endinstance;"))
stays wants.OpenedEvent word h = stays_on _ wants.Received refl
stays wants.HeldEvent word h = stays_two (bytes_eq word (codes "in")) (bytes_eq word (codes "endconcurrent;")) wants.Received wants.LineEnd refl refl
stays wants.Sent word h = stays_on _ wants.To refl
stays wants.To word h = stays_on _ wants.Receiver refl
stays wants.Receiver word h = stays_on _ wants.LineEnd refl
stays wants.Received word h = stays_on _ wants.From refl
stays wants.From word h = stays_on _ wants.Sender refl
stays wants.Sender word h = stays_on _ wants.LineEnd refl
stays wants.LineEnd word h = tt
stays wants.ChartEnd word h = tt
stays _ word h = absurd (false≢true h)

next_stays : (want : Want) (word : List ℕ) (after : Want) → is_of_chart want ≡ true → next want word ≡ Some after → is_of_chart after ≡ true
next_stays want word after h e = subst Stays e (stays want word h)

-- the chart may go on there
abbrev pub goes_further : Want → Bool
goes_further wants.ChartEnd = false
goes_further _ = true

-- and after any of its words
abbrev Goes : Option Want → Type 0
Goes None = Unit {0}
Goes (Some want) = goes_further want ≡ true

goes_if : (b : Bool) (want : Want) → goes_further want ≡ true → Goes (on b want)
goes_if true want h = h
goes_if false want h = tt

goes_two : (x y : Bool) (first second : Want) → goes_further first ≡ true → goes_further second ≡ true → Goes (cond x (Some first) (on y second))
goes_two true y first second h k = h
goes_two false true first second h k = k
goes_two false false first second h k = tt

goes_three : (x y z : Bool) → Goes (cond x (Some wants.Sent) (cond y (Some wants.Received) (on z wants.LineEnd)))
goes_three true y z = refl
goes_three false true z = refl
goes_three false false true = refl
goes_three false false false = tt

goes : (want : Want) (word : List ℕ) → is_of_chart want ≡ true → Goes (next want word)
unfolding next chart_next begins_out begins_in named_on
goes wants.Msc word h = goes_if _ wants.ChartName refl
goes wants.ChartName word h = goes_if _ wants.LineEnd refl
goes wants.InstanceOrEnd word h = goes_two (bytes_eq word (codes "instance")) (bytes_eq word (codes "endmsc;")) wants.InstanceName wants.LineEnd refl refl
goes wants.InstanceName word h = goes_if _ wants.LineEnd refl
goes wants.Event word h = goes_three (bytes_eq word (codes "out")) (bytes_eq word (codes "in")) (bytes_eq word (codes "concurrent;") || bytes_eq word (codes "endinstance;"))
goes wants.OpenedEvent word h = goes_if _ wants.Received refl
goes wants.HeldEvent word h = goes_two (bytes_eq word (codes "in")) (bytes_eq word (codes "endconcurrent;")) wants.Received wants.LineEnd refl refl
goes wants.Sent word h = goes_if _ wants.To refl
goes wants.To word h = goes_if _ wants.Receiver refl
goes wants.Receiver word h = goes_if _ wants.LineEnd refl
goes wants.Received word h = goes_if _ wants.From refl
goes wants.From word h = goes_if _ wants.Sender refl
goes wants.Sender word h = goes_if _ wants.LineEnd refl
goes wants.LineEnd word h = tt
goes wants.ChartEnd word h = tt
goes _ word h = absurd (false≢true h)

next_goes : (want : Want) (word : List ℕ) (after : Want) → is_of_chart want ≡ true → next want word ≡ Some after → goes_further after ≡ true
next_goes want word after h e = subst Goes e (goes want word h)

-- ---- where the form has a fault

-- the walk ends at the spot, where the form has a fault
pub record IsFound (want : Want) (start : ℕ) (words : List (List ℕ)) (spot : Spot) : Type 0 where
  pub before : List (List ℕ)
  pub from : List (List ℕ)
  pub are : words ≡ before ++ from
  pub place : IsPlaceFrom start spot.place before from
  pub kind : is_of_chart spot.want ≡ true
  pub further : goes_further want ≡ true → goes_further spot.want ≡ true
  pub leads : (more : List (List ℕ)) → has_form want (before ++ more) ≡ has_form spot.want more
  pub faulty : IsFaulty spot.want from

right : (known line : List (List ℕ)) (want : Want) (index : ℕ) (word : List ℕ) → is_wrong causes.Syntax known line want index word ≡ false
unfolding is_wrong
right known line want index word = refl

leads_on : (want after : Want) (word : List ℕ) (words : List (List ℕ)) → next want word ≡ Some after → has_form want (word ∷ words) ≡ has_form after words
leads_on want after word words e = ap (λ o. behind_word o (λ behind. has_form behind words)) e

found_at : (known line : List (List ℕ)) (want : Want) (index start : ℕ) (word : List ℕ) (others : List (List ℕ)) (o : Option Want) → is_of_chart want ≡ true → next want word ≡ o → has_form want (word ∷ others) ≡ false
    → ((after : Want) → is_of_chart after ≡ true → has_form after others ≡ false → (1 ≤ length others) → IsFound after (start + (length word + 1)) others (spot_from causes.Syntax known line after (index + 1) (start + (length word + 1)) others))
    → IsFound want start (word ∷ others) (spot_from causes.Syntax known line want index start (word ∷ others))
found_at known line want index start word others None kind e form go =
    subst (IsFound want start (word ∷ others)) (sym (spot_stops causes.Syntax known line want index start word (word ∷ others) others refl (right known line want index word) e))
    (record { before = []; from = word ∷ others; are = refl; place = omega arith; kind = kind; further = λ h. h; leads = λ more. refl; faulty = e })
found_at known line want index start word [] (Some after) kind e form go =
    subst (IsFound want start (word ∷ [])) (sym (spot_ends causes.Syntax known line want after index start word (word ∷ []) refl (right known line want index word) e))
    (record {
      before = word ∷ [];
      from = [];
      are = refl;
      place = omega arith;
      kind = next_stays want word after kind e;
      further = λ h. next_goes want word after kind e;
      leads = λ more. leads_on want after word more e;
      faulty = sym (leads_on want after word [] e) ∙ form;
    })
found_at known line want index start word (other ∷ others) (Some after) kind e form go =
    let f = go after (next_stays want word after kind e) (sym (leads_on want after word (other ∷ others) e) ∙ form) (omega arith) in
    subst (IsFound want start (word ∷ (other ∷ others))) (sym (goes_on causes.Syntax known line want after index start word (word ∷ (other ∷ others)) (other ∷ others) refl (record { first = other; others = others; is = refl }) (right known line want index word) e))
    (record {
      before = word ∷ f.before;
      from = f.from;
      are = ap (λ l. word ∷ l) f.are;
      place = place_before start _ word f.before f.from f.place;
      kind = f.kind;
      further = λ h. f.further (next_goes want word after kind e);
      leads = λ more. leads_on want after word (f.before ++ more) e ∙ f.leads more;
      faulty = f.faulty;
    })

pub found_form : (known line : List (List ℕ)) (want : Want) (index start : ℕ) (words : List (List ℕ)) → is_of_chart want ≡ true → has_form want words ≡ false → 1 ≤ length words
    → IsFound want start words (spot_from causes.Syntax known line want index start words)
found_form known line want index start [] kind form some = absurd (omega arith)
found_form known line want index start (word ∷ others) kind form some =
    found_at known line want index start word others (next want word) kind refl form (λ after k g s. found_form known line after (index + 1) (start + (length word + 1)) others k g s)

-- ---- how a line may go on

-- words with which a line may go on
abbrev pub filler : Want → List (List ℕ)
filler wants.Msc = codes "msc" ∷ codes "run;" ∷ []
filler wants.ChartName = codes "run;" ∷ []
filler wants.InstanceOrEnd = codes "endmsc;" ∷ []
filler wants.InstanceName = codes "a;" ∷ []
filler wants.Event = codes "endinstance;" ∷ []
filler wants.OpenedEvent = codes "in" ∷ codes "a" ∷ codes "from" ∷ codes "a;" ∷ []
filler wants.HeldEvent = codes "endconcurrent;" ∷ []
filler wants.Sent = codes "a" ∷ codes "to" ∷ codes "a;" ∷ []
filler wants.To = codes "to" ∷ codes "a;" ∷ []
filler wants.Receiver = codes "a;" ∷ []
filler wants.Received = codes "a" ∷ codes "from" ∷ codes "a;" ∷ []
filler wants.From = codes "from" ∷ codes "a;" ∷ []
filler wants.Sender = codes "a;" ∷ []
filler _ = []

-- they are words, and the line may go on with them
pub fills : (want : Want) → is_of_chart want ≡ true → goes_further want ≡ true → (has_form want (filler want) ≡ true) × AllByRecursion (Lacks 32) (filler want)
unfolding next chart_next begins_out begins_in named_on name_part is_plain
fills wants.Msc h k = (refl, (lacks_if 32 (codes "msc") refl, (lacks_if 32 (codes "run;") refl, tt)))
fills wants.ChartName h k = (refl, (lacks_if 32 (codes "run;") refl, tt))
fills wants.InstanceOrEnd h k = (refl, (lacks_if 32 (codes "endmsc;") refl, tt))
fills wants.InstanceName h k = (refl, (lacks_if 32 (codes "a;") refl, tt))
fills wants.Event h k = (refl, (lacks_if 32 (codes "endinstance;") refl, tt))
fills wants.OpenedEvent h k = (refl, (lacks_if 32 (codes "in") refl, (lacks_if 32 (codes "a") refl, (lacks_if 32 (codes "from") refl, (lacks_if 32 (codes "a;") refl, tt)))))
fills wants.HeldEvent h k = (refl, (lacks_if 32 (codes "endconcurrent;") refl, tt))
fills wants.Sent h k = (refl, (lacks_if 32 (codes "a") refl, (lacks_if 32 (codes "to") refl, (lacks_if 32 (codes "a;") refl, tt))))
fills wants.To h k = (refl, (lacks_if 32 (codes "to") refl, (lacks_if 32 (codes "a;") refl, tt)))
fills wants.Receiver h k = (refl, (lacks_if 32 (codes "a;") refl, tt))
fills wants.Received h k = (refl, (lacks_if 32 (codes "a") refl, (lacks_if 32 (codes "from") refl, (lacks_if 32 (codes "a;") refl, tt))))
fills wants.From h k = (refl, (lacks_if 32 (codes "from") refl, (lacks_if 32 (codes "a;") refl, tt)))
fills wants.Sender h k = (refl, (lacks_if 32 (codes "a;") refl, tt))
fills wants.LineEnd h k = (refl, tt)
fills wants.ChartEnd h k = absurd (false≢true k)
fills _ h k = absurd (false≢true h)

-- names that a line takes there
pub own_form : (name : List ℕ) → IsName name → has_form wants.InstanceName (semi name ∷ []) ≡ true
unfolding next chart_next
own_form name is = rw (before_again name is) refl

pub receiver_form : (name : List ℕ) → IsName name → has_form wants.Receiver (semi name ∷ []) ≡ true
unfolding next chart_next
receiver_form name is = rw (before_again name is) refl

pub sender_form : (name : List ℕ) → IsName name → has_form wants.Sender (semi name ∷ []) ≡ true
unfolding next chart_next
sender_form name is = rw (before_again name is) refl

pub sent_name : (name : List ℕ) → IsName name → has_form wants.Sent (name ∷ codes "to" ∷ codes "a;" ∷ []) ≡ true
unfolding next chart_next name_part
sent_name name is = rw (plain_again name is) refl

pub received_name : (name : List ℕ) → IsName name → has_form wants.Received (name ∷ codes "from" ∷ codes "a;" ∷ []) ≡ true
unfolding next chart_next name_part
received_name name is = rw (plain_again name is) refl
