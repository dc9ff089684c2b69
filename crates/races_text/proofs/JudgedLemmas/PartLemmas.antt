-- Parts of events, and the events that were judged before a put failed.
use Rattle.std.proofs.Common.{◌≡◌, ◌<◌, ◌^◌, List, [], ◌∷◌, ◌++◌, Result, Ok, Err, true, refl, sym, arith, append-nil}
use Rattle.std.specs.List.{flat_map}
use Rattle.std.proofs.lemmas.List.{flat_map_more}
use Rattle.std.proofs.lemmas.List.Elements.{All-nil, All-cons}
use Rattle.std.specs.Result.{is_err}
use Rattle.chart.specs.declared.instance.EventNo.{EventNo}
use Rattle.race_verdicts.specs.declared.verdict.Verdict.{Verdict}
use Rattle.races_text.specs.declared.judged.part.Part.{Part}
use Rattle.races_text.specs.Judged.Parts.{part_of, events_in, AreApart, AreLongest, IsPart, AreParts, HaveBegun, Judges}

-- with one more part, each part is as long as possible
pub longest_push : (parts : List Part) (p q : Part) → AreLongest (parts ++ p ∷ []) → AreApart p q → AreLongest ((parts ++ p ∷ []) ++ q ∷ [])
longest_push [] p q are apart = (apart, tt)
longest_push (x ∷ []) p q are apart = (are.0, (apart, tt))
longest_push (x ∷ (y ∷ parts)) p q are apart = (are.0, longest_push (y ∷ parts) p q are.1 apart)

-- the events with one more part
pub whole_push : (parts : List Part) (p : Part) → flat_map events_in (parts ++ p ∷ []) ≡ flat_map events_in parts ++ events_in p
whole_push parts p = sym (flat_map_more events_in [] parts p)

module _ (is : EventNo → Verdict → Type 0) where
  -- the part of a single event
  pub one_is : (e : EventNo) (v : Verdict) → is e v → e.index < 2 ^ 32 → IsPart is (part_of e v)
  one_is e v holds within = record {
    range = record { some = omega arith; within = omega (arith, within) };
    verdicts = All-cons (λ (x : EventNo). is x v) e [] holds (All-nil (λ (x : EventNo). is x v));
  }

  pub no_parts : AreParts is [] []
  no_parts = record { each = All-nil (IsPart is); whole = refl; longest = tt }

  -- all events were judged, whether or not a put failed afterwards
  pub judged_all : {T E : Type 0} {events : List EventNo} {parts : List Part} (r : Result T E) → AreParts is events parts → Judges is events r parts
  judged_all (Ok x) are = are
  judged_all {events = events} (Err e) are = record { begun = events; rest = []; splits = sym (append-nil events); are = are }

  -- some events were judged, and then a put failed
  pub judged_some : {T E : Type 0} {events begun : List EventNo} {parts : List Part} (rest : List EventNo) (r : Result T E) → is_err r ≡ true → events ≡ begun ++ rest → AreParts is begun parts → Judges is events r parts
  judged_some rest (Ok x) failed splits are = cc
  judged_some {begun = begun} rest (Err e) failed splits are = record { begun = begun; rest = rest; splits = splits; are = are }

  -- an early return by `?`, after some events were judged
  pub judged_begun : {T E : Type 0} {events : List EventNo} {parts : List Part} (r : Result T E) → is_err r ≡ true → HaveBegun is events parts → Judges is events r parts
  judged_begun (Ok x) failed begun = cc
  judged_begun (Err e) failed begun = begun
