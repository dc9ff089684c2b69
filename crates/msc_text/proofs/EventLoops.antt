-- How a loop over a line's events writes their text. The text is written to S, and sink is what is known of it.
use Rattle.std.proofs.Common.{◌≡◌, ℕ, suc, ◌+◌, ◌<◌, ◌≤◌, length, get_or, drop, add-one, drop-cons, List, [], ◌∷◌, ◌++◌, Result, Ok, Err, true, sym, ap, ◌∙◌, subst, append_assoc}
use Rattle.std.proofs.lemmas.List.{drop_all}
use Rattle.std.specs.Result.{is_err}
use Rattle.chart.specs.declared.event.Event.{Event}
use Rattle.chart.specs.Events.{region_of}
use Rattle.texts.specs.Outs.{Sink}
use Rattle.msc_text.specs.ChartText.{events_text, event_lines_text, ending}
use Rattle.texts.specs.Writing.{Buffers, Stops, Adds}
use Rattle.texts.specs.declared.text_buffer.TextBuffer.{TextBuffer}
use Rattle.texts.proofs.Writes.{buffers_nothing, buffers_then, stops_then, stops_early, adds_then}

-- some text was added, and with the text of the remaining events, after one in the coregion r, it is the whole text
pub record HasCome {S : Type 0} (sink : S → Sink) (old new : TextBuffer S) (names : List (List ℕ)) (r : ℕ) (rest : List Event) (all : List ℕ) : Type 0 where
  pub front : List ℕ
  pub buffers : Buffers sink old new front
  pub whole : front ++ events_text names r rest ≡ all

module _ {S : Type 0} {sink : S → Sink} {names : List (List ℕ)} {all : List ℕ} where
  pub come_none : (a : TextBuffer S) (r : ℕ) (rest : List Event) → events_text names r rest ≡ all → HasCome sink a a names r rest all
  come_none a r rest whole = record { front = []; buffers = buffers_nothing a; whole = whole }

  -- the next event is taken
  pub come_at : {a b : TextBuffer S} {r : ℕ} (xs : List Event) (k : ℕ) (m : Event) → k < length xs → m ≡ get_or xs k m → HasCome sink a b names r (drop k xs) all
      → HasCome sink a b names r (m ∷ drop (k + 1) xs) all
  come_at {a} {b} {r} xs k m below is come =
      let next : drop k xs ≡ m ∷ drop (k + 1) xs = rw (add-one, drop-cons xs k m) (ap (λ x. x ∷ drop (suc k) xs) (sym is)) in
      subst (λ rest. HasCome sink a b names r rest all) next come

  -- no event remains
  pub come_all : {a b : TextBuffer S} {r : ℕ} (xs : List Event) (k : ℕ) → length xs ≤ k → HasCome sink a b names r (drop k xs) all → HasCome sink a b names r [] all
  come_all {a} {b} {r} xs k past come = subst (λ rest. HasCome sink a b names r rest all) (drop_all k xs past) come

  pub come_more : {a b c : TextBuffer S} {r : ℕ} {rest : List Event} (m : Event) → HasCome sink a b names r (m ∷ rest) all → Buffers sink b c (event_lines_text names r m)
      → HasCome sink a c names (region_of m) rest all
  come_more {r = r} {rest = rest} m come more = record {
    front = come.front ++ event_lines_text names r m;
    buffers = buffers_then come.buffers more;
    whole = append_assoc come.front (event_lines_text names r m) (events_text names (region_of m) rest) ∙ come.whole;
  }

  pub come_stops : {T E : Type 0} {a b c : TextBuffer S} {r : ℕ} {rest : List Event} (m : Event) (result : Result T E) → is_err result ≡ true → HasCome sink a b names r (m ∷ rest) all
      → Stops sink b c (event_lines_text names r m) → Adds sink a c result all
  come_stops m (Ok x) e come stops = cc
  come_stops {a = a} {c = c} {r = r} {rest = rest} m (Err x) e come stops =
      subst (Stops sink a c) (append_assoc come.front (event_lines_text names r m) (events_text names (region_of m) rest) ∙ come.whole)
      (stops_early (events_text names (region_of m) rest) (stops_then come.buffers stops))

  pub come_ends : {T E : Type 0} {a b : TextBuffer S} {r : ℕ} (c : TextBuffer S) (result : Result T E) → HasCome sink a b names r [] all
      → Adds sink b c result (ending r 0) → Adds sink a c result all
  come_ends {a = a} {r = r} c result come adds = subst (Adds sink a c result) come.whole (adds_then c result (ending r 0) come.buffers adds)
