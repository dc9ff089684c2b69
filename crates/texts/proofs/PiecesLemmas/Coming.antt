-- A loop that carries a state and writes a text, part after part: the text so far, and the rest. S is the output, and
-- sink is what is known of it.
use Rattle.std.proofs.Common.{◌≡◌, ℕ, List, [], ◌++◌, Option, Result, Ok, Err, true, refl, ◌∙◌, subst, append_assoc}
use Rattle.std.specs.Result.{is_err}
use Rattle.texts.specs.Outs.{Sink}
use Rattle.texts.specs.Writing.{Buffers, Stops, Adds}
use Rattle.texts.specs.declared.text_buffer.TextBuffer.{TextBuffer}
use Rattle.texts.proofs.Writes.{buffers_nothing, buffers_then, stops_then, stops_early, adds_then}

-- some text was added, and with the rest it is the whole text
pub record HasCome {S : Type 0} (sink : S → Sink) (old new : TextBuffer S) (rest all : List ℕ) : Type 0 where
  pub front : List ℕ
  pub buffers : Buffers sink old new front
  pub whole : front ++ rest ≡ all

module _ {S : Type 0} {sink : S → Sink} {all : List ℕ} where
  pub come_none : (a : TextBuffer S) → HasCome sink a a all all
  come_none a = record { front = []; buffers = buffers_nothing a; whole = refl }

  -- the same rest, in another form
  pub come_as : {a b : TextBuffer S} {rest other : List ℕ} → rest ≡ other → HasCome sink a b rest all → HasCome sink a b other all
  come_as {a} {b} same come = subst (λ x. HasCome sink a b x all) same come

  pub come_more : {a b c : TextBuffer S} (part more : List ℕ) → HasCome sink a b (part ++ more) all → Buffers sink b c part → HasCome sink a c more all
  come_more part more come added = record {
    front = come.front ++ part;
    buffers = buffers_then come.buffers added;
    whole = append_assoc come.front part more ∙ come.whole;
  }

  pub come_stops : {T E : Type 0} {a b c : TextBuffer S} (part more : List ℕ) (result : Result T E) → is_err result ≡ true → HasCome sink a b (part ++ more) all → Stops sink b c part → Adds sink a c result all
  come_stops part more (Ok x) e come stops = cc
  come_stops {a = a} {c = c} part more (Err x) e come stops =
      subst (Stops sink a c) (append_assoc come.front part more ∙ come.whole) (stops_early more (stops_then come.buffers stops))

  pub come_ends : {T E : Type 0} {a b : TextBuffer S} (c : TextBuffer S) (result : Result T E) (rest : List ℕ) → HasCome sink a b rest all → Adds sink b c result rest → Adds sink a c result all
  come_ends {a = a} c result rest come ends = subst (Adds sink a c result) come.whole (adds_then c result rest come.buffers ends)
