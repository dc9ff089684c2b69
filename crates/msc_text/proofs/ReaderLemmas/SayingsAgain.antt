-- What a line may mean is read again from its words: laws about lists alone.
use Rattle.std.proofs.Common.{◌≡◌, ◌≢◌, ℕ, ◌+◌, Bool, true, false, cond, List, [], ◌∷◌, Ok, Err, refl, ap, ◌∙◌}
use Rattle.std.specs.Prelude.{codes, bytes_eq, nat_le}
use Rattle.std.specs.List.{join_with_byte}
use Rattle.std.proofs.lemmas.Bool.{lt-leb}
use Rattle.chart.specs.Keywords.{spelled, is_keyword}
use Rattle.chart.specs.declared.keyword.Keyword.{Keyword}
use Rattle.chart.specs.declared.keyword.Keyword.TheVariants as keywords
use Rattle.chart.specs.Names.{IsName}
use Rattle.chart.specs.declared.line.TheConstants.{MAX_EVENTS}
use Rattle.texts.specs.Faults.{◌>>=◌}
use Rattle.texts.specs.Lines.{words_of, name_or_cause, Lacks}
use Rattle.texts.specs.declared.fault.Cause.TheVariants.{Syntax, ToItself, LineFull}
use Rattle.texts.proofs.Lookups.{same_bytes}
use Rattle.texts.proofs.Parts.{lacks_if, lacks_append}
use Rattle.texts.proofs.Results.{bind_at, name_again}
use Rattle.texts.proofs.Spacing.{IsPlain, ArePlain, plain_name, plain_literal, plain_keyword, spaced_again, spaced_lacks, is_spaced}
use Rattle.msc_text.specs.ChartText.{chart_name}
use Rattle.msc_text.specs.Reader.LastWords.{semi, is_last_word}
use Rattle.msc_text.specs.Reader.Steps.{Step, name_part, head_of, pair_of, names_of, after_receive, send_of, receive_of, event_of, alone_of, step_by, step_of}
use Rattle.msc_text.specs.declared.reader.state.State.{State}
use Rattle.msc_text.specs.declared.reader.state.State.TheVariants as states
use Rattle.msc_text.specs.declared.reader.state.Region.{Region}
use Rattle.msc_text.specs.declared.reader.state.Region.TheVariants as regions
use Rattle.msc_text.specs.declared.reader.state.Saying.{Saying}
use Rattle.msc_text.specs.declared.reader.state.Saying.TheVariants as sayings
use Rattle.msc_text.proofs.ReaderLemmas.Moves.{IsEvent, Moves, saying_words}
use Rattle.msc_text.proofs.ReaderLemmas.Moves.Moves.{begins, heads, ends, sends, receives, opens, shuts, leaves}
use Rattle.msc_text.proofs.ReaderLemmas.Sayings.{step-says}
use Rattle.msc_text.proofs.ReaderLemmas.Semicolons.{before_again, plain_again}

-- ---- by the words

start-again : step_by states.Start (saying_words sayings.Begin) ≡ Ok (sayings.Begin, states.Outside)
unfolding is_keyword is_last_word spelled chart_name
start-again = refl

end-again : step_by states.Outside (saying_words sayings.End) ≡ Ok (sayings.End, states.Done)
unfolding is_last_word spelled
end-again = refl

head-again : (own : List ℕ) → IsName own → step_by states.Outside (saying_words (sayings.Head own)) ≡ Ok (sayings.Head own, states.Inside own 0 regions.Closed)
unfolding is_keyword spelled head_of
head-again own h = ap head_of (before_again own h) ∙ bind_at (name_or_cause own) (λ o. Ok (sayings.Head o, states.Inside o 0 regions.Closed)) own (name_again own h)

not_same : (a b : List ℕ) → a ≢ b → bytes_eq a b ≡ false
not_same a b other = by (bytes_eq a b) refl
  where
    by : (x : Bool) → bytes_eq a b ≡ x → bytes_eq a b ≡ false
    by true e = absurd (other (same_bytes a b e))
    by false e = e

pair-again : (own : List ℕ) (events : ℕ) (partner message : List ℕ) → IsEvent own events partner message → pair_of own events message partner ≡ Ok (message, partner)
unfolding pair_of
pair-again own events partner message h =
    bind_at (name_or_cause message) (λ name. name_or_cause partner >>= λ other. cond (bytes_eq other own) (Err ToItself) (cond (nat_le MAX_EVENTS events) (Err LineFull) (Ok (name, other)))) message (name_again message h.message_name)
    ∙ bind_at (name_or_cause partner) (λ other. cond (bytes_eq other own) (Err ToItself) (cond (nat_le MAX_EVENTS events) (Err LineFull) (Ok (message, other)))) partner (name_again partner h.partner_name)
    ∙ ap (λ b. cond b (Err ToItself) (cond (nat_le MAX_EVENTS events) (Err LineFull) (Ok (message, partner)))) (not_same partner own h.other)
    ∙ ap (λ b. cond b (Err LineFull) (Ok (message, partner))) (lt-leb MAX_EVENTS events h.room)

names-again : (own : List ℕ) (events : ℕ) (partner message : List ℕ) → IsEvent own events partner message → names_of own events message (name_part (semi partner)) ≡ Ok (message, partner)
unfolding names_of
names-again own events partner message h =
    ap (names_of own events message) (before_again partner h.partner_name) ∙ ap (λ b. cond b (pair_of own events message partner) (Err Syntax)) (plain_again message h.message_name) ∙ pair-again own events partner message h

send-again : (own to name : List ℕ) (events : ℕ) → IsEvent own events to name
    → step_by (states.Inside own events regions.Closed) (saying_words (sayings.Send to name)) ≡ Ok (sayings.Send to name, states.Inside own (events + 1) regions.Closed)
unfolding event_of send_of is_keyword spelled
send-again own to name events h = bind_at (names_of own events name (name_part (semi to))) (λ pair. Ok (sayings.Send pair.1 pair.0, states.Inside own (events + 1) regions.Closed)) (name, to) (names-again own events to name h)

receive-again : (own from name : List ℕ) (events : ℕ) (region : Region) → IsEvent own events from name
    → step_by (states.Inside own events region) (saying_words (sayings.Receive from name)) ≡ Ok (sayings.Receive from name, states.Inside own (events + 1) (after_receive region))
unfolding event_of receive_of is_keyword spelled
receive-again own from name events region h = bind_at (names_of own events name (name_part (semi from))) (λ pair. Ok (sayings.Receive pair.1 pair.0, states.Inside own (events + 1) (after_receive region))) (name, from) (names-again own events from name h)

open-again : (own : List ℕ) (events : ℕ) → step_by (states.Inside own events regions.Closed) (saying_words sayings.Open) ≡ Ok (sayings.Open, states.Inside own events regions.Empty)
unfolding alone_of is_last_word spelled
open-again own events = refl

shut-again : (own : List ℕ) (events : ℕ) → step_by (states.Inside own events regions.Held) (saying_words sayings.Shut) ≡ Ok (sayings.Shut, states.Inside own events regions.Closed)
unfolding alone_of is_last_word spelled
shut-again own events = refl

foot-again : (own : List ℕ) (events : ℕ) → step_by (states.Inside own events regions.Closed) (saying_words sayings.Foot) ≡ Ok (sayings.Foot, states.Outside)
unfolding alone_of is_last_word spelled
foot-again own events = refl

words-again : {state next : State} {saying : Saying} → Moves state saying next → step_by state (saying_words saying) ≡ Ok (saying, next)
words-again begins = start-again
words-again (heads {own} h) = head-again own h
words-again ends = end-again
words-again (sends {own} {to} {name} {events} h) = send-again own to name events h
words-again (receives {own} {from} {name} {events} {region} h) = receive-again own from name events region h
words-again (opens {own} {events}) = open-again own events
words-again (shuts {own} {events}) = shut-again own events
words-again (leaves {own} {events}) = foot-again own events

-- ---- by the line

-- the line with this meaning
abbrev pub saying_line : Saying → List ℕ
saying_line saying = join_with_byte 32 (saying_words saying)

plain_semi : (word : List ℕ) → IsPlain word → IsPlain (semi word)
plain_semi word h =
    (lacks_append 32 word (59 ∷ []) h.0 (lacks_if 32 (59 ∷ []) refl), lacks_append 10 word (59 ∷ []) h.1 (lacks_if 10 (59 ∷ []) refl))

plain_own : (name : List ℕ) → IsName name → IsPlain (semi name)
plain_own name h = plain_semi name (plain_name name h)

plain_last : (word : Keyword) → IsPlain (semi (spelled word))
plain_last word = plain_semi (spelled word) (plain_keyword word)

plain_chart_name : IsPlain chart_name
unfolding chart_name
plain_chart_name = plain_literal (codes "run") refl refl

plain-words : {state next : State} {saying : Saying} → Moves state saying next → ArePlain (saying_words saying)
plain-words begins = (plain_keyword keywords.Msc, (plain_semi chart_name plain_chart_name, tt))
plain-words (heads {own} h) = (plain_keyword keywords.Instance, (plain_own own h, tt))
plain-words ends = (plain_last keywords.EndMsc, tt)
plain-words (sends {own} {to} {name} h) = (plain_keyword keywords.Out, (plain_name name h.message_name, (plain_keyword keywords.To, (plain_own to h.partner_name, tt))))
plain-words (receives {own} {from} {name} h) = (plain_keyword keywords.In, (plain_name name h.message_name, (plain_keyword keywords.From, (plain_own from h.partner_name, tt))))
plain-words opens = (plain_last keywords.Concurrent, tt)
plain-words shuts = (plain_last keywords.EndConcurrent, tt)
plain-words leaves = (plain_last keywords.EndInstance, tt)

event_saying-again : (saying : Saying) → ArePlain (saying_words saying) → words_of (saying_line saying) ≡ saying_words saying
event_saying-again sayings.Begin h = spaced_again _ _ h
event_saying-again (sayings.Head own) h = spaced_again _ _ h
event_saying-again (sayings.Send to name) h = spaced_again _ _ h
event_saying-again (sayings.Receive from name) h = spaced_again _ _ h
event_saying-again sayings.Open h = spaced_again _ _ h
event_saying-again sayings.Shut h = spaced_again _ _ h
event_saying-again sayings.Foot h = spaced_again _ _ h
event_saying-again sayings.End h = spaced_again _ _ h

-- the line with a meaning is read as this meaning
pub line-again : {state next : State} {saying : Saying} → Moves state saying next → step_of state (saying_line saying) ≡ Ok (saying, next)
unfolding step_of
line-again {state} {next} {saying} move = ap (step_by state) (event_saying-again saying (plain-words move)) ∙ words-again move

-- it has no line feed
pub line-lacks : {state next : State} {saying : Saying} → Moves state saying next → Lacks 10 (saying_line saying)
line-lacks {saying = saying} move = spaced_lacks (saying_words saying) (plain-words move)

-- and a line that is read is the line with its meaning
pub line-is : (state : State) (line : List ℕ) (step : Step) → step_of state line ≡ Ok step → Moves state step.0 step.1 × (line ≡ saying_line step.0)
unfolding step_of
line-is state line step e =
    let says = step-says state (words_of line) step e in
    (says.moves, is_spaced line ∙ ap (join_with_byte 32) says.are)
