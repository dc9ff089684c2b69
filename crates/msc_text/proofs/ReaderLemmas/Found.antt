-- The bytes that both looks read are the text of the result: laws about lists alone.
use Rattle.std.proofs.Common.{◌≡◌, ℕ, ◌+◌, ◌≤◌, eqb, nat_lt, List, [], ◌∷◌, ◌++◌, length, map, All, Result, Ok, Err, inl, inr, refl, sym, ap, ◌∙◌, subst, arith, append_assoc, append-nil}
use Rattle.std.specs.List.{flat_map, AllByRecursion}
use Rattle.std.proofs.lemmas.Bool.{eqb-true}
use Rattle.std.proofs.lemmas.List.Elements.{All-from_recursion}
use Rattle.chart.specs.Charts.{LineView, IsLine, HasPartners}
use Rattle.chart.specs.Events.{partner_of}
use Rattle.chart.specs.Names.{IsName}
use Rattle.msc_text.specs.ChartText.{chart_text}
use Rattle.texts.specs.Faults.{◌>>=◌, in_line}
use Rattle.texts.specs.Lines.{lines_of, end_of, ended}
use Rattle.texts.specs.declared.fault.Cause.TheVariants.{Instances, Syntax, UnknownInstance}
use Rattle.texts.specs.declared.fault.Fault.{Fault}
use Rattle.texts.specs.declared.fault.Fault.TheVariants.{Line}
use Rattle.texts.proofs.NewNames.{with_name-is}
use Rattle.texts.proofs.Parts.{lines_joined}
use Rattle.texts.proofs.Results.{bind_ok, bind_at, guard_ok, when_ok, in_line_ok, ok_is}
use Rattle.msc_text.specs.Reader.Builders.{BuilderView, blank, built}
use Rattle.msc_text.specs.Reader.HasText.{HasText, CanBeSpelled}
use Rattle.msc_text.specs.Reader.Reading.{names_after, finished, look_from, build_from, names_in, lines_in, chart_of}
use Rattle.msc_text.specs.Reader.Steps.{Step, step_of}
use Rattle.msc_text.specs.declared.reader.state.State.{State}
use Rattle.msc_text.specs.declared.reader.state.State.TheVariants as states
use Rattle.msc_text.specs.declared.reader.state.Saying.{Saying}
use Rattle.msc_text.specs.declared.reader.state.Saying.TheVariants as sayings
use Rattle.msc_text.proofs.ReaderLemmas.Onward.{Builds, Outcome, onward}
use Rattle.msc_text.proofs.ReaderLemmas.SayingsAgain.{saying_line, line-is}
use Rattle.msc_text.proofs.ReaderLemmas.Standing.{IsInstanceEvent, IsLineAmong, SoFar, so_far}
use Rattle.msc_text.proofs.ReaderLemmas.TextSayings.{chart_sayings, spell, chart_text-is}

-- ---- names that were read remain

pub record IsPrefix (begun names : List (List ℕ)) : Type 0 where
  pub later : List (List ℕ)
  pub is : names ≡ begun ++ later

pub same_prefix : (begun more : List (List ℕ)) → begun ≡ more → IsPrefix begun more
same_prefix begun more e = record { later = []; is = sym e ∙ sym (append-nil begun) }

after-prefix : (begun more : List (List ℕ)) (saying : Saying) → names_after begun saying ≡ Ok more → IsPrefix begun more
after-prefix begun more sayings.Begin e = same_prefix begun more (ok_is begun more e)
after-prefix begun more (sayings.Head own) e = record { later = own ∷ []; is = sym (with_name-is begun own more e) }
after-prefix begun more (sayings.Send to name) e = same_prefix begun more (ok_is begun more e)
after-prefix begun more (sayings.Receive from name) e = same_prefix begun more (ok_is begun more e)
after-prefix begun more sayings.Open e = same_prefix begun more (ok_is begun more e)
after-prefix begun more sayings.Shut e = same_prefix begun more (ok_is begun more e)
after-prefix begun more sayings.Foot e = same_prefix begun more (ok_is begun more e)
after-prefix begun more sayings.End e = same_prefix begun more (ok_is begun more (guard_ok (nat_lt (length begun) 2) Instances (Ok begun) more e).1)

no_bytes : (bytes : List ℕ) → length bytes ≡ 0 → bytes ≡ []
no_bytes [] e = refl
no_bytes (b ∷ bytes) e = absurd (omega arith)

pub record IsFinished (begun : List (List ℕ)) (state : State) (rest : List ℕ) (names : List (List ℕ)) : Type 0 where
  pub state_is : state ≡ states.Done
  pub names_are : begun ≡ names
  pub nothing : rest ≡ []

pub is_finished : (begun : List (List ℕ)) (state : State) (n : ℕ) (rest : List ℕ) (names : List (List ℕ)) → finished begun state n rest ≡ Ok names → IsFinished begun state rest names
is_finished begun states.Start n rest names e = cc
is_finished begun states.Outside n rest names e = cc
is_finished begun (states.Inside own events region) n rest names e = cc
is_finished begun states.Done n rest names e =
    let g = when_ok (eqb (length rest) 0) (Line n Syntax) (Ok begun) names e in
    record { state_is = refl; names_are = ok_is begun names g.1; nothing = no_bytes rest (eqb-true (length rest) 0 g.0) }

-- a line that the first look reads
pub record Looks (begun : List (List ℕ)) (state : State) (n : ℕ) (line : List ℕ) (lines : List (List ℕ)) (rest : List ℕ) (names : List (List ℕ)) : Type 0 where
  pub step : Step
  pub more : List (List ℕ)
  pub reads : in_line n (step_of state line) ≡ Ok step
  pub adds : names_after begun step.0 ≡ Ok more
  pub others : look_from more step.1 (n + 1) lines rest ≡ Ok names

pub looks : (begun : List (List ℕ)) (state : State) (n : ℕ) (line : List ℕ) (lines : List (List ℕ)) (rest : List ℕ) (names : List (List ℕ)) → look_from begun state n (line ∷ lines) rest ≡ Ok names → Looks begun state n line lines rest names
unfolding look_from
looks begun state n line lines rest names e =
    let a = bind_ok (in_line n (step_of state line)) (λ step. in_line n (names_after begun step.0) >>= λ more. look_from more step.1 (n + 1) lines rest) names e in
    let b = bind_ok (in_line n (names_after begun a.0.0)) (λ more. look_from more a.0.1 (n + 1) lines rest) names a.2 in
    record { step = a.0; more = b.0; reads = a.1; adds = in_line_ok n (names_after begun a.0.0) b.0 b.1; others = b.2 }

look-prefix : (begun : List (List ℕ)) (state : State) (n : ℕ) (lines : List (List ℕ)) (rest : List ℕ) (names : List (List ℕ)) → look_from begun state n lines rest ≡ Ok names → IsPrefix begun names
unfolding look_from
look-prefix begun state n [] rest names e = same_prefix begun names (is_finished begun state n rest names e).names_are
look-prefix begun state n (line ∷ lines) rest names e =
    let l = looks begun state n line lines rest names e in
    let p = after-prefix begun l.more l.step.0 l.adds in
    let q = look-prefix l.more l.step.1 (n + 1) lines rest names l.others in
    record { later = p.later ++ q.later; is = q.is ∙ ap (λ x. x ++ q.later) p.is ∙ append_assoc begun p.later q.later }

-- ---- both looks

-- what is read of the remaining lines: their meanings
pub record IsRead (names : List (List ℕ)) (state : State) (d : BuilderView) (lines : List (List ℕ)) (rest : List ℕ) (out : List LineView) : Type 0 where
  pub last : BuilderView
  pub made : SoFar names names states.Done last
  pub out_is : last.lines ≡ out
  pub sayings_left : List Saying
  pub lines_are : lines ≡ map saying_line sayings_left
  pub says : so_far names states.Done last ≡ so_far names state d ++ sayings_left
  pub nothing : rest ≡ []

-- the second look reads the lines that the first one reads, or finds an unknown instance
abbrev pub Built : List (List ℕ) → State → BuilderView → List (List ℕ) → List ℕ → Result (List LineView) Fault → Type 0
Built names state d lines rest (Ok out) = IsRead names state d lines rest out
Built names state d lines rest (Err fault) = (n : ℕ) × (fault ≡ Line n UnknownInstance)

read_end : (names begun : List (List ℕ)) (state : State) (d : BuilderView) (rest : List ℕ) → SoFar names begun state d → IsFinished begun state rest names → IsRead names state d [] rest d.lines
read_end names begun state d rest s f =
    let done : SoFar names names state d = subst (λ b. SoFar names b state d) f.names_are s in
    let made : SoFar names names states.Done d = subst (λ p. SoFar names names p d) f.state_is done in
    record { last = d; made = made; out_is = refl; sayings_left = []; lines_are = refl; says = ap (λ p. so_far names p d) (sym f.state_is) ∙ sym (append-nil (so_far names state d)); nothing = f.nothing }

built_more : {names more : List (List ℕ)} {state next : State} {d e : BuilderView} {saying : Saying} {line : List ℕ} (lines : List (List ℕ)) (rest : List ℕ) (result : Result (List LineView) Fault)
    → line ≡ saying_line saying → Builds names more state next d saying e → Built names next e lines rest result → Built names state d (line ∷ lines) rest result
built_more {names} {state = state} {d = d} {saying = saying} lines rest (Ok out) is builds r = record {
  last = r.last;
  made = r.made;
  out_is = r.out_is;
  sayings_left = saying ∷ r.sayings_left;
  lines_are = ap (λ l. l ∷ lines) is ∙ ap (λ ls. saying_line saying ∷ ls) r.lines_are;
  says = r.says ∙ ap (λ l. l ++ r.sayings_left) builds.says ∙ append_assoc (so_far names state d) (saying ∷ []) r.sayings_left;
  nothing = r.nothing;
}
built_more lines rest (Err fault) is builds r = r

-- both looks at the same lines
pub both_look : (names begun : List (List ℕ)) (state : State) (d : BuilderView) (n : ℕ) (lines : List (List ℕ)) (rest : List ℕ) → SoFar names begun state d → look_from begun state n lines rest ≡ Ok names
    → Built names state d lines rest (build_from names state d n lines)
unfolding look_from build_from
both_look names begun state d n [] rest s e = read_end names begun state d rest s (is_finished begun state n rest names e)
both_look names begun state d n (line ∷ lines) rest s e =
    let l = looks begun state n line lines rest names e in
    let p = look-prefix l.more l.step.1 (n + 1) lines rest names l.others in
    let event_saying = line-is state line l.step (in_line_ok n (step_of state line) l.step l.reads) in
    let outcome = onward p.later s event_saying.0 l.adds p.is in
    let first : build_from names state d n (line ∷ lines) ≡ (in_line n (built names d l.step.0) >>= λ more. build_from names l.step.1 more (n + 1) lines) =
    bind_at (in_line n (step_of state line)) (λ step. in_line n (built names d step.0) >>= λ more. build_from names step.1 more (n + 1) lines) l.step l.reads in
    subst (Built names state d (line ∷ lines) rest) (sym first) (by l event_saying.1 (λ d2 t. both_look names l.more l.step.1 d2 (n + 1) lines rest t l.others) outcome)
  where
    by : (l : Looks begun state n line lines rest names) → (line ≡ saying_line l.step.0) → ((d2 : BuilderView) → SoFar names l.more l.step.1 d2 → Built names l.step.1 d2 lines rest (build_from names l.step.1 d2 (n + 1) lines)) → Outcome names l.more state l.step.1 d l.step.0
        → Built names state d (line ∷ lines) rest (in_line n (built names d l.step.0) >>= λ more. build_from names l.step.1 more (n + 1) lines)
    by l is again (inl unknown) = subst (λ r. Built names state d (line ∷ lines) rest (in_line n r >>= λ more. build_from names l.step.1 more (n + 1) lines)) (sym unknown) (n, refl)
    by l is again (inr (d2, builds)) =
        subst (λ r. Built names state d (line ∷ lines) rest (in_line n r >>= λ more. build_from names l.step.1 more (n + 1) lines)) (sym builds.is_built)
        (built_more lines rest (build_from names l.step.1 d2 (n + 1) lines) is builds (again d2 builds.made))

-- ---- from the start

pub start_state : (names : List (List ℕ)) → SoFar names [] states.Start blank
start_state names = record {
  are = record { limit = omega arith; distinct = λ i j w here there. absurd (cc) };
  each = tt;
  numbered = λ i l e. absurd (cc);
  among = tt;
  stands = (refl, refl);
}

-- one fact of each element follows from another one
each-as : {X : Type 0} (P Q : X → Type 0) (xs : List X) → ((x : X) → P x → Q x) → AllByRecursion P xs → AllByRecursion Q xs
each-as P Q [] f h = tt
each-as P Q (x ∷ xs) f h = (f x h.0, each-as P Q xs f h.1)

partners-within : (n : ℕ) (line : LineView) → IsLineAmong n line → All (λ m. partner_of m ≤ n) line.events
partners-within n line h = All-from_recursion _ line.events (each-as (IsInstanceEvent n) (λ m. partner_of m ≤ n) line.events (λ m k. k.last) h.events_are)

spelled-events : (n : ℕ) (line : LineView) → IsLineAmong n line → All CanBeSpelled line.events
spelled-events n line h = All-from_recursion _ line.events (each-as (IsInstanceEvent n) CanBeSpelled line.events (λ m k. (k.first, k.named)) h.events_are)

has_text : (names : List (List ℕ)) (d : BuilderView) → SoFar names names states.Done d → HasText names d.lines
has_text names d s =
    let same : length names ≡ length d.lines = s.stands.0 in
    let limit = s.are.limit in
    let several = s.stands.1 in
    let within : HasPartners (length names) d.lines = All-from_recursion _ d.lines (each-as (IsLineAmong (length names)) (λ l. All (λ m. partner_of m ≤ length names) l.events) d.lines (partners-within (length names)) s.among) in
    record {
      names_are = s.are;
      each = All-from_recursion IsName names s.each;
      same = same;
      chart = record {
        several = omega arith;
        limit = omega arith;
        numbered = s.numbered;
        partners = subst (λ n. HasPartners n d.lines) same within;
        each = All-from_recursion IsLine d.lines (each-as (IsLineAmong (length names)) IsLine d.lines (λ l k. k.line_is) s.among);
      };
      events = All-from_recursion _ d.lines (each-as (IsLineAmong (length names)) (λ l. All CanBeSpelled l.events) d.lines (spelled-events (length names)) s.among);
    }

text_is : (bytes : List ℕ) (sayings : List Saying) → lines_of bytes ≡ map saying_line sayings → end_of bytes ≡ [] → bytes ≡ spell sayings
text_is bytes sayings e nothing =
    sym (lines_joined bytes) ∙ ap (λ l. flat_map ended (lines_of bytes) ++ l) nothing ∙ append-nil (flat_map ended (lines_of bytes)) ∙ ap (flat_map ended) e

-- the result of both looks at a text
pub record IsTextOf (bytes : List ℕ) (names : List (List ℕ)) (lines : List LineView) : Type 0 where
  pub has : HasText names lines
  pub spelled : bytes ≡ chart_text names lines

text_of : (bytes : List ℕ) (names : List (List ℕ)) (lines : List LineView) → IsRead names states.Start blank (lines_of bytes) (end_of bytes) lines → IsTextOf bytes names lines
text_of bytes names lines r =
    let whole : r.sayings_left ≡ chart_sayings names lines = sym r.says ∙ ap (chart_sayings names) r.out_is in
    record {
      has = subst (HasText names) r.out_is (has_text names r.last r.made);
      spelled = text_is bytes r.sayings_left r.lines_are r.nothing ∙ ap spell whole ∙ sym (chart_text-is names lines);
    }

from_start : (bytes : List ℕ) (names : List (List ℕ)) → names_in bytes ≡ Ok names → Built names states.Start blank (lines_of bytes) (end_of bytes) (lines_in names bytes)
unfolding names_in lines_in
from_start bytes names e = both_look names [] states.Start blank 1 (lines_of bytes) (end_of bytes) (start_state names) e

-- the bytes that both looks read are the text of the result
pub looks_found : (bytes : List ℕ) (names : List (List ℕ)) (lines : List LineView) → names_in bytes ≡ Ok names → lines_in names bytes ≡ Ok lines → IsTextOf bytes names lines
looks_found bytes names lines e f = text_of bytes names lines (subst (Built names states.Start blank (lines_of bytes) (end_of bytes)) f (from_start bytes names e))

pub chart_found : (bytes : List ℕ) (names : List (List ℕ)) (lines : List LineView) → chart_of bytes ≡ Ok (names, lines) → IsTextOf bytes names lines
unfolding chart_of
chart_found bytes names lines e =
    let a = bind_ok (names_in bytes) (λ names. lines_in names bytes >>= λ lines. Ok (names, lines)) (names, lines) e in
    let b = bind_ok (lines_in a.0 bytes) (λ lines. Ok (a.0, lines)) (names, lines) a.2 in
    let both : (a.0, b.0) ≡ (names, lines) = ok_is (a.0, b.0) (names, lines) b.2 in
    subst (λ p. IsTextOf bytes p.0 p.1) both (looks_found bytes a.0 b.0 a.1 b.1)

-- the only fault of the second look is an unknown instance
pub second_fault : (bytes : List ℕ) (names : List (List ℕ)) (fault : Fault) → names_in bytes ≡ Ok names → lines_in names bytes ≡ Err fault → (n : ℕ) × (fault ≡ Line n UnknownInstance)
second_fault bytes names fault e f = subst (Built names states.Start blank (lines_of bytes) (end_of bytes)) f (from_start bytes names e)
