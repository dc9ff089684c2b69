-- One look at a text's lines does what two looks do: laws about lists alone.
use Rattle.std.proofs.Common.{◌≡◌, ℕ, ◌+◌, ◌⊎◌, List, [], ◌∷◌, ◌++◌, Result, Ok, Err, inl, inr, refl, sym, ap, ◌∙◌, subst}
use Rattle.chart.specs.Charts.{LineView}
use Rattle.chart.specs.declared.event.Event.{Event}
use Rattle.chart.specs.declared.event.Event.TheVariants as line_events
use Rattle.texts.specs.Faults.{◌>>=◌, in_line, Fails}
use Rattle.texts.specs.Lines.{lines_of, end_of}
use Rattle.texts.specs.declared.fault.Fault.{Fault}
use Rattle.texts.specs.declared.fault.TextError.{TextError}
use Rattle.texts.specs.declared.fault.TextError.TheVariants as errors
use Rattle.texts.proofs.Results.{bind_ok, bind_err, bind_at, stops, in_line_ok, ok_is, fails_then}
use Rattle.msc_text.specs.Reader.Ahead.{with_heads, names_ahead}
use Rattle.msc_text.specs.Reader.Builders.{BuilderView, blank, built, with_event, IsRight}
use Rattle.msc_text.specs.Reader.EventLines.{saying_of, IsEventLine}
use Rattle.msc_text.specs.Reader.OneLook.{line_read, MayBeBuilt, OneFails}
use Rattle.msc_text.specs.Reader.Reading.{names_after, finished, look_from, build_from, names_in, lines_in, are_read, chart_of}
use Rattle.msc_text.specs.Reader.Steps.{Step, step_of}
use Rattle.msc_text.specs.declared.reader.state.State.{State}
use Rattle.msc_text.specs.declared.reader.state.State.TheVariants as states
use Rattle.msc_text.specs.declared.reader.state.Saying.{Saying}
use Rattle.msc_text.proofs.ReaderLemmas.EventLines.{event_built}
use Rattle.msc_text.proofs.ReaderLemmas.Heads.{ahead_goes_on, heads-prefix}
use Rattle.msc_text.proofs.ReaderLemmas.Found.{is_finished, looks, start_state}
use Rattle.msc_text.proofs.ReaderLemmas.Looks.{fails_so, look_goes_on, look_ends, build_goes_on, build_ends}
use Rattle.msc_text.proofs.ReaderLemmas.Onward.{Outcome, onward}
use Rattle.msc_text.proofs.ReaderLemmas.SayingsAgain.{line-is}
use Rattle.msc_text.proofs.ReaderLemmas.Standing.{SoFar}

-- ---- the names that were collected before the other lines

heads_are : (begun : List (List ℕ)) (state : State) (n : ℕ) (lines : List (List ℕ)) (rest : List ℕ) (names : List (List ℕ)) → look_from begun state n lines rest ≡ Ok names → with_heads begun lines ≡ names
heads_are begun state n [] rest names e = (is_finished begun state n rest names (sym (look_ends begun state n rest) ∙ e)).names_are
heads_are begun state n (line ∷ lines) rest names e =
    let l = looks begun state n line lines rest names e in
    ahead_goes_on begun l.more state line lines l.step (in_line_ok n (step_of state line) l.step l.reads) l.adds ∙ heads_are l.more l.step.1 (n + 1) lines rest names l.others

-- they are those of the text, if no line has a fault by itself
pub ahead_are : (bytes : List ℕ) (names : List (List ℕ)) → names_in bytes ≡ Ok names → names_ahead bytes ≡ names
unfolding names_in names_ahead
ahead_are bytes names e = heads_are [] states.Start 1 (lines_of bytes) (end_of bytes) names e

-- ---- how far the look has come

-- before the remaining lines: both looks make of the text what they make of these lines
pub record Goes (known names : List (List ℕ)) (state : State) (d : BuilderView) (n : ℕ) (lines : List (List ℕ)) (rest bytes : List ℕ) : Type 0 where
  pub ahead : with_heads names lines ≡ known
  pub looks_on : look_from names state n lines rest ≡ names_in bytes
  pub made : SoFar known names state d
  pub builds : build_from known state d n lines ≡ lines_in known bytes

pub goes_first : (known : List (List ℕ)) (bytes : List ℕ) → known ≡ names_ahead bytes → Goes known [] states.Start blank 1 (lines_of bytes) (end_of bytes) bytes
unfolding names_ahead names_in lines_in
goes_first known bytes e = record { ahead = sym e; looks_on = refl; made = start_state known; builds = refl }

-- ---- one more line

outcome_on : (known names more : List (List ℕ)) (state : State) (d : BuilderView) (n : ℕ) (line : List ℕ) (lines : List (List ℕ)) (rest bytes : List ℕ) (step : Step)
    → step_of state line ≡ Ok step → names_after names step.0 ≡ Ok more → Goes known names state d n (line ∷ lines) rest bytes → Outcome known more state step.1 d step.0
outcome_on known names more state d n line lines rest bytes step reads adds g =
    let event_saying = line-is state line step reads in
    let p = heads-prefix more lines in
    let whole : known ≡ more ++ p.later = sym g.ahead ∙ ahead_goes_on names more state line lines step reads adds ∙ p.is in
    onward p.later g.made event_saying.0 adds whole

-- the line's only fault may be one that it has by itself, or an unknown instance
pub may_be_built : (known names : List (List ℕ)) (state : State) (d : BuilderView) (n : ℕ) (line : List ℕ) (lines : List (List ℕ)) (rest bytes : List ℕ) → Goes known names state d n (line ∷ lines) rest bytes → MayBeBuilt known names d state line
may_be_built known names state d n line lines rest bytes g = λ step more reads adds. by step more (outcome_on known names more state d n line lines rest bytes step reads adds g)
  where
    by : (step : Step) (more : List (List ℕ)) → Outcome known more state step.1 d step.0 → IsRight (built known d step.0)
    by step more (inl unknown) = subst IsRight (sym unknown) tt
    by step more (inr (e, builds)) = subst IsRight (sym builds.is_built) tt

-- a line that is read
record IsLineRead (known names : List (List ℕ)) (d : BuilderView) (state : State) (line : List ℕ) (more : List (List ℕ)) (e : BuilderView) (next : State) : Type 0 where
  pub step : Step
  pub reads : step_of state line ≡ Ok step
  pub adds : names_after names step.0 ≡ Ok more
  pub builds : built known d step.0 ≡ Ok e
  pub next_is : step.1 ≡ next

is_line_read : (known names : List (List ℕ)) (d : BuilderView) (state : State) (n : ℕ) (line : List ℕ) (more : List (List ℕ)) (e : BuilderView) (next : State) → line_read known names d state n line ≡ Ok (more, e, next) → IsLineRead known names d state line more e next
unfolding line_read
is_line_read known names d state n line more e next is =
    let a = bind_ok (in_line n (step_of state line)) (λ step. in_line n (names_after names step.0) >>= λ m. in_line n (built known d step.0) >>= λ b. Ok (m, b, step.1)) (more, e, next) is in
    let b = bind_ok (in_line n (names_after names a.0.0)) (λ m. in_line n (built known d a.0.0) >>= λ b. Ok (m, b, a.0.1)) (more, e, next) a.2 in
    let c = bind_ok (in_line n (built known d a.0.0)) (λ x. Ok (b.0, x, a.0.1)) (more, e, next) b.2 in
    let same : (b.0, c.0, a.0.1) ≡ (more, e, next) = ok_is (b.0, c.0, a.0.1) (more, e, next) c.2 in
    record {
      step = a.0;
      reads = in_line_ok n (step_of state line) a.0 a.1;
      adds = in_line_ok n (names_after names a.0.0) b.0 b.1 ∙ ap (λ x. Ok x.0) same;
      builds = in_line_ok n (built known d a.0.0) c.0 c.1 ∙ ap (λ x. Ok x.1) same;
      next_is = ap (λ x. x.2) same;
    }

-- the look goes on after it
pub goes_on : (known names : List (List ℕ)) (state : State) (d : BuilderView) (n : ℕ) (line : List ℕ) (lines : List (List ℕ)) (rest bytes : List ℕ) (more : List (List ℕ)) (e : BuilderView) (next : State)
    → Goes known names state d n (line ∷ lines) rest bytes → line_read known names d state n line ≡ Ok (more, e, next) → Goes known more next e (n + 1) lines rest bytes
goes_on known names state d n line lines rest bytes more e next g is =
    let l = is_line_read known names d state n line more e next is in
    let reads = ap (in_line n) l.reads in
    let here : Goes known more l.step.1 e (n + 1) lines rest bytes = record {
      ahead = sym (ahead_goes_on names more state line lines l.step l.reads l.adds) ∙ g.ahead;
      looks_on = sym (look_goes_on names more state n line lines rest l.step reads (ap (in_line n) l.adds)) ∙ g.looks_on;
      made = by l.step.0 l.step.1 l.builds (outcome_on known names more state d n line lines rest bytes l.step l.reads l.adds g);
      builds = sym (build_goes_on known state d e n line lines l.step reads (ap (in_line n) l.builds)) ∙ g.builds;
    } in
    subst (λ s. Goes known more s e (n + 1) lines rest bytes) l.next_is here
  where
    by : (saying : Saying) (s : State) → built known d saying ≡ Ok e → Outcome known more state s d saying → SoFar known more s e
    by saying s is (inl unknown) = cc
    by saying s is (inr (other, made)) = subst (SoFar known more s) (ok_is other e (sym made.is_built ∙ is)) made.made

-- what is read of a line
abbrev is_read : List (List ℕ) → BuilderView → State → Result (List (List ℕ) × BuilderView × State) Fault
is_read names d state = Ok (names, d, state)

-- if the line isn't read, one of both looks stops at it
stops_at : (known names : List (List ℕ)) (state : State) (d : BuilderView) (n : ℕ) (line : List ℕ) (lines : List (List ℕ)) (rest : List ℕ) (fault : Fault) → line_read known names d state n line ≡ Err fault
    → (look_from names state n (line ∷ lines) rest ≡ Err fault) ⊎ (build_from known state d n (line ∷ lines) ≡ Err fault)
unfolding line_read look_from build_from
stops_at known names state d n line lines rest fault is =
    first (bind_err (in_line n (step_of state line)) (λ step. in_line n (names_after names step.0) >>= λ m. in_line n (built known d step.0) >>= λ b. is_read m b step.1) fault is)
  where
    look : Step → Result (List (List ℕ)) Fault
    look step = in_line n (names_after names step.0) >>= λ more. look_from more step.1 (n + 1) lines rest

    build : Step → Result (List LineView) Fault
    build step = in_line n (built known d step.0) >>= λ more. build_from known step.1 more (n + 1) lines

    third : (step : Step) (m : List (List ℕ)) → in_line n (step_of state line) ≡ Ok step → (in_line n (built known d step.0) ≡ Err fault) ⊎ ((b : BuilderView) × (in_line n (built known d step.0) ≡ Ok b) × (is_read m b step.1 ≡ Err fault))
        → ((in_line n (step_of state line) >>= look) ≡ Err fault) ⊎ ((in_line n (step_of state line) >>= build) ≡ Err fault)
    third step m reads (inl h) = inr (bind_at (in_line n (step_of state line)) build step reads ∙ stops (in_line n (built known d step.0)) (λ more. build_from known step.1 more (n + 1) lines) fault h)
    third step m reads (inr h) = absurd (let e = h.2 in cc)

    second : (step : Step) → in_line n (step_of state line) ≡ Ok step
        → (in_line n (names_after names step.0) ≡ Err fault) ⊎ ((m : List (List ℕ)) × (in_line n (names_after names step.0) ≡ Ok m) × ((in_line n (built known d step.0) >>= λ b. is_read m b step.1) ≡ Err fault))
        → ((in_line n (step_of state line) >>= look) ≡ Err fault) ⊎ ((in_line n (step_of state line) >>= build) ≡ Err fault)
    second step reads (inl h) = inl (bind_at (in_line n (step_of state line)) look step reads ∙ stops (in_line n (names_after names step.0)) (λ more. look_from more step.1 (n + 1) lines rest) fault h)
    second step reads (inr h) = third step h.0 reads (bind_err (in_line n (built known d step.0)) (λ b. is_read h.0 b step.1) fault h.2)

    first : (in_line n (step_of state line) ≡ Err fault)
        ⊎ ((step : Step) × (in_line n (step_of state line) ≡ Ok step) × ((in_line n (names_after names step.0) >>= λ m. in_line n (built known d step.0) >>= λ b. is_read m b step.1) ≡ Err fault))
        → ((in_line n (step_of state line) >>= look) ≡ Err fault) ⊎ ((in_line n (step_of state line) >>= build) ≡ Err fault)
    first (inl h) = inl (stops (in_line n (step_of state line)) look fault h)
    first (inr h) = second h.0 h.1 (bind_err (in_line n (names_after names h.0.0)) (λ m. in_line n (built known d h.0.0) >>= λ b. is_read m b h.0.1) fault h.2)

pub line_stops : (error : TextError) (known names : List (List ℕ)) (state : State) (d : BuilderView) (n : ℕ) (line : List ℕ) (lines : List (List ℕ)) (rest bytes : List ℕ)
    → Goes known names state d n (line ∷ lines) rest bytes → Fails error (line_read known names d state n line) → OneFails known bytes error
line_stops errors.Memory known names state d n line lines rest bytes g h = tt
line_stops (errors.Fault fault) known names state d n line lines rest bytes g h = by (stops_at known names state d n line lines rest fault h)
  where
    by : (look_from names state n (line ∷ lines) rest ≡ Err fault) ⊎ (build_from known state d n (line ∷ lines) ≡ Err fault) → (names_in bytes ≡ Err fault) ⊎ (lines_in known bytes ≡ Err fault)
    by (inl e) = inl (sym g.looks_on ∙ e)
    by (inr e) = inr (sym g.builds ∙ e)

-- no line remains
pub ends_well : (known names : List (List ℕ)) (state : State) (d : BuilderView) (n : ℕ) (rest bytes : List ℕ) (read : List (List ℕ)) → Goes known names state d n [] rest bytes → finished names state n rest ≡ Ok read
    → (names_in bytes ≡ Ok read) × (lines_in known bytes ≡ Ok d.lines)
ends_well known names state d n rest bytes read g e = (sym g.looks_on ∙ look_ends names state n rest ∙ e, sym g.builds ∙ build_ends known state d n)

pub ends_badly : (error : TextError) (known names : List (List ℕ)) (state : State) (d : BuilderView) (n : ℕ) (rest bytes : List ℕ) → Goes known names state d n [] rest bytes → Fails error (finished names state n rest)
    → OneFails known bytes error
ends_badly errors.Memory known names state d n rest bytes g h = tt
ends_badly (errors.Fault fault) known names state d n rest bytes g h = inl (sym g.looks_on ∙ look_ends names state n rest ∙ h)

-- ---- the line of an event

after_event : (known names : List (List ℕ)) (m : Event) → names_after names (saying_of known m) ≡ Ok names
after_event known names (line_events.Send to name) = refl
after_event known names (line_events.Receive from name region) = refl

pub event_right : (known names : List (List ℕ)) (d : BuilderView) (state next : State) (line : List ℕ) (m : Event) → IsEventLine known d.open_region state line m next → MayBeBuilt known names d state line → IsRight (with_event d d.line m)
event_right known names d state next line m i may = subst IsRight (event_built known d m i.known i.within) (may (saying_of known m, next) names i.step (after_event known names m))

pub event_read : (known names : List (List ℕ)) (d e : BuilderView) (state next : State) (n : ℕ) (line : List ℕ) (m : Event) → IsEventLine known d.open_region state line m next → with_event d d.line m ≡ Ok e → line_read known names d state n line ≡ Ok (names, e, next)
unfolding line_read
event_read known names d e state next n line m i is =
    bind_at (in_line n (step_of state line)) (λ step. in_line n (names_after names step.0) >>= λ m. in_line n (built known d step.0) >>= λ b. Ok (m, b, step.1)) (saying_of known m, next) (ap (in_line n) i.step)
    ∙ bind_at (in_line n (names_after names (saying_of known m))) (λ x. in_line n (built known d (saying_of known m)) >>= λ b. Ok (x, b, next)) names (ap (in_line n) (after_event known names m))
    ∙ bind_at (in_line n (built known d (saying_of known m))) (λ b. Ok (names, b, next)) e (ap (in_line n) (event_built known d m i.known i.within ∙ is))

-- ---- what is read

module _ (known : List (List ℕ)) (bytes : List ℕ) (ahead : known ≡ names_ahead bytes) where
  same_names : (names : List (List ℕ)) → names_in bytes ≡ Ok names → known ≡ names
  same_names names e = ahead ∙ ahead_are bytes names e

  pub chart_is : (names : List (List ℕ)) (lines : List LineView) → names_in bytes ≡ Ok names → lines_in known bytes ≡ Ok lines → chart_of bytes ≡ Ok (names, lines)
  unfolding chart_of
  chart_is names lines e f =
      bind_at (names_in bytes) (λ names. lines_in names bytes >>= λ lines. are_read names lines) names e
      ∙ bind_at (lines_in names bytes) (λ lines. are_read names lines) lines (ap (λ l. lines_in l bytes) (sym (same_names names e)) ∙ f)

  -- if no line has a fault by itself, the fault is that of the second look
  pub chart_unknown : (names : List (List ℕ)) (fault : Fault) → names_in bytes ≡ Ok names → (names_in bytes ≡ Err fault) ⊎ (lines_in known bytes ≡ Err fault) → chart_of bytes ≡ Err fault
  unfolding chart_of
  chart_unknown names fault e (inl h) = absurd (let both = sym e ∙ h in cc)
  chart_unknown names fault e (inr h) =
      bind_at (names_in bytes) (λ names. lines_in names bytes >>= λ lines. are_read names lines) names e
      ∙ stops (lines_in names bytes) (λ lines. are_read names lines) fault (ap (λ l. lines_in l bytes) (sym (same_names names e)) ∙ h)

pub chart_fails : (error : TextError) (bytes : List ℕ) → Fails error (names_in bytes) → Fails error (chart_of bytes)
unfolding chart_of
chart_fails error bytes h = fails_then error (names_in bytes) (λ names. lines_in names bytes >>= λ lines. are_read names lines) h

-- ---- a line that is read word by word

pub read_stops : (error : TextError) (known names : List (List ℕ)) (d : BuilderView) (state : State) (n : ℕ) (line : List ℕ) → Fails error (in_line n (step_of state line)) → Fails error (line_read known names d state n line)
unfolding line_read
read_stops error known names d state n line h = fails_then error _ _ h

pub read_stops_at : (error : TextError) (known names : List (List ℕ)) (d : BuilderView) (state : State) (n : ℕ) (line : List ℕ) (step : Step) → in_line n (step_of state line) ≡ Ok step → Fails error (in_line n (names_after names step.0))
    → Fails error (line_read known names d state n line)
unfolding line_read
read_stops_at error known names d state n line step e h = fails_so error _ _ (sym (bind_at _ _ step e)) (fails_then error _ _ h)

pub build_fails : (error : TextError) (known names : List (List ℕ)) (d : BuilderView) (state : State) (n : ℕ) (line : List ℕ) (step : Step) (more : List (List ℕ)) → in_line n (step_of state line) ≡ Ok step → in_line n (names_after names step.0) ≡ Ok more
    → Fails error (in_line n (built known d step.0)) → Fails error (line_read known names d state n line)
unfolding line_read
build_fails error known names d state n line step more e f h = fails_so error _ _ (sym (bind_at _ _ step e ∙ bind_at _ _ more f)) (fails_then error _ _ h)

pub reads_line : (known names : List (List ℕ)) (d : BuilderView) (state : State) (n : ℕ) (line : List ℕ) (step : Step) (more : List (List ℕ)) (b : BuilderView) → in_line n (step_of state line) ≡ Ok step → in_line n (names_after names step.0) ≡ Ok more
    → in_line n (built known d step.0) ≡ Ok b → line_read known names d state n line ≡ Ok (more, b, step.1)
unfolding line_read
reads_line known names d state n line step more b e f g = bind_at _ _ step e ∙ bind_at _ _ more f ∙ bind_at _ _ b g
