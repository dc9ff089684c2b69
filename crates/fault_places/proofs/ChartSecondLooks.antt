-- The second look at a chart's text up to the line with a partner that is no instance, and the names that it knows.
use Rattle.std.proofs.Common.{◌≡◌, ℕ, ◌+◌, ◌≤◌, ltb, List, [], ◌∷◌, ◌++◌, length, Result, Ok, Err, inl, inr, refl, sym, ap, ◌∙◌, subst, arith, add-zero, append_assoc}
use Rattle.std.specs.List.{AllByRecursion}
use Rattle.std.proofs.lemmas.Bool.{ltb-false}
use Rattle.chart.specs.Charts.{LineView}
use Rattle.chart.specs.Names.{IsName}
use Rattle.chart.specs.NameSets.{AreNames}
use Rattle.fault_places.proofs.ChartReads.{want_goes}
use Rattle.fault_places.specs.ChartCarets.{want_of}
use Rattle.fault_places.specs.Standings.{line_at, first_or}
use Rattle.msc_text.proofs.ReaderLemmas.Found.{IsPrefix, same_prefix, is_finished, Looks, looks}
use Rattle.msc_text.proofs.ReaderLemmas.Looks.{look_goes_on, build_goes_on}
use Rattle.msc_text.proofs.ReaderLemmas.Moves.{Moves}
use Rattle.msc_text.proofs.ReaderLemmas.Moves.Moves.{begins, heads, ends, sends as sends_one, receives as receives_one, opens, shuts, leaves}
use Rattle.msc_text.proofs.ReaderLemmas.Onward.{Outcome, onward}
use Rattle.msc_text.proofs.ReaderLemmas.SayingsAgain.{line-is}
use Rattle.msc_text.proofs.ReaderLemmas.Standing.{SoFar}
use Rattle.msc_text.specs.Reader.Builders.{BuilderView, built}
use Rattle.msc_text.specs.Reader.Reading.{names_after, look_from, build_from}
use Rattle.msc_text.specs.Reader.Steps.{Step, step_by, step_of}
use Rattle.msc_text.specs.declared.reader.state.Saying.{Saying}
use Rattle.msc_text.specs.declared.reader.state.Saying.TheVariants as sayings
use Rattle.msc_text.specs.declared.reader.state.State.{State}
use Rattle.msc_text.specs.declared.reader.state.State.TheVariants as states
use Rattle.texts.proofs.NewNames.{with_name-names, with_name-is}
use Rattle.texts.proofs.Results.{guard_ok, in_line_ok, ok_is}
use Rattle.texts.specs.Faults.{◌>>=◌, in_line}
use Rattle.texts.specs.Lines.{words_of}
use Rattle.texts.specs.declared.fault.Cause.TheVariants as causes
use Rattle.texts.specs.declared.fault.Fault.{Fault}
use Rattle.texts.specs.declared.fault.Fault.TheVariants.{Line}

-- ---- the names that are read

after_prefix : (begun more : List (List ℕ)) (saying : Saying) → names_after begun saying ≡ Ok more → IsPrefix begun more
after_prefix begun more sayings.Begin e = same_prefix begun more (ok_is begun more e)
after_prefix begun more (sayings.Head own) e = record { later = own ∷ []; is = sym (with_name-is begun own more e) }
after_prefix begun more (sayings.Send to name) e = same_prefix begun more (ok_is begun more e)
after_prefix begun more (sayings.Receive from name) e = same_prefix begun more (ok_is begun more e)
after_prefix begun more sayings.Open e = same_prefix begun more (ok_is begun more e)
after_prefix begun more sayings.Shut e = same_prefix begun more (ok_is begun more e)
after_prefix begun more sayings.Foot e = same_prefix begun more (ok_is begun more e)
after_prefix begun more sayings.End e = same_prefix begun more (ok_is begun more (guard_ok (ltb (length begun) 2) causes.Instances (Ok begun) more e).1)

-- the names so far are the first of all names
look_prefix : (begun : List (List ℕ)) (state : State) (n : ℕ) (lines : List (List ℕ)) (rest : List ℕ) (names : List (List ℕ)) → look_from begun state n lines rest ≡ Ok names → IsPrefix begun names
unfolding look_from
look_prefix begun state n [] rest names e = same_prefix begun names (is_finished begun state n rest names e).names_are
look_prefix begun state n (line ∷ lines) rest names e =
    let l = looks begun state n line lines rest names e in
    let p = after_prefix begun l.more l.step.0 l.adds in
    let q = look_prefix l.more l.step.1 (n + 1) lines rest names l.others in
    record { later = p.later ++ q.later; is = q.is ∙ ap (λ x. x ++ q.later) p.is ∙ append_assoc begun p.later q.later }

-- the chart has ended only with two instances at least
abbrev IsSeveral : State → List (List ℕ) → Type 0
IsSeveral states.Done names = 2 ≤ length names
IsSeveral _ names = Unit {0}

pub record AreWell (state : State) (names : List (List ℕ)) : Type 0 where
  pub are : AreNames names
  pub each : AllByRecursion IsName names
  pub several : IsSeveral state names

all_more : (names : List (List ℕ)) (name : List ℕ) → AllByRecursion IsName names → IsName name → AllByRecursion IsName (names ++ name ∷ [])
all_more [] name h is = (is, tt)
all_more (x ∷ names) name h is = (h.0, all_more names name h.1 is)

well_on : {state next : State} {saying : Saying} (names more : List (List ℕ)) → Moves state saying next → names_after names saying ≡ Ok more → AreWell state names → AreWell next more
well_on names more begins e h = let same = ok_is names more e in record { are = subst AreNames same h.are; each = subst (AllByRecursion IsName) same h.each; several = tt }
well_on names more (heads {own} is) e h =
    let n = with_name-names names own more h.are e in
    record { are = n.0; each = subst (AllByRecursion IsName) (sym n.1) (all_more names own h.each is); several = tt }
well_on names more ends e h =
    let g = guard_ok (ltb (length names) 2) causes.Instances (Ok names) more e in
    let same = ok_is names more g.1 in
    record { are = subst AreNames same h.are; each = subst (AllByRecursion IsName) same h.each; several = subst (λ l. 2 ≤ length l) same (ltb-false (length names) 2 g.0) }
well_on names more (sends_one is) e h = let same = ok_is names more e in record { are = subst AreNames same h.are; each = subst (AllByRecursion IsName) same h.each; several = tt }
well_on names more (receives_one is) e h = let same = ok_is names more e in record { are = subst AreNames same h.are; each = subst (AllByRecursion IsName) same h.each; several = tt }
well_on names more opens e h = let same = ok_is names more e in record { are = subst AreNames same h.are; each = subst (AllByRecursion IsName) same h.each; several = tt }
well_on names more shuts e h = let same = ok_is names more e in record { are = subst AreNames same h.are; each = subst (AllByRecursion IsName) same h.each; several = tt }
well_on names more leaves e h = let same = ok_is names more e in record { are = subst AreNames same h.are; each = subst (AllByRecursion IsName) same h.each; several = tt }

-- names that are read are those of two instances at least
pub well_read : (begun : List (List ℕ)) (state : State) (n : ℕ) (lines : List (List ℕ)) (rest : List ℕ) (names : List (List ℕ)) → AreWell state begun → look_from begun state n lines rest ≡ Ok names → AreWell states.Done names
unfolding look_from
well_read begun state n [] rest names h e = let f = is_finished begun state n rest names e in subst (AreWell states.Done) f.names_are (subst (λ s. AreWell s begun) f.state_is h)
well_read begun state n (line ∷ lines) rest names h e =
    let l = looks begun state n line lines rest names e in
    let says = line-is state line l.step (in_line_ok n (step_of state line) l.step l.reads) in
    well_read l.more l.step.1 (n + 1) lines rest names (well_on begun l.more says.0 l.adds h) l.others

-- ---- the line where the second look stops

pub record IsUnknownStop (known begun : List (List ℕ)) (state : State) (d : BuilderView) (n : ℕ) (lines : List (List ℕ)) (rest : List ℕ) (number : ℕ) : Type 0 where
  pub above : List (List ℕ)
  pub below : List (List ℕ)
  pub are : lines ≡ above ++ below
  pub counted : number ≡ n + length above
  pub after : List (List ℕ)
  pub reached : State
  pub built_d : BuilderView
  pub looks_on : (more : List (List ℕ)) (end : List ℕ) → look_from begun state n (above ++ more) end ≡ look_from after reached (n + length above) more end
  pub builds_on : (more : List (List ℕ)) → build_from known state d n (above ++ more) ≡ build_from known reached built_d (n + length above) more
  pub wanted : line_at (want_of state) above ≡ want_of reached
  pub so_far : SoFar known after reached built_d
  pub step : Step
  pub more : List (List ℕ)
  pub reads : step_by reached (words_of (first_or rest below)) ≡ Ok step
  pub adds : names_after after step.0 ≡ Ok more
  pub unknown : built known built_d step.0 ≡ Err causes.UnknownInstance
  pub later : List (List ℕ)
  pub prefix : known ≡ more ++ later

stop_here : (known begun : List (List ℕ)) (state : State) (d : BuilderView) (n : ℕ) (line : List ℕ) (lines : List (List ℕ)) (rest : List ℕ) (number : ℕ) (step : Step) (more later : List (List ℕ)) → SoFar known begun state d → step_of state line ≡ Ok step → names_after begun step.0 ≡ Ok more
    → built known d step.0 ≡ Err causes.UnknownInstance → known ≡ more ++ later → n ≡ number → IsUnknownStop known begun state d n (line ∷ lines) rest number
unfolding step_of
stop_here known begun state d n line lines rest number step more later s reads adds unknown prefix same = record {
  above = [];
  below = line ∷ lines;
  are = refl;
  counted = sym same ∙ sym (add-zero n);
  after = begun;
  reached = state;
  built_d = d;
  looks_on = λ m end. ap (λ k. look_from begun state k m end) (sym (add-zero n));
  builds_on = λ m. ap (λ k. build_from known state d k m) (sym (add-zero n));
  wanted = refl;
  so_far = s;
  step = step;
  more = more;
  reads = reads;
  adds = adds;
  unknown = unknown;
  later = later;
  prefix = prefix;
}

stop_later : (known begun more : List (List ℕ)) (state : State) (d e : BuilderView) (n : ℕ) (line : List ℕ) (lines : List (List ℕ)) (rest : List ℕ) (number : ℕ) (step : Step) → step_of state line ≡ Ok step → names_after begun step.0 ≡ Ok more → built known d step.0 ≡ Ok e
    → IsUnknownStop known more step.1 e (n + 1) lines rest number → IsUnknownStop known begun state d n (line ∷ lines) rest number
stop_later known begun more state d e n line lines rest number step reads adds builds s = record {
  above = line ∷ s.above;
  below = s.below;
  are = ap (λ l. line ∷ l) s.are;
  counted = let counted = s.counted in omega arith;
  after = s.after;
  reached = s.reached;
  built_d = s.built_d;
  looks_on = λ tail end.
      (let same : (n + 1) + length s.above ≡ n + length (line ∷ s.above) = omega arith in
      look_goes_on begun more state n line (s.above ++ tail) end step (ap (in_line n) reads) (ap (in_line n) adds) ∙ s.looks_on tail end ∙ ap (λ k. look_from s.after s.reached k tail end) same);
  builds_on = λ tail.
      (let same : (n + 1) + length s.above ≡ n + length (line ∷ s.above) = omega arith in
      build_goes_on known state d e n line (s.above ++ tail) step (ap (in_line n) reads) (ap (in_line n) builds) ∙ s.builds_on tail ∙ ap (λ k. build_from known s.reached s.built_d k tail) same);
  wanted = ap (λ want. line_at want s.above) (want_goes state line step reads) ∙ s.wanted;
  so_far = s.so_far;
  step = s.step;
  more = s.more;
  reads = s.reads;
  adds = s.adds;
  unknown = s.unknown;
  later = s.later;
  prefix = s.prefix;
}

-- the second look stops at the line with this number
abbrev stopped_at : ℕ → Result (List LineView) Fault
stopped_at number = Err (Line number causes.UnknownInstance)

pub unknown_stop : (known begun : List (List ℕ)) (state : State) (d : BuilderView) (n : ℕ) (lines : List (List ℕ)) (rest : List ℕ) (number : ℕ) → SoFar known begun state d → look_from begun state n lines rest ≡ Ok known
    → build_from known state d n lines ≡ Err (Line number causes.UnknownInstance) → IsUnknownStop known begun state d n lines rest number
unfolding build_from
unknown_stop known begun state d n [] rest number s e f = absurd cc
unknown_stop known begun state d n (line ∷ lines) rest number s e f =
    let l = looks begun state n line lines rest known e in
    let p = look_prefix l.more l.step.1 (n + 1) lines rest known l.others in
    let reads : step_of state line ≡ Ok l.step = in_line_ok n (step_of state line) l.step l.reads in
    let says = line-is state line l.step reads in
    by l reads p (onward p.later s says.0 l.adds p.is)
    (λ d2 t g. unknown_stop known l.more l.step.1 d2 (n + 1) lines rest number t l.others g)
  where
    by : (l : Looks begun state n line lines rest known) → step_of state line ≡ Ok l.step → (p : IsPrefix l.more known) → Outcome known l.more state l.step.1 d l.step.0
        → ((d2 : BuilderView) → SoFar known l.more l.step.1 d2 → build_from known l.step.1 d2 (n + 1) lines ≡ Err (Line number causes.UnknownInstance) → IsUnknownStop known l.more l.step.1 d2 (n + 1) lines rest number)
        → IsUnknownStop known begun state d n (line ∷ lines) rest number
    by l reads p (inl unknown) again =
        let here : in_line n (step_of state line) >>= (λ step. in_line n (built known d step.0) >>= λ more. build_from known step.1 more (n + 1) lines) ≡ Err (Line n causes.UnknownInstance) =
        ap (λ r. in_line n r >>= (λ step. in_line n (built known d step.0) >>= λ more. build_from known step.1 more (n + 1) lines)) reads ∙ ap (λ r. in_line n r >>= λ more. build_from known l.step.1 more (n + 1) lines) unknown in
        let both : stopped_at n ≡ stopped_at number = sym here ∙ f in
        stop_here known begun state d n line lines rest number l.step l.more p.later s reads l.adds unknown p.is cc
    by l reads p (inr (d2, builds)) again =
        stop_later known begun l.more state d d2 n line lines rest number l.step reads l.adds builds.is_built
        (again d2 builds.made (sym (build_goes_on known state d d2 n line lines l.step (ap (in_line n) reads) (ap (in_line n) builds.is_built)) ∙ f))
