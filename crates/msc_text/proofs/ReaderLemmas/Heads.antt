-- The names that are collected before the other lines are those that the lines give, if no line has a fault.
use Rattle.std.proofs.Common.{◌≡◌, ℕ, true, false, nat_lt, List, [], ◌∷◌, ◌++◌, length, Result, Ok, Err, refl, sym, ap, ◌∙◌, append_assoc}
use Rattle.std.proofs.lemmas.Bool.{false≢true}
use Rattle.chart.specs.Keywords.{spelled}
use Rattle.msc_text.specs.ChartText.{chart_name}
use Rattle.texts.specs.Instances.{with_name}
use Rattle.texts.specs.declared.fault.Cause.{Cause}
use Rattle.texts.specs.declared.fault.Cause.TheVariants.{Instances}
use Rattle.texts.proofs.NewNames.{with_name-is}
use Rattle.texts.proofs.Results.{guard_ok, ok_is}
use Rattle.msc_text.specs.Reader.Ahead.{given_or, with_step, with_heads, begins}
use Rattle.msc_text.specs.Reader.Reading.{names_after}
use Rattle.msc_text.specs.Reader.Steps.{Step, step_of}
use Rattle.msc_text.specs.declared.reader.state.State.{State}
use Rattle.msc_text.specs.declared.reader.state.State.TheVariants as states
use Rattle.msc_text.specs.declared.reader.state.Saying.{Saying}
use Rattle.msc_text.specs.declared.reader.state.Saying.TheVariants as sayings
use Rattle.msc_text.proofs.ReaderLemmas.Found.{IsPrefix, same_prefix}
use Rattle.msc_text.proofs.ReaderLemmas.Moves.{Moves}
use Rattle.msc_text.proofs.ReaderLemmas.Moves.Moves.{begins as begins_text, heads, ends, sends, receives, opens, shuts, leaves}
use Rattle.msc_text.proofs.ReaderLemmas.SayingsAgain.{saying_line, line-again, line-is}

head_begins : (own : List ℕ) → begins (saying_line (sayings.Head own)) ≡ true
unfolding spelled
head_begins own = refl

-- a line that begins otherwise gives no name
skips : (names : List (List ℕ)) (line : List ℕ) (r : Result Step Cause) → step_of states.Outside line ≡ r → begins line ≡ false → with_step names r ≡ names
skips names line (Err cause) e b = refl
skips names line (Ok (sayings.Head own, next)) e b =
    let is : line ≡ saying_line (sayings.Head own) = (line-is states.Outside line (sayings.Head own, next) e).1 in
    absurd (false≢true (sym b ∙ ap begins is ∙ head_begins own))
skips names line (Ok (sayings.Begin, next)) e b = refl
skips names line (Ok (sayings.Send to name, next)) e b = refl
skips names line (Ok (sayings.Receive from name, next)) e b = refl
skips names line (Ok (sayings.Open, next)) e b = refl
skips names line (Ok (sayings.Shut, next)) e b = refl
skips names line (Ok (sayings.Foot, next)) e b = refl
skips names line (Ok (sayings.End, next)) e b = refl

pub skipped : (names : List (List ℕ)) (line : List ℕ) → begins line ≡ false → with_step names (step_of states.Outside line) ≡ names
skipped names line b = skips names line (step_of states.Outside line) refl b

-- ---- a line without a fault

others : (names more : List (List ℕ)) (line : List ℕ) (saying : Saying) → line ≡ saying_line saying → begins (saying_line saying) ≡ false → names ≡ more → with_step names (step_of states.Outside line) ≡ more
others names more line saying is b same = skipped names line (ap begins is ∙ b) ∙ same

moved : {state next : State} {saying : Saying} (names more : List (List ℕ)) (line : List ℕ) → Moves state saying next → line ≡ saying_line saying → names_after names saying ≡ Ok more → with_step names (step_of states.Outside line) ≡ more
unfolding spelled chart_name
moved names more line begins_text is e = others names more line sayings.Begin is refl (ok_is names more e)
moved names more line (heads {own} h) is e =
    ap (λ l. with_step names (step_of states.Outside l)) is ∙ ap (with_step names) (line-again (heads h)) ∙ ap (given_or names) e
moved names more line ends is e = others names more line sayings.End is refl (ok_is names more (guard_ok (nat_lt (length names) 2) Instances (Ok names) more e).1)
moved names more line (sends {own} {to} {name} h) is e = others names more line (sayings.Send to name) is refl (ok_is names more e)
moved names more line (receives {own} {from} {name} h) is e = others names more line (sayings.Receive from name) is refl (ok_is names more e)
moved names more line opens is e = others names more line sayings.Open is refl (ok_is names more e)
moved names more line shuts is e = others names more line sayings.Shut is refl (ok_is names more e)
moved names more line leaves is e = others names more line sayings.Foot is refl (ok_is names more e)

-- it adds the names that its meaning gives
pub ahead_goes_on : (names more : List (List ℕ)) (state : State) (line : List ℕ) (lines : List (List ℕ)) (step : Step) → step_of state line ≡ Ok step → names_after names step.0 ≡ Ok more → with_heads names (line ∷ lines) ≡ with_heads more lines
ahead_goes_on names more state line lines step e f =
    let event_saying = line-is state line step e in
    ap (λ l. with_heads l lines) (moved names more line event_saying.0 event_saying.1 f)

-- ---- names that were given remain

given-prefix : (names : List (List ℕ)) (own : List ℕ) (r : Result (List (List ℕ)) Cause) → with_name names own ≡ r → IsPrefix names (given_or names r)
given-prefix names own (Ok more) e = record { later = own ∷ []; is = sym (with_name-is names own more e) }
given-prefix names own (Err cause) e = same_prefix names names refl

step-prefix : (names : List (List ℕ)) (r : Result Step Cause) → IsPrefix names (with_step names r)
step-prefix names (Err cause) = same_prefix names names refl
step-prefix names (Ok (sayings.Head own, next)) = given-prefix names own (with_name names own) refl
step-prefix names (Ok (sayings.Begin, next)) = same_prefix names names refl
step-prefix names (Ok (sayings.Send to name, next)) = same_prefix names names refl
step-prefix names (Ok (sayings.Receive from name, next)) = same_prefix names names refl
step-prefix names (Ok (sayings.Open, next)) = same_prefix names names refl
step-prefix names (Ok (sayings.Shut, next)) = same_prefix names names refl
step-prefix names (Ok (sayings.Foot, next)) = same_prefix names names refl
step-prefix names (Ok (sayings.End, next)) = same_prefix names names refl

pub heads-prefix : (names : List (List ℕ)) (lines : List (List ℕ)) → IsPrefix names (with_heads names lines)
heads-prefix names [] = same_prefix names names refl
heads-prefix names (line ∷ lines) =
    let p = step-prefix names (step_of states.Outside line) in
    let q = heads-prefix (with_step names (step_of states.Outside line)) lines in
    record { later = p.later ++ q.later; is = q.is ∙ ap (λ x. x ++ q.later) p.is ∙ append_assoc names p.later q.later }
