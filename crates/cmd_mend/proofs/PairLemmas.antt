-- Words that name no pair of events: which refusals there are.
use Rattle.std.proofs.Common.{◌≡◌, ℕ, ◌⊎◌, inl, inr, Bool, true, false, cond, List, length, Option, None, Some, Result, Ok, Err, refl, sym, subst}
use Rattle.std.specs.Prelude.{nat_lt}
use Rattle.chart.specs.declared.event.Event.{Event}
use Rattle.chart.specs.Events.{ith}
use Rattle.chart.specs.Charts.{LineView, chart_lines, IsPossible}
use Rattle.cmd_base.specs.Contents.{Named}
use Rattle.texts.specs.Outs.{Sink}
use Rattle.cmd_base.specs.declared.named.missing.Missing.TheVariants.{Instance}
use Rattle.cmd_base.specs.Named.NamedRefusals.{missing_on}
use Rattle.cmd_base.specs.declared.pairs.error.PairError.{PairError}
use Rattle.cmd_base.specs.declared.pairs.error.PairError.TheVariants.{Program, NoSuchEvent, NotEarlier, NotAReceive, ManySlots}
use Rattle.cmd_base.specs.declared.pairs.pair.Asked.{Asked}
use Rattle.cmd_base.specs.declared.pairs.pair.Pair.{Pair}
use Rattle.cmd_base.specs.Pairs.Pairs.{pair_on, pair_at, pair_of}
use Rattle.cmd_base.specs.Named.Asked.{instance_named, has_event}
use Rattle.schedule_replay.specs.ReorderedRuns.Reorderings.{receives}
use Rattle.cmd_mend.specs.declared.error.MendRefusal.TheVariants.{View}
use Rattle.cmd_mend.specs.declared.showing.Wanted.{Wanted}
use Rattle.cmd_mend.specs.Showing.{Shows}

abbrev refusing : PairError → Result Pair PairError
refusing e = Err e

-- refusals that are one
same_error : (a b : PairError) → refusing a ≡ refusing b → a ≡ b
same_error a b same = cc

-- a test that wasn't passed, or what was answered behind it
failed : (b : Bool) (x : Result Pair PairError) (e error : PairError) → cond b x (Err e) ≡ Err error → (x ≡ Err error) ⊎ (error ≡ e)
failed true x e error is = inl is
failed false x e error is = inr (same_error error e (sym is))

-- there is no such event, or the two are no pair
abbrev IsNoPair : PairError → Type 0
IsNoPair (Program cause) = ⊥
IsNoPair (ManySlots slots) = ⊥
IsNoPair error = Unit {0}

-- a test that decides
by_test : (b : Bool) (x : Result Pair PairError) (e error : PairError) → IsNoPair e → cond b x (Err e) ≡ Err error → (x ≡ Err error → IsNoPair error) → IsNoPair error
by_test b x e error kind is inner = elim (failed b x e error is) [
  | inl behind ↦ inner behind
  | inr same ↦ subst IsNoPair (sym same) kind
]

on_line : (names : List (List ℕ)) (p : ℕ) (events : List Event) (e r : ℕ) (error : PairError) → pair_on names p events e r ≡ Err error → IsNoPair error
on_line names p events e r error is =
    let missing = NoSuchEvent (missing_on names p events) in
    by_test (has_event events e) _ missing error tt is (λ first.
    by_test (has_event events r) _ missing error tt first (λ second.
    by_test (nat_lt e r) _ NotEarlier error tt second (λ third.
    by_test (receives (ith events r)) _ (NotAReceive r) error tt third (λ fourth. cc))))

no_pair : (names : List (List ℕ)) (lines : List LineView) (asked : Asked) (error : PairError) → pair_of names lines asked ≡ Err error → IsNoPair error
no_pair names lines asked error is = by_instance (instance_named names asked.instance.now) is
  where
    by_instance : (found : Option ℕ) → pair_at names found lines asked.earlier asked.receive ≡ Err error → IsNoPair error
    by_instance None h = subst IsNoPair (same_error (NoSuchEvent Instance) error h) tt
    by_instance (Some p) h = on_line names p (chart_lines lines p) asked.earlier asked.receive error h

-- then nothing is written
pub not_paired : {S : Type 0} (sink : S → Sink) (old : S) (named : Named) (wanted : Wanted) (error : PairError) → pair_of named.0 named.1 wanted.asked ≡ Err error → IsPossible (length named.1) (chart_lines named.1) → Shows sink old old (Err (View error)) wanted named
not_paired sink old named wanted error is possible = by error (no_pair named.0 named.1 wanted.asked error is) is
  where
    by : (error : PairError) → IsNoPair error → pair_of named.0 named.1 wanted.asked ≡ Err error → Shows sink old old (Err (View error)) wanted named
    by (Program cause) kind same = absurd kind
    by (ManySlots slots) kind same = absurd kind
    by (NoSuchEvent missing) kind same = ((same, possible), refl)
    by NotEarlier kind same = ((same, possible), refl)
    by (NotAReceive receive) kind same = ((same, possible), refl)
