-- What is shown of a pair, by what became of it.
use Rattle.std.proofs.Common.{◌≡◌, ℕ, ◌≤◌, List, length, Result, Ok, Err, refl, sym, subst}
use Rattle.chart.specs.Charts.{LineView, chart_lines}
use Rattle.closure.specs.Faults.{place_of}
use Rattle.cmd_base.specs.declared.error.ProgramError.TheVariants.{Usage, File, Memory, Text, ReceiveWithoutSend, NameMismatch, Cyclic, Write}
use Rattle.repair.specs.declared.error.MendError.{MendError}
use Rattle.repair.specs.declared.error.MendError.TheVariants as fulls
use Rattle.repair.specs.declared.mending.Mending.{Mending}
use Rattle.repair.specs.Mends.{Fails}
use Rattle.texts.specs.Outs.{Sink}
use Rattle.cmd_base.specs.declared.pairs.error.PairError.TheVariants.{Program, NoSuchEvent, NotEarlier, NotAReceive, ManySlots}
use Rattle.cmd_base.specs.declared.pairs.pair.Pair.{Pair}
use Rattle.cmd_mend.specs.Naming.{IsMessageName}
use Rattle.cmd_mend.specs.declared.answering.Outcome.{Outcome}
use Rattle.cmd_mend.specs.declared.error.MendRefusal.{MendRefusal}
use Rattle.cmd_mend.specs.declared.error.MendRefusal.TheVariants.{View, LineFull}
use Rattle.cmd_mend.specs.declared.showing.Wanted.{Wanted}
use Rattle.cmd_mend.specs.Showing.{AreMended, Writes, Shows, IsAskedAbout, name_asked, refused_so, IsNamedFor}
use Rattle.cmd_mend.proofs.FullLemmas.{full_within}

module _ {S : Type 0} (sink : S → Sink) (names : List (List ℕ)) (lines : List LineView) (wanted : Wanted) where
  pub came_so : (old new : S) (pair : Pair) (name : List ℕ) (mending : Mending) (done : Result Outcome MendRefusal) → AreMended (names, lines) wanted pair name mending → Writes sink old new (names, lines) wanted.detail pair mending done → Shows sink old new done wanted (names, lines)
  came_so old new pair name mending (Ok outcome) are w = (pair, name, mending, are, w)
  came_so old new pair name mending (Err (View (Program Memory))) are w = w
  came_so old new pair name mending (Err (View (Program Write))) are w = (pair, name, mending, are, w)
  came_so old new pair name mending (Err (View (Program Usage))) are w = absurd w
  came_so old new pair name mending (Err (View (Program File))) are w = absurd w
  came_so old new pair name mending (Err (View (Program (Text fault)))) are w = absurd w
  came_so old new pair name mending (Err (View (Program (ReceiveWithoutSend p i)))) are w = absurd w
  came_so old new pair name mending (Err (View (Program (NameMismatch p i)))) are w = absurd w
  came_so old new pair name mending (Err (View (Program Cyclic))) are w = absurd w
  came_so old new pair name mending (Err (View (NoSuchEvent missing))) are w = absurd w
  came_so old new pair name mending (Err (View NotEarlier)) are w = absurd w
  came_so old new pair name mending (Err (View (NotAReceive receive))) are w = absurd w
  came_so old new pair name mending (Err (View (ManySlots k))) are w = absurd w
  came_so old new pair name mending (Err (LineFull full)) are w = absurd w

  -- a line is full, or memory ran out
  full_shown : (old : S) (pair : Pair) (name : List ℕ) (error : MendError) → IsAskedAbout (names, lines) wanted pair → IsMessageName lines (name_asked wanted) name → Fails (chart_lines lines) (place_of pair.earlier) (place_of pair.receive) error → Shows sink old old (Err (refused_so names error)) wanted (names, lines)
  full_shown old pair name (fulls.LineFull p) asked called fails = ((pair, name, p, asked, called, refl, fails), refl)
  full_shown old pair name fulls.Memory asked called fails = refl

  pub refused_shown : (old : S) (pair : Pair) (name : List ℕ) (error : MendError) (e : MendRefusal) → IsAskedAbout (names, lines) wanted pair → IsMessageName lines (name_asked wanted) name → Fails (chart_lines lines) (place_of pair.earlier) (place_of pair.receive) error → e ≡ refused_so names error → Shows sink old old (Err e) wanted (names, lines)
  refused_shown old pair name error e asked called fails so = subst (λ (x : MendRefusal). Shows sink old old (Err x) wanted (names, lines)) (sym so) (full_shown old pair name error asked called fails)

pub named_for : (lines : List LineView) (pair : Pair) (n : ℕ) (error : MendError) → n ≡ length lines → Fails (chart_lines lines) (place_of pair.earlier) (place_of pair.receive) error → IsNamedFor n error
named_for lines pair n (fulls.LineFull p) long fails = subst (λ k. p ≤ k) (sym long) (full_within lines (place_of pair.earlier) (place_of pair.receive) p fails)
named_for lines pair n fulls.Memory long fails = tt
