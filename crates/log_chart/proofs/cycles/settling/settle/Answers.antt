use Rattle.std.proofs.Common.{◌<◌, sym, subst}
use Rattle.std.specs.Prelude.{MatchOption}
use Rattle.log_chart.specs.HostLines.{kept}
use Rattle.log_chart.specs.Cycles.Freeing.{HasNone, IsFirst}
use Rattle.log_chart.specs.Cycles.Freeing.Settles.{done, turn}
use Rattle.log_chart.specs.Cycles.Turns.{takers}
use Rattle.log_chart.proofs.CyclesLemmas.SettleLemmas.{first_takes, freed_streams, freed_among, freed_less}
use Rattle.log_chart.proofs.cycles.settling.settle.Goals as goal

pub free-requires : goal.free-requires
free-requires c =
    let log = c.turns.log in
    let first : IsFirst (kept log) c.in-Some.number = subst (λ f. MatchOption f (HasNone (kept log)) (IsFirst (kept log))) c.in-Some.is c.in_ok-number.ensures in
    (first_takes log c.in-Some.number first).1

pub turns-preserved : goal.turns-preserved
turns-preserved c =
    let log = c.turns.log in
    let first : IsFirst (kept log) c.in-Some.number = subst (λ f. MatchOption f (HasNone (kept log)) (IsFirst (kept log))) c.in-Some.is c.in_ok-number.ensures in
    rw c.free.ensures record {
      streams = freed_streams c.in-Some.number log c.turns.invariant.streams;
      among = freed_among c.args.hosts c.in-Some.number log c.turns.invariant.among;
      so_far = λ out settles. c.turns.invariant.so_far out (turn c.in-Some.number first settles);
    }

pub turns-smaller : goal.turns-smaller
turns-smaller c =
    let log = c.turns.log in
    let first : IsFirst (kept log) c.in-Some.number = subst (λ f. MatchOption f (HasNone (kept log)) (IsFirst (kept log))) c.in-Some.is c.in_ok-number.ensures in
    let its = first_takes log c.in-Some.number first in
    subst (λ l. takers l < takers log) (sym c.free.ensures) (freed_less c.in-Some.number log its.0 its.1 its.2 its.3)

pub returns : goal.returns
returns c =
    let log = c.turns.log in
    let none : HasNone (kept log) = subst (λ f. MatchOption f (HasNone (kept log)) (IsFirst (kept log))) c.in_default.is c.in_ok-number.ensures in
    c.turns.invariant.so_far log (done none)

pub free_along-requires-clause-number : goal.free_along-requires-clause-number
free_along-requires-clause-number c =
    let log = c.turns.log in
    let first : IsFirst (kept log) c.in-Some.number = subst (λ f. MatchOption f (HasNone (kept log)) (IsFirst (kept log))) c.in-Some.is c.in_ok-number.ensures in
    (first_takes log c.in-Some.number first).1

pub free_along-requires-clause-on : goal.free_along-requires-clause-on
free_along-requires-clause-on c =
    let log = c.turns.log in
    subst (λ f. MatchOption f (HasNone (kept log)) (IsFirst (kept log))) c.in-Some.is c.in_ok-number.ensures

pub line_at-first-requires : goal.line_at-first-requires
line_at-first-requires c =
    let log = c.turns.log in
    let first : IsFirst (kept log) c.in-Some.number = subst (λ f. MatchOption f (HasNone (kept log)) (IsFirst (kept log))) c.in-Some.is c.in_ok-number.ensures in
    (first_takes log c.in-Some.number first).1

pub turns-preserved-in-Continue-branch-4 : goal.turns-preserved-in-Continue-branch-4
turns-preserved-in-Continue-branch-4 c = record {
  streams = c.in_ok-free_along.ensures.streams;
  among = c.in_ok-free_along.ensures.among c.args.hosts c.turns.invariant.among;
  so_far = λ out settles. c.turns.invariant.so_far out (c.in_ok-free_along.ensures.turns out settles);
}
