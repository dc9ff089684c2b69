use Rattle.std.proofs.Common.{◌≡◌, Bool, List, ℕ, [], ◌∷◌, ◌++◌, sym, ap, ◌∙◌, length, arith}
use Rattle.std.specs.Prelude.{bytes_eq}
use Rattle.cmd_base.proofs.PartLemmas.{passed-none, passed-one, whole_part, part_until}
use Rattle.cmd_base.proofs.chart_part.chart_part.Goals as goal

pub loop-line-init : goal.loop-line-init
loop-line-init c = (omega arith, ([], passed-none c.args.bytes.now))

pub slice_bounds-result-count : goal.slice_bounds-result-count
slice_bounds-result-count c = omega (arith, c.loop-line.invariant.0, c.in-Some.ensures.shorter)

pub returns-then-eq : goal.returns-then-eq
returns-then-eq c =
    let had = c.loop-line.invariant.1 in
    part_until c.args.bytes.now c.loop-line.rest.now c.in-Some.below.now c.in-Some.line.now had.0 had.1 c.in-Some.ensures.line c.in-Some.ensures.end
    (sym (c.eq.ensures ∙ ap (bytes_eq c.in-Some.line.now) c.as_slice.ensures) ∙ c.if-eq.true)

pub loop-line-preserved : goal.loop-line-preserved
loop-line-preserved c =
    let had = c.loop-line.invariant.1 in
    let line = c.in-Some.line.now in (
      omega (arith, c.loop-line.invariant.0, c.in-Some.ensures.shorter),
      (
        had.0 ++ line ∷ [],
        passed-one c.args.bytes.now c.loop-line.rest.now c.in-Some.below.now line had.0 had.1 c.in-Some.ensures.line c.in-Some.ensures.end
            (sym (c.eq.ensures ∙ ap (bytes_eq line) c.as_slice.ensures) ∙ c.if-eq.false),
      ),
    )

pub returns : goal.returns
returns c =
    let had = c.loop-line.invariant.1 in
    whole_part c.args.bytes.now c.loop-line.rest.now had.0 had.1 c.in_default.ensures.no_line
