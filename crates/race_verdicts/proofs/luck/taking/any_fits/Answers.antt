use Rattle.race_verdicts.proofs.LuckLemmas.TakingLemmas.{fits_begin, fits_past, fits_here, fits_more, fits_none}
use Rattle.race_verdicts.specs.Recordings.{words_view}
use Rattle.race_verdicts.proofs.luck.taking.any_fits.Goals as goal

pub loop-place-init : goal.loop-place-init
loop-place-init c = fits_begin c.args.taken.now c.args.line c.args.first (words_view c.args.words.now) c.requires.first

pub returns-then-stated-line : goal.returns-then-stated-line
returns-then-stated-line c =
    fits_past c.args.taken.now c.args.line c.args.first (words_view c.args.words.now) c.requires.first c.loop-place.place _ c.requires.rising c.loop-place.auto.place c.loop-place-test.true
    c.if-stated-line.true c.loop-place.invariant

pub returns-then-fits : goal.returns-then-fits
returns-then-fits c =
    fits_here c.args.taken.now c.args.line c.args.first (words_view c.args.words.now) c.requires.first c.loop-place.place _ c.loop-place-test.true c.if-stated-line.false (c.fits.ensures.0 c.if-fits.true)

pub loop-place-preserved : goal.loop-place-preserved
loop-place-preserved c =
    fits_more c.args.taken.now c.args.line c.args.first (words_view c.args.words.now) c.requires.first c.loop-place.place _ c.loop-place-test.true
    (λ fits. let yes = c.fits.ensures.1 fits in absurd (cc (yes, c.if-fits.false))) c.loop-place.invariant

pub returns : goal.returns
returns c = fits_none c.args.taken.now c.args.line c.args.first (words_view c.args.words.now) c.requires.first c.loop-place.place c.loop-place-test.false c.loop-place.invariant
