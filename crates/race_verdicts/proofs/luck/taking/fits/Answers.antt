use Rattle.race_verdicts.specs.Recordings.{pattern_view, words_view}
use Rattle.race_verdicts.proofs.LuckLemmas.TakingLemmas.{fits_both}
use Rattle.race_verdicts.proofs.luck.taking.fits.Goals as goal

pub returns-then-fits_sender : goal.returns-then-fits_sender
returns-then-fits_sender c =
    fits_both (pattern_view c.args.pattern.now) (words_view c.args.words.now) c.fits_name.result (c.fits_sender.ensures.0 c.if-fits_sender.true) c.fits_name.ensures
