use Rattle.std.proofs.Common.{[], ◌∷◌, Some, None}
use Rattle.std.proofs.lemmas.Bool.Decides.{Decides-eqb}
use Rattle.std.proofs.lemmas.Slice.Eq.{starts_is, strip_suffix_is, slice_eq-Decides}
use Rattle.race_verdicts.proofs.LuckLemmas.TakingLemmas.{name_begins, name_whole}
use Rattle.race_verdicts.proofs.luck.taking.fits_name.Goals as goal

pub returns-in-Some : goal.returns-in-Some
returns-in-Some c =
    name_begins c.args.names.now c.args.name.now c.in-Some.front.now c.starts_with.result (strip_suffix_is Decides-eqb c.args.names.now (42 ∷ []) (Some c.in-Some.front) c.in-Some.ensures.cases)
    (starts_is Decides-eqb c.args.name.now c.in-Some.front.now c.starts_with.result c.starts_with.ensures.value)

pub returns-in-None : goal.returns-in-None
returns-in-None c =
    name_whole c.args.names.now c.args.name.now c.eq.result (strip_suffix_is Decides-eqb c.args.names.now (42 ∷ []) None c.in-None.ensures.cases)
    (slice_eq-Decides Decides-eqb c.args.names.now c.args.name.now c.eq.result c.eq.ensures)
