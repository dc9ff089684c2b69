-- A behaviour whose acts were drawn at random before the run.
use Rattle.std.specs.Prelude.{List, [], ◌∷◌}
use Rattle.behaviour.specs.declared.act.Act.{Act}
use Rattle.behaviour.specs.declared.act.Act.TheVariants.{Stop}

-- the first act, or the act of stopping if there is none
abbrev pub first_act : List Act → Act
first_act [] = Stop
first_act (act ∷ acts) = act
