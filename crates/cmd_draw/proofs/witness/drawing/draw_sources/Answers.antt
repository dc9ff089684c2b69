use Rattle.cmd_draw.proofs.WitnessLemmas.PicturedLemmas.{pictured_from, writes_as}
use Rattle.cmd_draw.proofs.witness.drawing.draw_sources.Goals as goal

pub returns : goal.returns
returns g c =
    writes_as g.W.Out.sink _ _ c.args.out.now c.draw_stages.new.out c.draw_stages.result
    (λ text staged. pictured_from c.args.subject.now c.args.other.now c.in-Ok.here c.in-Ok-stage_of.there text c.requires.subject c.requires.possible c.requires.names c.in-Ok.ensures c.in-Ok-stage_of.ensures staged)
    c.draw_stages.ensures
