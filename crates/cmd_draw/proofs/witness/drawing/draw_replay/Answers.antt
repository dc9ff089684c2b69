use Rattle.std.proofs.Common.{refl}
use Rattle.cmd_base.specs.Texts.{named_of}
use Rattle.cmd_explain_race.specs.Finding.{origin_of}
use Rattle.cmd_draw.proofs.WitnessLemmas.PicturedLemmas.{possible_witness, witness_names, writes_as}
use Rattle.cmd_draw.proofs.witness.drawing.draw_replay.Goals as goal

pub draw_sources-requires-clause-names : goal.draw_sources-requires-clause-names
draw_sources-requires-clause-names g c =
    let source = c.args.subject.now.source.now in
    witness_names (named_of source) (origin_of source) c.args.subject.now.pair c.args.schedule.now c.in-Ok.outcome c.requires.witness c.in-Ok.ensures

pub draw_sources-requires-clause-possible : goal.draw_sources-requires-clause-possible
draw_sources-requires-clause-possible g c =
    let source = c.args.subject.now.source.now in
    possible_witness (named_of source) (origin_of source) c.args.subject.now.pair c.args.schedule.now c.in-Ok.outcome c.requires.witness c.in-Ok.ensures

pub returns : goal.returns
returns g c = writes_as g.W.Out.sink _ _ c.args.out.now c.draw_sources.new.out c.draw_sources.result (λ text pictured. (_, (refl, c.in-Ok.ensures), pictured)) c.draw_sources.ensures
