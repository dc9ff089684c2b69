use Rattle.std.proofs.Common.{◌∙◌, refl, sym, arith}
use Rattle.std.proofs.lemmas.Bool.{false≢true}
use Rattle.chart.specs.Ranges.{events_of}
use Rattle.closure.specs.Faults.{place_of}
use Rattle.race_verdicts.proofs.LuckLemmas.RunLemmas.{begun_verdicts, receive_there, first_event, alike_verdicts}
use Rattle.race_verdicts.proofs.luck.judge.Judge.verdict_of_first.Goals as goal

pub returns-then-is_begun : goal.returns-then-is_begun
returns-then-is_begun c =
    let now = c.args.self.now in
    let keeps = c.is_begun.ensures.recording in
    let r = place_of c.args.receive in
    let begun = c.is_begun.ensures.begun.0 c.if-is_begun.true in
    let its = c.requires.receive in
    record {
      some = c.requires.range.some;
      within = omega arith;
      verdicts = begun_verdicts now.lines now.recording keeps r (receive_there now.lines its.0 r its.1) begun (events_of c.args.earlier) c.requires.earlier;
      begun = λ b. refl;
      alike = λ none. absurd (none begun);
    }

pub verdict-requires-clause-earlier : goal.verdict-requires-clause-earlier
verdict-requires-clause-earlier c = first_event c.args.self.now.lines c.args.earlier c.requires.range.some c.requires.earlier

pub alike-requires-clause-within : goal.alike-requires-clause-within
alike-requires-clause-within c =
    let now = c.args.self.now in
    let keeps = c.is_begun.ensures.recording in
    let first = first_event now.lines c.args.earlier c.requires.range.some c.requires.earlier in
    let high = first.1 in
    let whole = keeps.events c.args.earlier.first.instance in
    omega (arith, high, whole)

pub returns : goal.returns
returns c =
    let now = c.args.self.now in
    let keeps = c.is_begun.ensures.recording in
    record {
      some = c.alike.ensures.some;
      within = c.alike.ensures.within;
      verdicts = alike_verdicts now.lines now.recording keeps (place_of c.args.receive) (λ b. false≢true (sym c.if-is_begun.false ∙ c.is_begun.ensures.begun.1 b)) c.args.earlier c.alike.result c.verdict.result c.alike.ensures c.verdict.ensures c.requires.earlier;
      begun = λ b. absurd (false≢true (sym c.if-is_begun.false ∙ c.is_begun.ensures.begun.1 b));
      alike = λ none. c.alike.ensures;
    }
