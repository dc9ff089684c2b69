use Rattle.std.proofs.Common.{◌≡◌, ap, sym, ◌∙◌}
use Rattle.texts.proofs.Results.{ok_is}
use Rattle.msc_text.specs.Reader.Reading.{chart_of}
use Rattle.msc_text.proofs.ReaderLemmas.ChartPaths.{chart-again}
use Rattle.msc_text.proofs.reader.laws.text_law.Goals as goal

pub returns : goal.returns
returns c = λ names others lines more h k e.
    (let one : (names, lines) ≡ (others, more) = ok_is (names, lines) (others, more) (sym (chart-again names lines h) ∙ ap chart_of e ∙ chart-again others more k) in
    (ap (λ p. p.0) one, ap (λ p. p.1) one))
