use Rattle.std.proofs.Common.{◌≡◌, ◌≢◌, length, inl, sym, ap, ◌∙◌, subst}
use Rattle.std.proofs.lemmas.List.{length-map}
use Rattle.chart.specs.declared.line.TheConstants.{MAX_EVENTS}
use Rattle.chart.specs.Charts.{IsPossible, chart_lines}
use Rattle.closure.specs.Faults.{place_of}
use Rattle.repair.specs.Messages.{NewMessage, informing}
use Rattle.repair.specs.Growing.{message_of, line_with, AllCanHave}
use Rattle.repair.specs.Mends.{IsMended}
use Rattle.repair.proofs.InformLemmas.{have_informed, with_chart, faultless_informed, acyclic_informed, mended_informed}
use Rattle.repair.proofs.mending.informed.Goals as goal

pub returns-then-events_of-eq-MAX_EVENTS-clause-err : goal.returns-then-events_of-eq-MAX_EVENTS-clause-err
returns-then-events_of-eq-MAX_EVENTS-clause-err c =
    let asked = c.requires.asked in
    let sender = ap (λ (x : NewMessage). x.sender) asked.4 in
    let line = c.events_of.ensures.events ∙ ap (λ l. chart_lines l c.args.message.now.sender) c.lines-lines.ensures ∙ ap (chart_lines c.args.closure.now) sender in
    record {
      send = asked.0;
      many = asked.1;
      asked = asked.2;
      can = asked.3;
      full = inl (sender, sym (ap (λ l. length l) line) ∙ c.if-events_of-eq-MAX_EVENTS.true);
    }

pub chart_with-requires-clause-have : goal.chart_with-requires-clause-have
chart_with-requires-clause-have c =
    let asked = c.requires.asked in
    let lines = c.args.closure.now in
    let e = place_of c.args.earlier.now in
    let r = place_of c.args.receive.now in
    let sender = ap (λ (x : NewMessage). x.sender) asked.4 in
    let receiver = ap (λ (x : NewMessage). x.receiver) asked.4 in
    let line = c.events_of.ensures.events ∙ ap (λ l. chart_lines l c.args.message.now.sender) c.lines-lines.ensures ∙ ap (chart_lines lines) sender in
    let other = c.events_of-2.ensures.events ∙ ap (λ l. chart_lines l c.args.message.now.receiver) c.lines-lines.ensures ∙ ap (chart_lines lines) receiver in
    let mine : length (chart_lines lines e.instance) ≢ MAX_EVENTS = λ full. c.if-events_of-eq-MAX_EVENTS.false (ap (λ l. length l) line ∙ full) in
    let theirs : length (chart_lines lines asked.0.instance) ≢ MAX_EVENTS = λ full. c.if-events_of-eq-MAX_EVENTS-2.false (ap (λ l. length l) other ∙ full) in
    let all = have_informed lines c.requires.possible e r asked.0 asked.1 asked.2 c.args.message.now.name mine theirs in
    subst (λ (m : NewMessage). AllCanHave m c.lines-lines.result.now) (sym asked.4)
    (subst (AllCanHave (informing e.instance asked.1 asked.0 c.args.message.now.name)) (sym c.lines-lines.ensures) all)

pub reports_of-requires-clause-faultless : goal.reports_of-requires-clause-faultless
reports_of-requires-clause-faultless c =
    let asked = c.requires.asked in
    let lines = c.args.closure.now in
    let e = place_of c.args.earlier.now in
    let r = place_of c.args.receive.now in
    let name = c.args.message.now.name in
    let sender = ap (λ (x : NewMessage). x.sender) asked.4 in
    let receiver = ap (λ (x : NewMessage). x.receiver) asked.4 in
    let line = c.events_of.ensures.events ∙ ap (λ l. chart_lines l c.args.message.now.sender) c.lines-lines.ensures ∙ ap (chart_lines lines) sender in
    let other = c.events_of-2.ensures.events ∙ ap (λ l. chart_lines l c.args.message.now.receiver) c.lines-lines.ensures ∙ ap (chart_lines lines) receiver in
    let mine : length (chart_lines lines e.instance) ≢ MAX_EVENTS = λ full. c.if-events_of-eq-MAX_EVENTS.false (ap (λ l. length l) line ∙ full) in
    let theirs : length (chart_lines lines asked.0.instance) ≢ MAX_EVENTS = λ full. c.if-events_of-eq-MAX_EVENTS-2.false (ap (λ l. length l) other ∙ full) in
    let added = with_chart lines c.requires.possible e r asked.0 asked.1 asked.2 name mine theirs (message_of c.args.message.now) c.lines-lines.result.now c.in-Ok.chart asked.4 c.lines-lines.ensures c.in-Ok.ensures.ok in
    faultless_informed lines c.requires.possible e r asked.0 asked.1 asked.2 name asked.3 (chart_lines c.in-Ok.chart) added

pub reports_of-requires-clause-acyclic : goal.reports_of-requires-clause-acyclic
reports_of-requires-clause-acyclic c =
    let asked = c.requires.asked in
    let lines = c.args.closure.now in
    let e = place_of c.args.earlier.now in
    let r = place_of c.args.receive.now in
    let name = c.args.message.now.name in
    let sender = ap (λ (x : NewMessage). x.sender) asked.4 in
    let receiver = ap (λ (x : NewMessage). x.receiver) asked.4 in
    let line = c.events_of.ensures.events ∙ ap (λ l. chart_lines l c.args.message.now.sender) c.lines-lines.ensures ∙ ap (chart_lines lines) sender in
    let other = c.events_of-2.ensures.events ∙ ap (λ l. chart_lines l c.args.message.now.receiver) c.lines-lines.ensures ∙ ap (chart_lines lines) receiver in
    let mine : length (chart_lines lines e.instance) ≢ MAX_EVENTS = λ full. c.if-events_of-eq-MAX_EVENTS.false (ap (λ l. length l) line ∙ full) in
    let theirs : length (chart_lines lines asked.0.instance) ≢ MAX_EVENTS = λ full. c.if-events_of-eq-MAX_EVENTS-2.false (ap (λ l. length l) other ∙ full) in
    let added = with_chart lines c.requires.possible e r asked.0 asked.1 asked.2 name mine theirs (message_of c.args.message.now) c.lines-lines.result.now c.in-Ok.chart asked.4 c.lines-lines.ensures c.in-Ok.ensures.ok in
    acyclic_informed lines c.requires.possible e r asked.0 asked.1 asked.2 name asked.3 (chart_lines c.in-Ok.chart) added

pub returns-in-Ok-reports_of-clause-ok : goal.returns-in-Ok-reports_of-clause-ok
returns-in-Ok-reports_of-clause-ok c =
    let asked = c.requires.asked in
    let lines = c.args.closure.now in
    let e = place_of c.args.earlier.now in
    let r = place_of c.args.receive.now in
    let name = c.args.message.now.name in
    let sender = ap (λ (x : NewMessage). x.sender) asked.4 in
    let receiver = ap (λ (x : NewMessage). x.receiver) asked.4 in
    let line = c.events_of.ensures.events ∙ ap (λ l. chart_lines l c.args.message.now.sender) c.lines-lines.ensures ∙ ap (chart_lines lines) sender in
    let other = c.events_of-2.ensures.events ∙ ap (λ l. chart_lines l c.args.message.now.receiver) c.lines-lines.ensures ∙ ap (chart_lines lines) receiver in
    let mine : length (chart_lines lines e.instance) ≢ MAX_EVENTS = λ full. c.if-events_of-eq-MAX_EVENTS.false (ap (λ l. length l) line ∙ full) in
    let theirs : length (chart_lines lines asked.0.instance) ≢ MAX_EVENTS = λ full. c.if-events_of-eq-MAX_EVENTS-2.false (ap (λ l. length l) other ∙ full) in
    let added = with_chart lines c.requires.possible e r asked.0 asked.1 asked.2 name mine theirs (message_of c.args.message.now) c.lines-lines.result.now c.in-Ok.chart asked.4 c.lines-lines.ensures c.in-Ok.ensures.ok in
    let whole : length c.in-Ok.chart ≡ length lines = ap (λ l. length l) c.in-Ok.ensures.ok ∙ length-map c.lines-lines.result.now (line_with (message_of c.args.message.now)) ∙ ap (λ l. length l) c.lines-lines.ensures in
    let new = subst (λ n. IsPossible n (chart_lines c.in-Ok.chart)) whole c.in-Ok-reports_of.ensures.possible in
    let mended = mended_informed lines c.requires.possible e r asked.0 asked.1 asked.2 name asked.3 (chart_lines c.in-Ok.chart) added new in
    record {
      send = asked.0;
      many = asked.1;
      asked = asked.2;
      message = asked.4;
      whole = whole;
      mended = subst (λ m. IsMended (length lines) (chart_lines lines) e r m (chart_lines c.in-Ok.chart)) (sym asked.4) mended;
    }
