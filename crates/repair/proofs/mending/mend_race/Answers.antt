use Rattle.std.proofs.Common.{◌≡◌, ◌≤◌, length, refl, sym, ap, ◌∙◌, subst, subst₂, arith}
use Rattle.std.specs.Prelude.{MatchOption}
use Rattle.chart.specs.Events.{tally, is_send_to, is_receive_from}
use Rattle.chart.specs.Charts.{chart_lines}
use Rattle.chart.specs.Places.{IsSendAfter}
use Rattle.closure.specs.Faults.{place_of}
use Rattle.repair.specs.Messages.{EndsBehind}
use Rattle.repair.specs.Crossings.{IsFirstAfter, IsBeforeNone}
use Rattle.repair.specs.Mends.{IsAsked}
use Rattle.repair.proofs.InformLemmas.{two_lines, send_event_at, none_crossed, none_waiting, can_be_informed}
use Rattle.repair.proofs.mending.mend_race.Goals as goal

pub first_after-requires-clause-other : goal.first_after-requires-clause-other
first_after-requires-clause-other c =
    let lines = c.args.closure.now in
    let e = place_of c.args.earlier.now in
    let r = place_of c.args.receive.now in
    let s = place_of c.in-Some.send in
    let k = c.end_behind-sent.result in
    let line = c.events_of-events.ensures.events ∙ ap (λ l. chart_lines l e.instance) c.lines.ensures in
    let asked : IsAsked (chart_lines lines) e r s k = record { race = c.requires.race; belongs = c.in-Some.ensures; ends = subst (λ l. EndsBehind l e.index k) line c.end_behind-sent.ensures } in
    two_lines lines c.requires.possible e r s k asked

pub returns-in-Some-crossed-clause-ok : goal.returns-in-Some-crossed-clause-ok
returns-in-Some-crossed-clause-ok c =
    let lines = c.args.closure.now in
    let d = chart_lines lines in
    let e = place_of c.args.earlier.now in
    let r = place_of c.args.receive.now in
    let s = place_of c.in-Some.send in
    let k = c.end_behind-sent.result in
    let line = c.events_of-events.ensures.events ∙ ap (λ l. chart_lines l e.instance) c.lines.ensures in
    let asked : IsAsked d e r s k = record { race = c.requires.race; belongs = c.in-Some.ensures; ends = subst (λ l. EndsBehind l e.index k) line c.end_behind-sent.ensures } in
    let first = subst (λ o. MatchOption o (IsBeforeNone d s e.instance k) (λ index. (index ≤ k) × IsFirstAfter d s e.instance index)) c.in-Some-crossed.is c.in-Ok.ensures in
    record {
      send = s;
      many = k;
      asked = asked;
      line = refl;
      first = first.1;
      among = first.0;
      none = none_crossed lines c.requires.possible e r s k asked c.in-Some-crossed.index first.0 first.1.0;
    }

pub receives_among-passed-requires : goal.receives_among-passed-requires
receives_among-passed-requires c =
    let lines = c.args.closure.now in
    let e = place_of c.args.earlier.now in
    let r = place_of c.args.receive.now in
    let s = place_of c.in-Some.send in
    let k = c.end_behind-sent.result in
    let line = c.events_of-events.ensures.events ∙ ap (λ l. chart_lines l e.instance) c.lines.ensures in
    let asked : IsAsked (chart_lines lines) e r s k = record { race = c.requires.race; belongs = c.in-Some.ensures; ends = subst (λ l. EndsBehind l e.index k) line c.end_behind-sent.ensures } in
    let theirs = c.events_of-theirs.ensures.events ∙ ap (λ l. chart_lines l s.instance) c.lines-2.ensures in
    subst (λ l. s.index ≤ length l) (sym theirs) (send_event_at lines c.requires.possible e r s k asked).1

pub returns-then-passed-sends_among-clause-ok : goal.returns-then-passed-sends_among-clause-ok
returns-then-passed-sends_among-clause-ok c =
    let lines = c.args.closure.now in
    let d = chart_lines lines in
    let e = place_of c.args.earlier.now in
    let r = place_of c.args.receive.now in
    let s = place_of c.in-Some.send in
    let k = c.end_behind-sent.result in
    let line = c.events_of-events.ensures.events ∙ ap (λ l. chart_lines l e.instance) c.lines.ensures in
    let asked : IsAsked d e r s k = record { race = c.requires.race; belongs = c.in-Some.ensures; ends = subst (λ l. EndsBehind l e.index k) line c.end_behind-sent.ensures } in
    let theirs = c.events_of-theirs.ensures.events ∙ ap (λ l. chart_lines l s.instance) c.lines-2.ensures in
    let none = subst (λ o. MatchOption o (IsBeforeNone d s e.instance k) (λ index. (index ≤ k) × IsFirstAfter d s e.instance index)) c.in-None.is c.in-Ok.ensures in
    let passed : c.receives_among-passed.result ≡ tally (is_receive_from e.instance) (d s.instance) s.index = c.receives_among-passed.ensures ∙ ap (λ l. tally (is_receive_from e.instance) l s.index) theirs in
    let sent : c.sends_among.result ≡ tally (is_send_to s.instance) (d e.instance) k = c.sends_among.ensures ∙ ap (λ l. tally (is_send_to s.instance) l k) line in
    record {
      send = s;
      many = k;
      asked = asked;
      uncrossed = none;
      line = refl;
      first = subst₂ (λ l n. IsSendAfter l s.instance n c.send_after.result) line passed c.send_after.ensures.send;
      among = c.send_after.ensures.among;
      none = none_waiting lines c.requires.possible e r s k asked (omega (arith, passed, sent, c.if-passed-sends_among.true));
    }

pub informed-requires-clause-asked : goal.informed-requires-clause-asked
informed-requires-clause-asked c =
    let lines = c.args.closure.now in
    let d = chart_lines lines in
    let e = place_of c.args.earlier.now in
    let r = place_of c.args.receive.now in
    let s = place_of c.in-Some.send in
    let k = c.end_behind-sent.result in
    let line = c.events_of-events.ensures.events ∙ ap (λ l. chart_lines l e.instance) c.lines.ensures in
    let asked : IsAsked d e r s k = record { race = c.requires.race; belongs = c.in-Some.ensures; ends = subst (λ l. EndsBehind l e.index k) line c.end_behind-sent.ensures } in
    let theirs = c.events_of-theirs.ensures.events ∙ ap (λ l. chart_lines l s.instance) c.lines-2.ensures in
    let none = subst (λ o. MatchOption o (IsBeforeNone d s e.instance k) (λ index. (index ≤ k) × IsFirstAfter d s e.instance index)) c.in-None.is c.in-Ok.ensures in
    let passed : c.receives_among-passed.result ≡ tally (is_receive_from e.instance) (d s.instance) s.index = c.receives_among-passed.ensures ∙ ap (λ l. tally (is_receive_from e.instance) l s.index) theirs in
    let sent : c.sends_among.result ≡ tally (is_send_to s.instance) (d e.instance) k = c.sends_among.ensures ∙ ap (λ l. tally (is_send_to s.instance) l k) line in
    (s, k, asked, can_be_informed lines c.requires.possible e r s k asked none (omega (arith, passed, sent, c.if-passed-sends_among.false)), refl)
