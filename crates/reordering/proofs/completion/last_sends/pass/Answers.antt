use Rattle.std.proofs.Common.{◌≡◌, suc, ◌∙◌, length, refl, sym, subst, arith, eq-eqb}
use Rattle.std.specs.Prelude.{slice_index}
use Rattle.chart.specs.declared.event.Event.TheVariants.{Send, Receive}
use Rattle.reordering.specs.Completion.Handling.{IsSendAt}
use Rattle.reordering.specs.Completion.Tables.{IsFrom, IsAmong, IsAmongFrom, IsLastSettled}
use Rattle.reordering.proofs.CompletionLemmas.HandlingLemmas.{never_both}
use Rattle.reordering.proofs.CompletionLemmas.TableLemmas.{one_sender, last_within, send_passed, partner_short}
use Rattle.reordering.proofs.completion.last_sends.pass.Goals as goal

pub returns-in-Send-clause-value : goal.returns-in-Send-clause-value
returns-in-Send-clause-value c =
    let events = c.args.line.now.line.events in
    let sent : IsSendAt events (suc c.args.place) = (Send _ _, c.in-Send.ensures.event, refl) in
    let passed = send_passed events c.in-Send.ensures.line.regions c.args.place c.args.passed.now.all c.args.passed.now.by_sender sent c.requires.passed in
    record { within = passed.all; same_sender = λ q from. absurd (never_both events (suc c.args.place) (q, from.0, from.1, from.2) sent) }

pub returns-in-Send-clause-passed : goal.returns-in-Send-clause-passed
returns-in-Send-clause-passed c =
    let events = c.args.line.now.line.events in
    let sent : IsSendAt events (suc c.args.place) = (Send _ _, c.in-Send.ensures.event, refl) in
    send_passed events c.in-Send.ensures.line.regions c.args.place c.args.passed.now.all c.args.passed.now.by_sender sent c.requires.passed

pub at-same_sender-requires : goal.at-same_sender-requires
at-same_sender-requires c =
    let short = partner_short c.args.line.now.line.events (length c.args.passed.now.by_sender) c.args.place _ c.requires.senders c.in-Receive.ensures.event in
    omega (arith, c.place.ensures.value, short)

pub pass_receive-requires-clause-line : goal.pass_receive-requires-clause-line
pass_receive-requires-clause-line c = c.in-Receive.ensures.line

pub pass_receive-requires-clause-receive : goal.pass_receive-requires-clause-receive
pass_receive-requires-clause-receive c = (Receive c.in-Receive.from _ _, c.in-Receive.ensures.event, eq-eqb c.in-Receive.from c.in-Receive.from refl)

pub pass_receive-requires-clause-sender : goal.pass_receive-requires-clause-sender
pass_receive-requires-clause-sender c = partner_short c.args.line.now.line.events (length c.args.passed.now.by_sender) c.args.place _ c.requires.senders c.in-Receive.ensures.event

pub overflow_cast-result-in-Receive : goal.overflow_cast-result-in-Receive
overflow_cast-result-in-Receive c =
    let short = c.in-Receive.ensures.line.short in
    omega (arith, last_within (IsAmong (suc c.args.place)) c.args.line.now.line.events c.pass_receive.new.passed.all c.pass_receive.ensures.passed.all)

pub overflow_cast-result-in-Receive-2 : goal.overflow_cast-result-in-Receive-2
overflow_cast-result-in-Receive-2 c =
    let events = c.args.line.now.line.events in
    let short = c.in-Receive.ensures.line.short in
    let few = partner_short events (length c.args.passed.now.by_sender) c.args.place _ c.requires.senders c.in-Receive.ensures.event in
    let old = c.requires.passed.each c.place.result (omega (arith, c.place.ensures.value, few)) in
    omega (arith, c.at-same_sender.ensures, last_within (IsAmongFrom events (suc c.place.result) c.args.place) events (slice_index c.args.passed.now.by_sender c.place.result) old)

pub returns-in-Receive-clause-value : goal.returns-in-Receive-clause-value
returns-in-Receive-clause-value c =
    let events = c.args.line.now.line.events in
    let few = partner_short events (length c.args.passed.now.by_sender) c.args.place _ c.requires.senders c.in-Receive.ensures.event in
    let old = c.requires.passed.each c.place.result (omega (arith, c.place.ensures.value, few)) in
    let mine : IsFrom events c.in-Receive.from (suc c.args.place) = (Receive c.in-Receive.from _ _, c.in-Receive.ensures.event, eq-eqb c.in-Receive.from c.in-Receive.from refl) in
    record {
      within = c.pass_receive.ensures.passed.all;
      same_sender = λ q from.
          let same : suc c.place.result ≡ q = sym c.place.ensures.value ∙ sym (one_sender events q c.in-Receive.from (suc c.args.place) from mine) in
          subst (λ k. IsLastSettled (IsAmongFrom events q c.args.place) events k) (sym c.at-same_sender.ensures)
          (subst (λ x. IsLastSettled (IsAmongFrom events x c.args.place) events (slice_index c.args.passed.now.by_sender c.place.result)) same old);
    }
