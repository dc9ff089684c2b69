use Rattle.std.proofs.Common.{◌≡◌, Some, ap, ap₂, ◌∙◌}
use Rattle.log_chart.specs.Fates.{sender_of, receiver_of, earlier, later_one, first_sent, last_sent, overtaking}
use Rattle.log_chart.specs.LaneTables.{changed}
use Rattle.log_chart.proofs.FateLemmas.{is_within, lanes_same, first_same, last_same, fates_same, first_more, last_more, fates_more}
use Rattle.log_chart.proofs.losing.Received.pass.Goals as goal

pub returns-in_default-clause-fates : goal.returns-in_default-clause-fates
returns-in_default-clause-fates c = λ later first are. fates_same _ c.args.line.now later c.in_default.is are

pub returns-in_default-clause-first : goal.returns-in_default-clause-first
returns-in_default-clause-first c = λ later are. lanes_same _ _ _ (first_same c.args.line.now later c.in_default.is) are

pub returns-in_default-clause-last : goal.returns-in_default-clause-last
returns-in_default-clause-last c = λ later are. lanes_same _ _ _ (last_same c.args.line.now later c.in_default.is) are

pub returns-clause-fates : goal.returns-clause-fates
returns-clause-fates c = λ later first are.
    let x = c.args.line.now in
    let s = c.in-Some.send in
    let lane : c.at-first.result ≡ first_sent later (sender_of x.entry) (receiver_of x.entry) =
    c.at-first.ensures (first_sent later) first ∙ ap₂ (first_sent later) c.sender_of-sender.ensures c.receiver_of-receiver.ensures in
    fates_more _ x later s c.overtaking.result c.in-Some.is (is_within _ _ s c.in-Some.is c.requires) (c.overtaking.ensures ∙ ap (λ t. overtaking t s) lane) are

pub returns-clause-first : goal.returns-clause-first
returns-clause-first c = λ later first.
    let x = c.args.line.now in
    let s = c.in-Some.send in
    let lane : c.at-first.result ≡ first_sent later (sender_of x.entry) (receiver_of x.entry) =
    c.at-first.ensures (first_sent later) first ∙ ap₂ (first_sent later) c.sender_of-sender.ensures c.receiver_of-receiver.ensures in
    lanes_same _ _ _ (λ q p. ap₂ (λ a b. changed (first_sent later) a b (Some c.earlier.result) q p) c.sender_of-sender.ensures c.receiver_of-receiver.ensures
    ∙ first_more x later s (Some c.earlier.result) c.in-Some.is (c.earlier.ensures ∙ ap (earlier (Some s)) lane) q p) (c.set.ensures (first_sent later) first)

pub returns-clause-last : goal.returns-clause-last
returns-clause-last c = λ later last.
    let x = c.args.line.now in
    let s = c.in-Some.send in
    let lane : c.at-last.result ≡ last_sent later (sender_of x.entry) (receiver_of x.entry) =
    c.at-last.ensures (last_sent later) last ∙ ap₂ (last_sent later) c.sender_of-sender.ensures c.receiver_of-receiver.ensures in
    lanes_same _ _ _ (λ q p. ap₂ (λ a b. changed (last_sent later) a b (Some c.later_one.result) q p) c.sender_of-sender.ensures c.receiver_of-receiver.ensures
    ∙ last_more x later s (Some c.later_one.result) c.in-Some.is (c.later_one.ensures ∙ ap (later_one (Some s)) lane) q p) (c.set-2.ensures (last_sent later) last)
