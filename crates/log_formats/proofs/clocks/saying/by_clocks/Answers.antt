use Rattle.std.proofs.Common.{[], length, map, ap, sym, ◌∙◌, subst}
use Rattle.std.proofs.lemmas.List.{length-map}
use Rattle.log_lines.specs.Events.{logged_event_view, clocked_at_view}
use Rattle.log_lines.specs.Reading.{read_view}
use Rattle.log_formats.specs.Clocks.Ends.{AreEnds}
use Rattle.log_formats.specs.Clocks.Hearing.{heard_view, all_heard}
use Rattle.log_formats.specs.Clocks.Messages.{HaveReasons}
use Rattle.log_formats.specs.Clocks.Moments.{moment_view, with_moments}
use Rattle.log_formats.specs.declared.clocks.ends.End.TheVariants.{Send, Receive}
use Rattle.log_formats.proofs.ClocksLemmas.EndLemmas.{ends_same}
use Rattle.log_formats.proofs.ClocksLemmas.MessageLemmas.{read_as, all_reasons}
use Rattle.log_formats.proofs.clocks.saying.by_clocks.Goals as goal

pub add_moments-requires : goal.add_moments-requires
add_moments-requires c = record {
  received =
      ap length c.deref-6.ensures.value ∙ sym (length-map c.in_ok-received.received.items (λ list. map heard_view list.items)) ∙ c.in_ok-received.ensures.whole ∙ c.len.ensures ∙ sym c.deref-5.ensures.len;
  sent = ap length c.deref-7.ensures.value ∙ sym (length-map c.in_ok-sent.sent.items (λ list. map heard_view list.items)) ∙ c.in_ok-sent.ensures.whole ∙ c.len-2.ensures ∙ sym c.deref-5.ensures.len;
}

pub returns-clause-read : goal.returns-clause-read
returns-clause-read c =
    let moments = map moment_view c.deref-5.result.now in
    let all = map heard_view c.in_ok-all.all.items in
    let r = c.args.read in
    let received : AreEnds Receive (length c.deref-5.result.now) all (map (λ list. map heard_view list.items) c.deref-6.result.now) =
    ends_same Receive c.len.result (length c.deref-5.result.now) (map heard_view c.deref-3.result.now) all (map (λ list. map heard_view list.items) c.in_ok-received.received.items)
    (map (λ list. map heard_view list.items) c.deref-6.result.now) (c.len.ensures ∙ sym c.deref-5.ensures.len) (ap (map heard_view) c.deref-3.ensures.value)
    (ap (map (λ list. map heard_view list.items)) (sym c.deref-6.ensures.value)) c.in_ok-received.ensures in
    let sent : AreEnds Send (length c.deref-5.result.now) all (map (λ list. map heard_view list.items) c.deref-7.result.now) =
    ends_same Send c.len-2.result (length c.deref-5.result.now) (map heard_view c.deref-4.result.now) all (map (λ list. map heard_view list.items) c.in_ok-sent.sent.items)
    (map (λ list. map heard_view list.items) c.deref-7.result.now) (c.len-2.ensures ∙ sym c.deref-5.ensures.len) (ap (map heard_view) c.deref-4.ensures.value)
    (ap (map (λ list. map heard_view list.items)) (sym c.deref-7.ensures.value)) c.in_ok-sent.ensures in
    read_as (read_view r) moments all (record { logged = map logged_event_view r.logged.items; clocked = map clocked_at_view c.new.result.items; others = r.others }) (read_view c.add_moments.new.read)
    (ap (map moment_view) c.deref-5.ensures.value ∙ c.in_ok-moments.ensures ∙ ap (λ l. with_moments [] (map clocked_at_view l)) c.deref.ensures.value)
    (c.in_ok-all.ensures ∙ ap (λ l. all_heard (map moment_view l)) (c.deref-2.ensures.value ∙ sym c.deref-5.ensures.value))
    (ap (λ l. record { logged = map logged_event_view r.logged.items; clocked = map clocked_at_view l; others = r.others }) c.new.ensures.items) (c.in_ok-add_moments.ensures all received sent)

pub returns-clause-reasons : goal.returns-clause-reasons
returns-clause-reasons c = subst (HaveReasons (read_view c.args.read)) (sym (returns-clause-read c)) (all_reasons (read_view c.args.read))
