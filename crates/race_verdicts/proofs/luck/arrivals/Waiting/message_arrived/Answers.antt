use Rattle.std.proofs.Common.{◌∙◌, true, false, sym}
use Rattle.std.proofs.lemmas.Option.{slice_get-get_or}
use Rattle.race_verdicts.proofs.LuckLemmas.ArrivalLemmas.{number_in, arrived_received, arrived_left, arrived_nothing, arrival_message}
use Rattle.race_verdicts.proofs.luck.arrivals.Waiting.message_arrived.Goals as goal

pub message_at-requires : goal.message_at-requires
message_at-requires c =
    let lines = c.args.lines.now in
    let arrivals = c.args.arrivals.now in
    let i = c.args.place in
    let w = c.requires.waiting in
    let here = slice_get-get_or arrivals i _ c.requires.place in
    let opened = c.leave_above.ensures lines w.received_lists w.received_are in
    let first = c.take_first.ensures.first lines false _ opened in
    let taken = c.take_first.ensures.taken lines false _ opened in
    number_in lines arrivals i _ here _ _ _ _ w false _ _ _ opened c.in-Some.number (sym c.in-Some.is ∙ first)

pub returns-in-Some-clause-waiting : goal.returns-in-Some-clause-waiting
returns-in-Some-clause-waiting c =
    let lines = c.args.lines.now in
    let arrivals = c.args.arrivals.now in
    let i = c.args.place in
    let w = c.requires.waiting in
    let here = slice_get-get_or arrivals i _ c.requires.place in
    let opened = c.leave_above.ensures lines w.received_lists w.received_are in
    let first = c.take_first.ensures.first lines false _ opened in
    let taken = c.take_first.ensures.taken lines false _ opened in
    let both = arrived_received lines arrivals i _ here _ _ _ _ w _ _ _ _ opened taken c.in-Some.number (sym c.in-Some.is ∙ first) in
    both.0

pub returns-in-Some-clause-message : goal.returns-in-Some-clause-message
returns-in-Some-clause-message c =
    let lines = c.args.lines.now in
    let arrivals = c.args.arrivals.now in
    let i = c.args.place in
    let w = c.requires.waiting in
    let here = slice_get-get_or arrivals i _ c.requires.place in
    let opened = c.leave_above.ensures lines w.received_lists w.received_are in
    let first = c.take_first.ensures.first lines false _ opened in
    let taken = c.take_first.ensures.taken lines false _ opened in
    let both = arrived_received lines arrivals i _ here _ _ _ _ w _ _ _ _ opened taken c.in-Some.number (sym c.in-Some.is ∙ first) in
    arrival_message lines arrivals i _ here _ _ _ _ w c.requires.log c.in-Some.number both.1 _ c.message_at.ensures

pub message_at-requires-in-Some-take_first : goal.message_at-requires-in-Some-take_first
message_at-requires-in-Some-take_first c =
    let lines = c.args.lines.now in
    let arrivals = c.args.arrivals.now in
    let i = c.args.place in
    let w = c.requires.waiting in
    let here = slice_get-get_or arrivals i _ c.requires.place in
    let opened = c.leave_above.ensures lines w.received_lists w.received_are in
    let first = c.take_first.ensures.first lines false _ opened in
    let taken = c.take_first.ensures.taken lines false _ opened in
    let none = sym c.in_default.is ∙ first in
    let left_first = c.take_first-2.ensures.first lines true w.left_lists w.left_are in
    let left_taken = c.take_first-2.ensures.taken lines true w.left_lists w.left_are in
    number_in lines arrivals i _ here _ _ _ _ w true _ _ _ w.left_are c.in-Some-take_first.number (sym c.in-Some-take_first.is ∙ left_first)

pub returns-in-Some-take_first-clause-waiting : goal.returns-in-Some-take_first-clause-waiting
returns-in-Some-take_first-clause-waiting c =
    let lines = c.args.lines.now in
    let arrivals = c.args.arrivals.now in
    let i = c.args.place in
    let w = c.requires.waiting in
    let here = slice_get-get_or arrivals i _ c.requires.place in
    let opened = c.leave_above.ensures lines w.received_lists w.received_are in
    let first = c.take_first.ensures.first lines false _ opened in
    let taken = c.take_first.ensures.taken lines false _ opened in
    let none = sym c.in_default.is ∙ first in
    let left_first = c.take_first-2.ensures.first lines true w.left_lists w.left_are in
    let left_taken = c.take_first-2.ensures.taken lines true w.left_lists w.left_are in
    let both = arrived_left lines arrivals i _ here _ _ _ _ w _ _ _ _ taken left_taken none c.in-Some-take_first.number (sym c.in-Some-take_first.is ∙ left_first) in
    both.0

pub returns-in-Some-take_first-clause-message : goal.returns-in-Some-take_first-clause-message
returns-in-Some-take_first-clause-message c =
    let lines = c.args.lines.now in
    let arrivals = c.args.arrivals.now in
    let i = c.args.place in
    let w = c.requires.waiting in
    let here = slice_get-get_or arrivals i _ c.requires.place in
    let opened = c.leave_above.ensures lines w.received_lists w.received_are in
    let first = c.take_first.ensures.first lines false _ opened in
    let taken = c.take_first.ensures.taken lines false _ opened in
    let none = sym c.in_default.is ∙ first in
    let left_first = c.take_first-2.ensures.first lines true w.left_lists w.left_are in
    let left_taken = c.take_first-2.ensures.taken lines true w.left_lists w.left_are in
    let both = arrived_left lines arrivals i _ here _ _ _ _ w _ _ _ _ taken left_taken none c.in-Some-take_first.number (sym c.in-Some-take_first.is ∙ left_first) in
    arrival_message lines arrivals i _ here _ _ _ _ w c.requires.log c.in-Some-take_first.number both.1 _ c.message_at-in-Some-take_first.ensures

pub returns-in-None-clause-waiting : goal.returns-in-None-clause-waiting
returns-in-None-clause-waiting c =
    let lines = c.args.lines.now in
    let arrivals = c.args.arrivals.now in
    let i = c.args.place in
    let w = c.requires.waiting in
    let here = slice_get-get_or arrivals i _ c.requires.place in
    let opened = c.leave_above.ensures lines w.received_lists w.received_are in
    let first = c.take_first.ensures.first lines false _ opened in
    let taken = c.take_first.ensures.taken lines false _ opened in
    let none = sym c.in_default.is ∙ first in
    let left_first = c.take_first-2.ensures.first lines true w.left_lists w.left_are in
    let left_taken = c.take_first-2.ensures.taken lines true w.left_lists w.left_are in
    let both = arrived_nothing lines arrivals i _ here _ _ _ _ w _ _ _ _ taken left_taken none (sym c.in-None.is ∙ left_first) in
    both.0

pub returns-in-None-clause-message : goal.returns-in-None-clause-message
returns-in-None-clause-message c =
    let lines = c.args.lines.now in
    let arrivals = c.args.arrivals.now in
    let i = c.args.place in
    let w = c.requires.waiting in
    let here = slice_get-get_or arrivals i _ c.requires.place in
    let opened = c.leave_above.ensures lines w.received_lists w.received_are in
    let first = c.take_first.ensures.first lines false _ opened in
    let taken = c.take_first.ensures.taken lines false _ opened in
    let none = sym c.in_default.is ∙ first in
    let left_first = c.take_first-2.ensures.first lines true w.left_lists w.left_are in
    let left_taken = c.take_first-2.ensures.taken lines true w.left_lists w.left_are in
    let both = arrived_nothing lines arrivals i _ here _ _ _ _ w _ _ _ _ taken left_taken none (sym c.in-None.is ∙ left_first) in
    both.1
