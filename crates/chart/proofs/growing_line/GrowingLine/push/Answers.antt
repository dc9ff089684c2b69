use Rattle.std.proofs.Common.{◌≡◌, ◌≢◌, ℕ, ◌+◌, ◌<◌, List, [], ◌∷◌, ◌++◌, length, arith, ap, subst, sym, ◌∙◌}
use Rattle.std.proofs.lemmas.Bool.{eq-eqb, false≢true}
use Rattle.std.proofs.lemmas.List.{length-map}
use Rattle.chart.specs.declared.event.Event.{Event}
use Rattle.chart.specs.declared.growing_line.Entry.{Entry}
use Rattle.chart.specs.declared.line.TheConstants.{MAX_EVENTS}
use Rattle.chart.specs.Events.{partner_of, region_of, MayHaveRegion}
use Rattle.chart.specs.Charts.{GrowingView, LineView}
use Rattle.chart.specs.LineLayout.{AreStartsAt, event_of, events_of}
use Rattle.chart.proofs.Entries.{event_kept, events_of-push, AreEntries-push}
use Rattle.chart.proofs.growing_line.GrowingLine.push.Goals as goal

pub invariant_of-self : goal.invariant_of-self
invariant_of-self c =
    let line = c.self-2.inside in
    let names = line.names.names.items in
    let entries = line.entries.items in
    let event = c.args.event in
    let more = c.place_of-name.new.self.names.items in
    let entry : Entry = record { partner = c.partner-2.result; receives = c.is_receive-2.result; name = c.place_of-name.result; region = c.region.result; starts = c.next_starts-starts.result } in
    let same : ◌≡◌ {A = LineView} (record { instance = line.instance; events = events_of names entries }) c.args.self.now.line = ap (λ (l : GrowingView). l.line) c.self-2.view_is ∙ c.in_ok-reserve.ensures.line in
    let own : line.instance ≡ c.args.self.now.line.instance = ap (λ (l : LineView). l.instance) same in
    let events : events_of names entries ≡ c.args.self.now.line.events = ap (λ (l : LineView). l.events) same in
    let is : event_of more entry ≡ event = event_kept more entry event c.partner-2.ensures c.is_receive-2.ensures (c.place_of-name.ensures.found ∙ c.name.ensures) c.region.ensures in
    let first : line.instance ≡ c.self.inside.instance = own ∙ sym (ap (λ (l : GrowingView). l.line.instance) c.self.view_is) in
    let many : length entries ≡ length c.self.inside.entries.items = sym (length-map entries (event_of names)) ∙ ap (λ (ms : List Event). length ms) events ∙ sym (ap (λ (l : GrowingView). length l.line.events) c.self.view_is) ∙ length-map c.self.inside.entries.items (event_of c.self.inside.names.names.items) in
    let other : partner_of event ≢ line.instance = λ e. false≢true (sym (sym c.eq.ensures ∙ c.if-eq.false) ∙ eq-eqb _ _ (c.partner.ensures ∙ e ∙ first)) in
    let short : length entries < MAX_EVENTS = omega (arith, many) in
    let may : MayHaveRegion (events_of names entries) (region_of event) = subst (λ (ms : List Event). MayHaveRegion ms (region_of event)) (sym events) c.requires in
    let next : AreStartsAt (events_of names entries ++ event ∷ []) (length (events_of names entries) + 1) c.next_starts-starts.result = subst (λ (ms : List Event). AreStartsAt (ms ++ event ∷ []) (length ms + 1) c.next_starts-starts.result) (sym events) c.next_starts-starts.ensures in
    rw (c.push_reserved.ensures.items, c.max-self-inside.ensures, c.region-2.ensures)
    (AreEntries-push line.instance names more entries line.greatest event entry c.self-2.invariant c.place_of-name.ensures.kept c.place_of-name.ensures.longer c.place_of-name.ensures.few c.place_of-name.ensures.within is other short may next)

pub returns-clause-ok : goal.returns-clause-ok
returns-clause-ok c =
    let line = c.self-2.inside in
    let names = line.names.names.items in
    let entries = line.entries.items in
    let event = c.args.event in
    let more = c.place_of-name.new.self.names.items in
    let entry : Entry = record { partner = c.partner-2.result; receives = c.is_receive-2.result; name = c.place_of-name.result; region = c.region.result; starts = c.next_starts-starts.result } in
    let same : ◌≡◌ {A = LineView} (record { instance = line.instance; events = events_of names entries }) c.args.self.now.line = ap (λ (l : GrowingView). l.line) c.self-2.view_is ∙ c.in_ok-reserve.ensures.line in
    let own : line.instance ≡ c.args.self.now.line.instance = ap (λ (l : LineView). l.instance) same in
    let events : events_of names entries ≡ c.args.self.now.line.events = ap (λ (l : LineView). l.events) same in
    let is : event_of more entry ≡ event = event_kept more entry event c.partner-2.ensures c.is_receive-2.ensures (c.place_of-name.ensures.found ∙ c.name.ensures) c.region.ensures in
    let made : ℕ → List Event → LineView = λ p ms. record { instance = p; events = ms } in
    ap (λ (xs : List Entry). made line.instance (events_of more xs)) c.push_reserved.ensures.items
    ∙ ap (λ (ms : List Event). made line.instance ms) (events_of-push line.instance names more entries line.greatest event entry c.self-2.invariant c.place_of-name.ensures.kept is ∙ ap (λ (ms : List Event). ms ++ event ∷ []) events)
    ∙ ap (λ (p : ℕ). made p (c.args.self.now.line.events ++ event ∷ [])) own
