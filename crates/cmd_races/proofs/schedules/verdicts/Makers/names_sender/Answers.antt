use Rattle.std.proofs.Common.{◌≡◌, ◌-◌, ◌↔◌, IsTrue, List, Bool, false, Some, length, map, refl, sym, ap, ◌∙◌, subst}
use Rattle.std.specs.Prelude.{slice_get, option_map}
use Rattle.std.proofs.lemmas.Option.{slice_get-map, slice_get_read, slice_get_past}
use Rattle.closure.specs.Faults.{place_of}
use Rattle.cmd_races.specs.Schedules.Makers.{RunView, NamesSender}
use Rattle.cmd_races.proofs.SchedulesLemmas.TableLemmas.{cell, some_true, none_true}
use Rattle.cmd_races.proofs.schedules.verdicts.Makers.names_sender.Goals as goal

pub returns-in-Some-get : goal.returns-in-Some-get
returns-in-Some-get c =
    let inside = c.self.inside in
    let run : RunView = record { commands = inside.commands.now; notes = inside.notes.now; lines = inside.lines.now } in
    let tables = c.deref.result.now in
    let table = c.in-Some.table.now in
    let read = c.in-Some.ensures.lookup in
    let here : slice_get tables c.place.result ≡ Some table = slice_get_read tables (length tables) c.place.result table refl read.3.0 (read.3.1 table) in
    let its = slice_get-map (λ table. table.items) tables c.place.result ∙ ap (λ o. option_map (λ table. table.items) o) here in
    let one = c.in-Some-get.ensures.lookup in
    let row = c.deref-2.result.now in
    let value = ap (λ (r : List Bool). slice_get r (c.args.event.now.index - 1)) (sym c.deref-2.ensures.value) ∙ slice_get_read row (length row) (c.args.event.now.index - 1) c.in-Some-get.named.now refl one.3.0 (one.3.1 c.in-Some-get.named.now) in
    subst (λ (v : RunView). IsTrue c.in-Some-get.named.now ↔ NamesSender v (place_of c.args.event.now)) c.self.view_is
    (some_true _ c.in-Some-get.named.now value (NamesSender run (place_of c.args.event.now))
    (cell run _ (ap (map (λ table. table.items)) c.deref.ensures.value ∙ c.self.invariant.0) c.self.invariant.1 c.place.result table.items its c.args.event.now.instance c.args.event.now.index c.place.ensures.value c.requires))

pub returns-in-None : goal.returns-in-None
returns-in-None c =
    let inside = c.self.inside in
    let run : RunView = record { commands = inside.commands.now; notes = inside.notes.now; lines = inside.lines.now } in
    let tables = c.deref.result.now in
    let table = c.in-Some.table.now in
    let read = c.in-Some.ensures.lookup in
    let here : slice_get tables c.place.result ≡ Some table = slice_get_read tables (length tables) c.place.result table refl read.3.0 (read.3.1 table) in
    let its = slice_get-map (λ table. table.items) tables c.place.result ∙ ap (λ o. option_map (λ table. table.items) o) here in
    let row = c.deref-2.result.now in
    let past = ap (λ (r : List Bool). slice_get r (c.args.event.now.index - 1)) (sym c.deref-2.ensures.value) ∙ slice_get_past row (c.args.event.now.index - 1) c.in-None.ensures.lookup.3 in
    subst (λ (v : RunView). IsTrue false ↔ NamesSender v (place_of c.args.event.now)) c.self.view_is
    (none_true _ past (NamesSender run (place_of c.args.event.now))
    (cell run _ (ap (map (λ table. table.items)) c.deref.ensures.value ∙ c.self.invariant.0) c.self.invariant.1 c.place.result table.items its c.args.event.now.instance c.args.event.now.index c.place.ensures.value c.requires))
