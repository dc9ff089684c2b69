use Rattle.std.proofs.Common.{ℕ, List, Bor, ap, ◌∙◌, sym, subst, subst₂, map}
use Rattle.cmd_base.specs.Answers.{Answers}
use Rattle.cmd_import_log.specs.Importing.{Imports, imported_exit}
use Rattle.cmd_import_log.specs.Options.{options_view}
use Rattle.mscview_requests.specs.FileBytes.{bytes_of}
use Rattle.mscview_requests.specs.Given.{AreGiven, files_named}
use Rattle.mscview_requests.specs.Wanted.{IsLog}
use Rattle.mscview_requests.proofs.recorded.view_log.Goals as goal

pub returns : goal.returns
returns g c = let opened = c.in_ok-log.ensures in (
  options_view c.options_of-options.result,
  map (λ t. t.now) c.in-Ok.slices.items,
  subst (λ o. IsLog c.args.imported.now o) (sym c.options_of-options.ensures) opened.words,
  subst (AreGiven (g.G.Giver.gives c.args.giver.now) 0 (files_named (map (λ w. w.now) c.args.imported.now.files.items))) (sym (c.in-Ok.ensures ∙ ap (map bytes_of) c.deref.ensures.value)) opened.texts,
  (
    map (λ w. w.now) c.in_ok-log.log.names.items,
    opened.names,
    subst₂ (λ (ts ns : List (Bor (List ℕ))). Answers (λ done. Imports g.W.Out.sink c.args.out.now c.import.new.out done (options_view c.options_of-options.result) (map (λ w. w.now) ts)) (imported_exit (map (λ w. w.now) ns)) g.V.Out.sink c.args.err.now c.import.new.err c.import.result)
        c.deref-3.ensures.value c.deref-4.ensures.value c.import.ensures,
  ),
)
