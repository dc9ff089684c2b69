use Rattle.std.proofs.Common.{ℕ, List, Bor, ap, ◌∙◌, sym, subst, subst₂, map}
use Rattle.cmd_base.specs.Answers.{Answers}
use Rattle.cmd_import_log.specs.Options.{options_view}
use Rattle.cmd_page.specs.Logs.Showing.{ShowsLog, page_exit}
use Rattle.mscview_requests.specs.FileBytes.{bytes_of}
use Rattle.mscview_requests.specs.Given.{AreGiven, files_named}
use Rattle.mscview_requests.specs.Wanted.{IsLog, IsNameOf, titled_path, first_path}
use Rattle.mscview_requests.proofs.recorded.view_log_page.Goals as goal

pub returns : goal.returns
returns g c = let opened = c.in_ok-log.ensures in (
  options_view c.options_of-options.result,
  map (λ t. t.now) c.in-Ok.slices.items,
  subst (λ o. IsLog c.args.wanted.now o) (sym c.options_of-options.ensures) opened.words,
  subst (AreGiven (g.G.Giver.gives c.args.giver.now) 0 (files_named (map (λ w. w.now) c.args.wanted.now.files.items))) (sym (c.in-Ok.ensures ∙ ap (map bytes_of) c.deref.ensures.value)) opened.texts,
  (
    c.log_title-title.result.now,
    map (λ w. w.now) c.in_ok-log.log.names.items,
    subst (λ (fs : List (Bor (List ℕ))). IsNameOf (titled_path (first_path (map (λ w. w.now) fs))) c.log_title-title.result.now) c.deref-3.ensures.value c.log_title-title.ensures,
    opened.names,
    subst₂ (λ (ts ns : List (Bor (List ℕ))). Answers (ShowsLog g.W.Out.sink c.args.out.now c.page_of_log.new.out (options_view c.options_of-options.result) (map (λ w. w.now) ts) c.log_title-title.result.now) (page_exit (map (λ w. w.now) ns)) g.V.Out.sink c.args.err.now c.page_of_log.new.err c.page_of_log.result)
        c.deref-4.ensures.value c.deref-5.ensures.value c.page_of_log.ensures,
  ),
)
