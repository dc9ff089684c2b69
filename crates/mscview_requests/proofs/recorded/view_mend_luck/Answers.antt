use Rattle.std.proofs.Common.{ℕ, List, Bor, ap, ◌∙◌, sym, subst, subst₂, map, inl, inr, refl}
use Rattle.std.proofs.lemmas.Result.{err_from_is_err_and}
use Rattle.cli.specs.declared.view.request.MendLuck.{MendLuck}
use Rattle.cmd_base.specs.declared.error.ProgramError.{ProgramError}
use Rattle.cmd_import_log.specs.Options.{options_view}
use Rattle.cmd_mend.specs.Luck.{MendsLog}
use Rattle.mscview_requests.specs.FileBytes.{bytes_of}
use Rattle.mscview_requests.specs.Given.{AreGiven, files_named}
use Rattle.mscview_requests.specs.Wanted.{IsLog, IsMendLuck}
use Rattle.mscview_requests.specs.Words.Words.{AreNotRead}
use Rattle.mscview_requests.proofs.recorded.view_mend_luck.Goals as goal

-- if the words don't give the options for reading a log, they don't give those for mending it
nor_both : (wanted : MendLuck) (error : ProgramError) → AreNotRead (IsLog wanted.log) error → AreNotRead (IsMendLuck wanted) error
nor_both wanted error (inl memory) = inl memory
nor_both wanted error (inr nothing) = inr (nothing.0, λ asked its. nothing.1 asked.1 its.1)

pub returns-in_err-asked : goal.returns-in_err-asked
returns-in_err-asked g c =
    let p = err_from_is_err_and c.from_residual.result c.from_residual.ensures.1 in
    rw (p.1, p.2) ((refl, refl), inl (inr (c.in_err-asked.ensures.0, λ asked its. c.in_err-asked.ensures.1 asked.0 its.0)))

pub returns-in_err-log : goal.returns-in_err-log
returns-in_err-log g c =
    let p = err_from_is_err_and c.from_residual-in_err-log.result c.from_residual-in_err-log.ensures.1 in
    rw (p.1, p.2) (
      (refl, refl),
      elim c.in_err-log.ensures [
        | inl unread ↦ inl (nor_both c.args.wanted.now _ unread)
        | inr lacks ↦ inr ((c.in_ok-asked.asked, lacks.0), (c.in_ok-asked.ensures, lacks.1), lacks.2)
      ],
    )

pub returns : goal.returns
returns g c = let opened = c.in_ok-log.ensures in (
  (c.in_ok-asked.asked, options_view c.options_of-options.result),
  map (λ t. t.now) c.in-Ok.slices.items,
  (c.in_ok-asked.ensures, subst (λ o. IsLog c.args.wanted.now.log o) (sym c.options_of-options.ensures) opened.words),
  subst (AreGiven (g.G.Giver.gives c.args.giver.now) 0 (files_named (map (λ w. w.now) c.args.wanted.now.log.files.items))) (sym (c.in-Ok.ensures ∙ ap (map bytes_of) c.deref.ensures.value)) opened.texts,
  (
    map (λ w. w.now) c.in_ok-log.log.names.items,
    opened.names,
    subst₂ (λ (ts ns : List (Bor (List ℕ))). MendsLog g.W.Out.sink c.args.out.now c.mend_luck_of_log.new.out g.V.Out.sink c.args.err.now c.mend_luck_of_log.new.err (map (λ w. w.now) ns) (options_view c.options_of-options.result) (map (λ w. w.now) ts) c.in_ok-asked.asked c.mend_luck_of_log.result)
        c.deref-3.ensures.value c.deref-4.ensures.value c.mend_luck_of_log.ensures,
  ),
)
