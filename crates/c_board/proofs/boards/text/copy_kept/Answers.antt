use Rattle.std.proofs.Common.{◌∙◌, ℕ, List, length, refl, sym, ap, subst}
use Rattle.std.specs.Prelude.{Some}
use Rattle.chart.specs.NameSets.{AreNames}
use Rattle.msc_text.specs.ChartText.{chart_text}
use Rattle.c_board.specs.Copying.{put_over}
use Rattle.c_board.specs.Wholes.{WholeView}
use Rattle.c_board.proofs.BoardsLemmas.NameLemmas.{length-words}
use Rattle.c_board.proofs.boards.text.copy_kept.Goals as goal

pub returns-then-lengths-lines : goal.returns-then-lengths-lines
returns-then-lengths-lines c = (
  refl,
  (
    record { gathered = c.whole.inside.gathered; capacity = c.whole.inside.capacity },
    c.in-Some.ensures ∙ ap (λ (it : WholeView). Some it) (sym c.whole.view_is),
    λ e. c.if-lengths-lines.true (sym (length-words c.args.names.now c.args.lengths.now) ∙ e ∙ sym (ap length c.lines.ensures.value)),
  ),
)

pub returns-in-Err : goal.returns-in-Err
returns-in-Err c = (
  refl,
  (
    record { gathered = c.whole.inside.gathered; capacity = c.whole.inside.capacity },
    c.in-Some.ensures ∙ ap (λ (it : WholeView). Some it) (sym c.whole.view_is),
    length-words c.args.names.now c.args.lengths.now ∙ c.if-lengths-lines.false ∙ ap length c.lines.ensures.value,
    c.in-Err.ensures,
  ),
)

pub text_in_memory-requires : goal.text_in_memory-requires
text_in_memory-requires c = ap length c.in-Ok.ensures.0 ∙ length-words c.args.names.now c.args.lengths.now ∙ c.if-lengths-lines.false ∙ ap length c.lines.ensures.value

pub returns-in-Some-text_in_memory : goal.returns-in-Some-text_in_memory
returns-in-Some-text_in_memory c =
    let chart = c.whole.inside.gathered.chart in
    let same = c.in-Ok.ensures.0 in
    let text = c.as_bytes.ensures ∙ c.in-Some-text_in_memory.ensures ∙ ap (λ (ns : List (List ℕ)). chart_text ns chart) same in (
      record { gathered = c.whole.inside.gathered; capacity = c.whole.inside.capacity },
      c.in-Some.ensures ∙ ap (λ (it : WholeView). Some it) (sym c.whole.view_is),
      record {
        named = record {
          each = length-words c.args.names.now c.args.lengths.now ∙ c.if-lengths-lines.false ∙ ap length c.lines.ensures.value;
          distinct = subst AreNames same c.len.ensures.names;
          are_names = c.in-Ok.ensures.1;
        };
        output = c.copy_out.ensures.all ∙ ap length text;
        copied = c.copy_out.ensures.copied ∙ ap (λ (bytes : List ℕ). put_over bytes c.args.out.now) text;
      },
    )

pub returns : goal.returns
returns c = (
  refl,
  (
    record { gathered = c.whole.inside.gathered; capacity = c.whole.inside.capacity },
    c.in-Some.ensures ∙ ap (λ (it : WholeView). Some it) (sym c.whole.view_is),
    record {
      each = length-words c.args.names.now c.args.lengths.now ∙ c.if-lengths-lines.false ∙ ap length c.lines.ensures.value;
      distinct = subst AreNames c.in-Ok.ensures.0 c.len.ensures.names;
      are_names = c.in-Ok.ensures.1;
    },
  ),
)
