use Rattle.std.proofs.Common.{◌≡◌, ℕ, List, Option, Result, Ok, Err, sym, ◌∙◌, subst, arith}
use Rattle.texts.specs.Outs.{Stored}
use Rattle.cmd_base.specs.declared.not_done.NotDone.{NotDone}
use Rattle.cmd_draw.specs.Answers.{draw_exit}
use Rattle.cmd_draw.specs.Drawing.{DrawsText}
use Rattle.cmd_draw.specs.declared.drawing.Wanted.{Wanted}
use Rattle.cmd_draw.specs.declared.error.DrawError.{DrawError}
use Rattle.cmd_page.specs.Answers.Leaving.{memory, none}
use Rattle.cmd_page.specs.Showing.{IsAskedOf, IsPicture}
use Rattle.cmd_page.proofs.showing.picture_of.Goals as goal

-- the output with status 0 is a picture
picture_so : (bytes file picture : List ℕ) (wanted : Wanted) (out : Stored) (result : Result (Option NotDone) DrawError) → IsAskedOf file wanted → DrawsText memory none out wanted bytes result
    → (draw_exit result).status ≡ 0 → picture ≡ out.bytes → IsPicture bytes file picture
picture_so bytes file picture wanted out (Ok them) asked done zero text = record {
  wanted = wanted;
  asked = asked;
  out = out;
  not_done = them;
  done = done;
  text = text;
}
picture_so bytes file picture wanted out (Err error) asked done zero text = absurd (omega (arith, zero))

pub returns-then-status-eq0 : goal.returns-then-status-eq0
returns-then-status-eq0 c =
    let answers = c.draw-status.ensures in
    let wanted = c.wanted_of-wanted.result in
    picture_so c.args.bytes.now c.args.title.now c.into_bytes.result.items wanted c.draw-status.new.out answers.result c.wanted_of-wanted.ensures
    (subst (λ (old : Stored). DrawsText memory old c.draw-status.new.out wanted c.args.bytes.now answers.result) c.new-out.ensures answers.done)
    (sym answers.exits ∙ c.if-status-eq0.true) c.into_bytes.ensures
