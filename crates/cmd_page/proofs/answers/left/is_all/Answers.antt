use Rattle.std.proofs.Common.{inl, inr, Bool, not, sym, ap, ◌∙◌, eqb-true}
use Rattle.std.specs.Prelude.{bytes_eq}
use Rattle.std.specs.Cmp.Lexicographic.{bytes_decides}
use Rattle.std.proofs.lemmas.Bool.{cases_Bool, false≢true}
use Rattle.cmd_page.specs.Answers.Leaving.{out_of_memory}
use Rattle.cmd_page.proofs.answers.left.is_all.Goals as goal

pub returns-clause-whole : goal.returns-clause-whole
returns-clause-whole c = λ yes.
    let left = c.args.left.now in
    let same = bytes_decides c.as_bytes.result.now out_of_memory in record {
      out = eqb-true left.out.failures 0 (sym c.is_whole.ensures ∙ c.if-not-is_whole.false);
      err = eqb-true left.err.failures 0 (sym c.is_whole-2.ensures ∙ c.if-not-is_whole-2.false);
      told = λ is. false≢true (sym (c.ne.ensures ∙ ap (λ (b : Bool). not b) (same.1 (c.as_bytes.ensures ∙ is))) ∙ yes);
    }

pub returns-clause-all : goal.returns-clause-all
returns-clause-all c = λ whole.
    let same = bytes_decides c.as_bytes.result.now out_of_memory in
    elim (cases_Bool (bytes_eq c.as_bytes.result.now out_of_memory)) [
      | inl it ↦ absurd (whole.told (sym c.as_bytes.ensures ∙ same.0 it))
      | inr other ↦ c.ne.ensures ∙ ap (λ (b : Bool). not b) other
    ]
