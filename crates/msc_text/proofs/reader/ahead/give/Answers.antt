use Rattle.std.proofs.Common.{ap, ◌∙◌, sym, Err, Contains}
use Rattle.texts.proofs.NewNames.{with_name-ok, with_name-given, with_name-full}
use Rattle.msc_text.specs.Reader.Ahead.{given_or}
use Rattle.msc_text.proofs.reader.ahead.give.Goals as goal

pub returns-in-Ok : goal.returns-in-Ok
returns-in-Ok c =
    let names = c.args.names.now in
    let name = c.args.name in
    let absent : Contains names name → ⊥ = λ there. absurd (let e = c.in-Ok.ensures.duplicate.1 there in cc) in
    let new = with_name-ok names name absent (λ full. absurd (let e = c.in-Ok.ensures.instances.1 (absent, full) in cc)) in
    c.in-Ok.ensures.ok.1 ∙ sym (ap (given_or names) new)

pub returns-in-Err-Duplicate : goal.returns-in-Err-Duplicate
returns-in-Err-Duplicate c =
    let names = c.args.names.now in
    let given = with_name-given names c.args.name (c.in-Err-Duplicate.ensures.duplicate.0 (ap Err c.in-Err-Duplicate.field-0-is)) in
    c.in-Err-Duplicate.ensures.err ∙ sym (ap (given_or names) given)

pub returns-in-Err-Instances : goal.returns-in-Err-Instances
returns-in-Err-Instances c =
    let names = c.args.names.now in
    let both = c.in-Err-Instances.ensures.instances.0 (ap Err c.in-Err-Instances.field-0-is) in
    c.in-Err-Instances.ensures.err ∙ sym (ap (given_or names) (with_name-full names c.args.name both.0 both.1))
