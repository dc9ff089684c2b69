use Rattle.std.proofs.Common.{ap, ◌∙◌, sym, Ok, Err, Contains}
use Rattle.texts.specs.Faults.{in_line}
use Rattle.texts.proofs.NewNames.{with_name-ok, with_name-given, with_name-full}
use Rattle.texts.proofs.instances.add_name.Goals as goal

pub returns-in-Ok : goal.returns-in-Ok
returns-in-Ok c =
    let names = c.args.names.now in
    let name = c.args.name in
    let absent : Contains names name → ⊥ = λ there. absurd (let e = c.in-Ok.ensures.duplicate.1 there in cc) in
    let new = with_name-ok names name absent (λ full. absurd (let e = c.in-Ok.ensures.instances.1 (absent, full) in cc)) in
    ap (in_line c.args.number) new ∙ ap Ok (sym c.in-Ok.ensures.ok.1)

pub returns-in-Err-Duplicate : goal.returns-in-Err-Duplicate
returns-in-Err-Duplicate c =
    let given = with_name-given c.args.names.now c.args.name (c.in-Err-Duplicate.ensures.duplicate.0 (ap Err c.in-Err-Duplicate.field-0-is)) in
    rw c.fault_at.ensures (ap (in_line c.args.number) given)

pub returns-in-Err-Instances : goal.returns-in-Err-Instances
returns-in-Err-Instances c =
    let both = c.in-Err-Instances.ensures.instances.0 (ap Err c.in-Err-Instances.field-0-is) in
    rw c.fault_at-in-Err-Instances.ensures (ap (in_line c.args.number) (with_name-full c.args.names.now c.args.name both.0 both.1))
