use Rattle.std.proofs.Common.{◌≡◌, ◌+◌, ℕ, [], List, length, get_or, None, Some, sym, ap, ◌∙◌, subst, arith}
use Rattle.std.specs.Prelude.{slice_get}
use Rattle.std.proofs.lemmas.Option.{slice_get-get_or}
use Rattle.std.proofs.lemmas.List.{length_push}
use Rattle.chart.specs.Names.{instance_of}
use Rattle.chart.proofs.Places.{each-push}
use Rattle.cmd_compare.proofs.NamingLemmas.{found, missing}
use Rattle.cmd_compare.proofs.naming.counterparts.Goals as goal

pub returns-in-Err : goal.returns-in-Err
returns-in-Err c =
    let n = c.loop-place.place in
    let w = get_or c.args.names.now n [] in
    let items = c.loop-place.others.items in
    let here = slice_get-get_or c.args.names.now n [] (omega (arith, c.loop-place-test.true, c.len-place-end.ensures.value)) in
    let none = missing (instance_of c.args.other_names.now w) w c.in-Err.name (c.in-Err.ensures w here) in
    record {
      place = n;
      has = here ∙ ap Some (sym none.1);
      none = subst (λ v. instance_of c.args.other_names.now v ≡ None) (sym none.1) none.0;
      first = λ i less v there. (get_or items i 0, c.loop-place.invariant.1 i (get_or items i 0) (slice_get-get_or items i 0 (omega (arith, less, c.loop-place.invariant.0))) v there);
    }

pub loop-place-preserved : goal.loop-place-preserved
loop-place-preserved c =
    let so = λ (i p : ℕ). (w : List ℕ) → slice_get c.args.names.now i ≡ Some w → instance_of c.args.other_names.now w ≡ Some p in
    let n = c.loop-place.place in
    let its = λ (w : List ℕ) (here : slice_get c.args.names.now n ≡ Some w). found (instance_of c.args.other_names.now w) w c.in-Ok.other (c.in-Ok.ensures w here) in
    rw c.in-Ok-push.ensures.items (
      length_push c.loop-place.others.items c.in-Ok.other ∙ ap (λ x. x + 1) c.loop-place.invariant.0,
      each-push so c.loop-place.others.items c.in-Ok.other c.loop-place.invariant.1 (subst (λ i. so i c.in-Ok.other) (sym c.loop-place.invariant.0) its),
    )

pub returns : goal.returns
returns c = record {
  whole = c.loop-place.invariant.0 ∙ (let e : c.loop-place.place ≡ length c.args.names.now = omega (arith, c.loop-place-test.false, c.loop-place.auto.place-end, c.len-place-end.ensures.value) in e);
  each = c.loop-place.invariant.1;
}
