use Rattle.std.proofs.Common.{◌≤◌, ◌≡◌, List, ℕ, length, map, sym, subst, arith, rules}
use Rattle.std.specs.Prelude.{IfOk}
use Rattle.std.proofs.lemmas.Iterator.{YieldsList-from_slice, YieldsList-from_map_by}
use Rattle.std.proofs.lemmas.Iterator.Consumers.{map_from_collect}
use Rattle.mscview_requests.proofs.GivenLemmas.{diagnostic_several}
use Rattle.mscview_requests.proofs.recorded.diagnostic_files.Goals as goal

pub returns : goal.returns
returns c =
    let many : 2 ≤ length c.args.files.now = omega (arith, c.if-files-lt2.false) in
    subst (λ (ns : List (List ℕ)). IfOk c.collect.result (λ names. map (λ w. w.now) names.items ≡ ns)) (sym (diagnostic_several (λ w. w.now) c.args.files.now many))
    (map_from_collect c.collect.result c.collect.ensures.ran (YieldsList-from_map_by _ (λ r. r.now) (λ w. w.now) (YieldsList-from_slice c.args.files.now cc) c.map.ensures.closure (λ x r q k. search rules)))
