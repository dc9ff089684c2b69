use Rattle.std.proofs.Common.{[], None, map, subst}
use Rattle.std.proofs.lemmas.List.{take_all}
use Rattle.log_formats.specs.Clocks.Ends.{AreEnds}
use Rattle.log_formats.specs.Clocks.Hearing.{heard_view}
use Rattle.log_formats.specs.declared.clocks.heard.Heard.{Heard}
use Rattle.log_formats.proofs.ClocksLemmas.EndLemmas.{ends_none, ends_next}
use Rattle.log_formats.proofs.clocks.ends.ends_of.Goals as goal

abbrev nothing : Heard
nothing = record {
  stamp = record { host = record { ref_ptr = (0, 0); now = [] }; count = 0 };
  source = None;
  at = 0;
  host = record { ref_ptr = (0, 0); now = [] };
}

pub loop-heard-init : goal.loop-heard-init
loop-heard-init c = ends_none c.args.end c.args.count (map (λ list. map heard_view list.items) c.in_ok-lists.lists.items) c.in_ok-lists.ensures

pub loop-heard-preserved : goal.loop-heard-preserved
loop-heard-preserved c =
    ends_next heard_view c.args.end c.args.count c.args.all.now c.loop-heard.heard-index nothing c.place_of.result (map (λ list. map heard_view list.items) c.loop-heard.lists.items)
    (map (λ list. map heard_view list.items) c.put.new.lists.items) c.loop-heard-test.true c.loop-heard.invariant c.place_of.ensures c.in_ok-put.ensures

pub returns : goal.returns
returns c =
    subst (λ l. AreEnds c.args.end c.args.count (map heard_view l) (map (λ list. map heard_view list.items) c.loop-heard.lists.items)) (take_all c.loop-heard.heard-index c.args.all.now c.loop-heard-test.false)
    c.loop-heard.invariant
