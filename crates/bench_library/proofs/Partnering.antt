-- Recorders that pass messages stay partners.
use Rattle.std.proofs.Common.{◌≡◌, ℕ, ◌+◌, List, length, sym, arith}
use Rattle.chart.specs.Reports.{ReportView}
use Rattle.clock.proofs.ClockLemmas.{length-merged}
use Rattle.line_recorder.specs.Recorders.{RecorderView, after_send, after_receive}
use Rattle.clock.proofs.EntryLemmas.{length-with_entry}
use Rattle.bench_library.specs.Partners.{ArePartners}

-- in either order
pub swapped : (a b : RecorderView) → ArePartners a b → ArePartners b a
swapped a b h = record {
  different = λ same. h.different (sym same);
  entries = sym h.entries;
  has_first = h.has_second;
  has_second = h.has_first;
}

-- after a send of the first recorder
pub sent : (a b : RecorderView) (to : ℕ) (name : List ℕ) → ArePartners a b → ArePartners (after_send a to name) b
sent a b to name h =
    let kept = length-with_entry a.knowledge a.line.instance (length a.line.events + 1) in
    record {
      different = h.different;
      entries = omega (arith, kept, h.entries);
      has_first = omega (arith, kept, h.has_first);
      has_second = h.has_second;
    }

-- after a receive of the second recorder
pub received : (a b : RecorderView) (from : ℕ) (name : List ℕ) (region : ℕ) (clock : List ℕ) (report : ReportView) → length clock ≡ length b.knowledge → ArePartners a b → ArePartners a (after_receive b from name region clock report)
received a b from name region clock report same h =
    let kept = length-merged b.knowledge clock (sym same) in
    record {
      different = h.different;
      entries = omega (arith, kept, h.entries);
      has_first = h.has_first;
      has_second = omega (arith, kept, h.has_second);
    }
