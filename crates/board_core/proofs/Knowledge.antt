-- What every run on a board leads to, by its history.
use Rattle.std.proofs.Common.{◌≡◌, ℕ, ◌==◌, Bool, true, false, cond, List, [], ◌∷◌, ◌++◌, length, map, take, option_map, refl, sym, ap, ◌∙◌, subst, append_assoc, append-nil}
use Rattle.std.specs.Prelude.{reverse, slice_get, All}
use Rattle.std.proofs.lemmas.Bool.{eqb-true}
use Rattle.std.proofs.lemmas.Option.{slice_get-map}
use Rattle.std.proofs.Math.Seq.{take-append_seam}
use Rattle.chart.specs.Histories.{received, chart_of}
use Rattle.chart.specs.Reports.{ReportView, IsReportIn, receives_of}
use Rattle.chart.proofs.Lanes.{send_of_message}
use Rattle.line_recorder.specs.Recorders.{RecorderView, after_send, after_sends, after_receive}
use Rattle.line_recorder.proofs.Carrying.{carried_clock, carried_entries}
use Rattle.board_core.specs.Parcels.{Parcel, names, goods}
use Rattle.board_core.specs.Steps.{Step, Sender_loads, Fills, Publishes, Closes, Receiver_loads, Takes, Puts_back, Frees, Opens, Shuts}
use Rattle.board_core.specs.World.{World, filled, taken, after_receives}
use Rattle.board_core.specs.Runs.{AreAnswers, IsRun, world_after, history_of, reports_of}
use Rattle.board_core.specs.Laws.{LegalLaw, LaneLaw, ClockLaw, ReportLaw, RecorderLaw}
use Rattle.board_core.proofs.GoodsLemmas.{goods_messages, goods_clocks}
use Rattle.board_core.proofs.Along.{stands}

pub legal : LegalLaw
legal n k steps run = (stands n k steps run).legal

pub lanes : LaneLaw
lanes n k steps run q p =
    let its = (stands n k steps run).lanes q p in
    let t = ((world_after n k steps).lanes q p).traffic in
    let h = history_of n k steps in
    let order = its.fits.holds.order ∙ append_assoc t.freed (reverse t.emptying) its.fits.holds.left in
    let first : t.freed ≡ take (length t.freed) t.published = sym (ap (take (length t.freed)) order ∙ take-append_seam t.freed (reverse t.emptying ++ its.fits.holds.left)) in
    (its.published, first ∙ ap (λ i. take i t.published) its.freed ∙ ap (take (received h q p)) its.published, its.closed)

pub clocks : ClockLaw
clocks n k steps run q p i x at_i =
    let s = stands n k steps run in
    let h = history_of n k steps in
    let there = ap (λ xs. slice_get xs i) (sym (s.lanes q p).published) ∙ at_i in
    let message = ap (λ ms. slice_get ms i) (sym (goods_messages n h q p)) ∙ slice_get-map (λ (y : Parcel). y.message) (goods n h q p) i ∙ ap (option_map (λ (y : Parcel). y.message)) there in
    let clock = ap (λ cs. slice_get cs i) (sym (goods_clocks n h q p)) ∙ slice_get-map (λ (y : Parcel). y.clock) (goods n h q p) i ∙ ap (option_map (λ (y : Parcel). y.clock)) there in
    let send = send_of_message h q p i x.message message in (
      send.0,
      record {
        send = send.1;
        name = send.2;
        entries = carried_entries n k h s.legal q p i x.clock clock;
        clock = carried_clock n k h s.legal q p i send.0 x.clock clock send.1;
      },
    )

-- sends leave a recorder's reports as they were
pub reports_sent : (r : RecorderView) (to : ℕ) (words : List (List ℕ)) → (after_sends r to words).reports ≡ r.reports
reports_sent r to [] = refl
reports_sent r to (word ∷ words) = reports_sent (after_send r to word) to words

-- receives add their reports
pub reports_received : (r : RecorderView) (from region : ℕ) (xs : List Parcel) (reports : List ReportView) → AreAnswers r from region xs reports → (after_receives r from region xs reports).reports ≡ r.reports ++ reports
reports_received r from region [] [] answers = sym (append-nil r.reports)
reports_received r from region [] (report ∷ reports) answers = absurd answers
reports_received r from region (x ∷ xs) [] answers = absurd answers
reports_received r from region (x ∷ xs) (report ∷ reports) answers = reports_received (after_receive r from x.message.name region x.clock report) from region xs reports answers.1 ∙ append_assoc r.reports (report ∷ []) reports

-- a recorder keeps the reports of its instance's receives
kept_reports : (n k : ℕ) (steps : List Step) → IsRun n k steps → (p : ℕ) → ((world_after n k steps).recorders p).reports ≡ reports_of p steps
kept_reports n k [] run p = refl
kept_reports n k (Sender_loads a b ∷ steps) run p = kept_reports n k steps run.1 p
kept_reports n k (Fills a b m ∷ steps) run p = kept_reports n k steps run.1 p
kept_reports n k (Publishes a b ∷ steps) run p = go (p == a) refl (kept_reports n k steps run.1 p)
  where
    w : World
    w = world_after n k steps

    new : RecorderView
    new = after_sends (w.recorders a) b (names (filled w a b))

    go : (its : Bool) → (p == a) ≡ its → (w.recorders p).reports ≡ reports_of p steps → (cond its new (w.recorders p)).reports ≡ reports_of p steps
    go true e before = reports_sent (w.recorders a) b (names (filled w a b)) ∙ ap (λ x. (w.recorders x).reports) (sym (eqb-true p a e)) ∙ before
    go false e before = before
kept_reports n k (Closes a b ∷ steps) run p = kept_reports n k steps run.1 p
kept_reports n k (Receiver_loads a b ∷ steps) run p = kept_reports n k steps run.1 p
kept_reports n k (Takes a b ∷ steps) run p = kept_reports n k steps run.1 p
kept_reports n k (Puts_back a b ∷ steps) run p = kept_reports n k steps run.1 p
kept_reports n k (Frees a b reports ∷ steps) run p = go (p == b) refl (kept_reports n k steps run.1 p)
  where
    w : World
    w = world_after n k steps

    new : RecorderView
    new = after_receives (w.recorders b) a (w.regions b) (taken w a b) reports

    go : (its : Bool) → (p == b) ≡ its → (w.recorders p).reports ≡ reports_of p steps → (cond its new (w.recorders p)).reports ≡ cond its (reports_of p steps ++ reports) (reports_of p steps)
    go true e before = reports_received (w.recorders b) a (w.regions b) (taken w a b) reports run.0.2 ∙ ap (λ x. (w.recorders x).reports ++ reports) (sym (eqb-true p b e)) ∙ ap (λ xs. xs ++ reports) before
    go false e before = before
kept_reports n k (Opens a ∷ steps) run p = kept_reports n k steps run.1 p
kept_reports n k (Shuts a ∷ steps) run p = kept_reports n k steps run.1 p

pub recorders : RecorderLaw
recorders n k steps run p low high = (((stands n k steps run).instances p low high).recorder, kept_reports n k steps run p)

pub reports : ReportLaw
reports n k steps run p low high =
    let its = ((stands n k steps run).instances p low high).recorder in
    let same = kept_reports n k steps run p in
    (ap (map (λ (report : ReportView). report.receive)) (sym same) ∙ its.receives ∙ ap receives_of its.line, subst (All (IsReportIn (chart_of (history_of n k steps)))) same its.reports)
