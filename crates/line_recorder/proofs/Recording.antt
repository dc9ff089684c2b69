-- An instance's recorder as the history grows.
use Rattle.std.proofs.Common.{◌≡◌, ◌≢◌, ℕ, ◌+◌, ◌<◌, ◌≤◌, List, [], ◌∷◌, ◌++◌, length, map, refl, sym, ap, ap₂, ◌∙◌, subst, arith}
use Rattle.std.specs.Prelude.{All}
use Rattle.std.proofs.lemmas.Bool.{eq-eqb, ne_eqb}
use Rattle.std.proofs.lemmas.List.{map-append}
use Rattle.std.proofs.lemmas.List.Elements.{All-push}
use Rattle.chart.specs.declared.history.Occurrence.{Occurrence}
use Rattle.chart.specs.declared.history.Occurrence.TheVariants.{Send, Receive, Close}
use Rattle.chart.specs.declared.instance.EventNo.{EventNo}
use Rattle.chart.specs.Charts.{at, LineView}
use Rattle.chart.specs.Histories.{by, waiting, chart_of, IsLegal, Begins}
use Rattle.chart.specs.Order.{IsReport}
use Rattle.chart.specs.Events.{send_event, receive_event}
use Rattle.chart.specs.Messages.{Content}
use Rattle.chart.specs.Reports.{ReportView, IsReportIn, receives_of}
use Rattle.chart.proofs.ReportLists.{receives-send, receives-receive, reports_begun}
use Rattle.clock.specs.Clocks.{with_entry, merged}
use Rattle.line_recorder.specs.Carried.{first_clock, knowledge_of, waiting_clocks}
use Rattle.line_recorder.specs.Recorders.{RecorderView, send_clock, after_send, after_receive, IsReportOf}
use Rattle.line_recorder.proofs.Carrying.{carried_report}
use Rattle.line_recorder.specs.Recording.{IsRecorder}
use Rattle.chart.proofs.Sends.{line_after_send, line_after_receive}

-- an event of another instance doesn't change what an instance knows
pub knowledge_of-other : (n : ℕ) (h : List Occurrence) (e : Occurrence) (p : ℕ) → p ≢ by e → knowledge_of n (e ∷ h) p ≡ knowledge_of n h p
knowledge_of-other n h (Send a b m) p ne = rw (ne_eqb p a ne)
knowledge_of-other n h (Receive a b c) p ne = rw (ne_eqb p a ne)
knowledge_of-other n h (Close a b) p ne = refl

-- the clock of the next send is what is known, with the send
pub send_clock-is : (n : ℕ) (h : List Occurrence) (p : ℕ) (r : RecorderView) → IsRecorder n h p r → send_clock r ≡ with_entry (knowledge_of n h p) p (length (chart_of h p) + 1)
send_clock-is n h p r its = ap₂ (λ (l : LineView) (known : List ℕ). with_entry known l.instance (length l.events + 1)) its.line its.knowledge

-- the recorder of an instance that did nothing
pub IsRecorder-idle : (n k : ℕ) (h g : List Occurrence) (p : ℕ) (r : RecorderView) → IsLegal n k h → Begins h g → chart_of g p ≡ chart_of h p → knowledge_of n g p ≡ knowledge_of n h p → IsRecorder n h p r → IsRecorder n g p r
IsRecorder-idle n k h g p r legal begins same knows old = record {
  line = rw same old.line;
  knowledge = old.knowledge ∙ sym knows;
  receives = old.receives;
  reports = reports_begun n k h g legal begins p r.reports (old.receives ∙ ap receives_of old.line) old.reports;
}

-- a recorder that recorded a send
pub IsRecorder-send : (n k : ℕ) (h : List Occurrence) (p q : ℕ) (m : Content) (r : RecorderView) → IsLegal n k h → IsRecorder n h p r → IsRecorder n (Send p q m ∷ h) p (after_send r q m.name)
IsRecorder-send n k h p q m r legal old = record {
  line = rw (line_after_send h p q m) (ap (λ (l : LineView). record l { events = l.events ++ send_event q m.name ∷ [] }) old.line);
  knowledge = rw (eq-eqb p p refl) (send_clock-is n h p r old);
  receives = old.receives ∙ sym (receives-send r.line.instance 1 r.line.events q m.name);
  reports = reports_begun n k h (Send p q m ∷ h) legal (Send p q m ∷ [], refl) p r.reports (old.receives ∙ ap receives_of old.line) old.reports;
}

-- a recorder that recorded a receive of the first waiting message
pub IsRecorder-receive : (n k : ℕ) (h : List Occurrence) (p q c : ℕ) (m : Content) (rest : List Content) (clock : List ℕ) (clocks : List (List ℕ)) (r : RecorderView) (report : ReportView) → IsLegal n k h → 1 ≤ p → p ≤ n → waiting h q p ≡ m ∷ rest → waiting_clocks n h q p ≡ clock ∷ clocks → IsReportOf r q c clock report → IsRecorder n h p r
    → IsRecorder n (Receive p q c ∷ h) p (after_receive r q m.name c clock report)
IsRecorder-receive n k h p q c m rest clock clocks r report legal low high first stamp made old =
    let receive : report.receive ≡ record { instance = r.line.instance; index = length r.line.events + 1 } = made.receive in
    let some : 0 < length (waiting h q p) = omega (arith, ap length first) in
    let exact = carried_report n k h legal p q c low high some clock clocks stamp r old.line report made in
    let place : at report.receive.instance report.receive.index ≡ at r.line.instance (length r.line.events + 1) = ap (λ (e : EventNo). at e.instance e.index) receive in
    let its : IsReportIn (chart_of (Receive p q c ∷ h)) report = record {
      exact = subst (λ x. IsReport (chart_of (Receive p q c ∷ h)) x (map (λ race. race.index) report.earlier)) (sym place) exact;
      line = subst (λ (e : EventNo). All (λ race. race.instance ≡ e.instance) report.earlier) (sym receive) made.own;
    } in
    record {
      line = rw (line_after_receive h p q c m rest first) (ap (λ (l : LineView). record l { events = l.events ++ receive_event q m.name c ∷ [] }) old.line);
      knowledge = rw (eq-eqb p p refl) (ap₂ (λ ours theirs. merged ours theirs) old.knowledge (sym (ap first_clock stamp)));
      receives = map-append (λ (x : ReportView). x.receive) r.reports (report ∷ []) ∙ ap₂ (λ xs ys. xs ++ ys ∷ []) old.receives receive ∙ sym (receives-receive r.line.instance 1 r.line.events q m.name c);
      reports = All-push (IsReportIn (chart_of (Receive p q c ∷ h))) r.reports report (reports_begun n k h (Receive p q c ∷ h) legal (Receive p q c ∷ [], refl) p r.reports (old.receives ∙ ap receives_of old.line) old.reports) its;
    }
