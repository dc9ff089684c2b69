-- Room for what a gathering returns, for any history that the board's posts have in common.
use Rattle.std.proofs.Common.{◌≡◌, ◌≢◌, ℕ, suc, ◌+◌, ◌-◌, ◌≤◌, ⊎_elim, Bool, true, false, cond, List, [], ◌∷◌, ◌++◌, length, map, refl, sym, ap, ap₂, ◌∙◌, subst, arith, append-nil, append_assoc}
use Rattle.std.specs.Prelude.{filter, nat_lt, vec_capacity, Result, Ok, Err, IfOk, OnOk}
use Rattle.std.specs.List.{range_with_len, flat_map}
use Rattle.std.specs.Global.{Vec}
use Rattle.std.proofs.lemmas.List.{map-append, map_push}
use Rattle.std.proofs.lemmas.Bool.Decides.{leb_tells}
use Rattle.std.proofs.lemmas.List.Concat.{flat_map-append}
use Rattle.std.proofs.lemmas.List.Elements.{All-append, All-push, filter-append}
use Rattle.std.proofs.lemmas.List.FromFn.{map-range_with_len_more}
use Rattle.chart.specs.declared.history.Occurrence.{Occurrence}
use Rattle.chart.specs.declared.event.Event.{Event}
use Rattle.chart.specs.Charts.{LineView}
use Rattle.chart.specs.Histories.{own, sent, received, waiting, chart_of, AreTwo, IsLegal}
use Rattle.chart.specs.HistoryLines.{history_line, history_lines}
use Rattle.chart.specs.Reports.{ReportView, IsReportIn, AreReportsOf, receives_of}
use Rattle.chart.proofs.Histories.{same_sent}
use Rattle.chart.proofs.Histories as histories
use Rattle.line_recorder.specs.Recorders.{RecorderView}
use Rattle.line_recorder.specs.Recording.{IsRecorder}
use Rattle.board_table.proofs.LastMessages.{waiting_back}
use Rattle.board.specs.declared.ends.Outgoing.{Outgoing}
use Rattle.board.specs.declared.ends.Incoming.{Incoming}
use Rattle.board.specs.declared.parting.Room.{Room}
use Rattle.board.specs.Known.{IsOutgoing, IsIncoming}
use Rattle.board.specs.Views.{PostView}
use Rattle.board.specs.Meeting.{IsJoint}
use Rattle.board.specs.Gathering.{AreJoint, LaneEnds, lane_to, is_waiting}
use Rattle.board.specs.Parting.{IsAmong, AreOf, room_lane, IsRoom, IsLaneRoom, HaveRooms, IsForLine, AreForLinesBehind}
use Rattle.board.proofs.Claiming.{sent_within}
use Rattle.board.proofs.Closes.{line_short}
use Rattle.board.proofs.DidLemmas.{waiting_many}

-- The number of waiting messages on a lane, from its two ends.

pub room_is : (n k q p : ℕ) (theirs mine h : List Occurrence) (o : Outgoing) (i : Incoming) (room : Room) → IsLegal n k h → AreTwo n q p → own h q ≡ own theirs q → own h p ≡ own mine p
    → IsOutgoing n theirs q p o → IsIncoming n mine p q i → room.lane ≡ record { instances = n; capacity = k; sender = q; receiver = p } → room.sender ≡ q → room.receiver ≡ p
    → room.taken ≡ i.taken → room.many ≡ o.put - i.taken → room.messages.items ≡ [] → room.many ≤ vec_capacity room.messages → IsRoom h n k q p room
room_is n k q p theirs mine h o i room legal two sender receiver out into lane from to taken many empty enough =
    let put : o.put ≡ length (sent h q p) = out.put ∙ ap length (sym (same_sent theirs h q p sender)) in
    let heard : i.taken ≡ received h q p = into.taken ∙ sym (histories.same_received mine h q p receiver) in
    let waits = waiting_many n k h q p legal in
    let within = sent_within h q p in
    let short = line_short n k h legal q in
    record {
      two = two;
      lane = lane;
      sender = from;
      receiver = to;
      taken = taken ∙ heard;
      many = omega (arith, many, put, heard, waits);
      empty = empty;
      enough = enough;
      within_limit = omega (arith, taken, many, put, heard, waits, within, short);
    }

-- One more lane.

lane_waits : (many : ℕ) (h : List Occurrence) (lane : LaneEnds) → many ≡ length (waiting h lane.sender lane.receiver) → is_waiting h lane ≡ nat_lt 0 many
lane_waits many h lane same = ap (λ (i : ℕ). nat_lt 0 i) (sym same)

module _ (n k : ℕ) (posts : List PostView) (lanes : List LaneEnds) (rooms : List Room) (have : HaveRooms n k posts lanes rooms) (lane : LaneEnds) where
  one_more : (h : List Occurrence) (its : Bool) → is_waiting h lane ≡ its → filter (is_waiting h) (lanes ++ lane ∷ []) ≡ filter (is_waiting h) lanes ++ cond its (lane ∷ []) []
  one_more h its same = filter-append (is_waiting h) lanes (lane ∷ []) ∙ ap (λ b. filter (is_waiting h) lanes ++ cond b (lane ∷ []) []) same

  pub rooms_skip : ((h : List Occurrence) → AreJoint h posts → is_waiting h lane ≡ false) → HaveRooms n k posts (lanes ++ lane ∷ []) rooms
  rooms_skip none = record {
    live = λ h joint. have.live h joint ∙ sym (append-nil (filter (is_waiting h) lanes)) ∙ sym (one_more h false (none h joint));
    each = have.each;
  }

  pub rooms_put : (room : Room) → 0 ≢ room.many → ((h : List Occurrence) → AreJoint h posts → IsRoom h n k lane.sender lane.receiver room) → HaveRooms n k posts (lanes ++ lane ∷ []) (rooms ++ room ∷ [])
  rooms_put room some is = record {
    live = λ h joint.
        let its = is h joint in
        map_push room_lane rooms room
        ∙ ap₂ (λ ls l. ls ++ l ∷ []) (have.live h joint) (ap₂ (λ q p. lane_to q p) its.sender its.receiver)
        ∙ sym (one_more h true (lane_waits room.many h lane its.many ∙ some_waits room.many some));
    each = λ h joint.
        let its = is h joint in
        All-push (IsLaneRoom h n k) rooms room (have.each h joint) (subst (λ q. IsRoom h n k q room.receiver room) (sym its.sender) (subst (λ p. IsRoom h n k lane.sender p room) (sym its.receiver) its));
  }
    where
      some_waits : (many : ℕ) → 0 ≢ many → nat_lt 0 many ≡ true
      some_waits many ne = ⊎_elim (λ its. its.0) (λ its. absurd (ne (let none : 0 ≡ many = omega (arith, its.1) in none))) (leb_tells 1 many)

  pub rooms_none : (room : Room) → room.many ≡ 0 → ((h : List Occurrence) → AreJoint h posts → IsRoom h n k lane.sender lane.receiver room) → HaveRooms n k posts (lanes ++ lane ∷ []) rooms
  rooms_none room none is = rooms_skip (λ h joint. lane_waits room.many h lane (is h joint).many ∙ ap (λ (i : ℕ). nat_lt 0 i) none)

-- a history that all of a board's posts have in common is legal
pub joint_legal : (n k : ℕ) (posts : List PostView) → AreOf n k posts → (number : ℕ) → 1 ≤ number → number ≤ n → (h : List Occurrence) → AreJoint h posts → IsLegal n k h
joint_legal n k posts are number low high h joint =
    let has = are.all number low high in
    let sized = are.size has.0 has.1 has.2 in
    subst (λ x. IsLegal x k h) sized.0 (subst (λ x. IsLegal has.1.board.size x h) sized.1 (joint has.0 has.1 has.2).legal)

pub back_waits : (n k : ℕ) (posts : List PostView) → AreOf n k posts → (number : ℕ) → 1 ≤ number → number ≤ n → (h : List Occurrence) → AreJoint h posts → is_waiting h (lane_to number number) ≡ false
back_waits n k posts are number low high h joint = lane_waits 0 h (lane_to number number) (ap length (sym (waiting_back n k h (joint_legal n k posts are number low high h joint) number)))

-- the lanes of one sender, with one more receiver
pub lanes_next : (lanes : List LaneEnds) (q place : ℕ) → (lanes ++ map (lane_to q) (range_with_len 1 place)) ++ lane_to q (place + 1) ∷ [] ≡ lanes ++ map (lane_to q) (range_with_len 1 (place + 1))
lanes_next lanes q place = append_assoc lanes (map (lane_to q) (range_with_len 1 place)) (lane_to q (place + 1) ∷ []) ∙ ap (λ ls. lanes ++ ls) (sym (map-range_with_len_more (lane_to q) 1 place (place + 1) (omega arith)))

-- the lists that a function makes of numbers, with one more number
pub numbers_next : {A : Type 0} (f : ℕ → List A) (place : ℕ) → flat_map f (range_with_len 1 (place + 1)) ≡ flat_map f (range_with_len 1 place) ++ f (place + 1)
numbers_next {A} f place =
    ap (flat_map f) (sym (map_same (range_with_len 1 (place + 1))) ∙ map-range_with_len_more (λ (i : ℕ). i) 1 place (place + 1) (omega arith) ∙ ap (λ is. is ++ (place + 1) ∷ []) (map_same (range_with_len 1 place)))
    ∙ flat_map-append f (range_with_len 1 place) ((place + 1) ∷ []) ∙ ap (λ xs. flat_map f (range_with_len 1 place) ++ xs) (append-nil (f (place + 1)))
  where
    map_same : (xs : List ℕ) → map (λ (i : ℕ). i) xs ≡ xs
    map_same [] = refl
    map_same (x ∷ xs) = ap (λ ys. x ∷ ys) (map_same xs)

-- the lines with that of one more instance
pub lines_next : (h : List Occurrence) (place : ℕ) → history_lines (place + 1) h ≡ history_lines place h ++ history_line h (place + 1) ∷ []
lines_next h place = map-range_with_len_more (history_line h) 1 place (place + 1) (omega arith)

-- Reports, for any history that the posts have in common.

-- the reports of a recorder
pub own_reports : (n : ℕ) (h : List Occurrence) (p : ℕ) (r : RecorderView) → IsRecorder n h p r → AreReportsOf (chart_of h) (history_line h p ∷ []) r.reports
own_reports n h p r its = record { receives = its.receives ∙ ap receives_of its.line ∙ sym (append-nil (receives_of (history_line h p))); each = its.reports }

-- the reports with those of one more line
pub reports_push : (h : List Occurrence) (lines : List LineView) (line : LineView) (reports own : List ReportView) → AreReportsOf (chart_of h) lines reports → AreReportsOf (chart_of h) (line ∷ []) own → AreReportsOf (chart_of h) (lines ++ line ∷ []) (reports ++ own)
reports_push h lines line reports own before its = record {
  receives = map-append (λ (r : ReportView). r.receive) reports own ∙ ap₂ (λ xs ys. xs ++ ys) before.receives its.receives ∙ sym (flat_map-append receives_of lines (line ∷ []));
  each = All-append (IsReportIn (chart_of h)) reports own before.each its.each;
}

-- a list to which the reports of one more line were added
pub reports_added : {A E : Type 0} (result : Result A E) (p : ℕ) (own before after : List ReportView) (its : List Occurrence → Type 0) → OnOk result (after ≡ before ++ own) → ((h : List Occurrence) → its h → AreReportsOf (chart_of h) (history_line h p ∷ []) own)
    → OnOk result ((h : List Occurrence) (lines : List LineView) → its h → AreReportsOf (chart_of h) lines before → AreReportsOf (chart_of h) (lines ++ history_line h p ∷ []) after)
reports_added (Ok v) p own before after its same are = λ h lines holds there. subst (AreReportsOf (chart_of h) (lines ++ history_line h p ∷ [])) (sym same) (reports_push h lines (history_line h p) before own there (are h holds))
reports_added (Err e) p own before after its same are = record {}

-- the room for the lane between two of these posts fits any history that all posts have in common
pub room_for : (n k : ℕ) (posts : List PostView) → AreOf n k posts → (to from : PostView) (q p : ℕ) (room : Room) → IsAmong posts to → IsAmong posts from → to.number ≡ p → from.number ≡ q
    → ((h : List Occurrence) → IsJoint h to → IsJoint h from → IsRoom h to.board.size to.board.capacity from.number to.number room) → (h : List Occurrence) → AreJoint h posts → IsRoom h n k q p room
room_for n k posts are to from q p room to_there from_there to_is from_is its h joint =
    let sized = are.size to_there.0 to to_there.1 in
    subst (λ x. IsRoom h x k q p room) sized.0 (subst (λ x. IsRoom h to.board.size x q p room) sized.1 (subst (λ x. IsRoom h to.board.size to.board.capacity x p room) from_is (subst (λ x. IsRoom h to.board.size to.board.capacity from.number x room) to_is
    (its h (joint to_there.0 to to_there.1) (joint from_there.0 from from_there.1)))))

-- Lists for the events of lines: a new list, and one more list.

pub for_line_made : {E : Type 0} (made : Result (Vec Event) E) (many p : ℕ) (its : List Occurrence → Type 0) → IfOk made (λ (v : Vec Event). v.items ≡ []) → IfOk made (λ (v : Vec Event). vec_capacity v ≡ many)
    → ((h : List Occurrence) → its h → many ≡ length (chart_of h p)) → IfOk made (λ (v : Vec Event). (h : List Occurrence) → its h → IsForLine h p v)
for_line_made (Ok v) many p its empty exact long = λ h holds. record { empty = empty; exact = exact ∙ long h holds }
for_line_made (Err e) many p its empty exact long = record {}

pub for_lines_push : (h : List Occurrence) (many : ℕ) (lists : List (Vec Event)) (events : Vec Event) → AreForLinesBehind h many lists → IsForLine h (many + length lists + 1) events → AreForLinesBehind h many (lists ++ events ∷ [])
for_lines_push h many [] events before its = let same : many + 0 + 1 ≡ many + 1 = omega arith in (subst (λ p. IsForLine h p events) same its, record {})
for_lines_push h many (x ∷ lists) events before its =
    let same : many + suc (length lists) + 1 ≡ many + 1 + length lists + 1 = omega arith in
    (before.0, for_lines_push h (many + 1) lists events before.1 (subst (λ p. IsForLine h p events) same its))
