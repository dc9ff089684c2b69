-- What a command adds to the recorded run, and what a history keeps without its closes.
use Rattle.std.proofs.Common.{◌≡◌, ℕ, suc, ◌+◌, ◌<◌, Bool, true, false, ◌==◌, cond, List, [], ◌∷◌, ◌++◌, length, drop, get_or, Option, None, Some, Result, Ok, Err, refl, sym, ap, ap₂, ◌∙◌, subst, arith, append-nil}
use Rattle.std.specs.Prelude.{nat_lt, nat_le, slice_get}
use Rattle.std.specs.Option.{option_map, option_to_list}
use Rattle.std.proofs.lemmas.Bool.{ltb-true}
use Rattle.std.proofs.lemmas.Option.{slice_get_past, slice_get-get_or}
use Rattle.chart.specs.declared.event.Event.{Event}
use Rattle.chart.specs.declared.history.Occurrence.{Occurrence}
use Rattle.chart.specs.declared.history.Occurrence.TheVariants as events
use Rattle.chart.specs.Events.{send_event, receive_event, MayHaveRegion}
use Rattle.chart.specs.Messages.{Content}
use Rattle.chart.specs.Histories.{is_lane, sent, received, waiting, is_closed, receive_of, line_gets, chart_of, IsLegal}
use Rattle.chart.specs.Scans.{scan}
use Rattle.chart.proofs.Sends.{line_after_send, line_after_receive}
use Rattle.chart.proofs.Steps.{line_after_close}
use Rattle.chart.proofs.Tally.{ith-append_next}
use Rattle.board.specs.Views.{BoardView, PostView, line_of}
use Rattle.schedule.specs.Plans.{Plan}
use Rattle.schedule.specs.declared.command.Command.{Command}
use Rattle.schedule.specs.declared.command.Action.{Action}
use Rattle.schedule.specs.declared.command.Action.TheVariants.{Send, Receive, Any, Close, Open, Shut}
use Rattle.schedule.specs.declared.command.Word.{Word}
use Rattle.schedule.specs.declared.command.Word.TheVariants as words
use Rattle.schedule.specs.Meaning.{Run, State, changed, has_waiting, is_line_full, happens, meaning, takes, first_waiting, are_closed, receives_any, acts, noted, step}
use Rattle.schedule.proofs.Scanning.{find-found}
use Rattle.chart.specs.declared.run_steps.step.Step.{Step}
use Rattle.chart.specs.declared.run_steps.step.Step.TheVariants as steps
use Rattle.chart.specs.RunSteps.Steps.{history_of, step_made}
use Rattle.chart.proofs.RunStepsLemmas.StepLemmas.{after-append}
use Rattle.schedule.specs.Outcomes.Performed.{HasDone}
use Rattle.schedule_replay.specs.Agreement.{Agrees, HasActed}
use Rattle.schedule_replay.specs.Recorded.{without_closes, HaveRecorded, IsRecorded}

-- Without closes a history has the same messages, receives and chart, and is still legal.

without-sent : (h : List Occurrence) (q p : ℕ) → sent (without_closes h) q p ≡ sent h q p
without-sent [] q p = refl
without-sent (events.Send a b m ∷ h) q p = ap (λ ms. cond (is_lane a b q p) (ms ++ m ∷ []) ms) (without-sent h q p)
without-sent (events.Receive a b c ∷ h) q p = without-sent h q p
without-sent (events.Close a b ∷ h) q p = without-sent h q p

without-received : (h : List Occurrence) (q p : ℕ) → received (without_closes h) q p ≡ received h q p
without-received [] q p = refl
without-received (events.Send a b m ∷ h) q p = without-received h q p
without-received (events.Receive a b c ∷ h) q p = ap (λ (j : ℕ). cond (is_lane b a q p) (j + 1) j) (without-received h q p)
without-received (events.Close a b ∷ h) q p = without-received h q p

without-waiting : (h : List Occurrence) (q p : ℕ) → waiting (without_closes h) q p ≡ waiting h q p
without-waiting h q p = ap₂ (λ (j : ℕ) (ms : List Content). drop j ms) (without-received h q p) (without-sent h q p)

pub without-chart : (h : List Occurrence) (p : ℕ) → chart_of (without_closes h) p ≡ chart_of h p
without-chart [] p = refl
without-chart (events.Send a b m ∷ h) p = ap (λ l. l ++ line_gets h p (events.Send a b m)) (without-chart h p)
without-chart (events.Receive a b c ∷ h) p = ap₂ (λ l ms. l ++ cond (a == p) (receive_of ms b c) []) (without-chart h p) (without-waiting h b a)
without-chart (events.Close a b ∷ h) p = without-chart h p ∙ sym (append-nil (chart_of h p))

without-closed : (h : List Occurrence) (q p : ℕ) → is_closed (without_closes h) q p ≡ false
without-closed [] q p = refl
without-closed (events.Send a b m ∷ h) q p = without-closed h q p
without-closed (events.Receive a b c ∷ h) q p = without-closed h q p
without-closed (events.Close a b ∷ h) q p = without-closed h q p

pub without-legal : (n k : ℕ) (h : List Occurrence) → IsLegal n k h → IsLegal n k (without_closes h)
without-legal n k [] legal = tt
without-legal n k (events.Send a b m ∷ h) legal =
    let free = legal.0.2 in
    let short = legal.0.3 in
    let waits = ap length (without-waiting h a b) in
    let line = ap length (without-chart h a) in
    ((legal.0.0, without-closed h a b, omega (arith, free, waits), omega (arith, short, line)), without-legal n k h legal.1)
without-legal n k (events.Receive a b c ∷ h) legal =
    let some = legal.0.1 in
    let short = legal.0.2 in
    let waits = ap length (without-waiting h b a) in
    let line = ap length (without-chart h a) in
    ((legal.0.0, omega (arith, some, waits), omega (arith, short, line), subst (λ l. MayHaveRegion l c) (sym (without-chart h a)) legal.0.3), without-legal n k h legal.1)
without-legal n k (events.Close a b ∷ h) legal = without-legal n k h legal.1

-- what an accepted command of p did to the history
pub data Did (r s : Run) (p : ℕ) : Type 0 where
  sent_one : (q : ℕ) (name : List ℕ) → s.history ≡ events.Send p q (record { name = name; body = [] }) ∷ r.history → Did r s p
  took_one : (q c : ℕ) → 0 < length (waiting r.history q p) → s.history ≡ events.Receive p q c ∷ r.history → Did r s p
  closed_one : (q : ℕ) → s.history ≡ events.Close p q ∷ r.history → Did r s p
  nothing : s.history ≡ r.history → Did r s p

-- the command did that, or was refused
abbrev DidIn : Run → ℕ → Result Run Word → Type 0
DidIn r p (Ok s) = Did r s p
DidIn r p (Err word) = Unit {0}

either : (r : Run) (p : ℕ) (b : Bool) (x y : Result Run Word) → DidIn r p x → DidIn r p y → DidIn r p (cond b x y)
either r p true x y left right = left
either r p false x y left right = right

takes-did : (r : Run) (p q : ℕ) → 0 < length (waiting r.history q p) → DidIn r p (takes r p q)
takes-did r p q some = either r p (is_line_full r.history p) (Err words.LineFull) (Ok (record { history = events.Receive p q (r.region p) ∷ r.history; last = changed r.last p q; region = r.region })) tt (took_one q (r.region p) some refl)

ended-did : (r : Run) (p : ℕ) (b : Bool) → DidIn r p (cond b (Err words.Ended) (Err words.Nothing))
ended-did r p b = either r p b (Err words.Ended) (Err words.Nothing) tt tt

did : (n k : ℕ) (r : Run) (p : ℕ) (action : Action) → DidIn r p (acts n k r p action)
did n k r p (Send q name) =
    let done : Result Run Word = Ok (happens r (events.Send p q (record { name = name; body = [] }))) in
    either r p (nat_lt 0 (r.region p)) (Err words.InCoregion) _ tt
    (either r p (is_closed r.history p q) (Err words.Closed) _ tt (either r p (is_line_full r.history p) (Err words.LineFull) _ tt (either r p (nat_le k (length (waiting r.history p q))) (Err words.Full) done tt (sent_one q name refl))))
did n k r p (Receive q) = go (has_waiting r.history q p) refl
  where
    go : (some : Bool) → has_waiting r.history q p ≡ some → DidIn r p (cond some (takes r p q) (cond (is_closed r.history q p) (Err words.Ended) (Err words.Nothing)))
    go true e = takes-did r p q (ltb-true 0 (length (waiting r.history q p)) e)
    go false e = ended-did r p (is_closed r.history q p)
did n k r p Any = go (first_waiting n r p) refl
  where
    go : (found : Option ℕ) → first_waiting n r p ≡ found → DidIn r p (receives_any n r p found)
    go None e = ended-did r p (are_closed n r p)
    go (Some q) e =
        let w = find-found (λ x. Unit {0}) (λ o. has_waiting r.history o p) (scan n p (r.last p)) q (λ i d h. tt) e in
        takes-did r p q (ltb-true 0 (length (waiting r.history q p)) w.0)
did n k r p (Close q) = either r p (is_closed r.history p q) (Err words.Closed) (Ok (happens r (events.Close p q))) tt (closed_one q refl)
did n k r p Open = either r p (nat_lt 0 (r.region p)) (Err words.Open) _ tt (nothing refl)
did n k r p Shut = either r p (nat_lt 0 (r.region p)) _ (Err words.NotOpen) (nothing refl) tt

-- the state after a command, and what the command did
pub record Led (board : BoardView) (r s : Run) (p : ℕ) (posts : List PostView) (last : List (Option ℕ)) : Type 0 where
  pub agrees : Agrees board s posts last
  pub did : Did r s p

pub led : (board : BoardView) (s : State) (command : Command) (answer : Option Word) (posts : List PostView) (last : List (Option ℕ)) → HasActed board s.run command (Ok answer) posts last
    → Led board s.run (step board.size board.capacity s command).run command.actor posts last
led board s command answer posts last has =
    go (acts board.size board.capacity s.run command.actor command.action) (did board.size board.capacity s.run command.actor command.action) answer has
  where
    go : (acted : Result Run Word) → DidIn s.run command.actor acted → (answer : Option Word) → HasDone (λ x. Agrees board x posts last) s.run (Ok answer) acted
        → Led board s.run (noted s command.line acted).run command.actor posts last
    go (Ok r) what None has = record { agrees = has; did = what }
    go (Ok r) what (Some word) has = absurd has
    go (Err word) what None has = absurd has
    go (Err word) what (Some noted) has = record { agrees = has.1; did = nothing refl }

-- the step of the line's new event, if it has one
pub recorded-next : (r s : Run) (p : ℕ) (done : List Step) → Did r s p → history_of done ≡ without_closes r.history → (found : Option Step) → found ≡ option_map (step_made p) (slice_get (chart_of s.history p) (length (chart_of r.history p))) → history_of (done ++ option_to_list found) ≡ without_closes s.history
recorded-next r s p done (sent_one q name e) before found is =
    let m : Content = record { name = name; body = [] } in
    let line = ap (λ h. chart_of h p) e ∙ line_after_send r.history p q m in
    let event = ap (λ l. slice_get l (length (chart_of r.history p))) line ∙ ith-append_next (chart_of r.history p) [] (send_event q name) in
    let same : found ≡ Some (steps.Send p q name) = is ∙ ap (option_map (step_made p)) event in
    ap (λ x. history_of (done ++ option_to_list x)) same ∙ after-append [] done (steps.Send p q name ∷ []) ∙ ap (λ h. events.Send p q m ∷ h) before ∙ sym (ap without_closes e)
recorded-next r s p done (took_one q c some e) before found is = go (waiting r.history q p) refl some
  where
    go : (ms : List Content) → waiting r.history q p ≡ ms → 0 < length ms → history_of (done ++ option_to_list found) ≡ without_closes s.history
    go [] none one = absurd (omega arith)
    go (m ∷ rest) first one =
        let line = ap (λ h. chart_of h p) e ∙ line_after_receive r.history p q c m rest first in
        let event = ap (λ l. slice_get l (length (chart_of r.history p))) line ∙ ith-append_next (chart_of r.history p) [] (receive_event q m.name c) in
        let same : found ≡ Some (steps.Receive p q c) = is ∙ ap (option_map (step_made p)) event in
        ap (λ x. history_of (done ++ option_to_list x)) same ∙ after-append [] done (steps.Receive p q c ∷ []) ∙ ap (λ h. events.Receive p q c ∷ h) before ∙ sym (ap without_closes e)
recorded-next r s p done (closed_one q e) before found is =
    let line = ap (λ h. chart_of h p) e ∙ line_after_close r.history p q p in
    let event = ap (λ l. slice_get l (length (chart_of r.history p))) line ∙ slice_get_past (chart_of r.history p) (length (chart_of r.history p)) (omega arith) in
    let same : found ≡ None = is ∙ ap (option_map (step_made p)) event in
    ap (λ x. history_of (done ++ option_to_list x)) same ∙ ap history_of (append-nil done) ∙ before ∙ sym (ap without_closes e)
recorded-next r s p done (nothing e) before found is =
    let line = ap (λ h. chart_of h p) e in
    let event = ap (λ l. slice_get l (length (chart_of r.history p))) line ∙ slice_get_past (chart_of r.history p) (length (chart_of r.history p)) (omega arith) in
    let same : found ≡ None = is ∙ ap (option_map (step_made p)) event in
    ap (λ x. history_of (done ++ option_to_list x)) same ∙ ap history_of (append-nil done) ∙ before ∙ sym (ap without_closes e)

-- the line of an instance's post is that of the run
line-at : (board : BoardView) (r : Run) (posts : List PostView) (last : List (Option ℕ)) (j : ℕ) → Agrees board r posts last → j < length posts
    → (post : PostView) × (slice_get posts j ≡ Some post) × (line_of post ≡ chart_of r.history (suc j))
line-at board r [] last j agrees within = absurd (omega (arith, within))
line-at board r (first ∷ rest) last j agrees within =
    let posts = first ∷ rest in
    let post = get_or posts j first in
    let at : slice_get posts j ≡ Some post = slice_get-get_or posts j first within in
    let at_last = slice_get-get_or last j None (omega (arith, within, agrees.as_many, agrees.posts.many)) in
    (post, at, ap₂ (λ (h : List Occurrence) (p : ℕ). chart_of h p) (agrees.far j post (get_or last j None) at at_last).seen (agrees.posts.each j post at).1)

-- the recording goes on by the step that is found
module _ (board : BoardView) (r s : Run) (p : ℕ) (old : List PostView) (before : List (Option ℕ)) (new : List PostView) (last : List (Option ℕ))
    (agrees : Agrees board r old before) (led : Led board r s p new last) where
  pub recorded-on : (j : ℕ) (done : List Step) (made : ℕ) (found : Option Step) → p ≡ suc j → j < length old → history_of done ≡ without_closes r.history
      → ((i : ℕ) (post : PostView) → p ≡ suc i → slice_get old i ≡ Some post → made ≡ length (line_of post))
      → ((i : ℕ) (post : PostView) → p ≡ suc i → slice_get new i ≡ Some post → found ≡ option_map (step_made p) (slice_get (line_of post) made))
      → history_of (done ++ option_to_list found) ≡ without_closes s.history
  recorded-on j done made found its within so_far was is =
      let o = line-at board r old before j agrees within in
      let w = line-at board s new last j led.agrees (omega (arith, within, agrees.posts.many, led.agrees.posts.many)) in
      let made_is : made ≡ length (chart_of r.history p) = was j o.0 its o.1 ∙ ap length (o.2 ∙ ap (chart_of r.history) (sym its)) in
      let found_is : found ≡ option_map (step_made p) (slice_get (chart_of s.history p) (length (chart_of r.history p))) =
      is j w.0 its w.1 ∙ ap₂ (λ (l : List Event) (m : ℕ). option_map (step_made p) (slice_get l m)) (w.2 ∙ ap (chart_of s.history) (sym its)) made_is in
      recorded-next r s p done led.did so_far found found_is

-- the recording of a plan's commands, by posts of a board of its size
pub recorded-is : (plan : Plan) (board : BoardView) (posts : List PostView) (last : List (Option ℕ)) (steps : List Step) → board.size ≡ length plan.names → board.capacity ≡ plan.capacity → HaveRecorded board plan.commands posts last steps → IsRecorded plan steps
recorded-is plan board posts last steps size capacity recorded =
    let legal = rw (size, capacity) at recorded.agrees.legal in
    let history : history_of steps ≡ without_closes (meaning plan).run.history = rw (size, capacity) at recorded.history in
    record {
      history = history;
      legal = subst (IsLegal (length plan.names) plan.capacity) (sym history) (without-legal (length plan.names) plan.capacity (meaning plan).run.history legal);
      chart = λ p. ap (λ h. chart_of h p) history ∙ without-chart (meaning plan).run.history p;
    }
