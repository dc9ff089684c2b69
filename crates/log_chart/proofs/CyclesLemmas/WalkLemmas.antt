-- A walk along the lines of a log: what is searched, and which turns come.
use Rattle.std.proofs.Common.{◌≡◌, ℕ, suc, ◌+◌, ◌<◌, ◌==◌, ◌⊎◌, inl, inr, Bool, true, false, cond, List, [], ◌∷◌, Option, None, Some, length, get_or, replicate, refl, sym, ap, ap₂, ◌∙◌, subst, arith, eqb-true}
use Rattle.std.specs.Prelude.{All, Contains, map}
use Rattle.std.proofs.lemmas.Bool.{cases_eq, cases_lt, eq-eqb, false≢true}
use Rattle.std.proofs.lemmas.List.{get_or_default, length-set, get_or-set_same, get_or-set_other, get_or-replicate, get_or_past, length-replicate, length-map, get_or-map}
use Rattle.std.proofs.lemmas.List.Elements.{All-contains, All-get_or, All-map, All-weaker}
use Rattle.chart.specs.declared.instance.TheConstants.{MAX_INSTANCES}
use Rattle.log_chart.specs.BegunTables.{IsRising}
use Rattle.log_chart.specs.Chains.{IsChain, AreChains, first_of}
use Rattle.log_chart.specs.Entries.{is_send, takes, HaveStreams}
use Rattle.log_chart.specs.Fates.{fate_of, stays}
use Rattle.log_chart.specs.FateTables.{IsWithin}
use Rattle.log_chart.specs.HostLines.{kept}
use Rattle.log_chart.specs.Matching.{send_for, left_after, matched}
use Rattle.log_chart.specs.declared.cycles.past.Past.{Past}
use Rattle.log_chart.specs.declared.entry.Entry.{Entry}
use Rattle.log_chart.specs.declared.matching.LogLine.{LogLine}
use Rattle.log_chart.specs.Cycles.Freeing.{is_sooner, IsFirst, freed}
use Rattle.log_chart.specs.Cycles.Order.{Comes}
use Rattle.log_chart.specs.Cycles.Order.Follows.{host, message}
use Rattle.log_chart.specs.Cycles.Order.Comes.{direct, through}
use Rattle.log_chart.specs.Cycles.Searching.{IsSeen, IsClosed, AreBefore}
use Rattle.log_chart.specs.Cycles.Sources.{AreLines, Leads, AreSources}
use Rattle.log_chart.specs.Cycles.Sources.Leads.{through as leads_through}
use Rattle.log_chart.specs.Cycles.Turns.{IsPlainLine, IsPlain, apart, left_before, takers, IsReady, HasSearched, HasAsked}
use Rattle.log_chart.specs.Cycles.Turns.HasAsked.{other, none, asked}
use Rattle.log_chart.proofs.LaneLists.{Has}
use Rattle.log_chart.proofs.RisingLists.{below_has}
use Rattle.log_chart.proofs.TakenLanes.{first_has, took, after_has}
use Rattle.log_chart.proofs.MatchingLemmas.{left_more}
use Rattle.log_chart.proofs.ChainLemmas.{chains_same}
use Rattle.log_chart.proofs.CyclesLemmas.KeptLemmas.{filter_in, in_filter, stays_before}
use Rattle.log_chart.proofs.CyclesLemmas.OracleLemmas.{IsStripped, AreStripped, map_back, map_in, comes_lines, off_cycle}
use Rattle.log_chart.proofs.CyclesLemmas.PlainLemmas.{IsAlone}
use Rattle.log_chart.proofs.CyclesLemmas.SearchLemmas.{past_all}
use Rattle.log_chart.proofs.CyclesLemmas.SettleLemmas.{takes_no_send, kept_all, kept_are, first_takes, freed_less, freed_length}
use Rattle.log_chart.proofs.CyclesLemmas.SourceLemmas.{comes_leads, leads_comes}
use Rattle.log_chart.proofs.CyclesLemmas.TurnLemmas.{place_line, HasTurned, above_sooner, plain_alone, turned_freed, turned_passed, send_is, line_in, left_are, left_send, left_freed}

-- what was found before the sends of the instance at place i
pub record IsSearched (tops sends : List (Option ℕ)) (count : ℕ) (streams : ℕ → Option ℕ) (left : ℕ → List ℕ) (i : ℕ) (past : Past) : Type 0 where
  pub whole : length past.seen.items ≡ count
  pub empty : past.stack.items ≡ []
  pub closed : IsClosed tops sends past.seen.items
  pub before : (c s : ℕ) → streams (suc i) ≡ Some c → Has (left c) s → AreBefore tops sends past.seen.items s

abbrev pub AreSearched : List (Option ℕ) → List (Option ℕ) → ℕ → (ℕ → Option ℕ) → (ℕ → List ℕ) → List Past → Type 0
AreSearched tops sends count streams left pasts = (i : ℕ) (x : Past) → i < length pasts → x ≡ get_or pasts i x → IsSearched tops sends count streams left i x

pub record AreTurns (initial log : List Entry) (first : Entry) (others : List LogLine) (tops sends firsts nexts : List (Option ℕ)) (pasts : List Past) (n : ℕ) : Type 0 where
  pub senders : ℕ → Option ℕ
  pub streams : ℕ → Option ℕ
  pub turned : HasTurned initial log senders streams first others n
  pub fewer : takers log < takers initial
  pub lists : length firsts ≡ length log
  pub left : AreChains firsts nexts (left_before log n)
  pub pasts_whole : length pasts ≡ MAX_INSTANCES
  pub searched : AreSearched tops sends (length log) streams (left_before log n) pasts

first_is : (nexts : List (Option ℕ)) (k : Option ℕ) (xs : List ℕ) → IsChain nexts k xs → k ≡ first_of xs
first_is nexts None [] chain = refl
first_is nexts None (x ∷ xs) chain = absurd chain
first_is nexts (Some k) [] chain = absurd chain
first_is nexts (Some k) (x ∷ xs) chain = ap (λ m. Some m) chain.0

searched_less : (tops sends : List (Option ℕ)) (count : ℕ) (streams : ℕ → Option ℕ) (left left' : ℕ → List ℕ) (pasts : List Past) → ((c s : ℕ) → Has (left' c) s → Has (left c) s)
    → AreSearched tops sends count streams left pasts → AreSearched tops sends count streams left' pasts
searched_less tops sends count streams left left' pasts less are i x within is =
    let old = are i x within is in
    record { whole = old.whole; empty = old.empty; closed = old.closed; before = λ c s its has. old.before c s its (less c s has) }

unseen : (n a : ℕ) → IsSeen (replicate n false) a → ⊥
unseen n a is =
    elim (cases_lt a n) [
      | inl less ↦ false≢true (sym (get_or-replicate n a false false less) ∙ is)
      | inr past ↦ false≢true (sym (get_or_past (replicate n false) a false (omega (arith, length-replicate n false))) ∙ is)
    ]

pub searched_none : (tops sends : List (Option ℕ)) (count : ℕ) (streams : ℕ → Option ℕ) (left : ℕ → List ℕ) (pasts : List Past) → All (λ (x : Past). (x.seen.items ≡ replicate count false) × (x.stack.items ≡ [])) pasts
    → AreSearched tops sends count streams left pasts
searched_none tops sends count streams left pasts all i x within is =
    let its = subst (λ (y : Past). (y.seen.items ≡ replicate count false) × (y.stack.items ≡ [])) (sym is) (All-get_or (λ (y : Past). (y.seen.items ≡ replicate count false) × (y.stack.items ≡ [])) pasts i x within all) in
    record {
      whole = ap length its.0 ∙ length-replicate count false;
      empty = its.1;
      closed = λ a b d seen. absurd (unseen count b (subst (λ l. IsSeen l b) its.0 seen));
      before = λ c s at has a seen. absurd (unseen count a (subst (λ l. IsSeen l a) its.0 seen));
    }

module _ (initial log : List Entry) (first : Entry) (others : List LogLine) (tops sends firsts nexts : List (Option ℕ)) (pasts : List Past) (n : ℕ)
    (turns : AreTurns initial log first others tops sends firsts nexts pasts n) (numbered : AreLines (length log) others) (sources : AreSources others (length log) tops sends)
    (e : Entry) (within : n < length log) (is : get_or log n e ≡ e) where
  plain_here : IsPlainLine turns.senders turns.streams first e
  plain_here = subst (IsPlainLine turns.senders turns.streams first) is (All-get_or (IsPlainLine turns.senders turns.streams first) log n e within turns.turned.plain)

  stream_in : e.stream < length log
  stream_in = subst (λ (x : Entry). x.stream < length log) is (All-get_or (λ (x : Entry). x.stream < length log) log n e within turns.turned.have)

  head_is : (r : Option ℕ) → get_or firsts e.stream None ≡ r → first_of (left_before log n e.stream) ≡ r
  head_is r head = sym (first_is nexts (get_or firsts e.stream None) (left_before log n e.stream) (turns.left e.stream (omega (arith, stream_in, turns.lists)))) ∙ head

  stream_of : (i : ℕ) → e.host ≡ first.host → takes e.kind ≡ true → e.peer ≡ suc i → turns.streams (suc i) ≡ Some e.stream
  stream_of i own one at =
      let receives = takes_no_send e.kind one in
      ap turns.streams (sym (ap (λ b. cond b e.host e.peer) receives ∙ at)) ∙ plain_here.stream (ap (λ b. cond b e.peer e.host) receives ∙ own)

  pub ready : (i s : ℕ) (x : Past) → i < length pasts → e.host ≡ first.host → takes e.kind ≡ true → e.peer ≡ suc i → get_or firsts e.stream None ≡ Some s → x ≡ get_or pasts i x → IsReady tops sends s x
  ready i s x i_in own one at head x_is =
      let its = turns.searched i x i_in x_is in
      record {
        within = λ a b d. let inside = sources.within a b d in omega (arith, inside, its.whole);
        empty = its.empty;
        closed = its.closed;
        before = its.before e.stream s (stream_of i own one at) (first_has (left_before log n e.stream) s (head_is (Some s) head));
      }

  -- where the line takes a send of its own lane
  module _ (own : e.host ≡ first.host) (one : takes e.kind ≡ true) where
    alone : All (IsAlone e.stream e.peer first.host) log
    alone = plain_alone turns.senders turns.streams first e log plain_here one own turns.turned.plain

    -- a send of the lane stays
    send_stays : (s : ℕ) → Has (left_before log n e.stream) s → (u : LogLine) × Contains others u × (u.number ≡ s) × (u.entry.host ≡ e.peer)
    send_stays s has =
        let w = left_send log n e.stream s has in
        let d = w.1.0 in
        let there = line_in log s d w.0 w.1.1 in
        let its = All-contains (IsAlone e.stream e.peer first.host) log d alone (s, w.0, w.1.1) in
        let x_in = filter_in (λ l. stays (fate_of (matched log) l)) (matched log) _ there (stays_before log n e within is one e.peer first.host alone _ there w.1.3) in
        let u = turns.turned.stripped.back _ x_in in
        (u.0, u.1, u.2.number, u.2.host ∙ sym (ap (λ b. cond b d.host d.peer) w.1.2) ∙ its.sender w.1.3)

    leads_on : (s t : ℕ) → first_of (left_before log n e.stream) ≡ Some s → Has (left_before log n e.stream) t → (s ≡ t) ⊎ Leads tops sends s t
    leads_on s t head has = go (left_before log n e.stream) head has ((left_are log n).rising e.stream) (send_stays s (first_has (left_before log n e.stream) s head)) (send_stays t has)
      where
        go : (l : List ℕ) → first_of l ≡ Some s → Has l t → IsRising l → ((u : LogLine) × Contains others u × (u.number ≡ s) × (u.entry.host ≡ e.peer))
            → ((u : LogLine) × Contains others u × (u.number ≡ t) × (u.entry.host ≡ e.peer)) → (s ≡ t) ⊎ Leads tops sends s t
        go [] h there rising u v = absurd there
        go (y ∷ l) h (inl same) rising u v = let at : y ≡ s = cc h in inl (sym at ∙ same)
        go (y ∷ l) h (inr there) rising u v =
            let at : y ≡ s = cc h in
            let less = below_has y t l rising.0 there in
            inr (sources.all s t (host u.0 v.0 u.1 v.1 u.2 v.2 (u.3 ∙ sym v.3) (omega (arith, at, less))))

    searched_next : (i s : ℕ) (after : List Past) (answer : Bool) → e.peer ≡ suc i → get_or firsts e.stream None ≡ Some s → HasSearched tops sends i s n pasts after answer
        → AreSearched tops sends (length log) turns.streams (left_before log n) after
    searched_next i s after answer at head has j x j_in x_is =
        elim (cases_eq j i) [
          | inr other_one ↦ turns.searched j x j_old (x_is ∙ ap (λ l. get_or l j x) has.pasts_are ∙ get_or-set_other pasts i j has.past x other_one)
          | inl same ↦
              let i_in : i < length pasts = omega (arith, j_old, same) in
              let one_past : x ≡ has.past = x_is ∙ ap₂ (λ l k. get_or l k x) has.pasts_are same ∙ get_or-set_same pasts i has.past x i_in in
              subst (IsSearched tops sends (length log) turns.streams (left_before log n) j) (sym one_past) (here i_in same)
        ]
      where
        j_old : j < length pasts
        j_old = omega (arith, j_in, ap length has.pasts_are, length-set pasts i has.past)

        here : i < length pasts → j ≡ i → IsSearched tops sends (length log) turns.streams (left_before log n) j has.past
        here i_in same =
            let old = get_or pasts i has.past in
            let old_is : old ≡ get_or pasts i old = get_or_default pasts i has.past old i_in in
            record {
              whole = has.whole old old_is ∙ (turns.searched i old i_in old_is).whole;
              empty = has.empty;
              closed = has.found.closed;
              before = λ c t its there a seen.
                  let e₁ : Some c ≡ Some e.stream = sym its ∙ ap (λ k. turns.streams (suc k)) same ∙ stream_of i own one at in
                  let c_is : c ≡ e.stream = cc e₁ in
                  let first_leads = has.found.before a seen in
                  elim (leads_on s t (head_is (Some s) head) (subst (λ k. Has (left_before log n k) t) c_is there)) [
                    | inl at_once ↦ subst (Leads tops sends a) at_once first_leads
                    | inr later ↦ leads_through first_leads later
                  ];
            }

    -- the line, with the send that it takes
    line_here : LogLine
    line_here = record { number = n; entry = e; send = send_for (left_before log n) e }

    -- the send isn't the line
    differs : (s : ℕ) → get_or firsts e.stream None ≡ Some s → s ≡ n → ⊥
    differs s head same =
        let w = left_send log n e.stream s (first_has (left_before log n e.stream) s (head_is (Some s) head)) in
        let at : w.1.0 ≡ e = sym w.1.1 ∙ ap (λ k. get_or log k w.1.0) same ∙ get_or_default log n w.1.0 e within ∙ is in
        false≢true (sym (takes_no_send e.kind one) ∙ sym (ap (λ (d : Entry). is_send d.kind) at) ∙ w.1.2)

    stripped : AreStripped first.host others (kept log)
    stripped = turns.turned.stripped

    pub found_first : (i s : ℕ) (after : List Past) (answer : Bool) → answer ≡ true → e.peer ≡ suc i → get_or firsts e.stream None ≡ Some s → HasSearched tops sends i s n pasts after answer → IsFirst (kept log) n
    found_first i s after answer holds at head has = record {
      on = record {
        line = record { number = n; entry = e; send = send_for (left_before log n) e };
        among = among;
        number = refl;
        send = s;
        takes = takes_s;
        cycle = through (comes_lines first.host (length log) others (kept log) numbered (kept_are log) turns.turned.stripped n s comes) (direct (message (record { number = n; entry = e; send = send_for (left_before log n) e }) among refl takes_s));
      };
      first = λ j on sooner. turns.turned.none j on (sym (ap (λ m. is_sooner on.line (record { number = n; entry = record e { host_name = m }; send = None })) (plain_here.named own)) ∙ sooner);
    }
      where
        there : Contains (matched log) (record { number = n; entry = e; send = send_for (left_before log n) e })
        there = line_in log n e within is

        among : Contains (kept log) (record { number = n; entry = e; send = send_for (left_before log n) e })
        among = filter_in (λ l. stays (fate_of (matched log) l)) (matched log) _ there (stays_before log n e within is one e.peer first.host alone _ there refl)

        takes_s : send_for (left_before log n) e ≡ Some s
        takes_s = ap (λ b. cond b (first_of (left_before log n e.stream)) None) one ∙ head_is (Some s) head

        comes : Comes others n s
        comes = leads_comes others (length log) tops sends sources n s (has.found.before n (sym has.answer ∙ holds))

    pub not_found : (i s : ℕ) (after : List Past) (answer : Bool) → answer ≡ false → e.peer ≡ suc i → get_or firsts e.stream None ≡ Some s → HasSearched tops sends i s n pasts after answer
        → (x : LogLine) → Contains (kept log) x → x.number ≡ n → (t : ℕ) → x.send ≡ Some t → Comes (kept log) n n → ⊥
    not_found i s after answer fails at head has x x_in x_at t takes_t cycle =
        off_cycle first.host (length log) others (kept log) numbered (kept_are log) turns.turned.stripped x x_in (ap (λ (d : Entry). d.host) entry_is ∙ own) t takes_t
        (λ same. differs s head (sym t_is ∙ same ∙ x_at)) clear above (subst (λ k. Comes (kept log) k k) (sym x_at) cycle)
      where
        its : (x.send ≡ send_for (left_before log n) x.entry) × (get_or log n x.entry ≡ x.entry)
        its = send_is log n x (in_filter (λ l. stays (fate_of (matched log) l)) (matched log) x x_in) x_at

        entry_is : x.entry ≡ e
        entry_is = sym its.1 ∙ get_or_default log n x.entry e within ∙ is

        t_is : t ≡ s
        t_is =
            let f : Some t ≡ Some s = sym takes_t ∙ its.0 ∙ ap (send_for (left_before log n)) entry_is ∙ ap (λ b. cond b (first_of (left_before log n e.stream)) None) one ∙ head_is (Some s) head in
            cc f

        clear : Comes others x.number t → ⊥
        clear comes =
            let leads = comes_leads others (length log) tops sends sources x.number t comes in
            let seen = past_all tops sends s has.past.seen.items has.found x.number (subst (Leads tops sends x.number) t_is leads) in
            false≢true (sym fails ∙ has.answer ∙ subst (IsSeen has.past.seen.items) x_at seen)

        above : (y : LogLine) → Contains (kept log) y → y.entry.host ≡ first.host → y.number < x.number → (a : ℕ) → y.send ≡ Some a → Comes (kept log) y.number y.number → ⊥
        above y y_in y_own less a takes_a round =
            let plain = All-contains (λ (l : LogLine). IsPlainLine turns.senders turns.streams first l.entry) (kept log) y (kept_all (IsPlainLine turns.senders turns.streams first) log turns.turned.plain) y_in in
            turns.turned.none y.number (record { line = y; among = y_in; number = refl; send = a; takes = takes_a; cycle = round }) (above_sooner first n y (plain.named y_own) (omega (arith, less, x_at)))

  -- the line is freed
  pub walk_freed : (after : List Past) (answer : Bool) → answer ≡ true → HasAsked tops sends firsts first.host e n pasts after answer → AreTurns initial (freed n log) first others tops sends firsts nexts after (n + 1)
  walk_freed after answer holds (other fails same is_false) = absurd (false≢true (sym is_false ∙ holds))
  walk_freed after answer holds (none head same is_false) = absurd (false≢true (sym is_false ∙ holds))
  walk_freed after answer holds (asked i s own one at head has) = record {
    senders = turns.senders;
    streams = turns.streams;
    turned = turned_freed initial log turns.senders turns.streams first others n turns.turned e within is one own (found_first own one i s after answer holds at head has);
    fewer = let less = freed_less n log e within is one in omega (arith, less, turns.fewer);
    lists = turns.lists ∙ sym (freed_length n log);
    left = chains_same firsts nexts (left_before log n) (left_before (freed n log) (n + 1)) (left_freed log n e within is one) turns.left;
    pasts_whole = ap length has.pasts_are ∙ length-set pasts i has.past ∙ turns.pasts_whole;
    searched = subst (λ m. AreSearched tops sends m turns.streams (left_before (freed n log) (n + 1)) after) (sym (freed_length n log))
        (searched_less tops sends (length log) turns.streams (left_before log n) (left_before (freed n log) (n + 1)) after (λ c t there. subst (λ l. Has l t) (sym (left_freed log n e within is one c)) there)
        (searched_next own one i s after answer at head has));
  }

  -- it isn't
  pub walk_passed : (after : List Past) (answer : Bool) (firsts' nexts' : List (Option ℕ)) → answer ≡ false → HasAsked tops sends firsts first.host e n pasts after answer → length firsts' ≡ length firsts
      → AreChains firsts' nexts' (left_after (left_before log n) e) → AreTurns initial log first others tops sends firsts' nexts' after (n + 1)
  walk_passed after answer firsts' nexts' fails has_asked same_length chains = record {
    senders = turns.senders;
    streams = turns.streams;
    turned = turned_passed initial log turns.senders turns.streams first others n turns.turned (clear has_asked);
    fewer = turns.fewer;
    lists = same_length ∙ turns.lists;
    left = chains_same firsts' nexts' (left_after (left_before log n) e) (left_before log (n + 1)) more chains;
    pasts_whole = pasts_long has_asked;
    searched = searched_less tops sends (length log) turns.streams (left_before log n) (left_before log (n + 1)) after (λ c t there. after_has (left_before log n) e c t (subst (λ l. Has l t) (sym (more c)) there)) (pasts_are has_asked);
  }
    where
      more : (c : ℕ) → left_after (left_before log n) e c ≡ left_before log (n + 1) c
      more c = ap (λ (f : ℕ → List ℕ). f c) (left_more log n e within (sym is))

      pasts_long : HasAsked tops sends firsts first.host e n pasts after answer → length after ≡ MAX_INSTANCES
      pasts_long (other differ same is_false) = ap length same ∙ turns.pasts_whole
      pasts_long (none head same is_false) = ap length same ∙ turns.pasts_whole
      pasts_long (asked i s own one at head has) = ap length has.pasts_are ∙ length-set pasts i has.past ∙ turns.pasts_whole

      pasts_are : HasAsked tops sends firsts first.host e n pasts after answer → AreSearched tops sends (length log) turns.streams (left_before log n) after
      pasts_are (other differ same is_false) = subst (AreSearched tops sends (length log) turns.streams (left_before log n)) (sym same) turns.searched
      pasts_are (none head same is_false) = subst (AreSearched tops sends (length log) turns.streams (left_before log n)) (sym same) turns.searched
      pasts_are (asked i s own one at head has) = searched_next own one i s after answer at head has

      -- the entry of a line with this number, and the send that it takes
      here : (x : LogLine) → Contains (kept log) x → x.number ≡ n → (x.entry ≡ e) × (x.send ≡ send_for (left_before log n) e)
      here x x_in x_at =
          let its = send_is log n x (in_filter (λ l. stays (fate_of (matched log) l)) (matched log) x x_in) x_at in
          let entry_is : x.entry ≡ e = sym its.1 ∙ get_or_default log n x.entry e within ∙ is in
          (entry_is, its.0 ∙ ap (send_for (left_before log n)) entry_is)

      clear : HasAsked tops sends firsts first.host e n pasts after answer → (x : LogLine) → Contains (kept log) x → x.entry.host_name ≡ first.host_name → x.number ≡ n → (s : ℕ) → x.send ≡ Some s
          → Comes (kept log) n n → ⊥
      clear (other differ same is_false) x x_in named x_at s takes_s cycle =
          let its = here x x_in x_at in
          differ (plain_here.owned (sym (ap (λ (d : Entry). d.host_name) its.0) ∙ named)) (took (left_before log n) e s (sym its.1 ∙ takes_s)).0
      clear (none head same is_false) x x_in named x_at s takes_s cycle =
          let its = here x x_in x_at in
          let t = took (left_before log n) e s (sym its.1 ∙ takes_s) in
          absurd (let f = sym (head_is None head) ∙ t.1 in cc f)
      clear (asked i s own one at head has) x x_in named x_at t takes_t cycle = not_found own one i s after answer fails at head has x x_in x_at t takes_t cycle

-- the lines of which those of a host take no send
apart_stripped : (p : ℕ) (x : LogLine) → IsStripped p (apart p x) x
apart_stripped p x = go (x.entry.host == p) refl
  where
    go : (its : Bool) → (x.entry.host == p) ≡ its → IsStripped p (cond its (record x { send = None }) x) x
    go true f = record { number = refl; host = refl; takes = λ a e. absurd (cc e); other = λ off. absurd (off (eqb-true x.entry.host p f)) }
    go false f = record { number = refl; host = refl; takes = λ a e. e; other = λ off. refl }

apart_none : (p : ℕ) (x : LogLine) → x.entry.host ≡ p → (apart p x).send ≡ None
apart_none p x own = ap (λ b. (cond b (record x { send = None }) x).send) (eq-eqb x.entry.host p own)

pub all_stripped : (p : ℕ) (lines : List LogLine) → AreStripped p (map (apart p) lines) lines
all_stripped p lines = record {
  to = λ u has. let w = map_back p lines u has in (w.0, w.1, subst (λ l. IsStripped p l w.0) w.2 (apart_stripped p w.0));
  back = λ x has. (apart p x, map_in p lines x has, apart_stripped p x);
  none = λ u has own.
      let w = map_back p lines u has in
      let at : w.0.entry.host ≡ p = sym (apart_stripped p w.0).host ∙ ap (λ (l : LogLine). l.entry.host) w.2 ∙ own in
      sym (ap (λ (l : LogLine). l.send) w.2) ∙ apart_none p w.0 at;
}

pub apart_lines : (n p : ℕ) (lines : List LogLine) → AreLines n lines → AreLines n (map (apart p) lines)
apart_lines n p lines are = record {
  numbered = All-map (λ (x : LogLine). x.number < n) (apart p) lines (All-weaker (λ (x : LogLine). x.number < n) (λ x. (apart p x).number < n) (λ x less. subst (λ k. k < n) (sym (apart_stripped p x).number) less) lines are.numbered);
  sends = All-map (λ (x : LogLine). IsWithin n x.send) (apart p) lines (All-weaker (λ (x : LogLine). IsWithin n x.send) (λ x. IsWithin n (apart p x).send) within lines are.sends);
  rise = λ i j d less inside.
      let j_in : j < length lines = omega (arith, inside, length-map lines (apart p)) in
      let i_is : get_or (map (apart p) lines) i d ≡ apart p (get_or lines i d) = get_or-map (apart p) lines i d d (omega (arith, less, j_in)) in
      let j_is : get_or (map (apart p) lines) j d ≡ apart p (get_or lines j d) = get_or-map (apart p) lines j d d j_in in
      let a : (get_or (map (apart p) lines) i d).number ≡ (get_or lines i d).number = ap (λ (x : LogLine). x.number) i_is ∙ (apart_stripped p (get_or lines i d)).number in
      let b : (get_or (map (apart p) lines) j d).number ≡ (get_or lines j d).number = ap (λ (x : LogLine). x.number) j_is ∙ (apart_stripped p (get_or lines j d)).number in
      let up = are.rise i j d less j_in in
      omega (arith, a, b, up);
}
  where
    within : (x : LogLine) → IsWithin n x.send → IsWithin n (apart p x).send
    within x its = go (x.entry.host == p)
      where
        go : (b : Bool) → IsWithin n (cond b (record x { send = None }) x).send
        go true = tt
        go false = its

-- the first turn
pub walk_begins : (log : List Entry) (first : Entry) (others : List LogLine) (tops sends firsts nexts : List (Option ℕ)) (pasts : List Past) (n : ℕ) → HaveStreams log → n < length log → first ≡ get_or log n first
    → IsPlain first log → IsFirst (kept log) n → others ≡ map (apart first.host) (kept log) → length firsts ≡ length log → AreChains firsts nexts (left_before log n) → length pasts ≡ MAX_INSTANCES
    → All (λ (x : Past). (x.seen.items ≡ replicate (length log) false) × (x.stack.items ≡ [])) pasts → AreTurns log (freed n log) first others tops sends firsts nexts pasts (n + 1)
walk_begins log first others tops sends firsts nexts pasts n have within is plain is_first others_are lists left whole all = record {
  senders = plain.senders;
  streams = plain.streams;
  turned = turned_freed log log plain.senders plain.streams first others n before first within (sym is) one refl is_first;
  fewer = freed_less n log first within (sym is) one;
  lists = lists ∙ sym (freed_length n log);
  left = chains_same firsts nexts (left_before log n) (left_before (freed n log) (n + 1)) (left_freed log n first within (sym is) one) left;
  pasts_whole = whole;
  searched = searched_none tops sends (length (freed n log)) plain.streams (left_before (freed n log) (n + 1)) pasts
      (subst (λ m. All (λ (x : Past). (x.seen.items ≡ replicate m false) × (x.stack.items ≡ [])) pasts) (sym (freed_length n log)) all);
}
  where
    one : takes first.kind ≡ true
    one =
        let w = first_takes log n is_first in
        ap (λ (e : Entry). takes e.kind) (is ∙ get_or_default log n first w.0 within ∙ w.2) ∙ w.3

    line : LogLine
    line = is_first.on.line

    entry_is : is_first.on.line.entry ≡ first
    entry_is =
        let its = send_is log n is_first.on.line (in_filter (λ l. stays (fate_of (matched log) l)) (matched log) is_first.on.line is_first.on.among) is_first.on.number in
        sym its.1 ∙ get_or_default log n is_first.on.line.entry first within ∙ sym is

    same : (x : LogLine) → is_sooner x (place_line first n) ≡ is_sooner x is_first.on.line
    same x = ap₂ (λ k (e : Entry). is_sooner x (record { number = k; entry = e; send = None })) (sym is_first.on.number) (sym entry_is)

    before : HasTurned log log plain.senders plain.streams first others n
    before = record {
      whole = refl;
      have = have;
      among = λ m its. its;
      so_far = λ out rest. rest;
      plain = plain.lines;
      stripped = subst (λ l. AreStripped first.host l (kept log)) (sym others_are) (all_stripped first.host (kept log));
      none = λ j on sooner. is_first.first j on (sym (same on.line) ∙ sooner);
    }
