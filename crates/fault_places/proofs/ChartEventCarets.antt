-- The line of an event in a chart that is refused for another cause than its form: its caret, and what may be there.
use Rattle.std.proofs.Common.{◌≡◌, ◌≢◌, ℕ, ◌+◌, Bool, true, false, cond, ◌&&◌, List, [], ◌∷◌, length, Result, Ok, Err, inl, inr, refl, sym, ap, ◌∙◌, subst, arith}
use Rattle.std.specs.Prelude.{Option, None, Some, codes, bytes_eq, is_err, nat_le, min, unwrap_or}
use Rattle.std.proofs.lemmas.Bool.{false≢true}
use Rattle.chart.specs.Keywords.{spelled}
use Rattle.chart.specs.Names.{IsName}
use Rattle.chart.specs.declared.line.TheConstants.{MAX_EVENTS}
use Rattle.chart.specs.declared.name.NameError.{NameError}
use Rattle.fault_places.proofs.FreshNames.{a_named, b_named}
use Rattle.fault_places.proofs.SpotLemmas.{spot_same, goes_on}
use Rattle.fault_places.specs.Carets.{fault_of, is_past, GoesOn}
use Rattle.fault_places.specs.ChartCarets.{want_of, line_fault, MayName, may_go_on, IsChartCaret}
use Rattle.fault_places.specs.Spots.{name_in, named_by, is_wrong, instead, inner, spot_from}
use Rattle.fault_places.specs.Wants.{on, next}
use Rattle.fault_places.specs.declared.want.Want.{Want}
use Rattle.msc_text.specs.Reader.LastWords.{semi, is_last_word}
use Rattle.msc_text.specs.Reader.Steps.{name_part, is_plain, pair_of, names_of, alone_of}
use Rattle.msc_text.specs.declared.reader.state.Region.{Region}
use Rattle.msc_text.specs.declared.reader.state.Region.TheVariants as regions
use Rattle.msc_text.specs.declared.reader.state.State.{State}
use Rattle.msc_text.specs.declared.reader.state.State.TheVariants as states
use Rattle.texts.proofs.Lookups.{same_bytes}
use Rattle.texts.proofs.Parts.{lacks_if}
use Rattle.texts.proofs.Results.{name_again}
use Rattle.texts.specs.Faults.{◌>>=◌}
use Rattle.texts.specs.Lines.{name_or_cause}
use Rattle.texts.specs.declared.fault.Cause.{Cause}
use Rattle.texts.specs.declared.fault.Cause.TheVariants as causes
use Rattle.fault_places.proofs.ChartEventLines.{CaretAt, all_stop, Reads, may_message, may_partner, IsWay, late_fault, takes_names, takes_other, last_lacks}

-- ---- spots

spot_second : (c : Cause) (known line : List (List ℕ)) (begin message : Want) (k m : List ℕ) (others : List (List ℕ)) → next begin k ≡ Some message → is_wrong c known line begin 0 k ≡ false → is_wrong c known line message 1 m ≡ true → instead c message m ≡ message
    → spot_from c known line begin 0 0 (k ∷ m ∷ others) ≡ record { place = (0 + (length k + 1)) + min (inner c) (length m); want = message }
spot_second c known line begin message k m others n w x s =
    goes_on c known line begin message 0 0 k (k ∷ m ∷ others) (m ∷ others) refl (record { first = m; others = others; is = refl }) w n
    ∙ spot_same c known line message 1 (0 + (length k + 1)) m (m ∷ others) others refl x s

pub spot_fourth : (c : Cause) (known line : List (List ℕ)) (begin message side partner : Want) (k m t w : List ℕ) → next begin k ≡ Some message → next message m ≡ Some side → next side t ≡ Some partner
    → is_wrong c known line begin 0 k ≡ false → is_wrong c known line message 1 m ≡ false → is_wrong c known line side 2 t ≡ false → is_wrong c known line partner 3 w ≡ true → instead c partner w ≡ partner
    → spot_from c known line begin 0 0 (k ∷ m ∷ t ∷ w ∷ []) ≡ record { place = (((0 + (length k + 1)) + (length m + 1)) + (length t + 1)) + min (inner c) (length w); want = partner }
spot_fourth c known line begin message side partner k m t w n n' n'' x x' x'' wrong s =
    goes_on c known line begin message 0 0 k (k ∷ m ∷ t ∷ w ∷ []) (m ∷ t ∷ w ∷ []) refl (record { first = m; others = t ∷ w ∷ []; is = refl }) x n
    ∙ goes_on c known line message side 1 (0 + (length k + 1)) m (m ∷ t ∷ w ∷ []) (t ∷ w ∷ []) refl (record { first = t; others = w ∷ []; is = refl }) x' n'
    ∙ goes_on c known line side partner 2 ((0 + (length k + 1)) + (length m + 1)) t (t ∷ w ∷ []) (w ∷ []) refl (record { first = w; others = []; is = refl }) x'' n''
    ∙ spot_same c known line partner 3 (((0 + (length k + 1)) + (length m + 1)) + (length t + 1)) w (w ∷ []) [] refl wrong s

-- ---- carets

module _ (known names : List (List ℕ)) (own : List ℕ) (events : ℕ) {region : Region} {k t : List ℕ} {message side partner : Want} (way : IsWay region k t message side partner) (m w p : List ℕ) where
  state : State
  state = states.Inside own events region

  words : List (List ℕ)
  words = k ∷ m ∷ t ∷ w ∷ []

  -- the message has no name
  bad_message : (fault : NameError) → name_or_cause m ≡ Err (causes.Name fault) → (o : Option (List ℕ)) → is_past 1 (fault_of (names_of own events m o)) ≡ false
  unfolding names_of pair_of
  bad_message fault bad None = refl
  bad_message fault bad (Some q) = by (is_plain m)
    where
      by : (b : Bool) → is_past 1 (fault_of (cond b (pair_of own events m q) (Err causes.Syntax))) ≡ false
      by true = rw bad refl
      by false = refl

  message_stops : (fault : NameError) → name_or_cause m ≡ Err (causes.Name fault) → (more : List (List ℕ)) → is_past 1 (line_fault names (states.Inside own events region) (k ∷ m ∷ more)) ≡ false
  message_stops fault bad [] = refl
  message_stops fault bad (s ∷ []) = refl
  message_stops fault bad (s ∷ v ∷ []) = by (way.other names own events m s v)
    where
      by : Reads k own events m v (line_fault names (states.Inside own events region) (k ∷ m ∷ s ∷ v ∷ [])) → is_past 1 (line_fault names (states.Inside own events region) (k ∷ m ∷ s ∷ v ∷ [])) ≡ false
      by (inl e) = ap (is_past 1) e
      by (inr e) = ap (is_past 1) e ∙ bad_message fault bad (name_part v)
  message_stops fault bad (s ∷ v ∷ u ∷ more) = refl

  message_spot : (fault : NameError) → name_or_cause m ≡ Err (causes.Name fault)
      → spot_from (causes.Name fault) known (k ∷ m ∷ t ∷ w ∷ []) (want_of (states.Inside own events region)) 0 0 (k ∷ m ∷ t ∷ w ∷ []) ≡ record { place = (0 + (length k + 1)) + min (inner (causes.Name fault)) (length m); want = message }
  unfolding is_wrong instead
  message_spot fault bad =
      spot_second (causes.Name fault) known (k ∷ m ∷ t ∷ w ∷ []) (want_of (states.Inside own events region)) message k m (t ∷ w ∷ []) (way.first own events)
      (ap (λ b. b && is_err (name_or_cause (named_by (want_of (states.Inside own events region)) k))) (way.first_name own events))
      (ap (λ b. b && is_err (name_or_cause (named_by message m))) way.message_name ∙ ap (λ x. is_err (name_or_cause x)) (way.message_word m) ∙ ap is_err bad) refl

  pub message_caret : (fault : NameError) → name_or_cause m ≡ Err (causes.Name fault) → CaretAt names (states.Inside own events region) (causes.Name fault) known (k ∷ m ∷ t ∷ w ∷ [])
  message_caret fault bad =
      subst (IsChartCaret (line_fault names (states.Inside own events region)) (MayName names (states.Inside own events region) (causes.Name fault)) (states.Inside own events region) (causes.Name fault) (k ∷ m ∷ t ∷ w ∷ [])) (sym (message_spot fault bad))
      (record {
        before = k ∷ [];
        from = m ∷ t ∷ w ∷ [];
        are = refl;
        word = length k + 1;
        at_word = omega arith;
        place = omega arith;
        goes_on = λ go. (codes "a" ∷ t ∷ semi (codes "a") ∷ [], (lacks_if 32 (codes "a") refl, (way.lacks, (last_lacks (codes "a") a_named, tt))), ap (is_past 1) (way.read names own events (codes "a") (semi (codes "a"))) ∙ takes_names own events (codes "a") (codes "a") a_named a_named);
        stops = message_stops fault bad;
        may_be = may_message way.places (line_fault names (states.Inside own events region)) 1 (MayName names (states.Inside own events region) (causes.Name fault)) (k ∷ [])
            (λ name is. (t ∷ semi (codes "a") ∷ [], (way.lacks, (last_lacks (codes "a") a_named, tt)), ap (is_past 1) (way.read names own events name (semi (codes "a"))) ∙ takes_names own events name (codes "a") is a_named));
      })

  -- a line with this fault, whose last word is wrong
  last_stops : (n : ℕ) (cause : Cause) → line_fault names (states.Inside own events region) (k ∷ m ∷ t ∷ w ∷ []) ≡ Some cause → is_past n (Some cause) ≡ false → is_past n (Some causes.Syntax) ≡ false
      → (more : List (List ℕ)) → is_past n (line_fault names (states.Inside own events region) (k ∷ m ∷ t ∷ w ∷ more)) ≡ false
  last_stops n cause e h g [] = ap (is_past n) e ∙ h
  last_stops n cause e h g (u ∷ more) = g

  plain_next : is_plain m ≡ true → next message m ≡ Some side
  plain_next plain = way.second m ∙ ap (λ b. on b side) plain

  partner_spot : (fault : NameError) → IsName m → is_plain m ≡ true → name_part w ≡ Some p → name_or_cause p ≡ Err (causes.Name fault)
      → spot_from (causes.Name fault) known (k ∷ m ∷ t ∷ w ∷ []) (want_of (states.Inside own events region)) 0 0 (k ∷ m ∷ t ∷ w ∷ [])
      ≡ record { place = (((0 + (length k + 1)) + (length m + 1)) + (length t + 1)) + min (inner (causes.Name fault)) (length w); want = partner }
  unfolding is_wrong instead name_in
  partner_spot fault is plain part bad =
      spot_fourth (causes.Name fault) known (k ∷ m ∷ t ∷ w ∷ []) (want_of (states.Inside own events region)) message side partner k m t w (way.first own events) (plain_next plain) way.third
      (ap (λ b. b && is_err (name_or_cause (named_by (want_of (states.Inside own events region)) k))) (way.first_name own events))
      (ap (λ b. b && is_err (name_or_cause (named_by message m))) way.message_name ∙ ap (λ x. is_err (name_or_cause x)) (way.message_word m) ∙ ap is_err (name_again m is))
      (ap (λ b. b && is_err (name_or_cause (named_by side t))) way.side_name)
      (ap (λ b. b && is_err (name_or_cause (named_by partner w))) way.partner_name ∙ ap (λ x. is_err (name_or_cause x)) (way.partner_word w ∙ ap (λ o. unwrap_or o w) part) ∙ ap is_err bad) refl

  pub partner_caret : (fault : NameError) → IsName m → is_plain m ≡ true → name_part w ≡ Some p → name_or_cause p ≡ Err (causes.Name fault) → line_fault names (states.Inside own events region) (k ∷ m ∷ t ∷ w ∷ []) ≡ Some (causes.Name fault)
      → CaretAt names (states.Inside own events region) (causes.Name fault) known (k ∷ m ∷ t ∷ w ∷ [])
  partner_caret fault is plain part bad e =
      subst (IsChartCaret (line_fault names (states.Inside own events region)) (MayName names (states.Inside own events region) (causes.Name fault)) (states.Inside own events region) (causes.Name fault) (k ∷ m ∷ t ∷ w ∷ [])) (sym (partner_spot fault is plain part bad))
      (record {
        before = k ∷ m ∷ t ∷ [];
        from = w ∷ [];
        are = refl;
        word = ((length k + 1) + (length m + 1)) + (length t + 1);
        at_word = omega arith;
        place = omega arith;
        goes_on = λ go. (semi (codes "a") ∷ [], (last_lacks (codes "a") a_named, tt), ap (is_past 1) (way.read names own events m (semi (codes "a"))) ∙ takes_names own events m (codes "a") is a_named);
        stops = last_stops 1 (causes.Name fault) e refl refl;
        may_be = may_partner way.places (line_fault names (states.Inside own events region)) 1 (MayName names (states.Inside own events region) (causes.Name fault)) (k ∷ m ∷ t ∷ [])
            (λ name its may. ([], tt, ap (is_past 1) (way.read names own events m (semi name)) ∙ takes_names own events m name is its));
      })

  -- the partner is the instance itself
  itself_spot : is_plain m ≡ true → spot_from causes.ToItself known (k ∷ m ∷ t ∷ w ∷ []) (want_of (states.Inside own events region)) 0 0 (k ∷ m ∷ t ∷ w ∷ [])
      ≡ record { place = (((0 + (length k + 1)) + (length m + 1)) + (length t + 1)) + min (inner causes.ToItself) (length w); want = partner }
  unfolding is_wrong instead
  itself_spot plain =
      spot_fourth causes.ToItself known (k ∷ m ∷ t ∷ w ∷ []) (want_of (states.Inside own events region)) message side partner k m t w (way.first own events) (plain_next plain) way.third
      (way.first_partner own events) way.message_partner way.side_partner way.partner_is refl

  another : (x : List ℕ) × IsName x × (x ≢ own)
  another = by (bytes_eq (codes "a") own) refl
    where
      by : (b : Bool) → bytes_eq (codes "a") own ≡ b → (x : List ℕ) × IsName x × (x ≢ own)
      by true e = (codes "b", b_named, λ same. (let both : codes "b" ≡ codes "a" = same ∙ sym (same_bytes (codes "a") own e) in false≢true (sym (ap (bytes_eq (codes "b")) both))))
      by false e = (codes "a", a_named, λ same. false≢true (sym e ∙ ap (bytes_eq (codes "a")) (sym same)))

  pub itself_caret : IsName m → is_plain m ≡ true → line_fault names (states.Inside own events region) (k ∷ m ∷ t ∷ w ∷ []) ≡ Some causes.ToItself → CaretAt names (states.Inside own events region) causes.ToItself known (k ∷ m ∷ t ∷ w ∷ [])
  itself_caret is plain e =
      subst (IsChartCaret (line_fault names (states.Inside own events region)) (MayName names (states.Inside own events region) causes.ToItself) (states.Inside own events region) causes.ToItself (k ∷ m ∷ t ∷ w ∷ [])) (sym (itself_spot plain))
      (record {
        before = k ∷ m ∷ t ∷ [];
        from = w ∷ [];
        are = refl;
        word = ((length k + 1) + (length m + 1)) + (length t + 1);
        at_word = omega arith;
        place = omega arith;
        goes_on = λ go. (semi another.0 ∷ [], (last_lacks another.0 another.1, tt), ap (is_past 3) (way.read names own events m (semi another.0)) ∙ takes_other own events m another.0 is another.1 another.2);
        stops = last_stops 3 causes.ToItself e refl refl;
        may_be = may_partner way.places (line_fault names (states.Inside own events region)) 3 (MayName names (states.Inside own events region) causes.ToItself) (k ∷ m ∷ t ∷ [])
            (λ name its may. ([], tt, ap (is_past 3) (way.read names own events m (semi name)) ∙ takes_other own events m name is its may));
      })

  -- the instance has as many events as it may have
  full_pair : nat_le MAX_EVENTS events ≡ true → (s : List ℕ) (o : Option (List ℕ)) → is_past 4 (fault_of (names_of own events s o)) ≡ false
  unfolding names_of pair_of
  full_pair full s None = refl
  full_pair full s (Some q) = by (is_plain s) (name_or_cause s) (name_or_cause q)
    where
      late : (x : Bool) (v u : List ℕ) → is_past 4 (late_fault x (nat_le MAX_EVENTS events) v u) ≡ false
      late true v u = refl
      late false v u = rw full refl

      by : (b : Bool) (r s : Result (List ℕ) Cause)
          → is_past 4 (fault_of {A = List ℕ × List ℕ} (cond b (r >>= λ name. s >>= λ other. cond (bytes_eq other own) (Err causes.ToItself) (cond (nat_le MAX_EVENTS events) (Err causes.LineFull) (Ok (name, other)))) (Err causes.Syntax))) ≡ false
      by false r s = refl
      by true (Err c) s = all_stop c
      by true (Ok v) (Err c) = all_stop c
      by true (Ok v) (Ok u) = late (bytes_eq u own) v u

  full_stops : nat_le MAX_EVENTS events ≡ true → (more : List (List ℕ)) → is_past 4 (line_fault names (states.Inside own events region) (k ∷ more)) ≡ false
  full_stops full [] = ap (is_past 4) (way.alone names own events)
  full_stops full (v ∷ []) = refl
  full_stops full (v ∷ s ∷ []) = refl
  full_stops full (v ∷ s ∷ u ∷ []) = by (way.other names own events v s u)
    where
      by : Reads k own events v u (line_fault names (states.Inside own events region) (k ∷ v ∷ s ∷ u ∷ [])) → is_past 4 (line_fault names (states.Inside own events region) (k ∷ v ∷ s ∷ u ∷ [])) ≡ false
      by (inl e) = ap (is_past 4) e
      by (inr e) = ap (is_past 4) e ∙ full_pair full v (name_part u)
  full_stops full (v ∷ s ∷ u ∷ x ∷ more) = refl

  goes_full : (region : Region) → may_go_on causes.LineFull (states.Inside own events region) ≡ true → GoesOn (line_fault names (states.Inside own events region)) 4 []
  unfolding alone_of is_last_word spelled
  goes_full regions.Closed go = (codes "endinstance;" ∷ [], (lacks_if 32 (codes "endinstance;") refl, tt), refl)
  goes_full regions.Empty go = absurd (false≢true go)
  goes_full regions.Held go = (codes "endconcurrent;" ∷ [], (lacks_if 32 (codes "endconcurrent;") refl, tt), refl)

  full_spot : spot_from causes.LineFull known (k ∷ m ∷ t ∷ w ∷ []) (want_of (states.Inside own events region)) 0 0 (k ∷ m ∷ t ∷ w ∷ []) ≡ record { place = 0 + min (inner causes.LineFull) (length k); want = want_of (states.Inside own events region) }
  unfolding is_wrong instead
  full_spot = spot_same causes.LineFull known (k ∷ m ∷ t ∷ w ∷ []) (want_of (states.Inside own events region)) 0 0 k (k ∷ m ∷ t ∷ w ∷ []) (m ∷ t ∷ w ∷ []) refl refl refl

  pub full_caret : nat_le MAX_EVENTS events ≡ true → CaretAt names (states.Inside own events region) causes.LineFull known (k ∷ m ∷ t ∷ w ∷ [])
  full_caret full =
      subst (IsChartCaret (line_fault names (states.Inside own events region)) (MayName names (states.Inside own events region) causes.LineFull) (states.Inside own events region) causes.LineFull (k ∷ m ∷ t ∷ w ∷ [])) (sym full_spot)
      (record {
        before = [];
        from = k ∷ m ∷ t ∷ w ∷ [];
        are = refl;
        word = 0;
        at_word = refl;
        place = refl;
        goes_on = λ go. goes_full region go;
        stops = full_stops full;
        may_be = tt;
      })
