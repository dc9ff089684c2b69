-- The caret of a command that is refused for a name, an instance or a partner, and what may be there.
use Rattle.std.proofs.Common.{◌≡◌, ℕ, ◌+◌, Bool, true, false, cond, not, ◌||◌, ◌&&◌, eqb, List, [], ◌∷◌, ◌++◌, length, Result, Ok, Err, refl, sym, ap, ◌∙◌, subst, arith, append-nil, append_assoc}
use Rattle.std.specs.Prelude.{Option, None, Some, codes, bytes_eq, is_err, min}
use Rattle.std.proofs.lemmas.Bool.{false≢true, not-false, and_parts, and_from}
use Rattle.chart.specs.Names.{name_of, instance_of}
use Rattle.chart.specs.declared.instance.TheConstants.{MAX_INSTANCES}
use Rattle.chart.specs.declared.name.NameError.{NameError}
use Rattle.fault_places.proofs.CommandWalks.{name_fault, known_fault, same_fault, is_good, passes, same_early, same_later, known_early}
use Rattle.fault_places.proofs.SpotLemmas.{spot_same, goes_on}
use Rattle.fault_places.proofs.WalkLemmas.{IsPlaceFrom, place_before}
use Rattle.fault_places.specs.Carets.{fault_of, is_past, is_end, behind_word}
use Rattle.fault_places.specs.Spots.{first_of, behind_first, is_among, is_unknown, is_wrong, instead, inner, spot_from}
use Rattle.fault_places.specs.Wants.{on, begins_command, chart_next, next}
use Rattle.fault_places.specs.declared.spot.Spot.{Spot}
use Rattle.fault_places.specs.declared.want.Want.{Want}
use Rattle.fault_places.specs.declared.want.Want.TheVariants as wants
use Rattle.texts.specs.Instances.{known, known_of}
use Rattle.texts.specs.Lines.{named, name_or_cause}
use Rattle.texts.specs.declared.fault.Cause.{Cause}
use Rattle.texts.specs.declared.fault.Cause.TheVariants as causes

-- ---- what may be in a command

abbrev pub is_in_command : Want → Bool
is_in_command wants.Actor = true
is_in_command wants.Action = true
is_in_command wants.SendTo = true
is_in_command wants.Partner = true
is_in_command wants.Message = true
is_in_command wants.LineEnd = true
is_in_command _ = false

abbrev Stays : Option Want → Type 0
Stays None = Unit {0}
Stays (Some want) = is_in_command want ≡ true

stays_on : (b : Bool) (want : Want) → is_in_command want ≡ true → Stays (on b want)
stays_on true want h = h
stays_on false want h = tt

stays_verb : (x y z : Bool) → Stays (cond x (Some wants.SendTo) (cond y (Some wants.Partner) (on z wants.LineEnd)))
stays_verb true y z = refl
stays_verb false true z = refl
stays_verb false false true = refl
stays_verb false false false = tt

stays : (want : Want) (word : List ℕ) → is_in_command want ≡ true → Stays (next want word)
unfolding next chart_next begins_command
stays wants.Actor word h = stays_on (not (eqb (length word) 0)) wants.Action refl
stays wants.Action word h = stays_verb (bytes_eq word (codes "send")) (bytes_eq word (codes "receive") || bytes_eq word (codes "close")) (bytes_eq word (codes "any") || (bytes_eq word (codes "concurrent") || bytes_eq word (codes "endconcurrent")))
stays wants.SendTo word h = stays_on (not (eqb (length word) 0)) wants.Message refl
stays wants.Partner word h = stays_on (not (eqb (length word) 0)) wants.LineEnd refl
stays wants.Message word h = stays_on (not (eqb (length word) 0)) wants.LineEnd refl
stays wants.LineEnd word h = tt
stays _ word h = absurd (false≢true h)

-- ---- the first word that doesn't pass

-- the first of the words after others doesn't pass
abbrev pub IsBad : ℕ → List (List ℕ) → List (List ℕ) → Want → List (List ℕ) → Type 0
IsBad n names front want [] = ⊥
IsBad n names front want (word ∷ words) = is_good n names front want word ≡ false

-- the walk ends at the spot, at such a word
pub record IsStop (n : ℕ) (names front : List (List ℕ)) (want : Want) (start : ℕ) (words : List (List ℕ)) (cause : Cause) (spot : Spot) : Type 0 where
  pub before : List (List ℕ)
  pub from : List (List ℕ)
  pub are : words ≡ before ++ from
  pub word : ℕ
  pub place : IsPlaceFrom start word before from
  pub at : spot.place ≡ word + min (inner cause) (length (first_of from))
  pub kind : is_in_command spot.want ≡ true
  pub leads : (more : List (List ℕ)) → passes n names front want (before ++ more) ≡ passes n names (front ++ before) spot.want more
  pub bad : IsBad n names (front ++ before) spot.want from

-- a search for a fault of this cause finds the word that doesn't pass, if each word passes the turn before
pub record Finds (n low : ℕ) (names known_words line : List (List ℕ)) (cause : Cause) : Type 0 where
  pub right : (front : List (List ℕ)) (want : Want) (index : ℕ) (word : List ℕ) → is_in_command want ≡ true → is_good low names front want word ≡ true → is_wrong cause known_words line want index word ≡ false → is_good n names front want word ≡ true
  pub wrong : (front : List (List ℕ)) (want : Want) (index : ℕ) (word : List ℕ) (words : List (List ℕ)) → is_in_command want ≡ true → is_wrong cause known_words line want index word ≡ true → is_good n names front want word ≡ true
      → passes low names front want (word ∷ words) ≡ true → passes n names front want (word ∷ words) ≡ true
  pub same : (want : Want) (word : List ℕ) → instead cause want word ≡ want

-- after the first word
behind_of : (n : ℕ) (names front : List (List ℕ)) (want after : Want) (word : List ℕ) (words : List (List ℕ)) → next want word ≡ Some after
    → passes n names front want (word ∷ words) ≡ (is_good n names front want word && passes n names (front ++ word ∷ []) after words)
behind_of n names front want after word words e = ap (λ o. is_good n names front want word && behind_word o (λ behind. passes n names (front ++ word ∷ []) behind words)) e

stuck_of : (n : ℕ) (names front : List (List ℕ)) (want : Want) (word : List ℕ) (words : List (List ℕ)) → next want word ≡ None → passes n names front want (word ∷ words) ≡ (is_good n names front want word && false)
stuck_of n names front want word words e = ap (λ o. is_good n names front want word && behind_word o (λ behind. passes n names (front ++ word ∷ []) behind words)) e

rest_false : (x y : Bool) → x ≡ true → (x && y) ≡ false → y ≡ false
rest_false true y e h = h
rest_false false y e h = absurd (false≢true e)

last_true : (x : Bool) → (x && false) ≡ true → ⊥
last_true true h = false≢true h
last_true false h = false≢true h

stop_here : (n : ℕ) (names front known_words line : List (List ℕ)) (cause : Cause) (want : Want) (index start : ℕ) (word : List ℕ) (others : List (List ℕ)) → instead cause want word ≡ want → is_in_command want ≡ true → is_wrong cause known_words line want index word ≡ true → is_good n names front want word ≡ false
    → IsStop n names front want start (word ∷ others) cause (spot_from cause known_words line want index start (word ∷ others))
stop_here n names front known_words line cause want index start word others same kind w g =
    subst (IsStop n names front want start (word ∷ others) cause) (sym (spot_same cause known_words line want index start word (word ∷ others) others refl w same))
    (record {
      before = [];
      from = word ∷ others;
      are = refl;
      word = start;
      place = omega arith;
      at = refl;
      kind = kind;
      leads = λ more. ap (λ l. passes n names l want more) (sym (append-nil front));
      bad = ap (λ l. is_good n names l want word) (append-nil front) ∙ g;
    })

stop_on : (n : ℕ) (names front known_words line : List (List ℕ)) (cause : Cause) (want after : Want) (index start : ℕ) (word other : List ℕ) (others : List (List ℕ)) → is_wrong cause known_words line want index word ≡ false → next want word ≡ Some after → is_good n names front want word ≡ true
    → IsStop n names (front ++ word ∷ []) after (start + (length word + 1)) (other ∷ others) cause (spot_from cause known_words line after (index + 1) (start + (length word + 1)) (other ∷ others))
    → IsStop n names front want start (word ∷ (other ∷ others)) cause (spot_from cause known_words line want index start (word ∷ (other ∷ others)))
stop_on n names front known_words line cause want after index start word other others w e g f =
    subst (IsStop n names front want start (word ∷ (other ∷ others)) cause) (sym (goes_on cause known_words line want after index start word (word ∷ (other ∷ others)) (other ∷ others) refl (record { first = other; others = others; is = refl }) w e))
    (record {
      before = word ∷ f.before;
      from = f.from;
      are = ap (λ l. word ∷ l) f.are;
      word = f.word;
      place = place_before start f.word word f.before f.from f.place;
      at = f.at;
      kind = f.kind;
      leads = λ more. behind_of n names front want after word (f.before ++ more) e ∙ ap (λ b. b && passes n names (front ++ word ∷ []) after (f.before ++ more)) g ∙ f.leads more
          ∙ ap (λ l. passes n names l (spot_from cause known_words line after (index + 1) (start + (length word + 1)) (other ∷ others)).want more) (append_assoc front (word ∷ []) f.before);
      bad = moved f.from f.bad;
    })
  where
    moved : (from : List (List ℕ)) → IsBad n names ((front ++ word ∷ []) ++ f.before) (spot_from cause known_words line after (index + 1) (start + (length word + 1)) (other ∷ others)).want from
        → IsBad n names (front ++ (word ∷ f.before)) (spot_from cause known_words line after (index + 1) (start + (length word + 1)) (other ∷ others)).want from
    moved [] bad = bad
    moved (x ∷ xs) bad = ap (λ l. is_good n names l (spot_from cause known_words line after (index + 1) (start + (length word + 1)) (other ∷ others)).want x) (sym (append_assoc front (word ∷ []) f.before)) ∙ bad

pub stop : (n low : ℕ) (names front known_words line : List (List ℕ)) (cause : Cause) (want : Want) (index start : ℕ) (words : List (List ℕ)) → Finds n low names known_words line cause → is_in_command want ≡ true
    → passes low names front want words ≡ true → passes n names front want words ≡ false → IsStop n names front want start words cause (spot_from cause known_words line want index start words)
stop n low names front known_words line cause want index start [] f kind h g = absurd (false≢true (sym g ∙ h))
stop n low names front known_words line cause want index start (word ∷ others) f kind h g =
    by (is_wrong cause known_words line want index word) refl (λ after k p q. stop n low names (front ++ word ∷ []) known_words line cause after (index + 1) (start + (length word + 1)) others f k p q)
  where
    good : is_good low names front want word ≡ true
    good = (and_parts (is_good low names front want word) (behind_word (next want word) (λ behind. passes low names (front ++ word ∷ []) behind others)) h).0

    bad : (b : Bool) → is_good n names front want word ≡ b → is_wrong cause known_words line want index word ≡ true → is_good n names front want word ≡ false
    bad true e w = absurd (false≢true (sym g ∙ f.wrong front want index word others kind w e h))
    bad false e w = e

    ahead : (others : List (List ℕ)) (o : Option Want) → next want word ≡ o → is_wrong cause known_words line want index word ≡ false → is_good n names front want word ≡ true → passes low names front want (word ∷ others) ≡ true → passes n names front want (word ∷ others) ≡ false
        → ((after : Want) → is_in_command after ≡ true → passes low names (front ++ word ∷ []) after others ≡ true → passes n names (front ++ word ∷ []) after others ≡ false
        → IsStop n names (front ++ word ∷ []) after (start + (length word + 1)) others cause (spot_from cause known_words line after (index + 1) (start + (length word + 1)) others))
        → IsStop n names front want start (word ∷ others) cause (spot_from cause known_words line want index start (word ∷ others))
    ahead others None e w r p q go = absurd (last_true (is_good low names front want word) (sym (stuck_of low names front want word others e) ∙ p))
    ahead [] (Some after) e w r p q go =
        let one = (and_parts (is_good low names front want word) (is_end after) (sym (behind_of low names front want after word [] e) ∙ p)).1 in
        let two = rest_false (is_good n names front want word) (is_end after) r (sym (behind_of n names front want after word [] e) ∙ q) in
        absurd (false≢true (sym two ∙ one))
    ahead (other ∷ others) (Some after) e w r p q go =
        let one = (and_parts (is_good low names front want word) (passes low names (front ++ word ∷ []) after (other ∷ others)) (sym (behind_of low names front want after word (other ∷ others) e) ∙ p)).1 in
        let two = rest_false (is_good n names front want word) (passes n names (front ++ word ∷ []) after (other ∷ others)) r (sym (behind_of n names front want after word (other ∷ others) e) ∙ q) in
        stop_on n names front known_words line cause want after index start word other others w e r (go after (subst Stays e (stays want word kind)) one two)

    by : (b : Bool) → is_wrong cause known_words line want index word ≡ b
        → ((after : Want) → is_in_command after ≡ true → passes low names (front ++ word ∷ []) after others ≡ true → passes n names (front ++ word ∷ []) after others ≡ false
        → IsStop n names (front ++ word ∷ []) after (start + (length word + 1)) others cause (spot_from cause known_words line after (index + 1) (start + (length word + 1)) others))
        → IsStop n names front want start (word ∷ others) cause (spot_from cause known_words line want index start (word ∷ others))
    by true w go = stop_here n names front known_words line cause want index start word others (f.same want word) kind w (bad (is_good n names front want word) refl w)
    by false w go = ahead others (next want word) refl w (f.right front want index word kind good w) h g go

-- ---- names

name_good : (n : ℕ) (word : List ℕ) → is_err (name_or_cause word) ≡ false → is_past n (name_fault word) ≡ true
name_good n word e = by (name_or_cause word) e
  where
    by : (r : Result (List ℕ) Cause) → is_err r ≡ false → is_past n (fault_of r) ≡ true
    by (Ok x) e = refl
    by (Err cause) e = absurd (false≢true (sym e))

name_bad : (word : List ℕ) → is_err (name_or_cause word) ≡ true → is_past 1 (name_fault word) ≡ false
name_bad word e = by (name_of word) e
  where
    by : (r : Result (List ℕ) NameError) → is_err (named r) ≡ true → is_past 1 (fault_of (named r)) ≡ false
    by (Ok x) e = absurd (false≢true e)
    by (Err fault) e = refl

name_up : (n : ℕ) (word : List ℕ) → is_past 1 (name_fault word) ≡ true → is_past n (name_fault word) ≡ true
name_up n word e = by (name_of word) e
  where
    by : (r : Result (List ℕ) NameError) → is_past 1 (fault_of (named r)) ≡ true → is_past n (fault_of (named r)) ≡ true
    by (Ok x) e = refl
    by (Err fault) e = absurd (false≢true e)

name_up_again : (n : ℕ) (word : List ℕ) → is_past 2 (name_fault word) ≡ true → is_past n (name_fault word) ≡ true
name_up_again n word e = by (name_of word) e
  where
    by : (r : Result (List ℕ) NameError) → is_past 2 (fault_of (named r)) ≡ true → is_past n (fault_of (named r)) ≡ true
    by (Ok x) e = refl
    by (Err fault) e = absurd (false≢true e)

known_up : (n : ℕ) (names : List (List ℕ)) (word : List ℕ) → is_past 2 (known_fault names word) ≡ true → is_past n (known_fault names word) ≡ true
unfolding known_of
known_up n names word e = by (instance_of names word) e
  where
    by : (o : Option ℕ) → is_past 2 (fault_of (known o)) ≡ true → is_past n (fault_of (known o)) ≡ true
    by None e = absurd (false≢true e)
    by (Some p) e = refl

-- the three parts of a partner that passes
parts_of : (n : ℕ) (names front : List (List ℕ)) (word : List ℕ) → (is_past n (name_fault word) && (is_past n (known_fault names word) && is_past n (same_fault (first_of front) word))) ≡ true
    → (is_past n (name_fault word) ≡ true) × (is_past n (known_fault names word) ≡ true) × (is_past n (same_fault (first_of front) word) ≡ true)
parts_of n names front word h =
    let one = and_parts (is_past n (name_fault word)) (is_past n (known_fault names word) && is_past n (same_fault (first_of front) word)) h in
    let two = and_parts (is_past n (known_fault names word)) (is_past n (same_fault (first_of front) word)) one.1 in
    (one.0, two.0, two.1)

partner_passes : (n : ℕ) (names front : List (List ℕ)) (word : List ℕ) → is_past n (name_fault word) ≡ true → is_past n (known_fault names word) ≡ true → is_past n (same_fault (first_of front) word) ≡ true
    → (is_past n (name_fault word) && (is_past n (known_fault names word) && is_past n (same_fault (first_of front) word))) ≡ true
partner_passes n names front word a b c = and_from _ _ a (and_from _ _ b c)

pub finds_name : (names known_words line : List (List ℕ)) (fault : NameError) → Finds 1 0 names known_words line (causes.Name fault)
unfolding is_wrong instead
finds_name names known_words line fault = record { right = right; wrong = wrong; same = λ want word. refl }
  where
    right : (front : List (List ℕ)) (want : Want) (index : ℕ) (word : List ℕ) → is_in_command want ≡ true → is_good 0 names front want word ≡ true → is_wrong (causes.Name fault) known_words line want index word ≡ false → is_good 1 names front want word ≡ true
    right front wants.Actor index word k l w = and_from _ _ (name_good 1 word w) (known_early names word)
    right front wants.SendTo index word k l w = partner_passes 1 names front word (name_good 1 word w) (known_early names word) (same_early (first_of front) word)
    right front wants.Partner index word k l w = partner_passes 1 names front word (name_good 1 word w) (known_early names word) (same_early (first_of front) word)
    right front wants.Message index word k l w = name_good 1 word w
    right front _ index word k l w = refl

    wrong : (front : List (List ℕ)) (want : Want) (index : ℕ) (word : List ℕ) (words : List (List ℕ)) → is_in_command want ≡ true → is_wrong (causes.Name fault) known_words line want index word ≡ true → is_good 1 names front want word ≡ true
        → passes 0 names front want (word ∷ words) ≡ true → passes 1 names front want (word ∷ words) ≡ true
    wrong front wants.Actor index word words k w g l = absurd (false≢true (sym (name_bad word w) ∙ (and_parts (is_past 1 (name_fault word)) (is_past 1 (known_fault names word)) g).0))
    wrong front wants.SendTo index word words k w g l = absurd (false≢true (sym (name_bad word w) ∙ (parts_of 1 names front word g).0))
    wrong front wants.Partner index word words k w g l = absurd (false≢true (sym (name_bad word w) ∙ (parts_of 1 names front word g).0))
    wrong front wants.Message index word words k w g l = absurd (false≢true (sym (name_bad word w) ∙ g))
    wrong front wants.Action index word words k w g l = absurd (false≢true w)
    wrong front wants.LineEnd index word words k w g l = absurd (false≢true w)
    wrong front _ index word words k w g l = absurd (false≢true k)

-- ---- instances

-- the words after the first one are those of the instances
pub record AreKnown (names known_words : List (List ℕ)) : Type 0 where
  pub there : (word : List ℕ) → is_among word MAX_INSTANCES (behind_first known_words) ≡ true → is_past 2 (known_fault names word) ≡ true
  pub missing : (word : List ℕ) → is_among word MAX_INSTANCES (behind_first known_words) ≡ false → is_past 2 (known_fault names word) ≡ false

not-true : (b : Bool) → not b ≡ true → b ≡ false
not-true true e = absurd (false≢true e)
not-true false e = refl

pub finds_unknown : (names known_words line : List (List ℕ)) → AreKnown names known_words → Finds 2 1 names known_words line causes.UnknownInstance
unfolding is_wrong is_unknown instead
finds_unknown names known_words line are = record { right = right; wrong = wrong; same = λ want word. refl }
  where
    right : (front : List (List ℕ)) (want : Want) (index : ℕ) (word : List ℕ) → is_in_command want ≡ true → is_good 1 names front want word ≡ true → is_wrong causes.UnknownInstance known_words line want index word ≡ false → is_good 2 names front want word ≡ true
    right front wants.Actor index word k l w =
        and_from _ _ (name_up 2 word (and_parts (is_past 1 (name_fault word)) (is_past 1 (known_fault names word)) l).0) (are.there word (not-false (is_among word MAX_INSTANCES (behind_first known_words)) w))
    right front wants.SendTo index word k l w =
        partner_passes 2 names front word (name_up 2 word (parts_of 1 names front word l).0) (are.there word (not-false (is_among word MAX_INSTANCES (behind_first known_words)) w)) (same_later (first_of front) word)
    right front wants.Partner index word k l w =
        partner_passes 2 names front word (name_up 2 word (parts_of 1 names front word l).0) (are.there word (not-false (is_among word MAX_INSTANCES (behind_first known_words)) w)) (same_later (first_of front) word)
    right front wants.Message index word k l w = name_up 2 word l
    right front _ index word k l w = refl

    wrong : (front : List (List ℕ)) (want : Want) (index : ℕ) (word : List ℕ) (words : List (List ℕ)) → is_in_command want ≡ true → is_wrong causes.UnknownInstance known_words line want index word ≡ true → is_good 2 names front want word ≡ true
        → passes 1 names front want (word ∷ words) ≡ true → passes 2 names front want (word ∷ words) ≡ true
    wrong front wants.Actor index word words k w g l =
        absurd (false≢true (sym (are.missing word (not-true (is_among word MAX_INSTANCES (behind_first known_words)) w)) ∙ (and_parts (is_past 2 (name_fault word)) (is_past 2 (known_fault names word)) g).1))
    wrong front wants.SendTo index word words k w g l = absurd (false≢true (sym (are.missing word (not-true (is_among word MAX_INSTANCES (behind_first known_words)) w)) ∙ (parts_of 2 names front word g).1))
    wrong front wants.Partner index word words k w g l = absurd (false≢true (sym (are.missing word (not-true (is_among word MAX_INSTANCES (behind_first known_words)) w)) ∙ (parts_of 2 names front word g).1))
    wrong front wants.Message index word words k w g l = absurd (false≢true w)
    wrong front wants.Action index word words k w g l = absurd (false≢true w)
    wrong front wants.LineEnd index word words k w g l = absurd (false≢true w)
    wrong front _ index word words k w g l = absurd (false≢true k)

-- ---- partners

end_up : (names front words : List (List ℕ)) → passes 2 names front wants.LineEnd words ≡ true → passes 3 names front wants.LineEnd words ≡ true
unfolding next chart_next
end_up names front [] h = refl
end_up names front (word ∷ words) h = absurd (false≢true h)

partner_up : (names front : List (List ℕ)) (word : List ℕ) (words : List (List ℕ)) → behind_word (on (not (eqb (length word) 0)) wants.LineEnd) (λ behind. passes 2 names front behind words) ≡ true
    → behind_word (on (not (eqb (length word) 0)) wants.LineEnd) (λ behind. passes 3 names front behind words) ≡ true
partner_up names front word words h = by (not (eqb (length word) 0)) h
  where
    by : (b : Bool) → behind_word (on b wants.LineEnd) (λ behind. passes 2 names front behind words) ≡ true → behind_word (on b wants.LineEnd) (λ behind. passes 3 names front behind words) ≡ true
    by true h = end_up names front words h
    by false h = absurd (false≢true h)

message_up : (names front words : List (List ℕ)) → passes 2 names front wants.Message words ≡ true → passes 3 names front wants.Message words ≡ true
unfolding next
message_up names front [] h = absurd (false≢true h)
message_up names front (word ∷ words) h =
    let two = and_parts (is_past 2 (name_fault word)) (behind_word (on (not (eqb (length word) 0)) wants.LineEnd) (λ behind. passes 2 names (front ++ word ∷ []) behind words)) h in
    and_from _ _ (name_up_again 3 word two.0) (partner_up names (front ++ word ∷ []) word words two.1)

send_up : (names front : List (List ℕ)) (word : List ℕ) (words : List (List ℕ)) → behind_word (on (not (eqb (length word) 0)) wants.Message) (λ behind. passes 2 names front behind words) ≡ true
    → behind_word (on (not (eqb (length word) 0)) wants.Message) (λ behind. passes 3 names front behind words) ≡ true
send_up names front word words h = by (not (eqb (length word) 0)) h
  where
    by : (b : Bool) → behind_word (on b wants.Message) (λ behind. passes 2 names front behind words) ≡ true → behind_word (on b wants.Message) (λ behind. passes 3 names front behind words) ≡ true
    by true h = message_up names front words h
    by false h = absurd (false≢true h)

pub finds_partner : (names known_words line : List (List ℕ)) → Finds 3 2 names known_words line causes.ToItself
unfolding is_wrong instead next
finds_partner names known_words line = record { right = right; wrong = wrong; same = λ want word. refl }
  where
    right : (front : List (List ℕ)) (want : Want) (index : ℕ) (word : List ℕ) → is_in_command want ≡ true → is_good 2 names front want word ≡ true → is_wrong causes.ToItself known_words line want index word ≡ false → is_good 3 names front want word ≡ true
    right front wants.Actor index word k l w =
        let two = and_parts (is_past 2 (name_fault word)) (is_past 2 (known_fault names word)) l in
        and_from _ _ (name_up_again 3 word two.0) (known_up 3 names word two.1)
    right front wants.SendTo index word k l w = absurd (false≢true (sym w))
    right front wants.Partner index word k l w = absurd (false≢true (sym w))
    right front wants.Message index word k l w = name_up_again 3 word l
    right front _ index word k l w = refl

    wrong : (front : List (List ℕ)) (want : Want) (index : ℕ) (word : List ℕ) (words : List (List ℕ)) → is_in_command want ≡ true → is_wrong causes.ToItself known_words line want index word ≡ true → is_good 3 names front want word ≡ true
        → passes 2 names front want (word ∷ words) ≡ true → passes 3 names front want (word ∷ words) ≡ true
    wrong front wants.SendTo index word words k w g l =
        let rest = (and_parts (is_good 2 names front wants.SendTo word) (behind_word (on (not (eqb (length word) 0)) wants.Message) (λ behind. passes 2 names (front ++ word ∷ []) behind words)) l).1 in
        and_from _ _ g (send_up names (front ++ word ∷ []) word words rest)
    wrong front wants.Partner index word words k w g l =
        let rest = (and_parts (is_good 2 names front wants.Partner word) (behind_word (on (not (eqb (length word) 0)) wants.LineEnd) (λ behind. passes 2 names (front ++ word ∷ []) behind words)) l).1 in
        and_from _ _ g (partner_up names (front ++ word ∷ []) word words rest)
    wrong front wants.Actor index word words k w g l = absurd (false≢true w)
    wrong front wants.Message index word words k w g l = absurd (false≢true w)
    wrong front wants.Action index word words k w g l = absurd (false≢true w)
    wrong front wants.LineEnd index word words k w g l = absurd (false≢true w)
    wrong front _ index word words k w g l = absurd (false≢true k)
