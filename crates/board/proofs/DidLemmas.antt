-- What a call's steps add to what its seat knows, one after another.
use Rattle.std.proofs.Common.{◌≡◌, ℕ, ◌+◌, ◌≤◌, List, [], ◌++◌, length, refl, sym, ap, ◌∙◌, subst, arith, length-drop}
use Rattle.chart.specs.declared.history.Occurrence.{Occurrence}
use Rattle.chart.specs.Histories.{own, sent, received, waiting, IsLegal}
use Rattle.chart.proofs.Histories.{begins_same, begins_onward, received-le}
use Rattle.board_table.specs.declared.held.Held.{Held}
use Rattle.board_table.specs.Knowing.{Sees, Moves, at_rest}
use Rattle.board.specs.Known.{Did}

-- nothing was done
pub did_nothing : (n k p : ℕ) (e : Held) → IsLegal n k e.seen → own e.seen p ≡ e.made → Did n k p e e e.seen []
did_nothing n k p e legal its = record {
  later = begins_same e.seen;
  legal_before = legal;
  own_before = its;
  seen = refl;
  made = refl;
  legal = legal;
  own = its;
  looks = omega arith;
}

-- something was seen
pub did_see : (n k p : ℕ) (e f : Held) → f.number ≡ p → e.looks ≤ f.looks → Sees n k e f → Did n k p e f f.seen []
did_see n k p e f number looks sees =
    let its : own f.seen p ≡ f.made = subst (λ x. own f.seen x ≡ f.made) number sees.own in
    record {
      later = sees.later;
      legal_before = sees.legal;
      own_before = its ∙ sees.made;
      seen = refl;
      made = sees.made;
      legal = sees.legal;
      own = its;
      looks = looks;
    }

-- then slots were given back
pub did_put_back : (n k p : ℕ) (e f g : Held) (before events : List Occurrence) → Did n k p e f before events → g ≡ at_rest f → Did n k p e g before events
did_put_back n k p e f g before events did same = subst (λ x. Did n k p e x before events) (sym same) (record {
  later = did.later;
  legal_before = did.legal_before;
  own_before = did.own_before;
  seen = did.seen;
  made = did.made;
  legal = did.legal;
  own = did.own;
  looks = did.looks;
})

-- then these events were made
pub did_move : (n k p : ℕ) (e f g : Held) (before events : List Occurrence) (many : List Occurrence → List Occurrence) → Did n k p e f f.seen [] → f.number ≡ p → ((h : List Occurrence) → many h ≡ events ++ h) → Moves n k f g before many → Did n k p e g before events
did_move n k p e f g before events many did number are moves =
    record {
      later = begins_onward e.seen f.seen before did.later moves.later;
      legal_before = moves.legal_before;
      own_before = subst (λ x. own before x ≡ f.made) number moves.own_before ∙ did.made;
      seen = moves.seen ∙ are before;
      made = moves.made ∙ are f.made ∙ ap (λ x. events ++ x) did.made;
      legal = moves.legal;
      own = subst (λ x. own g.seen x ≡ g.made) (moves.same.number ∙ number) moves.own;
      looks = let same = moves.looks in omega (arith, did.looks);
    }

-- what was seen before the call's events has the same events of p
pub did_same : (n k p : ℕ) (e f : Held) (before events : List Occurrence) → own e.seen p ≡ e.made → Did n k p e f before events → own before p ≡ own e.seen p
did_same n k p e f before events its did = did.own_before ∙ sym its

-- how many messages wait
pub waiting_many : (n k : ℕ) (h : List Occurrence) (q p : ℕ) → IsLegal n k h → length (waiting h q p) + received h q p ≡ length (sent h q p)
waiting_many n k h q p legal = let few = received-le n k h legal q p in omega (arith, length-drop (received h q p) (sent h q p))
