-- Where the rounds' events stand in the history.
use Rattle.std.proofs.Common.{Bool, IsTrue, List, Some, [], ap, arith, cond, drop, false, inl, inr, length, refl, subst, sym, take, true, zero, suc, ℕ, ⊎_elim, ◌+◌, ◌++◌, ◌<◌, ◌==◌, ◌≡◌, ◌≤◌, ◌∙◌, ◌∷◌}
use Rattle.std.specs.List.{AllByRecursion, count_by, list_any, slice_get}
use Rattle.std.proofs.lemmas.Bool.{false≢true}
use Rattle.std.proofs.lemmas.List.{length-take-le, take-append-drop}
use Rattle.std.proofs.lemmas.List.Elements.{All-from_recursion}
use Rattle.std.proofs.lemmas.List.Sums.{sum_by-append, sum_by-cons}
use Rattle.std.proofs.lemmas.Option.{slice_get_within}
use Rattle.tx_events.specs.declared.event.By.{By}
use Rattle.tx_events.specs.declared.event.Event.{Event}
use Rattle.tx_events.specs.declared.multi.MultiEvent.{MultiEvent}
use Rattle.tx_events.specs.Multis.{multi_by}
use Rattle.tx_events.specs.Events.{by_of, same_by}
use Rattle.tx_events.proofs.ListSteps.{eqb-refl}
use Rattle.tx_events.proofs.Membership.{Has, all_at, any_has, has_any, has_cases, has_contains, has_filter, has_flat_map, has_left, has_place, has_right, place_has}
use Rattle.tx_events.proofs.OwnEvents.{same_by_refl}
use Rattle.tx_model.specs.declared.report.Line.{Line}
use Rattle.tx_model.specs.Rounds.{StandFirst}
use Rattle.tx_model.specs.Lines.{has_line, is_line_of}
use Rattle.tx_model.specs.Replies.{RoundSpan}
use Rattle.life_law.specs.LawfulMultis.{MultisStandFirst}
use Rattle.life_law.specs.MultiPlaces.{has_multi_line}
use Rattle.tx_core.specs.declared.entry.Entry.{Entry}
use Rattle.tx_core.specs.declared.entry.Start.{Start}
use Rattle.tx_core.specs.Entries.{history}
use Rattle.tx_core.specs.MultiEntries.{multi_history}
use Rattle.tx_core.proofs.Taking.{get_of_take}
use Rattle.session_promise.specs.Closing.{IsOver}
use Rattle.session_promise.specs.Promise.{IsInRound, IsToldWell}
use Rattle.session_promise.specs.Told.{Follow, Span, Told, ToldRound, all_lines, in_events, in_multis, lines_by, lines_of, told_by, told_in, told_of}
use Rattle.session_promise.proofs.FewIds.{event_known}
use Rattle.session_promise.proofs.FewMultis.{multi_known}
use Rattle.session_promise.proofs.Sides.{same_is}
use Rattle.session_promise.proofs.Growing.{all_places}
use Rattle.session_promise.proofs.Telling.{lines_told}

-- ---- lists

at_drop : {X : Type 0} (m : ℕ) (xs : List X) (p : ℕ) (x : X) → slice_get (drop m xs) p ≡ Some x → slice_get xs (m + p) ≡ Some x
at_drop zero xs p x e = let q : 0 + p ≡ p = omega arith in subst (λ z. slice_get xs z ≡ Some x) (sym q) e
at_drop (suc m) [] p x e = absurd cc
at_drop (suc m) (y ∷ xs) p x e = let q : suc m + p ≡ suc (m + p) = omega arith in subst (λ z. slice_get (y ∷ xs) z ≡ Some x) (sym q) (at_drop m xs p x e)

none_counted : {X : Type 0} (p : X → Bool) (xs : List X) → AllByRecursion (λ x. p x ≡ false) xs → count_by p xs ≡ 0
none_counted p [] a = refl
none_counted p (x ∷ xs) a =
    let one : ℕ = cond (p x) 1 0 in
    let here : one ≡ 0 = ap (λ b. cond b 1 0) a.0 in
    let rest = none_counted p xs a.1 in
    sum_by-cons (λ y. cond (p y) 1 0) x xs ∙ omega (arith, here, rest)

all_counted : {X : Type 0} (p : X → Bool) (xs : List X) → AllByRecursion (λ x. IsTrue (p x)) xs → count_by p xs ≡ length xs
all_counted p [] a = refl
all_counted p (x ∷ xs) a =
    let one : ℕ = cond (p x) 1 0 in
    let here : one ≡ 1 = ap (λ b. cond b 1 0) a.0 in
    let rest = all_counted p xs a.1 in
    sum_by-cons (λ y. cond (p y) 1 0) x xs ∙ omega (arith, here, rest)

-- ---- rounds

-- in one history or the other
module _ (span : ToldRound → RoundSpan) where
  pub follow_less : (from to : ℕ) (rounds : List ToldRound) → Follow span from rounds to → from ≤ to
  follow_less from to [] f = omega (arith, f)
  follow_less from to (r ∷ rounds) f = let i = follow_less (span r).to to rounds f.2 in omega (arith, f.1, i)

  pub follow_split : (from to : ℕ) (front rest : List ToldRound) → Follow span from (front ++ rest) to → (m : ℕ) × Follow span from front m × Follow span m rest to
  follow_split from to [] rest f = (from, refl, f)
  follow_split from to (r ∷ front) rest f = let i = follow_split (span r).to to front rest f.2 in (i.0, (f.0, f.1, i.1), i.2)

  follow_in : (from to : ℕ) (rounds : List ToldRound) (r : ToldRound) → Follow span from rounds to → Has rounds r → (from ≤ (span r).from) × ((span r).to ≤ to)
  follow_in from to [] r f k = absurd k
  follow_in from to (x ∷ rounds) r f k =
      ⊎_elim
      (λ (q : x ≡ r).
      let a : (span x).from ≡ (span r).from = ap (λ (z : ToldRound). (span z).from) q in
      let b : (span x).to ≡ (span r).to = ap (λ (z : ToldRound). (span z).to) q in
      let i = follow_less (span x).to to rounds f.2 in let start = f.0 in (omega (arith, a, start), omega (arith, b, i)))
      (λ t. let i = follow_in (span x).to to rounds r f.2 t in let up = f.1 in (omega (arith, i.0, up), i.1))
      k

pub lines_have : (rounds : List ToldRound) (r : ToldRound) (l : Line) → Has rounds r → Has r.lines l → Has (all_lines rounds) l
lines_have [] r l k j = absurd k
lines_have (x ∷ rounds) r l k j =
    ⊎_elim
    (λ (q : x ≡ r). has_left x.lines (all_lines rounds) l (subst (λ (z : ToldRound). Has z.lines l) (sym q) j))
    (λ t. has_right x.lines (all_lines rounds) l (lines_have rounds r l t j))
    k

-- a line that the session told
told_in_has : (r : ToldRound) (lines : List Line) (l : Line) (n : ℕ) → l.by.session ≡ n → Has lines l → Has (told_in r.span (lines_by n lines)) (record { line = l; span = r.span })
told_in_has r [] l n own k = absurd k
told_in_has r (x ∷ lines) l n own k = step (x.by.session == n) refl (told_in_has r lines l n own)
  where
    t : Told
    t = record { line = l; span = r.span }

    step : (b : Bool) → (x.by.session == n) ≡ b → (Has lines l → Has (told_in r.span (lines_by n lines)) t) → Has (told_in r.span (cond b (x ∷ lines_by n lines) (lines_by n lines))) t
    step true q rest = ⊎_elim (λ (e : x ≡ l). inl (ap (λ (z : Line). record { line = z; span = r.span }) e)) (λ j. inr (rest j)) k
    step false q rest = ⊎_elim (λ (e : x ≡ l). absurd (false≢true (sym q ∙ (ap (λ (z : Line). z.by.session == n) e ∙ (ap (λ z. z == n) own ∙ eqb-refl n))))) rest k

pub told_has : (n : ℕ) (rounds : List ToldRound) (r : ToldRound) (l : Line) → Has rounds r → Has r.lines l → l.by.session ≡ n → Has (told_by n rounds) (record { line = l; span = r.span })
told_has n [] r l k j own = absurd k
told_has n (x ∷ rounds) r l k j own =
    ⊎_elim
    (λ (q : x ≡ r). has_left (told_of n x) (told_by n rounds) _ (subst (λ (z : ToldRound). Has (told_of n z) (record { line = l; span = r.span })) (sym q) (told_in_has r r.lines l n own j)))
    (λ t. has_right (told_of n x) (told_by n rounds) _ (told_has n rounds r l t j own))
    k

-- ---- one history, with the rounds whose events it has

-- the event is of a line of one of the rounds
record IsOfLine {X : Type 0} (whose : X → By) (rounds : List ToldRound) (e : X) : Type 0 where
  round : ToldRound
  line : Line
  among : Has rounds round
  told : Has round.lines line
  is : whose e ≡ line.by

abbrev is_told_in : {X : Type 0} → (X → By) → List ToldRound → X → Bool
is_told_in whose rounds e = list_any (λ l. same_by l.by (whose e)) (all_lines rounds)

told_by_line : {X : Type 0} (whose : X → By) (rounds : List ToldRound) (e : X) → IsOfLine whose rounds e → is_told_in whose rounds e ≡ true
told_by_line whose rounds e o = any_has (λ (l : Line). same_by l.by (whose e)) (all_lines rounds) o.line (lines_have rounds o.round o.line o.among o.told) (ap (same_by o.line.by) o.is ∙ same_by_refl o.line.by)

-- The events of each line stand in its round, and each event is of a line; the rounds up to a place, and those behind it.
module _ {X : Type 0} (whose : X → By) (span : ToldRound → RoundSpan) (h : List X) (rounds : List ToldRound)
    (in_round : (r : ToldRound) (l : Line) → Has rounds r → Has r.lines l → IsInRound whose h (span r) l.by)
    (of_line : (e : X) → Has h e → IsOfLine whose rounds e)
    (front rest : List ToldRound) (m : ℕ) (split : rounds ≡ front ++ rest) (first : Follow span 0 front m) (behind : Follow span m rest (length h)) where
  front_before : (p : ℕ) (e : X) → slice_get h p ≡ Some e → is_told_in whose front e ≡ true → p < m
  front_before p e at said =
      let found = has_any (λ (l : Line). same_by l.by (whose e)) (all_lines front) said in
      let round = has_flat_map (λ (r : ToldRound). r.lines) front found.0 found.1 in
      let among : Has rounds round.0 = subst (λ (rs : List ToldRound). Has rs round.0) (sym split) (has_left front rest round.0 round.1) in
      let place = in_round round.0 found.0 among round.2 p e at (sym (same_is found.0.by (whose e) found.2)) in
      let upto = follow_in span 0 m front round.0 first round.1 in
      omega (arith, place.1, upto.1)

  long : length (take m h) ≡ m
  long = length-take-le m h (follow_less span m (length h) rest behind)

  all_first : AllByRecursion (λ e. IsTrue (is_told_in whose front e)) (take m h)
  all_first = all_places (λ e. IsTrue (is_told_in whose front e)) (take m h) (λ p e at.
      let low = slice_get_within (take m h) p e at in
      let n = long in
      before_front p e (get_of_take m p h e at) (omega (arith, low, n)))
    where
      before_front : (p : ℕ) (e : X) → slice_get h p ≡ Some e → p < m → is_told_in whose front e ≡ true
      before_front p e at low =
          let o = of_line e (place_has h p e at) in
          ⊎_elim
          (λ in_front. told_by_line whose front e (record { round = o.round; line = o.line; among = in_front; told = o.told; is = o.is }))
          (λ in_rest.
          let place = in_round o.round o.line o.among o.told p e at o.is in
          let from = follow_in span m (length h) rest o.round behind in_rest in
          absurd (omega (arith, place.0, from.0, low)))
          (has_cases front rest o.round (subst (λ (rs : List ToldRound). Has rs o.round) split o.among))

  none_behind : AllByRecursion (λ e. is_told_in whose front e ≡ false) (drop m h)
  none_behind = all_places (λ e. is_told_in whose front e ≡ false) (drop m h) (λ p e at. step p e at (is_told_in whose front e) refl)
    where
      step : (p : ℕ) (e : X) → slice_get (drop m h) p ≡ Some e → (b : Bool) → is_told_in whose front e ≡ b → b ≡ false
      step p e at true q = let low = front_before (m + p) e (at_drop m h p e at) q in absurd (omega (arith, low))
      step p e at false q = refl

  -- so the events of these rounds are as many as stand before that place
  counted : count_by (is_told_in whose front) h ≡ m
  counted =
      let both = sum_by-append (λ e. cond (is_told_in whose front e) 1 0) (take m h) (drop m h) in
      let here = all_counted (is_told_in whose front) (take m h) all_first in
      let none = none_counted (is_told_in whose front) (drop m h) none_behind in
      let n = long in
      ap (count_by (is_told_in whose front)) (sym (take-append-drop m h)) ∙ omega (arith, both, here, none, n)

-- ---- a life that is over

module _ (tells : Bool) (start : Start) (lists : List (List Entry)) (rounds : List ToldRound) (over : IsOver tells start lists rounds) where
  -- a line is told well
  line_told : (r : ToldRound) (l : Line) → Has rounds r → Has r.lines l → (before : List Line) × IsToldWell tells start lists l.by.session before (record { line = l; span = r.span })
  line_told r l k j =
      let low : l.by.session < start.sessions = all_at (λ (l : Line). l.by.session < start.sessions) (all_lines rounds) l over.lines (lines_have rounds r l k j) in
      let there = has_place (told_by l.by.session rounds) (record { line = l; span = r.span }) (told_has l.by.session rounds r l k j refl) in
      (lines_of (take there.0 (told_by l.by.session rounds)), (over.each l.by.session low).1.each there.0 (record { line = l; span = r.span }) there.1)

  pub line_in : (l : Line) → Has (all_lines rounds) l → (span : Span) × (before : List Line) × IsToldWell tells start lists l.by.session before (record { line = l; span = span })
  line_in l k =
      let r = has_flat_map (λ (r : ToldRound). r.lines) rounds l k in
      let t = line_told r.0 l r.1 r.2 in
      (r.0.span, t.0, t.1)

  in_rounds : (r : ToldRound) (l : Line) → Has rounds r → Has r.lines l → IsInRound by_of (history lists) r.span.events l.by
  in_rounds r l k j = (line_told r l k j).1.place

  pub in_multi_rounds : (r : ToldRound) (l : Line) → Has rounds r → Has r.lines l → IsInRound multi_by (multi_history lists) r.span.multis l.by
  in_multi_rounds r l k j = (line_told r l k j).1.multi_place

  found_line : (n : ℕ) (by : By) → list_any (λ l. same_by l.by by) (lines_by n (all_lines rounds)) ≡ true → IsOfLine (λ b. b) rounds by
  found_line n by said =
      let found = has_any (λ (l : Line). same_by l.by by) (lines_by n (all_lines rounds)) said in
      let line = has_filter (is_line_of n) (all_lines rounds) found.0 found.1 in
      let round = has_flat_map (λ (r : ToldRound). r.lines) rounds found.0 line.0 in
      record { round = round.0; line = found.0; among = round.1; told = round.2; is = sym (same_is found.0.by by found.2) }

  -- each event is of a line
  event_line : (e : Event) → Has (history lists) e → IsOfLine by_of rounds e
  event_line e k =
      let n : ℕ = (by_of e).session in
      let low = event_known start lists over.kept e k in
      let said = (over.each n low).1.no_other e (has_contains (history lists) e k) refl in
      let o = found_line n (by_of e) (subst (λ ls. has_line ls e ≡ true) (lines_told n rounds) said) in
      record { round = o.round; line = o.line; among = o.among; told = o.told; is = o.is }

  multi_line : (e : MultiEvent) → Has (multi_history lists) e → IsOfLine multi_by rounds e
  multi_line e k =
      let n : ℕ = (multi_by e).session in
      let low = multi_known start lists over.kept e k in
      let said = (over.each n low).1.no_multi e (has_contains (multi_history lists) e k) refl in
      let o = found_line n (multi_by e) (subst (λ ls. has_multi_line ls e ≡ true) (lines_told n rounds) said) in
      record { round = o.round; line = o.line; among = o.among; told = o.told; is = o.is }

  pub all_told : (e : Event) → Has (history lists) e → IsTrue (has_line (all_lines rounds) e)
  all_told e k = told_by_line by_of rounds e (event_line e k)

  pub multis_told : (e : MultiEvent) → Has (multi_history lists) e → IsTrue (has_multi_line (all_lines rounds) e)
  multis_told e k = told_by_line multi_by rounds e (multi_line e k)

  module _ (front rest : List ToldRound) (m : ℕ) (split : rounds ≡ front ++ rest) where
    pub stands_first : Follow in_events 0 front m → Follow in_events m rest (length (history lists)) → StandFirst (history lists) (all_lines front)
    stands_first first behind = record {
      first = take m (history lists);
      behind = drop m (history lists);
      split = sym (take-append-drop m (history lists));
      theirs = All-from_recursion (λ e. IsTrue (has_line (all_lines front) e)) (take m (history lists)) (all_first by_of in_events (history lists) rounds in_rounds event_line front rest m split first behind);
      others = All-from_recursion (λ e. has_line (all_lines front) e ≡ false) (drop m (history lists)) (none_behind by_of in_events (history lists) rounds in_rounds event_line front rest m split first behind);
    }

    pub front_counts : Follow in_events 0 front m → Follow in_events m rest (length (history lists)) → count_by (has_line (all_lines front)) (history lists) ≡ m
    front_counts first behind = counted by_of in_events (history lists) rounds in_rounds event_line front rest m split first behind

    pub multis_stand_first : Follow in_multis 0 front m → Follow in_multis m rest (length (multi_history lists)) → MultisStandFirst (multi_history lists) (all_lines front)
    multis_stand_first first behind = record {
      first = take m (multi_history lists);
      behind = drop m (multi_history lists);
      split = sym (take-append-drop m (multi_history lists));
      theirs = All-from_recursion (λ e. IsTrue (has_multi_line (all_lines front) e)) (take m (multi_history lists)) (all_first multi_by in_multis (multi_history lists) rounds in_multi_rounds multi_line front rest m split first behind);
      others = All-from_recursion (λ e. has_multi_line (all_lines front) e ≡ false) (drop m (multi_history lists)) (none_behind multi_by in_multis (multi_history lists) rounds in_multi_rounds multi_line front rest m split first behind);
    }

    pub multi_counts : Follow in_multis 0 front m → Follow in_multis m rest (length (multi_history lists)) → count_by (has_multi_line (all_lines front)) (multi_history lists) ≡ m
    multi_counts first behind = counted multi_by in_multis (multi_history lists) rounds in_multi_rounds multi_line front rest m split first behind
