-- A rule holds exactly where some place serves.
use Rattle.std.proofs.Common.{◌≡◌, ℕ, ◌<◌, ◌≤◌, Bool, List, length, take, ap, subst, ◌∙◌, arith, ⊎_elim, Some}
use Rattle.std.proofs.lemmas.Bool.{cases_lt}
use Rattle.tx_events.specs.declared.event.By.{By}
use Rattle.tx_events.specs.declared.event.Event.{Event}
use Rattle.tx_events.specs.declared.event.Event.TheVariants as events
use Rattle.tx_events.specs.declared.record.Counters.{Counters}
use Rattle.tx_events.specs.declared.record.Rec.{Rec}
use Rattle.tx_events.specs.History.{IsLegal}
use Rattle.tx_model.specs.declared.command.Pair.{Pair}
use Rattle.tx_model.specs.declared.reply.Status.{Status}
use Rattle.tx_model.specs.Replies.{IsWarned, RoundSpan}
use Rattle.history_places.specs.Told.{next_in}
use Rattle.report_law.specs.MultiLines.{IsNotGiven, IsOldMember, MayCarry}
use Rattle.report_law.specs.Steps.{IsDidAt, IsDidTooOld, IsFutureAt, IsStatusAt}
use Rattle.place_rules.specs.Members.{HasOld, HasUngiven}
use Rattle.place_rules.specs.Runs.{AreItsPlaces, AreReadPlaces, IsDidHere, IsFutureHere, IsOlderThere, IsStatusHere, IsWarnedHere}
use Rattle.place_rules.proofs.Looking.{NoneSoFar, by_at, none_at_all}
use Rattle.place_rules.proofs.SnapsRead.{NoneUpTo}
use Rattle.history_places.proofs.Stays.{hidden_before}

-- ---- at the command's own events

module _ (base : Counters) (h : List Event) (run : List ℕ) (i : ℕ) (end : length run ≤ i) where
  pub no_status : (ids : List ℕ) (by : By) (x : ℕ) (status : Status) → AreItsPlaces h by run → NoneSoFar (IsStatusHere base ids h by x status) run i → IsStatusAt base ids h by x status → ⊥
  no_status ids by x status its none s =
      none_at_all (IsStatusHere base ids h by x status) h by run i its (λ p q. by_at h (events.Ask by q.asked.0) p q.asked.1) none end s.place (record { asked = s.asked; young = s.young; given = s.given; exact = s.exact })

  pub no_future : (by : By) (x next : ℕ) → AreItsPlaces h by run → NoneSoFar (IsFutureHere base h by next) run i → IsFutureAt base h by x next → ⊥
  no_future by x next its none s =
      none_at_all (IsFutureHere base h by next) h by run i its (λ p q. by_at h (events.Ask by q.asked.0) p q.asked.1) none end s.place (record { asked = s.asked; next_is = s.next_is })

  pub no_warning : (by : By) → AreItsPlaces h by run → NoneSoFar (IsWarnedHere base h by) run i → IsWarned base h by → ⊥
  no_warning by its none s =
      none_at_all (IsWarnedHere base h by) h by run i its (λ p q. by_at h q.given.event p q.given.at ∙ ap Some q.given.own) none end s.place (record { id = s.id; given = s.given; late = s.late })

pub status_here : (base : Counters) (ids : List ℕ) (h : List Event) (by : By) (x : ℕ) (status : Status) (p : ℕ) → IsStatusHere base ids h by x status p → IsStatusAt base ids h by x status
status_here base ids h by x status p s = record { place = p; asked = s.asked; young = s.young; given = s.given; exact = s.exact }

pub warned_here : (base : Counters) (h : List Event) (by : By) (p : ℕ) → IsWarnedHere base h by p → IsWarned base h by
warned_here base h by p s = record { place = p; id = s.id; given = s.given; late = s.late }

-- ---- where the command may read

-- what is asked at each place of a reading
none_there : (Q : ℕ → Type 0) (from to : ℕ) → NoneUpTo Q from to → (Q to → ⊥) → (p : ℕ) → from ≤ p → p ≤ to → Q p → ⊥
none_there Q from to none last p l m q = ⊎_elim
    (λ (u : p < to). none p l u q)
    (λ (u : to ≤ p). let at : p ≡ to = omega arith in last (subst Q at q))
    (cases_lt p to)

module _ (base : Counters) (h : List Event) (round : RoundSpan) (by : By) (from to : ℕ) (read : AreReadPlaces h round by from to) where
  pub did_here : (ids : List ℕ) (recs : List Rec) (x : ℕ) (answer : Bool) (p : ℕ) → from ≤ p → p ≤ to → IsDidHere base ids h recs from x answer p → IsDidAt base ids h recs round by x answer
  did_here ids recs x answer p l m d = record {
    place = p;
    read = (read p).1 (l, m);
    id = d.id;
    near = d.near;
    for_yes = d.for_yes;
    for_no = λ e. (from, (read from).1 (omega arith, omega arith), d.for_no e);
  }

  -- no stands where the id isn't visible at the first place, since it stays visible
  of_did : (ids : List ℕ) (recs : List Rec) (x : ℕ) (answer : Bool) → IsLegal base h → (d : IsDidAt base ids h recs round by x answer) → IsDidHere base ids h recs from x answer d.place
  of_did ids recs x answer legal d = record {
    id = d.id;
    near = d.near;
    for_yes = d.for_yes;
    for_no = λ e. let a = d.for_no e in let r = (read a.0).0 a.1 in hidden_before base ids h d.id from a.0 legal r.0 a.2;
  }

  pub not_did : (ids : List ℕ) (recs : List Rec) (x : ℕ) (answer : Bool) → IsLegal base h → NoneUpTo (IsDidHere base ids h recs from x answer) from to → (IsDidHere base ids h recs from x answer to → ⊥) → IsDidAt base ids h recs round by x answer → ⊥
  not_did ids recs x answer legal none last d =
      let r = (read d.place).0 d.read in
      none_there (IsDidHere base ids h recs from x answer) from to none last d.place r.0 r.1 (of_did ids recs x answer legal d)

  pub too_old_here : (x oldest p : ℕ) → 3 ≤ x → MayCarry base h round oldest → from ≤ p → p ≤ to → IsOlderThere base h x oldest p → IsDidTooOld base h round by x oldest
  too_old_here x oldest p normal carried l m d = record { normal = normal; place = p; read = (read p).1 (l, m); older = d; carried = carried }

  pub not_did_too_old : (x oldest : ℕ) → NoneUpTo (IsOlderThere base h x oldest) from to → (IsOlderThere base h x oldest to → ⊥) → IsDidTooOld base h round by x oldest → ⊥
  not_did_too_old x oldest none last d = let r = (read d.place).0 d.read in none_there (IsOlderThere base h x oldest) from to none last d.place r.0 r.1 d.older

  pub ungiven_here : (pairs : List Pair) (x p : ℕ) → from ≤ p → p ≤ to → HasUngiven (next_in base (take p h)) pairs x → IsNotGiven base h round by pairs x
  ungiven_here pairs x p l m d = record { place = p; read = (read p).1 (l, m); number = d.number; pair = d.pair; stands = d.stands; its = d.its; others = d.others; ungiven = d.ungiven }

  pub all_given : (pairs : List Pair) (x : ℕ) → NoneUpTo (λ (p : ℕ). HasUngiven (next_in base (take p h)) pairs x) from to → (HasUngiven (next_in base (take to h)) pairs x → ⊥) → IsNotGiven base h round by pairs x → ⊥
  all_given pairs x none last d =
      let r = (read d.place).0 d.read in
      none_there (λ (p : ℕ). HasUngiven (next_in base (take p h)) pairs x) from to none last d.place r.0 r.1
      (record { number = d.number; pair = d.pair; stands = d.stands; its = d.its; others = d.others; ungiven = d.ungiven })

  pub old_member_here : (pairs : List Pair) (oldest p : ℕ) → MayCarry base h round oldest → from ≤ p → p ≤ to → HasOld (next_in base (take p h)) pairs oldest → IsOldMember base h round by pairs oldest
  old_member_here pairs oldest p carried l m d = record { place = p; read = (read p).1 (l, m); number = d.number; pair = d.pair; stands = d.stands; others = d.others; normal = d.normal; older = d.older; carried = carried }

  pub none_too_old : (pairs : List Pair) (oldest : ℕ) → NoneUpTo (λ (p : ℕ). HasOld (next_in base (take p h)) pairs oldest) from to → (HasOld (next_in base (take to h)) pairs oldest → ⊥) → IsOldMember base h round by pairs oldest → ⊥
  none_too_old pairs oldest none last d =
      let r = (read d.place).0 d.read in
      none_there (λ (p : ℕ). HasOld (next_in base (take p h)) pairs oldest) from to none last d.place r.0 r.1
      (record { number = d.number; pair = d.pair; stands = d.stands; others = d.others; normal = d.normal; older = d.older })

  -- no place is read where none is there
  pub nothing_read : (p : ℕ) → to < from → from ≤ p → p ≤ to → ⊥
  nothing_read p l m n = omega arith
