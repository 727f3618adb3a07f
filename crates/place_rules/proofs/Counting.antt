-- What is counted behind a session's last event of an earlier command.
use Rattle.std.proofs.Common.{◌≡◌, ℕ, suc, ◌+◌, ◌≤◌, List, [], Some, Bool, true, false, refl, sym, ap, subst, ◌∙◌, ◌&&◌, arith, length, take, map}
use Rattle.std.specs.Prelude.{nat_lt}
use Rattle.std.specs.List.{slice_get}
use Rattle.tx_events.specs.declared.event.By.{By}
use Rattle.tx_events.specs.declared.event.Event.{Event}
use Rattle.tx_events.specs.declared.record.Counters.{Counters}
use Rattle.tx_events.specs.Events.{by_of, is_of}
use Rattle.tx_events.specs.History.{IsLegal}
use Rattle.tx_events.specs.Running.{open_ids}
use Rattle.std.proofs.lemmas.Bool.{le-ltb}
use Rattle.tx_events.proofs.GivenIds.{legal_take}
use Rattle.tx_events.proofs.Membership.{filter_none_on}
use Rattle.place_columns.specs.Owned.{IsReadFrom}
use Rattle.report_law.specs.Answers.{own_before}
use Rattle.history_places.specs.Opens.{AreOpenCounts}
use Rattle.place_rules.proofs.Apart.{own_open}
use Rattle.place_rules.proofs.Earlier.{before_place, last_earlier, length_mapped, mapped}

none_below : (h : List Event) (by : By) → by.command ≡ 0 → own_before by h ≡ []
none_below h by z =
    filter_none_on (λ e. is_of by.session e && nat_lt (by_of e).command by.command) h
    (λ e k. neither (is_of by.session e) (nat_lt (by_of e).command by.command) (le-ltb (by_of e).command by.command (omega arith)))
  where
    neither : (a b : Bool) → b ≡ false → (a && b) ≡ false
    neither true b f = f
    neither false b f = refl

pub of_none : (h : List Event) (by : By) → by.command ≡ 0 → length (open_ids by.session (own_before by h)) ≡ 0
of_none h by z = ap (λ (t : List Event). length (open_ids by.session t)) (none_below h by z)

-- none of an earlier command
pub of_start : (base : Counters) (h : List Event) (by earlier : By) (to : ℕ) → IsLegal base h → to ≤ length h → earlier.session ≡ by.session → earlier.command + 1 ≡ by.command
    → IsReadFrom (map by_of h) earlier to 0 → length (open_ids by.session (own_before by (take to h))) ≡ 0
of_start base h by earlier to legal w s c is = ap (λ (t : List Event). length (open_ids by.session t)) (before_place base h by earlier to 0 legal w s c is)

-- as many as behind the last of an earlier command
pub of_last : (base : Counters) (h : List Event) (counts : List ℕ) (by earlier : By) (to n m : ℕ) → IsLegal base h → AreOpenCounts h counts → to ≤ length h → earlier.session ≡ by.session → earlier.command + 1 ≡ by.command
    → IsReadFrom (map by_of h) earlier to (suc n) → slice_get counts n ≡ Some m → m ≡ length (open_ids by.session (own_before by (take to h)))
of_last base h counts by earlier to n m legal all w s c is at =
    let last = last_earlier earlier (map by_of h) to n (subst (λ k. to ≤ k) (sym (length_mapped by_of h)) w) is in
    let e = mapped by_of h n last.0 last.1 in
    let session : (by_of e.0).session ≡ by.session = ap (λ (b : By). b.session) e.2 ∙ last.2 ∙ s in
    let next : n + 1 ≡ suc n = omega arith in
    all.each n e.0 m e.1 at
    ∙ ap (λ r. length (open_ids r (take (n + 1) h))) session
    ∙ ap (λ k. length (open_ids by.session (take k h))) next
    ∙ ap length (sym (own_open base by.session (take (suc n) h) (legal_take base h (suc n) legal)))
    ∙ ap (λ (t : List Event). length (open_ids by.session t)) (sym (before_place base h by earlier to (suc n) legal w s c is))
