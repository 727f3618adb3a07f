-- One entry, where an event gives or closes none of its ids, or gives its top.
use Rattle.proc_table.specs.Entries.{IsEntry}
use Rattle.std.proofs.Common.{◌≡◌, ℕ, ◌<◌, ◌≤◌, List, [], ◌∷◌, ◌++◌, length, refl, ap, sym, ◌∙◌, arith, Bool, true, false, ◌==◌, ◌||◌, append-nil, cond, subst, inl, inr, ⊎_elim, nat_lt, eqb-true}
use Rattle.std.proofs.lemmas.Bool.{false≢true}
use Rattle.std.specs.List.{AllByRecursion}
use Rattle.tx_events.proofs.ClosingGrowth.{same_latest}
use Rattle.tx_events.proofs.GivingGrowth.{id_family_ids, id_subs, giving_closed, giving_id, giving_open_ids}
use Rattle.tx_events.proofs.RunningFamily.{fresh_subs, fresh_overflow, family_member, fresh_family}
use Rattle.tx_events.proofs.QuietGrowth.{quiet_family_ids, IsQuiet, quiet_open_ids, quiet_subs, quiet_closed}
use Rattle.tx_events.proofs.IdListSteps.{all_has}
use Rattle.tx_events.proofs.ListSteps.{eqb-refl, above_not}
use Rattle.std.proofs.Math.Bool.{or-false}
use Rattle.tx_events.proofs.NameBounds.{AreBelow, running_below}
use Rattle.tx_events.proofs.OverflowSteps.{overflow_kept, overflow_push}
use Rattle.tx_events.specs.IdLists.{has}
use Rattle.tx_events.specs.Running.{running, open_ids}
use Rattle.tx_events.specs.Savepoints.{family}
use Rattle.tx_events.specs.Snapshots.{latest, running_subs, has_overflowed}
use Rattle.tx_events.specs.declared.event.By.{By}
use Rattle.tx_events.specs.declared.event.Event.{Event}
use Rattle.tx_events.specs.declared.event.Event.TheVariants as events

-- where an event leaves all that an entry is of
pub entry_kept : (first : ℕ) (h g : List Event) (session t last : ℕ) (subs : List ℕ) (o : Bool) →
    open_ids session g ≡ open_ids session h → family g t ≡ family h t → has_overflowed g t ≡ has_overflowed h t → running_subs g t ≡ running_subs h t → latest first h ≤ latest first g →
    IsEntry first h session t last subs o → IsEntry first g session t last subs o
entry_kept first h g session t last subs o ids fam over run late i =
    record {
      own = ids ∙ i.own ∙ sym fam;
      here = ap (λ l. has l t) fam ∙ i.here;
      flag = i.flag ∙ sym over;
      subs_are = i.subs_are ∙ sym run;
      greatest = subst (AllByRecursion (λ x. x ≤ last)) (sym fam) i.greatest;
      last_is = ⊎_elim (λ k. inl (omega arith)) (λ k. inr (ap (λ l. has l last) fam ∙ k)) i.last_is;
    }

pub entry_quiet : (first : ℕ) (h : List Event) (e : Event) (session t last : ℕ) (subs : List ℕ) (o : Bool) → IsQuiet e →
    IsEntry first h session t last subs o → IsEntry first (h ++ e ∷ []) session t last subs o
entry_quiet first h e session t last subs o f i =
    let late : latest first (h ++ e ∷ []) ≡ latest first h = same_latest first h (h ++ e ∷ []) (quiet_closed h e f) in
    let len : length (running_subs (h ++ e ∷ []) t) ≡ length (running_subs h t) = ap length (quiet_subs h e t f) in
    entry_kept first h (h ++ e ∷ []) session t last subs o (quiet_open_ids session h e f) (quiet_family_ids h e t f)
    (overflow_kept h e t (omega arith)) (quiet_subs h e t f) (omega arith) i

pub entry_id_new : (first : ℕ) (h : List Event) (by : By) (n : ℕ) → AreBelow n h → open_ids by.session h ≡ [] → IsEntry first (h ++ events.Id by n ∷ []) by.session n n [] false
entry_id_new first h by n b f =
    let fam : family (h ++ events.Id by n ∷ []) n ≡ n ∷ [] = id_family_ids h by n n b ∙ ap (λ l. l ++ cond (n == n) (n ∷ []) []) (fresh_family n h b) ∙ ap (λ c. cond c (n ∷ []) []) (eqb-refl n) in
    let subs : running_subs (h ++ events.Id by n ∷ []) n ≡ [] = id_subs h by n n b ∙ fresh_subs n h b in
    let one : has (n ∷ []) n ≡ true = or-false (n == n) ∙ eqb-refl n in
    record {
      own = giving_open_ids by.session h (events.Id by n) n (giving_id h by n b) ∙ ap (λ l. l ++ cond (by.session == by.session) (n ∷ []) []) f ∙ ap (λ c. cond c (n ∷ []) []) (eqb-refl by.session) ∙ sym fam;
      here = ap (λ l. has l n) fam ∙ one;
      flag = sym (overflow_push h (events.Id by n) n ∙ ap (λ c. c || nat_lt 64 (length (running_subs (h ++ events.Id by n ∷ []) n))) (fresh_overflow n h b) ∙ ap (λ l. nat_lt 64 (length l)) subs);
      subs_are = sym subs;
      greatest = subst (AllByRecursion (λ x. x ≤ n)) (sym fam) (omega arith, tt);
      last_is = inr (ap (λ l. has l n) fam ∙ one);
    }

pub entry_below : (first n : ℕ) (h : List Event) (session t last : ℕ) (subs : List ℕ) (o : Bool) → AreBelow n h → IsEntry first h session t last subs o → t < n
entry_below first n h session t last subs o b i = all_has (λ x. x < n) (running h) t (running_below n h b) (family_member h t t i.here).0

pub entry_id_other : (first : ℕ) (h : List Event) (by : By) (n : ℕ) (session t last : ℕ) (subs : List ℕ) (o : Bool) → AreBelow n h → open_ids by.session h ≡ [] →
    IsEntry first h session t last subs o → IsEntry first (h ++ events.Id by n ∷ []) session t last subs o
entry_id_other first h by n session t last subs o b f i =
    let below : t < n = entry_below first n h session t last subs o b i in
    let late : latest first (h ++ events.Id by n ∷ []) ≡ latest first h = same_latest first h (h ++ events.Id by n ∷ []) (giving_closed h (events.Id by n) n (giving_id h by n b)) in
    let len : length (running_subs (h ++ events.Id by n ∷ []) t) ≡ length (running_subs h t) = ap length (id_subs h by n t b) in
    entry_kept first h (h ++ events.Id by n ∷ []) session t last subs o
    (giving_open_ids session h (events.Id by n) n (giving_id h by n b) ∙ ap (λ c. open_ids session h ++ cond c (n ∷ []) []) (other (by.session == session) refl) ∙ append-nil (open_ids session h))
    (id_family_ids h by n t b ∙ ap (λ c. family h t ++ cond c (n ∷ []) []) (above_not t n below) ∙ append-nil (family h t))
    (overflow_kept h (events.Id by n) t (omega arith)) (id_subs h by n t b) (omega arith) i
  where
    other : (c : Bool) → (by.session == session) ≡ c → (by.session == session) ≡ false
    other false e = e
    other true e = absurd (false≢true (sym (ap (λ l. has l t) (sym (ap (λ s. open_ids s h) (eqb-true by.session session e)) ∙ f)) ∙ ap (λ l. has l t) i.own ∙ i.here))
