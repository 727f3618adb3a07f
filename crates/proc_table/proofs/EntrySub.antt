-- One entry, where an event gives a subid.
use Rattle.proc_table.specs.Entries.{IsEntry}
use Rattle.std.proofs.Common.{◌≡◌, ℕ, ◌<◌, ◌≤◌, List, [], ◌∷◌, ◌++◌, length, refl, ap, sym, ◌∙◌, arith, Bool, true, false, ◌&&◌, ◌==◌, ◌||◌, append-nil, cond, subst, inr, nat_lt, eqb-true}
use Rattle.std.specs.List.{AllByRecursion}
use Rattle.proc_table.proofs.EntryGrowth.{entry_kept}
use Rattle.tx_events.proofs.ClosingGrowth.{same_latest}
use Rattle.tx_events.proofs.RunningFamily.{family_member}
use Rattle.tx_events.proofs.GivingGrowth.{sub_family_ids, sub_subs, giving_closed, giving_sub, giving_open_ids}
use Rattle.std.proofs.lemmas.List.Folds.{list_any-append}
use Rattle.tx_events.proofs.IdListSteps.{has-filter}
use Rattle.tx_events.proofs.Soundness.{has_given_to, IsSound}
use Rattle.std.proofs.Math.Bool.{or-true, or-false}
use Rattle.tx_events.proofs.ListSteps.{eqb-refl, not_both, all_filter, all_push}
use Rattle.std.proofs.lemmas.Bool.{and_parts}
use Rattle.tx_events.proofs.NameBounds.{AreBelow, running_below}
use Rattle.tx_events.proofs.OverflowSteps.{overflow_kept, overflow_push}
use Rattle.tx_events.specs.Events.{given, given_to}
use Rattle.tx_events.specs.Families.{top}
use Rattle.tx_events.specs.IdLists.{has}
use Rattle.tx_events.specs.Running.{is_open, running, open_ids}
use Rattle.tx_events.specs.Savepoints.{family}
use Rattle.tx_events.specs.Snapshots.{latest, running_subs, has_overflowed}
use Rattle.tx_events.specs.declared.event.By.{By}
use Rattle.tx_events.specs.declared.event.Event.{Event}
use Rattle.tx_events.specs.declared.event.Event.TheVariants as events

-- the session that adds a subid is that of the entry exactly where the parent is in its family
pub sub_session : (first : ℕ) (h : List Event) (by : By) (parent : ℕ) (session t last : ℕ) (subs : List ℕ) (o : Bool) → IsSound first h → has (open_ids by.session h) parent ≡ true →
    IsEntry first h session t last subs o → (by.session == session) ≡ (top h parent == t)
sub_session first h by parent session t last subs o s f i = split (by.session == session) refl (top h parent == t) refl
  where
    parts : (r : ℕ) → has (open_ids r h) parent ≡ true → (has (given_to r h) parent ≡ true) × (is_open h parent ≡ true)
    parts r k = and_parts (has (given_to r h) parent) (is_open h parent) (sym (has-filter (is_open h) (given_to r h) parent) ∙ k)

    runs : has (running h) parent ≡ true
    runs = has-filter (is_open h) (given h) parent ∙ ap (λ b. b && is_open h parent) (has_given_to by.session h parent (parts by.session f).0) ∙ (parts by.session f).1

    split : (b : Bool) → (by.session == session) ≡ b → (c : Bool) → (top h parent == t) ≡ c → b ≡ c
    split true d true e = refl
    split false d false e = refl
    split true d false e =
        not_both (top h parent == t) (ap (λ u. u == t) (family_member h t parent (sym (ap (λ l. has l parent) (ap (λ r. open_ids r h) (eqb-true by.session session d) ∙ i.own)) ∙ f)).1 ∙ eqb-refl t) e
    split false d true e =
        let mine : has (open_ids session h) parent ≡ true = ap (λ l. has l parent) i.own ∙ has-filter (λ x. top h x == t) (running h) parent ∙ ap (λ b. b && (top h parent == t)) runs ∙ e in
        not_both (by.session == session) (ap (λ r. r == session) (s.one_owner parent by.session session (parts by.session f).0 (parts session mine).0) ∙ eqb-refl session) d

pub sub_kept : (first : ℕ) (h : List Event) (by : By) (parent n : ℕ) (session t last : ℕ) (subs : List ℕ) (o : Bool) → AreBelow n h → is_open h parent ≡ true → parent < n →
    (by.session == session) ≡ false → (top h parent == t) ≡ false →
    IsEntry first h session t last subs o → IsEntry first (h ++ events.Sub by parent n ∷ []) session t last subs o
sub_kept first h by parent n session t last subs o b open_parent p e g i =
    let late : latest first (h ++ events.Sub by parent n ∷ []) ≡ latest first h = same_latest first h (h ++ events.Sub by parent n ∷ []) (giving_closed h (events.Sub by parent n) n (giving_sub h by parent n b open_parent)) in
    let run : running_subs (h ++ events.Sub by parent n ∷ []) t ≡ running_subs h t = sub_subs h by parent n t b p open_parent ∙ ap (λ c. running_subs h t ++ cond c (n ∷ []) []) g ∙ append-nil (running_subs h t) in
    let len : length (running_subs (h ++ events.Sub by parent n ∷ []) t) ≡ length (running_subs h t) = ap length run in
    entry_kept first h (h ++ events.Sub by parent n ∷ []) session t last subs o
    (giving_open_ids session h (events.Sub by parent n) n (giving_sub h by parent n b open_parent) ∙ ap (λ c. open_ids session h ++ cond c (n ∷ []) []) e ∙ append-nil (open_ids session h))
    (sub_family_ids h by parent n t b open_parent ∙ ap (λ c. family h t ++ cond c (n ∷ []) []) g ∙ append-nil (family h t))
    (overflow_kept h (events.Sub by parent n) t (omega arith)) run (omega arith) i

pub sub_own : (first : ℕ) (h : List Event) (by : By) (parent n : ℕ) (session t last : ℕ) (subs subs' : List ℕ) (o o' : Bool) → AreBelow n h → is_open h parent ≡ true → parent < n →
    (by.session == session) ≡ true → (top h parent == t) ≡ true → o' ≡ (o || nat_lt 64 (length (subs ++ n ∷ []))) → subs' ≡ subs ++ n ∷ [] →
    IsEntry first h session t last subs o → IsEntry first (h ++ events.Sub by parent n ∷ []) session t n subs' o'
sub_own first h by parent n session t last subs subs' o o' b open_parent p e g flag_is subs_are i =
    let run : running_subs (h ++ events.Sub by parent n ∷ []) t ≡ running_subs h t ++ n ∷ [] = sub_subs h by parent n t b p open_parent ∙ ap (λ c. running_subs h t ++ cond c (n ∷ []) []) g in
    let fam : family (h ++ events.Sub by parent n ∷ []) t ≡ family h t ++ n ∷ [] = sub_family_ids h by parent n t b open_parent ∙ ap (λ c. family h t ++ cond c (n ∷ []) []) g in
    let one : has (n ∷ []) n ≡ true = or-false (n == n) ∙ eqb-refl n in
    record {
      own = giving_open_ids session h (events.Sub by parent n) n (giving_sub h by parent n b open_parent) ∙ ap (λ c. open_ids session h ++ cond c (n ∷ []) []) e ∙ ap (λ l. l ++ n ∷ []) i.own ∙ sym fam;
      here = ap (λ l. has l t) fam ∙ list_any-append (λ y. t == y) (family h t) (n ∷ []) ∙ ap (λ c. c || has (n ∷ []) t) i.here;
      flag = flag_is ∙ ap (λ c. c || nat_lt 64 (length (subs ++ n ∷ []))) i.flag ∙ ap (λ l. has_overflowed h t || nat_lt 64 (length (l ++ n ∷ []))) i.subs_are ∙ sym (overflow_push h (events.Sub by parent n) t ∙ ap (λ l. has_overflowed h t || nat_lt 64 (length l)) run);
      subs_are = subs_are ∙ ap (λ l. l ++ n ∷ []) i.subs_are ∙ sym run;
      greatest = subst (AllByRecursion (λ x. x ≤ n)) (sym fam) (all_push (λ x. x ≤ n) (family h t) n (family_up_to) (omega arith));
      last_is = inr (ap (λ l. has l n) fam ∙ list_any-append (λ y. n == y) (family h t) (n ∷ []) ∙ ap (λ c. has (family h t) n || c) one ∙ or-true (has (family h t) n));
    }
  where
    weaker : (xs : List ℕ) → AllByRecursion (λ x. x < n) xs → AllByRecursion (λ x. x ≤ n) xs
    weaker [] a = tt
    weaker (x ∷ xs) a = ((let k : x < n = a.0 in omega arith), weaker xs a.1)

    family_up_to : AllByRecursion (λ x. x ≤ n) (family h t)
    family_up_to = weaker (family h t) (all_filter (λ x. x < n) (λ x. top h x == t) (running h) (running_below n h b))
