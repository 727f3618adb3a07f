-- One entry, where an event closes ids.
use Rattle.proc_table.specs.Entries.{IsEntry}
use Rattle.std.proofs.Common.{◌≡◌, ℕ, ◌≤◌, List, [], ◌∷◌, ◌++◌, length, refl, ap, sym, ◌∙◌, arith, Bool, true, false, not, ◌&&◌, ◌==◌, subst, max, inl, inr, ⊎_elim, ◌⊎◌}
use Rattle.std.specs.List.{filter, AllByRecursion, fold}
use Rattle.tx_events.proofs.ClosingGrowth.{closing_subs, closing_open_ids, IsClosing, closing_family, closing_latest}
use Rattle.tx_events.proofs.RunningFamily.{all_subs, family_member, family_ended}
use Rattle.tx_events.proofs.Extremes.{fold_max_is, fold_max_has, fold_max_start}
use Rattle.tx_events.proofs.IdListSteps.{has-filter, true_has}
use Rattle.tx_events.proofs.ListSteps.{filter_length, filter_all, all_filter}
use Rattle.tx_events.proofs.OverflowSteps.{overflow_kept}
use Rattle.tx_events.specs.Families.{top}
use Rattle.tx_events.specs.IdLists.{has}
use Rattle.tx_events.specs.Running.{running}
use Rattle.tx_events.specs.Savepoints.{family}
use Rattle.tx_events.specs.Snapshots.{latest, running_subs}
use Rattle.tx_events.specs.declared.event.Event.{Event}

pub entry_closing : (first : ℕ) (h : List Event) (e : Event) (q : ℕ → Bool) (session t last : ℕ) (subs subs' : List ℕ) (o : Bool) → IsClosing h e q → q t ≡ true → subs' ≡ filter q subs →
    IsEntry first h session t last subs o → IsEntry first (h ++ e ∷ []) session t last subs' o
entry_closing first h e q session t last subs subs' o c k left i =
    let fam : family (h ++ e ∷ []) t ≡ filter q (family h t) = closing_family h e q t c in
    let run : running_subs (h ++ e ∷ []) t ≡ filter q (running_subs h t) = closing_subs h e q t c in
    let len : length (running_subs (h ++ e ∷ []) t) ≤ length (running_subs h t) = subst (λ l. length l ≤ length (running_subs h t)) (sym run) (filter_length q (running_subs h t)) in
    let late : latest first h ≤ latest first (h ++ e ∷ []) = subst (λ l. latest first h ≤ l) (sym (closing_latest first h e q c)) (fold_max_start (latest first h) (filter (λ x. not (q x)) (running h))) in
    record {
      own = closing_open_ids session h e q c ∙ ap (filter q) i.own ∙ sym fam;
      here = ap (λ l. has l t) fam ∙ has-filter q (family h t) t ∙ ap (λ b. b && q t) i.here ∙ k;
      flag = i.flag ∙ sym (overflow_kept h e t len);
      subs_are = left ∙ ap (filter q) i.subs_are ∙ sym run;
      greatest = subst (AllByRecursion (λ x. x ≤ last)) (sym fam) (all_filter (λ x. x ≤ last) q (family h t) i.greatest);
      last_is = ⊎_elim (λ l. inl (omega arith)) (λ l. kept (q last) refl l) i.last_is;
    }
  where
    kept : (b : Bool) → q last ≡ b → has (family h t) last ≡ true → (last ≤ latest first (h ++ e ∷ [])) ⊎ (has (family (h ++ e ∷ []) t) last ≡ true)
    kept true f l = inr (ap (λ m. has m last) (closing_family h e q t c) ∙ has-filter q (family h t) last ∙ ap (λ b. b && q last) l ∙ f)
    kept false f l =
        inl (subst (λ m. last ≤ m) (sym (closing_latest first h e q c))
        (fold_max_has (latest first h) (filter (λ x. not (q x)) (running h)) last
        (true_has (filter (λ x. not (q x)) (running h)) last (has-filter (λ x. not (q x)) (running h) last ∙ ap (λ b. b && not (q last)) (family_member h t last l).0 ∙ ap not f))))

pub latest_ended : (first : ℕ) (h : List Event) (e : Event) (session t last : ℕ) (subs : List ℕ) (o : Bool) → IsClosing h e (λ x. not (t == top h x)) →
    IsEntry first h session t last subs o → latest first (h ++ e ∷ []) ≡ max (latest first h) last
latest_ended first h e session t last subs o c i =
    closing_latest first h e (λ x. not (t == top h x)) c ∙ ap (fold max (latest first h)) (family_ended h t) ∙ fold_max_is (family h t) (latest first h) last i.greatest (⊎_elim inl (λ m. inr (true_has (family h t) last m)) i.last_is)

-- the entry of another top, at an end
pub entry_other_end : (first : ℕ) (h : List Event) (e : Event) (u : ℕ) (session t last : ℕ) (subs : List ℕ) (o : Bool) → IsClosing h e (λ x. not (u == top h x)) → (u == t) ≡ false →
    IsEntry first h session t last subs o → IsEntry first (h ++ e ∷ []) session t last subs o
entry_other_end first h e u session t last subs o c d i =
    entry_closing first h e (λ x. not (u == top h x)) session t last subs subs o c
    (ap not (ap (λ y. u == y) (family_member h t t i.here).1 ∙ d))
    (sym (ap (filter (λ x. not (u == top h x))) i.subs_are ∙ filter_all (λ x. top h x ≡ t) (λ x. not (u == top h x)) (running_subs h t) (λ x k. ap not (ap (λ y. u == y) k ∙ d)) (all_subs (λ x. top h x ≡ t) h t (λ x g k. k)) ∙ sym i.subs_are))
    i
