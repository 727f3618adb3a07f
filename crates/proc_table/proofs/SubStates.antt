-- The state after an event that gives a subid.
use Rattle.proc_table.proofs.Bounds.{next_id_to, stop_to}
use Rattle.proc_table.proofs.EntryLists.{each_zip, any_zip, same_zip}
use Rattle.proc_table.proofs.EntrySub.{sub_kept, sub_own, sub_session}
use Rattle.proc_table.proofs.States.{entry_same}
use Rattle.proc_table.specs.Entries.{IsEntryAt, IsSame, IsAdded}
use Rattle.proc_table.specs.Lives.{HoldsLive}
use Rattle.proc_table.specs.State.{IsState}
use Rattle.proc_table.specs.Table.{InTurn}
use Rattle.proc_table.specs.declared.entry.Entry.{Entry}
use Rattle.proc_table.specs.declared.live.LiveSnapshots.{LiveSnapshots}
use Rattle.std.proofs.Common.{◌≡◌, ℕ, suc, ◌<◌, ◌≤◌, List, [], ◌∷◌, ◌++◌, length, refl, ap, sym, ◌∙◌, arith, Bool, true, false, ◌==◌, cond, Contains, subst, ◌+◌, ◌^◌, eqb-true}
use Rattle.std.specs.List.{list_any, AllZip}
use Rattle.tx_events.proofs.ClosingGrowth.{same_latest}
use Rattle.tx_events.proofs.ListSteps.{equal_swap, length_push, not_both}
use Rattle.tx_events.proofs.HorizonSteps.{live_push, oldest_push}
use Rattle.tx_events.proofs.IdListSteps.{contains_true, all_has}
use Rattle.tx_events.proofs.Soundness.{legal_sound, has_given_to, open_member, IsSound}
use Rattle.tx_events.proofs.GivenIds.{legal_push}
use Rattle.tx_events.proofs.NameBounds.{AreBelow, given_below}
use Rattle.tx_events.proofs.IdOrder.{next_above}
use Rattle.tx_events.proofs.GivenGrowth.{next_after}
use Rattle.tx_events.proofs.GivingGrowth.{giving_running, giving_sub, sub_tops, giving_closed, giving_open_ids}
use Rattle.tx_events.specs.Events.{given}
use Rattle.tx_events.specs.Horizon.{live_snaps}
use Rattle.tx_events.specs.IdLists.{has}
use Rattle.tx_events.specs.Limits.{stop_limit}
use Rattle.tx_events.specs.Running.{is_open, running, open_ids}
use Rattle.tx_events.specs.declared.event.By.{By}
use Rattle.tx_events.specs.declared.event.Event.{Event}
use Rattle.tx_events.specs.declared.record.Counters.{Counters}
use Rattle.tx_events.specs.Ids.{next_id}
use Rattle.tx_events.specs.declared.event.Event.TheVariants as events

added_entry : (first : ℕ) (h : List Event) (by : By) (parent n : ℕ) → IsSound first h → AreBelow n h → is_open h parent ≡ true → parent < n → has (open_ids by.session h) parent ≡ true →
    (x y : Entry) → IsEntryAt first h x → IsAdded by.session n x y → IsEntryAt first (h ++ events.Sub by parent n ∷ []) y
added_entry first h by parent n s b o p f x y i a = split (by.session == x.session) refl
  where
    split : (c : Bool) → (by.session == x.session) ≡ c → IsEntryAt first (h ++ events.Sub by parent n ∷ []) y
    split true e =
        let m : (x.session == by.session) ≡ true = equal_swap x.session by.session ∙ e in
        entry_same first (h ++ events.Sub by parent n ∷ []) y.session y.top y.last x.session x.top n y.subs.items y.subs.items y.overflowed y.overflowed a.same_session a.same_top (a.last_is m) refl refl
        (sub_own first h by parent n x.session x.top x.last x.subs.items y.subs.items x.overflowed y.overflowed b o p e
        (sym (sub_session first h by parent x.session x.top x.last x.subs.items x.overflowed s f i) ∙ e) (a.flag_is m) (a.subs_are m) i)
    split false e =
        let m : (x.session == by.session) ≡ false = equal_swap x.session by.session ∙ e in
        entry_same first (h ++ events.Sub by parent n ∷ []) y.session y.top y.last x.session x.top x.last y.subs.items x.subs.items y.overflowed x.overflowed a.same_session a.same_top (a.others_last m) (a.others_subs m) (a.others_flag m)
        (sub_kept first h by parent n x.session x.top x.last x.subs.items x.overflowed b o p e
        (sym (sub_session first h by parent x.session x.top x.last x.subs.items x.overflowed s f i) ∙ e) i)

pub state_sub : (base : Counters) (h : List Event) (by : By) (parent n oldest late promised : ℕ) (entries entries' : List Entry) (lives : LiveSnapshots) →
    IsState base h n oldest late promised entries lives → n < stop_limit oldest → InTurn by h → Contains (open_ids by.session h) parent → AllZip (IsAdded by.session n) entries entries' →
    IsState base (h ++ events.Sub by parent n ∷ []) (next_id n) oldest late (promised + 1) entries' lives
state_sub base h by parent n oldest late promised entries entries' lives s below turn con z =
    let under : AreBelow n h = subst (λ t. AreBelow t h) (sym s.next_is) (legal_sound base h s.legal).below in
    let up : n < next_id n = next_above n in
    let f : has (open_ids by.session h) parent ≡ true = contains_true (open_ids by.session h) parent con in
    let o : is_open h parent ≡ true = (open_member by.session h parent f).1 in
    let p : parent < n = all_has (λ x. x < n) (given h) parent (given_below n h under) (has_given_to by.session h parent (open_member by.session h parent f).0) in
    let more : length (running (h ++ events.Sub by parent n ∷ [])) ≡ suc (length (running h)) = ap length (giving_running h (events.Sub by parent n) n (giving_sub h by parent n under o)) ∙ length_push (running h) n in
    let room : length (running h) + length (live_snaps base.next h) ≤ promised = s.room in
    let kept : live_snaps base.next (h ++ events.Sub by parent n ∷ []) ≡ live_snaps base.next h = live_push base.next h (events.Sub by parent n) in
    let as_many : length (live_snaps base.next (h ++ events.Sub by parent n ∷ [])) ≡ length (live_snaps base.next h) = ap length kept in
    record {
      base_is = s.base_is;
      legal = legal_push base h (events.Sub by parent n) s.legal (record { next = s.next_is; below_stop = subst (λ o. n < stop_limit o) s.oldest_is below }, con) turn;
      next_is = ap next_id s.next_is ∙ sym (next_after base.next h (events.Sub by parent n) n refl);
      oldest_is = s.oldest_is ∙ sym (oldest_push base.oldest h (events.Sub by parent n));
      latest_is = s.latest_is ∙ sym (same_latest base.next h (h ++ events.Sub by parent n ∷ []) (giving_closed h (events.Sub by parent n) n (giving_sub h by parent n under o)));
      tops = same_zip (λ (e : Entry). e.top) (IsAdded by.session n) (λ x y a. a.same_top) entries entries' z ∙ s.tops ∙ sym (sub_tops h by parent n under p o);
      each = each_zip (IsEntryAt base.next h) (IsEntryAt base.next (h ++ events.Sub by parent n ∷ [])) (IsAdded by.session n) (added_entry base.next h by parent n (legal_sound base h s.legal) under o p f) entries entries' s.each z;
      others = λ q g.
          giving_open_ids q h (events.Sub by parent n) n (giving_sub h by parent n under o)
          ∙ ap (λ l. l ++ cond (by.session == q) (n ∷ []) []) (none q g)
          ∙ not_mine q (none q g) (by.session == q) refl;
      live = subst (λ ss. HoldsLive ss lives) (sym kept) s.live;
      room = omega arith;
      next_to = next_id_to n (let st : stop_limit oldest + 1 ≤ 2 ^ 63 = stop_to oldest in omega arith);
      oldest_to = s.oldest_to;
    }
  where
    none : (q : ℕ) → list_any (λ (e : Entry). e.session == q) entries' ≡ false → open_ids q h ≡ []
    none q g = s.others q (sym (any_zip (λ (e : Entry). e.session == q) (IsAdded by.session n) (λ x y a. ap (λ r. r == q) a.same_session) entries entries' z) ∙ g)

    not_mine : (q : ℕ) → open_ids q h ≡ [] → (c : Bool) → (by.session == q) ≡ c → cond c (n ∷ []) [] ≡ []
    not_mine q g false e = refl
    not_mine q g true e = not_both (has [] parent) (sym (ap (λ l. has l parent) (ap (λ r. open_ids r h) (eqb-true by.session q e) ∙ g)) ∙ contains_true (open_ids by.session h) parent con) refl

same_entry : (first : ℕ) (h : List Event) (x y : Entry) → IsEntryAt first h x → IsSame x y → IsEntryAt first h y
same_entry first h x y i a = entry_same first h y.session y.top y.last x.session x.top x.last y.subs.items x.subs.items y.overflowed x.overflowed a.session a.top a.last a.subs a.overflowed i

-- where entries differ in room alone
pub state_same : (base : Counters) (h : List Event) (n oldest late promised : ℕ) (entries entries' : List Entry) (lives : LiveSnapshots) →
    IsState base h n oldest late promised entries lives → AllZip IsSame entries entries' → IsState base h n oldest late promised entries' lives
state_same base h n oldest late promised entries entries' lives s z =
    record {
      base_is = s.base_is;
      legal = s.legal;
      next_is = s.next_is;
      oldest_is = s.oldest_is;
      latest_is = s.latest_is;
      tops = same_zip (λ (e : Entry). e.top) IsSame (λ x y a. a.top) entries entries' z ∙ s.tops;
      each = each_zip (IsEntryAt base.next h) (IsEntryAt base.next h) IsSame (same_entry base.next h) entries entries' s.each z;
      others = λ q g. s.others q (sym (any_zip (λ (e : Entry). e.session == q) IsSame (λ x y a. ap (λ r. r == q) a.session) entries entries' z) ∙ g);
      live = s.live;
      room = s.room;
      next_to = s.next_to;
      oldest_to = s.oldest_to;
    }
