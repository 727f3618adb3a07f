-- The state after an event that gives a top, or gives and closes nothing.
use Rattle.proc_table.proofs.Bounds.{next_id_to, stop_to}
use Rattle.proc_table.proofs.EntryGrowth.{entry_quiet, entry_id_other, entry_id_new}
use Rattle.proc_table.specs.Entries.{IsEntry, IsEntryAt}
use Rattle.proc_table.specs.Lists.{tops_of}
use Rattle.proc_table.specs.Lives.{HoldsLive}
use Rattle.proc_table.specs.State.{IsState}
use Rattle.proc_table.specs.Table.{InTurn}
use Rattle.proc_table.specs.declared.entry.Entry.{Entry}
use Rattle.proc_table.specs.declared.live.LiveSnapshots.{LiveSnapshots}
use Rattle.std.proofs.Common.{◌≡◌, ℕ, suc, ◌<◌, ◌≤◌, List, [], ◌∷◌, ◌++◌, length, reverse, refl, ap, sym, ◌∙◌, arith, Bool, false, ◌==◌, ◌||◌, cond, subst, ◌+◌, ◌^◌}
use Rattle.std.proofs.lemmas.List.Folds.{list_any-append}
use Rattle.std.specs.List.{list_any}
use Rattle.tx_events.proofs.ClosingGrowth.{same_latest}
use Rattle.tx_events.proofs.HorizonSteps.{live_push, oldest_push}
use Rattle.tx_events.proofs.Soundness.{legal_sound}
use Rattle.tx_events.proofs.GivenIds.{legal_push}
use Rattle.tx_events.proofs.ListSteps.{length_push, all_weaker, all_push}
use Rattle.std.proofs.lemmas.List.{map_push}
use Rattle.std.proofs.lemmas.Bool.{or_parts}
use Rattle.tx_events.proofs.NameBounds.{AreBelow}
use Rattle.tx_events.proofs.GivingGrowth.{giving_closed, giving_id, giving_running, giving_open_ids, id_tops}
use Rattle.tx_events.proofs.QuietGrowth.{IsQuiet, quiet_given, quiet_running, quiet_open_ids, quiet_tops, quiet_closed}
use Rattle.tx_events.proofs.IdOrder.{next_above}
use Rattle.tx_events.proofs.GivenGrowth.{next_after}
use Rattle.tx_events.specs.History.{nth_id, MayCome, ComesInTurn}
use Rattle.tx_events.specs.Horizon.{announced_after, live_up, live_snaps}
use Rattle.tx_events.specs.Limits.{stop_limit}
use Rattle.tx_events.specs.Running.{running, open_ids}
use Rattle.tx_events.specs.declared.event.By.{By}
use Rattle.tx_events.specs.declared.event.Event.{Event}
use Rattle.tx_events.specs.declared.record.Counters.{Counters}
use Rattle.tx_events.specs.Ids.{next_id}
use Rattle.tx_events.specs.declared.event.Event.TheVariants as events

pub entry_same : (first : ℕ) (h : List Event) (s t l s' t' l' : ℕ) (subs subs' : List ℕ) (o o' : Bool) → s ≡ s' → t ≡ t' → l ≡ l' → subs ≡ subs' → o ≡ o' → IsEntry first h s' t' l' subs' o' → IsEntry first h s t l subs o
entry_same first h s t l s' t' l' subs subs' o o' a b c d e i = rw (a, b, c, d, e) i

pub state_id : (base : Counters) (h : List Event) (by : By) (n oldest late promised : ℕ) (entries : List Entry) (lives : LiveSnapshots) (new : Entry) →
    IsState base h n oldest late promised entries lives → n < stop_limit oldest → InTurn by h → open_ids by.session h ≡ [] →
    new.session ≡ by.session → new.top ≡ n → new.last ≡ n → new.subs.items ≡ [] → new.overflowed ≡ false →
    IsState base (h ++ events.Id by n ∷ []) (next_id n) oldest late (promised + 1) (entries ++ new ∷ []) lives
state_id base h by n oldest late promised entries lives new s below turn none a b c d e =
    let under : AreBelow n h = subst (λ t. AreBelow t h) (sym s.next_is) (legal_sound base h s.legal).below in
    let up : n < next_id n = next_above n in
    let more : length (running (h ++ events.Id by n ∷ [])) ≡ suc (length (running h)) = ap length (giving_running h (events.Id by n) n (giving_id h by n under)) ∙ length_push (running h) n in
    let room : length (running h) + length (live_snaps base.next h) ≤ promised = s.room in
    let kept : live_snaps base.next (h ++ events.Id by n ∷ []) ≡ live_snaps base.next h = live_push base.next h (events.Id by n) in
    let as_many : length (live_snaps base.next (h ++ events.Id by n ∷ [])) ≡ length (live_snaps base.next h) = ap length kept in
    record {
      base_is = s.base_is;
      legal = legal_push base h (events.Id by n) s.legal (record { next = s.next_is; below_stop = subst (λ o. n < stop_limit o) s.oldest_is below }, none) turn;
      next_is = ap next_id s.next_is ∙ sym (next_after base.next h (events.Id by n) n refl);
      oldest_is = s.oldest_is ∙ sym (oldest_push base.oldest h (events.Id by n));
      latest_is = s.latest_is ∙ sym (same_latest base.next h (h ++ events.Id by n ∷ []) (giving_closed h (events.Id by n) n (giving_id h by n under)));
      tops = map_push (λ (e : Entry). e.top) entries new ∙ ap (λ t. tops_of entries ++ t ∷ []) b ∙ ap (λ l. l ++ n ∷ []) s.tops ∙ sym (id_tops h by n under);
      each = all_push (IsEntryAt base.next (h ++ events.Id by n ∷ [])) entries new
          (all_weaker (IsEntryAt base.next h) (IsEntryAt base.next (h ++ events.Id by n ∷ [])) (λ x i. entry_id_other base.next h by n x.session x.top x.last x.subs.items x.overflowed under none i) entries s.each)
          (entry_same base.next (h ++ events.Id by n ∷ []) new.session new.top new.last by.session n n new.subs.items [] new.overflowed false a b c d e (entry_id_new base.next h by n under none));
      others = λ q f.
          let g : (list_any (λ e. e.session == q) entries || list_any (λ e. e.session == q) (new ∷ [])) ≡ false = sym (list_any-append (λ (e : Entry). e.session == q) entries (new ∷ [])) ∙ f in
          giving_open_ids q h (events.Id by n) n (giving_id h by n under)
          ∙ ap (λ l. l ++ cond (by.session == q) (n ∷ []) []) (s.others q ((or_parts (list_any (λ e. e.session == q) entries) (list_any (λ e. e.session == q) (new ∷ [])) g).0))
          ∙ ap (λ c. cond c (n ∷ []) []) (sym (ap (λ r. r == q) a) ∙ (or_parts (new.session == q) false ((or_parts (list_any (λ e. e.session == q) entries) (list_any (λ e. e.session == q) (new ∷ [])) g).1)).0);
      live = subst (λ ss. HoldsLive ss lives) (sym kept) s.live;
      room = omega arith;
      next_to = next_id_to n (let st : stop_limit oldest + 1 ≤ 2 ^ 63 = stop_to oldest in omega arith);
      oldest_to = s.oldest_to;
    }

pub state_quiet : (base : Counters) (h : List Event) (e : Event) (n oldest oldest' late promised promised' : ℕ) (entries : List Entry) (lives lives' : LiveSnapshots) →
    IsState base h n oldest late promised entries lives → IsQuiet e → MayCome base h e → ComesInTurn h e →
    oldest' ≡ announced_after oldest e → oldest' < 2 ^ 63 → HoldsLive (live_up base.next (e ∷ reverse h)) lives' → length (running h) + length (live_up base.next (e ∷ reverse h)) ≤ promised' →
    IsState base (h ++ e ∷ []) n oldest' late promised' entries lives'
state_quiet base h e n oldest oldest' late promised promised' entries lives lives' s q may turn old low live room =
    let same : length (running (h ++ e ∷ [])) ≡ length (running h) = ap length (quiet_running h e q) in
    let as_many : length (live_snaps base.next (h ++ e ∷ [])) ≡ length (live_up base.next (e ∷ reverse h)) = ap length (live_push base.next h e) in
    record {
      base_is = s.base_is;
      legal = legal_push base h e s.legal may turn;
      next_is = s.next_is ∙ sym (ap (λ t. nth_id base.next (length t)) (quiet_given h e q));
      oldest_is = old ∙ ap (λ o. announced_after o e) s.oldest_is ∙ sym (oldest_push base.oldest h e);
      latest_is = s.latest_is ∙ sym (same_latest base.next h (h ++ e ∷ []) (quiet_closed h e q));
      tops = s.tops ∙ sym (quiet_tops h e q);
      each = all_weaker (IsEntryAt base.next h) (IsEntryAt base.next (h ++ e ∷ [])) (λ x i. entry_quiet base.next h e x.session x.top x.last x.subs.items x.overflowed q i) entries s.each;
      others = λ r f. quiet_open_ids r h e q ∙ s.others r f;
      live = subst (λ ss. HoldsLive ss lives') (sym (live_push base.next h e)) live;
      room = omega arith;
      next_to = s.next_to;
      oldest_to = low;
    }
