-- The state after the end of a transaction.
use Rattle.proc_table.proofs.EntryClosing.{latest_ended, entry_other_end}
use Rattle.proc_table.proofs.EntryLists.{map_filter, all_kept, any_all}
use Rattle.proc_table.specs.Entries.{IsEntry, IsEntryAt}
use Rattle.proc_table.specs.Lists.{tops_of}
use Rattle.proc_table.specs.Lives.{HoldsLive}
use Rattle.proc_table.specs.State.{IsState}
use Rattle.tx_events.specs.declared.xact_end.XactEnd.{XactEnd}
use Rattle.tx_events.specs.declared.xact_end.XactEnd.TheVariants as ends
use Rattle.tx_events.specs.XactEnds.{end_event}
use Rattle.proc_table.specs.Table.{InTurn}
use Rattle.proc_table.specs.declared.entry.Entry.{Entry}
use Rattle.proc_table.specs.declared.live.LiveSnapshots.{LiveSnapshots}
use Rattle.std.proofs.Common.{◌≡◌, ℕ, ◌-◌, ◌<◌, ◌≤◌, List, [], ◌∷◌, ◌++◌, length, reverse, refl, ap, sym, ◌∙◌, arith, Bool, true, false, not, ◌&&◌, ◌==◌, ◌||◌, cond, Contains, subst, max, inl, inr, ⊎_elim, ◌⊎◌, ◌+◌, eqb-true}
use Rattle.std.specs.List.{filter, AllByRecursion, list_any, Any}
use Rattle.tx_events.proofs.ClosingGrowth.{closing_commit, closing_abort, closing_open_ids, IsClosing, closing_running, closing_tops}
use Rattle.tx_events.proofs.RunningFamily.{family_member}
use Rattle.tx_events.proofs.HorizonSteps.{live_push, oldest_push}
use Rattle.tx_events.proofs.IdListSteps.{some_had, has-filter, one_less, all_has}
use Rattle.tx_events.proofs.Soundness.{legal_sound, session_runs}
use Rattle.tx_events.proofs.GivenIds.{legal_push}
use Rattle.tx_events.proofs.ListSteps.{filter_none, filter_agree_where, eqb-refl, not_both, filter_passes}
use Rattle.std.proofs.lemmas.Bool.{or_parts, not-true}
use Rattle.tx_events.proofs.NameBounds.{NamesBelow, AreBelow, running_below}
use Rattle.tx_events.specs.Families.{top, is_top}
use Rattle.tx_events.specs.History.{nth_id, MayCome, ComesInTurn}
use Rattle.tx_events.specs.Horizon.{announced_after, live_up, live_snaps}
use Rattle.tx_events.specs.IdLists.{has}
use Rattle.tx_events.specs.Running.{running, open_ids, running_tops}
use Rattle.tx_events.specs.Savepoints.{family}
use Rattle.tx_events.specs.declared.event.By.{By}
use Rattle.tx_events.specs.declared.event.Event.{Event}
use Rattle.tx_events.specs.declared.record.Counters.{Counters}
use Rattle.tx_events.specs.declared.event.Event.TheVariants as events

-- a session without an entry that is kept had none, or that of the top
gone : (base : ℕ) (h : List Event) (t q : ℕ) (es : List Entry) → AllByRecursion (IsEntryAt base h) es → list_any (λ (e : Entry). e.session == q) (filter (λ (e : Entry). not (t == e.top)) es) ≡ false →
    (list_any (λ (e : Entry). e.session == q) es ≡ false) ⊎ (open_ids q h ≡ family h t)
gone base h t q [] a f = inl refl
gone base h t q (e ∷ es) a f = one (t == e.top) refl (e.session == q) refl f (gone base h t q es a.1)
  where
    one : (c : Bool) → (t == e.top) ≡ c → (d : Bool) → (e.session == q) ≡ d →
        list_any (λ (e : Entry). e.session == q) (cond (not c) (e ∷ filter (λ (e : Entry). not (t == e.top)) es) (filter (λ (e : Entry). not (t == e.top)) es)) ≡ false →
        (list_any (λ (e : Entry). e.session == q) (filter (λ (e : Entry). not (t == e.top)) es) ≡ false → (list_any (λ (e : Entry). e.session == q) es ≡ false) ⊎ (open_ids q h ≡ family h t)) →
        ((e.session == q || list_any (λ (e : Entry). e.session == q) es) ≡ false) ⊎ (open_ids q h ≡ family h t)
    one c k true d f g = two c k f
      where
        two : (c : Bool) → (t == e.top) ≡ c → list_any (λ (e : Entry). e.session == q) (cond (not c) (e ∷ filter (λ (e : Entry). not (t == e.top)) es) (filter (λ (e : Entry). not (t == e.top)) es)) ≡ false → ((e.session == q || list_any (λ (e : Entry). e.session == q) es) ≡ false) ⊎ (open_ids q h ≡ family h t)
        two true k f = inr (sym (ap (λ r. open_ids r h) (eqb-true e.session q d)) ∙ a.0.own ∙ ap (family h) (sym (eqb-true t e.top k)))
        two false k f = not_both (e.session == q) d ((or_parts (e.session == q) (list_any (λ (e : Entry). e.session == q) (filter (λ (e : Entry). not (t == e.top)) es)) f).0)
    one true k false d f g = ⊎_elim (λ l. inl (ap (λ b. b || list_any (λ (e : Entry). e.session == q) es) d ∙ l)) inr (g f)
    one false k false d f g = ⊎_elim (λ l. inl (ap (λ b. b || list_any (λ (e : Entry). e.session == q) es) d ∙ l)) inr (g ((or_parts (e.session == q) (list_any (λ (e : Entry). e.session == q) (filter (λ (e : Entry). not (t == e.top)) es)) f).1))

-- the end of a top, which was given last the id `last`
pub state_end : (base : Counters) (h : List Event) (e : Event) (t n oldest late promised : ℕ) (entries : List Entry) (lives : LiveSnapshots) (ended : Entry) →
    IsState base h n oldest late promised entries lives → IsClosing h e (λ x. not (t == top h x)) → MayCome base h e → ComesInTurn h e →
    ((m : ℕ) → t < m → NamesBelow m e) → announced_after oldest e ≡ oldest → live_up base.next (e ∷ reverse h) ≡ live_snaps base.next h →
    IsEntryAt base.next h ended → ended.top ≡ t → 1 ≤ promised →
    IsState base (h ++ e ∷ []) n oldest (max late ended.last) (promised - 1) (filter (λ (e : Entry). not (t == e.top)) entries) lives
state_end base h e t n oldest late promised entries lives ended s c may turn names old live i top_is some =
    let here : has (family h t) t ≡ true = subst (λ u. has (family h u) u ≡ true) top_is i.here in
    let runs : has (running h) t ≡ true = (family_member h t t here).0 in
    let own_top : top h t ≡ t = (family_member h t t here).1 in
    let under : AreBelow n h = subst (λ t. AreBelow t h) (sym s.next_is) (legal_sound base h s.legal).below in
    let below : t < n = all_has (λ x. x < n) (running h) t (running_below n h under) runs in
    let run : running (h ++ e ∷ []) ≡ filter (λ x. not (t == top h x)) (running h) = closing_running h e (λ x. not (t == top h x)) c in
    let fewer : length (filter (λ x. not (t == top h x)) (running h)) + 1 ≤ length (running h) = one_less (λ x. not (t == top h x)) (running h) t runs (ap not (ap (λ u. t == u) own_top ∙ eqb-refl t)) in
    let same : length (running (h ++ e ∷ [])) ≡ length (filter (λ x. not (t == top h x)) (running h)) = ap length run in
    let room : length (running h) + length (live_snaps base.next h) ≤ promised = s.room in
    let kept : live_snaps base.next (h ++ e ∷ []) ≡ live_snaps base.next h = live_push base.next h e ∙ live in
    let as_many : length (live_snaps base.next (h ++ e ∷ [])) ≡ length (live_snaps base.next h) = ap length kept in
    record {
      base_is = s.base_is;
      legal = legal_push base h e s.legal may turn;
      next_is = s.next_is ∙ sym (ap (λ t. nth_id base.next (length t)) c.gives);
      oldest_is = sym old ∙ ap (λ o. announced_after o e) s.oldest_is ∙ sym (oldest_push base.oldest h e);
      latest_is = ap (λ m. max m ended.last) s.latest_is ∙ sym (latest_ended base.next h e ended.session t ended.last ended.subs.items ended.overflowed c (subst (λ u. IsEntry base.next h ended.session u ended.last ended.subs.items ended.overflowed) top_is i));
      tops =
          map_filter (λ (e : Entry). e.top) (λ u. not (t == u)) entries
          ∙ ap (filter (λ u. not (t == u))) s.tops
          ∙ filter_agree_where (λ x. is_top h x ≡ true) (λ u. not (t == u)) (λ x. not (t == top h x)) (λ x k. ap (λ u. not (t == u)) (sym (eqb-true (top h x) x k))) (running_tops h) (filter_passes (is_top h) (running h))
          ∙ sym (closing_tops h e (λ x. not (t == top h x)) c);
      each = all_kept (IsEntryAt base.next h) (IsEntryAt base.next (h ++ e ∷ [])) (λ (e : Entry). not (t == e.top))
          (λ x j k. entry_other_end base.next h e t x.session x.top x.last x.subs.items x.overflowed c (not-true (t == x.top) k) j) entries s.each;
      others = λ q f.
          closing_open_ids q h e (λ x. not (t == top h x)) c
          ∙ ⊎_elim (λ k. ap (filter (λ x. not (t == top h x))) (s.others q k))
          (λ k. ap (filter (λ x. not (t == top h x))) k ∙ filter_none (λ x. (top h x == t) ≡ true) (λ x. not (t == top h x)) (family h t) (λ x j. ap not (ap (λ u. t == u) (eqb-true (top h x) t j) ∙ eqb-refl t)) (filter_passes (λ x. top h x == t) (running h)))
          (gone base.next h t q entries s.each f);
      live = subst (λ ss. HoldsLive ss lives) (sym kept) s.live;
      room = omega arith;
      next_to = s.next_to;
      oldest_to = s.oldest_to;
    }

-- where an id is open, an event is promised
pub is_promised : (base : Counters) (h : List Event) (n oldest late promised : ℕ) (entries : List Entry) (lives : LiveSnapshots) (session x : ℕ) →
    IsState base h n oldest late promised entries lives → Contains (open_ids session h) x → 1 ≤ promised
is_promised base h n oldest late promised entries lives session x s c =
    let some : 1 ≤ length (running h) = some_had (running h) x (session_runs session h x c) in
    let room : length (running h) + length (live_snaps base.next h) ≤ promised = s.room in
    omega arith

pub has_entry : (base : Counters) (h : List Event) (n oldest late promised : ℕ) (entries : List Entry) (lives : LiveSnapshots) (session t : ℕ) →
    IsState base h n oldest late promised entries lives → Contains (open_ids session h) t → is_top h t ≡ true → has (tops_of entries) t ≡ true
has_entry base h n oldest late promised entries lives session t s c f =
    ap (λ l. has l t) s.tops ∙ has-filter (is_top h) (running h) t ∙ ap (λ b. b && is_top h t) (session_runs session h t c) ∙ f

pub state_ended : (base : Counters) (h : List Event) (by : By) (t last n oldest late promised : ℕ) (how : XactEnd) (entries : List Entry) (lives : LiveSnapshots) →
    IsState base h n oldest late promised entries lives → InTurn by h → Contains (open_ids by.session h) t → is_top h t ≡ true →
    Any (λ (e : Entry). (e.top ≡ t) × (last ≡ e.last)) entries →
    IsState base (h ++ end_event how by t ∷ []) n oldest (max late last) (promised - 1) (filter (λ (e : Entry). not (t == e.top)) entries) lives
state_ended base h by t last n oldest late promised ends.Commit entries lives s turn con top_is a =
    let e = any_all (λ (e : Entry). (e.top ≡ t) × (last ≡ e.last)) (IsEntryAt base.next h) entries a s.each in
    subst (λ m. IsState base (h ++ events.Commit by t ∷ []) n oldest (max late m) (promised - 1) (filter (λ (e : Entry). not (t == e.top)) entries) lives) (sym e.1.0.1)
    (state_end base h (events.Commit by t) t n oldest late promised entries lives e.0 s (closing_commit h by t) (con, top_is) turn (λ m l. l) refl refl e.1.1 e.1.0.0 (is_promised base h n oldest late promised entries lives by.session t s con))
state_ended base h by t last n oldest late promised ends.Abort entries lives s turn con top_is a =
    let e = any_all (λ (e : Entry). (e.top ≡ t) × (last ≡ e.last)) (IsEntryAt base.next h) entries a s.each in
    subst (λ m. IsState base (h ++ events.Abort by t ∷ []) n oldest (max late m) (promised - 1) (filter (λ (e : Entry). not (t == e.top)) entries) lives) (sym e.1.0.1)
    (state_end base h (events.Abort by t) t n oldest late promised entries lives e.0 s (closing_abort h by t) (con, top_is) turn (λ m l. l) refl refl e.1.1 e.1.0.0 (is_promised base h n oldest late promised entries lives by.session t s con))
