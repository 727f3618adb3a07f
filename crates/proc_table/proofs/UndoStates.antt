-- The state after the rollback of a savepoint.
use Rattle.std.proofs.lemmas.Bool.{cases_Bool}
use Rattle.tx_events.proofs.Lineages.{line_head, top_line, enclosing_line}
use Rattle.proc_table.proofs.EntryClosing.{entry_closing}
use Rattle.proc_table.proofs.EntryLists.{each_zip, any_zip, pick, same_zip}
use Rattle.proc_table.proofs.EntrySub.{sub_session}
use Rattle.proc_table.proofs.States.{entry_same}
use Rattle.proc_table.specs.Entries.{IsEntryAt, IsTaken}
use Rattle.proc_table.specs.Lives.{HoldsLive}
use Rattle.proc_table.specs.State.{IsState}
use Rattle.proc_table.specs.Table.{InTurn}
use Rattle.proc_table.specs.declared.entry.Entry.{Entry}
use Rattle.proc_table.specs.declared.live.LiveSnapshots.{LiveSnapshots}
use Rattle.std.proofs.Common.{◌≡◌, ℕ, ◌-◌, ◌<◌, ◌≤◌, List, [], ◌∷◌, ◌++◌, length, reverse, refl, ap, sym, ◌∙◌, arith, Bool, true, false, not, ◌&&◌, ◌==◌, ◌||◌, subst, max, inl, inr, ⊎_elim, ◌⊎◌, ◌+◌, eqb-true, take, suc}
use Rattle.std.proofs.lemmas.List.Elements.{filter_agree}
use Rattle.std.specs.List.{filter, AllByRecursion, list_any, fold, AllZip}
use Rattle.tx_events.proofs.ClosingGrowth.{closing_open_ids, closing_undo, IsClosing, closing_latest, closing_running, closing_tops}
use Rattle.tx_events.proofs.RunningFamily.{all_subs, family_member}
use Rattle.tx_events.proofs.ListSteps.{equal_swap, filter_agree_where, eqb-refl, filter_all, not_both, filter_passes, filter_in_turn}
use Rattle.tx_events.proofs.HorizonSteps.{live_push, oldest_push}
use Rattle.tx_events.proofs.IdListSteps.{contains_true, has-filter, one_less, all_has}
use Rattle.tx_events.proofs.Soundness.{legal_sound, has_given_to, open_member, IsSound}
use Rattle.tx_events.proofs.GivenIds.{legal_push}
use Rattle.std.proofs.Math.Bool.{and-false}
use Rattle.tx_events.proofs.NameBounds.{AreBelow, running_below}
use Rattle.tx_events.specs.Events.{given}
use Rattle.tx_events.specs.Families.{top, is_top, lineage}
use Rattle.tx_events.specs.History.{nth_id, MayCome}
use Rattle.tx_events.specs.Horizon.{live_snaps}
use Rattle.tx_events.specs.IdLists.{has}
use Rattle.tx_events.specs.Running.{is_open, running, open_ids, running_tops}
use Rattle.tx_events.specs.Savepoints.{is_inside, family}
use Rattle.tx_events.specs.Snapshots.{latest, running_subs}
use Rattle.tx_events.specs.declared.event.By.{By}
use Rattle.tx_events.specs.declared.event.Event.{Event}
use Rattle.tx_events.specs.declared.record.Counters.{Counters}
use Rattle.tx_events.specs.declared.event.Event.TheVariants as events

-- the undo of a savepoint, which closes these ids
taken_entry : (first : ℕ) (h : List Event) (by : By) (id : ℕ) (ids : List ℕ) → IsSound first h → has (open_ids by.session h) id ≡ true → ids ≡ filter (is_inside h id) (open_ids by.session h) →
    (x y : Entry) → IsEntryAt first h x → IsTaken by.session ids x y → IsEntryAt first (h ++ events.Undo by id ∷ []) y
taken_entry first h by id ids s f are x y i a =
    entry_same first (h ++ events.Undo by id ∷ []) y.session y.top y.last x.session x.top x.last y.subs.items y.subs.items y.overflowed x.overflowed a.same_session a.same_top a.same_last refl a.same_flag
    (entry_closing first h (events.Undo by id) (λ z. not (is_inside h id z)) x.session x.top x.last x.subs.items y.subs.items x.overflowed (closing_undo h by id)
    (ap (λ l. not (list_any (λ y. id == y) l)) (s.alone x.top (ap (λ u. u == x.top) (family_member h x.top x.top i.here).1 ∙ eqb-refl x.top)))
    (left (x.session == by.session) refl) i)
  where
    tops : top h id ≡ x.top → (by.session == x.session) ≡ true
    tops e = sub_session first h by id x.session x.top x.last x.subs.items x.overflowed s f i ∙ ap (λ u. u == x.top) e ∙ eqb-refl x.top

    outside : (z : ℕ) → (x.session == by.session) ≡ false → top h z ≡ x.top → (c : Bool) → is_inside h id z ≡ c → not (is_inside h id z) ≡ true
    outside z k e false g = ap not g
    outside z k e true g = not_both (x.session == by.session) (equal_swap x.session by.session ∙ tops (sym (s.inside z id g) ∙ e)) k

    in_ids : (z : ℕ) → has (open_ids by.session h) z ≡ true → not (is_inside h id z) ≡ not (has ids z)
    in_ids z k = ap not (sym (ap (λ l. has l z) are ∙ has-filter (is_inside h id) (open_ids by.session h) z ∙ ap (λ b. b && is_inside h id z) k))

    left : (c : Bool) → (x.session == by.session) ≡ c → y.subs.items ≡ filter (λ z. not (is_inside h id z)) x.subs.items
    left false k =
        a.others_subs k
        ∙ sym (ap (filter (λ z. not (is_inside h id z))) i.subs_are
        ∙ filter_all (λ z. not (is_inside h id z) ≡ true) (λ z. not (is_inside h id z)) (running_subs h x.top) (λ z j. j) (all_subs (λ z. not (is_inside h id z) ≡ true) h x.top (λ z g j. outside z k j (is_inside h id z) refl))
        ∙ sym i.subs_are)
    left true k =
        a.subs_are k
        ∙ sym (filter_agree_where (λ z. has (open_ids by.session h) z ≡ true) (λ z. not (is_inside h id z)) (λ z. not (has ids z)) in_ids x.subs.items
        (subst (AllByRecursion (λ z. has (open_ids by.session h) z ≡ true)) (sym i.subs_are)
        (all_subs (λ z. has (open_ids by.session h) z ≡ true) h x.top
        (λ z g j. ap (λ l. has l z) (sym (ap (λ r. open_ids r h) (eqb-true x.session by.session k)) ∙ i.own) ∙ has-filter (λ u. top h u == x.top) (running h) z ∙ ap (λ b. b && (top h z == x.top)) g ∙ ap (λ u. u == x.top) j ∙ eqb-refl x.top))))

-- a session with an open id has an entry
pub entry_of : (base : Counters) (h : List Event) (n oldest late promised : ℕ) (entries : List Entry) (lives : LiveSnapshots) (session x : ℕ) →
    IsState base h n oldest late promised entries lives → has (open_ids session h) x ≡ true → (e : Entry) × (IsEntryAt base.next h e × ((e.session == session) ≡ true))
entry_of base h n oldest late promised entries lives session x s f =
    ⊎_elim (λ k. pick (IsEntryAt base.next h) (λ (e : Entry). e.session == session) entries s.each k)
    (λ k. not_both (has (open_ids session h) x) f (ap (λ l. has l x) (s.others session k)))
    (cases_Bool (list_any (λ (e : Entry). e.session == session) entries))

pub ends : (h : List Event) (x : ℕ) → (top h x ≡ x) ⊎ (is_inside h x x ≡ true)
ends h x = one (line_head (reverse h) x).0 (line_head (reverse h) x).1
  where
    less : (n : ℕ) → suc (suc n) - 1 ≡ suc n
    less n = omega arith

    one : (rest : List ℕ) → lineage h x ≡ x ∷ rest → (top h x ≡ x) ⊎ (is_inside h x x ≡ true)
    one [] e = inl (ap (λ (l : List ℕ). top_line l x) e)
    one (y ∷ ys) e = inr (ap (λ (l : List ℕ). list_any (λ z. x == z) (enclosing_line l)) e ∙ ap (λ n. list_any (λ z. x == z) (take n (x ∷ y ∷ ys))) (less (length ys)) ∙ ap (λ b. b || list_any (λ z. x == z) (take (length ys) (y ∷ ys))) (eqb-refl x))

pub state_undo : (base : Counters) (h : List Event) (by : By) (id n oldest late promised : ℕ) (ids : List ℕ) (entries entries' : List Entry) (lives : LiveSnapshots) →
    IsState base h n oldest late promised entries lives → MayCome base h (events.Undo by id) → InTurn by h → ids ≡ filter (is_inside h id) (open_ids by.session h) → AllZip (IsTaken by.session ids) entries entries' → 1 ≤ promised →
    IsState base (h ++ events.Undo by id ∷ []) n oldest (fold max late ids) (promised - 1) entries' lives
state_undo base h by id n oldest late promised ids entries entries' lives s may turn are z some =
    let f : has (open_ids by.session h) id ≡ true = contains_true (open_ids by.session h) id may.0 in
    let under : AreBelow n h = subst (λ t. AreBelow t h) (sym s.next_is) (legal_sound base h s.legal).below in
    let given_id : has (given h) id ≡ true = has_given_to by.session h id (open_member by.session h id f).0 in
    let runs : has (running h) id ≡ true = has-filter (is_open h) (given h) id ∙ ap (λ b. b && is_open h id) given_id ∙ (open_member by.session h id f).1 in
    let below : id < n = all_has (λ x. x < n) (running h) id (running_below n h under) runs in
    let c : IsClosing h (events.Undo by id) (λ x. not (is_inside h id x)) = closing_undo h by id in
    let fewer : length (filter (λ x. not (is_inside h id x)) (running h)) + 1 ≤ length (running h) = one_less (λ x. not (is_inside h id x)) (running h) id runs (ap not (inside_itself may.1)) in
    let same : length (running (h ++ events.Undo by id ∷ [])) ≡ length (filter (λ x. not (is_inside h id x)) (running h)) = ap length (closing_running h (events.Undo by id) (λ x. not (is_inside h id x)) c) in
    let room : length (running h) + length (live_snaps base.next h) ≤ promised = s.room in
    let kept : live_snaps base.next (h ++ events.Undo by id ∷ []) ≡ live_snaps base.next h = live_push base.next h (events.Undo by id) in
    let as_many : length (live_snaps base.next (h ++ events.Undo by id ∷ [])) ≡ length (live_snaps base.next h) = ap length kept in
    record {
      base_is = s.base_is;
      legal = legal_push base h (events.Undo by id) s.legal may turn;
      next_is = s.next_is ∙ sym (ap (λ t. nth_id base.next (length t)) c.gives);
      oldest_is = s.oldest_is ∙ sym (oldest_push base.oldest h (events.Undo by id));
      latest_is = ap (λ m. fold max m ids) s.latest_is ∙ ap (fold max (latest base.next h)) (all_ids f) ∙ sym (closing_latest base.next h (events.Undo by id) (λ x. not (is_inside h id x)) c);
      tops =
          same_zip (λ (e : Entry). e.top) (IsTaken by.session ids) (λ x y a. a.same_top) entries entries' z ∙ s.tops
          ∙ sym (closing_tops h (events.Undo by id) (λ x. not (is_inside h id x)) c
          ∙ filter_all (λ x. is_top h x ≡ true) (λ x. not (is_inside h id x)) (running_tops h) (λ x k. ap (λ l. not (list_any (λ y. id == y) l)) ((legal_sound base h s.legal).alone x k)) (filter_passes (is_top h) (running h)));
      each = each_zip (IsEntryAt base.next h) (IsEntryAt base.next (h ++ events.Undo by id ∷ [])) (IsTaken by.session ids) (taken_entry base.next h by id ids (legal_sound base h s.legal) f are) entries entries' s.each z;
      others = λ q g.
          closing_open_ids q h (events.Undo by id) (λ x. not (is_inside h id x)) c
          ∙ ap (filter (λ x. not (is_inside h id x))) (s.others q (sym (any_zip (λ (e : Entry). e.session == q) (IsTaken by.session ids) (λ x y a. ap (λ r. r == q) a.same_session) entries entries' z) ∙ g));
      live = subst (λ ss. HoldsLive ss lives) (sym kept) s.live;
      room = omega arith;
      next_to = s.next_to;
      oldest_to = s.oldest_to;
    }
  where
    inside_itself : is_top h id ≡ false → is_inside h id id ≡ true
    inside_itself g = ⊎_elim (λ e. not_both (is_top h id) (ap (λ t. t == id) e ∙ eqb-refl id) g) (λ e. e) (ends h id)

    -- the ids of the session below the savepoint are all running ones
    all_ids : has (open_ids by.session h) id ≡ true → ids ≡ filter (λ x. not (not (is_inside h id x))) (running h)
    all_ids f =
        let e = entry_of base h n oldest late promised entries lives by.session id s f in
        let own : open_ids by.session h ≡ family h e.0.top = ap (λ r. open_ids r h) (sym (eqb-true e.0.session by.session e.1.1)) ∙ e.1.0.own in
        let top_is : top h id ≡ e.0.top = (family_member h e.0.top id (sym (ap (λ l. has l id) own) ∙ f)).1 in
        are ∙ ap (filter (is_inside h id)) own
        ∙ sym (filter_in_turn (λ x. top h x == e.0.top) (is_inside h id) (running h))
        ∙ filter_agree (λ x. (top h x == e.0.top) && is_inside h id x) (λ x. not (not (is_inside h id x))) (λ x. both x e.0.top top_is (is_inside h id x) refl) (running h)
      where
        both : (x t : ℕ) → top h id ≡ t → (b : Bool) → is_inside h id x ≡ b → ((top h x == t) && is_inside h id x) ≡ not (not (is_inside h id x))
        both x t k true g = ap (λ b. (top h x == t) && b) g ∙ ap (λ u. (u == t) && true) ((legal_sound base h s.legal).inside x id g ∙ k) ∙ ap (λ b. b && true) (eqb-refl t) ∙ sym (ap (λ b. not (not b)) g)
        both x t k false g = ap (λ b. (top h x == t) && b) g ∙ and-false (top h x == t) ∙ sym (ap (λ b. not (not b)) g)
