-- The steps of `add`.
use Rattle.std.proofs.Common.{◌≡◌, ◌≢◌, ℕ, ◌<◌, ◌≤◌, ◌==◌, ◌↔◌, IsTrue, Contains, Bool, true, false, suc, zero, List, [], ◌∷◌, ◌++◌, length, get_or, set, ap, sym, subst, refl, ◌∙◌, arith, eqb-true, ⊎_elim}
use Rattle.std.specs.List.{slice_index}
use Rattle.std.proofs.lemmas.Bool.{cases_Bool, false≢true}
use Rattle.std.proofs.lemmas.List.{get_or-set_other, get_or-set_same, length-set}
use Rattle.tx_events.specs.declared.event.By.{By}
use Rattle.tx_events.specs.declared.event.Event.{Event}
use Rattle.tx_events.specs.declared.record.Counters.{Counters}
use Rattle.tx_events.specs.Events.{by_of, given}
use Rattle.tx_events.proofs.ListSteps.{eqb-refl}
use Rattle.proc_table.specs.Table.{InTurn, Table}
use Rattle.history_check.specs.declared.given.GivenId.{GivenId}
use Rattle.history_check.specs.declared.links.Slot.{Slot}
use Rattle.history_check.specs.declared.opened.Opened.{Opened}
use Rattle.history_check.specs.GivenIds.{AreKept}
use Rattle.history_check.specs.Links.{AreLinked, link_ids, links_of, opens}
use Rattle.history_check.specs.Opened.{AreAllOpened, AreOpened, IsKept, IsOpened}
use Rattle.history_check.specs.Replays.{AreTurns, GoesOn, IsReplay, Replayed, Stays, with_event}
use Rattle.history_check.proofs.TurnLemmas.{in_turn_iff}

abbrev pub view_of : Table → Replayed
view_of t = record { base = t.base; sessions = t.sessions; events = t.events }

pub turn_of : (t : Table) (now : Replayed) (e : Event) (by : By) (last slice : List ℕ) (b : Bool) → view_of t ≡ now → AreTurns t.sessions t.events last → slice ≡ last → (by_of e).session < now.sessions → by ≡ by_of e → IsTrue b ↔ (slice_index slice by.session ≤ by.command) → IsTrue b ↔ InTurn (by_of e) t.events
turn_of t now e by last slice b view turns is within own told =
    in_turn_iff t.sessions t.events slice b (by_of e) by (subst (AreTurns t.sessions t.events) (sym is) turns) (subst (λ (n : ℕ). (by_of e).session < n) (sym (ap (λ (r : Replayed). r.sessions) view)) within) own told

pub within_table : (t : Table) (now : Replayed) (e : Event) → view_of t ≡ now → (by_of e).session < now.sessions → (by_of e).session < t.sessions
within_table t now e view within = subst (λ (n : ℕ). (by_of e).session < n) (sym (ap (λ (r : Replayed). r.sessions) view)) within

-- within a list the default isn't taken
pub same_default : {X : Type 0} (xs : List X) (s : ℕ) (d d' : X) → s < length xs → get_or xs s d ≡ get_or xs s d'
same_default [] s d d' l = absurd (omega arith)
same_default (x ∷ xs) zero d d' l = refl
same_default (x ∷ xs) (suc s) d d' l = same_default xs s d d' (omega arith)

-- one of them has more room
pub record IsRoomier (old new : Opened) : Type 0 where
  pub items : new.slots.items ≡ old.slots.items
  pub count : new.count ≡ old.count

pub kept_roomier : (old new : Opened) → IsRoomier old new → IsKept old → IsKept new
kept_roomier old new r k = record {
  count = r.count ∙ k.count ∙ ap (λ (t : List Slot). length (opens t)) (sym r.items);
  linked = subst (λ (t : List Slot). AreLinked (links_of t)) (sym r.items) k.linked;
}

roomier : (h : List Event) (s : ℕ) (old new : Opened) → IsRoomier old new → IsOpened h s old → IsOpened h s new
roomier h s old new r o = record {
  opened = subst (λ (t : List Slot). AreOpened h s (opens t)) (sym r.items) o.opened;
  kept = kept_roomier old new r o.kept;
  among = subst (λ (t : List Slot). (x : ℕ) → Contains (link_ids (links_of t)) x → Contains (given h) x) (sym r.items) o.among;
}

pub opened_roomier : (h : List Event) (n : ℕ) (all : List Opened) (s : ℕ) (new old : Opened) → AreAllOpened h n all → s < n → old ≡ get_or all s old → IsRoomier old new → AreAllOpened h n (set all s new)
opened_roomier h n all s new old a l is r = record {
  size = length-set all s new ∙ a.size;
  each = λ t m d. ⊎_elim
      (λ (own : (s == t) ≡ true).
      let same : s ≡ t = eqb-true s t own in
      let now : get_or (set all s new) t d ≡ new = ap (λ k. get_or (set all s new) k d) (sym same) ∙ get_or-set_same all s new d (subst (λ k. s < k) (sym a.size) l) in
      let theirs : IsOpened h s old = subst (IsOpened h s) (sym is) (a.each s l old) in
      subst (IsOpened h t) (sym now) (subst (λ k. IsOpened h k new) same (roomier h s old new r theirs)))
      (λ (other : (s == t) ≡ false).
      let apart : t ≢ s = λ q. false≢true (sym other ∙ ap (λ y. s == y) q ∙ eqb-refl s) in
      let now : get_or (set all s new) t d ≡ get_or all t d = get_or-set_other all s t new d apart in
      subst (IsOpened h t) (sym now) (a.each t m d))
      (cases_Bool (s == t));
}

pub replay_roomier : (t : Table) (last : List ℕ) (all : List Opened) (items items' : List GivenId) (e : Event) (by : By) (new old : Opened) → IsReplay t last all items → (by_of e).session < t.sessions → by ≡ by_of e → old ≡ get_or all by.session old → IsRoomier old new → items' ≡ items → IsReplay t last (set all by.session new) items'
replay_roomier t last all items items' e by new old r within own is room items_are = record {
  turns = r.turns;
  opened = opened_roomier t.events t.sessions all by.session new old r.opened (subst (λ (b : By). b.session < t.sessions) (sym own) within) is room;
  given = subst (AreKept t.events) (sym items_are) r.given;
}

pub replay_stays : (old new : Table) (last : List ℕ) (all : List Opened) (items : List GivenId) → Stays old new → IsReplay old last all items → IsReplay new last all items
replay_stays old new last all items stays r = record {
  turns = subst (λ h. AreTurns new.sessions h last) (sym stays.events) (subst (λ n. AreTurns n old.events last) (sym stays.sessions) r.turns);
  opened = subst (λ h. AreAllOpened h new.sessions all) (sym stays.events) (subst (λ n. AreAllOpened old.events n all) (sym stays.sessions) r.opened);
  given = subst (λ h. AreKept h items) (sym stays.events) r.given;
}

pub view_after : (old new : Table) (now : Replayed) (e : Event) → view_of old ≡ now → GoesOn old new e → view_of new ≡ with_event now e
view_after old new now e view goes =
    ap (λ (h : List Event). the_view new.base new.sessions h) goes.events
    ∙ ap (λ (c : Counters). the_view c new.sessions (old.events ++ e ∷ [])) goes.base
    ∙ ap (λ (n : ℕ). the_view old.base n (old.events ++ e ∷ [])) goes.sessions
    ∙ ap (λ (r : Replayed). with_event r e) view
  where
    the_view : Counters → ℕ → List Event → Replayed
    the_view base sessions h = record { base = base; sessions = sessions; events = h }
