-- What a session's snapshot shows, by what it shows by itself and by what was read.
use Rattle.std.proofs.Common.{Bool, ◌≡◌, ℕ, ◌^◌, ◌<◌, ◌≤◌, List, Some, true, false, take, inr, sym, ap, subst, ◌∙◌, arith, Option}
use Rattle.std.proofs.lemmas.Option.{same_Some}
use Rattle.notes.specs.Lists.{Grows}
use Rattle.tx_events.specs.declared.event.Event.{Event}
use Rattle.tx_events.specs.declared.refusal.Refusal.{Refusal}
use Rattle.tx_events.specs.declared.event.By.{By}
use Rattle.tx_events.specs.IdLists.{Ascending}
use Rattle.tx_events.specs.Visible.{is_visible}
use Rattle.tx_events.proofs.PlaceLemmas.{take-grows}
use Rattle.tx_events.specs.Sights.{sight_by, top_sight_by}
use Rattle.tx_events.specs.declared.sight.Sight.{Sight}
use Rattle.tx_events.specs.declared.sight.Sight.TheVariants as sights
use Rattle.tx_core.specs.declared.entry.Entry.{Entry}
use Rattle.tx_core.specs.declared.entry.Start.{Start}
use Rattle.tx_core.specs.declared.entry.State.{State}
use Rattle.tx_core.specs.Entries.{history}
use Rattle.tx_core.specs.Verdict.{IsClimb, is_committed}
use Rattle.tx_core.proofs.Lasting.{history_grows}
use Rattle.session_levels.specs.declared.session.RegisteredSnapshot.{RegisteredSnapshot}
use Rattle.session_levels.specs.declared.session.Session as plain
use Rattle.session_levels.specs.Stands.{IsRegistered}
use Rattle.engine_parts.specs.declared.session.Session.{Session}
use Rattle.engine_parts.specs.Holds.{Knowledge}
use Rattle.engine_parts.specs.Sessions.{IsAt}
use Rattle.engine_parts.proofs.Answering.{few_before}
use Rattle.bank_sections.specs.Reads.{IsStateRead}
use Rattle.xact_reads.specs.declared.glances.Glance.{Glance}
use Rattle.xact_reads.specs.Glances.{HasGlanced, HasLimits, IsNamed, Shows}
use Rattle.bank_sections.specs.Faults.{IsSubtransFault}
use Rattle.xact_reads.specs.Readings.{IsCommittedIn, IsShown, IsTopOf, IsUnread}
use Rattle.xact_reads.proofs.Limits.{registered_limits}
use Rattle.xact_reads.proofs.Replying.{named_at}
use Rattle.xact_reads.proofs.Showing.{ascends, in_use, shown_asked, shown_hidden, shown_not, shown_read}
use Rattle.xact_reads.proofs.Sighting.{sight_below}

glance_of : (s : plain.Session) (name : List ℕ) (x : ℕ) (g : Glance) (k : RegisteredSnapshot) → HasGlanced s name x (Some g) → IsNamed s name k → Shows k.snapshot x g
glance_of s name x g k h named = subst (λ (z : RegisteredSnapshot). Shows z.snapshot x g) (same_Some h.registered k (sym h.named ∙ named)) h.glance

module _ (start : Start) (w : Knowledge) (n : ℕ) (s : Session) (name : List ℕ) (x : ℕ) (g : Glance) (a : IsAt start w n s) (h : HasGlanced s.levels name x (Some g)) where
  -- what is known of each snapshot of this name, of which there is one
  record Known (k : RegisteredSnapshot) (sight : Sight) : Type 0 where
    registered : IsRegistered start.base (history w.seen) n k
    ascend : Ascending k.snapshot.xip × Ascending k.snapshot.subxip
    shows : Shows k.snapshot x g
    sight_is : sight_by k.snapshot g.id true ≡ sight

  known : (k : RegisteredSnapshot) (sight : Sight) → IsNamed s.levels name k → g.sight ≡ sight → Known k sight
  known k sight named is =
      let r = (named_at start w n s name k a named).0 in
      let up = ascends start w.seen n k a.base a.kept r in
      let shows = glance_of s.levels name x g k h named in record { registered = r; ascend = up; shows = shows; sight_is = sym (shows.sight up.0 up.1) ∙ is }

  pub hides : g.sight ≡ sights.Hidden → IsShown start w.seen s.levels name g.id false
  hides is few old k named =
      let f = known k sights.Hidden named is in
      shown_hidden start w.seen n k a.base a.kept f.registered g.id f.shows.full old few a.before f.sight_is

  pub shows_state : (committed : Bool) → g.sight ≡ sights.Seen → IsCommittedIn start w.seen g.id committed → IsShown start w.seen s.levels name g.id committed
  shows_state committed is read few old k named =
      let f = known k sights.Seen named is in
      let r = f.registered in
      let full = f.shows.full in
      let below = sight_below k.snapshot g.id (λ q. not_hidden (sym f.sight_is ∙ q)) in
      let c = read (in_use start w.seen n k a.base a.kept r g.id full old few below) few in
      c.2 ∙ shown_read start w.seen n k a.base a.kept r g.id c.0 c.1 full old few f.sight_is
    where
      not_hidden : sights.Seen ≡ sights.Hidden → ⊥
      not_hidden e = cc

  not_asked : sights.AskParents ≡ sights.Hidden → ⊥
  not_asked e = cc

  pub shows_none : (committed : Bool) → g.sight ≡ sights.AskParents → IsCommittedIn start w.seen g.id committed → committed ≡ false → IsShown start w.seen s.levels name g.id false
  shows_none committed is read no_commit few old k named =
      let f = known k sights.AskParents named is in
      let r = f.registered in
      let full = f.shows.full in
      let below = sight_below k.snapshot g.id (λ q. not_asked (sym f.sight_is ∙ q)) in
      let c = read (in_use start w.seen n k a.base a.kept r g.id full old few below) few in
      shown_not start w.seen n k a.base a.kept r g.id c.0 c.1 full old few f.sight_is (sym c.2 ∙ no_commit)

  -- the limits of the climb
  pub climb_limits : g.sight ≡ sights.AskParents → (3 ≤ g.xmin) × (g.id < 2 ^ 63)
  climb_limits is =
      let k = h.registered in
      let f = known k sights.AskParents h.named is in
      let l : HasLimits k.snapshot = registered_limits start.base (history w.seen) n k a.base a.kept.events.legal f.registered in
      let below = sight_below k.snapshot g.id (λ q. not_asked (sym f.sight_is ∙ q)) in
      let xmin = f.shows.xmin in let from = l.xmin in let to = l.to in
      (omega arith, omega arith)

  pub shows_parents : (more : Knowledge) (committed answer : Bool) (topmost : ℕ) → IsAt start more n s → Grows w.seen more.seen → g.sight ≡ sights.AskParents → IsCommittedIn start w.seen g.id committed → committed ≡ true → IsTopOf start w.seen more.seen g.xmin g.id topmost
      → ((k : RegisteredSnapshot) → IsNamed s.levels name k → Ascending k.snapshot.xip → answer ≡ top_sight_by k.snapshot topmost) → IsShown start more.seen s.levels name g.id answer
  shows_parents more committed answer topmost b grows is read committed_is top says few old k named =
      let f = known k sights.AskParents named is in
      let r = f.registered in
      let full = f.shows.full in
      let below = sight_below k.snapshot g.id (λ q. not_asked (sym f.sight_is ∙ q)) in
      let few_then = few_before w.seen more.seen grows few in
      let used = in_use start w.seen n k a.base a.kept r g.id full old few_then below in
      let c = read used few_then in
      let t = top used few in
      let rest = history_grows w.seen more.seen grows in
      says k named f.ascend.0
      ∙ shown_asked start w.seen n k a.base a.kept r g.id c.0 c.1 full old few_then more.seen t.0 topmost b.kept grows f.sight_is (sym c.2 ∙ committed_is) (subst (λ z. IsClimb start w.seen more.seen z g.id t.0 topmost) f.shows.xmin t.1)
      ∙ ap (λ (l : List Event). is_visible start.committed l g.id) (sym (take-grows (history w.seen) rest.0 _ k.place r.taken) ∙ ap (λ (l : List Event). take k.place l) rest.1)

-- what the state says that was read
pub state_says : (start : Start) (lists : List (List Entry)) (x : ℕ) (state : Option State) (committed : Bool) → committed ≡ is_committed state → IsStateRead start lists x state → IsCommittedIn start lists x committed
state_says start lists x state committed says read used few = let s = read used few in (s.0, s.1, says ∙ ap is_committed s.2)

-- a fault of pg_subtrans
pub parent_unread : (start : Start) (lists : List (List Entry)) (by : By) (x : ℕ) (r : Refusal) → IsSubtransFault lists by r → IsUnread start lists by x r
parent_unread start lists by x r f = inr f
