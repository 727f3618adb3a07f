-- How a session stands, after it took or dropped a snapshot.
use Rattle.std.proofs.Math.Seq.{take-append_seam}
use Rattle.tx_events.proofs.Names.{same_name_equal}
use Rattle.std.proofs.Common.{◌≡◌, ℕ, List, [], ◌∷◌, ◌++◌, length, take, refl, ap, sym, ◌∙◌, subst, Bool, true, false, not, cond, ◌==◌, ◌&&◌, ◌||◌, reverse, nat_le}
use Rattle.std.specs.List.{filter, AllByRecursion, list_any}
use Rattle.std.proofs.lemmas.Bool.{false≢true}
use Rattle.tx_events.specs.declared.event.By.{By}
use Rattle.tx_events.specs.declared.event.Event.{Event}
use Rattle.tx_events.specs.declared.record.Counters.{Counters}
use Rattle.tx_events.specs.Events.{by_of, same_name}
use Rattle.tx_events.specs.Horizon.{LiveSnap, is_live, is_snap_of, live_up, live_snaps}
use Rattle.tx_events.specs.Savepoints.{is_inside}
use Rattle.tx_events.specs.Snapshots.{snapshot_data}
use Rattle.tx_events.proofs.HorizonSteps.{live_push}
use Rattle.tx_events.proofs.ListSteps.{eqb-refl, list_any-push, all_push, all_filter, all_weaker}
use Rattle.tx_events.proofs.Lineages.{top_kept, enclosing_kept}
use Rattle.tx_events.proofs.PlaceLemmas.{last_at}
use Rattle.tx_events.proofs.QuietGrowth.{quiet_open_ids, quiet_family, IsQuiet}
use Rattle.session_levels.specs.declared.session.RegisteredSnapshot.{RegisteredSnapshot}
use Rattle.session_levels.specs.Stands.{Nest, IsRegistered, IsSavepointIn}
use Rattle.session_levels.proofs.StandsLemmas.{Stood, kept_grows, turn_push}
use Rattle.tx_events.specs.declared.event.Event.TheVariants as events

quiet_savepoint : (h : List Event) (e : Event) (opened : List ℕ) (x : ℕ) → IsQuiet e → IsSavepointIn h opened x → IsSavepointIn (h ++ e ∷ []) opened x
quiet_savepoint h e opened x q s = (
  s.0,
  ap (λ t. t == x) (top_kept h e x (quiet_family h e x q)) ∙ s.1,
  all_weaker (λ y. is_inside h x y ≡ nat_le x y) (λ y. is_inside (h ++ e ∷ []) x y ≡ nat_le x y) (λ y i. ap (list_any (λ z. x == z)) (enclosing_kept h e y (quiet_family h e y q)) ∙ i) opened s.2,
)

-- an event that gives and closes nothing
pub nest_quiet : (h : List Event) (e : Event) (opened named : List ℕ) → IsQuiet e → Nest h opened named → Nest (h ++ e ∷ []) opened named
nest_quiet h e opened [] q n = n
nest_quiet h e opened (t ∷ ids) q n = (
  n.0,
  n.1,
  ap (λ u. u == t) (top_kept h e t (quiet_family h e t q)) ∙ n.2,
  all_weaker (IsSavepointIn h opened) (IsSavepointIn (h ++ e ∷ []) opened) (λ x s. quiet_savepoint h e opened x q s) ids n.3,
  n.4,
)

stood_quiet : (base : Counters) (h : List Event) (by : By) (e : Event) (opened named : List ℕ) (unnamed : ℕ) (registered registered' : List RegisteredSnapshot) → IsQuiet e → by_of e ≡ by →
    ((name : List ℕ) → is_live base.next by.session name (h ++ e ∷ []) ≡ list_any (λ k. same_name k.name name) registered') → AllByRecursion (IsRegistered base (h ++ e ∷ []) by.session) registered' →
    Stood base h by.session by.command opened named unnamed registered → Stood base (h ++ e ∷ []) by.session by.command opened named unnamed registered'
stood_quiet base h by e opened named unnamed registered registered' q own live snaps s = record {
  opened_are = quiet_open_ids by.session h e q ∙ s.opened_are;
  ascend = s.ascend;
  nest = nest_quiet h e opened named q s.nest;
  depth = s.depth;
  turn = turn_push by h e own s.turn;
  live = live;
  snaps = snaps;
}

-- a session that takes a snapshot
pub stood_snapped : (base : Counters) (h : List Event) (by : By) (opened named : List ℕ) (unnamed : ℕ) (registered : List RegisteredSnapshot) (k : RegisteredSnapshot) → k.command ≡ by.command → k.place ≡ length h → k.snapshot ≡ snapshot_data base.next h →
    Stood base h by.session by.command opened named unnamed registered → Stood base (h ++ events.Snap k.name by ∷ []) by.session by.command opened named unnamed (registered ++ k ∷ [])
stood_snapped base h by opened named unnamed registered k c p d s =
    let e : Event = events.Snap k.name by in
    stood_quiet base h by e opened named unnamed registered (registered ++ k ∷ []) tt refl
    (λ name. ap (list_any (is_snap_of by.session name)) (live_push base.next h e)
    ∙ list_any-push (is_snap_of by.session name) (live_up base.next (reverse h)) _
    ∙ ap (λ b. b || ((by.session == by.session) && same_name k.name name)) (s.live name)
    ∙ ap (λ b. list_any (λ j. same_name j.name name) registered || (b && same_name k.name name)) (eqb-refl by.session)
    ∙ sym (list_any-push (λ j. same_name j.name name) registered k))
    (all_push (IsRegistered base (h ++ e ∷ []) by.session) registered k (kept_grows base h (e ∷ []) by.session registered s.snaps)
    (record {
      taken = rw (p, c) (last_at h e);
      holds = d ∙ ap (snapshot_data base.next) (sym (ap (λ n. take n (h ++ e ∷ [])) p ∙ take-append_seam h (e ∷ [])));
    }))
    s

-- a test on what a filter leaves
any_dropped : {X : Type 0} (p q : X → Bool) (xs : List X) → ((x : X) → p x ≡ true → q x ≡ false) → list_any p (filter (λ x. not (q x)) xs) ≡ list_any p xs
any_dropped p q [] f = refl
any_dropped p q (x ∷ xs) f = one (q x) refl (any_dropped p q xs f)
  where
    one : (c : Bool) → q x ≡ c → list_any p (filter (λ y. not (q y)) xs) ≡ list_any p xs → list_any p (cond (not c) (x ∷ filter (λ y. not (q y)) xs) (filter (λ y. not (q y)) xs)) ≡ (p x || list_any p xs)
    one false e g = ap (λ b. p x || b) g
    one true e g = two (p x) refl
      where
        two : (d : Bool) → p x ≡ d → list_any p (filter (λ y. not (q y)) xs) ≡ (d || list_any p xs)
        two false i = g
        two true i = absurd (false≢true (sym (f x i) ∙ e))

any_gone : {X : Type 0} (p : X → Bool) (xs : List X) → list_any p (filter (λ x. not (p x)) xs) ≡ false
any_gone p [] = refl
any_gone p (x ∷ xs) = one (p x) refl (any_gone p xs)
  where
    one : (c : Bool) → p x ≡ c → list_any p (filter (λ y. not (p y)) xs) ≡ false → list_any p (cond (not c) (x ∷ filter (λ y. not (p y)) xs) (filter (λ y. not (p y)) xs)) ≡ false
    one true e rest = rest
    one false e rest = ap (λ b. b || list_any p (filter (λ y. not (p y)) xs)) e ∙ rest

other_name : (a name other : List ℕ) → same_name name other ≡ false → same_name a other ≡ true → same_name a name ≡ false
other_name a name other f t = one (same_name a name) refl
  where
    one : (b : Bool) → same_name a name ≡ b → b ≡ false
    one false e = refl
    one true e = absurd (false≢true (sym f ∙ ap (λ n. same_name n other) (sym (same_name_equal a name e)) ∙ t))

other_snap : (session : ℕ) (name other : List ℕ) (l : LiveSnap) → same_name name other ≡ false → is_snap_of session other l ≡ true → is_snap_of session name l ≡ false
other_snap session name other l f t = one (l.session == session) t
  where
    one : (b : Bool) → (b && same_name l.name other) ≡ true → (b && same_name l.name name) ≡ false
    one true e = other_name l.name name other f e
    one false e = refl

live_dropped : (first : ℕ) (h : List Event) (by : By) (name other : List ℕ) (registered : List RegisteredSnapshot) → ((n : List ℕ) → is_live first by.session n h ≡ list_any (λ k. same_name k.name n) registered) →
    is_live first by.session other (h ++ events.SnapDrop name by ∷ []) ≡ list_any (λ k. same_name k.name other) (filter (λ k. not (same_name k.name name)) registered)
live_dropped first h by name other registered live = ap (list_any (is_snap_of by.session other)) (live_push first h (events.SnapDrop name by)) ∙ one (same_name name other) refl
  where
    one : (b : Bool) → same_name name other ≡ b →
        list_any (is_snap_of by.session other) (filter (λ l. not (is_snap_of by.session name l)) (live_snaps first h)) ≡ list_any (λ k. same_name k.name other) (filter (λ k. not (same_name k.name name)) registered)
    one true e = subst (λ o. list_any (is_snap_of by.session o) (filter (λ l. not (is_snap_of by.session name l)) (live_snaps first h)) ≡ list_any (λ k. same_name k.name o) (filter (λ k. not (same_name k.name name)) registered)) (same_name_equal name other e)
        (any_gone (is_snap_of by.session name) (live_snaps first h) ∙ sym (any_gone (λ k. same_name k.name name) registered))
    one false e = any_dropped (is_snap_of by.session other) (is_snap_of by.session name) (live_snaps first h) (λ l t. other_snap by.session name other l e t)
        ∙ live other
        ∙ sym (any_dropped (λ k. same_name k.name other) (λ k. same_name k.name name) registered (λ k t. other_name k.name name other e t))

-- a session that drops one
pub stood_dropped : (base : Counters) (h : List Event) (by : By) (name : List ℕ) (opened named : List ℕ) (unnamed : ℕ) (registered : List RegisteredSnapshot) →
    Stood base h by.session by.command opened named unnamed registered → Stood base (h ++ events.SnapDrop name by ∷ []) by.session by.command opened named unnamed (filter (λ k. not (same_name k.name name)) registered)
stood_dropped base h by name opened named unnamed registered s =
    let e : Event = events.SnapDrop name by in
    stood_quiet base h by e opened named unnamed registered (filter (λ k. not (same_name k.name name)) registered) tt refl
    (λ other. live_dropped base.next h by name other registered s.live)
    (all_filter (IsRegistered base (h ++ e ∷ []) by.session) (λ k. not (same_name k.name name)) registered (kept_grows base h (e ∷ []) by.session registered s.snaps))
    s

-- a session that asks for the status of an id
pub stood_asked : (base : Counters) (h : List Event) (by : By) (x : ℕ) (opened named : List ℕ) (unnamed : ℕ) (registered : List RegisteredSnapshot) →
    Stood base h by.session by.command opened named unnamed registered → Stood base (h ++ events.Ask by x ∷ []) by.session by.command opened named unnamed registered
stood_asked base h by x opened named unnamed registered s =
    let e : Event = events.Ask by x in
    stood_quiet base h by e opened named unnamed registered registered tt refl
    (λ name. ap (list_any (is_snap_of by.session name)) (live_push base.next h e) ∙ s.live name)
    (kept_grows base h (e ∷ []) by.session registered s.snaps)
    s

-- a session that announces the oldest id
pub stood_announced : (base : Counters) (h : List Event) (by : By) (oldest : ℕ) (opened named : List ℕ) (unnamed : ℕ) (registered : List RegisteredSnapshot) →
    Stood base h by.session by.command opened named unnamed registered → Stood base (h ++ events.Oldest by oldest ∷ []) by.session by.command opened named unnamed registered
stood_announced base h by oldest opened named unnamed registered s =
    let e : Event = events.Oldest by oldest in
    stood_quiet base h by e opened named unnamed registered registered tt refl
    (λ name. ap (list_any (is_snap_of by.session name)) (live_push base.next h e) ∙ s.live name)
    (kept_grows base h (e ∷ []) by.session registered s.snaps)
    s
