-- A session stands as before where other sessions go on.
use Rattle.std.proofs.Common.{◌≡◌, ◌≢◌, ℕ, ◌≤◌, List, [], ◌∷◌, ◌++◌, inl, inr, refl, sym, ap, subst, ◌∙◌, ⊎_elim, Bool, true, false, not, cond, append-nil, append_assoc, ◌==◌, ◌&&◌, ◌||◌, nat_le, ne_eqb, eqb-true}
use Rattle.std.proofs.lemmas.Bool.{false≢true}
use Rattle.std.proofs.lemmas.List.Elements.{filter-append}
use Rattle.std.specs.List.{AllByRecursion, filter, list_any}
use Rattle.tx_events.specs.declared.event.Event.{Event}
use Rattle.tx_events.specs.declared.record.Counters.{Counters}
use Rattle.tx_events.specs.Events.{by_of, is_of, same_name, given, given_to}
use Rattle.tx_events.specs.Families.{lineage, is_top}
use Rattle.tx_events.specs.History.{IsLegal}
use Rattle.tx_events.specs.Horizon.{LiveSnap, is_live, is_snap_of, live_up}
use Rattle.tx_events.specs.Running.{is_open}
use Rattle.tx_events.specs.Savepoints.{is_inside}
use Rattle.tx_events.specs.Snapshots.{snapshot_data}
use Rattle.tx_events.proofs.Closing.{later}
use Rattle.tx_events.proofs.GivenIds.{given_to_given}
use Rattle.tx_events.proofs.HorizonSteps.{live_push}
use Rattle.tx_events.proofs.ListSteps.{list_any-push}
use Rattle.std.proofs.Math.Bool.{or-false}
use Rattle.tx_events.proofs.Membership.{Has, contains_has, has_filter}
use Rattle.tx_events.proofs.OpenIds.{open_rest}
use Rattle.tx_events.proofs.PlaceLemmas.{slice_get-grows, take-grows}
use Rattle.tx_events.proofs.Lineages.{top_line, enclosing_line}
use Rattle.session_levels.specs.declared.session.RegisteredSnapshot.{RegisteredSnapshot}
use Rattle.session_levels.specs.declared.session.Session.{Session}
use Rattle.session_levels.specs.Stands.{IsRegistered, IsSavepointIn, Nest, Stands}
use Rattle.tx_events.specs.declared.event.Event.TheVariants as events

-- each event is of another session
abbrev pub AreBeside : ℕ → List Event → Type 0
AreBeside session es = AllByRecursion (λ e. (by_of e).session ≢ session) es

pub beside_has : (session : ℕ) (es : List Event) → AreBeside session es → (e : Event) → Has es e → (by_of e).session ≢ session
beside_has session [] o e k = absurd k
beside_has session (f ∷ es) o e k =
    ⊎_elim (λ (q : f ≡ e). subst (λ (g : Event). (by_of g).session ≢ session) q o.0) (λ i. beside_has session es o.1 e i) k

none_beside : (session : ℕ) (es : List Event) → AreBeside session es → filter (is_of session) es ≡ []
none_beside session [] o = refl
none_beside session (e ∷ es) o =
    ap (λ b. cond b (e ∷ filter (is_of session) es) (filter (is_of session) es)) (ne_eqb (by_of e).session session o.0) ∙ none_beside session es o.1

-- what the session's own events are
pub own_beside : (session : ℕ) (h es : List Event) → AreBeside session es → filter (is_of session) (h ++ es) ≡ filter (is_of session) h
own_beside session h es o = filter-append (is_of session) h es ∙ ap (λ t. filter (is_of session) h ++ t) (none_beside session es o) ∙ append-nil (filter (is_of session) h)

-- a filter that keeps what the test finds
any_kept : {X : Type 0} (p q : X → Bool) → ((x : X) → p x ≡ true → q x ≡ true) → (xs : List X) → list_any p (filter q xs) ≡ list_any p xs
any_kept p q f [] = refl
any_kept p q f (x ∷ xs) = step (p x) (q x) refl refl (any_kept p q f xs)
  where
    step : (a b : Bool) → p x ≡ a → q x ≡ b → list_any p (filter q xs) ≡ list_any p xs → list_any p (cond b (x ∷ filter q xs) (filter q xs)) ≡ (p x || list_any p xs)
    step a true e g i = ap (λ z. p x || z) i
    step true false e g i = absurd (false≢true (sym g ∙ f x e))
    step false false e g i = i ∙ ap (λ z. z || list_any p xs) (sym e)

and_true : (a b : Bool) → (a && b) ≡ true → a ≡ true
and_true true b e = refl
and_true false b e = absurd (false≢true e)

-- a snapshot that another session drops is none of this one's
not_dropped : (session other : ℕ) (name dropped : List ℕ) (s : LiveSnap) → other ≢ session → is_snap_of session name s ≡ true → not (is_snap_of other dropped s) ≡ true
not_dropped session other name dropped s n e =
    let mine : s.session ≡ session = eqb-true s.session session (and_true (s.session == session) (same_name s.name name) e) in
    ap (λ b. not (b && same_name s.name dropped)) (ne_eqb s.session other (λ q. n (sym q ∙ mine)))

live_up_beside : (first session : ℕ) (name : List ℕ) (e : Event) (older : List Event) → (by_of e).session ≢ session → list_any (is_snap_of session name) (live_up first (e ∷ older)) ≡ list_any (is_snap_of session name) (live_up first older)
live_up_beside first session name (events.Snap taken by) older n =
    list_any-push (is_snap_of session name) (live_up first older) _
    ∙ ap (λ b. list_any (is_snap_of session name) (live_up first older) || (b && same_name taken name)) (ne_eqb by.session session n)
    ∙ or-false (list_any (is_snap_of session name) (live_up first older))
live_up_beside first session name (events.SnapDrop dropped by) older n =
    any_kept (is_snap_of session name) (λ s. not (is_snap_of by.session dropped s)) (λ s. not_dropped session by.session name dropped s n) (live_up first older)
live_up_beside first session name (events.Id by id) older n = refl
live_up_beside first session name (events.Sub by parent id) older n = refl
live_up_beside first session name (events.Undo by id) older n = refl
live_up_beside first session name (events.Commit by t) older n = refl
live_up_beside first session name (events.Abort by t) older n = refl
live_up_beside first session name (events.Oldest by oldest) older n = refl
live_up_beside first session name (events.Ask by id) older n = refl

-- which of its snapshots are live
live_beside : (first session : ℕ) (name : List ℕ) (h es : List Event) → AreBeside session es → is_live first session name (h ++ es) ≡ is_live first session name h
live_beside first session name h [] o = ap (is_live first session name) (append-nil h)
live_beside first session name h (e ∷ es) o =
    ap (is_live first session name) (sym (append_assoc h (e ∷ []) es))
    ∙ live_beside first session name (h ++ e ∷ []) es o.1
    ∙ ap (list_any (is_snap_of session name)) (live_push first h e)
    ∙ live_up_beside first session name e _ o.0

-- what holds of all members holds where it follows for members
all_members : {X : Type 0} (P Q : X → Type 0) (xs : List X) → ((x : X) → Has xs x → P x → Q x) → AllByRecursion P xs → AllByRecursion Q xs
all_members P Q [] f a = tt
all_members P Q (x ∷ xs) f a = (f x (inl refl) a.0, all_members P Q xs (λ y k. f y (inr k)) a.1)

is_top_by : (h h' : List Event) (x : ℕ) → lineage h' x ≡ lineage h x → is_top h' x ≡ is_top h x
is_top_by h h' x same = ap (λ (l : List ℕ). top_line l x == x) same

inside_by : (h h' : List Event) (id x : ℕ) → lineage h' x ≡ lineage h x → is_inside h' id x ≡ is_inside h id x
inside_by h h' id x same = ap (λ (l : List ℕ). list_any (λ y. id == y) (enclosing_line l)) same

-- the levels lie in the same way where the families of the open ids are the same
nest_by : (h h' : List Event) (ids named : List ℕ) → ((x : ℕ) → Has ids x → lineage h' x ≡ lineage h x) → Nest h ids named → Nest h' ids named
nest_by h h' ids [] same n = n
nest_by h h' ids (top ∷ savepoints) same n = (
  n.0,
  n.1,
  is_top_by h h' top (same top (subst (λ t. Has t top) (sym n.1) (inl refl))) ∙ n.2,
  all_members (IsSavepointIn h ids) (IsSavepointIn h' ids) savepoints (λ id k s. (
    s.0,
    is_top_by h h' id (same id (contains_has ids id s.0)) ∙ s.1,
    all_members (λ x. is_inside h id x ≡ nat_le id x) (λ x. is_inside h' id x ≡ nat_le id x) ids (λ x j e. inside_by h h' id x (same x j) ∙ e) s.2,
  )) n.3,
  n.4,
)

kept_grows : (base : Counters) (h es : List Event) (session : ℕ) (k : RegisteredSnapshot) → IsRegistered base h session k → IsRegistered base (h ++ es) session k
kept_grows base h es session k i = record {
  taken = slice_get-grows h es _ k.place i.taken;
  holds = i.holds ∙ ap (snapshot_data base.next) (sym (take-grows h es _ k.place i.taken));
}

-- a session stands as before where the history grows by events of others
pub stands_beside : (base : Counters) (h es : List Event) (session n : ℕ) (s : Session) → IsLegal base h → IsLegal base (h ++ es) → AreBeside session es → Stands base h session n s → Stands base (h ++ es) session n s
stands_beside base h es session n s legal more o st = record {
  opened = open_rest base session h es more (beside_has session es o) ∙ st.opened;
  ascend = st.ascend;
  nest = nest_by h (h ++ es) s.open_ids.items s.level_ids.items (λ x k. (later base h es more x (is_given x k)).line) st.nest;
  depth = st.depth;
  turn = subst (AllByRecursion (λ e. (by_of e).command ≤ n)) (sym (own_beside session h es o)) st.turn;
  live = λ name. live_beside base.next session name h es o ∙ st.live name;
  snaps = all_members (IsRegistered base h session) (IsRegistered base (h ++ es) session) s.registered.items (λ k j i. kept_grows base h es session k i) st.snaps;
}
  where
    is_given : (x : ℕ) → Has s.open_ids.items x → Has (given h) x
    is_given x k = given_to_given session h x (has_filter (is_open h) (given_to session h) x (subst (λ t. Has t x) (sym st.opened) k)).0
