-- How a session stands, after one more event of its own.
use Rattle.std.proofs.lemmas.Bool.{lt-leb}
use Rattle.std.proofs.Common.{◌≡◌, ℕ, suc, ◌+◌, ◌<◌, ◌≤◌, List, [], ◌∷◌, ◌++◌, length, take, refl, ap, sym, ◌∙◌, arith, subst, Bool, true, false, not, cond, ◌==◌, ◌||◌, reverse, Some, nat_le, inl, eqb-true, le-leb}
use Rattle.std.specs.List.{filter, AllByRecursion, list_any}
use Rattle.std.proofs.lemmas.List.Elements.{filter-append, Contains-append_left, Contains-push}
use Rattle.tx_events.specs.declared.event.By.{By}
use Rattle.tx_events.specs.declared.event.Event.{Event}
use Rattle.tx_events.specs.declared.record.Counters.{Counters}
use Rattle.tx_events.specs.Events.{by_of, is_of, same_name}
use Rattle.tx_events.specs.Families.{top, is_top, enclosing}
use Rattle.tx_events.specs.History.{IsLegal, MayCome}
use Rattle.tx_events.specs.Horizon.{is_live, is_snap_of, live_up}
use Rattle.tx_events.specs.IdLists.{Ascending, has}
use Rattle.tx_model.specs.Replies.{most_levels}
use Rattle.tx_events.specs.Running.{open_ids, is_open}
use Rattle.tx_events.specs.Savepoints.{is_inside}
use Rattle.tx_events.specs.Snapshots.{snapshot_data}
use Rattle.tx_events.proofs.Closing.{one_top}
use Rattle.tx_events.proofs.ClosingGrowth.{IsClosing, closing_open_ids, closing_undo, closing_commit, closing_abort}
use Rattle.tx_events.proofs.HorizonSteps.{live_push}
use Rattle.tx_events.proofs.IdListSteps.{all_has, contains_true, ascending_push, ascending_filtered}
use Rattle.tx_events.proofs.Soundness.{legal_sound, open_member}
use Rattle.tx_events.proofs.ListSteps.{eqb-refl, below_not, all_push, all_filter, all_weaker, filter_agree_where, length_push, both_all}
use Rattle.tx_events.proofs.Membership.{Has, contains_has, has_contains as has-contains, filter_has, filter_none_on}
use Rattle.tx_events.proofs.NameBounds.{AreBelow, fresh_top, given_to_below, not_inside}
use Rattle.tx_events.proofs.Lineages.{enclosing_sub, family_kept, top_kept, enclosing_kept}
use Rattle.tx_events.proofs.PlaceLemmas.{slice_get-grows, take-grows}
use Rattle.tx_events.proofs.GivingGrowth.{giving_open_ids, giving_id, id_family, sub_family, sub_is_no_top, giving_sub}
use Rattle.tx_events.specs.declared.xact_end.XactEnd.{XactEnd}
use Rattle.tx_events.specs.declared.xact_end.XactEnd.TheVariants as ends
use Rattle.tx_events.specs.XactEnds.{end_event}
use Rattle.session_levels.specs.declared.session.RegisteredSnapshot.{RegisteredSnapshot}
use Rattle.session_levels.specs.declared.session.Session.{Session}
use Rattle.session_levels.specs.Acts.{IsInTurn}
use Rattle.session_levels.specs.Stands.{last_of}
use Rattle.session_levels.specs.Stands.{Stands, Nest, IsRegistered, IsSavepointIn}
use Rattle.session_levels.proofs.CutLemmas.{last_apart}
use Rattle.tx_events.specs.declared.event.Event.TheVariants as events

-- the same of the parts of a session
pub record Stood (base : Counters) (h : List Event) (session number : ℕ) (opened named : List ℕ) (unnamed : ℕ) (registered : List RegisteredSnapshot) : Type 0 where
  pub opened_are : open_ids session h ≡ opened
  pub ascend : Ascending opened
  pub nest : Nest h opened named
  pub depth : length named + unnamed ≤ most_levels
  pub turn : AllByRecursion (λ e. (by_of e).command ≤ number) (filter (is_of session) h)
  pub live : (name : List ℕ) → is_live base.next session name h ≡ list_any (λ k. same_name k.name name) registered
  pub snaps : AllByRecursion (IsRegistered base h session) registered

pub stood : (base : Counters) (h : List Event) (session number : ℕ) (s : Session) → Stands base h session number s → Stood base h session number s.open_ids.items s.level_ids.items s.unnamed s.registered.items
stood base h session number s k = record { opened_are = k.opened; ascend = k.ascend; nest = k.nest; depth = k.depth; turn = k.turn; live = k.live; snaps = k.snaps }

pub stands : (base : Counters) (h : List Event) (session number : ℕ) (s : Session) → Stood base h session number s.open_ids.items s.level_ids.items s.unnamed s.registered.items → Stands base h session number s
stands base h session number s k = record { opened = k.opened_are; ascend = k.ascend; nest = k.nest; depth = k.depth; turn = k.turn; live = k.live; snaps = k.snaps }

-- its levels changed alone
pub stood_levels : (base : Counters) (h : List Event) (session number : ℕ) (opened named named' : List ℕ) (unnamed unnamed' : ℕ) (registered : List RegisteredSnapshot) → Nest h opened named' → length named' + unnamed' ≤ most_levels →
    Stood base h session number opened named unnamed registered → Stood base h session number opened named' unnamed' registered
stood_levels base h session number opened named named' unnamed unnamed' registered n d s = record { opened_are = s.opened_are; ascend = s.ascend; nest = n; depth = d; turn = s.turn; live = s.live; snaps = s.snaps }

all_front : {X : Type 0} (P : X → Type 0) (xs ys : List X) → AllByRecursion P (xs ++ ys) → AllByRecursion P xs
all_front P [] ys a = tt
all_front P (x ∷ xs) ys a = (a.0, all_front P xs ys a.1)

all_back : {X : Type 0} (P : X → Type 0) (xs ys : List X) → AllByRecursion P (xs ++ ys) → AllByRecursion P ys
all_back P [] ys a = a
all_back P (x ∷ xs) ys a = all_back P xs ys a.1

ascending_front : (xs ys : List ℕ) → Ascending (xs ++ ys) → Ascending xs
ascending_front [] ys a = tt
ascending_front (x ∷ xs) ys a = (all_front (λ y. x < y) xs ys a.0, ascending_front xs ys a.1)

-- each of the ids is below the last one
below_last : (xs : List ℕ) (x : ℕ) → Ascending (xs ++ x ∷ []) → AllByRecursion (λ y. y < x) xs
below_last [] x a = tt
below_last (y ∷ xs) x a = ((all_back (λ z. y < z) xs (x ∷ []) a.0).0, below_last xs x a.1)

pub nest_front : (h : List Event) (opened ids : List ℕ) (id : ℕ) → 1 ≤ length ids → Nest h opened (ids ++ id ∷ []) → Nest h opened ids
nest_front h opened [] id l n = absurd (omega arith)
nest_front h opened (t ∷ ids) id l n = (n.0, n.1, n.2, all_front (IsSavepointIn h opened) ids (id ∷ []) n.3, ascending_front (t ∷ ids) (id ∷ []) n.4)

-- an event that takes and drops no snapshot
live_quiet : (first s : ℕ) (name : List ℕ) (h : List Event) (e : Event) → live_up first (e ∷ reverse h) ≡ live_up first (reverse h) → is_live first s name (h ++ e ∷ []) ≡ is_live first s name h
live_quiet first s name h e q = ap (list_any (is_snap_of s name)) (live_push first h e ∙ q)

pub kept_grows : (base : Counters) (h es : List Event) (session : ℕ) (ks : List RegisteredSnapshot) → AllByRecursion (IsRegistered base h session) ks → AllByRecursion (IsRegistered base (h ++ es) session) ks
kept_grows base h es session ks a =
    all_weaker (IsRegistered base h session) (IsRegistered base (h ++ es) session)
    (λ k i. record {
      taken = slice_get-grows h es _ k.place i.taken;
      holds = i.holds ∙ ap (snapshot_data base.next) (sym (take-grows h es _ k.place i.taken));
    })
    ks a

pub turn_push : (by : By) (h : List Event) (e : Event) → by_of e ≡ by → IsInTurn by h → IsInTurn by (h ++ e ∷ [])
turn_push by h e own t =
    subst (AllByRecursion (λ f. (by_of f).command ≤ by.command)) (sym (filter-append (is_of by.session) h (e ∷ [])))
    (both_all (λ f. (by_of f).command ≤ by.command) (filter (is_of by.session) h) (filter (is_of by.session) (e ∷ [])) t (last (is_of by.session e)))
  where
    last : (b : Bool) → AllByRecursion (λ f. (by_of f).command ≤ by.command) (cond b (e ∷ []) [])
    last true = (omega (arith, ap (λ (x : By). x.command) own), tt)
    last false = tt

-- a transaction that is given its id
pub stood_id : (base : Counters) (h : List Event) (by : By) (id unnamed unnamed' : ℕ) (registered : List RegisteredSnapshot) → IsLegal base h → MayCome base h (events.Id by id) → unnamed' + 1 ≡ unnamed →
    Stood base h by.session by.command [] [] unnamed registered → Stood base (h ++ events.Id by id ∷ []) by.session by.command (id ∷ []) (id ∷ []) unnamed' registered
stood_id base h by id unnamed unnamed' registered legal may u s =
    let under : AreBelow id h = subst (λ t. AreBelow t h) (sym may.0.next) (legal_sound base h legal).below in
    record {
      opened_are = giving_open_ids by.session h (events.Id by id) id (giving_id h by id under) ∙ ap (λ l. l ++ cond (by.session == by.session) (id ∷ []) []) s.opened_are ∙ ap (λ b. cond b (id ∷ []) []) (eqb-refl by.session);
      ascend = (tt, tt);
      nest = ([], refl, ap (λ t. t == id) ((top_kept h (events.Id by id) id (id_family h by id id)) ∙ fresh_top id h under) ∙ eqb-refl id, tt, (tt, tt));
      depth = omega (arith, s.depth);
      turn = turn_push by h (events.Id by id) refl s.turn;
      live = λ name. live_quiet base.next by.session name h (events.Id by id) refl ∙ s.live name;
      snaps = kept_grows base h (events.Id by id ∷ []) by.session registered s.snaps;
    }

-- the last of ascending ids is the greatest
up_to_last : (xs : List ℕ) (p : ℕ) → Ascending xs → last_of xs ≡ Some p → AllByRecursion (λ x. x ≤ p) xs
up_to_last [] p a e = absurd cc
up_to_last (x ∷ []) p a e = let q : x ≡ p = cc in (omega arith, tt)
up_to_last (x ∷ (y ∷ xs)) p a e = let k : AllByRecursion (λ z. z ≤ p) (y ∷ xs) = up_to_last (y ∷ xs) p a.1 e in (omega (arith, k.0, a.0.0), k)

last_open : (h : List Event) (opened savepoints : List ℕ) (t p : ℕ) → has opened t ≡ true → AllByRecursion (IsSavepointIn h opened) savepoints → last_of (t ∷ savepoints) ≡ Some p → has opened p ≡ true
last_open h opened [] t p o a e = let q : t ≡ p = cc in subst (λ z. has opened z ≡ true) q o
last_open h opened (x ∷ xs) t p o a e = last_open h opened xs x p (contains_true opened x a.0.0) a.1 e

head_had : (opened rest : List ℕ) (t : ℕ) → opened ≡ t ∷ rest → has opened t ≡ true
head_had opened rest t e = subst (λ l. has l t ≡ true) (sym e) (ap (λ b. b || has rest t) (eqb-refl t))

pub parent_open : (h : List Event) (opened named : List ℕ) (p : ℕ) → Nest h opened named → last_of named ≡ Some p → has opened p ≡ true
parent_open h opened [] p n e = absurd cc
parent_open h opened (t ∷ ids) p n e = last_open h opened ids t p (head_had opened n.0 t n.1) n.3 e

savepoint_after : (h : List Event) (by : By) (parent id : ℕ) (opened : List ℕ) (x : ℕ) → AllByRecursion (λ y. y < id) opened → has opened parent ≡ true → x ≤ parent → IsSavepointIn h opened x →
    IsSavepointIn (h ++ events.Sub by parent id ∷ []) (opened ++ id ∷ []) x
savepoint_after h by parent id opened x below p l s =
    let e : Event = events.Sub by parent id in
    let x_below : x < id = all_has (λ y. y < id) opened x below (contains_true opened x s.0) in
    let own : is_inside (h ++ e ∷ []) x id ≡ nat_le x id =
    ap (list_any (λ y. x == y)) (enclosing_sub h by parent id id ∙ ap (λ b. cond b (id ∷ enclosing h parent) (enclosing h id)) (eqb-refl id))
    ∙ ap (λ b. b || is_inside h x parent) (below_not x id x_below)
    ∙ all_has (λ y. is_inside h x y ≡ nat_le x y) opened parent s.2 p
    ∙ le-leb x parent l
    ∙ sym (le-leb x id (omega arith)) in (
      Contains-append_left opened (id ∷ []) x s.0,
      ap (λ t. t == x) (top_kept h (events.Sub by parent id) x (sub_family h by parent id x x_below)) ∙ s.1,
      all_push (λ y. is_inside (h ++ e ∷ []) x y ≡ nat_le x y) opened id (old opened below s.2) own,
    )
  where
    old : (ys : List ℕ) → AllByRecursion (λ y. y < id) ys → AllByRecursion (λ y. is_inside h x y ≡ nat_le x y) ys → AllByRecursion (λ y. is_inside (h ++ events.Sub by parent id ∷ []) x y ≡ nat_le x y) ys
    old [] b a = tt
    old (y ∷ ys) b a = (ap (list_any (λ z. x == z)) (enclosing_kept h (events.Sub by parent id) y (sub_family h by parent id y b.0)) ∙ a.0, old ys b.1 a.1)

savepoint_new : (h : List Event) (by : By) (parent id : ℕ) (opened : List ℕ) → AreBelow id h → AllByRecursion (λ y. y < id) opened → parent < id → IsSavepointIn (h ++ events.Sub by parent id ∷ []) (opened ++ id ∷ []) id
savepoint_new h by parent id opened under below l =
    let e : Event = events.Sub by parent id in
    let own : is_inside (h ++ e ∷ []) id id ≡ nat_le id id =
    ap (list_any (λ y. id == y)) (enclosing_sub h by parent id id ∙ ap (λ b. cond b (id ∷ enclosing h parent) (enclosing h id)) (eqb-refl id))
    ∙ ap (λ b. b || is_inside h id parent) (eqb-refl id)
    ∙ sym (le-leb id id (omega arith)) in (
      Contains-push opened id,
      sub_is_no_top h by parent id under l,
      all_push (λ y. is_inside (h ++ e ∷ []) id y ≡ nat_le id y) opened id (old opened below) own,
    )
  where
    old : (ys : List ℕ) → AllByRecursion (λ y. y < id) ys → AllByRecursion (λ y. is_inside (h ++ events.Sub by parent id ∷ []) id y ≡ nat_le id y) ys
    old [] b = tt
    old (y ∷ ys) b = (ap (list_any (λ z. id == z)) (enclosing_kept h (events.Sub by parent id) y (sub_family h by parent id y b.0)) ∙ not_inside id y h under ∙ sym (lt-leb id y b.0), old ys b.1)

nest_sub : (h : List Event) (by : By) (parent id : ℕ) (opened named : List ℕ) → AreBelow id h → AllByRecursion (λ y. y < id) opened → last_of named ≡ Some parent → Nest h opened named →
    Nest (h ++ events.Sub by parent id ∷ []) (opened ++ id ∷ []) (named ++ id ∷ [])
nest_sub h by parent id opened [] under below e n = absurd cc
nest_sub h by parent id opened (t ∷ ids) under below e n =
    let open_parent : has opened parent ≡ true = parent_open h opened (t ∷ ids) parent n e in
    let parent_below : parent < id = all_has (λ y. y < id) opened parent below open_parent in
    let top_below : t < id = all_has (λ y. y < id) opened t below (head_had opened n.0 t n.1) in
    let up : AllByRecursion (λ x. x ≤ parent) (t ∷ ids) = up_to_last (t ∷ ids) parent n.4 e in (
      n.0 ++ id ∷ [],
      ap (λ l. l ++ id ∷ []) n.1,
      ap (λ u. u == t) (top_kept h (events.Sub by parent id) t (sub_family h by parent id t top_below)) ∙ n.2,
      all_push (IsSavepointIn (h ++ events.Sub by parent id ∷ []) (opened ++ id ∷ [])) ids id (olds ids open_parent up.1 n.3) (savepoint_new h by parent id opened under below parent_below),
      ascending_push (t ∷ ids) id n.4 (all_weaker (λ x. x ≤ parent) (λ x. x < id) (λ x l. omega arith) (t ∷ ids) up),
    )
  where
    olds : (xs : List ℕ) → has opened parent ≡ true → AllByRecursion (λ x. x ≤ parent) xs → AllByRecursion (IsSavepointIn h opened) xs → AllByRecursion (IsSavepointIn (h ++ events.Sub by parent id ∷ []) (opened ++ id ∷ [])) xs
    olds [] o u a = tt
    olds (x ∷ xs) o u a = (savepoint_after h by parent id opened x below o u.0 a.0, olds xs o u.1 a.1)

-- a savepoint that is given its id
pub stood_sub : (base : Counters) (h : List Event) (by : By) (parent id unnamed unnamed' : ℕ) (opened named : List ℕ) (registered : List RegisteredSnapshot) → IsLegal base h → MayCome base h (events.Sub by parent id) → last_of named ≡ Some parent → unnamed' + 1 ≡ unnamed →
    Stood base h by.session by.command opened named unnamed registered → Stood base (h ++ events.Sub by parent id ∷ []) by.session by.command (opened ++ id ∷ []) (named ++ id ∷ []) unnamed' registered
stood_sub base h by parent id unnamed unnamed' opened named registered legal may last u s =
    let e : Event = events.Sub by parent id in
    let under : AreBelow id h = subst (λ t. AreBelow t h) (sym may.0.next) (legal_sound base h legal).below in
    let below : AllByRecursion (λ y. y < id) opened = subst (AllByRecursion (λ y. y < id)) s.opened_are (all_filter (λ y. y < id) (is_open h) _ (given_to_below id by.session h under)) in
    let is : is_open h parent ≡ true = (open_member by.session h parent (contains_true (open_ids by.session h) parent may.1)).1 in
    record {
      opened_are = giving_open_ids by.session h (events.Sub by parent id) id (giving_sub h by parent id under is) ∙ ap (λ l. l ++ cond (by.session == by.session) (id ∷ []) []) s.opened_are ∙ ap (λ b. opened ++ cond b (id ∷ []) []) (eqb-refl by.session);
      ascend = ascending_push opened id s.ascend below;
      nest = nest_sub h by parent id opened named under below last s.nest;
      depth = omega (arith, s.depth, length_push named id);
      turn = turn_push by h e refl s.turn;
      live = λ name. live_quiet base.next by.session name h e refl ∙ s.live name;
      snaps = kept_grows base h (e ∷ []) by.session registered s.snaps;
    }

-- the ids in a savepoint that has an id are the open ones from it on
pub inside_from : (h : List Event) (opened : List ℕ) (id : ℕ) → IsSavepointIn h opened id → filter (is_inside h id) opened ≡ filter (λ x. nat_le id x) opened
inside_from h opened id s = filter_agree_where (λ x. is_inside h id x ≡ nat_le id x) (is_inside h id) (λ x. nat_le id x) (λ x e. e) opened s.2

outside_before : (h : List Event) (opened : List ℕ) (id : ℕ) → IsSavepointIn h opened id → filter (λ x. not (is_inside h id x)) opened ≡ filter (λ x. not (nat_le id x)) opened
outside_before h opened id s = filter_agree_where (λ x. is_inside h id x ≡ nat_le id x) (λ x. not (is_inside h id x)) (λ x. not (nat_le id x)) (λ x e. ap not e) opened s.2

pub last_savepoint : (h : List Event) (opened ids : List ℕ) (id : ℕ) → 1 ≤ length ids → Nest h opened (ids ++ id ∷ []) → IsSavepointIn h opened id
last_savepoint h opened [] id l n = absurd (omega arith)
last_savepoint h opened (t ∷ ids) id l n = (all_back (IsSavepointIn h opened) ids (id ∷ []) n.3).0

savepoint_left : (h : List Event) (by : By) (opened : List ℕ) (id x : ℕ) → x < id → IsSavepointIn h opened x → IsSavepointIn (h ++ events.Undo by id ∷ []) (filter (λ y. not (nat_le id y)) opened) x
savepoint_left h by opened id x l s =
    let e : Event = events.Undo by id in (
      has-contains _ x (filter_has (λ y. not (nat_le id y)) opened x (contains_has opened x s.0) (ap not (lt-leb id x l))),
      ap (λ t. t == x) (top_kept h e x (family_kept h e x tt)) ∙ s.1,
      all_filter (λ y. is_inside (h ++ e ∷ []) x y ≡ nat_le x y) (λ y. not (nat_le id y)) opened
          (all_weaker (λ y. is_inside h x y ≡ nat_le x y) (λ y. is_inside (h ++ e ∷ []) x y ≡ nat_le x y) (λ y i. ap (list_any (λ z. x == z)) (enclosing_kept h e y (family_kept h e y tt)) ∙ i) opened s.2),
    )

nest_undone : (h : List Event) (by : By) (opened ids : List ℕ) (id : ℕ) → 1 ≤ length ids → Nest h opened (ids ++ id ∷ []) → Nest (h ++ events.Undo by id ∷ []) (filter (λ x. not (nat_le id x)) opened) ids
nest_undone h by opened [] id l n = absurd (omega arith)
nest_undone h by opened (t ∷ ids) id l n =
    let below = below_last (t ∷ ids) id n.4 in (
      filter (λ x. not (nat_le id x)) n.0,
      ap (filter (λ x. not (nat_le id x))) n.1 ∙ ap (λ b. cond (not b) (t ∷ filter (λ x. not (nat_le id x)) n.0) (filter (λ x. not (nat_le id x)) n.0)) (lt-leb id t below.0),
      ap (λ u. u == t) (top_kept h (events.Undo by id) t (family_kept h (events.Undo by id) t tt)) ∙ n.2,
      lefts ids below.1 (all_front (IsSavepointIn h opened) ids (id ∷ []) n.3),
      ascending_front (t ∷ ids) (id ∷ []) n.4,
    )
  where
    lefts : (xs : List ℕ) → AllByRecursion (λ x. x < id) xs → AllByRecursion (IsSavepointIn h opened) xs → AllByRecursion (IsSavepointIn (h ++ events.Undo by id ∷ []) (filter (λ x. not (nat_le id x)) opened)) xs
    lefts [] b a = tt
    lefts (x ∷ xs) b a = (savepoint_left h by opened id x b.0 a.0, lefts xs b.1 a.1)

-- the innermost savepoint is rolled back
pub stood_undone : (base : Counters) (h : List Event) (by : By) (id unnamed : ℕ) (opened ids : List ℕ) (registered : List RegisteredSnapshot) → 1 ≤ length ids →
    Stood base h by.session by.command opened (ids ++ id ∷ []) unnamed registered → Stood base (h ++ events.Undo by id ∷ []) by.session by.command (filter (λ x. not (nat_le id x)) opened) ids unnamed registered
stood_undone base h by id unnamed opened ids registered l s =
    let e : Event = events.Undo by id in
    record {
      opened_are = closing_open_ids by.session h e _ (closing_undo h by id) ∙ ap (filter (λ x. not (is_inside h id x))) s.opened_are ∙ outside_before h opened id (last_savepoint h opened ids id l s.nest);
      ascend = ascending_filtered (λ x. not (nat_le id x)) opened s.ascend;
      nest = nest_undone h by opened ids id l s.nest;
      depth = omega (arith, s.depth, length_push ids id);
      turn = turn_push by h e refl s.turn;
      live = λ name. live_quiet base.next by.session name h e refl ∙ s.live name;
      snaps = kept_grows base h (e ∷ []) by.session registered s.snaps;
    }

-- the end of a transaction closes all that its session had open
all_closed : (base : Counters) (h : List Event) (e : Event) (session t : ℕ) (rest : List ℕ) → IsLegal base h → IsClosing h e (λ x. not (t == top h x)) → open_ids session h ≡ t ∷ rest → is_top h t ≡ true → open_ids session (h ++ e ∷ []) ≡ []
all_closed base h e session t rest legal c o is =
    let mine : Has (open_ids session h) t = subst (λ l. Has l t) (sym o) (inl refl) in
    let own : top h t ≡ t = eqb-true (top h t) t is in
    closing_open_ids session h e (λ x. not (t == top h x)) c
    ∙ filter_none_on (λ x. not (t == top h x)) (open_ids session h) (λ x k. ap not (ap (λ u. t == u) (one_top base h legal session x t k mine ∙ own) ∙ eqb-refl t))

closing_end : (h : List Event) (by : By) (t : ℕ) (how : XactEnd) → IsClosing h (end_event how by t) (λ x. not (t == top h x))
closing_end h by t ends.Commit = closing_commit h by t
closing_end h by t ends.Abort = closing_abort h by t

end_by : (by : By) (t : ℕ) (how : XactEnd) → by_of (end_event how by t) ≡ by
end_by by t ends.Commit = refl
end_by by t ends.Abort = refl

end_lives : (first : ℕ) (h : List Event) (by : By) (t : ℕ) (how : XactEnd) → live_up first (end_event how by t ∷ reverse h) ≡ live_up first (reverse h)
end_lives first h by t ends.Commit = refl
end_lives first h by t ends.Abort = refl

-- a session's transaction ends
pub stood_ended : (base : Counters) (h : List Event) (by : By) (t unnamed : ℕ) (rest opened named : List ℕ) (registered : List RegisteredSnapshot) (how : XactEnd) → IsLegal base h → opened ≡ t ∷ rest → is_top h t ≡ true →
    Stood base h by.session by.command opened named unnamed registered → Stood base (h ++ end_event how by t ∷ []) by.session by.command [] [] 0 registered
stood_ended base h by t unnamed rest opened named registered how legal o is s =
    let e : Event = end_event how by t in
    record {
      opened_are = all_closed base h e by.session t rest legal (closing_end h by t how) (s.opened_are ∙ o) is;
      ascend = tt;
      nest = refl;
      depth = omega arith;
      turn = turn_push by h e (end_by by t how) s.turn;
      live = λ name. live_quiet base.next by.session name h e (end_lives base.next h by t how) ∙ s.live name;
      snaps = kept_grows base h (e ∷ []) by.session registered s.snaps;
    }

pub nest_taken : (h : List Event) (opened ids : List ℕ) (n : ℕ) → n + 1 ≡ length ids → 1 ≤ n → Nest h opened ids → Nest h opened (take n ids)
nest_taken h opened ids n e l s =
    let r = last_apart ids n e in
    nest_front h opened (take n ids) r.0 (let k : length ids ≡ length (take n ids) + 1 = ap length r.1 ∙ length_push (take n ids) r.0 ∙ one_more (length (take n ids)) in omega arith) (subst (Nest h opened) r.1 s)
  where
    one_more : (n : ℕ) → suc n ≡ n + 1
    one_more n = omega arith
