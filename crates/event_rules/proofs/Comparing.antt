-- Two events are the same where all that they have is.
use Rattle.std.proofs.Common.{◌≡◌, ◌↔◌, ℕ, zero, suc, ◌+◌, ◌<◌, ◌≤◌, Bool, true, false, List, [], ◌∷◌, length, get_or, drop, refl, sym, ap, subst, ◌∙◌, arith, eqb-true, ◌&&◌, ◌==◌, add-one}
use Rattle.std.specs.Prelude.{IsTrue}
use Rattle.std.proofs.lemmas.Bool.{and_parts}
use Rattle.std.proofs.lemmas.List.{drop_all}
use Rattle.std.proofs.lemmas.Option.{same_Some}
use Rattle.tx_events.specs.declared.event.Event.{Event}
use Rattle.tx_events.specs.declared.event.Event.TheVariants as events
use Rattle.tx_events.specs.declared.multi.Member.{Member}
use Rattle.tx_events.specs.declared.multi.Mode.{Mode}
use Rattle.tx_events.specs.declared.multi.MultiEvent.{MultiEvent}
use Rattle.tx_events.specs.declared.multi.MultiEvent.TheVariants as multis
use Rattle.tx_events.specs.Events.{same_by, same_name}
use Rattle.tx_events.specs.Modes.{mode_number, mode_of}
use Rattle.tx_events.proofs.ListSteps.{eqb-refl}
use Rattle.tx_events.proofs.ModeNumbers.{mode_again}
use Rattle.tx_events.proofs.Names.{same_name_equal, same_name_refl}
use Rattle.place_columns.proofs.Numbering.{same_is, same_self}
use Rattle.event_rules.specs.Same.{same_event, same_member, same_members, same_multi}

both : (a b : Bool) → a ≡ true → b ≡ true → (a && b) ≡ true
both true b e f = f
both false b e f = e

-- ---- events

event_is : (a b : Event) → same_event a b ≡ true → a ≡ b
event_is (events.Id by id) (events.Id its other) e =
    let p = and_parts (same_by by its) (id == other) e in
    ap (λ x. events.Id x id) (same_is by its p.0) ∙ ap (λ x. events.Id its x) (eqb-true id other p.1)
event_is (events.Sub by parent id) (events.Sub its under other) e =
    let p = and_parts (same_by by its) ((parent == under) && (id == other)) e in
    let q = and_parts (parent == under) (id == other) p.1 in
    ap (λ x. events.Sub x parent id) (same_is by its p.0) ∙ ap (λ x. events.Sub its x id) (eqb-true parent under q.0) ∙ ap (λ x. events.Sub its under x) (eqb-true id other q.1)
event_is (events.Undo by id) (events.Undo its other) e =
    let p = and_parts (same_by by its) (id == other) e in
    ap (λ x. events.Undo x id) (same_is by its p.0) ∙ ap (λ x. events.Undo its x) (eqb-true id other p.1)
event_is (events.Commit by id) (events.Commit its other) e =
    let p = and_parts (same_by by its) (id == other) e in
    ap (λ x. events.Commit x id) (same_is by its p.0) ∙ ap (λ x. events.Commit its x) (eqb-true id other p.1)
event_is (events.Abort by id) (events.Abort its other) e =
    let p = and_parts (same_by by its) (id == other) e in
    ap (λ x. events.Abort x id) (same_is by its p.0) ∙ ap (λ x. events.Abort its x) (eqb-true id other p.1)
event_is (events.Snap name by) (events.Snap other its) e =
    let p = and_parts (same_by by its) (same_name name other) e in
    ap (λ x. events.Snap name x) (same_is by its p.0) ∙ ap (λ x. events.Snap x its) (same_name_equal name other p.1)
event_is (events.SnapDrop name by) (events.SnapDrop other its) e =
    let p = and_parts (same_by by its) (same_name name other) e in
    ap (λ x. events.SnapDrop name x) (same_is by its p.0) ∙ ap (λ x. events.SnapDrop x its) (same_name_equal name other p.1)
event_is (events.Oldest by id) (events.Oldest its other) e =
    let p = and_parts (same_by by its) (id == other) e in
    ap (λ x. events.Oldest x id) (same_is by its p.0) ∙ ap (λ x. events.Oldest its x) (eqb-true id other p.1)
event_is (events.Ask by id) (events.Ask its other) e =
    let p = and_parts (same_by by its) (id == other) e in
    ap (λ x. events.Ask x id) (same_is by its p.0) ∙ ap (λ x. events.Ask its x) (eqb-true id other p.1)
event_is a b e = absurd cc

event_self : (a : Event) → same_event a a ≡ true
event_self (events.Id by id) = both (same_by by by) (id == id) (same_self by) (eqb-refl id)
event_self (events.Sub by parent id) = both (same_by by by) ((parent == parent) && (id == id)) (same_self by) (both (parent == parent) (id == id) (eqb-refl parent) (eqb-refl id))
event_self (events.Undo by id) = both (same_by by by) (id == id) (same_self by) (eqb-refl id)
event_self (events.Commit by id) = both (same_by by by) (id == id) (same_self by) (eqb-refl id)
event_self (events.Abort by id) = both (same_by by by) (id == id) (same_self by) (eqb-refl id)
event_self (events.Snap name by) = both (same_by by by) (same_name name name) (same_self by) (same_name_refl name)
event_self (events.SnapDrop name by) = both (same_by by by) (same_name name name) (same_self by) (same_name_refl name)
event_self (events.Oldest by id) = both (same_by by by) (id == id) (same_self by) (eqb-refl id)
event_self (events.Ask by id) = both (same_by by by) (id == id) (same_self by) (eqb-refl id)

pub event_tells : (a b : Event) (t : Bool) → t ≡ same_event a b → IsTrue t ↔ (a ≡ b)
event_tells a b t is = (λ e. event_is a b (sym is ∙ e), λ e. is ∙ subst (λ (x : Event). same_event a x ≡ true) e (event_self a))

-- ---- members

mode_is : (m n : Mode) → mode_number m ≡ mode_number n → m ≡ n
mode_is m n e = same_Some m n (sym (mode_again m) ∙ ap mode_of e ∙ mode_again n)

member_is : (m n : Member) → same_member m n ≡ true → m ≡ n
member_is m n e =
    let p = and_parts (m.id == n.id) (mode_number m.mode == mode_number n.mode) e in
    ap (λ (x : ℕ). record { id = x; mode = m.mode }) (eqb-true m.id n.id p.0)
    ∙ ap (λ (x : Mode). record { id = n.id; mode = x }) (mode_is m.mode n.mode (eqb-true (mode_number m.mode) (mode_number n.mode) p.1))

members_are : (ms ns : List Member) → same_members ms ns ≡ true → ms ≡ ns
members_are [] [] e = refl
members_are [] (n ∷ ns) e = absurd cc
members_are (m ∷ ms) [] e = absurd cc
members_are (m ∷ ms) (n ∷ ns) e =
    let p = and_parts (same_member m n) (same_members ms ns) e in
    ap (λ x. x ∷ ms) (member_is m n p.0) ∙ ap (λ (t : List Member). n ∷ t) (members_are ms ns p.1)

members_self : (ms : List Member) → same_members ms ms ≡ true
members_self [] = refl
members_self (m ∷ ms) = both (same_member m m) (same_members ms ms) (both (m.id == m.id) (mode_number m.mode == mode_number m.mode) (eqb-refl m.id) (eqb-refl (mode_number m.mode))) (members_self ms)

-- from place to place
members_next_at : (ms ns : List Member) (i : ℕ) (m n : Member) → i < length ms → i < length ns → m ≡ get_or ms i m → n ≡ get_or ns i n
    → same_members (drop i ms) (drop i ns) ≡ (same_member m n && same_members (drop (suc i) ms) (drop (suc i) ns))
members_next_at [] ns i m n l k e f = absurd (omega arith)
members_next_at (x ∷ ms) [] i m n l k e f = absurd (omega arith)
members_next_at (x ∷ ms) (y ∷ ns) zero m n l k e f = ap (λ a. same_member a y && same_members ms ns) (sym e) ∙ ap (λ b. same_member m b && same_members ms ns) (sym f)
members_next_at (x ∷ ms) (y ∷ ns) (suc i) m n l k e f = members_next_at ms ns i m n (omega arith) (omega arith) e f

pub members_next : (ms ns : List Member) (i : ℕ) (m n : Member) → i < length ms → i < length ns → m ≡ get_or ms i m → n ≡ get_or ns i n
    → same_members (drop i ms) (drop i ns) ≡ (same_member m n && same_members (drop (i + 1) ms) (drop (i + 1) ns))
members_next ms ns i m n l k e f = rw (add-one) (members_next_at ms ns i m n l k e f)

pub members_end : (ms ns : List Member) (i : ℕ) → length ms ≤ i → length ns ≤ i → same_members (drop i ms) (drop i ns) ≡ true
members_end ms ns i l k = ap (λ (t : List Member). same_members t (drop i ns)) (drop_all i ms l) ∙ ap (λ (t : List Member). same_members [] t) (drop_all i ns k)

pub members_short : (ms ns : List Member) → (length ms ≡ length ns → ⊥) → false ≡ same_members ms ns
members_short [] [] never = absurd (never refl)
members_short [] (y ∷ ns) never = refl
members_short (x ∷ ms) [] never = refl
members_short (x ∷ ms) (y ∷ ns) never = none (same_member x y) (members_short ms ns (λ e. never (ap (λ k. suc k) e)))
  where
    none : (t : Bool) → false ≡ same_members ms ns → false ≡ (t && same_members ms ns)
    none true e = e
    none false e = refl

-- ---- multixact events

multi_is : (a b : MultiEvent) → same_multi a b ≡ true → a ≡ b
multi_is (multis.Gen by multi offset members) (multis.Gen its given at others) e =
    let p = and_parts (same_by by its) ((multi == given) && ((offset == at) && same_members members others)) e in
    let q = and_parts (multi == given) ((offset == at) && same_members members others) p.1 in
    let r = and_parts (offset == at) (same_members members others) q.1 in
    ap (λ x. multis.Gen x multi offset members) (same_is by its p.0) ∙ ap (λ x. multis.Gen its x offset members) (eqb-true multi given q.0)
    ∙ ap (λ x. multis.Gen its given x members) (eqb-true offset at r.0) ∙ ap (λ x. multis.Gen its given at x) (members_are members others r.1)
multi_is (multis.Hold by multi) (multis.Hold its other) e =
    let p = and_parts (same_by by its) (multi == other) e in
    ap (λ x. multis.Hold x multi) (same_is by its p.0) ∙ ap (λ x. multis.Hold its x) (eqb-true multi other p.1)
multi_is (multis.Unhold by multi) (multis.Unhold its other) e =
    let p = and_parts (same_by by its) (multi == other) e in
    ap (λ x. multis.Unhold x multi) (same_is by its p.0) ∙ ap (λ x. multis.Unhold its x) (eqb-true multi other p.1)
multi_is (multis.Raise by multi offset) (multis.Raise its other at) e =
    let p = and_parts (same_by by its) ((multi == other) && (offset == at)) e in
    let q = and_parts (multi == other) (offset == at) p.1 in
    ap (λ x. multis.Raise x multi offset) (same_is by its p.0) ∙ ap (λ x. multis.Raise its x offset) (eqb-true multi other q.0) ∙ ap (λ x. multis.Raise its other x) (eqb-true offset at q.1)
multi_is a b e = absurd cc

multi_self : (a : MultiEvent) → same_multi a a ≡ true
multi_self (multis.Gen by multi offset members) =
    both (same_by by by) ((multi == multi) && ((offset == offset) && same_members members members)) (same_self by)
    (both (multi == multi) ((offset == offset) && same_members members members) (eqb-refl multi) (both (offset == offset) (same_members members members) (eqb-refl offset) (members_self members)))
multi_self (multis.Hold by multi) = both (same_by by by) (multi == multi) (same_self by) (eqb-refl multi)
multi_self (multis.Unhold by multi) = both (same_by by by) (multi == multi) (same_self by) (eqb-refl multi)
multi_self (multis.Raise by multi offset) = both (same_by by by) ((multi == multi) && (offset == offset)) (same_self by) (both (multi == multi) (offset == offset) (eqb-refl multi) (eqb-refl offset))

pub multi_tells : (a b : MultiEvent) (t : Bool) → t ≡ same_multi a b → IsTrue t ↔ (a ≡ b)
multi_tells a b t is = (λ e. multi_is a b (sym is ∙ e), λ e. is ∙ subst (λ (x : MultiEvent). same_multi a x ≡ true) e (multi_self a))
