-- What the generator answered, said of the history.
use Rattle.std.proofs.Common.{◌≡◌, ⊎_elim, inl, ℕ, ◌+◌, ◌<◌, ◌≤◌, Contains, List, [], ◌∷◌, ◌++◌, MatchOption, None, Option, Some, length, refl, sym, subst}
use Rattle.std.proofs.lemmas.List.Sums.{fold_push}
use Rattle.notes.specs.Lists.{at}
use Rattle.tx_events.specs.declared.event.By.{By}
use Rattle.tx_events.specs.declared.multi.Member.{Member}
use Rattle.tx_events.specs.declared.multi.MultiEvent.{MultiEvent}
use Rattle.tx_events.specs.declared.multi.MultiEvent.TheVariants as events
use Rattle.tx_events.specs.declared.record.Counters.{Counters}
use Rattle.tx_events.specs.declared.refusal.Refusal.{Refusal}
use Rattle.tx_events.specs.declared.refusal.Refusal.TheVariants as refusals
use Rattle.tx_events.specs.Multis.{AreMembers, IsKnown, IsNextMade, Pin, pins, pins_after}
use Rattle.tx_events.proofs.Membership.{has_contains, has_right}
use Rattle.multi_store.specs.declared.answers.Held.{Held}
use Rattle.multi_store.specs.declared.answers.MultiGiven.{MultiGiven}
use Rattle.multi_store.specs.Generator.{Generator, IsGiven, IsHeld, IsMeant, IsNotGiven, IsNotHeld, IsUnknown, IsTooOld, IsFuture, meant_by, member_stop_of, next_of, oldest_of, start_of, stop_of}
use Rattle.tx_core.specs.declared.entry.Start.{Start}
use Rattle.tx_core.specs.Locks.{multi_lock}
use Rattle.tx_core.specs.MultiEntries.{multi_history}
use Rattle.engine_parts.specs.Holds.{Knowledge}
use Rattle.engine_parts.specs.Stand.{MultiStands}
use Rattle.multi_sections.specs.Pinnings.{IsNotPinned, IsPinned}
use Rattle.multi_sections.specs.Takings.{IsNotTaken, IsTaken}

-- the generator as the history gives it
abbrev pub generator_of : Counters → List MultiEvent → Generator
generator_of base h = record { base = base; events = h }

pub is_seen : (start : Start) (u : Knowledge) (g : Generator) → MultiStands start g (at u.seen multi_lock) → g ≡ generator_of start.base (multi_history u.seen)
is_seen start u g s = λ j. record { base = s.base j; events = s.events j }

-- ---- a multixact was given

pub given_next : (base : Counters) (h : List MultiEvent) (new : Generator) (by : By) (members : List Member) (g : MultiGiven) → AreMembers members → IsGiven (generator_of base h) new by members g → IsNextMade base h g.multi g.offset members
given_next base h new by members g fit i = record { next = i.multi; below_stop = i.below_stop; first = i.offset; fit = fit; below_member_stop = i.below_member_stop }

pub is_taken : (base : Counters) (h : List MultiEvent) (new : Generator) (by : By) (members : List Member) (g : MultiGiven) → AreMembers members → IsGiven (generator_of base h) new by members g → IsTaken base h members g
is_taken base h new by members g fit i = record { next = given_next base h new by members g fit i; warn = i.warn }

pub not_taken : (base : Counters) (h : List MultiEvent) (members : List Member) (r : Refusal) → IsNotGiven (generator_of base h) members r → IsNotTaken base h (length members) r
not_taken base h members r n =
    let g = generator_of base h in
    ⊎_elim
    (λ (z : (stop_of g ≤ next_of g) × (r ≡ refusals.MultiStop (next_of g) (stop_of g))). subst (IsNotTaken base h (length members)) (sym z.1) (refl, refl, z.0))
    (λ rest. ⊎_elim
    (λ (z : (next_of g < stop_of g) × (member_stop_of g ≤ start_of g + length members) × (r ≡ refusals.MemberStop (start_of g) (member_stop_of g))). subst (IsNotTaken base h (length members)) (sym z.2) (refl, refl, z.1, z.0))
    (λ (z : (next_of g < stop_of g) × (start_of g + length members < member_stop_of g) × (r ≡ refusals.Memory)). subst (IsNotTaken base h (length members)) (sym z.2) (z.0, z.1))
    rest)
    n

-- ---- one was pinned

pub is_pinned : (base : Counters) (h : List MultiEvent) (new : Generator) (by : By) (m : ℕ) (held : Held) → IsHeld (generator_of base h) new by m held → IsPinned base h m held
is_pinned base h new by m held i = record {
  near = i.meant.near;
  known = record { not_older = i.meant.not_older; given = i.meant.given };
  last = i.last;
  end = i.end;
  start = i.start;
  most = i.most;
}

meant_known : (base : Counters) (h : List MultiEvent) (m : ℕ) (o : Option ℕ) → MatchOption o ⊥ (IsMeant (generator_of base h) m) → MatchOption o ⊥ (IsKnown base h)
meant_known base h m None k = k
meant_known base h m (Some multi) k = record { not_older = k.not_older; given = k.given }

pub not_pinned : (base : Counters) (h : List MultiEvent) (m : ℕ) (r : Refusal) → IsNotHeld (generator_of base h) m r → IsNotPinned base h m r
not_pinned base h m r n =
    let g = generator_of base h in
    ⊎_elim
    (λ (unknown : IsUnknown g m r). ⊎_elim
    (λ (z : IsTooOld g m × (r ≡ refusals.MultiTooOld (oldest_of g))). subst (IsNotPinned base h m) (sym z.1) (refl, z.0))
    (λ (z : IsFuture g m × (r ≡ refusals.MultiFuture (next_of g))). subst (IsNotPinned base h m) (sym z.1) (refl, z.0))
    unknown)
    (λ (z : MatchOption (meant_by g m) ⊥ (IsMeant g m) × (r ≡ refusals.Memory)). subst (IsNotPinned base h m) (sym z.1) (meant_known base h m (meant_by g m) z.0))
    n

pub pinned_now : (h : List MultiEvent) (by : By) (multi : ℕ) → Contains (pins (h ++ events.Hold by multi ∷ [])) (by.session, multi)
pinned_now h by multi = subst (λ (ps : List Pin). Contains ps (by.session, multi)) (sym (fold_push pins_after [] h (events.Hold by multi))) (has_contains (pins h ++ (by.session, multi) ∷ []) (by.session, multi) (has_right (pins h) ((by.session, multi) ∷ []) (by.session, multi) (inl refl)))
