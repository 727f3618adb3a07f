-- What keeps a session away from the ProcArray.
use Rattle.std.proofs.Common.{◌≡◌, ◌≢◌, ◌⊎◌, ⊎_elim, inl, inr, ℕ, ◌<◌, ◌≤◌, ◌^◌, ◌==◌, List, [], ◌∷◌, ◌++◌, Contains, Result, Ok, Err, None, Some, append-nil, arith, cond, eq-eqb, length, refl, ap, subst, sym, take, ◌∙◌}
use Rattle.std.proofs.Math.Seq.{take-append_seam}
use Rattle.std.proofs.lemmas.List.Elements.{Contains-push_cases, filter-append}
use Rattle.std.specs.List.{AllByRecursion, slice_get}
use Rattle.notes.specs.Lists.{Grows, Knows, at, own}
use Rattle.notes.proofs.Growing.{at_else, begins_length, begins_same}
use Rattle.store_pages.specs.Layouts.{xact_page_of}
use Rattle.tx_events.specs.declared.event.By.{By}
use Rattle.tx_events.specs.declared.refusal.Refusal.{Refusal}
use Rattle.tx_events.specs.declared.refusal.Refusal.TheVariants as refusals
use Rattle.tx_events.proofs.PlaceLemmas.{last_at, take-grows}
use Rattle.tx_core.specs.declared.entry.Entry.{Entry}
use Rattle.tx_core.specs.declared.entry.Kind.{Kind}
use Rattle.tx_core.specs.declared.entry.Start.{Start}
use Rattle.tx_core.specs.Entries.{cut_in, session_of}
use Rattle.tx_core.specs.Locks.{proc_lock, xact_lock, xact_lock_of}
use Rattle.tx_core.proofs.Growing.{slice_get_begins}
use Rattle.session_levels.specs.declared.session.Session as plain
use Rattle.engine_parts.specs.declared.session.Session.{Session}
use Rattle.engine_parts.specs.Adding.{Adds, AddsNothing}
use Rattle.engine_parts.specs.Faults.{look_of}
use Rattle.engine_parts.specs.Holds.{Knowledge, ProcSection, Section}
use Rattle.engine_parts.specs.Sessions.{IsAt, by_at, look_by}
use Rattle.engine_parts.specs.Stand.{IsCutoff, first_xact_page}
use Rattle.engine_parts.proofs.Leaving.{grows_then}
use Rattle.engine_parts.proofs.Sectioning.{section_list}
use Rattle.engine_parts.proofs.Unmoved.{look_adds}
use Rattle.bank_sections.specs.Sections.{IsXactCut}
use Rattle.xact_reads.specs.declared.glances.Glance.{Glance}
use Rattle.xact_reads.specs.Apart.{ApartOrMet, ApartUnless, FoundCut, KeepsApart, MetCut, StaysApart}
use Rattle.xact_reads.specs.Glances.{HasGlanced}

-- one such step after another
pub apart_then : (n m : ℕ) (a b c : List (List Entry)) → m ≡ n → StaysApart n a b → StaysApart m b c → StaysApart n a c
apart_then n m a b c same first second = subst (λ z. StaysApart z b c) same second ∙ first

pub apart_any : (met : Type 0) (n : ℕ) (a b : List (List Entry)) (r : Refusal) → StaysApart n a b → ApartUnless met n a b r
apart_any met n a b (refusals.TooOld oldest) apart = inl apart
apart_any met n a b r apart = apart

-- and one that was refused
pub apart_unless : (met met' : Type 0) (n m : ℕ) (a b c : List (List Entry)) (r : Refusal) → m ≡ n → (met → met') → StaysApart n a b → ApartUnless met m b c r → ApartUnless met' n a c r
apart_unless met met' n m a b c (refusals.TooOld oldest) same wider first second = ⊎_elim (λ s. inl (apart_then n m a b c same first s)) (λ q. inr (wider q)) second
apart_unless met met' n m a b c r same wider first second = apart_then n m a b c same first second

-- a critical section of another lock
pub section_apart : (start : Start) (v w : Knowledge) (lock : ℕ) (e : Entry) (n : ℕ) → v.name ≡ n → proc_lock ≢ lock → Section start lock e v w → StaysApart n v.seen w.seen
section_apart start v w lock e n name other s =
    let knows : Knows session_of n v.seen s.within.seen = subst (λ z. Knows session_of z v.seen s.within.seen) name s.enters.learns.knows in
    ap (λ (z : List (List Entry)). own session_of n (at z proc_lock)) s.leaves.seen ∙ (ap (own session_of n) (at_else s.within.seen lock proc_lock e other) ∙ knows.own proc_lock)

-- so in every list to which such a step adds nothing
none_may : (by : By) (May : Kind → Type 0) (es : List Entry) → ((kind : Kind) → May kind → ⊥) → AllByRecursion (λ e. (e.by ≡ by) × May e.kind) es → es ≡ []
none_may by May [] never a = refl
none_may by May (e ∷ es) never a = absurd (never e.kind a.0.1)

pub own_still : (by : By) (May : ℕ → Kind → Type 0) (lists more : List (List Entry)) (lock : ℕ) → ((kind : Kind) → May lock kind → ⊥) → Adds by May lists more → own session_of by.session (at more lock) ≡ own session_of by.session (at lists lock)
own_still by May lists more lock never a =
    let t = a.each lock in
    t.grown ∙ (ap (λ es. own session_of by.session (at lists lock) ++ es) (none_may by (May lock) t.added never t.each) ∙ append-nil (own session_of by.session (at lists lock)))

pub nothing_still : (by : By) (lists more : List (List Entry)) (lock : ℕ) → AddsNothing by lists more → own session_of by.session (at more lock) ≡ own session_of by.session (at lists lock)
nothing_still by lists more lock = own_still by (λ lock kind. ⊥) lists more lock (λ kind never. never)

-- a look into the ProcArray adds nothing to the list of a bank
look_still : (start : Start) (u w : Knowledge) (n : ℕ) (s : Session) (bank : ℕ) → bank < start.banks → IsAt start u n s → ProcSection start (look_by n s) u w → own session_of n (at w.seen (xact_lock bank)) ≡ own session_of n (at u.seen (xact_lock bank))
look_still start u w n s bank inside a section =
    let elsewhere : ℕ → Kind → Type 0 = λ lock kind. lock ≢ xact_lock bank in
    own_still (by_at n s.levels.commands) elsewhere u.seen w.seen (xact_lock bank) (λ kind never. never refl) (look_adds start u w n s elsewhere a (λ number q. omega (arith, q, inside)) (λ q. omega (arith, q)) section)

-- a critical section adds its entry to the session's own of that list
section_own : (start : Start) (v w : Knowledge) (lock : ℕ) (e : Entry) → v.name ≡ session_of e → lock < length v.seen → Section start lock e v w → own session_of (session_of e) (at w.seen lock) ≡ own session_of (session_of e) (at v.seen lock) ++ e ∷ []
section_own start v w lock e name inside s =
    let n = session_of e in
    let learnt : own session_of n (at s.within.seen lock) ≡ own session_of n (at v.seen lock) = subst (λ z. own session_of z (at s.within.seen lock) ≡ own session_of z (at v.seen lock)) name (s.enters.learns.knows.own lock) in
    let one : own session_of n (e ∷ []) ≡ e ∷ [] = ap (λ b. cond b (e ∷ []) []) (eq-eqb (session_of e) n refl) in
    ap (own session_of n) (section_list start v w lock e s inside)
    ∙ (filter-append (λ (f : Entry). session_of f == n) (at s.within.seen lock) (e ∷ []) ∙ (λ j. learnt j ++ one j))

-- ---- a cut page

-- a look cuts nothing, so a cutoff of the list with it is one of the list before
cutoff_before : (first pages : ℕ) (es : List Entry) (by : By) (cutoff : ℕ) → IsCutoff first pages (es ++ look_of by ∷ []) cutoff → IsCutoff first pages es cutoff
cutoff_before first pages es by cutoff c = (c.0, c.1, c.2, ⊎_elim inl (λ z. inr (z.0, earlier z.0 z.1 z.2, z.2)) c.3)
  where
    earlier : (e : Entry) → Contains (es ++ look_of by ∷ []) e → cut_in e.kind ≡ Some c.0 → Contains es e
    earlier e has cuts = ⊎_elim
        (λ (before : Contains es e). before)
        (λ (last : look_of by ≡ e). let none : None ≡ Some c.0 = ap (λ (f : Entry). cut_in f.kind) last ∙ cuts in absurd cc)
        (Contains-push_cases es (look_of by) e has)

-- it was found in a critical section of its bank, and then the ProcArray was looked into
pub found_cut : (start : Start) (v u w : Knowledge) (n n' : ℕ) (s s' : Session) (bank x cutoff : ℕ) → bank < start.banks → n' ≡ n → s' ≡ s → IsAt start v n s → IsAt start u n' s' → xact_lock_of start x ≡ xact_lock bank
    → Section start (xact_lock bank) (look_by n s) v u → IsXactCut start u.seen bank (xact_page_of x) cutoff → ProcSection start (look_by n' s') u w → Grows u.seen w.seen → FoundCut start (by_at n s.levels.commands) v.seen w.seen x
found_cut start v u w n n' s s' bank x cutoff inside number same a b place section is look g =
    let lock : ℕ = xact_lock bank in
    let by : By = by_at n s.levels.commands in
    let wide = a.wide in
    let there : xact_lock bank < length v.seen = omega arith in
    let es : List Entry = at section.within.seen lock in
    let list : at u.seen lock ≡ es ++ look_of by ∷ [] = section_list start v u lock (look_by n s) section there in
    let seam : take (length es) (at u.seen lock) ≡ es = ap (take (length es)) list ∙ take-append_seam es (look_of by ∷ []) in
    let here : slice_get (at u.seen lock) (length es) ≡ Some (look_of by) = ap (λ (t : List Entry). slice_get t (length es)) list ∙ last_at es (look_of by) in
    let front : take (length es) (at w.seen lock) ≡ es = ap (take (length es)) (sym (g.begins lock).1) ∙ (take-grows (at u.seen lock) (g.begins lock).0 _ (length es) here ∙ seam) in
    let still : own session_of n (at w.seen lock) ≡ own session_of n (at u.seen lock) = subst (λ z. own session_of z (at w.seen lock) ≡ own session_of z (at u.seen lock)) number (look_still start u w n' s' bank inside b look) in record {
      bank = bank;
      lock = place;
      looked = still ∙ section_own start v u lock (look_by n s) a.name there section;
      place = length es;
      since = begins_length (at v.seen lock) es (section.enters.learns.knows.grows.begins lock);
      look = slice_get_begins (at u.seen lock) (at w.seen lock) (length es) (look_of by) (g.begins lock) here;
      cutoff = cutoff;
      is_cutoff = subst (λ (t : List Entry). IsCutoff (first_xact_page start) (2 ^ 17) t cutoff) (sym front) (cutoff_before (first_xact_page start) (2 ^ 17) es by cutoff (subst (λ (t : List Entry). IsCutoff (first_xact_page start) (2 ^ 17) t cutoff) list is.0));
      cut = is.1;
    }

-- before it the command had added nothing
pub found_later : (start : Start) (by by' : By) (a b c : List (List Entry)) (x : ℕ) → by' ≡ by → Grows a b → ((lock : ℕ) → own session_of by.session (at b lock) ≡ own session_of by.session (at a lock)) → FoundCut start by' b c x → FoundCut start by a c x
found_later start by by' a b c x same g still f =
    let lock : ℕ = xact_lock f.bank in
    let longer : length (at a lock) ≤ length (at b lock) = begins_length (at a lock) (at b lock) (g.begins lock) in
    let since : length (at b lock) ≤ f.place = f.since in
    let looked : own session_of by.session (at c lock) ≡ own session_of by.session (at b lock) ++ look_of by ∷ [] = subst (λ (z : By). own session_of z.session (at c lock) ≡ own session_of z.session (at b lock) ++ look_of z ∷ []) same f.looked in record {
      bank = f.bank;
      lock = f.lock;
      looked = looked ∙ ap (λ (es : List Entry). es ++ look_of by ∷ []) (still lock);
      place = f.place;
      since = omega arith;
      look = f.look ∙ ap (λ (z : By). Some (look_of z)) same;
      cutoff = f.cutoff;
      is_cutoff = f.is_cutoff;
      cut = f.cut;
    }

pub grows_self : (lists : List (List Entry)) → Grows lists lists
grows_self lists = record { begins = λ place. begins_same (at lists place) }

-- what is shown of an id
pub shown_apart : {T : Type 0} (start : Start) (by : By) (lists more : List (List Entry)) (s : plain.Session) (name : List ℕ) (x : ℕ) (g : Glance) (r : Result T Refusal) → HasGlanced s name x (Some g) → KeepsApart (FoundCut start by lists more g.id) by.session lists more r → ApartOrMet start by s name (λ z. z ≡ x) lists more
shown_apart start by lists more s name x g (Ok shown) h apart = inl apart
shown_apart start by lists more s name x g (Err (refusals.TooOld oldest)) h apart = ⊎_elim inl (λ found. inr (record {
  x = x;
  asked = refl;
  before = lists;
  behind = more;
  since = grows_self lists;
  till = grows_self more;
  found = record { registered = h.registered; named = h.named; id = g.id; near = h.glance.near; found = found };
})) apart
shown_apart start by lists more s name x g (Err r) h apart = inl apart

-- what was asked for so was asked for otherwise too
pub met_wider : (start : Start) (by : By) (s : plain.Session) (name : List ℕ) (IsOne IsAsked : ℕ → Type 0) (a b : List (List Entry)) → ((x : ℕ) → IsOne x → IsAsked x) → ApartOrMet start by s name IsOne a b → ApartOrMet start by s name IsAsked a b
met_wider start by s name IsOne IsAsked a b wider = ⊎_elim inl (λ (met : MetCut start by s name IsOne a b). inr (record {
  x = met.x;
  asked = wider met.x met.asked;
  before = met.before;
  behind = met.behind;
  since = met.since;
  till = met.till;
  found = met.found;
}))

-- one step that stayed away or met a cut page after another
pub met_then : (start : Start) (n m : ℕ) (s t : Session) (name : List ℕ) (IsAsked : ℕ → Type 0) (a b c : List (List Entry)) → m ≡ n → t ≡ s → Grows a b → Grows b c
    → ApartOrMet start (by_at n s.levels.commands) s.levels name IsAsked a b → ApartOrMet start (by_at m t.levels.commands) t.levels name IsAsked b c → ApartOrMet start (by_at n s.levels.commands) s.levels name IsAsked a c
met_then start n m s t name IsAsked a b c number same before behind first second =
    let by : By = by_at n s.levels.commands in
    let here : ApartOrMet start by s.levels name IsAsked b c = subst (λ (z : ℕ × Session). ApartOrMet start (by_at z.0 z.1.levels.commands) z.1.levels name IsAsked b c) (λ j. (number j, same j)) second in
    ⊎_elim
    (λ (apart : StaysApart n a b). ⊎_elim (λ (more : StaysApart n b c). inl (more ∙ apart)) (λ (met : MetCut start by s.levels name IsAsked b c). inr (record {
      x = met.x;
      asked = met.asked;
      before = met.before;
      behind = met.behind;
      since = grows_then a b met.before before met.since;
      till = met.till;
      found = met.found;
    })) here)
    (λ (met : MetCut start by s.levels name IsAsked a b). inr (record {
      x = met.x;
      asked = met.asked;
      before = met.before;
      behind = met.behind;
      since = met.since;
      till = grows_then met.behind b c met.till behind;
      found = met.found;
    }))
    first

-- ---- the count enters no lock

pub counted_apart : (n m : ℕ) (v u w : Knowledge) → u ≡ v → m ≡ n → StaysApart m u.seen w.seen → StaysApart n v.seen w.seen
counted_apart n m v u w pass number apart = subst (λ (z : Knowledge). StaysApart n z.seen w.seen) pass (subst (λ z. StaysApart z u.seen w.seen) number apart)

-- neither does what comes before the members are judged
pub counted_met : (start : Start) (n m k : ℕ) (s : Session) (name : List ℕ) (IsAsked : ℕ → Type 0) (v u a b : Knowledge) (commands : ℕ) (levels : plain.Session) → u ≡ v → m ≡ n → k ≡ m → s.levels ≡ record levels { commands = commands } → Grows u.seen a.seen
    → StaysApart m u.seen a.seen → ApartOrMet start (by_at k s.levels.commands) s.levels name IsAsked a.seen b.seen → ApartOrMet start (by_at n commands) levels name IsAsked v.seen b.seen
counted_met start n m k s name IsAsked v u a b commands levels pass number kept is grows first second =
    let counted : plain.Session = record levels { commands = commands } in
    let before : Grows v.seen a.seen = subst (λ (z : Knowledge). Grows z.seen a.seen) pass grows in
    let here : ApartOrMet start (by_at n commands) counted name IsAsked a.seen b.seen = subst (λ (z : ℕ × plain.Session). ApartOrMet start (by_at z.0 z.1.commands) z.1 name IsAsked a.seen b.seen) (λ j. ((kept ∙ number) j, is j)) second in
    ⊎_elim
    (λ (apart : StaysApart n a.seen b.seen). inl (apart ∙ counted_apart n m v u a pass number first))
    (λ (met : MetCut start (by_at n commands) counted name IsAsked a.seen b.seen). inr (record {
      x = met.x;
      asked = met.asked;
      before = met.before;
      behind = met.behind;
      since = grows_then v.seen a.seen met.before before met.since;
      till = met.till;
      found = record { registered = met.found.registered; named = met.found.named; id = met.found.id; near = met.found.near; found = met.found.found };
    }))
    here
