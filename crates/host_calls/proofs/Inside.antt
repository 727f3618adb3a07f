-- At every moment of a section's volume what a crash leaves fits, with whatever it leaves of the others.
use Rattle.std.specs.Global.{Box}
use Rattle.std.proofs.Common.{◌≡◌, ◌≢◌, inl, inr, ⊎_elim, ℕ, ◌<◌, ◌⊎◌, IsTrue, List, [], ◌∷◌, ◌++◌, Option, Some, None, arith, ap, length, refl, subst, sym, ◌∙◌}
use Rattle.disk_core.specs.Pages.{Pages}
use Rattle.disk_core.specs.Volume.{Volume}
use Rattle.disk_core.specs.declared.log_disk.LogDisk as logs
use Rattle.disk_core.specs.declared.page_disk.PageDisk as disks
use Rattle.notes.specs.Lists.{add, at}
use Rattle.notes.proofs.Growing.{at_else, at_here}
use Rattle.wal_core.specs.Kept.{HasFlushed, KeepsRecords}
use Rattle.wal_core.specs.LogViews.{KeepsAll, log_disk, log_first, log_next, log_recs}
use Rattle.wal_core.specs.declared.wal_log.WalLog.{WalLog}
use Rattle.tx_events.proofs.Membership.{Has, contains_has, has_cases, has_contains}
use Rattle.tx_events.specs.Events.{given}
use Rattle.tx_events.specs.Multis.{made}
use Rattle.tx_core.specs.declared.entry.Entry.{Entry}
use Rattle.tx_core.specs.declared.entry.Kind.{Kind}
use Rattle.tx_core.specs.declared.entry.Kind.TheVariants as kinds
use Rattle.tx_core.specs.declared.entry.LogCall.TheVariants as calls
use Rattle.tx_core.specs.declared.entry.Start.{Start}
use Rattle.tx_core.specs.EngineInvariant.{EngineInvariant}
use Rattle.tx_core.specs.Entries.{appended, appended_in, events_in, flushed_to}
use Rattle.tx_core.specs.Locks.{log_lock, members_lock, multi_lock, offsets_lock, proc_lock, xact_lock}
use Rattle.tx_core.specs.MultiEntries.{multis_in}
use Rattle.recoverable.specs.Fit.{KeptLog}
use Rattle.recoverable.specs.Laws.{HasKind, IsBeginningOf, LogFollows, LogOf}
use Rattle.recoverable.specs.Whole.{BeganRight, IsShort, MembersLeft, OffsetsLeft, StatesLeft}
use Rattle.recoverable.proofs.LifeBases.{list_fits}
use Rattle.recoverable.proofs.LogSteps.{log_goes_on}
use Rattle.recoverable.proofs.Whole.{image_fits}
use Rattle.bank_follows.specs.Holding.{LogHolds}
use Rattle.engine_parts.specs.declared.part.Part.{Part}
use Rattle.engine_parts.specs.declared.part.Part.TheVariants as parts
use Rattle.engine_parts.specs.BankCourse.{MembersCame, OffsetsCame}
use Rattle.engine_parts.specs.Course.{HasCourse}
use Rattle.engine_parts.specs.Parts.{IsLogOf, PartStands}
use Rattle.bank_follows.specs.Fitting.{FitSoFar}
use Rattle.bank_follows.proofs.Flushed.{members_flushed, offsets_flushed, states_flushed}
use Rattle.bank_follows.proofs.LogEnds.{may_begin}
use Rattle.bank_follows.proofs.Fitting.{log_so_far, log_there, members_left, offsets_left, states_left}
use Rattle.host_sections.specs.Asked.{AsksVolume, LogMoments, PartMoments}
use Rattle.host_calls.specs.Moments.{LeftWithin, LogWithin, OthersStand, PagesWithin, SectionFits, add_more}

-- ---- where the log may begin

-- an entry that appends or flushes moves no begin, and each other one leaves the log's records as they were
abbrev MovesNone : Entry → Type 0
MovesNone e = ((n : ℕ) → e.kind ≡ kinds.Forget n → ⊥) × ((n count : ℕ) → e.kind ≡ kinds.LogFault (calls.Forget n) count → ⊥)

abbrev KeepsRecs : Entry → Type 0
KeepsRecs e = (appended e ≡ None) × ((to : ℕ) → e.kind ≡ kinds.Flush to → ⊥)

which : (e : Entry) (kind : Kind) → e.kind ≡ kind → MovesNone e ⊎ KeepsRecs e
which e (kinds.Append rec) is = inl (λ n other. let two : kinds.Append rec ≡ kinds.Forget n = sym is ∙ other in absurd cc, λ n count other. let two : kinds.Append rec ≡ kinds.LogFault (calls.Forget n) count = sym is ∙ other in absurd cc)
which e (kinds.Flush to) is = inl (λ n other. let two : kinds.Flush to ≡ kinds.Forget n = sym is ∙ other in absurd cc, λ n count other. let two : kinds.Flush to ≡ kinds.LogFault (calls.Forget n) count = sym is ∙ other in absurd cc)
which e (kinds.Forget number) is = inr (ap (λ (k : Kind). appended_in e.by k) is, λ to other. let two : kinds.Forget number ≡ kinds.Flush to = sym is ∙ other in absurd cc)
which e (kinds.LogFault asked count) is = inr (ap (λ (k : Kind). appended_in e.by k) is, λ to other. let two : kinds.LogFault asked count ≡ kinds.Flush to = sym is ∙ other in absurd cc)
which e (kinds.Event event) is = inr (ap (λ (k : Kind). appended_in e.by k) is, λ to other. let two : kinds.Event event ≡ kinds.Flush to = sym is ∙ other in absurd cc)
which e (kinds.Made id) is = inr (ap (λ (k : Kind). appended_in e.by k) is, λ to other. let two : kinds.Made id ≡ kinds.Flush to = sym is ∙ other in absurd cc)
which e (kinds.Multi event) is = inr (ap (λ (k : Kind). appended_in e.by k) is, λ to other. let two : kinds.Multi event ≡ kinds.Flush to = sym is ∙ other in absurd cc)
which e (kinds.Post number) is = inr (ap (λ (k : Kind). appended_in e.by k) is, λ to other. let two : kinds.Post number ≡ kinds.Flush to = sym is ∙ other in absurd cc)
which e (kinds.Set changes) is = inr (ap (λ (k : Kind). appended_in e.by k) is, λ to other. let two : kinds.Set changes ≡ kinds.Flush to = sym is ∙ other in absurd cc)
which e (kinds.Zero page) is = inr (ap (λ (k : Kind). appended_in e.by k) is, λ to other. let two : kinds.Zero page ≡ kinds.Flush to = sym is ∙ other in absurd cc)
which e (kinds.Cut page) is = inr (ap (λ (k : Kind). appended_in e.by k) is, λ to other. let two : kinds.Cut page ≡ kinds.Flush to = sym is ∙ other in absurd cc)
which e kinds.Sync is = inr (ap (λ (k : Kind). appended_in e.by k) is, λ to other. let two : kinds.Sync ≡ kinds.Flush to = sym is ∙ other in absurd cc)
which e (kinds.Fault callers changes cut count) is = inr (ap (λ (k : Kind). appended_in e.by k) is, λ to other. let two : kinds.Fault callers changes cut count ≡ kinds.Flush to = sym is ∙ other in absurd cc)
which e (kinds.Request changes) is = inr (ap (λ (k : Kind). appended_in e.by k) is, λ to other. let two : kinds.Request changes ≡ kinds.Flush to = sym is ∙ other in absurd cc)
which e kinds.Look is = inr (ap (λ (k : Kind). appended_in e.by k) is, λ to other. let two : kinds.Look ≡ kinds.Flush to = sym is ∙ other in absurd cc)

-- an entry of another kind isn't the last one
among : (es : List Entry) (e : Entry) (kind : Kind) → (e.kind ≡ kind → ⊥) → HasKind (es ++ e ∷ []) kind → HasKind es kind
among es e kind other has =
    let x : Entry = record { by = has.0; kind = kind } in
    (has.0, has_contains es x (⊎_elim (λ (h : Has es x). h) (λ (last : Has (e ∷ []) x). absurd (⊎_elim (λ (same : e ≡ x). other (ap (λ (z : Entry). z.kind) same)) (λ none. none) last)) (has_cases es (e ∷ []) x (contains_has (es ++ e ∷ []) x has.1))))

begins_before : (start : Start) (es : List Entry) (e : Entry) (n : ℕ) → MovesNone e → IsBeginningOf start (es ++ e ∷ []) n → IsBeginningOf start es n
begins_before start es e n other = ⊎_elim inl (λ (later : HasKind (es ++ e ∷ []) (kinds.Forget n) ⊎ ((count : ℕ) × HasKind (es ++ e ∷ []) (kinds.LogFault (calls.Forget n) count))).
    inr (⊎_elim (λ (has : HasKind (es ++ e ∷ []) (kinds.Forget n)). inl (among es e (kinds.Forget n) (other.0 n) has))
    (λ (failed : (count : ℕ) × HasKind (es ++ e ∷ []) (kinds.LogFault (calls.Forget n) count)). inr (failed.0, among es e (kinds.LogFault (calls.Forget n) failed.0) (other.1 n failed.0) failed.1)) later))

module _ {L P : Type 0} (l : logs.Ghosts L) (p : disks.Ghosts P) (only_now : (d : P) (c : Pages) → p.left_at d (p.moment d) c → p.images d c) (start : Start) (lists : List (List Entry)) (kept : EngineInvariant start lists) (right : BeganRight start) (short : IsShort lists) (tells : IsTrue l.tells) (told : IsTrue p.tells) where
  -- ---- a bank's section: each image of its volume follows the list of before

  states_within : (lock bank : ℕ) (found left : Part L P l p) → PartStands start lock found (at lists lock) → PartMoments found left → xact_lock bank ≡ lock → (c : Pages) → PagesWithin found left c → StatesLeft start bank (at lists (xact_lock bank)) c
  states_within lock bank (parts.Xact found) (parts.Xact left) s crash same c within =
      let here : s.0 ≡ bank = let e = s.1 in omega (arith, e, same) in
      let course : HasCourse start bank found.value (at lists (xact_lock bank)) = subst (λ (z : ℕ × ℕ). HasCourse start z.0 found.value (at lists z.1)) (λ i. (here i, sym same i)) (s.2.course told) in
      (states_flushed p told only_now start lists kept bank found.value left.value crash short.ids course).each.each within.at c within.from within.upto within.left
  states_within lock bank (parts.Subtrans found) (parts.Subtrans left) s crash same c within = absurd (let e = s.1 in omega (arith, e, same))
  states_within lock bank (parts.Offsets found) (parts.Offsets left) s crash same c within = absurd (let e = s.1 in omega (arith, e, same))
  states_within lock bank (parts.Members found) (parts.Members left) s crash same c within = absurd (let e = s.1 in omega (arith, e, same))
  states_within lock bank found left s crash same c within = absurd within

  offsets_within : (lock bank : ℕ) (found left : Part L P l p) → PartStands start lock found (at lists lock) → PartMoments found left → offsets_lock bank ≡ lock → (c : Pages) → PagesWithin found left c → OffsetsLeft start bank (at lists (offsets_lock bank)) c
  offsets_within lock bank (parts.Offsets found) (parts.Offsets left) s crash same c within =
      let here : s.0 ≡ bank = let e = s.1 in omega (arith, e, same) in
      let course : OffsetsCame start bank found.value (at lists (offsets_lock bank)) = subst (λ (z : ℕ × ℕ). OffsetsCame start z.0 found.value (at lists z.1)) (λ i. (here i, sym same i)) (s.2.course told) in
      (offsets_flushed p told only_now start lists kept bank found.value left.value crash right.base.counters short.multis course).each.each within.at c within.from within.upto within.left
  offsets_within lock bank (parts.Xact found) (parts.Xact left) s crash same c within = absurd (let e = s.1 in omega (arith, e, same))
  offsets_within lock bank (parts.Subtrans found) (parts.Subtrans left) s crash same c within = absurd (let e = s.1 in omega (arith, e, same))
  offsets_within lock bank (parts.Members found) (parts.Members left) s crash same c within = absurd (let e = s.1 in omega (arith, e, same))
  offsets_within lock bank found left s crash same c within = absurd within

  members_within : (lock bank : ℕ) (found left : Part L P l p) → PartStands start lock found (at lists lock) → PartMoments found left → members_lock bank ≡ lock → (c : Pages) → PagesWithin found left c → MembersLeft start bank (at lists (members_lock bank)) c
  members_within lock bank (parts.Members found) (parts.Members left) s crash same c within =
      let here : s.0 ≡ bank = let e = s.1 in omega (arith, e, same) in
      let course : MembersCame start bank found.value (at lists (members_lock bank)) = subst (λ (z : ℕ × ℕ). MembersCame start z.0 found.value (at lists z.1)) (λ i. (here i, sym same i)) (s.2.course told) in
      (members_flushed p told only_now start lists kept bank found.value left.value crash right.base.counters short.multis course).each.each within.at c within.from within.upto within.left
  members_within lock bank (parts.Xact found) (parts.Xact left) s crash same c within = absurd (let e = s.1 in omega (arith, e, same))
  members_within lock bank (parts.Subtrans found) (parts.Subtrans left) s crash same c within = absurd (let e = s.1 in omega (arith, e, same))
  members_within lock bank (parts.Offsets found) (parts.Offsets left) s crash same c within = absurd (let e = s.1 in omega (arith, e, same))
  members_within lock bank found left s crash same c within = absurd within

  -- so with images of all others
  bank_section : (lock : ℕ) (found left : Part L P l p) → log_lock ≢ lock → PartStands start lock found (at lists lock) → PartMoments found left → (others : ℕ → Part L P l p) → OthersStand start lists lock others
      → FitSoFar start lists (LeftWithin start.banks lock found left others)
  bank_section lock found left apart stood crash others stand =
      let there = log_there l p only_now start lists kept right short tells told (others log_lock) (stand log_lock (omega arith) apart) in
      let held = log_so_far l p only_now start lists kept right short tells told there.0 there.1 in
      let holds = held.1 in
      record {
        kept = held.0;
        follows = holds.is_of;
        flushed = held.2;
        fit = record {
          list = list_fits start lists held.0 kept right.told right.full right.base holds.is_of;
          each = λ c w. image_fits start lists held.0 c kept right short holds.is_of (record {
            log_image = ⊎_elim (λ z. record { kept = log_first there.0; opens = holds.keeps.each c.log (there.2 c.log z.1); forgotten = holds.beginning }) (λ z. absurd (apart z.0)) w.log;
            states = λ bank low. ⊎_elim (λ z. states_left l p only_now start lists kept right short tells told bank (others (xact_lock bank)) (stand (xact_lock bank) (omega (arith, low)) z.0) (c.xact bank) z.1)
                (λ z. states_within lock bank found left stood crash z.0 (c.xact bank) z.1) (w.xact bank low);
            offsets_are = λ bank low. ⊎_elim (λ z. offsets_left l p only_now start lists kept right short tells told bank (others (offsets_lock bank)) (stand (offsets_lock bank) (omega (arith, low)) z.0) (c.offsets bank) z.1)
                (λ z. offsets_within lock bank found left stood crash z.0 (c.offsets bank) z.1) (w.offsets bank low);
            members_are = λ bank low. ⊎_elim (λ z. members_left l p only_now start lists kept right short tells told bank (others (members_lock bank)) (stand (members_lock bank) (omega (arith, low)) z.0) (c.members bank) z.1)
                (λ z. members_within lock bank found left stood crash z.0 (c.members bank) z.1) (w.members bank low);
          });
        };
      }

-- ---- a section of the log: with the list of before, and where it is forgotten with that of behind

pub short_still : (lists : List (List Entry)) (lock : ℕ) (e : Entry) → lock ≢ proc_lock → lock ≢ multi_lock → IsShort lists → IsShort (add lists lock e)
short_still lists lock e no_event no_multi short = record {
  ids = subst (λ (es : List Entry). length (given (events_in es)) < 2900000) (sym (at_else lists lock proc_lock e (λ same. no_event (sym same)))) short.ids;
  multis = subst (λ (es : List Entry). length (made (multis_in es)) < 2900000) (sym (at_else lists lock multi_lock e (λ same. no_multi (sym same)))) short.multis;
}

pub log_apart : (n : ℕ) → 0 < n → log_lock ≢ n
log_apart n some same = absurd (omega (arith, some, same))

module _ {L P : Type 0} (l : logs.Ghosts L) (p : disks.Ghosts P) (only_now : (d : P) (c : Pages) → p.left_at d (p.moment d) c → p.images d c) (start : Start) (lists : List (List Entry)) (kept : EngineInvariant start lists) (right : BeganRight start) (short : IsShort lists) (tells : IsTrue l.tells) (told : IsTrue p.tells)
    (found left : Box (WalLog L l)) (s : IsLogOf start found.value (at lists log_lock)) (moments : LogMoments found.value left.value) (others : ℕ → Part L P l p) where
  -- in lists that the log follows, too, its images may begin so, and the other parts stand for them
  log_in : (log : KeptLog) → LogHolds start (at lists log_lock) log (log_recs found.value) (log_next found.value) (log_first found.value) (l.images (log_disk found.value)) → log.flushed ≡ flushed_to start (at lists log_lock)
      → (now : List (List Entry)) → EngineInvariant start now → IsShort now → LogFollows start now log → IsBeginningOf start (at now log_lock) (log_first left.value) → OthersStand start now log_lock others
      → FitSoFar start lists (LeftWithin start.banks log_lock (parts.Log found) (parts.Log left) others)
  log_in log holds flushed now still few follows begins stand =
      let keeps : KeepsAll log.first log.recs l.images found.value = subst (λ z. KeepsRecords log.first log.recs (log_recs found.value) (log_next found.value) (log_first found.value) z (l.images (log_disk found.value))) (flushed ∙ sym s.flushed_is) holds.keeps in
      let opens : (v : Volume) → LogWithin {L = L} {P = P} {l = l} {p = p} (parts.Log found) (parts.Log left) v → HasFlushed log.first log.recs (log_first left.value) log.flushed v = λ v w.
      subst (λ z. HasFlushed log.first log.recs (log_first left.value) z v) (s.flushed_is ∙ sym flushed) ((moments tells log.first log.recs keeps).each w.at v w.from w.upto w.left) in
      record {
        kept = log;
        follows = holds.is_of;
        flushed = flushed;
        fit = record {
          list = list_fits start lists log kept right.told right.full right.base holds.is_of;
          each = λ c w. image_fits start now log c still right few follows (record {
            log_image = ⊎_elim (λ z. absurd (z.0 refl)) (λ z. record { kept = log_first left.value; opens = opens c.log z.1; forgotten = begins }) w.log;
            states = λ bank low. ⊎_elim (λ z. states_left l p only_now start now still right few tells told bank (others (xact_lock bank)) (stand (xact_lock bank) (omega (arith, low)) z.0) (c.xact bank) z.1)
                (λ z. absurd (log_apart (xact_lock bank) (omega arith) (sym z.0))) (w.xact bank low);
            offsets_are = λ bank low. ⊎_elim (λ z. offsets_left l p only_now start now still right few tells told bank (others (offsets_lock bank)) (stand (offsets_lock bank) (omega (arith, low)) z.0) (c.offsets bank) z.1)
                (λ z. absurd (log_apart (offsets_lock bank) (omega arith) (sym z.0))) (w.offsets bank low);
            members_are = λ bank low. ⊎_elim (λ z. members_left l p only_now start now still right few tells told bank (others (members_lock bank)) (stand (members_lock bank) (omega (arith, low)) z.0) (c.members bank) z.1)
                (λ z. absurd (log_apart (members_lock bank) (omega arith) (sym z.0))) (w.members bank low);
          });
        };
      }

  log_section : (more : Option Entry) → log_lock < length lists → EngineInvariant start (add_more lists log_lock more) → IsLogOf start left.value (at (add_more lists log_lock more) log_lock) → OthersStand start lists log_lock others
      → FitSoFar start lists (LeftWithin start.banks log_lock (parts.Log found) (parts.Log left) others)
  log_section None there still stands stand =
      let held = log_so_far l p only_now start lists kept right short tells told found.value s in
      log_in held.0 held.1 held.2 lists kept short held.1.is_of (may_begin start (at lists log_lock) (log_first left.value) stands.first_is) stand
  log_section (Some e) there still stands stand =
      let held = log_so_far l p only_now start lists kept right short tells told found.value s in
      let now : List (List Entry) = add lists log_lock e in
      let here : at now log_lock ≡ at lists log_lock ++ e ∷ [] = at_here lists log_lock e there in
      let begins : IsBeginningOf start (at now log_lock) (log_first left.value) = may_begin start (at now log_lock) (log_first left.value) stands.first_is in
      ⊎_elim
      (λ (none : MovesNone e).
      log_in held.0 held.1 held.2 lists kept short held.1.is_of (begins_before start (at lists log_lock) e (log_first left.value) none (subst (λ (es : List Entry). IsBeginningOf start es (log_first left.value)) here begins)) stand)
      (λ (same : KeepsRecs e).
      log_in held.0 held.1 held.2 now still (short_still lists log_lock e (log_apart proc_lock (omega arith)) (log_apart multi_lock (omega arith)) short)
      (subst (λ (es : List Entry). LogOf start es held.0) (sym here) ((log_goes_on start (at lists log_lock) held.0 held.1.is_of).stays e same.0 same.1)) begins
      (λ lock low other. subst (λ (es : List Entry). PartStands start lock (others lock) es) (sym (at_else lists log_lock lock e other)) (stand lock low other)))
      (which e e.kind refl)

-- ---- any section

module _ {L P : Type 0} (l : logs.Ghosts L) (p : disks.Ghosts P) (only_now : IsTrue p.tells → (d : P) (c : Pages) → p.left_at d (p.moment d) c → p.images d c) (start : Start) (lists : List (List Entry)) (kept : EngineInvariant start lists) (right : BeganRight start) (short : IsShort lists) where
  by_part : (lock : ℕ) (more : Option Entry) (found left : Part L P l p) → lock < length lists → EngineInvariant start (add_more lists lock more) → PartStands start lock found (at lists lock) → PartStands start lock left (at (add_more lists lock more) lock)
      → PartMoments found left → SectionFits l p start lists lock found left
  by_part lock more (parts.Log found) (parts.Log left) there still stood stands moments tells told others stand =
      subst (λ (n : ℕ). n < length lists → EngineInvariant start (add_more lists n more) → IsLogOf start found.value (at lists n) → IsLogOf start left.value (at (add_more lists n more) n) → OthersStand start lists n others
      → FitSoFar start lists (LeftWithin start.banks n (parts.Log found) (parts.Log left) others)) (sym stood.0)
      (λ inside behind was is rest. log_section l p (only_now told) start lists kept right short tells told found left was moments others more inside behind is rest)
      there still stood.1 stands.1 stand
  by_part lock more (parts.Xact found) (parts.Xact left) there still stood stands moments tells told others stand =
      bank_section l p (only_now told) start lists kept right short tells told lock (parts.Xact found) (parts.Xact left) (log_apart lock (let e = stood.1 in omega (arith, e))) stood moments others stand
  by_part lock more (parts.Subtrans found) (parts.Subtrans left) there still stood stands moments tells told others stand =
      bank_section l p (only_now told) start lists kept right short tells told lock (parts.Subtrans found) (parts.Subtrans left) (log_apart lock (let e = stood.1 in omega (arith, e))) stood moments others stand
  by_part lock more (parts.Offsets found) (parts.Offsets left) there still stood stands moments tells told others stand =
      bank_section l p (only_now told) start lists kept right short tells told lock (parts.Offsets found) (parts.Offsets left) (log_apart lock (let e = stood.1 in omega (arith, e))) stood moments others stand
  by_part lock more (parts.Members found) (parts.Members left) there still stood stands moments tells told others stand =
      bank_section l p (only_now told) start lists kept right short tells told lock (parts.Members found) (parts.Members left) (log_apart lock (let e = stood.1 in omega (arith, e))) stood moments others stand
  by_part lock more found left there still stood stands moments tells told others stand = absurd moments

  pub section_fits : (lock : ℕ) (more : Option Entry) → EngineInvariant start (add_more lists lock more) → (asks : AsksVolume l p start lock lists (add_more lists lock more)) → SectionFits l p start lists lock asks.found asks.left
  section_fits lock more still asks = by_part lock more asks.found asks.left asks.there still asks.stood asks.stands asks.moments
