-- The record of a multixact, and what it leaves.
use Rattle.std.proofs.Common.{Contains, IsTrue, List, None, Option, Some, ap, inl, inr, length, refl, subst, sym, ℕ, ⊎_elim, ◌<◌, ◌∙◌, ◌≡◌, arith}
use Rattle.std.proofs.lemmas.Bool.{false≢true}
use Rattle.notes.specs.Lists.{Grows, at}
use Rattle.tx_events.specs.declared.event.Event.{Event}
use Rattle.tx_events.specs.declared.multi.MultiEvent.{MultiEvent}
use Rattle.tx_events.specs.declared.multi.MultiEvent.TheVariants as multis
use Rattle.tx_events.specs.declared.record.Rec.{Rec}
use Rattle.tx_events.specs.declared.record.Rec.TheVariants as records
use Rattle.tx_events.specs.Running.{open_ids}
use Rattle.tx_core.specs.declared.entry.Entry.{Entry}
use Rattle.tx_core.specs.declared.entry.Kind.TheVariants as kinds
use Rattle.tx_core.specs.declared.entry.Start.{Start}
use Rattle.tx_core.specs.Entries.{IsAppended, event_of, history}
use Rattle.tx_core.specs.Laws.{StaysBase}
use Rattle.tx_core.specs.Locks.{log_lock}
use Rattle.tx_core.specs.MultiEntries.{multi_history, multi_of}
use Rattle.tx_core.specs.StaysDown.{IsUp}
use Rattle.tx_core.proofs.Lasting.{history_grows}
use Rattle.tx_core.proofs.OwnMultis.{done_grows}
use Rattle.tx_core.proofs.Quiet.{multi_record_law}
use Rattle.tx_core.proofs.Rising.{given_more}
use Rattle.tx_core.proofs.Stepping.{appended_cases}
use Rattle.wal_core.specs.Opening.{number_fits}
use Rattle.session_levels.specs.Stands.{Stands}
use Rattle.engine_parts.specs.declared.session.Making.{Making}
use Rattle.engine_parts.specs.declared.session.Session.{Session}
use Rattle.engine_parts.specs.Holds.{Knowledge, Leaves}
use Rattle.engine_parts.specs.Law.{MayKeep}
use Rattle.engine_parts.specs.Makings.{Makes}
use Rattle.engine_parts.specs.Sessions.{IsAt, IsReady, by_at}
use Rattle.engine_parts.proofs.Leaving.{at_left, filed_left, grown_left, history_same, stands_left, unaborted_same}
use Rattle.engine_parts.proofs.Made.{multis_same}
use Rattle.log_sections.specs.MultiRecords.{IsMakingRecord, making_logged, session_logged}
use Rattle.log_sections.proofs.Sections.{append_entry}

-- the record may be appended
pub may_append_multi : (start : Start) (v : Knowledge) (n : ℕ) (s : Session) (rec : Rec) (e : Entry) → IsAt start v n s → IsMakingRecord s.making rec → StaysBase start v.seen rec → IsUp (at v.seen log_lock) → e ≡ append_entry (by_at n s.levels.commands) rec → MayKeep start v.seen log_lock e
may_append_multi start v n s rec e a t base up is = by_making s.making t a.makes
  where
    by_making : (o : Option Making) → IsMakingRecord o rec → Makes start v.seen n o → MayKeep start v.seen log_lock e
    by_making None r m = absurd r
    by_making (Some x) r m =
        subst (MayKeep start v.seen log_lock) (sym (is ∙ ap (append_entry (by_at n s.levels.commands)) r.0)) (λ lists k knows inside whole.
        multi_record_law start v.seen (by_at n s.levels.commands) x.multi x.offset x.members (subst (StaysBase start v.seen) r.0 base) m.pending.given m.pending.before m.pending.full (m.pending.unrecorded r.1) up lists k knows inside whole (a.turns log_lock))

same_record : (a b : Rec) → kinds.Append a ≡ kinds.Append b → a ≡ b
same_record a b q = cc

-- it is neither a commit record nor an abort record
not_commit : (o : Option Making) (rec : Rec) (e : Entry) (top : ℕ) (subs : List ℕ) → IsMakingRecord o rec → e.kind ≡ kinds.Append rec → e.kind ≡ kinds.Append (records.Commit top subs) → ⊥
not_commit None rec e top subs t is k = t
not_commit (Some x) rec e top subs t is k = let z = sym t.0 ∙ same_record rec (records.Commit top subs) (sym is ∙ k) in cc

not_abort : (o : Option Making) (rec : Rec) (e : Entry) (top : ℕ) (subs : List ℕ) → IsMakingRecord o rec → e.kind ≡ kinds.Append rec → e.kind ≡ kinds.Append (records.Abort top subs) → ⊥
not_abort None rec e top subs t is k = t
not_abort (Some x) rec e top subs t is k = let z = sym t.0 ∙ same_record rec (records.Abort top subs) (sym is ∙ k) in cc

-- the multixact is logged
makes_logged : (start : Start) (v w : Knowledge) (n : ℕ) (s : Session) (o : Option Making) (rec : Rec) (e : Entry) → log_lock < length v.seen → e ≡ append_entry (by_at n s.levels.commands) rec → IsMakingRecord o rec → Leaves start log_lock e v w → Makes start v.seen n o → Makes start w.seen n (making_logged o)
makes_logged start v w n s None rec e inside is r l m = absurd r
makes_logged start v w n s (Some x) rec e inside is r l m =
    let grown : Grows v.seen w.seen = grown_left start v w log_lock e inside l in
    let same : multi_history w.seen ≡ multi_history v.seen = multis_same start v w log_lock e (ap multi_of is) inside l in
    let up = given_more start.base (history v.seen) (history w.seen) (history_grows v.seen w.seen grown) in
    let p = m.pending in
    let stands : Contains (at w.seen log_lock) (append_entry (by_at n s.levels.commands) (records.Multi x.multi x.offset x.members)) = subst (Contains (at w.seen log_lock)) (is ∙ ap (append_entry (by_at n s.levels.commands)) r.0) (stands_left start v w log_lock e inside l) in
    record {
      pending = record {
        given = (p.given.0, p.given.1, subst (λ (h : List MultiEvent). Contains h (multis.Gen p.given.0 x.multi x.offset x.members)) (sym same) p.given.2);
        fit = p.fit;
        full = p.full;
        before = λ id c. let b = p.before id c in omega (arith, b, up);
        recorded = λ q. (by_at n s.levels.commands, refl, stands);
        unrecorded = λ q. absurd (false≢true (sym q));
      };
      others = λ multi offset members g.
          ⊎_elim
          (λ d. inl (done_grows start v.seen w.seen n multi offset members grown d))
          inr
          (m.others multi offset members (g.0, g.1, subst (λ (h : List MultiEvent). Contains h (multis.Gen g.0 multi offset members)) same g.2));
    }

pub ready_recorded : (start : Start) (v w : Knowledge) (n n' : ℕ) (s s' : Session) (rec : Rec) (e : Entry) → IsAt start v n s → log_lock < length v.seen → e ≡ append_entry (by_at n s.levels.commands) rec → IsMakingRecord s.making rec → s' ≡ session_logged s → n' ≡ n → Leaves start log_lock e v w → IsReady start w n' s'
ready_recorded start v w n n' s s' rec e a inside is t same number l =
    let kind : e.kind ≡ kinds.Append rec = ap (λ (z : Entry). z.kind) is in
    let still : history w.seen ≡ history v.seen = history_same start v w log_lock e (ap event_of is) inside l in
    subst (λ (z : ℕ × Session). IsReady start w z.0 z.1) (λ j. (sym number j, sym same j))
    (at_left start v w n log_lock s (session_logged s) e a inside (ap (λ (z : Entry). z.by) is) refl l
    (subst (λ (h : List Event). Stands start.base h n s.levels.commands s.levels) (sym still) a.stands)
    (λ q top subs k opened. a.clear q top subs
    (⊎_elim (λ old. old) (λ new. absurd (not_commit s.making rec e top subs t kind new.2)) (appended_cases v.seen log_lock e n (records.Commit top subs) inside (subst (λ (z : List (List Entry)). IsAppended z n (records.Commit top subs)) l.seen k)))
    (sym (ap (open_ids n) still) ∙ opened))
    (λ q. unaborted_same start v w n log_lock s e a inside (λ top subs k. not_abort s.making rec e top subs t kind k) l q)
    (filed_left start v w n log_lock s e a inside l)
    (makes_logged start v w n s s.making rec e inside is t l a.makes))

-- a record of a multixact has no number of its own
pub fits_number : (o : Option Making) (rec : Rec) (number : ℕ) → IsMakingRecord o rec → IsTrue (number_fits number rec)
fits_number None rec number r = absurd r
fits_number (Some x) rec number r = subst (λ (z : Rec). IsTrue (number_fits number z)) (sym r.0) refl
