-- The multixact that a session makes, from its record to its end.
use Rattle.std.proofs.Common.{◌≡◌, ◌≢◌, ⊎_elim, inl, ℕ, Bool, true, false, List, Option, None, Some, IfSome, Contains, Result, Ok, Err, refl, sym, subst, ◌∙◌}
use Rattle.tx_events.proofs.Membership.{contains_has}
use Rattle.tx_events.specs.declared.multi.Member.{Member}
use Rattle.tx_events.specs.declared.multi.MultiEvent.{MultiEvent}
use Rattle.tx_events.specs.declared.multi.MultiEvent.TheVariants as multis
use Rattle.tx_events.specs.declared.record.Rec.{Rec}
use Rattle.tx_events.specs.declared.record.Rec.TheVariants as records
use Rattle.tx_core.specs.declared.entry.Entry.{Entry}
use Rattle.tx_core.specs.declared.entry.Start.{Start}
use Rattle.tx_core.specs.EngineInvariant.{EngineInvariant}
use Rattle.tx_core.specs.Entries.{IsAppended}
use Rattle.tx_core.specs.MembersBeforeOffset.{IsRecorded}
use Rattle.tx_core.specs.MultiEntries.{multi_history}
use Rattle.tx_core.specs.OwnMultis.{IsMultiDone}
use Rattle.tx_core.specs.RecordsFollow.{IsGenOf}
use Rattle.tx_core.proofs.MultiGiven.{one_gen}
use Rattle.tx_core.proofs.Nearness.{multis_are_legal}
use Rattle.engine_parts.specs.declared.session.Making.{Making}
use Rattle.engine_parts.specs.declared.session.Session.{Session}
use Rattle.engine_parts.specs.Holds.{Knowledge}
use Rattle.engine_parts.specs.Makings.{Makes}
use Rattle.engine_parts.specs.Sessions.{MayCall}
use Rattle.log_sections.specs.MultiRecords.{IsMakingRecord, making_logged, session_logged}
use Rattle.tx_events.specs.declared.refusal.Refusal.{Refusal}
use Rattle.multi_store.specs.declared.answers.MultiGiven.{MultiGiven}
use Rattle.multi_sections.specs.Takings.{session_taken}
use Rattle.multi_makes.specs.Pending.{IsLogged, IsPending, IsRecDone, IsRecordedRec}

-- ---- the record

-- one that is logged stays as it is
pub logged_same : (s : Session) (rec : Rec) (b : Bool) → IsPending s.making rec → IsLogged s.making b → b ≡ true → s ≡ session_logged s
logged_same s rec b p l t = λ j. record s { making = sym (of s.making p l) j }
  where
    of : (o : Option Making) → IsPending o rec → IsLogged o b → making_logged o ≡ o
    of None p l = absurd p
    of (Some m) p l = λ j. Some (record m { logged = (sym t ∙ l) j })

pub unlogged_record : (o : Option Making) (rec : Rec) (b : Bool) → IsPending o rec → IsLogged o b → b ≡ false → IsMakingRecord o rec
unlogged_record None rec b p l f = absurd p
unlogged_record (Some m) rec b p l f = (p, sym l ∙ f)

pub pending_some : (o : Option Making) (rec : Rec) → IsPending o rec → o ≢ None
pending_some None rec p q = p
pending_some (Some m) rec p q = absurd cc

pub pending_logged : (o : Option Making) (rec : Rec) → IsPending o rec → IsPending (making_logged o) rec
pending_logged None rec p = absurd p
pending_logged (Some m) rec p = p

-- behind it the record stands
pub recorded_of : (start : Start) (lists : List (List Entry)) (n : ℕ) (o : Option Making) (rec : Rec) → Makes start lists n (making_logged o) → IsPending o rec → IsRecordedRec lists n rec
recorded_of start lists n None rec m p = absurd p
recorded_of start lists n (Some x) rec m p = subst (IsRecordedRec lists n) (sym p) (m.pending.given, m.pending.recorded refl)

pub recorded_is : (lists : List (List Entry)) (n multi offset : ℕ) (members : List Member) (rec : Rec) → rec ≡ records.Multi multi offset members → IsRecordedRec lists n rec → IsRecorded lists n multi offset members
recorded_is lists n multi offset members rec is r =
    let q : IsGenOf lists n multi offset members × IsAppended lists n (records.Multi multi offset members) = subst (IsRecordedRec lists n) is r in
    record { by = q.0.0; own = q.0.1; given = q.0.2; appended = q.1 }

-- ---- the end

pub done_pending : (start : Start) (lists : List (List Entry)) (n : ℕ) (o : Option Making) (rec : Rec) → IsPending o rec → IsRecDone start lists n rec → IfSome o (λ m. IsMultiDone start lists n m.multi m.offset m.members)
done_pending start lists n None rec p d = absurd p
done_pending start lists n (Some m) rec p d = subst (IsRecDone start lists n) p d

-- once it is made whole the session makes none
over : (start : Start) (lists : List (List Entry)) (n : ℕ) (x : Making) → EngineInvariant start lists → IsMultiDone start lists n x.multi x.offset x.members → Makes start lists n (Some x) → Makes start lists n None
over start lists n x k d m = record {
  pending = tt;
  others = λ multi offset members g.
      ⊎_elim inl
      (λ (q : Some x.multi ≡ Some multi). inl (same multi offset members g (let e : x.multi ≡ multi = cc in e)))
      (m.others multi offset members g);
}
  where
    same : (multi offset : ℕ) (members : List Member) → IsGenOf lists n multi offset members → x.multi ≡ multi → IsMultiDone start lists n multi offset members
    same multi offset members g e =
        let h : List MultiEvent = multi_history lists in
        let own = m.pending.given in
        let mine : Contains h (multis.Gen own.0 multi x.offset x.members) = subst (λ z. Contains h (multis.Gen own.0 z x.offset x.members)) e own.2 in
        let both : multis.Gen own.0 multi x.offset x.members ≡ multis.Gen g.0 multi offset members = one_gen start.base own.0 g.0 multi x.offset offset x.members members h (multis_are_legal start lists k) (contains_has h (multis.Gen own.0 multi x.offset x.members) mine) (contains_has h (multis.Gen g.0 multi offset members) g.2) in
        let at : x.offset ≡ offset = cc in
        let ms : x.members ≡ members = cc in
        subst (λ (z : (ℕ × ℕ) × List Member). IsMultiDone start lists n z.0.0 z.0.1 z.1) (λ j. ((e j, at j), ms j)) d

pub makes_over : (start : Start) (lists : List (List Entry)) (n : ℕ) (o : Option Making) (rec : Rec) → EngineInvariant start lists → IsPending o rec → IsRecDone start lists n rec → Makes start lists n o → Makes start lists n None
makes_over start lists n None rec k p d m = absurd p
makes_over start lists n (Some x) rec k p d m = over start lists n x k (subst (IsRecDone start lists n) p d) m

pub call_over : (start : Start) (v : Knowledge) (n : ℕ) (s : Session) (rec : Rec) → MayCall start v n s → IsPending s.making rec → IsRecDone start v.seen n rec → MayCall start v n (record s { making = None })
call_over start v n s rec m p d =
    let a = m.ready.at in record {
      ready = record {
        at = record {
          base = a.base;
          before = a.before;
          kept = a.kept;
          name = a.name;
          known = a.known;
          wide = a.wide;
          turns = a.turns;
          stands = a.stands;
          clear = a.clear;
          unaborted = a.unaborted;
          filed = a.filed;
          makes = makes_over start v.seen n s.making rec a.kept p d a.makes;
        };
        free = m.ready.free;
      };
      stage = m.stage;
    }

-- by the members as they are passed
pub recorded_items : (lists : List (List Entry)) (n multi offset : ℕ) (members items : List Member) (rec : Rec) → rec ≡ records.Multi multi offset members → items ≡ members → IsRecordedRec lists n rec → IsRecorded lists n multi offset items
recorded_items lists n multi offset members items rec is same r = subst (λ (l : List Member). IsRecorded lists n multi offset l) (sym same) (recorded_is lists n multi offset members rec is r)

pub same_logged : (s s' : Session) → s' ≡ session_logged s → s' ≡ record s { making = s'.making }
same_logged s s' q = q ∙ (λ j. record s { making = (sym q j).making })

pub logged_some : (o : Option Making) (rec : Rec) → IsPending o rec → making_logged o ≢ None
logged_some o rec p = pending_some (making_logged o) rec (pending_logged o rec p)

pub same_taken : (s s' : Session) (members : List Member) (result : Result MultiGiven Refusal) → s' ≡ session_taken s members result → s' ≡ record s { making = s'.making }
same_taken s s' members (Ok g) q = q ∙ (λ j. record s { making = (sym q j).making })
same_taken s s' members (Err r) q = q ∙ (λ j. record s { making = (sym q j).making })
