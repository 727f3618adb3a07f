-- What is made of one member.
use Rattle.std.proofs.Common.{Bool, IfErr, IfOk, List, None, Option, Some, [], append-nil, arith, cond, drop, false, length, map, slice_index_or, refl, subst, suc, sym, take, true, zero, ap, ℕ, ⊎_elim, ◌++◌, ◌+◌, ◌<◌, ◌∙◌, ◌∷◌, ◌≡◌, ◌≤◌}
use Rattle.std.proofs.lemmas.List.{length-append, length-map, take-append-drop}
use Rattle.std.proofs.lemmas.List.Elements.{filter_map-append}
use Rattle.std.proofs.lemmas.Slice.Zip.{AllZip-long}
use Rattle.tx_events.specs.declared.multi.Member.{Member}
use Rattle.std.specs.List.{cons_option, filter_map}
use Rattle.tx_events.specs.declared.event.By.{By}
use Rattle.tx_events.specs.declared.refusal.Lock.TheVariants as locks
use Rattle.tx_events.specs.declared.refusal.Refusal.{Refusal}
use Rattle.tx_events.specs.declared.refusal.Refusal.TheVariants as refusals
use Rattle.tx_events.specs.Visible.{is_visible}
use Rattle.tx_model.specs.declared.command.Pair.{Pair}
use Rattle.tx_model.specs.declared.reply.MemberVerdict.{MemberVerdict}
use Rattle.tx_model.specs.declared.reply.Verdict.TheVariants as verdicts
use Rattle.tx_core.specs.declared.entry.Entry.{Entry}
use Rattle.tx_core.specs.declared.entry.Kind.{Kind}
use Rattle.tx_core.specs.declared.entry.Kind.TheVariants as kinds
use Rattle.tx_core.specs.declared.entry.Start.{Start}
use Rattle.tx_core.specs.Entries.{history}
use Rattle.bank_stores.specs.declared.slot.Slot.{Slot}
use Rattle.bank_sections.specs.Faults.{IsBankFault, IsSubtransFault}
use Rattle.engine_parts.specs.Adding.{Adds, IsPlain, MayFault, MayMeet}
use Rattle.engine_parts.proofs.Adding.{adds_wider}
use Rattle.session_levels.specs.declared.session.RegisteredSnapshot.{RegisteredSnapshot}
use Rattle.xact_reads.specs.Multis.{AreJudged, IsJudgedNormal, IsVerdictOn, JudgesSlot, judged_refusal, pair_in, stored_member}
use Rattle.xact_reads.specs.Readings.{IsStateUnread, IsUnread}
use Rattle.xact_reads.proofs.Judging.{carried_now, one_more}

pub verdict_shown : (start : Start) (lists : List (List Entry)) (place id : ℕ) (shown : Bool) → shown ≡ is_visible start.committed (take place (history lists)) id → IsVerdictOn start lists place (Some id) (cond shown verdicts.Visible verdicts.Hidden)
verdict_shown start lists place id true e = sym e
verdict_shown start lists place id false e = sym e

-- ---- where nothing was read of it

old_plain : (o : ℕ) (lock : ℕ) (kind : Kind) → MayMeet (refusals.TooOld o) lock kind → IsPlain lock kind
old_plain o lock (kinds.Append rec) m = m
old_plain o lock (kinds.Flush to) m = m
old_plain o lock (kinds.Forget number) m = m
old_plain o lock (kinds.LogFault asked count) m = let no : refusals.TooOld o ≡ refusals.LogFault = m.1 in absurd cc
old_plain o lock (kinds.Fault callers changes cut count) m = let no : refusals.TooOld o ≡ refusals.DiskFault m.0 = m.2 in absurd cc
old_plain o lock (kinds.Cut page) m = m
old_plain o lock _ m = tt

pub judged_adds : (by : By) (a b : List (List Entry)) (r : Refusal) → Adds by (MayMeet r) a b → Adds by (MayFault (judged_refusal r)) a b
judged_adds by a b (refusals.TooOld o) d = adds_wider by (MayMeet (refusals.TooOld o)) IsPlain a b (old_plain o) d
judged_adds by a b r d = d

pub judged_said : (start : Start) (lists : List (List Entry)) (by : By) (place id : ℕ) (r : Refusal) → IsUnread start lists by id r → IfOk (judged_refusal r) (IsVerdictOn start lists place (Some id))
judged_said start lists by place id (refusals.TooOld o) u = ⊎_elim
    (λ (q : IsStateUnread start lists by id (refusals.TooOld o)). (o, carried_now start lists o q.0, q.1))
    (λ (q : IsSubtransFault lists by (refusals.TooOld o)). absurd q)
    u
judged_said start lists by place id r u = tt

pub judged_fault : (start : Start) (lists : List (List Entry)) (by : By) (id : ℕ) (r : Refusal) → IsUnread start lists by id r → IfErr (judged_refusal r) (IsBankFault lists by)
judged_fault start lists by id (refusals.TooOld o) u = tt
judged_fault start lists by id (refusals.DiskFault (locks.Xact bank)) u = ⊎_elim (λ (q : IsStateUnread start lists by id (refusals.DiskFault (locks.Xact bank))). q) (λ (q : IsSubtransFault lists by (refusals.DiskFault (locks.Xact bank))). absurd q) u
judged_fault start lists by id (refusals.DiskFault (locks.Subtrans bank)) u = ⊎_elim (λ (q : IsStateUnread start lists by id (refusals.DiskFault (locks.Subtrans bank))). absurd q) (λ (q : IsSubtransFault lists by (refusals.DiskFault (locks.Subtrans bank))). q) u
judged_fault start lists by id r u = ⊎_elim (λ (q : IsStateUnread start lists by id r). absurd q) (λ (q : IsSubtransFault lists by r). absurd q) u

-- ---- slot by slot

take_one : (xs : List Slot) (i : ℕ) (d : Slot) → i < length xs → take (suc i) xs ≡ take i xs ++ slice_index_or xs i d ∷ []
take_one [] i d lt = absurd (omega arith)
take_one (x ∷ xs) zero d lt = refl
take_one (x ∷ xs) (suc i) d lt = ap (λ (t : List Slot). x ∷ t) (take_one xs i d (omega arith))

pub next_place : (xs : List Slot) (i : ℕ) (d : Slot) → i < length xs → take (i + 1) xs ≡ take i xs ++ slice_index_or xs i d ∷ []
next_place xs i d lt = let one : i + 1 ≡ suc i = omega arith in ap (λ n. take n xs) one ∙ take_one xs i d lt

pub judged_slot : (start : Start) (lists : List (List Entry)) (k : RegisteredSnapshot) (slots : List Slot) (slot : Slot) (old new : List MemberVerdict) → AreJudged start lists k (filter_map pair_in slots) old → JudgesSlot start lists k (pair_in slot) old new → AreJudged start lists k (filter_map pair_in (slots ++ slot ∷ [])) new
judged_slot start lists k slots slot old new before one =
    subst (λ (t : List Pair). AreJudged start lists k t new) (sym (filter_map-append pair_in slots (slot ∷ []))) (by_pair (pair_in slot) refl one)
  where
    by_pair : (o : Option Pair) → pair_in slot ≡ o → JudgesSlot start lists k o old new → AreJudged start lists k (filter_map pair_in slots ++ filter_map pair_in (slot ∷ [])) new
    by_pair None is j =
        let none : filter_map pair_in (slot ∷ []) ≡ [] = ap (λ (o : Option Pair). cons_option o []) is in
        subst (λ (t : List Pair). AreJudged start lists k (filter_map pair_in slots ++ t) new) (sym none)
        (subst (λ (t : List Pair). AreJudged start lists k t new) (sym (append-nil (filter_map pair_in slots))) (subst (λ (vs : List MemberVerdict). AreJudged start lists k (filter_map pair_in slots) vs) (sym j) before))
    by_pair (Some pair) is j =
        let some : filter_map pair_in (slot ∷ []) ≡ pair ∷ [] = ap (λ (o : Option Pair). cons_option o []) is in
        subst (λ (t : List Pair). AreJudged start lists k (filter_map pair_in slots ++ t) new) (sym some)
        (subst (λ (vs : List MemberVerdict). AreJudged start lists k (filter_map pair_in slots ++ pair ∷ []) vs) (sym j.1) (one_more start lists k (filter_map pair_in slots) old pair j.0 before j.2))

-- ---- the room for them

-- as many verdicts as members were met leave room for the slot here, where all members have room
pub has_room : (start : Start) (lists : List (List Entry)) (k : RegisteredSnapshot) (xs : List Slot) (i : ℕ) (d : Slot) (vs : List MemberVerdict) → i < length xs → length (filter_map pair_in xs) ≤ 64 → AreJudged start lists k (filter_map pair_in (take i xs)) vs
    → length vs + length (filter_map pair_in (slice_index_or xs i d ∷ [])) ≤ 64
has_room start lists k xs i d vs lt fits judged =
    let front = filter_map pair_in (take i xs) in
    let here = filter_map pair_in (slice_index_or xs i d ∷ []) in
    let behind = filter_map pair_in (drop (i + 1) xs) in
    let one : filter_map pair_in (take (i + 1) xs) ≡ front ++ here = ap (filter_map pair_in) (next_place xs i d lt) ∙ filter_map-append pair_in (take i xs) (slice_index_or xs i d ∷ []) in
    let all : (front ++ here) ++ behind ≡ filter_map pair_in xs =
    ap (λ (t : List Pair). t ++ behind) (sym one) ∙ sym (filter_map-append pair_in (take (i + 1) xs) (drop (i + 1) xs)) ∙ ap (filter_map pair_in) (take-append-drop (i + 1) xs) in
    let whole : length (front ++ here) + length behind ≡ length (filter_map pair_in xs) = sym (length-append (front ++ here) behind) ∙ ap (λ (t : List Pair). length t) all in
    let both : length (front ++ here) ≡ length front + length here = length-append front here in
    let long : length vs ≡ length front = AllZip-long (IsJudgedNormal start lists k) front vs judged in
    omega (arith, whole, both, long, fits)

pub few_pairs : (slots : List Slot) (members : List Member) → filter_map pair_in slots ≡ map stored_member members → length members ≤ 64 → length (filter_map pair_in slots) ≤ 64
few_pairs slots members e most = subst (λ n. n ≤ 64) (sym (ap (λ (t : List Pair). length t) e ∙ length-map members stored_member)) most
